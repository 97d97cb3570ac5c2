-- The turns of a drawn batch: behind each there is what is reached, with a row for each place that remains.
use Rattle.std.proofs.Common.{◌≡◌, ℕ, inl, inr, List, [], ◌∷◌, refl, sym, subst}
use Rattle.std.specs.List.{All}
use Rattle.std.proofs.lemmas.List.Elements.{All-nil, All-cons}
use Rattle.pami_theory.specs.Form.{Form}
use Rattle.pami_theory.specs.Choice.{InfeasibleRow}
use Rattle.pami_theory.proofs.Members.{Has}
use Rattle.pami_method.specs.Batch.{Reached, places}
use Rattle.pami_minor.specs.declared.minor.Minor.{Minor}
use Rattle.pami_minor.specs.Fresh.{IsFreshMinor}
use Rattle.pami_minor.specs.Lent.{HasRho}
use Rattle.pami_minor.proofs.Places.{find_fresh}

each_has : (f : Form) (limit : ℕ) (r : Reached) (minor : Minor) (xs : List InfeasibleRow) → IsFreshMinor f limit r minor
    → ((x : InfeasibleRow) → Has xs x → Has r.rows x) → All (λ p. HasRho p minor) (places xs)
each_has f limit r minor [] k h = All-nil (λ p. HasRho p minor)
each_has f limit r minor (x ∷ xs) k h =
    All-cons (λ p. HasRho p minor) x.place (places xs) (inl (find_fresh f r minor.rows.items r.rows x k.rows (h x (inl refl))))
    (each_has f limit r minor xs k (λ y m. h y (inr m)))

-- each place that remains has its row of the inverse
pub rows_lent : (f : Form) (limit : ℕ) (r : Reached) (minor : Minor) (lent : List ℕ) → IsFreshMinor f limit r minor → lent ≡ places r.rows
    → All (λ p. HasRho p minor) lent
rows_lent f limit r minor lent k e = subst (All (λ p. HasRho p minor)) (sym e) (each_has f limit r minor r.rows k (λ x m. m))
