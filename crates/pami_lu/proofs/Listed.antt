-- Vectors from their entries: the whole one, and one with 0 at a place.
use Rattle.std.proofs.Common.{◌≡◌, ℕ, suc, ◌<◌, ◌≤◌, List, [], ◌∷◌, ◌++◌, length, set, drop, refl, sym, ap, ◌∙◌, subst, arith, ⊎_elim, cond, nat_eq, append-nil}
use Rattle.std.proofs.lemmas.Bool.{cases_eq}
use Rattle.std.proofs.lemmas.List.{get_or-set_same, get_or-set_other, drop_all, length-set}
use lib.IntN.{pos}
use Rattle.pami_algebra.specs.Fraction.{Fraction}
use Rattle.pami_algebra.specs.Operations.{of_int}
use Rattle.pami_frac.specs.declared.list.Entry.{Entry}
use Rattle.pami_linear.specs.Lists.{get}
use Rattle.pami_script.specs.Dense.{at, dense, Rising}
use Rattle.pami_script.proofs.Skipped.{at_other}
use Rattle.pami_vec.specs.Entries.{AreEntriesOf}
use Rattle.pami_vec.proofs.Built.{rising_from}
use Rattle.pami_vec.proofs.Scripted.{get_at}
use Rattle.pami_vec.proofs.Turned.{dense_is}
use Rattle.pami_lu.proofs.Those.{eqb_yes, eqb_no}

-- ---- the entries but for one place
abbrev pub entries_but : ℕ → List Entry → List Entry
entries_but p [] = []
entries_but p (e ∷ es) = cond (nat_eq e.place p) (entries_but p es) (e ∷ entries_but p es)

but_same : (p : ℕ) (es : List Entry) → at (entries_but p es) p ≡ of_int (pos 0)
but_same p [] = refl
but_same p (e ∷ es) = ⊎_elim
    (λ (q : e.place ≡ p). ap (λ t. at (cond t (entries_but p es) (e ∷ entries_but p es)) p) (eqb_yes e.place p q) ∙ but_same p es)
    (λ (q : ¬ (e.place ≡ p)). ap (λ t. at (cond t (entries_but p es) (e ∷ entries_but p es)) p) (eqb_no e.place p q) ∙ at_other e (entries_but p es) p q ∙ but_same p es)
    (cases_eq e.place p)

but_other : (p q : ℕ) (es : List Entry) → ¬ (q ≡ p) → at (entries_but p es) q ≡ at es q
but_other p q [] n = refl
but_other p q (e ∷ es) n = ⊎_elim
    (λ (w : e.place ≡ p). ap (λ t. at (cond t (entries_but p es) (e ∷ entries_but p es)) q) (eqb_yes e.place p w) ∙ but_other p q es n ∙ sym (at_other e es q (λ u. n (sym u ∙ w))))
    (λ (w : ¬ (e.place ≡ p)). ap (λ t. at (cond t (entries_but p es) (e ∷ entries_but p es)) q) (eqb_no e.place p w) ∙ ap (cond (nat_eq e.place q) e.value) (but_other p q es n))
    (cases_eq e.place p)

pub but_rising : (p low high : ℕ) (es : List Entry) → Rising low high es → Rising low high (entries_but p es)
but_rising p low high [] r = r
but_rising p low high (e ∷ es) r = ⊎_elim
    (λ (w : e.place ≡ p). subst (λ t. Rising low high (cond t (entries_but p es) (e ∷ entries_but p es))) (sym (eqb_yes e.place p w))
    (rising_from (entries_but p es) (suc e.place) low high (let a = r.0 in omega arith) (but_rising p (suc e.place) high es r.2)))
    (λ (w : ¬ (e.place ≡ p)). subst (λ t. Rising low high (cond t (entries_but p es) (e ∷ entries_but p es))) (sym (eqb_no e.place p w)) (r.0, r.1, but_rising p (suc e.place) high es r.2))
    (cases_eq e.place p)

pub but_dense : (xs : List Fraction) (es : List Entry) (p : ℕ) → AreEntriesOf xs es → dense (length xs) (entries_but p es) ≡ set xs p (of_int (pos 0))
but_dense xs es p a =
    dense_is (length xs) (set xs p (of_int (pos 0))) (entries_but p es) (length-set xs p (of_int (pos 0)))
    (λ q l. ⊎_elim
    (λ (w : q ≡ p). let lp : p < length xs = subst (λ n. n < length xs) w l in ap (at (entries_but p es)) w ∙ but_same p es ∙ sym (ap (get (set xs p (of_int (pos 0)))) w ∙ get_or-set_same xs p (of_int (pos 0)) (of_int (pos 0)) lp))
    (λ (w : ¬ (q ≡ p)). but_other p q es w ∙ sym (get_at xs es q a l) ∙ sym (get_or-set_other xs p q (of_int (pos 0)) (of_int (pos 0)) w))
    (cases_eq q p))

-- the loop that makes them, at its end
pub but_made : (p i : ℕ) (es out : List Entry) → length es ≤ i → entries_but p es ≡ out ++ entries_but p (drop i es) → out ≡ entries_but p es
but_made p i es out l e = sym (e ∙ ap (λ z. out ++ entries_but p z) (drop_all i es l) ∙ append-nil out)
