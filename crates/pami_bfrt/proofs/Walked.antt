-- The walk from candidate to candidate, with the flips that were made.
use Rattle.std.proofs.Common.{◌≡◌, ℕ, ◌+◌, ◌<◌, List, [], ◌∷◌, ◌++◌, length, drop, get_or, Option, None, Some, Result, Ok, Err, refl, sym, ap, ◌∙◌}
use Rattle.std.specs.Option.{option_map}
use Rattle.std.proofs.lemmas.List.{append_assoc, append-nil, at_drop_more}
use Rattle.pami_algebra.specs.Fraction.{Fraction}
use Rattle.pami_frac.specs.declared.arithmetic.Refused.{Refused}
use Rattle.pami_script.specs.Script.{then}
use Rattle.pami_theory.specs.Order.{ordered}
use Rattle.pami_theory.specs.Ratio.{Entering}
use Rattle.pami_bfrt.specs.Candidates.{comes_before}
use Rattle.pami_bfrt.specs.Walks.{slope_behind, flips_first, passed, walk_over, onward}
use Rattle.pami_bfrt.specs.declared.candidate.Candidate.{Candidate}

pub walk_starts : (s : Result (Option Entering) Refused) → s ≡ onward [] s
walk_starts (Ok None) = refl
walk_starts (Ok (Some e)) = refl
walk_starts (Err r) = refl

more_flips : (vs : List ℕ) (v : ℕ) (s : Result (Option Entering) Refused) → onward vs (then s (λ found. Ok (option_map (flips_first (v ∷ [])) found))) ≡ onward (vs ++ v ∷ []) s
more_flips vs v (Ok None) = refl
more_flips vs v (Ok (Some e)) = ap (λ (flips : List ℕ). Ok (Some (record { variable = e.variable; tau = e.tau; flips = flips }))) (sym (append_assoc vs (v ∷ []) e.flips))
more_flips vs v (Err r) = refl

-- the first of the candidates that are left is looked at
at_first : (cs rest : List Candidate) (c : Candidate) (slope : Fraction) (vs : List ℕ) → ordered comes_before cs ≡ c ∷ ordered comes_before rest →
    onward vs (walk_over (ordered comes_before cs) slope) ≡ onward vs (then (slope_behind c.width c.size slope) (λ left. passed c left (walk_over (ordered comes_before rest))))
at_first cs rest c slope vs e = ap (λ ds. onward vs (walk_over ds slope)) e

pub walk_goes : (cs rest : List Candidate) (c : Candidate) (slope next : Fraction) (vs : List ℕ) (r : Result (Option Entering) Refused) → r ≡ onward vs (walk_over (ordered comes_before cs) slope) → ordered comes_before cs ≡ c ∷ ordered comes_before rest →
    Ok (Some next) ≡ slope_behind c.width c.size slope → r ≡ onward (vs ++ c.variable ∷ []) (walk_over (ordered comes_before rest) next)
walk_goes cs rest c slope next vs r s e f =
    s ∙ at_first cs rest c slope vs e ∙ ap (λ x. onward vs (then x (λ left. passed c left (walk_over (ordered comes_before rest))))) (sym f)
    ∙ more_flips vs c.variable (walk_over (ordered comes_before rest) next)

pub walk_enters : (cs rest : List Candidate) (c : Candidate) (slope : Fraction) (vs : List ℕ) (r : Result (Option Entering) Refused) → r ≡ onward vs (walk_over (ordered comes_before cs) slope) → ordered comes_before cs ≡ c ∷ ordered comes_before rest →
    Ok None ≡ slope_behind c.width c.size slope → r ≡ Ok (Some (record { variable = c.variable; tau = c.ratio; flips = vs }))
walk_enters cs rest c slope vs r s e f =
    s ∙ at_first cs rest c slope vs e ∙ ap (λ x. onward vs (then x (λ left. passed c left (walk_over (ordered comes_before rest))))) (sym f)
    ∙ ap (λ (flips : List ℕ). Ok (Some (record { variable = c.variable; tau = c.ratio; flips = flips }))) (append-nil vs)

-- ---- candidates that are in order already
in_order : (cs : List Candidate) (i : ℕ) (c : Candidate) (slope : Fraction) (vs : List ℕ) → i < length cs → c ≡ get_or cs i c →
    onward vs (walk_over (drop i cs) slope) ≡ onward vs (then (slope_behind c.width c.size slope) (λ left. passed c left (walk_over (drop (i + 1) cs))))
in_order cs i c slope vs h q = ap (λ ds. onward vs (walk_over ds slope)) (at_drop_more (λ ds. ds) cs i c h ∙ ap (λ d. d ∷ drop (i + 1) cs) (sym q))
