-- The widths of a drawn model fit: its boxes begin at 0.
use Rattle.std.proofs.Common.{◌≡◌, ℕ, suc, ◌*◌, ◌/◌, ◌%◌, Bool, true, false, cond, List, [], ◌∷◌, ◌++◌, map, Option, None, Some, Result, Ok, refl, ap, ◌∙◌}
use Rattle.pami_algebra.specs.Fraction.{Fraction}
use Rattle.pami_algebra.specs.Operations.{is_below}
use Rattle.pami_frac.specs.Arithmetic.{sub_outcome}
use Rattle.pami_frac.specs.declared.arithmetic.Refused.{Refused}
use Rattle.pami_frac.specs.declared.list.Bounds.{Bounds}
use Rattle.pami_frac.proofs.Outcomes.{sub_zero_fits}
use Rattle.pami_script.specs.Script.{then}
use Rattle.pami_method.specs.Task.{refusal}
use Rattle.pami_model.specs.declared.list.Row.{Row}
use Rattle.pami_model.specs.declared.list.Column.{Column}
use Rattle.pami_model_form.specs.ModelForm.{model_form}
use Rattle.pami_form.specs.Widths.{width_script, wide_or, first_wide_from, first_wide}
use Rattle.pami_trial.specs.Draws.{first_state}
use Rattle.pami_trial.specs.Transport.{below, whole, demand, cost, supply, source_row, sink_row, way_column, rows_from, columns_from, trial_model}

-- the width of each fits
abbrev AreFit : List Bounds → Type 0
AreFit [] = Unit {0}
AreFit (l ∷ ls) = (refusal (width_script l) ≡ None) × AreFit ls

none_wide : (v : ℕ) (ls : List Bounds) → AreFit ls → first_wide_from v ls ≡ None
none_wide v [] h = refl
none_wide v (l ∷ ls) h = ap (λ (r : Option Refused). wide_or v r (first_wide_from (suc v) ls)) h.0 ∙ none_wide (suc v) ls h.1

fit_more : (xs ys : List Bounds) → AreFit xs → AreFit ys → AreFit (xs ++ ys)
fit_more [] ys h k = k
fit_more (x ∷ xs) ys h k = (h.0, fit_more xs ys h.1 k)

-- a box from 0
box_fits : (high : Fraction) → refusal (width_script (record { low = Some (whole 0); high = Some high })) ≡ None
box_fits high = go (is_below (whole 0) high)
  where
    go : (b : Bool) → refusal (cond b (then (sub_outcome high (whole 0)) (λ (w : Fraction). Ok (Some w))) (Ok None)) ≡ None
    go true = ap (λ (r : Result Fraction Refused). refusal (then r (λ (w : Fraction). Ok (Some w)))) (sub_zero_fits high)
    go false = refl

ways_fit : (state sources sinks : ℕ) (ways : List ℕ) →
    AreFit (map (λ (column : Column). column.bounds)
    (map (λ way. way_column (cost state sinks way) (supply state sources sinks) sources (way / sinks) (way % sinks)) ways))
ways_fit state sources sinks [] = tt
ways_fit state sources sinks (way ∷ ways) = (box_fits (whole (supply state sources sinks)), ways_fit state sources sinks ways)

sources_fit : (most : ℕ) (sources : List ℕ) (others : List Row) → AreFit (map (λ (row : Row). row.bounds) others) →
    AreFit (map (λ (row : Row). row.bounds) (map (source_row most) sources ++ others))
sources_fit most [] others h = h
sources_fit most (source ∷ sources) others h = (refl, sources_fit most sources others h)

sinks_fit : (state : ℕ) (sinks : List ℕ) → AreFit (map (λ (row : Row). row.bounds) (map (λ sink. sink_row (demand state sink) sink) sinks))
sinks_fit state [] = tt
sinks_fit state (sink ∷ sinks) = (refl, sinks_fit state sinks)

pub trial_fits : (seed sources sinks : ℕ) → first_wide (model_form (trial_model seed sources sinks)).bounds ≡ None
trial_fits seed sources sinks =
    let state = first_state seed in
    none_wide 0 (model_form (trial_model seed sources sinks)).bounds
    (fit_more (map (λ (column : Column). column.bounds) (columns_from state sources sinks)) (map (λ (row : Row). row.bounds) (rows_from state sources sinks))
    (ways_fit state sources sinks (below (sources * sinks)))
    (sources_fit (supply state sources sinks) (below sources) (map (λ sink. sink_row (demand state sink) sink) (below sinks)) (sinks_fit state (below sinks))))
