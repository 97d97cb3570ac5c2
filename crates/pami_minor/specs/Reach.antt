-- A row that remains behind a pivot, over a program's lists: `column` is the entering variable's and `flips` what the flips
-- change, both by row; `rho_p` is the row of the pivot's place and `pivot` its entry.
use Rattle.std.specs.Prelude.{ℕ, List, Result, Ok}
use Rattle.pami_algebra.specs.Fraction.{Fraction}
use Rattle.pami_frac.specs.Arithmetic.{sub_outcome, div_outcome}
use Rattle.pami_frac.specs.declared.arithmetic.Refused.{Refused}
use Rattle.pami_script.specs.Script.{then, sub_product}
use Rattle.pami_vec.specs.Scripts.{dot_script, take_times_script}
use Rattle.pami_vec.specs.declared.step.Step.{Step}
use Rattle.pami_devex.specs.Weights.{weight_beside}
use Rattle.pami_minor.specs.declared.row.Reached.{Reached}

abbrev pub reach_by : List Fraction → Step → Fraction → List Fraction → ℕ → Reached → Result Reached Refused
reach_by column step pivot rho_p weight_p row =
    then (dot_script row.rho column) (λ alpha.
    then (dot_script row.rho step.flip_column) (λ change.
    then (sub_outcome row.value change) (λ unflipped.
    then (sub_product unflipped step.theta alpha) (λ value.
    then (div_outcome alpha pivot) (λ share.
    then (take_times_script row.rho share rho_p) (λ rho.
    Ok (record { place = row.place; value = value; weight = weight_beside row.weight alpha pivot weight_p; rho = rho })))))))
