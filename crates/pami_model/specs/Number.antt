-- Numbers and bounds in model files.
use Rattle.std.specs.Prelude.{List, ℕ, Option, None, Some, Result, Ok, Err}
use Rattle.pami_frac.specs.BoundText.{bound_outcome}
use Rattle.pami_frac.specs.Decimal.{decimal_outcome}
use Rattle.pami_frac.specs.declared.bound.BoundValue.{BoundValue}
use Rattle.pami_frac.specs.declared.bound.BoundValue.TheVariants as bounds
use Rattle.pami_frac.specs.declared.fault.DecimalFault.{DecimalFault}
use Rattle.pami_frac.specs.declared.fault.DecimalFault.TheVariants as decimals
use Rattle.pami_model.specs.declared.fault.FileKind.{FileKind}
use Rattle.pami_model.specs.declared.fault.FileKind.TheVariants as kinds

abbrev pub judge_by : {A : Type 0} → Result A DecimalFault → Option FileKind
judge_by (Ok v) = None
judge_by (Err decimals.NotANumber) = Some kinds.Number
judge_by (Err decimals.TooWide) = Some kinds.Wide

-- what is wrong with a word as a number
abbrev pub judge_number : List ℕ → Option FileKind
judge_number word = judge_by (decimal_outcome word)

-- what is wrong with a word as a bound
abbrev pub judge_limit : List ℕ → Option FileKind
judge_limit word = judge_by (bound_outcome word)

abbrev pub limit_by : Result BoundValue DecimalFault → BoundValue
limit_by (Ok v) = v
limit_by (Err e) = bounds.Plus

-- the bound that a word spells; of a word that spells none nothing is said
abbrev pub limit_value : List ℕ → BoundValue
limit_value word = limit_by (bound_outcome word)
