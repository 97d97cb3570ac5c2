-- A builder's refusal, as what is wrong with a model file.
use Rattle.std.specs.Prelude.{Option, None, Some}
use Rattle.pami_frac.specs.declared.fault.Fault.{Fault}
use Rattle.pami_frac.specs.declared.fault.Fault.TheVariants as outcomes
use Rattle.pami_model.specs.declared.fault.BuildFault.{BuildFault}
use Rattle.pami_model.specs.declared.fault.BuildFault.TheVariants as faults
use Rattle.pami_model.specs.declared.fault.FileKind.{FileKind}
use Rattle.pami_model.specs.declared.fault.FileKind.TheVariants as kinds
use Rattle.pami_model.specs.declared.fault.What.TheVariants as what

abbrev pub kind_by : BuildFault → FileKind
kind_by (faults.DuplicateRow earlier) = kinds.DuplicateRow
kind_by (faults.DuplicateColumn earlier) = kinds.DuplicateColumn
kind_by (faults.DuplicateEntry column row) = kinds.DuplicateEntry
kind_by faults.NameTooLong = kinds.NameLong
kind_by (faults.TooMany what.Rows limit) = kinds.TooManyRows
kind_by (faults.TooMany what.Columns limit) = kinds.TooManyColumns
kind_by (faults.TooMany what.Entries limit) = kinds.TooManyEntries

-- a judgement of the builder's
abbrev pub judge_build : Option BuildFault → Option FileKind
judge_build None = None
judge_build (Some fault) = Some (kind_by fault)

-- an answer of the builder's
abbrev pub widened : Fault BuildFault → Fault FileKind
widened (outcomes.Named fault) = outcomes.Named (kind_by fault)
widened outcomes.OutOfMemory = outcomes.OutOfMemory
