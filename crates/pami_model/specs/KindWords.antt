-- The word of each kind of fault, as a refusal tells it.
use Rattle.std.specs.Prelude.{ℕ, List, codes}
use Rattle.pami_model.specs.declared.fault.FileKind.{FileKind}
use Rattle.pami_model.specs.declared.fault.FileKind.TheVariants as kinds

abbrev pub kind_word : FileKind → List ℕ
kind_word kinds.Byte = codes "byte"
kind_word kinds.Section = codes "section"
kind_word kinds.Order = codes "order"
kind_word kinds.Words = codes "words"
kind_word kinds.Syntax = codes "syntax"
kind_word kinds.RowType = codes "row-type"
kind_word kinds.BoundType = codes "bound-type"
kind_word kinds.Sense = codes "sense"
kind_word kinds.Integer = codes "integer"
kind_word kinds.DuplicateRow = codes "duplicate-row"
kind_word kinds.DuplicateColumn = codes "duplicate-column"
kind_word kinds.DuplicateEntry = codes "duplicate-entry"
kind_word kinds.UnknownRow = codes "unknown-row"
kind_word kinds.UnknownColumn = codes "unknown-column"
kind_word kinds.Number = codes "number"
kind_word kinds.Wide = codes "wide"
kind_word kinds.Infinite = codes "infinite"
kind_word kinds.RangeOnN = codes "range-on-n"
kind_word kinds.Crossed = codes "crossed"
kind_word kinds.NameLong = codes "name-long"
kind_word kinds.TooManyRows = codes "too-many-rows"
kind_word kinds.TooManyColumns = codes "too-many-columns"
kind_word kinds.TooManyEntries = codes "too-many-entries"
kind_word kinds.EndMissing = codes "end-missing"
kind_word kinds.TooLong = codes "too-long"
