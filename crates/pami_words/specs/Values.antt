-- The values that options are given.
use Rattle.std.specs.Prelude.{ℕ, Bool, true, false, List, Option, None, Some, option_map, codes, if◌then◌else◌}
use Rattle.std.specs.Str.{bytes_eq}
use Rattle.pami_words.specs.declared.table.Takes.{Takes}
use Rattle.pami_words.specs.declared.table.Takes.TheVariants as takes
use Rattle.pami_words.specs.declared.value.FileFormat.{FileFormat}
use Rattle.pami_words.specs.declared.value.FileFormat.TheVariants.{Mps, Lp}
use Rattle.pami_words.specs.declared.value.Value.{Value}
use Rattle.pami_words.specs.declared.value.Value.TheVariants as values
use Rattle.pami_words.specs.Numbers.{number_between}

-- the format that a word names
abbrev pub format_named : List ℕ → Option FileFormat
format_named text = if bytes_eq text (codes "mps") then Some Mps else if bytes_eq text (codes "lp") then Some Lp else None

abbrev pub is_lp : FileFormat → Bool
is_lp Mps = false
is_lp Lp = true

-- the value that a text gives an option which takes this
abbrev pub value_in : Takes → List ℕ → Option Value
value_in takes.Nothing text = None
value_in (takes.Number least greatest) text = option_map values.Number (number_between least greatest text)
value_in takes.Format text = option_map values.Format (format_named text)
