-- Judgements: what is wrong, or None where nothing is.
use Rattle.std.specs.Prelude.{Bool, Option, None, Some, if◌then◌else◌}
use Rattle.std.specs.Option.{option_or}

-- this fault, where something is wrong
abbrev pub wrong_if : {E : Type 0} → Bool → E → Option E
wrong_if wrong fault = if wrong then Some fault else None

-- the first of two things that may be wrong
abbrev pub first_of : {E : Type 0} → Option E → Option E → Option E
first_of judged later = option_or judged later
