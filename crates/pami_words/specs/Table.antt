-- The table of words: the commands, the options, and how each is called.
use Rattle.std.specs.Prelude.{ℕ, Bool, List, [], ◌∷◌, Option, None, Some, codes, if◌then◌else◌}
use Rattle.std.specs.Str.{bytes_eq}
pub use Rattle.pami_method.specs.Walk.{greatest_batch, greatest_refactor, greatest_limit}
pub use Rattle.pami_trial.specs.Transport.{greatest_side}
use Rattle.pami_words.specs.declared.table.CommandName.{CommandName}
use Rattle.pami_words.specs.declared.table.CommandName.TheVariants.{Solve, Check, Trial}
use Rattle.pami_words.specs.declared.table.OptionName.{OptionName}
use Rattle.pami_words.specs.declared.table.OptionName.TheVariants.{Format, Batch, Refactor, Limit, Ranging}
use Rattle.pami_words.specs.declared.table.Takes.{Takes}
use Rattle.pami_words.specs.declared.table.Takes.TheVariants as takes

-- the most rows of a batch, the most pivots that a factor is kept for, and the limit of pivots, where none is given
abbrev pub default_batch : ℕ
default_batch = 4

abbrev pub default_refactor : ℕ
default_refactor = 16

abbrev pub default_limit : ℕ
default_limit = 100000

-- the greatest seed of a trial
abbrev pub greatest_seed : ℕ
greatest_seed = 4294967295

-- how a command is called: its word, how many plain words it takes, and the options that it has
pub record CommandRow : Type 0 where
  pub word : List ℕ
  pub plain : ℕ
  pub options : List OptionName

-- how an option is given: its word, and what follows it
pub record OptionRow : Type 0 where
  pub word : List ℕ
  pub takes : Takes

-- ---- the rows

-- all commands
abbrev pub commands : List CommandName
commands = Solve ∷ Check ∷ Trial ∷ []

-- the row of a command
abbrev pub command_row : CommandName → CommandRow
command_row Solve = record { word = codes "solve"; plain = 1; options = Format ∷ Batch ∷ Refactor ∷ Limit ∷ Ranging ∷ [] }
command_row Check = record { word = codes "check"; plain = 2; options = Format ∷ [] }
command_row Trial = record { word = codes "trial"; plain = 3; options = [] }

-- the row of an option
abbrev pub option_row : OptionName → OptionRow
option_row Format = record { word = codes "--format"; takes = takes.Format }
option_row Batch = record { word = codes "--batch"; takes = takes.Number 1 greatest_batch }
option_row Refactor = record { word = codes "--refactor"; takes = takes.Number 0 greatest_refactor }
option_row Limit = record { word = codes "--limit"; takes = takes.Number 0 greatest_limit }
option_row Ranging = record { word = codes "--ranging"; takes = takes.Nothing }

-- ---- rows by their words

-- the first of these commands that has this word
abbrev pub command_named : List CommandName → List ℕ → Option CommandName
command_named [] word = None
command_named (command ∷ commands) word =
    if bytes_eq (command_row command).word word then Some command else command_named commands word

-- the first of these options that has this word
abbrev pub option_named : List OptionName → List ℕ → Option OptionName
option_named [] word = None
option_named (option ∷ options) word =
    if bytes_eq (option_row option).word word then Some option else option_named options word

-- the same option
abbrev pub is_option : OptionName → OptionName → Bool
is_option option other = bytes_eq (option_row option).word (option_row other).word
