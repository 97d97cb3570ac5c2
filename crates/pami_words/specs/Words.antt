-- Which lists of words are a command, and what it asks.
--
-- The first word is the command, whole. The words behind it are read as items, and the items are then judged: how many
-- plain words the command takes, and which options, each at most once. No word asks for help or the version.
use Rattle.std.specs.Prelude.{ℕ, ◌-◌, Bool, true, ◌&&◌, List, [], ◌∷◌, length, drop, codes, Option, None, Some, option_map, option_and_then, Result, if◌then◌else◌, nat_eq, nat_le, slice_get}
use Rattle.std.specs.Str.{str_eq_ignore_ascii_case}
use Rattle.pami_method.specs.declared.words.Options.{Options}
use Rattle.pami_method.specs.Walk.{IsOptions}
use Rattle.pami_trial.specs.Transport.{IsSide}
use Rattle.pami_words.specs.declared.command.BadWords.{BadWords}
use Rattle.pami_words.specs.declared.command.Command.{Command}
use Rattle.pami_words.specs.declared.command.Command.TheVariants.{Solve, Check, Trial}
use Rattle.pami_words.specs.declared.item.Item.{Item}
use Rattle.pami_words.specs.declared.item.Item.TheVariants.{Plain, Given}
use Rattle.pami_words.specs.declared.table.CommandName.{CommandName}
use Rattle.pami_words.specs.declared.table.CommandName.TheVariants as names
use Rattle.pami_words.specs.declared.table.OptionName.{OptionName}
use Rattle.pami_words.specs.declared.table.OptionName.TheVariants as options
use Rattle.pami_words.specs.declared.value.Value.{Value}
use Rattle.pami_words.specs.declared.value.Value.TheVariants.{Nothing, Number, Format}
use Rattle.pami_words.specs.Values.{is_lp}
use Rattle.pami_words.specs.Numbers.{number_between}
use Rattle.pami_words.specs.Table.{CommandRow, commands, command_row, command_named, is_option, default_batch, default_refactor, default_limit, greatest_seed, greatest_side}
use Rattle.pami_words.specs.Items.{or_bad, items_of}

-- ---- what items are given

-- the plain words
abbrev pub plain_words : List Item → List (List ℕ)
plain_words [] = []
plain_words (Plain word ∷ items) = word ∷ plain_words items
plain_words (Given option value ∷ items) = plain_words items

-- the values that an option is given
abbrev pub values_of : OptionName → List Item → List Value
values_of option [] = []
values_of option (Plain word ∷ items) = values_of option items
values_of option (Given other value ∷ items) =
    if is_option option other then value ∷ values_of option items else values_of option items

-- each of these options is given at most once
abbrev pub are_once : List OptionName → List Item → Bool
are_once [] items = true
are_once (option ∷ options) items = nat_le (length (values_of option items)) 1 && are_once options items

-- the items are those of the row: as many plain words as it takes, and none of its options twice
abbrev pub are_for : CommandRow → List Item → Bool
are_for row items = nat_eq (length (plain_words items)) row.plain && are_once row.options items

-- the plain word at this place among them, and the first value that an option is given
abbrev pub word_at : ℕ → List Item → Option (List ℕ)
word_at place items = slice_get (plain_words items) place

abbrev pub first_value : OptionName → List Item → Option Value
first_value option items = slice_get (values_of option items) 0

-- the option is given
abbrev pub is_given : OptionName → List Item → Bool
is_given option items = nat_le 1 (length (values_of option items))

-- the number that the plain word at this place writes, if it is in this range
abbrev pub number_at : (least greatest place : ℕ) → List Item → Option ℕ
number_at least greatest place items = option_and_then (number_between least greatest) (word_at place items)

-- ---- commands

-- the number that is given, or this one
abbrev pub number_or : ℕ → Option Value → ℕ
number_or default None = default
number_or default (Some Nothing) = default
number_or default (Some (Number number)) = number
number_or default (Some (Format format)) = default

-- the name ends in `.lp`, in letters of any case
abbrev pub is_lp_name : List ℕ → Bool
is_lp_name name = str_eq_ignore_ascii_case (drop (length name - 3) name) (codes ".lp")

-- the format that is given, or that of the name
abbrev pub lp_or : List ℕ → Option Value → Bool
lp_or name None = is_lp_name name
lp_or name (Some Nothing) = is_lp_name name
lp_or name (Some (Number number)) = is_lp_name name
lp_or name (Some (Format format)) = is_lp format

-- the options of a run, each its default where it isn't given
abbrev pub options_asked : List Item → Options
options_asked items = record {
  batch = number_or default_batch (first_value options.Batch items);
  refactor = number_or default_refactor (first_value options.Refactor items);
  limit = number_or default_limit (first_value options.Limit items);
}

-- `solve` takes FILE, its format, the options of its run, and whether the ranges are wanted
abbrev pub solve_asked : List Item → Option Command
solve_asked items =
    option_map (λ file. Solve file (lp_or file (first_value options.Format items)) (options_asked items) (is_given options.Ranging items))
    (word_at 0 items)

-- `check` takes FILE, its format, and CERT, the second of the plain words
abbrev pub check_asked : List Item → Option Command
check_asked items =
    option_and_then (λ file. option_map (λ cert. Check file cert (lp_or file (first_value options.Format items))) (word_at 1 items))
    (word_at 0 items)

-- `trial` takes SEED, how many sources there are, and how many sinks
abbrev pub trial_asked : List Item → Option Command
trial_asked items =
    option_and_then (λ seed. option_and_then (λ sources. option_map (λ sinks. Trial seed sources sinks)
    (number_at 1 greatest_side 2 items)) (number_at 1 greatest_side 1 items)) (number_at 0 greatest_seed 0 items)

-- what a command is asked by the items of its row
abbrev pub asked_by : CommandName → List Item → Option Command
asked_by names.Solve items = solve_asked items
asked_by names.Check items = check_asked items
asked_by names.Trial items = trial_asked items

abbrev pub command_by : CommandName → List Item → Option Command
command_by name items = if are_for (command_row name) items then asked_by name items else None

abbrev pub command_of : List (List ℕ) → CommandName → Option Command
command_of words name = option_and_then (command_by name) (items_of (command_row name).options words)

-- what the words ask, or that they stand in no row of the table
abbrev pub read_outcome : List (List ℕ) → Result Command BadWords
read_outcome [] = or_bad None
read_outcome (word ∷ words) = or_bad (option_and_then (command_of words) (command_named commands word))

-- what is asked is in its range
abbrev pub IsInRange : Command → Type 0
IsInRange (Solve file lp options ranging) = IsOptions options
IsInRange (Check file cert lp) = Unit {0}
IsInRange (Trial seed sources sinks) = IsSide sources × IsSide sinks
