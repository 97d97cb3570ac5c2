-- What the words behind a command are: plain words, and options with their values, in any order.
--
-- An option and its value are two words, or one word with `=` between them. Behind the word `--` all words are plain.
-- Nothing is abbreviated.
use Rattle.std.specs.Prelude.{ℕ, Bool, true, false, List, [], ◌∷◌, Option, None, Some, option_map, Result, Ok, Err, codes, if◌then◌else◌, nat_eq}
use Rattle.std.specs.Str.{bytes_eq}
use Rattle.pami_frac.specs.Decimal.{before, onward}
use Rattle.pami_words.specs.declared.command.BadWords.{BadWords}
use Rattle.pami_words.specs.declared.item.Item.{Item}
use Rattle.pami_words.specs.declared.item.Item.TheVariants.{Plain, Given}
use Rattle.pami_words.specs.declared.item.Reading.{Reading}
use Rattle.pami_words.specs.declared.item.Reading.TheVariants.{Alone, Opens}
use Rattle.pami_words.specs.declared.table.OptionName.{OptionName}
use Rattle.pami_words.specs.declared.table.Takes.{Takes}
use Rattle.pami_words.specs.declared.table.Takes.TheVariants.{Nothing, Number, Format}
use Rattle.pami_words.specs.declared.value.Value.TheVariants as values
use Rattle.pami_words.specs.Table.{option_row, option_named}
use Rattle.pami_words.specs.Values.{value_in}

-- bad words where there is no value
abbrev pub or_bad : {A : Type 0} → Option A → Result A BadWords
or_bad None = Err (record {})
or_bad (Some value) = Ok value

-- the word that ends the options
abbrev pub is_end : List ℕ → Bool
is_end word = bytes_eq word (codes "--")

-- a plain word before that: not empty, and without a dash in front unless it is the dash alone
abbrev pub is_plain : List ℕ → Bool
is_plain [] = false
is_plain (b ∷ []) = true
is_plain (b ∷ c ∷ bs) = if nat_eq b 45 then false else true

-- '='
abbrev pub is_equals : ℕ → Bool
is_equals byte = nat_eq byte 61

-- ---- one word by itself

-- an option that takes this, with the value that a text gives it
abbrev pub given : OptionName → Takes → List ℕ → Option Item
given option takes text = option_map (λ v. Given option v) (value_in takes text)

-- an option that takes a value, with what stands behind its word: nothing, or `=` and a value
abbrev pub option_valued : OptionName → Takes → List ℕ → Option Reading
option_valued option takes [] = Some (Opens option takes)
option_valued option takes (equals ∷ value) = option_map Alone (given option takes value)

-- one that takes none
abbrev pub option_alone : OptionName → List ℕ → Option Reading
option_alone option [] = Some (Alone (Given option values.Nothing))
option_alone option (equals ∷ value) = None

abbrev pub option_taking : OptionName → Takes → List ℕ → Option Reading
option_taking option Nothing behind = option_alone option behind
option_taking option (Number least greatest) behind = option_valued option (Number least greatest) behind
option_taking option Format behind = option_valued option Format behind

abbrev pub option_with : Option OptionName → List ℕ → Option Reading
option_with None behind = None
option_with (Some option) behind = option_taking option (option_row option).takes behind

-- a word with a dash in front: up to the first `=` it is the word of one of these options
abbrev pub option_reading : List OptionName → List ℕ → Option Reading
option_reading options word = option_with (option_named options (before is_equals word)) (onward is_equals word)

-- a word that isn't the end of the options
abbrev pub reading_of : List OptionName → List ℕ → Option Reading
reading_of options word = if is_plain word then Some (Alone (Plain word)) else option_reading options word

-- ---- all words

-- an item in front of others, where all are items
abbrev pub in_front : Option Item → Option (List Item) → Option (List Item)
in_front None items = None
in_front (Some item) None = None
in_front (Some item) (Some items) = Some (item ∷ items)

-- words behind the end of the options: all are plain, whatever they begin with, but none is empty
abbrev pub all_plain : List (List ℕ) → Option (List Item)
all_plain [] = Some []
all_plain ([] ∷ words) = None
all_plain ((b ∷ bs) ∷ words) = in_front (Some (Plain (b ∷ bs))) (all_plain words)

-- the last word's item, where it needs no other
abbrev pub last_item : Option Reading → Option Item
last_item None = None
last_item (Some (Alone item)) = Some item
last_item (Some (Opens option takes)) = None

-- a word's item in front of those of all words behind it; or, where the next word is its value, of those behind both
abbrev pub first_item : Option Reading → List ℕ → Option (List Item) → Option (List Item) → Option (List Item)
first_item None next behind behind_next = None
first_item (Some (Alone item)) next behind behind_next = in_front (Some item) behind
first_item (Some (Opens option takes)) next behind behind_next = in_front (given option takes next) behind_next

-- the items of the words behind a command that has these options
abbrev pub items_of : List OptionName → List (List ℕ) → Option (List Item)
items_of options [] = Some []
items_of options (word ∷ []) = if is_end word then Some [] else in_front (last_item (reading_of options word)) (Some [])
items_of options (word ∷ next ∷ words) =
    if is_end word then all_plain (next ∷ words) else
    first_item (reading_of options word) next (items_of options (next ∷ words)) (items_of options words)
