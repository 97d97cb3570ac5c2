-- What the program reads at the front of words.
use Rattle.std.specs.Prelude.{ℕ, List, [], ◌∷◌, ◌++◌, Option, None, Some, option_map}
use Rattle.pami_words.specs.declared.item.Item.{Item}
use Rattle.pami_words.specs.declared.item.Reading.{Reading}
use Rattle.pami_words.specs.declared.item.Reading.TheVariants.{Alone, Opens}
use Rattle.pami_words.specs.declared.table.OptionName.{OptionName}
use Rattle.pami_words.specs.Items.{given, reading_of}

-- an item, and the words behind it
abbrev pub with_words : List (List ℕ) → Option Item → Option (Item × List (List ℕ))
with_words words item = option_map (λ i. (i, words)) item

-- the item of a word that reads so before these words, and the words behind that item
abbrev pub front : Option Reading → List (List ℕ) → Option (Item × List (List ℕ))
front None later = None
front (Some (Alone item)) later = Some (item, later)
front (Some (Opens option takes)) [] = None
front (Some (Opens option takes)) (next ∷ words) = with_words words (given option takes next)

-- the item at the front of a word and those behind it
abbrev pub item_at_front : List OptionName → List ℕ → List (List ℕ) → Option (Item × List (List ℕ))
item_at_front options word later = front (reading_of options word) later

-- more items behind those that were read
abbrev pub behind : List Item → Option (List Item) → Option (List Item)
behind items more = option_map (λ others. items ++ others) more
