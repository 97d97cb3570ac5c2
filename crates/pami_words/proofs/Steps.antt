-- Words one by one: the item in front, and the items of all words.
use Rattle.std.proofs.Common.{◌≡◌, ℕ, ◌-◌, ◌≤◌, false, cond, List, [], ◌∷◌, ◌++◌, length, get_or, take, drop, Option, None, Some, Ok, Err, refl, sym, ap, ◌∙◌, arith, append_assoc}
use Rattle.std.specs.Prelude.{option_and_then}
use Rattle.std.proofs.lemmas.List.{take_rest}
use Rattle.pami_frac.specs.declared.fault.Fault.{Fault}
use Rattle.pami_frac.specs.declared.fault.Fault.TheVariants as faults
use Rattle.pami_frac.specs.Answers.{FollowsBy}
use Rattle.pami_words.specs.declared.command.BadWords.{BadWords}
use Rattle.pami_words.specs.declared.item.Item.{Item}
use Rattle.pami_words.specs.declared.item.Reading.{Reading}
use Rattle.pami_words.specs.declared.item.Reading.TheVariants.{Alone, Opens}
use Rattle.pami_words.specs.declared.table.CommandName.{CommandName}
use Rattle.pami_words.specs.declared.table.OptionName.{OptionName}
use Rattle.pami_words.specs.Table.{commands, command_row, command_named}
use Rattle.pami_words.specs.Items.{or_bad, is_end, given, reading_of, in_front, all_plain, last_item, first_item, items_of}
use Rattle.pami_words.specs.Fronts.{with_words, front, behind}
use Rattle.pami_words.specs.Words.{command_by, command_of, read_outcome}

-- ---- where there is no value

pub some_same : {A : Type 0} {x y : A} → Some x ≡ Some y → x ≡ y
some_same e = cc

-- a value that isn't bad words
pub or_bad_some : {A : Type 0} (x : Option A) (v : A) → or_bad x ≡ Ok v → x ≡ Some v
or_bad_some None v e = absurd (cc)
or_bad_some (Some w) v e = let same : w ≡ v = cc in ap Some same

-- where one is bad words the other is, and an answer stops at either alike
pub stops_too : {A B C D : Type 0} (seen : C → A) (shown : D → B) (x : Option A) (y : Option B) (fault : Fault BadWords) → (x ≡ None → y ≡ None) →
    FollowsBy seen (or_bad x) (Err fault) → FollowsBy shown (or_bad y) (Err fault)
stops_too seen shown None y (faults.Named e) none h = ap or_bad (none refl) ∙ bad e h
  where
    bad : {A B : Type 0} (e : BadWords) → or_bad {A = A} None ≡ Err e → or_bad {A = B} None ≡ Err e
    bad e h = cc
stops_too seen shown (Some v) y (faults.Named e) none h = absurd (cc)
stops_too seen shown x y faults.OutOfMemory none h = tt

-- ---- the item in front

-- an item in front of those of the words behind it
abbrev pub goes_on : List OptionName → Option (Item × List (List ℕ)) → Option (List Item)
goes_on options None = None
goes_on options (Some (item, words)) = in_front (Some item) (items_of options words)

last_is : (options : List OptionName) (r : Option Reading) → in_front (last_item r) (Some []) ≡ goes_on options (front r [])
last_is options None = refl
last_is options (Some (Alone item)) = refl
last_is options (Some (Opens option takes)) = refl

given_is : (options : List OptionName) (words : List (List ℕ)) (item : Option Item) →
    in_front item (items_of options words) ≡ goes_on options (with_words words item)
given_is options words None = refl
given_is options words (Some item) = refl

first_is : (options : List OptionName) (next : List ℕ) (words : List (List ℕ)) (r : Option Reading) →
    first_item r next (items_of options (next ∷ words)) (items_of options words) ≡ goes_on options (front r (next ∷ words))
first_is options next words None = refl
first_is options next words (Some (Alone item)) = refl
first_is options next words (Some (Opens option takes)) = given_is options words (given option takes next)

items_are : (options : List OptionName) (word : List ℕ) (later : List (List ℕ)) → is_end word ≡ false →
    items_of options (word ∷ later) ≡ goes_on options (front (reading_of options word) later)
items_are options word [] e = ap (λ b. cond b (Some []) (in_front (last_item (reading_of options word)) (Some []))) e
    ∙ last_is options (reading_of options word)
items_are options word (next ∷ words) e =
    ap (λ b. cond b (all_plain (next ∷ words)) (first_item (reading_of options word) next (items_of options (next ∷ words)) (items_of options words))) e
    ∙ first_is options next words (reading_of options word)

behind_front : (items : List Item) (item : Item) (more : Option (List Item)) → behind items (in_front (Some item) more) ≡ behind (items ++ item ∷ []) more
behind_front items item None = refl
behind_front items item (Some others) = ap Some (sym (append_assoc items (item ∷ []) others))

-- ---- the words behind a command

first_of : (rest : List (List ℕ)) (word : List ℕ) → 1 ≤ length rest → word ≡ get_or rest 0 word → rest ≡ word ∷ drop 1 rest
first_of [] word h e = absurd (omega arith)
first_of (w ∷ ws) word h e = ap (λ x. x ∷ ws) (sym e)

pub front_of : (rest : List (List ℕ)) (word : List ℕ) → 1 ≤ length rest → word ≡ get_or rest 0 word → rest ≡ word ∷ take (length rest - 1) (drop 1 rest)
front_of rest word h e = first_of rest word h e ∙ ap (λ ws. word ∷ ws) (sym (take_rest rest 1))

module _ (options : List OptionName) (words rest : List (List ℕ)) (word : List ℕ) (items : List Item)
    (so_far : items_of options words ≡ behind items (items_of options rest)) (some : 1 ≤ length rest) (first : word ≡ get_or rest 0 word)
    (goes : is_end word ≡ false) where
  abbrev later : List (List ℕ)
  later = take (length rest - 1) (drop 1 rest)

  in_all : items_of options words ≡ behind items (goes_on options (front (reading_of options word) later))
  in_all = so_far ∙ ap (λ ws. behind items (items_of options ws)) (front_of rest word some first) ∙ ap (behind items) (items_are options word later goes)

  -- no item stands in front
  pub item_stops : front (reading_of options word) later ≡ None → items_of options words ≡ None
  item_stops e = in_all ∙ ap (λ f. behind items (goes_on options f)) e

  -- this item does
  pub item_goes : (item : Item) (others : List (List ℕ)) → front (reading_of options word) later ≡ Some (item, others) →
      items_of options words ≡ behind (items ++ item ∷ []) (items_of options others)
  item_goes item others e = in_all ∙ ap (λ f. behind items (goes_on options f)) e ∙ behind_front items item (items_of options others)

-- ---- all words

pub command_in : (words : List (List ℕ)) (word : List ℕ) (name : CommandName) → 1 ≤ length words → word ≡ get_or words 0 word →
    command_named commands word ≡ Some name →
    read_outcome words ≡ or_bad (command_of (take (length words - 1) (drop 1 words)) name)
command_in words word name some first named =
    ap read_outcome (front_of words word some first) ∙ ap (λ found. or_bad (option_and_then (command_of (take (length words - 1) (drop 1 words))) found)) named

pub command_stops : (words : List (List ℕ)) (name : CommandName) → items_of (command_row name).options words ≡ None → command_of words name ≡ None
command_stops words name e = ap (option_and_then (command_by name)) e

pub command_goes : (words : List (List ℕ)) (name : CommandName) (items : List Item) → items_of (command_row name).options words ≡ Some items →
    command_of words name ≡ command_by name items
command_goes words name items e = ap (option_and_then (command_by name)) e
