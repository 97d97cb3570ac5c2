-- The numbers of options are in their ranges.
use Rattle.std.proofs.Common.{◌≡◌, ℕ, ◌≤◌, Bool, true, false, cond, List, [], ◌∷◌, length, Option, None, Some, Result, Ok, Err, refl, sym, arith, nat_le, leb-true, subst, ◌∙◌}
use Rattle.std.specs.Prelude.{◌&&◌, option_and_then, option_map, slice_get, IfOk}
use Rattle.pami_frac.specs.declared.fault.Fault.{Fault}
use Rattle.pami_frac.specs.Answers.{FollowsBy}
use Rattle.pami_frac.specs.Decimal.{are_digits, number_after, before, onward}
use Rattle.pami_method.specs.declared.words.Options.{Options}
use Rattle.pami_method.specs.Walk.{IsOptions}
use Rattle.pami_trial.specs.Transport.{IsSide}
use Rattle.pami_words.specs.declared.command.BadWords.{BadWords}
use Rattle.pami_words.specs.declared.command.Command.{Command}
use Rattle.pami_words.specs.declared.command.Command.TheVariants.{Solve, Check, Trial}
use Rattle.pami_words.specs.declared.item.Item.{Item}
use Rattle.pami_words.specs.declared.item.Item.TheVariants.{Plain, Given}
use Rattle.pami_words.specs.declared.item.Reading.{Reading}
use Rattle.pami_words.specs.declared.item.Reading.TheVariants.{Alone, Opens}
use Rattle.pami_words.specs.declared.table.CommandName.{CommandName}
use Rattle.pami_words.specs.declared.table.CommandName.TheVariants as names
use Rattle.pami_words.specs.declared.table.OptionName.{OptionName}
use Rattle.pami_words.specs.declared.table.OptionName.TheVariants as options
use Rattle.pami_words.specs.declared.table.Takes.{Takes}
use Rattle.pami_words.specs.declared.table.Takes.TheVariants as takes
use Rattle.pami_words.specs.declared.value.FileFormat.{FileFormat}
use Rattle.pami_words.specs.declared.value.Value.{Value}
use Rattle.pami_words.specs.declared.value.Value.TheVariants as values
use Rattle.pami_words.specs.Table.{commands, command_row, command_named, option_row, option_named, is_option, greatest_batch, greatest_refactor, greatest_limit, default_batch, default_refactor, default_limit, greatest_side, greatest_seed}
use Rattle.pami_words.specs.Numbers.{number_in, number_between}
use Rattle.pami_words.specs.Values.{format_named, value_in}
use Rattle.pami_words.specs.Items.{or_bad, is_end, is_plain, is_equals, given, option_valued, option_alone, option_taking, option_with, option_reading, reading_of, in_front, all_plain, last_item, first_item, items_of}
use Rattle.pami_words.specs.Words.{values_of, are_for, word_at, first_value, is_given, number_at, number_or, lp_or, options_asked, asked_by, command_by, command_of, read_outcome, IsInRange}
use Rattle.pami_words.proofs.Steps.{or_bad_some, some_same}

-- ---- one number

at_most : (g : ℕ) (b c : Bool) (v n : ℕ) → cond (b && (c && nat_le v g)) (Some v) None ≡ Some n → n ≤ g
at_most g b c v n e = go b c (nat_le v g) (leb-true v g) e
  where
    go : (b c t : Bool) → (t ≡ true → v ≤ g) → cond (b && (c && t)) (Some v) None ≡ Some n → n ≤ g
    go true true true p e = let q : v ≡ n = cc in let h = p refl in omega arith
    go true true false p e = absurd (cc)
    go true false t p e = absurd (cc)
    go false c t p e = absurd (cc)

at_least : (l m n : ℕ) → cond (nat_le l m) (Some m) None ≡ Some n → (m ≡ n) × (l ≤ n)
at_least l m n e = go (nat_le l m) (leb-true l m) e
  where
    go : (t : Bool) → (t ≡ true → l ≤ m) → cond t (Some m) None ≡ Some n → (m ≡ n) × (l ≤ n)
    go true p e = let q : m ≡ n = cc in let h = p refl in (q, omega arith)
    go false p e = absurd (cc)

between : (l g n : ℕ) (found : Option ℕ) → ((m : ℕ) → found ≡ Some m → m ≤ g) → option_and_then (λ m. cond (nat_le l m) (Some m) None) found ≡ Some n →
    (l ≤ n) × (n ≤ g)
between l g n None small e = absurd (cc)
between l g n (Some m) small e = let h = at_least l m n e in let s : m ≤ g = small m refl in let q : m ≡ n = h.0 in (h.1, omega arith)

number_within : (l g n : ℕ) (text : List ℕ) → number_between l g text ≡ Some n → (l ≤ n) × (n ≤ g)
number_within l g n text e = between l g n (number_in g text) (λ m h. at_most g (are_digits text) (nat_le (length text) 10) (number_after 0 text) m h) e

-- ---- items

-- the value is one of those that an option takes
abbrev IsTaken : Takes → Value → Type 0
IsTaken takes.Nothing v = Unit {0}
IsTaken (takes.Number least greatest) (values.Number n) = (least ≤ n) × (n ≤ greatest)
IsTaken (takes.Number least greatest) values.Nothing = ⊥
IsTaken (takes.Number least greatest) (values.Format f) = ⊥
IsTaken takes.Format v = Unit {0}

abbrev IsTakenBy : Item → Type 0
IsTakenBy (Plain word) = Unit {0}
IsTakenBy (Given option v) = IsTaken (option_row option).takes v

abbrev AreTaken : List Item → Type 0
AreTaken [] = Unit {0}
AreTaken (item ∷ items) = IsTakenBy item × AreTaken items

abbrev OneTaken : Option Item → Type 0
OneTaken None = Unit {0}
OneTaken (Some item) = IsTakenBy item

abbrev AllTaken : Option (List Item) → Type 0
AllTaken None = Unit {0}
AllTaken (Some items) = AreTaken items

abbrev ReadTaken : Option Reading → Type 0
ReadTaken None = Unit {0}
ReadTaken (Some (Alone item)) = IsTakenBy item
ReadTaken (Some (Opens option takes)) = (option_row option).takes ≡ takes

abbrev OneValue : Takes → Option Value → Type 0
OneValue takes None = Unit {0}
OneValue takes (Some v) = IsTaken takes v

number_taken : (least greatest : ℕ) (found : Option ℕ) → ((n : ℕ) → found ≡ Some n → (least ≤ n) × (n ≤ greatest)) →
    OneValue (takes.Number least greatest) (option_map values.Number found)
number_taken least greatest None h = tt
number_taken least greatest (Some n) h = h n refl

format_taken : (found : Option FileFormat) → OneValue takes.Format (option_map values.Format found)
format_taken None = tt
format_taken (Some f) = tt

value_taken : (t : Takes) (text : List ℕ) → OneValue t (value_in t text)
value_taken takes.Nothing text = tt
value_taken (takes.Number least greatest) text =
    number_taken least greatest (number_between least greatest text) (λ n h. number_within least greatest n text h)
value_taken takes.Format text = format_taken (format_named text)

one_taken : (option : OptionName) (t : Takes) (found : Option Value) → (option_row option).takes ≡ t → OneValue t found →
    OneTaken (option_map (λ v. Given option v) found)
one_taken option t None e h = tt
one_taken option t (Some v) e h = subst (λ u. IsTaken u v) (sym e) h

given_taken : (option : OptionName) (t : Takes) (text : List ℕ) → (option_row option).takes ≡ t → OneTaken (given option t text)
given_taken option t text e = one_taken option t (value_in t text) e (value_taken t text)

alone_taken : (item : Option Item) → OneTaken item → ReadTaken (option_map Alone item)
alone_taken None h = tt
alone_taken (Some item) h = h

nothing_taken : (option : OptionName) (rest : List ℕ) → (option_row option).takes ≡ takes.Nothing → ReadTaken (option_alone option rest)
nothing_taken option [] e = subst (λ t. IsTaken t values.Nothing) (sym e) tt
nothing_taken option (equals ∷ value) e = tt

valued_taken : (option : OptionName) (t : Takes) (rest : List ℕ) → (option_row option).takes ≡ t → ReadTaken (option_valued option t rest)
valued_taken option t [] e = e
valued_taken option t (equals ∷ value) e = alone_taken (given option t value) (given_taken option t value e)

taking_taken : (option : OptionName) (t : Takes) (rest : List ℕ) → (option_row option).takes ≡ t → ReadTaken (option_taking option t rest)
taking_taken option takes.Nothing rest e = nothing_taken option rest e
taking_taken option (takes.Number least greatest) rest e = valued_taken option (takes.Number least greatest) rest e
taking_taken option takes.Format rest e = valued_taken option takes.Format rest e

with_taken : (option : Option OptionName) (rest : List ℕ) → ReadTaken (option_with option rest)
with_taken None rest = tt
with_taken (Some option) rest = taking_taken option (option_row option).takes rest refl

reading_taken : (options : List OptionName) (word : List ℕ) → ReadTaken (reading_of options word)
reading_taken options word = go (is_plain word)
  where
    go : (b : Bool) → ReadTaken (cond b (Some (Alone (Plain word))) (option_reading options word))
    go true = tt
    go false = with_taken (option_named options (before is_equals word)) (onward is_equals word)

front_taken : (item : Option Item) (items : Option (List Item)) → OneTaken item → AllTaken items → AllTaken (in_front item items)
front_taken None items h k = tt
front_taken (Some item) None h k = tt
front_taken (Some item) (Some items) h k = (h, k)

plain_taken : (words : List (List ℕ)) → AllTaken (all_plain words)
plain_taken [] = tt
plain_taken ([] ∷ words) = tt
plain_taken ((b ∷ bs) ∷ words) = front_taken (Some (Plain (b ∷ bs))) (all_plain words) tt (plain_taken words)

last_taken : (r : Option Reading) → ReadTaken r → OneTaken (last_item r)
last_taken None h = tt
last_taken (Some (Alone item)) h = h
last_taken (Some (Opens option t)) h = tt

first_taken : (r : Option Reading) (next : List ℕ) (all others : Option (List Item)) → ReadTaken r → AllTaken all → AllTaken others →
    AllTaken (first_item r next all others)
first_taken None next all others h k m = tt
first_taken (Some (Alone item)) next all others h k m = front_taken (Some item) all h k
first_taken (Some (Opens option t)) next all others h k m =
    front_taken (given option t next) others (given_taken option t next h) m

either : (b : Bool) (x y : Option (List Item)) → AllTaken x → AllTaken y → AllTaken (cond b x y)
either true x y h k = h
either false x y h k = k

items_taken : (options : List OptionName) (words : List (List ℕ)) → AllTaken (items_of options words)
items_taken options [] = tt
items_taken options (word ∷ []) = either (is_end word) (Some []) (in_front (last_item (reading_of options word)) (Some [])) tt
    (front_taken (last_item (reading_of options word)) (Some []) (last_taken (reading_of options word) (reading_taken options word)) tt)
items_taken options (word ∷ next ∷ words) =
    either (is_end word) (all_plain (next ∷ words)) (first_item (reading_of options word) next (items_of options (next ∷ words)) (items_of options words))
    (plain_taken (next ∷ words))
    (first_taken (reading_of options word) next (items_of options (next ∷ words)) (items_of options words) (reading_taken options word)
    (items_taken options (next ∷ words)) (items_taken options words))

-- ---- commands

-- a value that is a number is in this range
abbrev IsBetween : ℕ → ℕ → Value → Type 0
IsBetween least greatest values.Nothing = Unit {0}
IsBetween least greatest (values.Number n) = (least ≤ n) × (n ≤ greatest)
IsBetween least greatest (values.Format f) = Unit {0}

abbrev AreBetween : ℕ → ℕ → List Value → Type 0
AreBetween least greatest [] = Unit {0}
AreBetween least greatest (v ∷ vs) = IsBetween least greatest v × AreBetween least greatest vs

taken_between : (least greatest : ℕ) (v : Value) → IsTaken (takes.Number least greatest) v → IsBetween least greatest v
taken_between least greatest values.Nothing h = tt
taken_between least greatest (values.Number n) h = h
taken_between least greatest (values.Format f) h = tt

-- options with the same word take the same
same_takes : (option other : OptionName) → is_option option other ≡ true → (option_row other).takes ≡ (option_row option).takes
same_takes options.Format options.Format e = refl
same_takes options.Batch options.Batch e = refl
same_takes options.Refactor options.Refactor e = refl
same_takes options.Limit options.Limit e = refl
same_takes options.Ranging options.Ranging e = refl
same_takes option other e = absurd (cc)

values_between : (option : OptionName) (least greatest : ℕ) (items : List Item) → (option_row option).takes ≡ takes.Number least greatest → AreTaken items →
    AreBetween least greatest (values_of option items)
values_between option least greatest [] t h = tt
values_between option least greatest (Plain word ∷ items) t h = values_between option least greatest items t h.1
values_between option least greatest (Given other v ∷ items) t h =
    go (is_option option other) (same_takes option other) (values_between option least greatest items t h.1)
  where
    go : (b : Bool) → (b ≡ true → (option_row other).takes ≡ (option_row option).takes) → AreBetween least greatest (values_of option items) →
        AreBetween least greatest (cond b (v ∷ values_of option items) (values_of option items))
    go true same later = (taken_between least greatest v (subst (λ u. IsTaken u v) (same refl ∙ t) h.0), later)
    go false same later = later

head_between : (default least greatest : ℕ) (vs : List Value) → (least ≤ default) × (default ≤ greatest) → AreBetween least greatest vs →
    (least ≤ number_or default (slice_get vs 0)) × (number_or default (slice_get vs 0) ≤ greatest)
head_between default least greatest [] d h = d
head_between default least greatest (values.Nothing ∷ vs) d h = d
head_between default least greatest (values.Number n ∷ vs) d h = h.0
head_between default least greatest (values.Format f ∷ vs) d h = d

options_between : (items : List Item) → AreTaken items → IsOptions (options_asked items)
options_between items h =
    let batch = head_between default_batch 1 greatest_batch (values_of options.Batch items) (omega arith, omega arith)
    (values_between options.Batch 1 greatest_batch items refl h) in
    record {
      some_row = batch.0;
      batch = batch.1;
      refactor = (head_between default_refactor 0 greatest_refactor (values_of options.Refactor items) (omega arith, omega arith)
          (values_between options.Refactor 0 greatest_refactor items refl h)).1;
      limit = (head_between default_limit 0 greatest_limit (values_of options.Limit items) (omega arith, omega arith)
          (values_between options.Limit 0 greatest_limit items refl h)).1;
    }

abbrev OneInRange : Option Command → Type 0
OneInRange None = Unit {0}
OneInRange (Some command) = IsInRange command

solve_in_range : (file : Option (List ℕ)) (lp : List ℕ → Bool) (o : Options) (ranging : Bool) → IsOptions o →
    OneInRange (option_map (λ f. Solve f (lp f) o ranging) file)
solve_in_range None lp o ranging h = tt
solve_in_range (Some file) lp o ranging h = h

check_in_range : (file cert : Option (List ℕ)) (lp : List ℕ → Bool) →
    OneInRange (option_and_then (λ f. option_map (λ c. Check f c (lp f)) cert) file)
check_in_range None cert lp = tt
check_in_range (Some file) None lp = tt
check_in_range (Some file) (Some cert) lp = tt

-- a number of a word is in the range that it was read in
side_within : (place n : ℕ) (items : List Item) → number_at 1 greatest_side place items ≡ Some n → IsSide n
side_within place n items e = go (word_at place items) e
  where
    go : (word : Option (List ℕ)) → option_and_then (number_between 1 greatest_side) word ≡ Some n → IsSide n
    go None e = absurd (cc)
    go (Some text) e = let h = number_within 1 greatest_side n text e in record { some = h.0; most = h.1 }

trial_in_range : (seed sources sinks : Option ℕ) → ((n : ℕ) → sources ≡ Some n → IsSide n) → ((n : ℕ) → sinks ≡ Some n → IsSide n) →
    OneInRange (option_and_then (λ seed. option_and_then (λ sources. option_map (λ sinks. Trial seed sources sinks) sinks) sources) seed)
trial_in_range None sources sinks h k = tt
trial_in_range (Some seed) None sinks h k = tt
trial_in_range (Some seed) (Some m) None h k = tt
trial_in_range (Some seed) (Some m) (Some n) h k = (h m refl, k n refl)

asked_in_range : (name : CommandName) (items : List Item) → AreTaken items → OneInRange (asked_by name items)
asked_in_range names.Solve items h =
    solve_in_range (word_at 0 items) (λ f. lp_or f (first_value options.Format items)) (options_asked items) (is_given options.Ranging items) (options_between items h)
asked_in_range names.Check items h =
    check_in_range (word_at 0 items) (word_at 1 items) (λ f. lp_or f (first_value options.Format items))
asked_in_range names.Trial items h =
    trial_in_range (number_at 0 greatest_seed 0 items) (number_at 1 greatest_side 1 items) (number_at 1 greatest_side 2 items)
    (λ n e. side_within 1 n items e) (λ n e. side_within 2 n items e)

by_in_range : (name : CommandName) (items : List Item) → AreTaken items → OneInRange (command_by name items)
by_in_range name items h = go (are_for (command_row name) items)
  where
    go : (b : Bool) → OneInRange (cond b (asked_by name items) None)
    go true = asked_in_range name items h
    go false = tt

found_in_range : (name : CommandName) (items : Option (List Item)) → AllTaken items → OneInRange (option_and_then (command_by name) items)
found_in_range name None h = tt
found_in_range name (Some items) h = by_in_range name items h

named_in_range : (words : List (List ℕ)) (name : Option CommandName) → OneInRange (option_and_then (command_of words) name)
named_in_range words None = tt
named_in_range words (Some name) = found_in_range name (items_of (command_row name).options words) (items_taken (command_row name).options words)

one_in_range : (found : Option Command) (command : Command) → OneInRange found → or_bad found ≡ Ok command → IsInRange command
one_in_range None command h e = absurd (cc)
one_in_range (Some other) command h e = subst IsInRange (some_same (or_bad_some (Some other) command e)) h

outcome_in_range : (words : List (List ℕ)) (command : Command) → read_outcome words ≡ Ok command → IsInRange command
outcome_in_range [] command e = absurd (cc)
outcome_in_range (word ∷ words) command e =
    one_in_range (option_and_then (command_of words) (command_named commands word)) command (named_in_range words (command_named commands word)) e

pub answer_in_range : (words : List (List ℕ)) (answer : Result Command (Fault BadWords)) → FollowsBy (λ command. command) (read_outcome words) answer →
    IfOk answer IsInRange
answer_in_range words (Ok command) h = outcome_in_range words command h
answer_in_range words (Err fault) h = tt
