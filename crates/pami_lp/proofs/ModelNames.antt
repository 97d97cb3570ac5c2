-- The names of a model are names of its text, or R1, R2, ..: not empty, and of bytes above the space.
use Rattle.std.proofs.Common.{◌≡◌, ◌<◌, ◌≤◌, ◌+◌, ◌^◌, ◌%◌, ℕ, Bool, true, false, true≢false, cond, not, ◌&&◌, ◌||◌, nat_eq, nat_le, codes, decimal}
use Rattle.std.proofs.Common.{List, [], ◌∷◌, ◌++◌, length, map, fold, Option, None, Some, is_some, refl, sym, ap, subst, ◌∙◌, arith, All}
use Rattle.std.specs.List.{AllByRecursion, flat_map, list_all}
use Rattle.std.proofs.lemmas.Bool.{leb-true, eqb-true}
use Rattle.std.proofs.lemmas.Fmt.{decimal_by_steps}
use Rattle.std.proofs.lemmas.List.Elements.{All-from_recursion}
use Rattle.pami_frac.specs.Decimal.{is_digit, is_point}
use Rattle.pami_model.specs.declared.list.Row.{Row as ModelRow}
use Rattle.pami_model.specs.Contents.{Contents}
use Rattle.pami_model.specs.Draft.{place_of}
use Rattle.pami_model.specs.ModelNames.{IsModelName, HasModelNames}
use Rattle.pami_model.specs.Rules.{names_of_rows, names_of_columns}
use Rattle.pami_model.proofs.ModelNames.{AreModelNames, IsAbove, all_names, finished_names, name_from, names_joined}
use Rattle.pami_lp_text.specs.declared.kind.Class.{Class}
use Rattle.pami_lp_text.specs.declared.kind.Class.TheVariants as classes
use Rattle.pami_lp_text.specs.declared.kind.Relation.TheVariants as relations
use Rattle.pami_lp_text.specs.Classes.{Symbol, class_by, first_text, head_class, is_word, plain_class, sign_class, symbol_of, symbols}
use Rattle.pami_lp_text.specs.Lexeme.{Word, is_letter, is_name, is_name_byte, is_symbol, starts_name, text_words}
use Rattle.pami_lp.specs.Gather.{file_names, goal_names, part_names, rows_from, section_names, side_names, terms_names, with_name}
use Rattle.pami_lp.specs.Grammar.{Bound, Set, From, Between, Freed, File, Further, Goal, Nothing, Parts, Item, Later, Part, Named, Alone, Row, Side}
use Rattle.pami_lp.specs.Grammar.{Right, Left, Both, Number, Term, Terms, Turn, Value, bound, bounds, file, further, goal, item_of, items_of, label}
use Rattle.pami_lp.specs.Grammar.{later, number_before, part, rows, rows_word, section, side, signs, size, term, terms, value}
use Rattle.pami_lp.specs.Lp.{Lp}
use Rattle.pami_lp.specs.Rules.{name_by}
use Rattle.pami_lp.proofs.Gathered.{gathered, few_rows}

-- ---- bytes of names

either : (a b : Bool) {C : Type 0} → (a || b) ≡ true → (a ≡ true → C) → (b ≡ true → C) → C
either true b h f g = f refl
either false b h f g = g h

left_true : (a b : Bool) → (a && b) ≡ true → a ≡ true
left_true true b h = refl
left_true false b h = h

right_true : (a b : Bool) → (a && b) ≡ true → b ≡ true
right_true true b h = h
right_true false b h = absurd (true≢false (sym h))

least : (b low : ℕ) (high : Bool) → 33 ≤ low → (nat_le low b && high) ≡ true → IsAbove b
least b low high at h = let le : low ≤ b = leb-true low b (left_true (nat_le low b) high h) in omega (arith, at, le)

equal : (b c : ℕ) → 33 ≤ c → nat_eq b c ≡ true → IsAbove b
equal b c at h = let e : b ≡ c = eqb-true b c h in omega (arith, at, e)

letter_above : (b : ℕ) → is_letter b ≡ true → IsAbove b
letter_above b h =
    either (nat_le 97 b && nat_le b 122) (nat_le 65 b && nat_le b 90) h (least b 97 (nat_le b 122) (omega arith)) (least b 65 (nat_le b 90) (omega arith))

-- the symbols up to this one
abbrev to_41 : ℕ → Bool
to_41 b = nat_le 33 b && nat_le b 41

abbrev to_44 : ℕ → Bool
to_44 b = to_41 b || nat_eq b 44

abbrev to_47 : ℕ → Bool
to_47 b = to_44 b || nat_eq b 47

abbrev to_59 : ℕ → Bool
to_59 b = to_47 b || nat_eq b 59

abbrev to_63 : ℕ → Bool
to_63 b = to_59 b || nat_eq b 63

abbrev to_64 : ℕ → Bool
to_64 b = to_63 b || nat_eq b 64

abbrev to_95 : ℕ → Bool
to_95 b = to_64 b || nat_eq b 95

abbrev to_96 : ℕ → Bool
to_96 b = to_95 b || nat_eq b 96

symbol_above : (b : ℕ) → is_symbol b ≡ true → IsAbove b
symbol_above b h =
    either (to_96 b) (nat_le 123 b && nat_le b 126) h (λ h.
    either (to_95 b) (nat_eq b 96) h (λ h.
    either (to_64 b) (nat_eq b 95) h (λ h.
    either (to_63 b) (nat_eq b 64) h (λ h.
    either (to_59 b) (nat_eq b 63) h (λ h.
    either (to_47 b) (nat_eq b 59) h (λ h.
    either (to_44 b) (nat_eq b 47) h (λ h.
    either (to_41 b) (nat_eq b 44) h (least b 33 (nat_le b 41) (omega arith)) (equal b 44 (omega arith)))
    (equal b 47 (omega arith))) (equal b 59 (omega arith))) (equal b 63 (omega arith))) (equal b 64 (omega arith))) (equal b 95 (omega arith)))
    (equal b 96 (omega arith))) (least b 123 (nat_le b 126) (omega arith))

start_above : (b : ℕ) → starts_name b ≡ true → IsAbove b
start_above b h = either (is_letter b) (is_symbol b) h (letter_above b) (symbol_above b)

byte_above : (b : ℕ) → is_name_byte b ≡ true → IsAbove b
byte_above b h =
    either (starts_name b || is_digit b) (is_point b) h
    (λ h. either (starts_name b) (is_digit b) h (start_above b) (least b 48 (nat_le b 57) (omega arith)))
    (equal b 46 (omega arith))

bytes_above : (bs : List ℕ) → list_all is_name_byte bs ≡ true → AllByRecursion IsAbove bs
bytes_above [] h = tt
bytes_above (b ∷ bs) h = (byte_above b (left_true _ _ h), bytes_above bs (right_true _ _ h))

name_above : (text : List ℕ) → is_name text ≡ true → IsModelName text
name_above [] h = absurd (true≢false (sym h))
name_above (b ∷ bs) h = name_from b bs (start_above b (left_true _ _ h)) (All-from_recursion IsAbove bs (bytes_above bs (right_true _ _ h)))

-- ---- tokens

abbrev is_named : Class → Bool
is_named classes.Name = true
is_named c = false

-- a text of the class of names is a name
class_named : (text : List ℕ) (first : Bool) (after : List ℕ) → class_by text first after ≡ classes.Name → is_name text ≡ true
class_named text first after h = by (Rattle.pami_lp_text.specs.Lexeme.is_number text) (is_name text) (ap is_named h)
  where
    sign : (a b c d e g : Bool)
        → is_named (cond a (classes.Relation relations.AtMost) (cond b (classes.Relation relations.AtLeast) (cond c (classes.Relation relations.Equal)
        (cond d classes.Plus (cond e classes.Minus (cond g classes.Colon classes.Bad)))))) ≡ false
    sign true b c d e g = refl
    sign false true c d e g = refl
    sign false false true d e g = refl
    sign false false false true e g = refl
    sign false false false false true g = refl
    sign false false false false false true = refl
    sign false false false false false false = refl

    no_sign : is_named (sign_class text) ≡ false
    no_sign = sign (is_word text (codes "<") || is_word text (codes "<=") || is_word text (codes "=<"))
        (is_word text (codes ">") || is_word text (codes ">=") || is_word text (codes "=>"))
        (is_word text (codes "="))
        (is_word text (codes "+")) (is_word text (codes "-")) (is_word text (codes ":"))

    other : Class
    other = cond (first && not (is_word after (codes ":"))) (head_class text after) (plain_class text)

    by : (number name : Bool) → is_named (cond number classes.Number (cond name other (sign_class text))) ≡ true → name ≡ true
    by true name k = absurd (true≢false (sym k))
    by false true k = refl
    by false false k = absurd (true≢false (sym k ∙ no_sign))

-- an item of the class of names has a name for its text
abbrev IsFine : Item → Type 0
IsFine i = i.class ≡ classes.Name → IsModelName i.text

abbrev AreFine : List Item → Type 0
AreFine items = AllByRecursion IsFine items

item_fine : (t : Symbol) → (t.class ≡ classes.Name → IsModelName t.text) → IsFine (item_of t)
item_fine t is h = subst (λ (c : Class). IsModelName (Rattle.pami_lp.specs.Grammar.said c t.text)) (sym h) (is h)

words_fine : (ws : List Word) → AreFine (items_of (symbols ws))
words_fine [] = tt
words_fine (w ∷ ws) =
    (item_fine (symbol_of w (first_text ws)) (λ h. name_above w.text (class_named w.text w.first (first_text ws) h)), words_fine ws)

-- ---- the names in the parts of a file

signs_rest : (ts : List Turn) (rest : List Item) → AreFine (signs ts rest) → AreFine rest
signs_rest [] rest h = h
signs_rest (t ∷ ts) rest h = signs_rest ts rest h.1

number_rest : (o : Option (List ℕ)) (rest : List Item) → AreFine (number_before o rest) → AreFine rest
number_rest None rest h = h
number_rest (Some text) rest h = h.1

term_fine : (t : Term) (rest : List Item) → AreFine (term t rest) → IsModelName t.name × AreFine rest
term_fine t rest h = let n = number_rest t.number _ (signs_rest t.turns _ h) in (n.0 refl, n.1)

further_fine : (fs : List Further) (rest : List Item) → AreFine (further fs rest) → AreModelNames (map (λ (f : Further). f.term.name) fs) × AreFine rest
further_fine [] rest h = (tt, h)
further_fine (f ∷ fs) rest h =
    let one = term_fine f.term (further fs rest) h.1 in
    let more = further_fine fs rest one.1 in
    ((one.0, more.0), more.1)

terms_fine : (ts : Terms) (rest : List Item) → AreFine (terms ts rest) → AreModelNames (terms_names ts) × AreFine rest
terms_fine ts rest h =
    let one = term_fine ts.first (further ts.more rest) h in
    let more = further_fine ts.more rest one.1 in
    ((one.0, more.0), more.1)

value_rest : (v : Value) (rest : List Item) → AreFine (value v rest) → AreFine rest
value_rest v rest h = (signs_rest v.turns (size v.size ∷ rest) h).1

abbrev IsLabel : Option (List ℕ) → Type 0
IsLabel None = Unit {0}
IsLabel (Some name) = IsModelName name

label_fine : (o : Option (List ℕ)) (rest : List Item) → AreFine (label o rest) → IsLabel o × AreFine rest
label_fine None rest h = (tt, h)
label_fine (Some name) rest h = (h.0 refl, h.1.1)

side_fine : (s : Side) (rest : List Item) → AreFine (side s rest) → AreModelNames (side_names s) × AreFine rest
side_fine (Right ts r v) rest h = let t = terms_fine ts _ h in (t.0, value_rest v rest t.1.1)
side_fine (Left v r ts) rest h = terms_fine ts rest (value_rest v _ h).1
side_fine (Both v w ts u) rest h = let t = terms_fine ts _ (value_rest v _ h).1 in (t.0, value_rest u rest t.1.1)

abbrev AreLabels : List Row → Type 0
AreLabels rs = AllByRecursion (λ (r : Row). IsLabel r.label) rs

abbrev names_in : List Row → List (List ℕ)
names_in rs = flat_map (λ (r : Row). side_names r.side) rs

record RowsFine (rs : List Row) (rest : List Item) : Type 0 where
  names : AreModelNames (names_in rs)
  labels : AreLabels rs
  behind : AreFine rest

rows_fine : (rs : List Row) (rest : List Item) → AreFine (rows rs rest) → RowsFine rs rest
rows_fine [] rest h = record { names = tt; labels = tt; behind = h }
rows_fine (r ∷ rs) rest h =
    let l = label_fine r.label _ h in
    let s = side_fine r.side _ l.1 in
    let more = rows_fine rs rest s.1 in
    record { names = names_joined (side_names r.side) (names_in rs) s.0 more.names; labels = (l.0, more.labels); behind = more.behind }

part_fine : (p : Part) (rest : List Item) → AreFine (part p rest) → AreModelNames (part_names p) × AreFine rest
part_fine (Named t) rest h = let one = term_fine t rest h in ((one.0, tt), one.1)
part_fine (Alone ts text) rest h = (tt, (signs_rest ts _ h).1)

abbrev names_later : List Later → List (List ℕ)
names_later ls = flat_map (λ (l : Later). part_names l.part) ls

later_fine : (ls : List Later) (rest : List Item) → AreFine (later ls rest) → AreModelNames (names_later ls) × AreFine rest
later_fine [] rest h = (tt, h)
later_fine (l ∷ ls) rest h =
    let one = part_fine l.part (later ls rest) h.1 in
    let more = later_fine ls rest one.1 in
    (names_joined (part_names l.part) (names_later ls) one.0 more.0, more.1)

goal_fine : (g : Goal) (rest : List Item) → AreFine (goal g rest) → AreModelNames (goal_names g) × AreFine rest
goal_fine Nothing rest h = (tt, h)
goal_fine (Parts p ls) rest h =
    let one = part_fine p (later ls rest) h in
    let more = later_fine ls rest one.1 in
    (names_joined (part_names p) (names_later ls) one.0 more.0, more.1)

rows_word_rest : (o : Option (List ℕ)) (rest : List Item) → AreFine (rows_word o rest) → AreFine rest
rows_word_rest None rest h = h.1
rows_word_rest (Some second) rest h = h.1.1

bound_fine : (b : Bound) (rest : List Item) → AreFine (bound b rest) → IsModelName (Rattle.pami_lp.specs.Gather.bound_name b) × AreFine rest
bound_fine (Set name r v) rest h = (h.0 refl, value_rest v rest h.1.1)
bound_fine (From v r name) rest h = let k = value_rest v _ h in (k.1.0 refl, k.1.1)
bound_fine (Between v w name u) rest h = let k = value_rest v _ h in (k.1.0 refl, value_rest u rest k.1.1.1)
bound_fine (Freed name) rest h = (h.0 refl, h.1.1)

bounds_fine : (bs : List Bound) (rest : List Item) → AreFine (bounds bs rest) → AreModelNames (map Rattle.pami_lp.specs.Gather.bound_name bs)
bounds_fine [] rest h = tt
bounds_fine (b ∷ bs) rest h = let one = bound_fine b (bounds bs rest) h in (one.0, bounds_fine bs rest one.1)

section_fine : (bs : Option (List Bound)) (rest : List Item) → AreFine (section bs rest) → AreModelNames (section_names bs)
section_fine None rest h = tt
section_fine (Some bs) rest h = bounds_fine bs rest h.1

record FileFine (f : File) : Type 0 where
  names : AreModelNames (file_names f)
  labels : AreLabels f.rows

file_fine : (f : File) (rest : List Item) → AreFine (file f rest) → FileFine f
file_fine f rest h =
    let l = label_fine f.label _ h.1 in
    let g = goal_fine f.goal _ l.1 in
    let r = rows_fine f.rows _ (rows_word_rest f.second _ g.1) in
    record {
      names = names_joined (goal_names f.goal) _ g.0 (names_joined (names_in f.rows) (section_names f.bounds) r.names (section_fine f.bounds _ r.behind));
      labels = r.labels;
    }

-- ---- names of a model

once_fine : (names before : List (List ℕ)) → AreModelNames before → AreModelNames names → AreModelNames (fold with_name before names)
once_fine [] before are more = are
once_fine (n ∷ names) before are more = once_fine names (with_name before n) (by (is_some (place_of n before))) more.1
  where
    by : (b : Bool) → AreModelNames (cond b before (before ++ n ∷ []))
    by true = are
    by false = names_joined before (n ∷ []) are (more.0, tt)

decimal_above : (n : ℕ) → n < 2 ^ 64 → AllByRecursion IsAbove (decimal n)
decimal_above = decimal_by_steps (λ n ds. AllByRecursion IsAbove ds) (λ n l. (omega arith, tt)) (λ n ds l h. more ds (48 + n % 10) h (omega arith))
  where
    more : (ds : List ℕ) (d : ℕ) → AllByRecursion IsAbove ds → IsAbove d → AllByRecursion IsAbove (ds ++ d ∷ [])
    more [] d h k = (k, tt)
    more (c ∷ ds) d h k = (h.0, more ds d h.1 k)

name_fine : (k : ℕ) (o : Option (List ℕ)) → k ≤ 256 → IsLabel o → IsModelName (name_by k o)
name_fine k (Some name) few is = is
name_fine k None few is = name_from 82 (decimal (k + 1)) (omega arith) (All-from_recursion IsAbove (decimal (k + 1)) (decimal_above (k + 1) (omega arith)))

rows_named : (k : ℕ) (rs : List Row) → k + length rs ≤ 256 → AreLabels rs → AreModelNames (names_of_rows (rows_from k rs))
rows_named k [] few are = tt
rows_named k (r ∷ rs) few are = (name_fine k r.label (omega arith) are.0, rows_named (k + 1) rs (omega arith) are.1)

rows_count : (k : ℕ) (rs : List Row) → length (rows_from k rs) ≡ length rs
rows_count k [] = refl
rows_count k (r ∷ rs) = let h : length (rows_from (k + 1) rs) ≡ length rs = rows_count (k + 1) rs in omega arith

pub names_are_unbroken : (bytes : List ℕ) (c : Contents) → Lp bytes c → HasModelNames c
names_are_unbroken bytes c is =
    let fine : FileFine is.tree = file_fine is.tree is.rest (subst AreFine is.is (words_fine (text_words bytes))) in
    let g = gathered is.tree is.draft is.gives in
    let n : length is.draft.rows ≡ length is.tree.rows = ap length g.rows ∙ rows_count 0 is.tree.rows in
    let most : length is.draft.rows ≤ 256 = few_rows is.tree is.draft is.gives in
    let rows : AreModelNames (names_of_rows is.draft.rows) =
    subst (λ (rs : List ModelRow). AreModelNames (names_of_rows rs)) (sym g.rows) (rows_named 0 is.tree.rows (omega (arith, n, most)) fine.labels) in
    let columns : AreModelNames (names_of_columns is.draft.columns) = subst AreModelNames (sym g.columns) (once_fine (file_names is.tree) [] tt fine.names) in
    subst HasModelNames (sym is.contents) (record {
      rows = all_names (names_of_rows is.draft.rows) rows;
      columns = subst (All IsModelName) (sym (finished_names is.draft.columns)) (all_names (names_of_columns is.draft.columns) columns);
    })
