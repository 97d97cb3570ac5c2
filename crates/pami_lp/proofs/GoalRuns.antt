-- The objective, run over its items, gives what it gives.
use Rattle.std.proofs.Common.{◌≡◌, ℕ, Bool, true, false, cond, List, [], ◌∷◌, Option, None, Some, Result, Ok, Err, refl, sym, ◌∙◌, length, nat_lt}
use Rattle.pami_algebra.specs.Fraction.{Fraction}
use Rattle.pami_frac.specs.Answers.{then as chain}
use Rattle.pami_model.specs.declared.fault.FileKind.{FileKind}
use Rattle.pami_model.specs.declared.fault.FileKind.TheVariants as kinds
use Rattle.pami_model.specs.Rules.{name_limit}
use Rattle.pami_model.specs.Draft.{Draft}
use Rattle.pami_lp_text.specs.declared.kind.Relation.{Relation}
use Rattle.pami_lp_text.specs.declared.kind.Class.{Class}
use Rattle.pami_lp_text.specs.declared.kind.Class.TheVariants as classes
use Rattle.pami_lp.specs.declared.kind.Place.TheVariants as places
use Rattle.pami_lp.specs.Moves.{is_name_class, is_colon_class}
use Rattle.pami_lp.specs.Values.{coefficient_of, number_of, signed}
use Rattle.pami_lp.specs.Rules.{add_constant, add_cost, stand}
use Rattle.pami_lp.specs.Grammar.{Item, item, mark, head, Turn, Plus, Minus, turn, signs, number_before, label, Part, Named, Alone, part, Later, later, Goal, Nothing, Parts, goal, rows_word}
use Rattle.pami_lp.specs.Meaning.{is_minus, negated, number_in, take_part, take_later, take_goal, take_label}
use Rattle.pami_lp.proofs.Items.{go, runs, one, two, chain_then, chain_same, Kept, state, onward, with_draft, Stays, signs_run}

goal_stays : Stays places.GoalSigned
goal_stays Plus n k c rest = refl
goal_stays Minus n k c rest = refl

first_stays : Stays places.RowFirst
first_stays Plus n k c rest = refl
first_stays Minus n k c rest = refl

middle_stays : (l : Option Relation) → Stays (places.RowMiddle l)
middle_stays l Plus n k c rest = refl
middle_stays l Minus n k c rest = refl

right_stays : (r : Relation) → Stays (places.RowValue r)
right_stays r Plus n k c rest = refl
right_stays r Minus n k c rest = refl

bound_stays : Stays places.BoundSigned
bound_stays Plus n k c rest = refl
bound_stays Minus n k c rest = refl

bound_right_stays : (r : Relation) → Stays (places.BoundValue r)
bound_right_stays r Plus n k c rest = refl
bound_right_stays r Minus n k c rest = refl

-- ---- the objective

abbrev Nameless : Class → Type 0
Nameless c = is_name_class c ≡ false

abbrev Colonless : Class → Type 0
Colonless c = is_colon_class c ≡ false

-- what a name gives behind its number
abbrev goal_named : Bool → Option Fraction → List ℕ → Kept → List Item → Result Draft FileKind
goal_named n k name c rest = chain (stand c.draft name) (λ p. chain (add_cost p.0 p.1 (coefficient_of n k)) (λ d. onward places.GoalTerm (with_draft d c) rest))

abbrev goal_alone : Bool → List ℕ → Kept → List Item → Result Draft FileKind
goal_alone n text c rest = chain (number_of text) (λ v. chain (add_constant c.draft (signed n v)) (λ d. onward places.GoalTerm (with_draft d c) rest))

name_goal_GoalNumber : (n : Bool) (k : Option Fraction) (name : List ℕ) (c : Kept) (rest : List Item) → runs (state places.GoalNumber n k c) (item classes.Name name ∷ rest) ≡ goal_named n k name c rest
name_goal_GoalNumber n k name c rest =
    two (stand c.draft name) (λ p. add_cost p.0 p.1 (coefficient_of n k)) (λ p d. record (state places.GoalNumber n k c) { draft = d; coefficient = None; negative = false }) (λ s. Ok (record s { place = places.GoalTerm })) (λ s. runs s rest)

name_goal_GoalSigned : (n : Bool) (k : Option Fraction) (name : List ℕ) (c : Kept) (rest : List Item) → runs (state places.GoalSigned n k c) (item classes.Name name ∷ rest) ≡ goal_named n k name c rest
name_goal_GoalSigned n k name c rest =
    two (stand c.draft name) (λ p. add_cost p.0 p.1 (coefficient_of n k)) (λ p d. record (state places.GoalSigned n k c) { draft = d; coefficient = None; negative = false }) (λ s. Ok (record s { place = places.GoalTerm })) (λ s. runs s rest)

name_goal_GoalFirst : (n : Bool) (k : Option Fraction) (name : List ℕ) (c : Kept) (rest : List Item) → runs (state places.GoalFirst n k c) (item classes.Name name ∷ rest) ≡ goal_named n k name c rest
name_goal_GoalFirst n k name c rest =
    two (stand c.draft name) (λ p. add_cost p.0 p.1 (coefficient_of n k)) (λ p d. record (state places.GoalFirst n k c) { draft = d; coefficient = None; negative = false }) (λ s. Ok (record s { place = places.GoalTerm })) (λ s. runs s rest)

name_goal_GoalHead : (n : Bool) (k : Option Fraction) (name : List ℕ) (c : Kept) (rest : List Item) → Colonless (head rest) → runs (state places.GoalHead n k c) (item classes.Name name ∷ rest) ≡ goal_named n k name c rest
name_goal_GoalHead n k name c rest h =
    rw h (two (stand c.draft name) (λ p. add_cost p.0 p.1 (coefficient_of n k)) (λ p d. record (state places.GoalHead n k c) { draft = d; coefficient = None; negative = false }) (λ s. Ok (record s { place = places.GoalTerm })) (λ s. runs s rest))

number_goal_GoalSigned : (number : Option (List ℕ)) (n : Bool) (name : List ℕ) (c : Kept) (rest : List Item)
    → runs (state places.GoalSigned n None c) (number_before number (item classes.Name name ∷ rest)) ≡ chain (number_in number) (λ k. goal_named n k name c rest)
number_goal_GoalSigned None n name c rest = name_goal_GoalSigned n None name c rest
number_goal_GoalSigned (Some text) n name c rest =
    one (number_of text) (λ v. record (state places.GoalSigned n None c) { coefficient = Some v }) (λ s. Ok (record s { place = places.GoalNumber })) (λ s. runs s (item classes.Name name ∷ rest))
    ∙ chain_same (number_of text) _ _ (λ v. name_goal_GoalNumber n (Some v) name c rest) ∙ sym (chain_then (number_of text) (λ v. Ok (Some v)) (λ k. goal_named n k name c rest))

alone_goal_GoalSigned : (n : Bool) (text : List ℕ) (c : Kept) (rest : List Item) → Nameless (head rest) → runs (state places.GoalSigned n None c) (item classes.Number text ∷ rest) ≡ goal_alone n text c rest
alone_goal_GoalSigned n text c rest h =
    rw h (two (number_of text) (λ v. add_constant c.draft (signed n v)) (λ v d. record (state places.GoalSigned n None c) { draft = d; negative = false }) (λ s. Ok (record s { place = places.GoalTerm })) (λ s. runs s rest))

number_goal_GoalFirst : (number : Option (List ℕ)) (n : Bool) (name : List ℕ) (c : Kept) (rest : List Item)
    → runs (state places.GoalFirst n None c) (number_before number (item classes.Name name ∷ rest)) ≡ chain (number_in number) (λ k. goal_named n k name c rest)
number_goal_GoalFirst None n name c rest = name_goal_GoalFirst n None name c rest
number_goal_GoalFirst (Some text) n name c rest =
    one (number_of text) (λ v. record (state places.GoalFirst n None c) { coefficient = Some v }) (λ s. Ok (record s { place = places.GoalNumber })) (λ s. runs s (item classes.Name name ∷ rest))
    ∙ chain_same (number_of text) _ _ (λ v. name_goal_GoalNumber n (Some v) name c rest) ∙ sym (chain_then (number_of text) (λ v. Ok (Some v)) (λ k. goal_named n k name c rest))

alone_goal_GoalFirst : (n : Bool) (text : List ℕ) (c : Kept) (rest : List Item) → Nameless (head rest) → runs (state places.GoalFirst n None c) (item classes.Number text ∷ rest) ≡ goal_alone n text c rest
alone_goal_GoalFirst n text c rest h =
    rw h (two (number_of text) (λ v. add_constant c.draft (signed n v)) (λ v d. record (state places.GoalFirst n None c) { draft = d; negative = false }) (λ s. Ok (record s { place = places.GoalTerm })) (λ s. runs s rest))

number_goal_GoalHead : (number : Option (List ℕ)) (n : Bool) (name : List ℕ) (c : Kept) (rest : List Item) → Colonless (head rest)
    → runs (state places.GoalHead n None c) (number_before number (item classes.Name name ∷ rest)) ≡ chain (number_in number) (λ k. goal_named n k name c rest)
number_goal_GoalHead None n name c rest h = name_goal_GoalHead n None name c rest h
number_goal_GoalHead (Some text) n name c rest h =
    one (number_of text) (λ v. record (state places.GoalHead n None c) { coefficient = Some v }) (λ s. Ok (record s { place = places.GoalNumber })) (λ s. runs s (item classes.Name name ∷ rest))
    ∙ chain_same (number_of text) _ _ (λ v. name_goal_GoalNumber n (Some v) name c rest) ∙ sym (chain_then (number_of text) (λ v. Ok (Some v)) (λ k. goal_named n k name c rest))

alone_goal_GoalHead : (n : Bool) (text : List ℕ) (c : Kept) (rest : List Item) → Nameless (head rest) → runs (state places.GoalHead n None c) (item classes.Number text ∷ rest) ≡ goal_alone n text c rest
alone_goal_GoalHead n text c rest h =
    rw h (two (number_of text) (λ v. add_constant c.draft (signed n v)) (λ v d. record (state places.GoalHead n None c) { draft = d; negative = false }) (λ s. Ok (record s { place = places.GoalTerm })) (λ s. runs s rest))

-- what a part gives
abbrev given : Bool → Part → Kept → List Item → Result Draft FileKind
given n p c rest = chain (take_part n p c.draft) (λ d. onward places.GoalTerm (with_draft d c) rest)

named_given : (n : Bool) (ts : List Turn) (number : Option (List ℕ)) (name : List ℕ) (c : Kept) (rest : List Item)
    → chain (number_in number) (λ k. goal_named (negated n ts) k name c rest) ≡ given n (Named (record { turns = ts; number = number; name = name })) c rest
named_given n ts number name c rest =
    sym (chain_then (number_in number) (λ k. chain (stand c.draft name) (λ p. add_cost p.0 p.1 (coefficient_of (negated n ts) k))) (λ d. onward places.GoalTerm (with_draft d c) rest)
    ∙ chain_same (number_in number) _ _ (λ k. chain_then (stand c.draft name) (λ p. add_cost p.0 p.1 (coefficient_of (negated n ts) k)) (λ d. onward places.GoalTerm (with_draft d c) rest)))

alone_given : (n : Bool) (ts : List Turn) (text : List ℕ) (c : Kept) (rest : List Item) → goal_alone (negated n ts) text c rest ≡ given n (Alone ts text) c rest
alone_given n ts text c rest = sym (chain_then (number_of text) (λ v. add_constant c.draft (signed (negated n ts) v)) (λ d. onward places.GoalTerm (with_draft d c) rest))

part_signed : (p : Part) (n : Bool) (c : Kept) (rest : List Item) → Nameless (head rest) → runs (state places.GoalSigned n None c) (part p rest) ≡ given n p c rest
part_signed (Named t) n c rest h =
    signs_run places.GoalSigned goal_stays t.turns n None c _ ∙ number_goal_GoalSigned t.number (negated n t.turns) t.name c rest ∙ named_given n t.turns t.number t.name c rest
part_signed (Alone ts text) n c rest h = signs_run places.GoalSigned goal_stays ts n None c _ ∙ alone_goal_GoalSigned (negated n ts) text c rest h ∙ alone_given n ts text c rest

later_nameless : (ls : List Later) (rest : List Item) → Nameless (head rest) → Nameless (head (later ls rest))
later_nameless [] rest h = h
later_nameless (l ∷ ls) rest h = by l.turn
  where
    by : (t : Turn) → Nameless (turn t)
    by Plus = refl
    by Minus = refl

laters : (ls : List Later) (c : Kept) (rest : List Item) → Nameless (head rest) → onward places.GoalTerm c (later ls rest) ≡ chain (take_later ls c.draft) (λ d. onward places.GoalTerm (with_draft d c) rest)
laters [] c rest h = refl
laters (l ∷ ls) c rest h =
    by l.turn ∙ part_signed l.part (is_minus l.turn) c (later ls rest) (later_nameless ls rest h)
    ∙ chain_same (take_part (is_minus l.turn) l.part c.draft) _ _ (λ d. laters ls (with_draft d c) rest h)
    ∙ sym (chain_then (take_part (is_minus l.turn) l.part c.draft) (λ d. take_later ls d) (λ d. onward places.GoalTerm (with_draft d c) rest))
  where
    by : (t : Turn) → onward places.GoalTerm c (mark (turn t) ∷ part l.part (later ls rest)) ≡ runs (state places.GoalSigned (is_minus t) None c) (part l.part (later ls rest))
    by Plus = refl
    by Minus = refl

part_GoalFirst : (p : Part) (c : Kept) (rest : List Item) → Nameless (head rest) → runs (state places.GoalFirst false None c) (part p rest) ≡ given false p c rest
part_GoalFirst (Named t) c rest h = by t.turns
  where
    by : (ts : List Turn) → runs (state places.GoalFirst false None c) (signs ts (number_before t.number (item classes.Name t.name ∷ rest))) ≡ given false (Named (record { turns = ts; number = t.number; name = t.name })) c rest
    by [] = number_goal_GoalFirst t.number false t.name c rest ∙ named_given false [] t.number t.name c rest
    by (Plus ∷ ts) = signs_run places.GoalSigned goal_stays ts false None c _ ∙ number_goal_GoalSigned t.number (negated false ts) t.name c rest ∙ named_given false (Plus ∷ ts) t.number t.name c rest
    by (Minus ∷ ts) = signs_run places.GoalSigned goal_stays ts true None c _ ∙ number_goal_GoalSigned t.number (negated true ts) t.name c rest ∙ named_given false (Minus ∷ ts) t.number t.name c rest
part_GoalFirst (Alone ts text) c rest h = by ts
  where
    by : (ts : List Turn) → runs (state places.GoalFirst false None c) (signs ts (item classes.Number text ∷ rest)) ≡ given false (Alone ts text) c rest
    by [] = alone_goal_GoalFirst false text c rest h ∙ alone_given false [] text c rest
    by (Plus ∷ ts) = signs_run places.GoalSigned goal_stays ts false None c _ ∙ alone_goal_GoalSigned (negated false ts) text c rest h ∙ alone_given false (Plus ∷ ts) text c rest
    by (Minus ∷ ts) = signs_run places.GoalSigned goal_stays ts true None c _ ∙ alone_goal_GoalSigned (negated true ts) text c rest h ∙ alone_given false (Minus ∷ ts) text c rest

part_GoalHead : (p : Part) (c : Kept) (rest : List Item) → Nameless (head rest) → Colonless (head rest) → runs (state places.GoalHead false None c) (part p rest) ≡ given false p c rest
part_GoalHead (Named t) c rest h k = by t.turns
  where
    by : (ts : List Turn) → runs (state places.GoalHead false None c) (signs ts (number_before t.number (item classes.Name t.name ∷ rest))) ≡ given false (Named (record { turns = ts; number = t.number; name = t.name })) c rest
    by [] = number_goal_GoalHead t.number false t.name c rest k ∙ named_given false [] t.number t.name c rest
    by (Plus ∷ ts) = signs_run places.GoalSigned goal_stays ts false None c _ ∙ number_goal_GoalSigned t.number (negated false ts) t.name c rest ∙ named_given false (Plus ∷ ts) t.number t.name c rest
    by (Minus ∷ ts) = signs_run places.GoalSigned goal_stays ts true None c _ ∙ number_goal_GoalSigned t.number (negated true ts) t.name c rest ∙ named_given false (Minus ∷ ts) t.number t.name c rest
part_GoalHead (Alone ts text) c rest h k = by ts
  where
    by : (ts : List Turn) → runs (state places.GoalHead false None c) (signs ts (item classes.Number text ∷ rest)) ≡ given false (Alone ts text) c rest
    by [] = alone_goal_GoalHead false text c rest h ∙ alone_given false [] text c rest
    by (Plus ∷ ts) = signs_run places.GoalSigned goal_stays ts false None c _ ∙ alone_goal_GoalSigned (negated false ts) text c rest h ∙ alone_given false (Plus ∷ ts) text c rest
    by (Minus ∷ ts) = signs_run places.GoalSigned goal_stays ts true None c _ ∙ alone_goal_GoalSigned (negated true ts) text c rest h ∙ alone_given false (Minus ∷ ts) text c rest

word_nameless : (w : Option (List ℕ)) (rest : List Item) → Nameless (head (rows_word w rest))
word_nameless (Some second) rest = refl
word_nameless None rest = refl

word_term : (w : Option (List ℕ)) (c : Kept) (rest : List Item) → onward places.GoalTerm c (rows_word w rest) ≡ onward places.RowHead c rest
word_term (Some second) c rest = refl
word_term None c rest = refl

later_colonless : (ls : List Later) (w : Option (List ℕ)) (rest : List Item) → Colonless (head (later ls (rows_word w rest)))
later_colonless [] (Some second) rest = refl
later_colonless [] None rest = refl
later_colonless (l ∷ ls) w rest = by l.turn
  where
    by : (t : Turn) → Colonless (turn t)
    by Plus = refl
    by Minus = refl

-- behind the first part of the objective
goal_rest : (p : Part) (ls : List Later) (w : Option (List ℕ)) (c : Kept) (rest : List Item)
    → given false p c (later ls (rows_word w rest)) ≡ chain (take_goal (Parts p ls) c.draft) (λ d. onward places.RowHead (with_draft d c) rest)
goal_rest p ls w c rest =
    chain_same (take_part false p c.draft) _ _ (λ d. laters ls (with_draft d c) (rows_word w rest) (word_nameless w rest) ∙ chain_same (take_later ls d) _ _ (λ e. word_term w (with_draft e c) rest))
    ∙ sym (chain_then (take_part false p c.draft) (λ d. take_later ls d) (λ d. onward places.RowHead (with_draft d c) rest))

goal_first : (g : Goal) (w : Option (List ℕ)) (c : Kept) (rest : List Item) → onward places.GoalFirst c (goal g (rows_word w rest)) ≡ chain (take_goal g c.draft) (λ d. onward places.RowHead (with_draft d c) rest)
goal_first Nothing (Some second) c rest = refl
goal_first Nothing None c rest = refl
goal_first (Parts p ls) w c rest = part_GoalFirst p c (later ls (rows_word w rest)) (later_nameless ls (rows_word w rest) (word_nameless w rest)) ∙ goal_rest p ls w c rest

goal_head : (g : Goal) (w : Option (List ℕ)) (c : Kept) (rest : List Item) → onward places.GoalHead c (goal g (rows_word w rest)) ≡ chain (take_goal g c.draft) (λ d. onward places.RowHead (with_draft d c) rest)
goal_head Nothing (Some second) c rest = refl
goal_head Nothing None c rest = refl
goal_head (Parts p ls) w c rest =
    part_GoalHead p c (later ls (rows_word w rest)) (later_nameless ls (rows_word w rest) (word_nameless w rest)) (later_colonless ls w rest) ∙ goal_rest p ls w c rest

pub objective : (l : Option (List ℕ)) (g : Goal) (w : Option (List ℕ)) (c : Kept) (rest : List Item)
    → onward places.GoalHead c (label l (goal g (rows_word w rest))) ≡ chain (take_label l c.draft) (λ d. chain (take_goal g d) (λ d. onward places.RowHead (with_draft d c) rest))
objective None g w c rest = goal_head g w c rest
objective (Some name) g w c rest = by (nat_lt name_limit (length name))
  where
    by : (b : Bool) → go (chain (cond b (Err kinds.NameLong) (Ok (state places.GoalHead false None c))) (λ s. Ok (record s { place = places.GoalColon }))) (λ s. runs s (mark classes.Colon ∷ goal g (rows_word w rest)))
        ≡ chain (cond b (Err kinds.NameLong) (Ok c.draft)) (λ d. chain (take_goal g d) (λ d. onward places.RowHead (with_draft d c) rest))
    by true = refl
    by false = goal_first g w c rest
