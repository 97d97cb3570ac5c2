-- A row of the grammar, run over its items, gives what the row gives.
use Rattle.std.proofs.Common.{◌≡◌, ℕ, Bool, true, false, cond, List, [], ◌∷◌, Option, None, Some, Result, Ok, refl, sym, ◌∙◌}
use Rattle.pami_algebra.specs.Fraction.{Fraction}
use Rattle.pami_frac.specs.Answers.{then as chain}
use Rattle.pami_model.specs.declared.fault.FileKind.{FileKind}
use Rattle.pami_model.specs.Draft.{Draft}
use Rattle.pami_lp_text.specs.declared.kind.Relation.{Relation}
use Rattle.pami_lp_text.specs.declared.kind.Class.{Class}
use Rattle.pami_lp_text.specs.declared.kind.Class.TheVariants as classes
use Rattle.pami_lp.specs.declared.kind.Place.TheVariants as places
use Rattle.pami_lp.specs.declared.kind.Role.TheVariants as roles
use Rattle.pami_lp.specs.declared.kind.Move.{Move}
use Rattle.pami_lp.specs.Moves.{is_colon_class, to}
use Rattle.pami_lp.specs.Values.{coefficient_of, number_of, read_side, turned, unbounded}
use Rattle.pami_lp.specs.Rules.{add_term, stand}
use Rattle.pami_lp.specs.Acts.{act_end}
use Rattle.pami_lp.specs.Run.{done}
use Rattle.pami_lp.specs.Grammar.{Item, item, mark, head, Turn, Plus, Minus, turn, signs, number_before, Term, term, Further, further, Terms, terms, Size, Number, Infinity, size, Value, value, label, Way, Below, Above, way, Side, Right, Left, Both, side, Row, rows, goes_on, IsClosed, AreClosed}
use Rattle.pami_lp.specs.Meaning.{Opened, opened, is_minus, negated, number_in, text_of, right_side, left_side, take_term, take_further, take_terms, close_row, take_side, take_rows}
use Rattle.pami_lp.proofs.Items.{go, runs, one, two, three, chain_then, chain_same, Kept, state, onward, resting, with_opened, with_sides, Stays, signs_run}

first_stays : Stays places.RowFirst
first_stays Plus n k c rest = refl
first_stays Minus n k c rest = refl

middle_stays : (l : Option Relation) → Stays (places.RowMiddle l)
middle_stays l Plus n k c rest = refl
middle_stays l Minus n k c rest = refl

right_stays : (r : Relation) → Stays (places.RowValue r)
right_stays r Plus n k c rest = refl
right_stays r Minus n k c rest = refl

abbrev Colonless : Class → Type 0
Colonless c = is_colon_class c ≡ false

abbrev opened_in : Kept → Opened
opened_in c = opened c.draft c.sums

-- ---- the first term of a row

abbrev first_named : Bool → Option Fraction → List ℕ → Kept → List Item → Result Draft FileKind
first_named n k name c rest =
    chain (stand c.draft name) (λ p. chain (add_term c.sums p.1 (coefficient_of n k)) (λ sums. onward (places.RowTerm None) (with_opened (opened p.0 sums) c) rest))

name_first_RowNumber : (n : Bool) (k : Option Fraction) (name : List ℕ) (c : Kept) (rest : List Item) → runs (state (places.RowNumber None) n k c) (item classes.Name name ∷ rest) ≡ first_named n k name c rest
name_first_RowNumber n k name c rest =
    two (stand c.draft name) (λ p. add_term c.sums p.1 (coefficient_of n k)) (λ p sums. record (state (places.RowNumber None) n k c) { draft = p.0; sums = sums; coefficient = None; negative = false }) (λ s. Ok (record s { place = places.RowTerm None })) (λ s. runs s rest)

name_first_RowMiddle : (n : Bool) (k : Option Fraction) (name : List ℕ) (c : Kept) (rest : List Item) → runs (state (places.RowMiddle None) n k c) (item classes.Name name ∷ rest) ≡ first_named n k name c rest
name_first_RowMiddle n k name c rest =
    two (stand c.draft name) (λ p. add_term c.sums p.1 (coefficient_of n k)) (λ p sums. record (state (places.RowMiddle None) n k c) { draft = p.0; sums = sums; coefficient = None; negative = false }) (λ s. Ok (record s { place = places.RowTerm None })) (λ s. runs s rest)

name_first_RowFirst : (n : Bool) (k : Option Fraction) (name : List ℕ) (c : Kept) (rest : List Item) → runs (state (places.RowFirst) n k c) (item classes.Name name ∷ rest) ≡ first_named n k name c rest
name_first_RowFirst n k name c rest =
    two (stand c.draft name) (λ p. add_term c.sums p.1 (coefficient_of n k)) (λ p sums. record (state (places.RowFirst) n k c) { draft = p.0; sums = sums; coefficient = None; negative = false }) (λ s. Ok (record s { place = places.RowTerm None })) (λ s. runs s rest)

name_first_RowHead : (n : Bool) (k : Option Fraction) (name : List ℕ) (c : Kept) (rest : List Item) → Colonless (head rest) → runs (state (places.RowHead) n k c) (item classes.Name name ∷ rest) ≡ first_named n k name c rest
name_first_RowHead n k name c rest h =
    rw h (two (stand c.draft name) (λ p. add_term c.sums p.1 (coefficient_of n k)) (λ p sums. record (state (places.RowHead) n k c) { draft = p.0; sums = sums; coefficient = None; negative = false }) (λ s. Ok (record s { place = places.RowTerm None })) (λ s. runs s rest))

number_first_RowMiddle : (number : Option (List ℕ)) (n : Bool) (name : List ℕ) (c : Kept) (rest : List Item)
    → runs (state (places.RowMiddle None) n None c) (number_before number (item classes.Name name ∷ rest)) ≡ chain (number_in number) (λ k. first_named n k name c rest)
number_first_RowMiddle None n name c rest = name_first_RowMiddle n None name c rest
number_first_RowMiddle (Some text) n name c rest =
    one (number_of text) (λ v. record (state (places.RowMiddle None) n None c) { coefficient = Some v }) (λ s. Ok (record s { place = places.RowNumber None })) (λ s. runs s (item classes.Name name ∷ rest))
    ∙ chain_same (number_of text) _ _ (λ v. name_first_RowNumber n (Some v) name c rest) ∙ sym (chain_then (number_of text) (λ v. Ok (Some v)) (λ k. first_named n k name c rest))

number_first_RowFirst : (number : Option (List ℕ)) (n : Bool) (name : List ℕ) (c : Kept) (rest : List Item)
    → runs (state (places.RowFirst) n None c) (number_before number (item classes.Name name ∷ rest)) ≡ chain (number_in number) (λ k. first_named n k name c rest)
number_first_RowFirst None n name c rest = name_first_RowFirst n None name c rest
number_first_RowFirst (Some text) n name c rest =
    one (number_of text) (λ v. record (state (places.RowFirst) n None c) { coefficient = Some v }) (λ s. Ok (record s { place = places.RowNumber None })) (λ s. runs s (item classes.Name name ∷ rest))
    ∙ chain_same (number_of text) _ _ (λ v. name_first_RowNumber n (Some v) name c rest) ∙ sym (chain_then (number_of text) (λ v. Ok (Some v)) (λ k. first_named n k name c rest))

number_first_RowHead : (number : Option (List ℕ)) (n : Bool) (name : List ℕ) (c : Kept) (rest : List Item) → Colonless (head rest)
    → runs (state (places.RowHead) n None c) (number_before number (item classes.Name name ∷ rest)) ≡ chain (number_in number) (λ k. first_named n k name c rest)
number_first_RowHead None n name c rest h = name_first_RowHead n None name c rest h
number_first_RowHead (Some text) n name c rest h =
    one (number_of text) (λ v. record (state (places.RowHead) n None c) { coefficient = Some v }) (λ s. Ok (record s { place = places.RowNumber None })) (λ s. runs s (item classes.Name name ∷ rest))
    ∙ chain_same (number_of text) _ _ (λ v. name_first_RowNumber n (Some v) name c rest) ∙ sym (chain_then (number_of text) (λ v. Ok (Some v)) (λ k. first_named n k name c rest))

abbrev termed : Bool → Term → Kept → List Item → Result Draft FileKind
termed n t c rest = chain (take_term n t (opened_in c)) (λ s. onward (places.RowTerm None) (with_opened s c) rest)

named_termed : (n : Bool) (ts : List Turn) (number : Option (List ℕ)) (name : List ℕ) (c : Kept) (rest : List Item)
    → chain (number_in number) (λ k. first_named (negated n ts) k name c rest) ≡ termed n (record { turns = ts; number = number; name = name }) c rest
named_termed n ts number name c rest =
    sym (chain_then (number_in number) (λ k. chain (stand c.draft name) (λ p. chain (add_term c.sums p.1 (coefficient_of (negated n ts) k)) (λ sums. Ok (opened p.0 sums)))) (λ s. onward (places.RowTerm None) (with_opened s c) rest)
    ∙ chain_same (number_in number) _ _ (λ k.
    chain_then (stand c.draft name) (λ p. chain (add_term c.sums p.1 (coefficient_of (negated n ts) k)) (λ sums. Ok (opened p.0 sums))) (λ s. onward (places.RowTerm None) (with_opened s c) rest)
    ∙ chain_same (stand c.draft name) _ _ (λ p. chain_then (add_term c.sums p.1 (coefficient_of (negated n ts) k)) (λ sums. Ok (opened p.0 sums)) (λ s. onward (places.RowTerm None) (with_opened s c) rest))))

-- a term behind a sign, in a row without a left value
term_middle : (t : Term) (n : Bool) (c : Kept) (rest : List Item) → runs (state (places.RowMiddle None) n None c) (term t rest) ≡ termed n t c rest
term_middle t n c rest =
    signs_run (places.RowMiddle None) (middle_stays None) t.turns n None c _ ∙ number_first_RowMiddle t.number (negated n t.turns) t.name c rest ∙ named_termed n t.turns t.number t.name c rest

further_right : (fs : List Further) (c : Kept) (rest : List Item)
    → onward (places.RowTerm None) c (further fs rest) ≡ chain (take_further fs (opened_in c)) (λ s. onward (places.RowTerm None) (with_opened s c) rest)
further_right [] c rest = refl
further_right (f ∷ fs) c rest =
    by f.turn ∙ term_middle f.term (is_minus f.turn) c (further fs rest) ∙ chain_same (take_term (is_minus f.turn) f.term (opened_in c)) _ _ (λ s. further_right fs (with_opened s c) rest)
    ∙ sym (chain_then (take_term (is_minus f.turn) f.term (opened_in c)) (λ s. take_further fs s) (λ s. onward (places.RowTerm None) (with_opened s c) rest))
  where
    by : (t : Turn) → onward (places.RowTerm None) c (mark (turn t) ∷ term f.term (further fs rest)) ≡ runs (state (places.RowMiddle None) (is_minus t) None c) (term f.term (further fs rest))
    by Plus = refl
    by Minus = refl

term_RowFirst : (t : Term) (c : Kept) (rest : List Item) → onward places.RowFirst c (term t rest) ≡ termed false t c rest
term_RowFirst t c rest = by t.turns
  where
    by : (ts : List Turn) → onward places.RowFirst c (signs ts (number_before t.number (item classes.Name t.name ∷ rest))) ≡ termed false (record { turns = ts; number = t.number; name = t.name }) c rest
    by [] = number_first_RowFirst t.number false t.name c rest ∙ named_termed false [] t.number t.name c rest
    by (Plus ∷ ts) = signs_run places.RowFirst first_stays ts false None c _ ∙ number_first_RowFirst t.number (negated false ts) t.name c rest ∙ named_termed false (Plus ∷ ts) t.number t.name c rest
    by (Minus ∷ ts) = signs_run places.RowFirst first_stays ts true None c _ ∙ number_first_RowFirst t.number (negated true ts) t.name c rest ∙ named_termed false (Minus ∷ ts) t.number t.name c rest

term_RowHead : (t : Term) (c : Kept) (rest : List Item) → Colonless (head rest) → onward places.RowHead c (term t rest) ≡ termed false t c rest
term_RowHead t c rest h = by t.turns
  where
    by : (ts : List Turn) → onward places.RowHead c (signs ts (number_before t.number (item classes.Name t.name ∷ rest))) ≡ termed false (record { turns = ts; number = t.number; name = t.name }) c rest
    by [] = number_first_RowHead t.number false t.name c rest h ∙ named_termed false [] t.number t.name c rest
    by (Plus ∷ ts) = signs_run places.RowFirst first_stays ts false None c _ ∙ number_first_RowFirst t.number (negated false ts) t.name c rest ∙ named_termed false (Plus ∷ ts) t.number t.name c rest
    by (Minus ∷ ts) = signs_run places.RowFirst first_stays ts true None c _ ∙ number_first_RowFirst t.number (negated true ts) t.name c rest ∙ named_termed false (Minus ∷ ts) t.number t.name c rest

-- ---- the terms behind a left value

-- a complete row, and the place behind it
abbrev ended : Kept → List Item → Result Draft FileKind
ended c rest = chain (close_row c.label c.sides (opened_in c)) (λ d. onward places.RowHead (record c { draft = d; label = None; sides = unbounded; sums = [] }) rest)

-- behind the name of a term
abbrev behind_if : Bool → Relation → Kept → List Item → Result Draft FileKind
behind_if b r c rest = cond b (onward (places.RowTerm (Some r)) c rest) (ended c rest)

abbrev behind : Relation → Kept → List Item → Result Draft FileKind
behind r c rest = behind_if (goes_on r (head rest)) r c rest

abbrev left_named : Bool → Option Fraction → List ℕ → Relation → Kept → List Item → Result Draft FileKind
left_named n k name r c rest = chain (stand c.draft name) (λ p. chain (add_term c.sums p.1 (coefficient_of n k)) (λ sums. behind r (with_opened (opened p.0 sums) c) rest))

abbrev named_to : Bool → Relation → Option Move
named_to b r = cond b (to roles.RowName (places.RowTerm (Some r))) (to roles.RowLast places.RowHead)

name_left_RowNumber : (n : Bool) (k : Option Fraction) (name : List ℕ) (r : Relation) (c : Kept) (rest : List Item) → runs (state (places.RowNumber (Some r)) n k c) (item classes.Name name ∷ rest) ≡ left_named n k name r c rest
name_left_RowNumber n k name r c rest = by (goes_on r (head rest))
  where
    by : (b : Bool) → go (done (named_to b r) (state (places.RowNumber (Some r)) n k c) classes.Name name) (λ s. runs s rest)
        ≡ chain (stand c.draft name) (λ p. chain (add_term c.sums p.1 (coefficient_of n k)) (λ sums. behind_if b r (with_opened (opened p.0 sums) c) rest))
    by true =
        two (stand c.draft name) (λ p. add_term c.sums p.1 (coefficient_of n k)) (λ p sums. record (state (places.RowNumber (Some r)) n k c) { draft = p.0; sums = sums; coefficient = None; negative = false }) (λ s. Ok (record s { place = places.RowTerm (Some r) })) (λ s. runs s rest)
    by false =
        three (stand c.draft name) (λ p. add_term c.sums p.1 (coefficient_of n k)) (λ p sums. record (state (places.RowNumber (Some r)) n k c) { draft = p.0; sums = sums; coefficient = None; negative = false }) act_end (λ s. Ok (record s { place = places.RowHead })) (λ s. runs s rest)
        ∙ chain_same (stand c.draft name) _ _ (λ p. chain_same (add_term c.sums p.1 (coefficient_of n k)) _ _ (λ sums.
        one (close_row c.label c.sides (opened p.0 sums)) (λ d. record (state (places.RowNumber (Some r)) false None (with_opened (opened p.0 sums) c)) { draft = d; label = None; sides = unbounded; sums = [] }) (λ s. Ok (record s { place = places.RowHead })) (λ s. runs s rest)))

name_left_RowMiddle : (n : Bool) (k : Option Fraction) (name : List ℕ) (r : Relation) (c : Kept) (rest : List Item) → runs (state (places.RowMiddle (Some r)) n k c) (item classes.Name name ∷ rest) ≡ left_named n k name r c rest
name_left_RowMiddle n k name r c rest = by (goes_on r (head rest))
  where
    by : (b : Bool) → go (done (named_to b r) (state (places.RowMiddle (Some r)) n k c) classes.Name name) (λ s. runs s rest)
        ≡ chain (stand c.draft name) (λ p. chain (add_term c.sums p.1 (coefficient_of n k)) (λ sums. behind_if b r (with_opened (opened p.0 sums) c) rest))
    by true =
        two (stand c.draft name) (λ p. add_term c.sums p.1 (coefficient_of n k)) (λ p sums. record (state (places.RowMiddle (Some r)) n k c) { draft = p.0; sums = sums; coefficient = None; negative = false }) (λ s. Ok (record s { place = places.RowTerm (Some r) })) (λ s. runs s rest)
    by false =
        three (stand c.draft name) (λ p. add_term c.sums p.1 (coefficient_of n k)) (λ p sums. record (state (places.RowMiddle (Some r)) n k c) { draft = p.0; sums = sums; coefficient = None; negative = false }) act_end (λ s. Ok (record s { place = places.RowHead })) (λ s. runs s rest)
        ∙ chain_same (stand c.draft name) _ _ (λ p. chain_same (add_term c.sums p.1 (coefficient_of n k)) _ _ (λ sums.
        one (close_row c.label c.sides (opened p.0 sums)) (λ d. record (state (places.RowMiddle (Some r)) false None (with_opened (opened p.0 sums) c)) { draft = d; label = None; sides = unbounded; sums = [] }) (λ s. Ok (record s { place = places.RowHead })) (λ s. runs s rest)))

number_left : (number : Option (List ℕ)) (n : Bool) (name : List ℕ) (r : Relation) (c : Kept) (rest : List Item)
    → runs (state (places.RowMiddle (Some r)) n None c) (number_before number (item classes.Name name ∷ rest)) ≡ chain (number_in number) (λ k. left_named n k name r c rest)
number_left None n name r c rest = name_left_RowMiddle n None name r c rest
number_left (Some text) n name r c rest =
    one (number_of text) (λ v. record (state (places.RowMiddle (Some r)) n None c) { coefficient = Some v }) (λ s. Ok (record s { place = places.RowNumber (Some r) })) (λ s. runs s (item classes.Name name ∷ rest))
    ∙ chain_same (number_of text) _ _ (λ v. name_left_RowNumber n (Some v) name r c rest) ∙ sym (chain_then (number_of text) (λ v. Ok (Some v)) (λ k. left_named n k name r c rest))

abbrev left_termed : Bool → Term → Relation → Kept → List Item → Result Draft FileKind
left_termed n t r c rest = chain (take_term n t (opened_in c)) (λ s. behind r (with_opened s c) rest)

named_left : (n : Bool) (ts : List Turn) (number : Option (List ℕ)) (name : List ℕ) (r : Relation) (c : Kept) (rest : List Item)
    → chain (number_in number) (λ k. left_named (negated n ts) k name r c rest) ≡ left_termed n (record { turns = ts; number = number; name = name }) r c rest
named_left n ts number name r c rest =
    sym (chain_then (number_in number) (λ k. chain (stand c.draft name) (λ p. chain (add_term c.sums p.1 (coefficient_of (negated n ts) k)) (λ sums. Ok (opened p.0 sums)))) (λ s. behind r (with_opened s c) rest)
    ∙ chain_same (number_in number) _ _ (λ k.
    chain_then (stand c.draft name) (λ p. chain (add_term c.sums p.1 (coefficient_of (negated n ts) k)) (λ sums. Ok (opened p.0 sums))) (λ s. behind r (with_opened s c) rest)
    ∙ chain_same (stand c.draft name) _ _ (λ p. chain_then (add_term c.sums p.1 (coefficient_of (negated n ts) k)) (λ sums. Ok (opened p.0 sums)) (λ s. behind r (with_opened s c) rest))))

term_left : (t : Term) (n : Bool) (r : Relation) (c : Kept) (rest : List Item) → runs (state (places.RowMiddle (Some r)) n None c) (term t rest) ≡ left_termed n t r c rest
term_left t n r c rest =
    signs_run (places.RowMiddle (Some r)) (middle_stays (Some r)) t.turns n None c _ ∙ number_left t.number (negated n t.turns) t.name r c rest ∙ named_left n t.turns t.number t.name r c rest

further_left : (fs : List Further) (r : Relation) (c : Kept) (rest : List Item) → behind r c (further fs rest) ≡ chain (take_further fs (opened_in c)) (λ s. behind r (with_opened s c) rest)
further_left [] r c rest = refl
further_left (f ∷ fs) r c rest =
    by f.turn ∙ term_left f.term (is_minus f.turn) r c (further fs rest) ∙ chain_same (take_term (is_minus f.turn) f.term (opened_in c)) _ _ (λ s. further_left fs r (with_opened s c) rest)
    ∙ sym (chain_then (take_term (is_minus f.turn) f.term (opened_in c)) (λ s. take_further fs s) (λ s. behind r (with_opened s c) rest))
  where
    by : (t : Turn) → behind r c (mark (turn t) ∷ term f.term (further fs rest)) ≡ runs (state (places.RowMiddle (Some r)) (is_minus t) None c) (term f.term (further fs rest))
    by Plus = refl
    by Minus = refl

terms_left : (ts : Terms) (r : Relation) (c : Kept) (rest : List Item) → onward (places.RowMiddle (Some r)) c (terms ts rest) ≡ chain (take_term false ts.first (opened_in c)) (λ s. chain (take_further ts.more s) (λ s. behind r (with_opened s c) rest))
terms_left ts r c rest = term_left ts.first false r c (further ts.more rest) ∙ chain_same (take_term false ts.first (opened_in c)) _ _ (λ s. further_left ts.more r (with_opened s c) rest)

-- ---- values

value_right : (v : Value) (r : Relation) (c : Kept) (rest : List Item) → onward (places.RowValue r) c (value v rest) ≡ chain (right_side r v c.sides) (λ sides. ended (with_sides sides c) rest)
value_right v r c rest = signs_run (places.RowValue r) (right_stays r) v.turns false None c _ ∙ by v.size
  where
    by : (z : Size) → runs (state (places.RowValue r) (negated false v.turns) None c) (size z ∷ rest) ≡ chain (read_side (text_of z) (negated false v.turns) r c.sides) (λ sides. ended (with_sides sides c) rest)
    by (Number text) = two (read_side text (negated false v.turns) r c.sides) (λ sides. close_row c.label sides (opened_in c)) (λ sides d. record (state (places.RowValue r) false None c) { draft = d; label = None; sides = unbounded; sums = [] }) (λ s. Ok (record s { place = places.RowHead })) (λ s. runs s rest)
    by (Infinity text) = two (read_side text (negated false v.turns) r c.sides) (λ sides. close_row c.label sides (opened_in c)) (λ sides d. record (state (places.RowValue r) false None c) { draft = d; label = None; sides = unbounded; sums = [] }) (λ s. Ok (record s { place = places.RowHead })) (λ s. runs s rest)

size_RowFirst : (z : Size) (n : Bool) (r : Relation) (c : Kept) (rest : List Item)
    → runs (state places.RowFirst n None c) (size z ∷ mark (classes.Relation r) ∷ rest) ≡ chain (read_side (text_of z) n (turned r) c.sides) (λ sides. onward (places.RowMiddle (Some r)) (with_sides sides c) rest)
size_RowFirst (Number text) n r c rest = one (read_side text n (turned r) c.sides) (λ sides. record (state places.RowFirst n None c) { sides = sides; negative = false }) (λ s. Ok (record s { place = places.RowLeft })) (λ s. runs s (mark (classes.Relation r) ∷ rest))
size_RowFirst (Infinity text) n r c rest = one (read_side text n (turned r) c.sides) (λ sides. record (state places.RowFirst n None c) { sides = sides; negative = false }) (λ s. Ok (record s { place = places.RowLeft })) (λ s. runs s (mark (classes.Relation r) ∷ rest))

size_RowHead : (z : Size) (n : Bool) (r : Relation) (c : Kept) (rest : List Item)
    → runs (state places.RowHead n None c) (size z ∷ mark (classes.Relation r) ∷ rest) ≡ chain (read_side (text_of z) n (turned r) c.sides) (λ sides. onward (places.RowMiddle (Some r)) (with_sides sides c) rest)
size_RowHead (Number text) n r c rest = one (read_side text n (turned r) c.sides) (λ sides. record (state places.RowHead n None c) { sides = sides; negative = false }) (λ s. Ok (record s { place = places.RowLeft })) (λ s. runs s (mark (classes.Relation r) ∷ rest))
size_RowHead (Infinity text) n r c rest = one (read_side text n (turned r) c.sides) (λ sides. record (state places.RowHead n None c) { sides = sides; negative = false }) (λ s. Ok (record s { place = places.RowLeft })) (λ s. runs s (mark (classes.Relation r) ∷ rest))

value_RowFirst : (v : Value) (r : Relation) (c : Kept) (rest : List Item)
    → onward places.RowFirst c (value v (mark (classes.Relation r) ∷ rest)) ≡ chain (left_side v r c.sides) (λ sides. onward (places.RowMiddle (Some r)) (with_sides sides c) rest)
value_RowFirst v r c rest = by v.turns
  where
    by : (ts : List Turn) → onward places.RowFirst c (signs ts (size v.size ∷ mark (classes.Relation r) ∷ rest)) ≡ chain (read_side (text_of v.size) (negated false ts) (turned r) c.sides) (λ sides. onward (places.RowMiddle (Some r)) (with_sides sides c) rest)
    by [] = size_RowFirst v.size false r c rest
    by (Plus ∷ ts) = signs_run places.RowFirst first_stays ts false None c _ ∙ size_RowFirst v.size (negated false ts) r c rest
    by (Minus ∷ ts) = signs_run places.RowFirst first_stays ts true None c _ ∙ size_RowFirst v.size (negated true ts) r c rest

value_RowHead : (v : Value) (r : Relation) (c : Kept) (rest : List Item)
    → onward places.RowHead c (value v (mark (classes.Relation r) ∷ rest)) ≡ chain (left_side v r c.sides) (λ sides. onward (places.RowMiddle (Some r)) (with_sides sides c) rest)
value_RowHead v r c rest = by v.turns
  where
    by : (ts : List Turn) → onward places.RowHead c (signs ts (size v.size ∷ mark (classes.Relation r) ∷ rest)) ≡ chain (read_side (text_of v.size) (negated false ts) (turned r) c.sides) (λ sides. onward (places.RowMiddle (Some r)) (with_sides sides c) rest)
    by [] = size_RowHead v.size false r c rest
    by (Plus ∷ ts) = signs_run places.RowFirst first_stays ts false None c _ ∙ size_RowFirst v.size (negated false ts) r c rest
    by (Minus ∷ ts) = signs_run places.RowFirst first_stays ts true None c _ ∙ size_RowFirst v.size (negated true ts) r c rest

-- ---- rows

behind_closed : (r : Relation) (c : Kept) (rest : List Item) → goes_on r (head rest) ≡ false → behind r c rest ≡ ended c rest
behind_closed r c rest h = rw h refl

behind_way : (w : Way) (c : Kept) (rest : List Item) → behind (way w) c (mark (classes.Relation (way w)) ∷ rest) ≡ onward (places.RowValue (way w)) c rest
behind_way Below c rest = refl
behind_way Above c rest = refl

further_colonless : (fs : List Further) (r : Relation) (rest : List Item) → Colonless (head (further fs (mark (classes.Relation r) ∷ rest)))
further_colonless [] r rest = refl
further_colonless (f ∷ fs) r rest = by f.turn
  where
    by : (t : Turn) → Colonless (turn t)
    by Plus = refl
    by Minus = refl

-- a row that begins here, where this is its name
abbrev beginning : Option (List ℕ) → Draft → Kept
beginning l d = record { draft = d; lowered = []; label = l; sides = unbounded; sums = []; column = None }

terms_then : (ts : Terms) (d : Draft) (f : Opened → Result Draft FileKind) → chain (take_term false ts.first (opened d [])) (λ s. chain (take_further ts.more s) f) ≡ chain (take_terms ts d) f
terms_then ts d f = sym (chain_then (take_term false ts.first (opened d [])) (λ s. take_further ts.more s) f)

side_RowFirst : (s : Side) (l : Option (List ℕ)) (d : Draft) (rest : List Item) → IsClosed s rest → onward places.RowFirst (beginning l d) (side s rest) ≡ chain (take_side l s d) (λ d. onward places.RowHead (resting d) rest)
side_RowFirst (Right ts r v) l d rest h =
    term_RowFirst ts.first (beginning l d) (further ts.more (mark (classes.Relation r) ∷ value v rest))
    ∙ chain_same (take_term false ts.first (opened d [])) _ _ (λ s. further_right ts.more (with_opened s (beginning l d)) (mark (classes.Relation r) ∷ value v rest))
    ∙ terms_then ts d (λ s. onward (places.RowTerm None) (with_opened s (beginning l d)) (mark (classes.Relation r) ∷ value v rest))
    ∙ chain_same (take_terms ts d) _ _ (λ s.
    value_right v r (with_opened s (beginning l d)) rest ∙ sym (chain_then (right_side r v unbounded) (λ sides. close_row l sides s) (λ d. onward places.RowHead (resting d) rest)))
    ∙ sym (chain_then (take_terms ts d) (λ s. chain (right_side r v unbounded) (λ sides. close_row l sides s)) (λ d. onward places.RowHead (resting d) rest))
side_RowFirst (Left v r ts) l d rest h =
    value_RowFirst v r (beginning l d) (terms ts rest)
    ∙ chain_same (left_side v r unbounded) _ _ (λ sides.
    terms_left ts r (with_sides sides (beginning l d)) rest
    ∙ terms_then ts d (λ s. behind r (with_opened s (with_sides sides (beginning l d))) rest)
    ∙ chain_same (take_terms ts d) _ _ (λ s. behind_closed r (with_opened s (with_sides sides (beginning l d))) rest h)
    ∙ sym (chain_then (take_terms ts d) (λ s. close_row l sides s) (λ d. onward places.RowHead (resting d) rest)))
    ∙ sym (chain_then (left_side v r unbounded) (λ sides. chain (take_terms ts d) (λ s. close_row l sides s)) (λ d. onward places.RowHead (resting d) rest))
side_RowFirst (Both v w ts u) l d rest h =
    value_RowFirst v (way w) (beginning l d) (terms ts (mark (classes.Relation (way w)) ∷ value u rest))
    ∙ chain_same (left_side v (way w) unbounded) _ _ (λ sides.
    terms_left ts (way w) (with_sides sides (beginning l d)) (mark (classes.Relation (way w)) ∷ value u rest)
    ∙ terms_then ts d (λ s. behind (way w) (with_opened s (with_sides sides (beginning l d))) (mark (classes.Relation (way w)) ∷ value u rest))
    ∙ chain_same (take_terms ts d) _ _ (λ s.
    behind_way w (with_opened s (with_sides sides (beginning l d))) (value u rest) ∙ value_right u (way w) (with_opened s (with_sides sides (beginning l d))) rest
    ∙ sym (chain_then (right_side (way w) u sides) (λ sides. close_row l sides s) (λ d. onward places.RowHead (resting d) rest)))
    ∙ sym (chain_then (take_terms ts d) (λ s. chain (right_side (way w) u sides) (λ sides. close_row l sides s)) (λ d. onward places.RowHead (resting d) rest)))
    ∙ sym (chain_then (left_side v (way w) unbounded) (λ sides. chain (take_terms ts d) (λ s. chain (right_side (way w) u sides) (λ sides. close_row l sides s))) (λ d. onward places.RowHead (resting d) rest))

side_RowHead : (s : Side) (l : Option (List ℕ)) (d : Draft) (rest : List Item) → IsClosed s rest → onward places.RowHead (beginning l d) (side s rest) ≡ chain (take_side l s d) (λ d. onward places.RowHead (resting d) rest)
side_RowHead (Right ts r v) l d rest h =
    term_RowHead ts.first (beginning l d) (further ts.more (mark (classes.Relation r) ∷ value v rest)) (further_colonless ts.more r (value v rest))
    ∙ chain_same (take_term false ts.first (opened d [])) _ _ (λ s. further_right ts.more (with_opened s (beginning l d)) (mark (classes.Relation r) ∷ value v rest))
    ∙ terms_then ts d (λ s. onward (places.RowTerm None) (with_opened s (beginning l d)) (mark (classes.Relation r) ∷ value v rest))
    ∙ chain_same (take_terms ts d) _ _ (λ s.
    value_right v r (with_opened s (beginning l d)) rest ∙ sym (chain_then (right_side r v unbounded) (λ sides. close_row l sides s) (λ d. onward places.RowHead (resting d) rest)))
    ∙ sym (chain_then (take_terms ts d) (λ s. chain (right_side r v unbounded) (λ sides. close_row l sides s)) (λ d. onward places.RowHead (resting d) rest))
side_RowHead (Left v r ts) l d rest h =
    value_RowHead v r (beginning l d) (terms ts rest)
    ∙ chain_same (left_side v r unbounded) _ _ (λ sides.
    terms_left ts r (with_sides sides (beginning l d)) rest
    ∙ terms_then ts d (λ s. behind r (with_opened s (with_sides sides (beginning l d))) rest)
    ∙ chain_same (take_terms ts d) _ _ (λ s. behind_closed r (with_opened s (with_sides sides (beginning l d))) rest h)
    ∙ sym (chain_then (take_terms ts d) (λ s. close_row l sides s) (λ d. onward places.RowHead (resting d) rest)))
    ∙ sym (chain_then (left_side v r unbounded) (λ sides. chain (take_terms ts d) (λ s. close_row l sides s)) (λ d. onward places.RowHead (resting d) rest))
side_RowHead (Both v w ts u) l d rest h =
    value_RowHead v (way w) (beginning l d) (terms ts (mark (classes.Relation (way w)) ∷ value u rest))
    ∙ chain_same (left_side v (way w) unbounded) _ _ (λ sides.
    terms_left ts (way w) (with_sides sides (beginning l d)) (mark (classes.Relation (way w)) ∷ value u rest)
    ∙ terms_then ts d (λ s. behind (way w) (with_opened s (with_sides sides (beginning l d))) (mark (classes.Relation (way w)) ∷ value u rest))
    ∙ chain_same (take_terms ts d) _ _ (λ s.
    behind_way w (with_opened s (with_sides sides (beginning l d))) (value u rest) ∙ value_right u (way w) (with_opened s (with_sides sides (beginning l d))) rest
    ∙ sym (chain_then (right_side (way w) u sides) (λ sides. close_row l sides s) (λ d. onward places.RowHead (resting d) rest)))
    ∙ sym (chain_then (take_terms ts d) (λ s. chain (right_side (way w) u sides) (λ sides. close_row l sides s)) (λ d. onward places.RowHead (resting d) rest)))
    ∙ sym (chain_then (left_side v (way w) unbounded) (λ sides. chain (take_terms ts d) (λ s. chain (right_side (way w) u sides) (λ sides. close_row l sides s))) (λ d. onward places.RowHead (resting d) rest))

row_run : (l : Option (List ℕ)) (s : Side) (d : Draft) (rest : List Item) → IsClosed s rest → onward places.RowHead (resting d) (label l (side s rest)) ≡ chain (take_side l s d) (λ d. onward places.RowHead (resting d) rest)
row_run None s d rest h = side_RowHead s None d rest h
row_run (Some name) s d rest h = side_RowFirst s (Some name) d rest h

pub rows_run : (rs : List Row) (d : Draft) (rest : List Item) → AreClosed rs rest → onward places.RowHead (resting d) (rows rs rest) ≡ chain (take_rows rs d) (λ d. onward places.RowHead (resting d) rest)
rows_run [] d rest h = refl
rows_run (r ∷ rs) d rest h =
    row_run r.label r.side d (rows rs rest) h.0 ∙ chain_same (take_side r.label r.side d) _ _ (λ e. rows_run rs e rest h.1)
    ∙ sym (chain_then (take_side r.label r.side d) (λ e. take_rows rs e) (λ e. onward places.RowHead (resting e) rest))
