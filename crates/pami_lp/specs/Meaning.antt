-- What a file gives, part by part in their order: rows, columns, costs, the constant and bounds; or the first thing that
-- is wrong with it.
use Rattle.std.specs.Prelude.{ℕ, Bool, true, false, not, List, [], ◌∷◌, length, Option, None, Some, Result, Ok, Err, if◌then◌else◌, nat_lt}
use Rattle.pami_algebra.specs.Fraction.{Fraction}
use Rattle.pami_frac.specs.declared.list.Bounds.{Bounds}
use Rattle.pami_frac.specs.declared.list.Entry.{Entry}
use Rattle.pami_frac.specs.Answers.{then as chain}
use Rattle.pami_model.specs.declared.fault.FileKind.{FileKind}
use Rattle.pami_model.specs.declared.fault.FileKind.TheVariants as kinds
use Rattle.pami_model.specs.Rules.{name_limit}
use Rattle.pami_model.specs.Draft.{Draft, empty_draft}
use Rattle.pami_lp_text.specs.declared.kind.Relation.{Relation}
use Rattle.pami_lp.specs.Values.{coefficient_of, number_of, read_side, signed, turned, unbounded}
use Rattle.pami_lp.specs.Rules.{Bounded, add_constant, add_cost, add_term, bounded, end_row, name_by, set_bound, set_free, stand}
use Rattle.pami_lp.specs.Grammar.{Turn, Plus, Minus, Term, Further, Terms, Size, Number, Infinity, Value, way, Side, Right, Left, Both, Row, Part, Named, Alone, Later, Goal, Nothing, Parts, Bound, Set, From, Between, Freed, File}

-- ---- signs and numbers

-- whether a sign makes what follows it negative
abbrev pub is_minus : Turn → Bool
is_minus Plus = false
is_minus Minus = true

-- several signs multiply: whether what follows is negative, where it is so without them
abbrev pub negated : Bool → List Turn → Bool
negated negative [] = negative
negated negative (Plus ∷ ts) = negated negative ts
negated negative (Minus ∷ ts) = negated (not negative) ts

abbrev pub number_in : Option (List ℕ) → Result (Option Fraction) FileKind
number_in None = Ok None
number_in (Some text) = chain (number_of text) (λ v. Ok (Some v))

abbrev pub text_of : Size → List ℕ
text_of (Number text) = text
text_of (Infinity text) = text

-- the sides with what a value sets to the right of a relation, and to its left
abbrev pub right_side : Relation → Value → Bounds → Result Bounds FileKind
right_side r v sides = read_side (text_of v.size) (negated false v.turns) r sides

abbrev pub left_side : Value → Relation → Bounds → Result Bounds FileKind
left_side v r sides = right_side (turned r) v sides

-- ---- rows

-- a row whose terms were read: the columns so far, and the sums of the row's columns
pub record Opened : Type 0 where
  pub draft : Draft
  pub sums : List Entry

abbrev pub opened : Draft → List Entry → Opened
opened d sums = record { draft = d; sums = sums }

-- a term behind a sign or none: its number, its name, and then the sum
abbrev pub take_term : Bool → Term → Opened → Result Opened FileKind
take_term negative t s =
    chain (number_in t.number) (λ k.
    chain (stand s.draft t.name) (λ p.
    chain (add_term s.sums p.1 (coefficient_of (negated negative t.turns) k)) (λ sums. Ok (opened p.0 sums))))

abbrev pub take_further : List Further → Opened → Result Opened FileKind
take_further [] s = Ok s
take_further (f ∷ fs) s = chain (take_term (is_minus f.turn) f.term s) (λ s. take_further fs s)

abbrev pub take_terms : Terms → Draft → Result Opened FileKind
take_terms ts d = chain (take_term false ts.first (opened d [])) (λ s. take_further ts.more s)

-- a row is added when it is complete
abbrev pub close_row : Option (List ℕ) → Bounds → Opened → Result Draft FileKind
close_row label sides s = end_row s.draft (name_by (length s.draft.rows) label) sides s.sums

abbrev pub take_side : Option (List ℕ) → Side → Draft → Result Draft FileKind
take_side label (Right ts r v) d = chain (take_terms ts d) (λ s. chain (right_side r v unbounded) (λ sides. close_row label sides s))
take_side label (Left v r ts) d = chain (left_side v r unbounded) (λ sides. chain (take_terms ts d) (λ s. close_row label sides s))
take_side label (Both v w ts u) d =
    chain (left_side v (way w) unbounded) (λ sides. chain (take_terms ts d) (λ s. chain (right_side (way w) u sides) (λ sides. close_row label sides s)))

abbrev pub take_rows : List Row → Draft → Result Draft FileKind
take_rows [] d = Ok d
take_rows (r ∷ rs) d = chain (take_side r.label r.side d) (λ d. take_rows rs d)

-- ---- the objective

abbrev pub take_part : Bool → Part → Draft → Result Draft FileKind
take_part negative (Named t) d =
    chain (number_in t.number) (λ k. chain (stand d t.name) (λ p. add_cost p.0 p.1 (coefficient_of (negated negative t.turns) k)))
take_part negative (Alone ts text) d = chain (number_of text) (λ v. add_constant d (signed (negated negative ts) v))

abbrev pub take_later : List Later → Draft → Result Draft FileKind
take_later [] d = Ok d
take_later (l ∷ ls) d = chain (take_part (is_minus l.turn) l.part d) (λ d. take_later ls d)

abbrev pub take_goal : Goal → Draft → Result Draft FileKind
take_goal Nothing d = Ok d
take_goal (Parts p ls) d = chain (take_part false p d) (λ d. take_later ls d)

-- the objective's name is in no model, but it may not be too long
abbrev pub take_label : Option (List ℕ) → Draft → Result Draft FileKind
take_label None d = Ok d
take_label (Some name) d = if nat_lt name_limit (length name) then Err kinds.NameLong else Ok d

-- ---- bounds

-- the column of a name, added where it is new, with what a relation sets of its bounds
abbrev pub take_bound_of : List ℕ → Relation → Bounds → Bounded → Result (Bounded × ℕ) FileKind
take_bound_of name r sides s = chain (stand s.draft name) (λ p. Ok (set_bound r p.1 sides (bounded p.0 s.lowered), p.1))

abbrev pub take_bound : Bound → Bounded → Result Bounded FileKind
take_bound (Set name r v) s = chain (stand s.draft name) (λ p. chain (right_side r v unbounded) (λ sides. Ok (set_bound r p.1 sides (bounded p.0 s.lowered))))
take_bound (From v r name) s = chain (left_side v r unbounded) (λ sides. chain (take_bound_of name (turned r) sides s) (λ p. Ok p.0))
take_bound (Between v w name u) s =
    chain (left_side v (way w) unbounded) (λ sides.
    chain (take_bound_of name (turned (way w)) sides s) (λ p.
    chain (right_side (way w) u unbounded) (λ sides. Ok (set_bound (way w) p.1 sides p.0))))
take_bound (Freed name) s = chain (stand s.draft name) (λ p. Ok (set_free p.1 (bounded p.0 s.lowered)))

abbrev pub take_bounds : List Bound → Bounded → Result Bounded FileKind
take_bounds [] s = Ok s
take_bounds (b ∷ bs) s = chain (take_bound b s) (λ s. take_bounds bs s)

abbrev pub take_section : Option (List Bound) → Draft → Result Draft FileKind
take_section None d = Ok d
take_section (Some bs) d = chain (take_bounds bs (bounded d [])) (λ s. Ok s.draft)

-- ---- files

-- what a file gives
abbrev pub draft_of : File → Result Draft FileKind
draft_of f =
    chain (take_label f.label (record empty_draft { sense = f.sense })) (λ d.
    chain (take_goal f.goal d) (λ d.
    chain (take_rows f.rows d) (λ d. take_section f.bounds d)))
