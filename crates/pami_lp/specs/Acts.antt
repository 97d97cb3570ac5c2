-- What each token of a file does, by its role: the first thing that is wrong with it, or what is known behind it.
use Rattle.std.specs.Prelude.{ℕ, Bool, false, not, List, [], length, Option, None, Some, Result, Ok, Err, if◌then◌else◌, nat_lt}
use Rattle.pami_algebra.specs.Fraction.{Fraction}
use Rattle.pami_frac.specs.declared.list.Bounds.{Bounds}
use Rattle.pami_frac.specs.declared.list.Entry.{Entry}
use Rattle.pami_frac.specs.Answers.{then as chain}
use Rattle.pami_model.specs.declared.fault.FileKind.{FileKind}
use Rattle.pami_model.specs.declared.fault.FileKind.TheVariants as kinds
use Rattle.pami_model.specs.Rules.{name_limit}
use Rattle.pami_model.specs.Draft.{Draft}
use Rattle.pami_lp_text.specs.declared.kind.Relation.{Relation}
use Rattle.pami_lp.specs.declared.kind.Place.{Place}
use Rattle.pami_lp.specs.declared.kind.Role.{Role}
use Rattle.pami_lp.specs.declared.kind.Role.TheVariants as roles
use Rattle.pami_lp.specs.Values.{coefficient_of, number_of, read_side, signed, turned, unbounded, value_of}
use Rattle.pami_lp.specs.Rules.{Bounded, add_constant, add_cost, add_term, bounded, end_row, name_by, set_bound, set_free, stand}

-- what is known behind some tokens
pub record Seen : Type 0 where
  pub place : Place
  pub draft : Draft  -- rows, columns, costs, the constant and bounds so far
  pub lowered : List ℕ  -- the columns with a lower bound of their own
  pub negative : Bool  -- whether the signs before the next number or name make it negative
  pub coefficient : Option Fraction  -- the number before a name
  pub label : Option (List ℕ)  -- the open row's name
  pub sides : Bounds  -- the open row's or bound's sides
  pub sums : List Entry  -- the open row's columns with their sums
  pub column : Option ℕ  -- the open bound's column

-- the open row is added under this name, and the next begins
abbrev pub end_named : Seen → List ℕ → Result Seen FileKind
end_named s name = chain (end_row s.draft name s.sides s.sums) (λ d. Ok (record s { draft = d; label = None; sides = unbounded; sums = [] }))

abbrev pub act_end : Seen → Result Seen FileKind
act_end s = end_named s (name_by (length s.draft.rows) s.label)

abbrev pub act_row_name : Seen → List ℕ → Result Seen FileKind
act_row_name s text =
    chain (stand s.draft text) (λ p.
    chain (add_term s.sums p.1 (coefficient_of s.negative s.coefficient)) (λ sums. Ok (record s { draft = p.0; sums = sums; coefficient = None; negative = false })))

abbrev pub act_row_last : Seen → List ℕ → Result Seen FileKind
act_row_last s text = chain (act_row_name s text) (λ s. act_end s)

abbrev pub act_goal_name : Seen → List ℕ → Result Seen FileKind
act_goal_name s text =
    chain (stand s.draft text) (λ p.
    chain (add_cost p.0 p.1 (coefficient_of s.negative s.coefficient)) (λ d. Ok (record s { draft = d; coefficient = None; negative = false })))

abbrev pub act_goal_label : Seen → List ℕ → Result Seen FileKind
act_goal_label s text = if nat_lt name_limit (length text) then Err kinds.NameLong else Ok s

abbrev pub act_coefficient : Seen → List ℕ → Result Seen FileKind
act_coefficient s text = chain (number_of text) (λ v. Ok (record s { coefficient = Some v }))

abbrev pub act_constant : Seen → List ℕ → Result Seen FileKind
act_constant s text =
    chain (number_of text) (λ v. chain (add_constant s.draft (signed s.negative v)) (λ d. Ok (record s { draft = d; negative = false })))

-- a value to the left of a relation
abbrev pub act_left : Seen → Relation → List ℕ → Result Seen FileKind
act_left s r text = chain (read_side text s.negative (turned r) s.sides) (λ sides. Ok (record s { sides = sides; negative = false }))

abbrev pub act_stray : Seen → List ℕ → Result Seen FileKind
act_stray s text = chain (value_of text s.negative) (λ v. Ok (record s { negative = false }))

abbrev pub act_row_right : Seen → Relation → List ℕ → Result Seen FileKind
act_row_right s r text = chain (read_side text s.negative r s.sides) (λ sides. act_end (record s { sides = sides; negative = false }))

-- bounds

abbrev pub with_bounded : Seen → Bounded → Seen
with_bounded s b = record s { draft = b.draft; lowered = b.lowered }

-- the open bound's sides are set by a relation
abbrev pub set_at : Relation → Option ℕ → Seen → Seen
set_at r None s = s
set_at r (Some j) s = record (with_bounded s (set_bound r j s.sides (bounded s.draft s.lowered))) { sides = unbounded }

abbrev pub set_side : Relation → Seen → Seen
set_side r s = set_at r s.column s

abbrev pub act_bound_column : Seen → List ℕ → Result Seen FileKind
act_bound_column s text = chain (stand s.draft text) (λ p. Ok (record s { draft = p.0; column = Some p.1 }))

abbrev pub act_bound_name : Seen → Relation → List ℕ → Result Seen FileKind
act_bound_name s r text = chain (act_bound_column s text) (λ s. Ok (set_side (turned r) s))

abbrev pub free_at : Option ℕ → Seen → Seen
free_at None s = s
free_at (Some j) s = with_bounded s (set_free j (bounded s.draft s.lowered))

abbrev pub act_bound_right : Seen → Relation → List ℕ → Result Seen FileKind
act_bound_right s r text = chain (read_side text s.negative r s.sides) (λ sides. Ok (set_side r (record s { sides = sides; negative = false })))

-- what a token does by its role
abbrev pub act : Seen → Role → List ℕ → Result Seen FileKind
act s (roles.Goal sense) text = Ok (record s { draft = record s.draft { sense = sense } })
act s roles.Mark text = Ok s
act s roles.Plus text = Ok s
act s roles.Minus text = Ok (record s { negative = not s.negative })
act s roles.GoalLabel text = act_goal_label s text
act s roles.RowLabel text = Ok (record s { label = Some text })
act s roles.Coefficient text = act_coefficient s text
act s roles.Constant text = act_constant s text
act s roles.GoalName text = act_goal_name s text
act s roles.RowName text = act_row_name s text
act s roles.RowLast text = act_row_last s text
act s (roles.RowLeft r) text = act_left s r text
act s roles.Stray text = act_stray s text
act s (roles.RowRight r) text = act_row_right s r text
act s (roles.BoundLeft r) text = act_left s r text
act s (roles.BoundName r) text = act_bound_name s r text
act s roles.BoundColumn text = act_bound_column s text
act s roles.BoundFree text = Ok (free_at s.column s)
act s (roles.BoundRight r) text = act_bound_right s r text
act s roles.End text = Ok s
