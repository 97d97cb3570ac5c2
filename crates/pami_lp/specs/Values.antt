-- What the numbers and values of a file's tokens are, and what they set; or the first thing that is wrong with them.
use Rattle.std.specs.Prelude.{Bool, List, ℕ, Option, None, Some, Result, Ok, Err, if◌then◌else◌}
use lib.IntN.{pos}
use Rattle.pami_algebra.specs.Fraction.{Fraction}
use Rattle.pami_algebra.specs.Operations.{neg_f, of_int}
use Rattle.pami_frac.specs.declared.arithmetic.Refused.{Refused}
use Rattle.pami_frac.specs.declared.bound.BoundValue.{BoundValue}
use Rattle.pami_frac.specs.declared.bound.BoundValue.TheVariants as values
use Rattle.pami_frac.specs.declared.list.Bounds.{Bounds}
use Rattle.pami_frac.specs.Answers.{then as chain}
use Rattle.pami_frac.specs.Arithmetic.{add_outcome}
use Rattle.pami_frac.specs.Decimal.{decimal_value}
use Rattle.pami_model.specs.declared.fault.FileKind.{FileKind}
use Rattle.pami_model.specs.declared.fault.FileKind.TheVariants as kinds
use Rattle.pami_model.specs.Number.{judge_number, judge_limit, limit_value}
use Rattle.pami_lp_text.specs.declared.kind.Relation.{Relation}
use Rattle.pami_lp_text.specs.declared.kind.Relation.TheVariants as relations

-- a value, unless something is wrong
abbrev pub judged : {A : Type 0} → Option FileKind → A → Result A FileKind
judged None x = Ok x
judged (Some kind) x = Err kind

-- ---- numbers

-- the number that a text spells
abbrev pub number_of : List ℕ → Result Fraction FileKind
number_of text = judged (judge_number text) (decimal_value text)

abbrev pub signed : Bool → Fraction → Fraction
signed negative v = if negative then neg_f v else v

-- the coefficient of a term by its signs and its number, which is 1 where it has none
abbrev pub coefficient_of : Bool → Option Fraction → Fraction
coefficient_of negative None = signed negative (of_int (pos 1))
coefficient_of negative (Some v) = signed negative v

-- a sum that doesn't fit is too wide
abbrev pub sum_by : Result Fraction Refused → Result Fraction FileKind
sum_by (Ok v) = Ok v
sum_by (Err e) = Err kinds.Wide

abbrev pub sum_of : Fraction → Fraction → Result Fraction FileKind
sum_of p q = sum_by (add_outcome p q)

-- ---- values of rows and bounds

-- a value with its signs
abbrev pub signed_value : Bool → BoundValue → BoundValue
signed_value negative (values.Finite v) = values.Finite (signed negative v)
signed_value negative values.Plus = if negative then values.Minus else values.Plus
signed_value negative values.Minus = if negative then values.Plus else values.Minus

-- the value that a text spells behind its signs: a number, or a word for infinity
abbrev pub value_of : List ℕ → Bool → Result BoundValue FileKind
value_of text negative = chain (judged (judge_limit text) (limit_value text)) (λ v. Ok (signed_value negative v))

-- what a value sets to the right of a relation, where an infinite one takes the side away: Plus as an upper side, Minus
-- as a lower one; anywhere else it is refused
abbrev pub side_of : Relation → BoundValue → Result (Option Fraction) FileKind
side_of r (values.Finite v) = Ok (Some v)
side_of relations.AtMost values.Plus = Ok None
side_of relations.AtLeast values.Minus = Ok None
side_of r v = Err kinds.Infinite

-- bounds with what a relation and the value on its right set
abbrev pub with_right : Bounds → Relation → Option Fraction → Bounds
with_right b relations.AtMost v = record { low = b.low; high = v }
with_right b relations.AtLeast v = record { low = v; high = b.high }
with_right b relations.Equal v = record { low = v; high = v }

-- the relation as seen from its other side
abbrev pub turned : Relation → Relation
turned relations.AtMost = relations.AtLeast
turned relations.AtLeast = relations.AtMost
turned relations.Equal = relations.Equal

-- the sides behind a value to the right of a relation
abbrev pub read_side : List ℕ → Bool → Relation → Bounds → Result Bounds FileKind
read_side text negative r b = chain (value_of text negative) (λ v. chain (side_of r v) (λ side. Ok (with_right b r side)))

-- no side
abbrev pub unbounded : Bounds
unbounded = record { low = None; high = None }
