-- The starting basis: each row variable at the place of its row, each column at a bound, or at 0 where it has none.
use Rattle.std.specs.Prelude.{◌≡◌, ℕ, ◌<◌, Bool, false, map, Option, None, Some, if◌then◌else◌, nat_eq, nat_lt, int_lt}
use Rattle.std.specs.List.{range_with_len}
use Rattle.pami_algebra.specs.Fraction.{Fraction}
use Rattle.pami_frac.specs.Signs.{is_negative}
use Rattle.pami_theory.specs.Form.{Form, limits, cost, variables, row_variable, zero_f}
use Rattle.pami_theory.specs.declared.words.Stand.{Stand}
use Rattle.pami_theory.specs.declared.words.Stand.TheVariants.{Basic, Lower, Upper, Zero}
use Rattle.pami_theory.specs.Basis.{Basis}

-- the same number
abbrev pub is_same : Fraction → Fraction → Bool
is_same p q = if int_lt p.num q.num then false else if int_lt q.num p.num then false else nat_eq p.den q.den

-- a boxed column stands at the bound that its cost asks for
abbrev pub boxed_stand : Bool → Fraction → Stand
boxed_stand fixed cost = if fixed then Lower else if is_negative cost then Upper else Lower

abbrev pub stand_by : Option Fraction → Option Fraction → Fraction → Stand
stand_by None None cost = Zero
stand_by (Some low) None cost = Lower
stand_by None (Some high) cost = Upper
stand_by (Some low) (Some high) cost = boxed_stand (is_same low high) cost

abbrev pub starting_stand : Form → ℕ → Stand
starting_stand f v = if nat_lt v f.columns then stand_by (limits f v).low (limits f v).high (cost f v) else Basic

abbrev pub starting_basis : Form → Basis
starting_basis f = record {
  head = map (row_variable f) (range_with_len 0 f.rows);
  stands = map (starting_stand f) (range_with_len 0 (variables f));
}

-- every column is bounded by 0 from below and not from above
pub record IsStandard (f : Form) : Type 0 where
  pub low : (j : ℕ) → j < f.columns → (limits f j).low ≡ Some zero_f
  pub high : (j : ℕ) → j < f.columns → (limits f j).high ≡ None
