-- Phase one by boxes: the same columns and costs with other bounds, in which every basis can be made dual feasible
-- (Koberstein 2005, section 4.4), and the way back.
use Rattle.std.specs.Prelude.{ℕ, Bool, List, map, length, Option, None, Some, if◌then◌else◌}
use Rattle.std.specs.List.{range_with_len}
use lib.IntN.{pos, negsuc}
use Rattle.pami_algebra.specs.Fraction.{Fraction}
use Rattle.pami_algebra.specs.Operations.{of_int, is_below}
use Rattle.pami_linear.specs.Lists.{get}
use Rattle.pami_frac.specs.declared.list.Bounds.{Bounds}
use Rattle.pami_theory.specs.Form.{Form, limits, zero_f}
use Rattle.pami_theory.specs.declared.words.Stand.{Stand}
use Rattle.pami_theory.specs.declared.words.Stand.TheVariants.{Basic, Lower, Upper, Zero}
use Rattle.pami_theory.specs.Basis.{Basis, stand_at, IsBasis}
use Rattle.pami_theory.specs.Fresh.{IsDualFeasible}
use Rattle.pami_theory.specs.Start.{is_same}

abbrev pub between : Fraction → Fraction → Bounds
between low high = record { low = Some low; high = Some high }

-- 0 for a finite bound, and 1 away from it where there is none
abbrev pub box_by : Option Fraction → Option Fraction → Bounds
box_by None None = between (of_int (negsuc 0)) (of_int (pos 1))
box_by (Some low) None = between zero_f (of_int (pos 1))
box_by None (Some high) = between (of_int (negsuc 0)) zero_f
box_by (Some low) (Some high) = between zero_f zero_f

abbrev pub box : Bounds → Bounds
box l = box_by l.low l.high

-- the form with each variable in its box
abbrev pub boxes_of : Form → Form
boxes_of f = record { rows = f.rows; columns = f.columns; entries = f.entries; bounds = map box f.bounds; costs = f.costs }

-- the head of b is dual feasible where the nonbasic variables stand in some way
pub record CanBeDualFeasible (f : Form) (b : Basis) : Type 0 where
  pub stands : List Stand
  pub basis : IsBasis f (record { head = b.head; stands = stands })
  pub signed : IsDualFeasible f (record { head = b.head; stands = stands })

-- the bound that the sign of the reduced cost asks for, where there is a choice
abbrev pub boxed_by : Bool → Fraction → Stand
boxed_by fixed d = if fixed then Lower else if is_below d zero_f then Upper else Lower

abbrev pub switched_by : Option Fraction → Option Fraction → Fraction → Stand
switched_by None None d = Zero
switched_by (Some low) None d = Lower
switched_by None (Some high) d = Upper
switched_by (Some low) (Some high) d = boxed_by (is_same low high) d

abbrev pub unless_basic : Stand → Stand → Stand
unless_basic Basic otherwise = Basic
unless_basic Lower otherwise = otherwise
unless_basic Upper otherwise = otherwise
unless_basic Zero otherwise = otherwise

-- where a variable with the reduced cost d stands in the form itself
abbrev pub switched_stand : Form → Basis → List Fraction → ℕ → Stand
switched_stand f b d v = unless_basic (stand_at b v) (switched_by (limits f v).low (limits f v).high (get d v))

-- the same head on the form's own bounds; d goes by variable
abbrev pub switched_basis : Form → Basis → List Fraction → Basis
switched_basis f b d = record { head = b.head; stands = map (switched_stand f b d) (range_with_len 0 (length b.stands)) }
