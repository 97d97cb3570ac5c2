-- The switch as one script over an elimination.
use Rattle.std.specs.Prelude.{◌≡◌, ℕ, List, [], slice_index_or, Result, Ok, Err}
use Rattle.pami_algebra.specs.Fraction.{Fraction}
use Rattle.pami_frac.specs.declared.arithmetic.Refused.{Refused}
use Rattle.pami_factoring.specs.declared.kept.Kept.{Kept}
use Rattle.pami_factoring.specs.declared.kept.LuFault.{LuFault}
use Rattle.pami_factoring.specs.declared.kept.LuFault.TheVariants.{Singular, Refused as Unfit}
use Rattle.pami_factoring.specs.Solve.{forward_script}
use Rattle.pami_linear.specs.Lists.{get}
use Rattle.pami_script.specs.Script.{then}
use Rattle.pami_theory.specs.Form.{Form, limits}
use Rattle.pami_theory.specs.Basis.{Basis}
use Rattle.pami_theory.specs.Boxes.{switched_by, unless_basic}
use Rattle.pami_frac.specs.declared.list.Bounds.{Bounds}
use Rattle.pami_frac.specs.declared.fault.Fault.{Fault}
use Rattle.pami_frac.specs.declared.fault.Fault.TheVariants as faults
use Rattle.pami_theory.specs.declared.words.Stand.{Stand}
use Rattle.pami_theory.specs.declared.words.Stand.TheVariants.{Zero}
use Rattle.pami_state.specs.Columns.{bounds_form}
use Rattle.pami_theory.specs.Fresh.{Fresh}
use Rattle.pami_method.specs.Factor.{elimination}
use Rattle.pami_method.specs.Scripts.{zeros}
use Rattle.pami_method.specs.Phases.{nonbasic_script, nonbasic}

-- none of these eliminations ends at a place
abbrev pub with_steps : {A : Type 0} → Result (List Kept) LuFault → (List Kept → Result A Refused) → Result A Refused
with_steps (Ok ks) f = f ks
with_steps (Err (Unfit r)) f = Err r
with_steps (Err (Singular place)) f = f []

-- the right side: what the nonbasic variables take from each row
abbrev pub side_script : Form → Basis → Fresh → Result (List Fraction) Refused
side_script f b s = nonbasic_script f (get s.values) (nonbasic f b) (zeros f.rows)

-- the values by place: a new elimination, the right side, and the forward solve
abbrev pub switch_script : Form → Basis → Fresh → Result (List Fraction) Refused
switch_script f b s = with_steps (elimination f b.head) (λ ks. then (side_script f b s) (λ rows. forward_script ks [] rows))

-- where a variable stands on its own bounds; reduced costs go by variable
abbrev pub switched_at : List Bounds → List Stand → List Fraction → ℕ → Stand
switched_at bounds stands reduced v =
    unless_basic (slice_index_or stands v Zero) (switched_by (limits (bounds_form 0 bounds) v).low (limits (bounds_form 0 bounds) v).high (get reduced v))

-- Ok exactly with the elimination's steps, a refusal exactly with its first refused operation
abbrev pub FollowsSteps : Result (List Kept) LuFault → Result (List Kept) (Fault Refused) → Type 0
FollowsSteps script (Ok ks) = script ≡ Ok ks
FollowsSteps script (Err (faults.Named r)) = script ≡ Err (Unfit r)
FollowsSteps script (Err faults.OutOfMemory) = Unit {0}
