use Rattle.std.proofs.Common.{◌≤◌, ◌+◌, ◌*◌, Option}
use Rattle.pami_method.specs.Factor.{History}
use Rattle.pami_form.specs.FormOf.{form_of}
use Rattle.pami_state.specs.State.{basis_of}
use Rattle.pami_batch.specs.Factors.{HasFactor}
use Rattle.pami_major.specs.EndsMajor.{walk_state}
use Rattle.pami_major.specs.Spent.{IsSpending}
use Rattle.pami_major.specs.Walks.{majors_left, HasSomeFactor, AreCounted}
use Rattle.pami_major.proofs.Turns.{IsTelling}
use Rattle.pami_major.proofs.walk.drive.Given as goal

abbrev pub invariant-loop-outcome : goal.invariant-loop-outcome
invariant-loop-outcome g l =
    ((h : Option History) → HasFactor (form_of l.form) h (basis_of l.fn.state) l.fn.factor
    → IsTelling l.form l.options l.fn.tried (walk_state l.fn.state h) l.state l.factor l.mode l.tried (g.T.Teller.stands l.fn.teller) (g.T.Teller.stands l.teller) (g.T.Teller.faults l.fn.teller) (g.T.Teller.faults l.teller))
    × (l.tried + majors_left l.options.limit l.state l.mode ≤ l.fn.tried + (2 * l.options.limit + 1))
    × HasSomeFactor (form_of l.form) l.state l.factor
    × AreCounted l.fn.tried l.tried (2 * l.options.batch + 2) l.fn.steps.count l.steps.count
    × ((h : Option History) → HasFactor (form_of l.form) h (basis_of l.fn.state) l.fn.factor
    → IsSpending (form_of l.form) l.options l.fn.tried (walk_state l.fn.state h) l.fn.steps.count l.state l.factor l.mode l.tried l.steps.count)

abbrev pub decreases-loop-outcome : goal.decreases-loop-outcome
decreases-loop-outcome g l = majors_left l.options.limit l.state l.mode
