-- The state at the start of a form: a walk may begin there, and it is the method's.
use Rattle.std.proofs.Common.{◌≡◌, ◌↔◌, IsTrue, Bool, ℕ, List, length, replicate, None, sym, ap, ◌∙◌, subst}
use Rattle.pami_theory.specs.Form.{Form}
use Rattle.pami_theory.specs.Basis.{Basis}
use Rattle.pami_theory.specs.Fresh.{IsFresh, IsDualFeasible}
use Rattle.pami_theory.specs.Start.{starting_basis}
use Rattle.pami_theory.proofs.Starts.{start_is_basis}
use Rattle.pami_method.specs.Phases.{starting_state}
use Rattle.pami_form.specs.declared.form.Form.{Form as ProgramForm}
use Rattle.pami_state.specs.declared.state.State.{State}
use Rattle.pami_frac.specs.declared.list.Bounds.{Bounds}
use Rattle.pami_state.specs.Columns.{HasBounds}
use Rattle.pami_state.specs.State.{basis_of, IsSolvedAfresh}
use Rattle.pami_state.proofs.Formed.{has_bounds}
use Rattle.pami_form.specs.FormOf.{form_of}
use Rattle.pami_major.specs.Ready.{IsReady}
use Rattle.pami_major.specs.EndsMajor.{walk_state}
use Rattle.pami_major.proofs.Starts.{starts_at}
use Rattle.pami_phase.specs.Starts.{IsStart}
use Rattle.pami_phase.specs.Runs.{Starts}

-- the starting state is one from which a walk may begin
pub start_ready : (form : ProgramForm) (limit : ℕ) (f : Form) (st : State) → form_of form ≡ f → IsStart f st → IsDualFeasible f (starting_basis f) → IsReady form limit st
start_ready form limit f st is h d =
    starts_at form limit f st (sym is) h.basis h.solved h.weights h.pivots (subst (IsDualFeasible f) (sym h.basis) d)

-- and it is the method's
pub start_state : (f : Form) (st : State) → IsStart f st → walk_state st None ≡ starting_state f
start_state f st h =
    ap (λ (b : Basis). record { basis = b; weights = st.weights; count = st.pivots; history = None }) h.basis
    ∙ ap (λ (ws : List ℕ). record { basis = starting_basis f; weights = ws; count = st.pivots; history = None }) h.weights
    ∙ ap (λ (n : ℕ). record { basis = starting_basis f; weights = replicate f.rows 1; count = n; history = None }) h.pivots

pub starts_of : (f : Form) (st : State) → IsStart f st → Starts f
starts_of f st h =
    let fresh : IsFresh f (starting_basis f) h.solved.fresh = subst (λ b. IsFresh f b h.solved.fresh) h.basis h.solved.solved in
    record { fresh = h.solved.fresh; fresh_is = fresh; fits = h.fits h.solved.fresh fresh }

-- its lists go over all variables
pub start_stands : (form : ProgramForm) (st : State) (lent : List Bounds) → lent ≡ form.bounds → IsStart (form_of form) st → length st.stands ≡ length lent
start_stands form st lent e h =
    ap (λ (b : Basis). length b.stands) h.basis ∙ (start_is_basis (form_of form)).variables_stand ∙ sym (has_bounds form.columns form.bounds form.costs form.kept.form).by_variable ∙ sym (ap length e)

pub start_reduced : (form : ProgramForm) (st : State) (lent : List Bounds) → lent ≡ form.bounds → IsStart (form_of form) st → length st.reduced ≡ length lent
start_reduced form st lent e h =
    ap length h.solved.reduced ∙ h.solved.solved.reduced_by_variable ∙ sym (has_bounds form.columns form.bounds form.costs form.kept.form).by_variable ∙ sym (ap length e)

-- the test of its signs
pub start_feasible : (form : ProgramForm) (st : State) (lent : List Bounds) (t : Bool) → lent ≡ form.bounds → IsStart (form_of form) st
    → ((g : Form) → HasBounds g lent → IsSolvedAfresh g st → IsTrue t ↔ IsDualFeasible g (basis_of st)) → IsTrue t ↔ IsDualFeasible (form_of form) (starting_basis (form_of form))
start_feasible form st lent t e h k =
    let f = form_of form in
    subst (λ (b : Basis). IsTrue t ↔ IsDualFeasible f b) h.basis
    (k f (subst (HasBounds f) (sym e) (has_bounds form.columns form.bounds form.costs form.kept.form)) h.solved)
