-- What follows an optimal end of phase one: the test for its last basis, the switch, and where phase two goes on.
use Rattle.std.proofs.Common.{◌≡◌, ◌≤◌, ℕ, List, [], ◌∷◌, ◌++◌, length, replicate, None, Some, Ok, refl, sym, ap, ◌∙◌, subst, append-nil, arith}
use Rattle.std.proofs.lemmas.List.{length-replicate}
use Rattle.pami_frac.specs.declared.arithmetic.Refused.{Refused}
use Rattle.pami_theory.specs.Form as theory
use Rattle.pami_theory.specs.Basis.{Basis, IsBasis, IsRegularBasis}
use Rattle.pami_theory.specs.Fresh.{Fresh, IsFresh, IsDualFeasible}
use Rattle.pami_theory.specs.Boxes.{boxes_of, CanBeDualFeasible, switched_basis}
use Rattle.pami_theory.proofs.Solved.{has_fresh, fresh_regular}
use Rattle.pami_theory.proofs.Switched.{switch_is_basis, switch_regular}
use Rattle.pami_theory.proofs.Boxed.{can_iff}
use Rattle.pami_method.specs.declared.words.Options.{Options}
use Rattle.pami_method.specs.declared.words.Spot.TheVariants.{Switch}
use Rattle.pami_method.specs.Factor.{History}
use Rattle.pami_method.specs.Walk as method
use Rattle.pami_method.specs.Phases as phases
use Rattle.pami_method.specs.Phases.{switch_refused, switched_state, IsSwitch, dual_infeasible, refused_switch}
use Rattle.pami_devex.specs.Weights.{AreWeights}
use Rattle.pami_form.specs.declared.form.Form.{Form}
use Rattle.pami_state.specs.declared.state.State.{State}
use Rattle.pami_state.specs.State.{basis_of, IsSolvedAfresh}
use Rattle.pami_state.proofs.Formed.{has_bounds}
use Rattle.pami_log.specs.declared.event.Event.{Event}
use Rattle.pami_log.specs.declared.event.Event.TheVariants as told
use Rattle.pami_form.specs.FormOf.{form_of}
use Rattle.pami_major.specs.Ready.{IsReady}
use Rattle.pami_factor.specs.Value.{Product}
use Rattle.pami_batch.specs.Factors.{IsFactorOf, HasFactor}
use Rattle.pami_major.specs.EndsMajor.{walk_state}
use Rattle.pami_major.proofs.Places.{values_at_places}
use Rattle.pami_phase.specs.declared.answer.Answer.TheVariants as answers
use Rattle.pami_phase.specs.Runs.{BeginsRun, EndsRun, LeadsOn, boxes_events, EndsInBoxes, IsBoxesEnd, IsSwitchedFrom, IsSwitchable}
use Rattle.pami_phase.proofs.Feasible.{same_reduced}
use Rattle.pami_batch.proofs.StartedStates.{ones_are}
use Rattle.pami_phase.proofs.Further.{answered}
use Rattle.pami_phase.proofs.Beginnings.{switch_leads, switch_begins, phase_one_begins}

-- ---- the state that is moved to the form's own bounds
module _ (form boxes : Form) (limit : ℕ) (state : State) (e : form_of boxes ≡ boxes_of (form_of form)) (r : IsReady boxes limit state) where
  abbrev f : theory.Form
  f = form_of form

  pub boxes_basis : IsBasis (boxes_of f) (basis_of state)
  boxes_basis = subst (λ (g : theory.Form). IsBasis g (basis_of state)) e r.basis

  pub boxes_solved : IsSolvedAfresh (boxes_of f) state
  boxes_solved = subst (λ (g : theory.Form). IsSolvedAfresh g state) e r.solved

  module _ (moved : State) (b : basis_of moved ≡ switched_basis f (basis_of state) state.reduced) (values : moved.values ≡ state.values) (reduced : moved.reduced ≡ state.reduced) (pivots : moved.pivots ≡ state.pivots) where
    -- in the words of what is solved in the boxes
    pub moved_by : basis_of moved ≡ switched_basis f (basis_of state) boxes_solved.fresh.reduced
    moved_by = b ∙ ap (switched_basis f (basis_of state)) boxes_solved.reduced

    -- the lists still go over all variables
    pub moved_stands : length moved.stands ≡ length form.bounds
    moved_stands =
        ap (λ (x : Basis). length x.stands) moved_by ∙ (switch_is_basis f (basis_of state) boxes_solved.fresh.reduced boxes_basis).variables_stand
        ∙ sym (has_bounds form.columns form.bounds form.costs form.kept.form).by_variable

    pub moved_reduced : length moved.reduced ≡ length form.bounds
    moved_reduced = ap length (reduced ∙ boxes_solved.reduced) ∙ boxes_solved.solved.reduced_by_variable ∙ sym (has_bounds form.columns form.bounds form.costs form.kept.form).by_variable

    pub switchable : CanBeDualFeasible f (basis_of state) → IsSwitchable f limit moved
    switchable can =
        let a = boxes_solved in
        let next = switched_basis f (basis_of state) a.fresh.reduced in
        let head : moved.head ≡ state.head = ap (λ (x : Basis). x.head) b in
        let within : state.pivots ≤ limit = r.within in
        record {
          basis = subst (IsBasis f) (sym moved_by) (switch_is_basis f (basis_of state) a.fresh.reduced boxes_basis);
          regular = subst (IsRegularBasis f) (sym moved_by) (switch_regular f (basis_of state) a.fresh.reduced (fresh_regular (boxes_of f) (basis_of state) a.fresh a.solved));
          feasible = subst (IsDualFeasible f) (sym moved_by) ((can_iff f (basis_of state) a.fresh boxes_basis a.solved).0 can);
          values = ap length values ∙ values_at_places boxes limit state r ∙ ap length (sym head);
          reduced = λ t fresh. reduced ∙ a.reduced ∙ same_reduced f (basis_of state) a.fresh t boxes_basis a.solved (subst (λ (x : Basis). IsFresh f x t) moved_by fresh);
          within = omega (arith, pivots, within);
        }

    module _ (o : Options) (majors : List method.Major) (st : method.State) (tried : ℕ) (ended : IsBoxesEnd f o majors st state tried) where
      pub switched_from : CanBeDualFeasible f (basis_of state) → IsSwitchedFrom f o majors st moved tried
      switched_from can = record {
        ended = ended.ended;
        boxed = boxes_solved.fresh;
        boxed_is = subst (λ (x : Basis). IsFresh (boxes_of f) x boxes_solved.fresh) (sym ended.same) boxes_solved.solved;
        feasible = subst (CanBeDualFeasible f) (sym ended.same) can;
        same = moved_by ∙ ap (λ (x : Basis). switched_basis f x boxes_solved.fresh.reduced) (sym ended.same);
        counted = ended.counted ∙ sym pivots;
        tried_is = ended.tried_is;
      }

      pub never_dual : (stood stopped : List Event → Type 0) (n : ℕ) → ¬ CanBeDualFeasible f (basis_of state) → EndsRun f o (boxes_events f o majors) stood stood stopped n n (Ok (answers.DualInfeasible state boxes))
      never_dual stood stopped n never =
          let a = boxes_solved in
          let s = ended.ended.starts.starts in
          let fresh : IsFresh (boxes_of f) st.basis a.fresh = subst (λ (x : Basis). IsFresh (boxes_of f) x a.fresh) (sym ended.same) a.solved in
          answered f o (boxes_events f o majors) stood stopped n (answers.DualInfeasible state boxes) (phases.DualInfeasible st a.fresh)
          (record {
            record_of = _;
            run = dual_infeasible s.fresh a.fresh majors st s.fresh_is s.fits ended.ended.starts.not_feasible ended.ended.phase (λ can. never (subst (CanBeDualFeasible f) ended.same can)) fresh;
            whole = refl;
          })
          (record {
            is = (record { same = ended.same; counted = ended.counted; weights = ended.weights; basis = boxes_basis; solved = a; fresh = refl }, e);
            state = record { basis = boxes_basis; solved = a };
          })

-- what phase one told so far
pub ended_begins : (f : theory.Form) (o : Options) (majors : List method.Major) (st : method.State) → 1 ≤ o.batch → EndsInBoxes f o majors st → BeginsRun f o (boxes_events f o majors)
ended_begins f o majors st some ended = phase_one_begins f o majors (method.Optimal st) some ended.starts ended.phase

-- ---- the switch
module _ (f : theory.Form) (o : Options) (majors : List method.Major) (st : method.State) (moved : State) (tried : ℕ) (ready : IsSwitchable f o.limit moved) (from : IsSwitchedFrom f o majors st moved tried) where
  abbrev before : List Event
  before = boxes_events f o majors ++ told.Phase 2 ∷ []

  switch_is : (t : Fresh) → IsFresh f (basis_of moved) t → IsSwitch f st (basis_of moved) t
  switch_is t fresh = record { boxed = from.boxed; boxed_is = from.boxed_is; feasible = from.feasible; basis = from.same; fresh = fresh }

  any_fresh : (t : Fresh) × IsFresh f (basis_of moved) t
  any_fresh = has_fresh f (basis_of moved) ready.basis ready.regular

  within : st.count ≤ o.limit
  within = let a : st.count ≡ moved.pivots = from.counted in let b : moved.pivots ≤ o.limit = ready.within in omega (arith, a, b)

  pub phase_two_begins : 1 ≤ o.batch → BeginsRun f o before
  phase_two_begins some = switch_begins f o majors st (basis_of moved) any_fresh.0 some from.ended (switch_is any_fresh.0 any_fresh.1) within

  pub unswitched : (stood stopped : List Event → Type 0) (n : ℕ) (refused : Refused) → ((t : Fresh) → IsFresh f (basis_of moved) t → switch_refused f (basis_of moved) t ≡ Some refused)
      → EndsRun f o before stood stood stopped n n (Ok (answers.Overflow (record { task = Switch; refused = refused })))
  unswitched stood stopped n refused h =
      let t = any_fresh in
      let s = from.ended.starts.starts in
      answered f o before stood stopped n (answers.Overflow (record { task = Switch; refused = refused })) (phases.Overflow (record { task = Switch; refused = refused }))
      (record {
        record_of = _;
        run = refused_switch s.fresh majors st (basis_of moved) t.0 refused s.fresh_is s.fits from.ended.starts.not_feasible from.ended.phase (switch_is t.0 t.1) (h t.0 t.1);
        whole = sym (append-nil before);
      })
      (record { is = refl; state = tt })

  -- the state that is switched to
  module _ (next : State) (b : basis_of next ≡ basis_of moved) (w : next.weights ≡ replicate f.rows 1) (p : next.pivots ≡ moved.pivots) where
    -- its factor is new
    abbrev pub new_history : History
    new_history = record { head = next.head; pivots = [] }

    state_is : switched_state f (basis_of moved) st.count ≡ walk_state next (Some new_history)
    state_is =
        ap (λ (x : Basis). record { basis = x; weights = replicate f.rows 1; count = st.count; history = Some (record { head = x.head; pivots = [] }) }) (sym b)
        ∙ ap (λ (x : List ℕ). record { basis = basis_of next; weights = x; count = st.count; history = Some new_history }) (sym w)
        ∙ ap (λ k. record { basis = basis_of next; weights = next.weights; count = k; history = Some new_history }) (from.counted ∙ sym p)

    pub switched_leads : ((t : Fresh) → IsFresh f (basis_of moved) t → switch_refused f (basis_of moved) t ≡ None) → LeadsOn f o before tried (walk_state next (Some new_history))
    switched_leads h =
        let t = any_fresh in
        subst (λ k. LeadsOn f o before k (walk_state next (Some new_history))) (sym from.tried_is)
        (subst (LeadsOn f o before (length majors)) state_is (switch_leads f o majors st (basis_of moved) t.0 from.ended (switch_is t.0 t.1) (h t.0 t.1)))

-- its factor is the one that the switch eliminated
pub next_factor : (f : theory.Form) (moved next : State) (factor : Product) → basis_of next ≡ basis_of moved → IsFactorOf f (record { head = moved.head; pivots = [] }) (basis_of moved) factor
    → HasFactor f (Some (record { head = next.head; pivots = [] })) (basis_of next) (Some factor)
next_factor f moved next factor b k = subst (λ (x : Basis). IsFactorOf f (record { head = x.head; pivots = [] }) x factor) (sym b) k

-- phase two may begin there
pub next_ready : (form : Form) (limit : ℕ) (moved next : State) → IsSwitchable (form_of form) limit moved → basis_of next ≡ basis_of moved → IsSolvedAfresh (form_of form) next → next.weights ≡ replicate (form_of form).rows 1 → next.pivots ≡ moved.pivots
    → IsReady form limit next
next_ready form limit moved next ready b solved w p =
    let f = form_of form in
    let is : IsBasis f (basis_of next) = subst (IsBasis f) (sym b) ready.basis in
    let k : moved.pivots ≤ limit = ready.within in
    record {
      basis = is;
      feasible = subst (IsDualFeasible f) (sym b) ready.feasible;
      solved = solved;
      weights = ap length w ∙ length-replicate f.rows 1 ∙ sym is.places;
      range = subst AreWeights (sym w) (ones_are f.rows);
      within = omega (arith, p, k);
    }
