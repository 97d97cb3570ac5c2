-- A step that is taken in: behind it the stands and the head are those of the next basis, and all else is still as before.
use Rattle.std.proofs.Common.{◌≡◌, ℕ, ◌*◌, ◌<◌, ⊎_elim, cond, not, nat_eq, List, [], length, get_or, set, Option, None, Some, Ok, refl, sym, ap, ◌∙◌, subst, arith, vec_capacity}
use Rattle.std.specs.List.{All, filter}
use Rattle.std.proofs.lemmas.Option.{none-some, same_Some}
use Rattle.std.proofs.lemmas.Bool.{cases_eq, eq-eqb, ne_eqb, le-ltb}
use Rattle.std.proofs.lemmas.List.{length-set, get_or-set_same, get_or-set_other, ext_get_or}
use Rattle.pami_linear.specs.Lists.{get}
use Rattle.pami_theory.specs.Form.{Form, variables}
use Rattle.pami_theory.specs.Basis.{Basis, head_at, stand_at}
use Rattle.pami_theory.specs.Fresh.{Fresh}
use Rattle.pami_theory.specs.declared.words.Stand.{Stand}
use Rattle.pami_theory.specs.declared.words.Stand.TheVariants.{Basic, Zero}
use Rattle.pami_theory.specs.declared.words.Side.{Side}
use Rattle.pami_theory.specs.declared.words.Violation.{Violation}
use Rattle.pami_theory.specs.Ratio.{Entering, ratio_walk}
use Rattle.pami_theory.specs.Step as theory
use Rattle.pami_theory.specs.Step.{step_at, step_by, leaving_at, stand_after, basis_after, stand_on, flipped, is_among}
use Rattle.pami_theory.specs.Choice.{InfeasibleRow}
use Rattle.pami_theory.proofs.Tables.{tabled_length, tabled_at}
use Rattle.pami_method.specs.Batch as batch
use Rattle.pami_method.specs.Batch.{Reached, staying, turn, Pivots}
use Rattle.pami_method.proofs.Flips.{step_walk}
use Rattle.pami_method.proofs.Turns.{pivot_parts, pivot_place}
use Rattle.pami_price.specs.Slices.{slices}
use Rattle.pami_bfrt.specs.Walks.{found_by}
use Rattle.pami_bfrt.specs.declared.walk.Walk.{Walk}
use Rattle.pami_deferral.specs.SolvedBatch.{IsSolvedPivot}
use Rattle.pami_vec.specs.declared.step.Step.{Step}
use Rattle.pami_minor.specs.declared.kept.Picked.{Picked}
use Rattle.pami_minor.specs.declared.minor.Minor.{Minor}
use Rattle.pami_minor.specs.Turned.{all_turned, flips_found, IsTaken}
use Rattle.pami_minor.specs.Steps.{IsStepOf, IsStepFor, FollowsWalk}
use Rattle.pami_minor.specs.Fresh.{AreFreshRows, IsPricing, IsStepping, rest_of}
use Rattle.pami_minor.proofs.Turned.{turned_length, turned_at}
use Rattle.pami_minor.proofs.Once.{flips_once, flips_exist}
use Rattle.pami_minor.proofs.WalkedRow.{entering_nonbasic}
use Rattle.pami_minor.proofs.Walking.{picked_is, picked_low}

-- ---- the step that was answered
step_given : (f : Form) (b : Basis) (s : Fresh) (o : Option theory.Step) (step : Step) → IsStepFor f b s o (Some step)
    → (t : theory.Step) × (o ≡ Some t) × IsStepOf f b s t step
step_given f b s None step h = absurd (none-some step (sym h))
step_given f b s (Some t) step h = (t, refl, h)

-- what is known of it
pub record IsGiven (f : Form) (r : Reached) (row : InfeasibleRow) (flips : List ℕ) (step : Step) : Type 0 where
  pub taken : theory.Step
  pub is : step_at f r.basis r.fresh row.place row.violation ≡ Some taken
  pub step_of : IsStepOf f r.basis r.fresh taken step
  pub entering : Entering
  pub walks : ratio_walk f r.basis (leaving_at r.fresh row.place row.violation) ≡ Some entering
  pub by : taken ≡ step_by r.basis row.place row.violation.side entering
  pub flips_are : flips ≡ entering.flips

pub given : (f : Form) (r : Reached) (row : InfeasibleRow) (walk : Walk) (step : Step)
    → FollowsWalk f r.basis r.fresh row.place row.violation (Ok (walk, Some step)) → IsGiven f r row (flips_found (found_by walk)) step
given f r row walk step w =
    let t = step_given f r.basis r.fresh (step_at f r.basis r.fresh row.place row.violation) step w.1 in
    let e = step_walk f r.basis r.fresh row.place row.violation t.0 t.1 in
    record {
      taken = t.0;
      is = t.1;
      step_of = t.2;
      entering = e.0;
      walks = e.1;
      by = e.2;
      flips_are = ap flips_found (w.0 ∙ e.1);
    }

-- ---- what the step asks for
pub given_flips : (f : Form) (limit : ℕ) (r : Reached) (row : InfeasibleRow) (n : ℕ) (minor : Minor) (flips : List ℕ) (step : Step)
    → IsPricing f limit r row n minor → IsGiven f r row flips step → All (λ v. v < length minor.stands.items) flips
given_flips f limit r row n minor flips step h g =
    let many : variables f ≡ length minor.stands.items = sym (ap length h.stands ∙ h.reached.basis.variables_stand) in
    subst (λ (c : ℕ). All (λ v. v < c) flips) many
    (subst (λ (vs : List ℕ). All (λ v. v < variables f) vs) (sym g.flips_are)
    (flips_exist f r.basis (leaving_at r.fresh row.place row.violation) g.entering g.walks))

pub given_places : (f : Form) (limit : ℕ) (r : Reached) (row : InfeasibleRow) (n : ℕ) (minor : Minor) (flips : List ℕ) (step : Step)
    → IsPricing f limit r row n minor → IsGiven f r row flips step
    → (step.place < length minor.head.items) × (step.leaving < length minor.stands.items) × (step.entering < length minor.stands.items)
given_places f limit r row n minor flips step h g =
    let many = ap length h.stands ∙ h.reached.basis.variables_stand in
    let places = ap length h.head ∙ h.reached.basis.places in
    let low = picked_low f limit r row n minor h in
    let place : step.place ≡ row.place = g.step_of.place ∙ ap (λ (t : theory.Step). t.place) g.by in
    let leaving : step.leaving ≡ head_at r.basis row.place = g.step_of.leaving ∙ ap (λ (t : theory.Step). t.leaving) g.by in
    let entering : step.entering ≡ g.entering.variable = g.step_of.entering ∙ ap (λ (t : theory.Step). t.entering) g.by in
    let within = h.reached.basis.within row.place low in
    let enters = (entering_nonbasic f r.basis (leaving_at r.fresh row.place row.violation) g.entering g.walks).0 in
    (omega (arith, place, low, places), omega (arith, leaving, within, many), omega (arith, entering, enters, many))

-- ---- the stands behind it
stands_behind : (b : Basis) (t : theory.Step) (vs : List ℕ) (l q : ℕ) (side : Side) (h : List Stand) → (flips : List ℕ) → flips ≡ t.flips → l ≡ t.leaving → q ≡ t.entering
    → side ≡ t.side → h ≡ b.stands
    → ((u : ℕ) → get_or (all_turned b.stands t.flips) u Zero ≡ cond (is_among u t.flips) (flipped (stand_at b u)) (stand_at b u))
    → t.leaving < length b.stands → t.entering < length b.stands
    → set (set (all_turned h flips) l (stand_on side)) q Basic ≡ (basis_after b t).stands
stands_behind b t vs l q side h flips ef el eq es eh at ll lq =
    let turned : List Stand = all_turned b.stands t.flips in
    let long : length turned ≡ length b.stands = turned_length b.stands t.flips in
    let mid : List Stand = set turned t.leaving (stand_on t.side) in
    let mid_long : length mid ≡ length b.stands = length-set turned t.leaving (stand_on t.side) ∙ long in
    ap (λ ss. set (set (all_turned ss flips) l (stand_on side)) q Basic) eh
    ∙ ap (λ ws. set (set (all_turned b.stands ws) l (stand_on side)) q Basic) ef
    ∙ ap (λ v. set (set turned v (stand_on side)) q Basic) el
    ∙ ap (λ v. set (set turned t.leaving (stand_on v)) q Basic) es
    ∙ ap (λ v. set mid v Basic) eq
    ∙ ext_get_or Zero (set mid t.entering Basic) (basis_after b t).stands
    (length-set mid t.entering Basic ∙ mid_long ∙ sym (tabled_length (length b.stands) (stand_after b t)))
    (λ u m.
    let set_long = length-set mid t.entering Basic in
    let low : u < length b.stands = omega (arith, m, mid_long, set_long) in
    ⊎_elim
    (λ (e : u ≡ t.entering).
    ap (λ w. get_or (set mid t.entering Basic) w Zero) e ∙ get_or-set_same mid t.entering Basic Zero (omega (arith, lq, mid_long))
    ∙ sym (ap (λ c. cond c Basic (cond (nat_eq u t.leaving) (stand_on t.side) (cond (is_among u t.flips) (flipped (stand_at b u)) (stand_at b u)))) (eq-eqb u t.entering e)))
    (λ (n : ¬ (u ≡ t.entering)).
    get_or-set_other mid t.entering u Basic Zero n
    ∙ ⊎_elim
    (λ (e : u ≡ t.leaving).
    ap (λ w. get_or mid w Zero) e ∙ get_or-set_same turned t.leaving (stand_on t.side) Zero (omega (arith, ll, long))
    ∙ sym (ap (λ c. cond c (stand_on t.side) (cond (is_among u t.flips) (flipped (stand_at b u)) (stand_at b u))) (eq-eqb u t.leaving e)))
    (λ (k : ¬ (u ≡ t.leaving)).
    get_or-set_other turned t.leaving u (stand_on t.side) Zero k ∙ at u
    ∙ sym (ap (λ c. cond c (stand_on t.side) (cond (is_among u t.flips) (flipped (stand_at b u)) (stand_at b u))) (ne_eqb u t.leaving k)))
    (cases_eq u t.leaving)
    ∙ sym (ap (λ c. cond c Basic (cond (nat_eq u t.leaving) (stand_on t.side) (cond (is_among u t.flips) (flipped (stand_at b u)) (stand_at b u)))) (ne_eqb u t.entering n)))
    (cases_eq u t.entering)
    ∙ sym (tabled_at (length b.stands) (stand_after b t) u Zero low))

-- ---- the Minor behind it
pub stepped : (f : Form) (limit : ℕ) (m : batch.Minor) (next : Reached) (n : ℕ) (old new : Minor) (flips : List ℕ) (side : Side) (step : Step) (p : Picked)
    → IsPricing f limit m.reached m.row (slices (variables f)) old → IsGiven f m.reached m.row flips step → IsSolvedPivot f limit m next
    → old.picked ≡ Some p → side ≡ p.violation.side → IsTaken flips side step old new → IsStepping f limit m next 0 0 new
stepped f limit m next n old new flips side step p h g v e es t =
    let r : Reached = m.reached in
    let parts = pivot_parts f limit r m.dropped m.row m.step v.pivots in
    let same : g.taken ≡ m.step = same_Some g.taken m.step (sym g.is ∙ parts.3) in
    let is : IsStepOf f r.basis r.fresh m.step step = subst (λ x. IsStepOf f r.basis r.fresh x step) same g.step_of in
    let by : m.step ≡ step_by r.basis m.row.place m.row.violation.side g.entering = sym same ∙ g.by in
    let place : m.step.place ≡ m.row.place = pivot_place f limit r m.dropped m.row m.step v.pivots in
    let flips_here : flips ≡ m.step.flips = g.flips_are ∙ sym (ap (λ (x : theory.Step). x.flips) by) in
    let side_here : side ≡ m.step.side = es ∙ ap (λ (x : Violation). x.side) (picked_is r m.row old p h.picked e).violation ∙ sym (ap (λ (x : theory.Step). x.side) by) in
    let many : length r.basis.stands ≡ variables f = h.reached.basis.variables_stand in
    let low = picked_low f limit r m.row (slices (variables f)) old h in
    let leaving : m.step.leaving ≡ head_at r.basis m.row.place = ap (λ (x : theory.Step). x.leaving) by in
    let entering : m.step.entering ≡ g.entering.variable = ap (λ (x : theory.Step). x.entering) by in
    let within = h.reached.basis.within m.row.place low in
    let enters = (entering_nonbasic f r.basis (leaving_at r.fresh m.row.place m.row.violation) g.entering g.walks).0 in
    let exist = subst (λ (c : ℕ). All (λ w. w < c) g.entering.flips) (sym many) (flips_exist f r.basis (leaving_at r.fresh m.row.place m.row.violation) g.entering g.walks) in
    let at : (u : ℕ) → get_or (all_turned r.basis.stands m.step.flips) u Zero ≡ cond (is_among u m.step.flips) (flipped (stand_at r.basis u)) (stand_at r.basis u) =
    λ u. subst (λ (ws : List ℕ). get_or (all_turned r.basis.stands ws) u Zero ≡ cond (is_among u ws) (flipped (stand_at r.basis u)) (stand_at r.basis u))
    (sym (ap (λ (x : theory.Step). x.flips) by))
    (turned_at g.entering.flips r.basis.stands u (flips_once f r.basis (leaving_at r.fresh m.row.place m.row.violation) g.entering g.walks) exist) in
    let rest : rest_of f r m.row ≡ next.rows =
    ap (λ q. filter (λ (x : InfeasibleRow). not (nat_eq x.place q)) (staying f r)) (sym place) ∙ sym v.behind.rows in
    let stands : new.stands.items ≡ (basis_after r.basis m.step).stands =
    t.stands ∙ stands_behind r.basis m.step [] step.leaving step.entering side old.stands.items flips flips_here is.leaving is.entering side_here h.stands at
    (omega (arith, leaving, within, many)) (omega (arith, entering, enters, many)) in
    let below = h.pick.below in
    let most = h.limited.most in
    let count = h.limited.count_is in
    let counted = t.count in
    let reached_count = v.behind.count in
    let room = h.room in
    let few : length (rest_of f r m.row) ≡ length next.rows = ap length rest in
    let nows = room.nows in let dropped = room.dropped in let remaining = room.remaining in let steps = room.steps in
    let kn : vec_capacity new.nows ≡ vec_capacity old.nows = ap vec_capacity t.nows in
    let kd : vec_capacity new.dropped ≡ vec_capacity old.dropped = ap vec_capacity t.dropped in
    let kr : vec_capacity new.remaining ≡ vec_capacity old.remaining = ap vec_capacity t.remaining in
    let sl = t.steps_len in let sr = t.steps_room in
    record {
      reached = h.reached;
      pivot = v;
      head = t.head ∙ ap (λ hs. set hs step.place step.entering) h.head ∙ ap (λ q. set r.basis.head q step.entering) is.place
          ∙ ap (set r.basis.head m.step.place) is.entering ∙ sym (ap (λ (x : Basis). x.head) v.behind.basis);
      stands = stands ∙ sym (ap (λ (x : Basis). x.stands) v.behind.basis);
      limited = record {
        count_is = omega (arith, counted, count, reached_count);
        limit_is = t.limit ∙ h.limited.limit_is;
        most = omega (arith, below, most, reached_count);
        few = h.limited.few;
      };
      within = omega arith;
      reached_rows = tt;
      other_rows = subst (λ xs. AreFreshRows f r new.rows.items xs) rest (subst (λ ks. AreFreshRows f r ks (rest_of f r m.row)) (sym (ap (λ x. x.items) t.rows)) h.rows);
      remaining = ap (λ x. x.items) t.remaining ∙ h.remaining ∙ ap batch.places rest;
      shifted = record {
        by_variable = ap (λ x. length x.items) t.reduced ∙ ap length h.reduced ∙ h.reached.fresh.reduced_by_variable;
        at = λ w l. ap (λ x. get x.items w) t.reduced ∙ ap (λ xs. get xs w) h.reduced
            ∙ sym (ap (λ c. cond c (get next.fresh.reduced w) (get r.fresh.reduced w)) (le-ltb w (64 * 0) (omega arith)));
      };
      picked = (h.picked.0, t.picked ∙ h.picked.1, h.picked.2);
      priced = record { at = λ slice l. ap (λ x. get_or x.items slice []) t.alpha ∙ h.priced.at slice l };
      step = (old.steps.items, step, t.steps, is);
      room = record {
        nows = omega (arith, few, nows, kn);
        dropped = omega (arith, few, dropped, kd);
        remaining = omega (arith, few, remaining, kr);
        steps = omega (arith, few, steps, sl, sr);
        slices = ap (λ x. length x.items) t.alpha ∙ room.slices ∙ ap slices (ap length h.stands ∙ sym (tabled_length (length r.basis.stands) (stand_after r.basis m.step)) ∙ sym (ap length stands));
      };
    }
