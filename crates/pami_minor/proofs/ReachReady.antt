-- What a reach asks for, in a Minor behind a step.
use Rattle.std.proofs.Common.{◌≡◌, ℕ, ◌/◌, ◌<◌, List, [], length, get_or, true, Some, refl, sym, ap, ◌∙◌, subst, arith}
use Rattle.std.specs.List.{Contains}
use Rattle.pami_algebra.specs.Fraction.{Fraction}
use Rattle.pami_frac.specs.declared.list.Entry.{Entry}
use Rattle.pami_script.specs.Dense.{at}
use Rattle.pami_theory.specs.Form.{Form, variables, zero_f}
use Rattle.pami_theory.specs.Fresh.{row_at, value_at_place}
use Rattle.pami_theory.specs.Weights.{weight_at}
use Rattle.pami_theory.specs.Choice.{InfeasibleRow}
use Rattle.pami_theory.proofs.Members.{Has, contains_from}
use Rattle.pami_theory.specs.Ratio.{Entering, row_entry, ratio_walk}
use Rattle.pami_theory.specs.Step as theory
use Rattle.pami_theory.specs.Step.{leaving_at, step_by}
use Rattle.pami_theory.proofs.Candidates.{entered_by_walk}
use Rattle.pami_theory.proofs.Steps.{entry_not_zero}
use Rattle.pami_method.specs.Batch as batch
use Rattle.pami_method.specs.Batch.{Reached, places}
use Rattle.pami_method.specs.Scripts.{is_nonbasic}
use Rattle.pami_theory.specs.Basis.{stand_at}
use Rattle.pami_method.proofs.Flips.{step_walk}
use Rattle.pami_method.proofs.Turns.{pivot_parts}
use Rattle.pami_price.specs.Slices.{slices}
use Rattle.pami_deferral.specs.SolvedBatch.{IsSolvedPivot}
use Rattle.pami_deferral.proofs.Chains.{pivot_links, next_basis}
use Rattle.pami_deferral.proofs.Pivots.{step_place}
use Rattle.pami_vec.specs.declared.step.Step.{Step}
use Rattle.pami_minor.specs.declared.kept.Kept.{Kept}
use Rattle.pami_minor.specs.declared.kept.Picked.{Picked}
use Rattle.pami_minor.specs.declared.minor.Minor.{Minor}
use Rattle.pami_minor.specs.Steps.{IsStepOf}
use Rattle.pami_minor.specs.Fresh.{IsFreshRow, IsPickedRow, IsStepping}
use Rattle.pami_minor.specs.Behind.{IsBeforeReach}
use Rattle.pami_minor.proofs.Places.{has_places}
use Rattle.pami_minor.proofs.WalkedRow.{entering_nonbasic}
use Rattle.pami_minor.proofs.Reaching.{in_slice}

pub step_here : (f : Form) (limit : ℕ) (m : batch.Minor) (next : Reached) (i j : ℕ) (minor : Minor) (s : Step) → (h : IsStepping f limit m next i j minor)
    → s ≡ h.step.1 → IsStepOf f m.reached.basis m.reached.fresh m.step s
step_here f limit m next i j minor s h e = subst (IsStepOf f m.reached.basis m.reached.fresh m.step) (sym e) h.step.3

-- the walk of the step
pub record WalksTo (f : Form) (m : batch.Minor) : Type 0 where
  pub entering : Entering
  pub walks : ratio_walk f m.reached.basis (leaving_at m.reached.fresh m.row.place m.row.violation) ≡ Some entering
  pub by : m.step ≡ step_by m.reached.basis m.row.place m.row.violation.side entering

pub walk_of : (f : Form) (limit : ℕ) (m : batch.Minor) (next : Reached) → IsSolvedPivot f limit m next → WalksTo f m
walk_of f limit m next v =
    let w = step_walk f m.reached.basis m.reached.fresh m.row.place m.row.violation m.step
    (pivot_parts f limit m.reached m.dropped m.row m.step v.pivots).3 in
    record { entering = w.0; walks = w.1; by = w.2 }

pub entering_low : (f : Form) (limit : ℕ) (m : batch.Minor) (next : Reached) (s : Step) → IsSolvedPivot f limit m next
    → IsStepOf f m.reached.basis m.reached.fresh m.step s → s.entering < variables f
entering_low f limit m next s v st =
    let w = walk_of f limit m next v in
    let k = (entering_nonbasic f m.reached.basis (leaving_at m.reached.fresh m.row.place m.row.violation) w.entering w.walks).0 in
    let e : s.entering ≡ w.entering.variable = st.entering ∙ ap (λ (t : theory.Step). t.entering) w.by in
    omega (arith, k, e)

pub alpha_count : (f : Form) (limit : ℕ) (m : batch.Minor) (next : Reached) (i j : ℕ) (minor : Minor) → IsStepping f limit m next i j minor
    → length minor.alpha.items ≡ slices (variables f)
alpha_count f limit m next i j minor h =
    h.room.slices ∙ ap slices (ap length h.stands ∙ (next_basis f m next (pivot_links f limit m next h.pivot)).variables_stand)

slice_of : (q n : ℕ) → q < n → q / 64 < slices n
slice_of q n l = omega arith

pub slice_low : (f : Form) (limit : ℕ) (m : batch.Minor) (next : Reached) (i j : ℕ) (minor : Minor) (s : Step) → IsStepping f limit m next i j minor
    → IsStepOf f m.reached.basis m.reached.fresh m.step s → s.entering / 64 < length minor.alpha.items
slice_low f limit m next i j minor s h st =
    subst (λ n. s.entering / 64 < n) (sym (alpha_count f limit m next i j minor h))
    (slice_of s.entering (variables f) (entering_low f limit m next s h.pivot st))

pub pivot_here : (f : Form) (limit : ℕ) (m : batch.Minor) (next : Reached) (i j : ℕ) (minor : Minor) (s : Step) → IsStepping f limit m next i j minor
    → IsStepOf f m.reached.basis m.reached.fresh m.step s
    → at (get_or minor.alpha.items (s.entering / 64) []) s.entering ≡ row_entry f (row_at m.reached.fresh m.step.place) m.step.entering
pivot_here f limit m next i j minor s h st =
    let w = walk_of f limit m next h.pivot in
    let n = (entering_nonbasic f m.reached.basis (leaving_at m.reached.fresh m.row.place m.row.violation) w.entering w.walks).1 in
    let e : s.entering ≡ w.entering.variable = st.entering ∙ ap (λ (t : theory.Step). t.entering) w.by in
    let low = entering_low f limit m next s h.pivot st in
    ap (λ (es : List Entry). at es s.entering) (h.priced.at (s.entering / 64) (slice_of s.entering (variables f) low))
    ∙ in_slice f m.reached.basis (row_entry f (row_at m.reached.fresh m.row.place)) s.entering low
    (subst (λ q. is_nonbasic (stand_at m.reached.basis q) ≡ true) (sym e) n)
    ∙ ap (row_entry f (row_at m.reached.fresh m.row.place)) st.entering
    ∙ ap (λ p. row_entry f (row_at m.reached.fresh p) m.step.entering) (sym (step_place f m next (pivot_links f limit m next h.pivot)))

pub pivot_nonzero : (f : Form) (limit : ℕ) (m : batch.Minor) (next : Reached) → IsSolvedPivot f limit m next
    → ¬ (row_entry f (row_at m.reached.fresh m.step.place) m.step.entering ≡ zero_f)
pivot_nonzero f limit m next v z =
    let w = walk_of f limit m next v in
    let k = (entered_by_walk f m.reached.basis (leaving_at m.reached.fresh m.row.place m.row.violation) w.entering w.walks).0 in
    entry_not_zero f m.reached.basis (leaving_at m.reached.fresh m.row.place m.row.violation) w.entering.variable k.candidate
    (ap (row_entry f (row_at m.reached.fresh m.row.place)) (sym (ap (λ (t : theory.Step). t.entering) w.by))
    ∙ ap (λ p. row_entry f (row_at m.reached.fresh p) m.step.entering) (sym (step_place f m next (pivot_links f limit m next v))) ∙ z)

-- what is handed to a reach is what is solved at the basis before
pub before_reach : (f : Form) (limit : ℕ) (m : batch.Minor) (next : Reached) (i j : ℕ) (minor : Minor) (s : Step) (pivot : Fraction) (p : Picked) (k : Kept)
    (x : InfeasibleRow) → IsStepping f limit m next i j minor → IsStepOf f m.reached.basis m.reached.fresh m.step s
    → pivot ≡ row_entry f (row_at m.reached.fresh m.step.place) m.step.entering → IsPickedRow m.reached m.row p → Has next.rows x → IsFreshRow f m.reached k x
    → IsBeforeReach f limit m next s pivot p.at.rho p.at.weight k.at
before_reach f limit m next i j minor s pivot p k x h st pv pk here row =
    let same = step_place f m next (pivot_links f limit m next h.pivot) in
    let there : x.place ≡ k.at.place = sym row.known.place in
    record {
      placed = h.reached.placed;
      pivot = h.pivot;
      remains = subst (Contains (places next.rows)) there (contains_from (places next.rows) x.place (has_places next.rows x here));
      step_is = st;
      alpha_pq_is = pv;
      rho_p_is = pk.rho ∙ ap (row_at m.reached.fresh) (sym same);
      weight_p_is = pk.weight ∙ ap (weight_at m.reached.weights) (sym same);
      row_is = record {
        place_is = refl;
        value = row.known.value ∙ ap (value_at_place m.reached.basis m.reached.fresh) there;
        weight = row.known.weight ∙ ap (weight_at m.reached.weights) there;
        rho = row.rho ∙ ap (row_at m.reached.fresh) there;
      };
    }
