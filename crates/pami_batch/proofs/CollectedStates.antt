-- The state that is collected is what the batch has reached.
use Rattle.std.proofs.Common.{◌≡◌, ◌+◌, ◌<◌, ◌^◌, List, [], map, length, sym, ap, ◌∙◌, arith}
use Rattle.std.proofs.lemmas.List.{length-map}
use Rattle.pami_algebra.specs.Fraction.{Fraction}
use Rattle.pami_factoring.specs.Solve.{ColumnPivot}
use Rattle.pami_theory.specs.Form.{Form}
use Rattle.pami_theory.specs.Basis.{Basis}
use Rattle.pami_method.specs.Work.{pivot_of}
use Rattle.pami_method.proofs.Counts.{batch_counts, batch_within}
use Rattle.pami_deferral.specs.Collected.{deferred_pivots, reweighed}
use Rattle.pami_deferral.proofs.Chains.{solved_chain}
use Rattle.pami_deferral.proofs.CollectedValues.{deferred_are, weights_are}
use Rattle.pami_vec.specs.declared.step.Step.{Step}
use Rattle.pami_vec.specs.declared.step.Pivot.{Pivot}
use Rattle.pami_vec.specs.Pivots.{column_pivot, column_pivots}
use Rattle.pami_state.specs.State.{values_by_place}
use Rattle.pami_state.specs.declared.state.State.{State}
use Rattle.pami_state.specs.declared.state.BatchEnd.{BatchEnd}
use Rattle.pami_collect.specs.CollectedState.{IsCollectedState}
use Rattle.pami_batch.specs.Batches.{IsStateOf}
use Rattle.pami_batch.specs.FinishedBatch.{FinishedBatch, HasSteps, BeginsAt}

pub is_state : (f : Form) (b : FinishedBatch) (ss : List Step) (before : State) (after : BatchEnd) (values : List Fraction) (pivots : List ColumnPivot)
    (new : State) → HasSteps f ss b → BeginsAt before b
    → (after.head ≡ b.last.basis.head) × (after.stands ≡ b.last.basis.stands) × (after.reduced ≡ b.last.fresh.reduced)
    → values ≡ values_by_place f b.last.basis b.last.fresh → pivots ≡ map pivot_of b.minors
    → IsCollectedState before after values pivots new → IsStateOf f b.last new
is_state f b ss before after values pivots new has begins end v p c =
    let s = has.solved in
    let chain = solved_chain f b.limit b.first b.minors b.last s in
    let all : deferred_pivots b.first [] b.minors ≡ map pivot_of b.minors = deferred_are f b.first b.minors b.last s.fresh chain in
    record {
      basis = ap (λ hd. record { head = hd; stands = new.stands }) (c.head ∙ end.0)
          ∙ ap (λ st. record { head = b.last.basis.head; stands = st }) (c.stands ∙ end.1);
      values = c.values_are ∙ v;
      reduced = c.reduced ∙ end.2;
      weights = c.weights ∙ ap (λ qs. reweighed qs before.weights) (p ∙ sym all) ∙ ap (reweighed (deferred_pivots b.first [] b.minors)) (sym begins.weights)
          ∙ weights_are f b.first b.minors b.last s.fresh chain;
      range = c.range;
      count = c.count ∙ ap (λ n. n + length pivots) (sym begins.count) ∙ ap (λ n. b.first.count + n) (ap length p ∙ length-map b.minors pivot_of)
          ∙ sym (batch_counts f b.limit b.first b.minors b.last s.batch);
    }

-- ---- what the call that makes it asks for
pub weights_long : (f : Form) (st : State) (b : FinishedBatch) (ss : List Step) → HasSteps f ss b → BeginsAt st b → length st.weights ≡ length st.head
    → length st.weights ≡ f.rows
weights_long f st b ss has begins e = e ∙ sym (ap (λ (x : Basis). length x.head) begins.basis) ∙ has.solved.basis.places

pub counted_within : (f : Form) (st : State) (b : FinishedBatch) (ss : List Step) (pivots : List Pivot) → HasSteps f ss b → BeginsAt st b
    → column_pivots pivots ≡ map pivot_of b.minors
    → st.pivots + length pivots < 2 ^ 32
counted_within f st b ss pivots has begins e =
    let s = has.solved in
    let n : length pivots ≡ length b.minors = sym (length-map pivots column_pivot) ∙ ap length e ∙ length-map b.minors pivot_of in
    let c = batch_counts f b.limit b.first b.minors b.last s.batch in
    let w = batch_within f b.limit b.first b.minors b.last s.batch has.most in
    let k = begins.count in
    let few = has.few in
    omega (arith, n, c, w, k, few)
