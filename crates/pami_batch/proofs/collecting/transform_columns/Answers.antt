use Rattle.std.proofs.Common.{◌≡◌, ℕ, ◌+◌, ◌<◌, ◌∙◌, ap, sym, subst, arith, List, [], length, get_or}
use Rattle.std.proofs.lemmas.List.{length-map}
use Rattle.pami_algebra.specs.Fraction.{Fraction}
use Rattle.pami_factoring.specs.Solve.{transform_script}
use Rattle.pami_method.specs.Work.{transform_tasks, first_refused}
use Rattle.pami_method.specs.declared.words.Spot.TheVariants.{Transform}
use Rattle.pami_theory.specs.Form.{Form}
use Rattle.pami_vec.specs.declared.step.Step.{Step}
use Rattle.pami_vec.specs.declared.step.Pivot.{Pivot}
use Rattle.pami_vec.specs.Pivots.{column_pivots, ArePivots}
use Rattle.pami_batch.specs.FinishedBatch.{FinishedBatch, HasSteps, first_column, first_columns}
use Rattle.pami_batch.proofs.BatchSteps.{as_many, known, few_steps, columns_long, pivots_ready}
use Rattle.pami_batch.proofs.ColumnTasks.{follows_placed}
use Rattle.pami_batch.proofs.TransformTasks.{PivotsTo, pivots_go, pivots_stop, pivots_end}
use Rattle.pami_batch.proofs.collecting.transform_columns.Goals as goal

-- there is a column for each step
column_there : (f : Form) (b : FinishedBatch) (ss : List Step) (columns : List (List Fraction)) (k : ℕ) → HasSteps f ss b → columns ≡ first_columns b
    → k < length ss → k < length columns
column_there f b ss columns k has eq l =
    let n = as_many f b.minors ss has.steps_are in
    let m = ap length eq ∙ length-map b.minors (first_column b) in
    omega (arith, n, m, l)

pub bounds-columns-k : goal.bounds-columns-k
bounds-columns-k c =
    column_there c.requires.batch.0 c.requires.batch.1 c.args.steps.now c.args.columns.now c.loop-k.k c.requires.batch.2 c.requires.batch.3 c.loop-k-test.true

pub transform-requires : goal.transform-requires
transform-requires c =
    let f = c.requires.batch.0 in
    let b = c.requires.batch.1 in
    let has = c.requires.batch.2 in
    let eq = c.requires.batch.3 in
    let k = c.loop-k.k in
    let there = column_there f b c.args.steps.now c.args.columns.now k has eq c.loop-k-test.true in
    let long : length c.index-columns-k.result ≡ f.rows =
    ap length (c.index-columns-k.is ∙ ap (λ (cs : List (List Fraction)). get_or cs k c.index-columns-k.result) eq)
    ∙ columns_long f b c.args.steps.now has k c.index-columns-k.result (subst (λ (cs : List (List Fraction)). k < length cs) eq there) in
    subst (λ n. ArePivots n c.deref.result.now) (sym long)
    (subst (λ (ps : List Pivot). ArePivots f.rows ps) (sym c.deref.ensures.value)
    (pivots_ready f b c.args.steps.now k c.loop-k.pivots.items has (c.loop-k.invariant f b has eq).pivots_are))

pub overflow_cast-minor : goal.overflow_cast-minor
overflow_cast-minor c =
    let few = few_steps c.requires.batch.0 c.requires.batch.1 c.args.steps.now c.requires.batch.2 in
    let below = c.loop-k-test.true in
    omega (arith, few, below)

pub overflow_add-minor : goal.overflow_add-minor
overflow_add-minor c =
    let few = few_steps c.requires.batch.0 c.requires.batch.1 c.args.steps.now c.requires.batch.2 in
    let below = c.loop-k-test.true in
    omega (arith, few, below)

pub returns-in-Err-clause-refused : goal.returns-in-Err-clause-refused
returns-in-Err-clause-refused c = λ f b has eq.
    let k = c.loop-k.k in
    let s = c.index-steps-k.result in
    follows_placed (transform_script (column_pivots c.deref.result.now) c.index-columns-k.result)
    c.in-Err.fault (Transform (k + 1)) (first_refused (transform_tasks b.first 1 [] b.minors)) c.fault_at.result c.in-Err.ensures c.fault_at.ensures
    (λ r h. pivots_stop f b k s c.loop-k.pivots.items c.args.columns.now c.index-columns-k.result r
    (known f b c.args.steps.now k s has c.loop-k-test.true c.index-steps-k.is) (c.loop-k.invariant f b has eq) eq
    (column_there f b c.args.steps.now c.args.columns.now k has eq c.loop-k-test.true) c.index-columns-k.is
    (ap (λ (ps : List Pivot). transform_script (column_pivots ps) c.index-columns-k.result) (sym c.deref.ensures.value) ∙ h))

pub loop-k-preserved : goal.loop-k-preserved
loop-k-preserved c = λ f b has eq.
    let k = c.loop-k.k in
    let s = c.index-steps-k.result in
    subst (λ (ps : List Pivot). PivotsTo b (k + 1) ps) (sym c.in_ok-push-in-Ok.ensures.items)
    (pivots_go f b c.args.steps.now k s c.loop-k.pivots.items c.args.columns.now c.index-columns-k.result c.in-Ok.column
    (known f b c.args.steps.now k s has c.loop-k-test.true c.index-steps-k.is) has (c.loop-k.invariant f b has eq) eq
    (column_there f b c.args.steps.now c.args.columns.now k has eq c.loop-k-test.true) c.index-columns-k.is
    (ap (λ (ps : List Pivot). transform_script (column_pivots ps) c.index-columns-k.result) (sym c.deref.ensures.value) ∙ c.in-Ok.ensures))

pub returns-clause-refused : goal.returns-clause-refused
returns-clause-refused c = λ f b has eq.
    (pivots_end f b c.args.steps.now c.loop-k.k c.loop-k.pivots.items has (c.loop-k.invariant f b has eq) c.loop-k-test.false).1

pub returns-clause-pivots : goal.returns-clause-pivots
returns-clause-pivots c = λ f b has eq.
    (pivots_end f b c.args.steps.now c.loop-k.k c.loop-k.pivots.items has (c.loop-k.invariant f b has eq) c.loop-k-test.false).0
