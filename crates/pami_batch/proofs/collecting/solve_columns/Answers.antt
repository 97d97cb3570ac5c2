use Rattle.std.proofs.Common.{◌+◌, sym, subst, arith, List}
use Rattle.pami_algebra.specs.Fraction.{Fraction}
use Rattle.pami_factoring.specs.Solve.{forward_script}
use Rattle.pami_state.specs.Columns.{column_of}
use Rattle.pami_method.specs.Work.{column_tasks, first_refused}
use Rattle.pami_method.specs.declared.words.Spot.TheVariants.{Column}
use Rattle.pami_form.specs.FormOf.{form_of}
use Rattle.pami_batch.proofs.BatchSteps.{known, few_steps, steps_long}
use Rattle.pami_batch.proofs.ColumnTasks.{ColumnsTo, follows_placed, enters_known, columns_go, columns_stop, columns_end}
use Rattle.pami_batch.proofs.collecting.solve_columns.Goals as goal

pub solve_column-requires-clause-variable : goal.solve_column-requires-clause-variable
solve_column-requires-clause-variable g c =
    let f = form_of c.args.form.now in
    let b = c.requires.batch.0 in
    let s = c.index-steps-k.result in
    enters_known c.args.form.now b c.loop-k.k s (known f b c.args.steps.now c.loop-k.k s c.requires.batch.1 c.loop-k-test.true c.index-steps-k.is)

pub solve_column-requires-clause-rows : goal.solve_column-requires-clause-rows
solve_column-requires-clause-rows g c =
    steps_long (form_of c.args.form.now) c.requires.batch.0.history c.requires.batch.0.first.basis c.args.factor.now c.requires.batch.2

pub overflow_cast-minor : goal.overflow_cast-minor
overflow_cast-minor g c =
    let few = few_steps (form_of c.args.form.now) c.requires.batch.0 c.args.steps.now c.requires.batch.1 in
    let below = c.loop-k-test.true in
    omega (arith, few, below)

pub overflow_add-minor : goal.overflow_add-minor
overflow_add-minor g c =
    let few = few_steps (form_of c.args.form.now) c.requires.batch.0 c.args.steps.now c.requires.batch.1 in
    let below = c.loop-k-test.true in
    omega (arith, few, below)

pub returns-in-Err-clause-refused : goal.returns-in-Err-clause-refused
returns-in-Err-clause-refused g c = λ b has is.
    let f = form_of c.args.form.now in
    let s = c.index-steps-k.result in
    follows_placed (forward_script c.args.factor.now.steps c.args.factor.now.pivots (column_of c.args.form.now.columns s.entering))
    c.in-Err.fault (Column (c.loop-k.k + 1)) (first_refused (column_tasks f b.history 1 b.minors)) c.fault_at.result c.in-Err.ensures.script c.fault_at.ensures
    (λ r h. columns_stop c.args.form.now b c.args.factor.now c.loop-k.k s c.loop-k.columns.items r
    (known f b c.args.steps.now c.loop-k.k s has c.loop-k-test.true c.index-steps-k.is) is (c.loop-k.invariant.0 b has is) h)

pub loop-k-preserved : goal.loop-k-preserved
loop-k-preserved g c = (
  λ b has is.
      let f = form_of c.args.form.now in
      let s = c.index-steps-k.result in
      subst (λ (cs : List (List Fraction)). ColumnsTo f b (c.loop-k.k + 1) cs) (sym c.in_ok-push-in-Ok.ensures.items)
      (columns_go c.args.form.now b c.args.steps.now c.args.factor.now c.loop-k.k s c.loop-k.columns.items c.in-Ok.column has
      (known f b c.args.steps.now c.loop-k.k s has c.loop-k-test.true c.index-steps-k.is) is (c.loop-k.invariant.0 b has is) c.in-Ok.ensures.script),
  let one = c.in-Ok.ensures.counted in
      let so_far = c.loop-k.invariant.1 in
      omega (arith, one, so_far),
)

pub returns-clause-refused : goal.returns-clause-refused
returns-clause-refused g c = λ b has is.
    (columns_end (form_of c.args.form.now) b c.args.steps.now c.loop-k.k c.loop-k.columns.items has (c.loop-k.invariant.0 b has is) c.loop-k-test.false).1

pub returns-clause-columns : goal.returns-clause-columns
returns-clause-columns g c = λ b has is.
    (columns_end (form_of c.args.form.now) b c.args.steps.now c.loop-k.k c.loop-k.columns.items has (c.loop-k.invariant.0 b has is) c.loop-k-test.false).0
