use Rattle.std.proofs.Common.{◌≡◌, ◌<◌, [], length, sym, ap, ◌∙◌, subst, arith, Ok, Err}
use Rattle.std.proofs.lemmas.Result.{err_from_is_err_and}
use Rattle.pami_frac.specs.Answers.{FollowsBy}
use Rattle.pami_factoring.specs.Factor.{elimination_script}
use Rattle.std.specs.Prelude.{IfOk}
use Rattle.pami_lu.specs.Clear.{clear_step}
use Rattle.pami_lu.specs.Follow.{widened}
use Rattle.pami_lu.specs.Members.{AreOthers}
use Rattle.pami_lu.specs.Plain.{set_of}
use Rattle.pami_lu.specs.declared.step.SparseStep.{SparseStep}
use Rattle.pami_lu.proofs.Mapped.{ok_before, err_before}
use Rattle.pami_lu.proofs.Loops.{going_start, going_search, going_pivot, going_none, going_refused, going_next, going_end, going_whole, going_stands}
use Rattle.pami_lu.proofs.elimination.eliminate_rows.Goals as goal

pub loop-k-init : goal.loop-k-init
loop-k-init c =
    going_start c.len-m.result c.in_ok-places.places.items c.args.matrix.items c.args.places_of.items c.new-steps.result.items (omega arith) c.in_ok-places.ensures c.new-steps.ensures.items
    c.requires.square c.requires.all c.requires.sets

pub returns-in_err-pivot : goal.returns-in_err-pivot
returns-in_err-pivot c =
    let matrix = c.args.matrix.items in
    let m = c.len-m.result in
    let k = c.loop-k.k in
    let cs = c.loop-k.places.items in
    let rows = c.loop-k.rows.items in
    let members = c.loop-k.members.items in
    let ss = c.loop-k.steps.items in
    let g = c.loop-k.invariant in
    let d = c.in_err-pivot.field-0.0 in
    let p = err_from_is_err_and c.from_residual-in_err-pivot.result c.from_residual-in_err-pivot.ensures.1 in
    subst (FollowsBy (λ ks. ks) (elimination_script matrix)) (sym (p.1 ∙ ap Err p.2))
    (going_none matrix m k cs rows members ss d g c.requires.square c.loop-k-test.true
    (going_search matrix m k cs c.deref.result.now rows c.deref-in-loop-k.result.now members ss (Err d) g c.deref.ensures.value c.deref-in-loop-k.ensures.value c.in_err-pivot.ensures))

pub index_mut-requires : goal.index_mut-requires
index_mut-requires c =
    let matrix = c.args.matrix.items in
    let m = c.len-m.result in
    let k = c.loop-k.k in
    let cs = c.loop-k.places.items in
    let rows = c.loop-k.rows.items in
    let members = c.loop-k.members.items in
    let ss = c.loop-k.steps.items in
    let g = c.loop-k.invariant in
    let q = c.in_ok-pivot.pivot in
    let f = going_search matrix m k cs c.deref.result.now rows c.deref-in-loop-k.result.now members ss (Ok q) g c.deref.ensures.value c.deref-in-loop-k.ensures.value c.in_ok-pivot.ensures in
    let found = going_pivot matrix m k cs rows members ss q g f in
    let l : q.place < m = found.place_low in
    let across : length cs ≡ m = g.shape.across in
    let o = c.loop-k.places.ok in
    omega arith

pub take_step-requires-clause-square : goal.take_step-requires-clause-square
take_step-requires-clause-square c =
    let matrix = c.args.matrix.items in
    let m = c.len-m.result in
    let k = c.loop-k.k in
    let cs = c.loop-k.places.items in
    let rows = c.loop-k.rows.items in
    let members = c.loop-k.members.items in
    let ss = c.loop-k.steps.items in
    let g = c.loop-k.invariant in
    let q = c.in_ok-pivot.pivot in
    let f = going_search matrix m k cs c.deref.result.now rows c.deref-in-loop-k.result.now members ss (Ok q) g c.deref.ensures.value c.deref-in-loop-k.ensures.value c.in_ok-pivot.ensures in
    let found = going_pivot matrix m k cs rows members ss q g f in
    g.shape.same q.row found.row_low found.row_in ∙ sym g.shape.tall

pub take_step-requires-clause-row_low : goal.take_step-requires-clause-row_low
take_step-requires-clause-row_low c =
    let matrix = c.args.matrix.items in
    let m = c.len-m.result in
    let k = c.loop-k.k in
    let cs = c.loop-k.places.items in
    let rows = c.loop-k.rows.items in
    let members = c.loop-k.members.items in
    let ss = c.loop-k.steps.items in
    let g = c.loop-k.invariant in
    let q = c.in_ok-pivot.pivot in
    let f = going_search matrix m k cs c.deref.result.now rows c.deref-in-loop-k.result.now members ss (Ok q) g c.deref.ensures.value c.deref-in-loop-k.ensures.value c.in_ok-pivot.ensures in
    let found = going_pivot matrix m k cs rows members ss q g f in
    subst (λ n. q.row < n) (sym g.shape.tall) found.row_low

pub take_step-requires-clause-place_low : goal.take_step-requires-clause-place_low
take_step-requires-clause-place_low c =
    let matrix = c.args.matrix.items in
    let m = c.len-m.result in
    let k = c.loop-k.k in
    let cs = c.loop-k.places.items in
    let rows = c.loop-k.rows.items in
    let members = c.loop-k.members.items in
    let ss = c.loop-k.steps.items in
    let g = c.loop-k.invariant in
    let q = c.in_ok-pivot.pivot in
    let f = going_search matrix m k cs c.deref.result.now rows c.deref-in-loop-k.result.now members ss (Ok q) g c.deref.ensures.value c.deref-in-loop-k.ensures.value c.in_ok-pivot.ensures in
    let found = going_pivot matrix m k cs rows members ss q g f in
    subst (λ n. q.place < n) (sym g.shape.tall) found.place_low

pub take_step-requires-clause-long : goal.take_step-requires-clause-long
take_step-requires-clause-long c =
    let matrix = c.args.matrix.items in
    let m = c.len-m.result in
    let k = c.loop-k.k in
    let cs = c.loop-k.places.items in
    let rows = c.loop-k.rows.items in
    let members = c.loop-k.members.items in
    let ss = c.loop-k.steps.items in
    let g = c.loop-k.invariant in
    going_stands matrix m k c.in_ok-pivot.pivot.place cs rows members ss g

pub take_step-requires-clause-nonzero : goal.take_step-requires-clause-nonzero
take_step-requires-clause-nonzero c =
    let matrix = c.args.matrix.items in
    let m = c.len-m.result in
    let k = c.loop-k.k in
    let cs = c.loop-k.places.items in
    let rows = c.loop-k.rows.items in
    let members = c.loop-k.members.items in
    let ss = c.loop-k.steps.items in
    let g = c.loop-k.invariant in
    let q = c.in_ok-pivot.pivot in
    let f = going_search matrix m k cs c.deref.result.now rows c.deref-in-loop-k.result.now members ss (Ok q) g c.deref.ensures.value c.deref-in-loop-k.ensures.value c.in_ok-pivot.ensures in
    let found = going_pivot matrix m k cs rows members ss q g f in
    found.nonzero

pub returns-in_err-step : goal.returns-in_err-step
returns-in_err-step c =
    let matrix = c.args.matrix.items in
    let m = c.len-m.result in
    let k = c.loop-k.k in
    let cs = c.loop-k.places.items in
    let rows = c.loop-k.rows.items in
    let members = c.loop-k.members.items in
    let ss = c.loop-k.steps.items in
    let g = c.loop-k.invariant in
    let q = c.in_ok-pivot.pivot in
    let f = going_search matrix m k cs c.deref.result.now rows c.deref-in-loop-k.result.now members ss (Ok q) g c.deref.ensures.value c.deref-in-loop-k.ensures.value c.in_ok-pivot.ensures in
    let p = err_from_is_err_and c.from_residual-in_err-step.result c.from_residual-in_err-step.ensures.1 in
    let b = err_before c.take_step.result c.in_err-step.field-0.0 (λ e d. d ≡ widened e) c.in_err-step.ensures.cases in
    subst (FollowsBy (λ ks. ks) (elimination_script matrix)) (sym (p.1 ∙ ap Err (p.2 ∙ b.2)))
    (going_refused matrix m k cs rows c.take_step.new.rows.items members ss q b.0 g c.requires.square c.loop-k-test.true f
    (λ ts ds t. subst (FollowsBy (λ (s : SparseStep). (s, c.take_step.new.rows.items)) (clear_step ts ds rows q.row q.place)) b.1 (c.take_step.ensures.script ts ds t)))

pub loop-k-preserved : goal.loop-k-preserved
loop-k-preserved c =
    let matrix = c.args.matrix.items in
    let m = c.len-m.result in
    let k = c.loop-k.k in
    let cs = c.loop-k.places.items in
    let rows = c.loop-k.rows.items in
    let members = c.loop-k.members.items in
    let ss = c.loop-k.steps.items in
    let g = c.loop-k.invariant in
    let q = c.in_ok-pivot.pivot in
    let f = going_search matrix m k cs c.deref.result.now rows c.deref-in-loop-k.result.now members ss (Ok q) g c.deref.ensures.value c.deref-in-loop-k.ensures.value c.in_ok-pivot.ensures in
    let next = c.take_step.new.rows.items in
    let sets = c.take_step.new.members.items in
    let b = ok_before c.take_step.result c.in_ok-step.step (λ e d. d ≡ widened e) c.in_ok-step.ensures.cases in
    let o = subst (λ r. IfOk r (λ _. AreOthers q.place next sets × (set_of sets q.place ≡ []))) b c.take_step.ensures.others in
    going_next matrix m k cs rows next members sets ss c.push.new.self.items q c.in_ok-step.step g c.loop-k-test.true f
    (λ ts ds t. subst (FollowsBy (λ (s : SparseStep). (s, next)) (clear_step ts ds rows q.row q.place)) b (c.take_step.ensures.script ts ds t))
    o.0 o.1 (subst (λ r. IfOk r (λ _. length sets ≡ length members)) b c.take_step.ensures.sets) c.in_ok-push.ensures.items

pub of-requires : goal.of-requires
of-requires c = going_whole c.args.matrix.items c.len-m.result c.loop-k.k c.loop-k.places.items c.loop-k.rows.items c.loop-k.members.items c.loop-k.steps.items c.loop-k.invariant c.requires.square c.loop-k-test.false

pub returns : goal.returns
returns c =
    going_end c.args.matrix.items c.len-m.result c.loop-k.k c.loop-k.places.items c.loop-k.rows.items c.loop-k.members.items c.loop-k.steps.items c.loop-k.invariant c.requires.square c.loop-k-test.false
    ∙ ap Ok (sym c.of.ensures)
