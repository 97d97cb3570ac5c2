use Rattle.std.proofs.Common.{◌+◌, ◌*◌, List, [], Ok, refl, sym, ap, subst}
use Rattle.pami_frac.specs.declared.fault.OutOfMemory.{OutOfMemory}
use Rattle.pami_form.specs.FormOf.{form_of}
use Rattle.pami_state.specs.declared.state.State.{State}
use Rattle.pami_log.specs.declared.event.Event.{Event}
use Rattle.pami_log.specs.declared.event.Event.TheVariants as told
use Rattle.pami_log.specs.declared.event.Move.{Move}
use Rattle.pami_log.specs.Tellers.{GoesOn}
use Rattle.pami_method.specs.Walk as method
use Rattle.pami_major.specs.declared.majors.MajorEnd.{MajorEnd}
use Rattle.pami_major.specs.declared.majors.MajorEnd.TheVariants as majors
use Rattle.pami_major.specs.declared.walk.WalkEnd.{WalkEnd}
use Rattle.pami_major.specs.declared.walk.WalkEnd.TheVariants as ends
use Rattle.pami_major.specs.declared.walk.Turned.TheVariants as turns
use Rattle.pami_major.specs.EndsMajor.{walk_state, EndsMajor, EndsStuck}
use Rattle.pami_major.specs.MostSteps.{rows_chosen}
use Rattle.pami_major.specs.Spent.{FollowsSpending}
use Rattle.pami_major.specs.Walks.{FollowsTold, FollowsKept}
use Rattle.pami_major.proofs.Turns.{known, known_any, optimal_leaves, limit_leaves, kept_factor, counted_still, stands_on, short_follows, optimal_follows, limit_follows, same_follows, stuck_follows, kept_follows, refused_follows}
use Rattle.pami_major.proofs.Spent.{end_steps, none_spent, kept_spends, stuck_spent, told_spends, kept_spent_on, refused_spends}
use Rattle.pami_major.proofs.walk.turn.Goals as goal

-- memory ran out before the major
pub returns-in-Err-clause-turned : goal.returns-in-Err-clause-turned
returns-in-Err-clause-turned g c = λ before first events u.
    short_follows c.args.form.now c.args.options.now before first c.args.state.now c.args.factor.now c.args.mode c.args.tried.now events c.requires.options.some_row u
    (g.T.Teller.stands c.args.teller.now) (g.T.Teller.stands c.args.teller.now) (g.T.Teller.stopped c.args.teller.now) (g.T.Teller.faults c.args.teller.now) (g.T.Teller.faults c.args.teller.now)
    c.args.state.now c.args.factor.now c.args.tried.now refl (stands_on (g.T.Teller.stands c.args.teller.now)) refl

-- or in it
pub returns-in-Err-major-clause-turned : goal.returns-in-Err-major-clause-turned
returns-in-Err-major-clause-turned g c = λ before first events u.
    short_follows c.args.form.now c.args.options.now before first c.args.state.now c.args.factor.now c.args.mode c.args.tried.now events c.requires.options.some_row u
    (g.T.Teller.stands c.args.teller.now) (g.T.Teller.stands c.args.teller.now) (g.T.Teller.stopped c.args.teller.now) (g.T.Teller.faults c.args.teller.now) (g.T.Teller.faults c.args.teller.now)
    c.major.new.state c.major.new.factor (c.args.tried.now + 1) c.in-Err-major.ensures.kept (stands_on (g.T.Teller.stands c.args.teller.now)) refl

pub stuck_end-stuck-requires : goal.stuck_end-stuck-requires
stuck_end-stuck-requires g c =
    let k = c.requires.factor in
    let came = subst (λ (e : MajorEnd). EndsMajor c.args.form.now c.args.options.now (c.args.tried.now + 1) c.args.mode k.0 c.args.state.now c.major.new.state c.major.new.factor e) c.in-NoEntering.is
    (c.in-Ok-major.ensures.came k.0 (known_any (form_of c.args.form.now) c.args.mode k.0 c.args.state.now c.args.factor.now k.1)) in
    (came.1, came.2, subst (λ (ms : List Move). EndsStuck ms came.1 came.2) (sym c.as_slice.ensures) came.3)

pub returns-in-Optimal-clause-turned : goal.returns-in-Optimal-clause-turned
returns-in-Optimal-clause-turned g c = λ before first events u.
    let came = subst (λ (e : MajorEnd). EndsMajor c.args.form.now c.args.options.now (c.args.tried.now + 1) c.args.mode u.history c.args.state.now c.major.new.state c.major.new.factor e) c.in-Optimal.is (c.in-Ok-major.ensures.came u.history (known (form_of c.args.form.now) c.args.mode u.history c.args.state.now c.args.factor.now u.factor_is)) in
    optimal_follows c.args.form.now c.args.options.now before first c.args.state.now c.args.factor.now c.args.mode c.args.tried.now events c.requires.options.some_row u
    (g.T.Teller.stands c.args.teller.now) (g.T.Teller.stands c.args.teller.now) (g.T.Teller.stopped c.args.teller.now) (g.T.Teller.faults c.args.teller.now) (g.T.Teller.faults c.args.teller.now)
    c.major.new.state c.major.new.factor came.0 (optimal_leaves OutOfMemory c.in-Ok-major.end c.args.factor.now c.major.new.factor c.in-Optimal.is c.in-Ok-major.ensures.unkept) came.1 (stands_on (g.T.Teller.stands c.args.teller.now)) refl

pub returns-in-Limit-clause-turned : goal.returns-in-Limit-clause-turned
returns-in-Limit-clause-turned g c = λ before first events u.
    let came = subst (λ (e : MajorEnd). EndsMajor c.args.form.now c.args.options.now (c.args.tried.now + 1) c.args.mode u.history c.args.state.now c.major.new.state c.major.new.factor e) c.in-Limit.is (c.in-Ok-major.ensures.came u.history (known (form_of c.args.form.now) c.args.mode u.history c.args.state.now c.args.factor.now u.factor_is)) in
    limit_follows c.args.form.now c.args.options.now before first c.args.state.now c.args.factor.now c.args.mode c.args.tried.now events c.requires.options.some_row u
    (g.T.Teller.stands c.args.teller.now) (g.T.Teller.stands c.args.teller.now) (g.T.Teller.stopped c.args.teller.now) (g.T.Teller.faults c.args.teller.now) (g.T.Teller.faults c.args.teller.now)
    c.major.new.state c.major.new.factor came.0 (limit_leaves OutOfMemory c.in-Ok-major.end c.args.factor.now c.major.new.factor c.in-Limit.is c.in-Ok-major.ensures.unkept) came.1 (stands_on (g.T.Teller.stands c.args.teller.now)) refl

pub returns-in-Moved-clause-turned : goal.returns-in-Moved-clause-turned
returns-in-Moved-clause-turned g c = λ before first events u.
    let event : Event = told.Major (c.args.tried.now + 1) c.args.mode c.in-Moved.chosen c.in-Moved.moves in
    let came = subst (λ (e : MajorEnd). EndsMajor c.args.form.now c.args.options.now (c.args.tried.now + 1) c.args.mode u.history c.args.state.now c.major.new.state c.major.new.factor e) c.in-Moved.is (c.in-Ok-major.ensures.came u.history (known (form_of c.args.form.now) c.args.mode u.history c.args.state.now c.args.factor.now u.factor_is)) in
    kept_follows c.args.form.now c.args.options.now before first c.args.state.now c.args.factor.now c.args.mode c.args.tried.now events c.requires.options.some_row u
    (g.T.Teller.stands c.args.teller.now) (g.T.Teller.stands c.tell_kept.new.teller) (g.T.Teller.stopped c.tell_kept.new.teller) (g.T.Teller.faults c.args.teller.now) (g.T.Teller.faults c.tell_kept.new.teller)
    event c.major.new.state c.tell_kept.new.state c.major.new.factor c.tell_kept.new.factor c.tell_kept.result came
    (subst (λ (e : Event). FollowsKept e c.args.state.now c.major.new.state c.tell_kept.new.state c.major.new.factor c.tell_kept.new.factor
    (g.T.Teller.stands c.args.teller.now) (g.T.Teller.stands c.tell_kept.new.teller) (g.T.Teller.stopped c.tell_kept.new.teller) (g.T.Teller.faults c.args.teller.now) (g.T.Teller.faults c.tell_kept.new.teller) c.tell_kept.result) c.major_event-event.ensures
    (subst (λ (s : State). FollowsKept c.major_event-event.result s c.major.new.state c.tell_kept.new.state c.major.new.factor c.tell_kept.new.factor
    (g.T.Teller.stands c.args.teller.now) (g.T.Teller.stands c.tell_kept.new.teller) (g.T.Teller.stopped c.tell_kept.new.teller) (g.T.Teller.faults c.args.teller.now) (g.T.Teller.faults c.tell_kept.new.teller) c.tell_kept.result) c.in-Ok.ensures c.tell_kept.ensures))

pub returns-in-Moved-clause-factor : goal.returns-in-Moved-clause-factor
returns-in-Moved-clause-factor g c =
    kept_factor (form_of c.args.form.now) c.major_event-event.result c.in-Ok.kept.state c.major.new.state c.tell_kept.new.state c.major.new.factor c.tell_kept.new.factor
    (g.T.Teller.stands c.args.teller.now) (g.T.Teller.stands c.tell_kept.new.teller) (g.T.Teller.stopped c.tell_kept.new.teller) (g.T.Teller.faults c.args.teller.now) (g.T.Teller.faults c.tell_kept.new.teller) c.tell_kept.result c.in-Ok-major.ensures.factor c.tell_kept.ensures

pub returns-in-NoEntering-clause-turned : goal.returns-in-NoEntering-clause-turned
returns-in-NoEntering-clause-turned g c = λ before first events u.
    let event : Event = told.Major (c.args.tried.now + 1) c.args.mode c.in-NoEntering.chosen c.in-NoEntering.moves in
    let came = subst (λ (e : MajorEnd). EndsMajor c.args.form.now c.args.options.now (c.args.tried.now + 1) c.args.mode u.history c.args.state.now c.major.new.state c.major.new.factor e) c.in-NoEntering.is (c.in-Ok-major.ensures.came u.history (known (form_of c.args.form.now) c.args.mode u.history c.args.state.now c.args.factor.now u.factor_is)) in
    let stuck = c.stuck_end-stuck.ensures came.1 came.2 (subst (λ (ms : List Move). EndsStuck ms came.1 came.2) (sym c.as_slice.ensures) came.3) in
    same_follows c.args.form.now c.args.options.now before first c.args.state.now c.args.factor.now c.args.mode c.args.tried.now events c.requires.options.some_row u
    (g.T.Teller.stands c.args.teller.now) (g.T.Teller.stands c.tell_then.new.teller) (g.T.Teller.stopped c.tell_then.new.teller) (g.T.Teller.faults c.args.teller.now) (g.T.Teller.faults c.tell_then.new.teller)
    c.major.new.state c.major.new.factor c.tell_then.result came.0
    (stuck_follows c.args.form.now c.args.options.now before first c.args.state.now c.args.factor.now c.args.mode c.args.tried.now events c.requires.options.some_row u
    (g.T.Teller.stands c.args.teller.now) (g.T.Teller.stands c.tell_then.new.teller) (g.T.Teller.stopped c.tell_then.new.teller) (g.T.Teller.faults c.args.teller.now) (g.T.Teller.faults c.tell_then.new.teller)
    event came.1 came.2 c.in-NoEntering.rho c.major.new.factor c.tell_then.result came.4
    (subst (λ (e : Event). FollowsTold e (turns.Ends (Ok (ends.NoEntering came.1 came.2 c.in-NoEntering.rho)))
    (g.T.Teller.stands c.args.teller.now) (g.T.Teller.stands c.tell_then.new.teller) (g.T.Teller.stopped c.tell_then.new.teller) (g.T.Teller.faults c.args.teller.now) (g.T.Teller.faults c.tell_then.new.teller) c.tell_then.result) c.major_event-event-in-NoEntering.ensures
    (subst (λ (e : WalkEnd). FollowsTold c.major_event-event-in-NoEntering.result (turns.Ends (Ok e))
    (g.T.Teller.stands c.args.teller.now) (g.T.Teller.stands c.tell_then.new.teller) (g.T.Teller.stopped c.tell_then.new.teller) (g.T.Teller.faults c.args.teller.now) (g.T.Teller.faults c.tell_then.new.teller) c.tell_then.result) stuck c.tell_then.ensures)))

pub returns-in-Refused-clause-turned : goal.returns-in-Refused-clause-turned
returns-in-Refused-clause-turned g c = λ before first events u.
    let came = subst (λ (e : MajorEnd). EndsMajor c.args.form.now c.args.options.now (c.args.tried.now + 1) c.args.mode u.history c.args.state.now c.major.new.state c.major.new.factor e) c.in-Refused.is (c.in-Ok-major.ensures.came u.history (known (form_of c.args.form.now) c.args.mode u.history c.args.state.now c.args.factor.now u.factor_is)) in
    same_follows c.args.form.now c.args.options.now before first c.args.state.now c.args.factor.now c.args.mode c.args.tried.now events c.requires.options.some_row u
    (g.T.Teller.stands c.args.teller.now) (g.T.Teller.stands c.tell_refused.new.teller) (g.T.Teller.stopped c.tell_refused.new.teller) (g.T.Teller.faults c.args.teller.now) (g.T.Teller.faults c.tell_refused.new.teller)
    c.major.new.state c.major.new.factor c.tell_refused.result came.0
    (refused_follows c.args.form.now c.args.options.now before first c.args.state.now c.args.factor.now c.args.mode c.args.tried.now events c.requires.options.some_row u
    (g.T.Teller.stands c.args.teller.now) (g.T.Teller.stands c.tell_refused.new.teller) (g.T.Teller.stopped c.tell_refused.new.teller) (g.T.Teller.faults c.args.teller.now) (g.T.Teller.faults c.tell_refused.new.teller)
    c.in-Refused.place c.major.new.factor c.tell_refused.result came.1 c.tell_refused.ensures.full
    (λ e.
    let single = c.tell_refused.ensures.single e in (
      single.0,
      subst (λ t. GoesOn (g.T.Teller.stands c.args.teller.now) (g.T.Teller.stands t) []) (sym single.1) (stands_on (g.T.Teller.stands c.args.teller.now)),
      ap (λ t. g.T.Teller.faults t) single.1,
    )))

-- ---- the steps
pub returns-in-Err-clause-spent : goal.returns-in-Err-clause-spent
returns-in-Err-clause-spent g c = λ before first counted u. tt

pub returns-in-Err-major-clause-spent : goal.returns-in-Err-major-clause-spent
returns-in-Err-major-clause-spent g c = λ before first counted u. tt

pub returns-in-Optimal-clause-spent : goal.returns-in-Optimal-clause-spent
returns-in-Optimal-clause-spent g c = λ before first counted u.
    let came = subst (λ (e : MajorEnd). EndsMajor c.args.form.now c.args.options.now (c.args.tried.now + 1) c.args.mode u.history c.args.state.now c.major.new.state c.major.new.factor e) c.in-Optimal.is (c.in-Ok-major.ensures.came u.history (known (form_of c.args.form.now) c.args.mode u.history c.args.state.now c.args.factor.now u.factor_is)) in
    let s = c.requires.ready.solved.fresh in
    none_spent c.args.form.now c.args.options.now before first counted c.args.state.now c.args.factor.now c.args.mode c.args.tried.now c.args.steps.now.count c.major.new.steps.count u
    (method.Optimal (walk_state c.args.state.now u.history)) came.1
    (end_steps OutOfMemory (rows_chosen c.args.form.now c.args.options.now c.args.mode c.args.state.now s) c.args.steps.now.count c.major.new.steps.count
    c.in-Ok-major.end majors.Optimal (c.in-Ok-major.ensures.counted s c.requires.ready.solved.solved) c.in-Optimal.is)

pub returns-in-Limit-clause-spent : goal.returns-in-Limit-clause-spent
returns-in-Limit-clause-spent g c = λ before first counted u.
    let came = subst (λ (e : MajorEnd). EndsMajor c.args.form.now c.args.options.now (c.args.tried.now + 1) c.args.mode u.history c.args.state.now c.major.new.state c.major.new.factor e) c.in-Limit.is (c.in-Ok-major.ensures.came u.history (known (form_of c.args.form.now) c.args.mode u.history c.args.state.now c.args.factor.now u.factor_is)) in
    let s = c.requires.ready.solved.fresh in
    none_spent c.args.form.now c.args.options.now before first counted c.args.state.now c.args.factor.now c.args.mode c.args.tried.now c.args.steps.now.count c.major.new.steps.count u
    (method.Limit (walk_state c.args.state.now u.history)) came.1
    (end_steps OutOfMemory (rows_chosen c.args.form.now c.args.options.now c.args.mode c.args.state.now s) c.args.steps.now.count c.major.new.steps.count
    c.in-Ok-major.end majors.Limit (c.in-Ok-major.ensures.counted s c.requires.ready.solved.solved) c.in-Limit.is)

pub returns-in-Moved-clause-spent : goal.returns-in-Moved-clause-spent
returns-in-Moved-clause-spent g c = λ before first counted u.
    let came = subst (λ (e : MajorEnd). EndsMajor c.args.form.now c.args.options.now (c.args.tried.now + 1) c.args.mode u.history c.args.state.now c.major.new.state c.major.new.factor e) c.in-Moved.is (c.in-Ok-major.ensures.came u.history (known (form_of c.args.form.now) c.args.mode u.history c.args.state.now c.args.factor.now u.factor_is)) in
    let s = c.requires.ready.solved.fresh in
    kept_spent_on c.args.form.now c.args.options.now before first counted c.args.state.now c.args.factor.now c.args.mode c.args.tried.now c.args.steps.now.count c.major.new.steps.count u
    c.major_event-event.result c.in-Ok.kept.state c.major.new.state c.tell_kept.new.state c.major.new.factor c.tell_kept.new.factor
    (g.T.Teller.stands c.args.teller.now) (g.T.Teller.stands c.tell_kept.new.teller) (g.T.Teller.stopped c.tell_kept.new.teller) (g.T.Teller.faults c.args.teller.now) (g.T.Teller.faults c.tell_kept.new.teller) c.tell_kept.result
    (kept_spends c.args.form.now c.args.options.now before first counted c.args.state.now c.args.factor.now c.args.mode c.args.tried.now c.args.steps.now.count c.major.new.steps.count u
    c.major.new.state c.major.new.factor c.in-Moved.chosen c.in-Moved.moves came
    (end_steps OutOfMemory (rows_chosen c.args.form.now c.args.options.now c.args.mode c.args.state.now s) c.args.steps.now.count c.major.new.steps.count
    c.in-Ok-major.end (majors.Moved c.in-Moved.chosen c.in-Moved.moves) (c.in-Ok-major.ensures.counted s c.requires.ready.solved.solved) c.in-Moved.is))
    c.tell_kept.ensures

pub returns-in-NoEntering-clause-spent : goal.returns-in-NoEntering-clause-spent
returns-in-NoEntering-clause-spent g c = λ before first counted u.
    let f = form_of c.args.form.now in
    let came = subst (λ (e : MajorEnd). EndsMajor c.args.form.now c.args.options.now (c.args.tried.now + 1) c.args.mode u.history c.args.state.now c.major.new.state c.major.new.factor e) c.in-NoEntering.is (c.in-Ok-major.ensures.came u.history (known (form_of c.args.form.now) c.args.mode u.history c.args.state.now c.args.factor.now u.factor_is)) in
    let s = c.requires.ready.solved.fresh in
    subst (λ (x : State). FollowsSpending f c.args.options.now before first counted x c.major.new.factor (c.args.tried.now + 1) c.major.new.steps.count c.tell_then.result) (sym came.0)
    (told_spends c.args.form.now c.args.options.now before first counted c.args.state.now c.args.factor.now c.args.mode c.args.tried.now c.args.steps.now.count c.major.new.steps.count u
    c.major_event-event-in-NoEntering.result (turns.Ends (Ok c.stuck_end-stuck.result)) c.tell_then.result c.major.new.factor
    (g.T.Teller.stands c.args.teller.now) (g.T.Teller.stands c.tell_then.new.teller) (g.T.Teller.stopped c.tell_then.new.teller) (g.T.Teller.faults c.args.teller.now) (g.T.Teller.faults c.tell_then.new.teller)
    (stuck_spent c.args.form.now c.args.options.now before first counted c.args.state.now c.args.factor.now c.args.mode c.args.tried.now c.args.steps.now.count c.major.new.steps.count u
    came.1 came.2 c.in-NoEntering.rho c.in-NoEntering.chosen c.in-NoEntering.moves came.4
    (end_steps OutOfMemory (rows_chosen c.args.form.now c.args.options.now c.args.mode c.args.state.now s) c.args.steps.now.count c.major.new.steps.count
    c.in-Ok-major.end (majors.NoEntering c.in-NoEntering.chosen c.in-NoEntering.rho c.in-NoEntering.moves) (c.in-Ok-major.ensures.counted s c.requires.ready.solved.solved) c.in-NoEntering.is))
    c.tell_then.ensures)

pub returns-in-Refused-clause-spent : goal.returns-in-Refused-clause-spent
returns-in-Refused-clause-spent g c = λ before first counted u.
    let f = form_of c.args.form.now in
    let came = subst (λ (e : MajorEnd). EndsMajor c.args.form.now c.args.options.now (c.args.tried.now + 1) c.args.mode u.history c.args.state.now c.major.new.state c.major.new.factor e) c.in-Refused.is (c.in-Ok-major.ensures.came u.history (known (form_of c.args.form.now) c.args.mode u.history c.args.state.now c.args.factor.now u.factor_is)) in
    subst (λ (x : State). FollowsSpending f c.args.options.now before first counted x c.major.new.factor (c.args.tried.now + 1) c.major.new.steps.count c.tell_refused.result) (sym came.0)
    (refused_spends c.args.form.now c.args.options.now before first counted c.args.state.now c.args.factor.now c.args.mode c.args.tried.now c.args.steps.now.count c.major.new.steps.count
    c.in-Refused.place c.major.new.factor c.tell_refused.result
    (g.T.Teller.stands c.args.teller.now) (g.T.Teller.stands c.tell_refused.new.teller) (g.T.Teller.stopped c.tell_refused.new.teller) (g.T.Teller.faults c.args.teller.now) (g.T.Teller.faults c.tell_refused.new.teller)
    u came.1
    (λ s fresh. end_steps OutOfMemory (rows_chosen c.args.form.now c.args.options.now c.args.mode c.args.state.now s) c.args.steps.now.count c.major.new.steps.count
    c.in-Ok-major.end (majors.Refused c.in-Refused.place) (c.in-Ok-major.ensures.counted s fresh) c.in-Refused.is)
    c.tell_refused.ensures.full (λ e. (c.tell_refused.ensures.single e).0))

pub returns-in-Optimal-clause-counted : goal.returns-in-Optimal-clause-counted
returns-in-Optimal-clause-counted g c =
    let s = c.requires.ready.solved.fresh in
    counted_still c.args.tried.now (2 * c.args.options.now.batch + 2) c.args.steps.now.count c.major.new.steps.count
    (end_steps OutOfMemory (rows_chosen c.args.form.now c.args.options.now c.args.mode c.args.state.now s) c.args.steps.now.count c.major.new.steps.count
    c.in-Ok-major.end majors.Optimal (c.in-Ok-major.ensures.counted s c.requires.ready.solved.solved) c.in-Optimal.is)

pub returns-in-Limit-clause-counted : goal.returns-in-Limit-clause-counted
returns-in-Limit-clause-counted g c =
    let s = c.requires.ready.solved.fresh in
    counted_still c.args.tried.now (2 * c.args.options.now.batch + 2) c.args.steps.now.count c.major.new.steps.count
    (end_steps OutOfMemory (rows_chosen c.args.form.now c.args.options.now c.args.mode c.args.state.now s) c.args.steps.now.count c.major.new.steps.count
    c.in-Ok-major.end majors.Limit (c.in-Ok-major.ensures.counted s c.requires.ready.solved.solved) c.in-Limit.is)
