use Rattle.std.proofs.Common.{◌≡◌, ◌<◌, [], length, set, refl, sym, ap, ◌∙◌, subst, arith, Ok, Err}
use Rattle.std.proofs.lemmas.Result.{err_from_is_err_and}
use Rattle.std.specs.Prelude.{All}
use Rattle.std.proofs.lemmas.List.{length-set, get_or_default}
use Rattle.pami_script.specs.Dense.{Rising}
use Rattle.pami_factoring.specs.Factor.{row_at}
use Rattle.pami_vec.specs.Entries.{AreEntriesOf}
use Rattle.pami_lu.specs.Members.{those, stands_at, Ascends, AreOthers}
use Rattle.pami_lu.specs.Plain.{set_of, left_by}
use Rattle.pami_lu.proofs.Turns.{change_length}
use Rattle.pami_lu.proofs.Below.{entries_low}
use Rattle.pami_frac.specs.Answers.{FollowsBy}
use Rattle.pami_lu.specs.Clear.{clear_step}
use Rattle.pami_lu.specs.declared.step.SparseStep.{SparseStep}
use Rattle.pami_lu.proofs.Stepped.{step_follows, step_fails, left_keeps, left_others, those_ascend, below_long, others_again}
use Rattle.pami_lu.proofs.elimination.take_step.Goals as goal

pub leave-requires : goal.leave-requires
leave-requires c =
    let rows = c.args.rows.now.items in
    let i = c.args.row in
    let p = c.args.place in
    let kq = c.replace-kept.ensures.value ∙ c.index_mut.ensures.value ∙ get_or_default rows i c.index_mut.result.now [] c.requires.row_low in
    let kl : length c.replace-kept.result ≡ length rows = ap length kq ∙ c.requires.square in
    entries_low c.entries.result.now 0 (length c.args.members.now.items) (subst (λ n. Rising 0 n c.entries.result.now) (kl ∙ sym c.requires.sets) c.entries.ensures.rising)

pub index_mut-requires-2 : goal.index_mut-requires-2
index_mut-requires-2 c =
    let rows = c.args.rows.now.items in
    let i = c.args.row in
    let ml : length c.leave.new.members.items ≡ length rows = ap length c.leave.ensures ∙ change_length c.entries.result.now (left_by i) c.args.members.now.items ∙ c.requires.sets in
    let lp : c.args.place < length rows = c.requires.place_low in
    let o = c.leave.new.members.ok in
    omega arith

pub reduce_rows-requires-clause-sets : goal.reduce_rows-requires-clause-sets
reduce_rows-requires-clause-sets c =
    let rows = c.args.rows.now.items in
    let i = c.args.row in
    let p = c.args.place in
    let kq = c.replace-kept.ensures.value ∙ c.index_mut.ensures.value ∙ get_or_default rows i c.index_mut.result.now [] c.requires.row_low in
    let kl : length c.replace-kept.result ≡ length rows = ap length kq ∙ c.requires.square in
    let ml : length c.leave.new.members.items ≡ length rows = ap length c.leave.ensures ∙ change_length c.entries.result.now (left_by i) c.args.members.now.items ∙ c.requires.sets in
    length-set c.leave.new.members.items p c.replace-below.new.dest ∙ ml ∙ sym kl

pub reduce_rows-requires-clause-ascends : goal.reduce_rows-requires-clause-ascends
reduce_rows-requires-clause-ascends c =
    let rows = c.args.rows.now.items in
    let i = c.args.row in
    let p = c.args.place in
    let kq = c.replace-kept.ensures.value ∙ c.index_mut.ensures.value ∙ get_or_default rows i c.index_mut.result.now [] c.requires.row_low in
    let kl : length c.replace-kept.result ≡ length rows = ap length kq ∙ c.requires.square in
    let ml : length c.leave.new.members.items ≡ length rows = ap length c.leave.ensures ∙ change_length c.entries.result.now (left_by i) c.args.members.now.items ∙ c.requires.sets in
    let lk = left_keeps i (length rows) rows c.args.members.now.items c.entries.result.now c.requires.row_low refl c.requires.sets c.requires.square (subst (λ xs. AreEntriesOf xs c.entries.result.now) kq c.entries.ensures) c.requires.all in
    let bq : c.as_slice.result.now ≡ those (length rows) 0 (λ h. stands_at (set rows i []) h p) =
    c.as_slice.ensures ∙ c.replace-below.ensures.value ∙ c.index_mut-2.ensures.value ∙ get_or_default c.leave.new.members.items p c.index_mut-2.result.now [] (subst (λ n. p < n) (sym ml) c.requires.place_low)
    ∙ ap (λ ms. set_of ms p) c.leave.ensures ∙ lk p c.requires.place_low in
    subst (λ n. Ascends 0 n c.as_slice.result.now) (sym kl) (subst (λ hs. Ascends 0 (length rows) hs) (sym bq) (those_ascend (length rows) 0 (length rows) (λ h. stands_at (set rows i []) h p) (omega arith)))

pub reduce_rows-requires-clause-same : goal.reduce_rows-requires-clause-same
reduce_rows-requires-clause-same c =
    let rows = c.args.rows.now.items in
    let i = c.args.row in
    let p = c.args.place in
    let kq = c.replace-kept.ensures.value ∙ c.index_mut.ensures.value ∙ get_or_default rows i c.index_mut.result.now [] c.requires.row_low in
    let kl : length c.replace-kept.result ≡ length rows = ap length kq ∙ c.requires.square in
    let rq = ap (set rows i) (c.replace-kept.ensures.after ∙ c.in_ok-nothing.ensures) in
    let ml : length c.leave.new.members.items ≡ length rows = ap length c.leave.ensures ∙ change_length c.entries.result.now (left_by i) c.args.members.now.items ∙ c.requires.sets in
    let lk = left_keeps i (length rows) rows c.args.members.now.items c.entries.result.now c.requires.row_low refl c.requires.sets c.requires.square (subst (λ xs. AreEntriesOf xs c.entries.result.now) kq c.entries.ensures) c.requires.all in
    let bq : c.as_slice.result.now ≡ those (length rows) 0 (λ h. stands_at (set rows i []) h p) =
    c.as_slice.ensures ∙ c.replace-below.ensures.value ∙ c.index_mut-2.ensures.value ∙ get_or_default c.leave.new.members.items p c.index_mut-2.result.now [] (subst (λ n. p < n) (sym ml) c.requires.place_low)
    ∙ ap (λ ms. set_of ms p) c.leave.ensures ∙ lk p c.requires.place_low in
    subst (λ n. All (λ h. length (row_at (set rows i c.replace-kept.new.dest) h) ≡ n) c.as_slice.result.now) (sym kl)
    (subst (λ rs. All (λ h. length (row_at rs h) ≡ length rows) c.as_slice.result.now) (sym rq) (below_long rows i p (length rows) c.as_slice.result.now c.requires.row_low bq c.requires.long))

pub reduce_rows-requires-clause-others : goal.reduce_rows-requires-clause-others
reduce_rows-requires-clause-others c =
    let rows = c.args.rows.now.items in
    let i = c.args.row in
    let p = c.args.place in
    let kq = c.replace-kept.ensures.value ∙ c.index_mut.ensures.value ∙ get_or_default rows i c.index_mut.result.now [] c.requires.row_low in
    let kl : length c.replace-kept.result ≡ length rows = ap length kq ∙ c.requires.square in
    let rq = ap (set rows i) (c.replace-kept.ensures.after ∙ c.in_ok-nothing.ensures) in
    let ml : length c.leave.new.members.items ≡ length rows = ap length c.leave.ensures ∙ change_length c.entries.result.now (left_by i) c.args.members.now.items ∙ c.requires.sets in
    let lk = left_keeps i (length rows) rows c.args.members.now.items c.entries.result.now c.requires.row_low refl c.requires.sets c.requires.square (subst (λ xs. AreEntriesOf xs c.entries.result.now) kq c.entries.ensures) c.requires.all in
    let bq : c.as_slice.result.now ≡ those (length rows) 0 (λ h. stands_at (set rows i []) h p) =
    c.as_slice.ensures ∙ c.replace-below.ensures.value ∙ c.index_mut-2.ensures.value ∙ get_or_default c.leave.new.members.items p c.index_mut-2.result.now [] (subst (λ n. p < n) (sym ml) c.requires.place_low)
    ∙ ap (λ ms. set_of ms p) c.leave.ensures ∙ lk p c.requires.place_low in
    subst (λ rs. AreOthers p rs (set c.leave.new.members.items p c.replace-below.new.dest)) (sym rq)
    (left_others i p (length rows) rows c.leave.new.members.items (set c.leave.new.members.items p c.replace-below.new.dest) c.replace-below.new.dest refl (λ g l. ap (λ ms. set_of ms g) c.leave.ensures ∙ lk g l) ml refl)

pub index_mut-requires-3 : goal.index_mut-requires-3
index_mut-requires-3 c =
    let rows = c.args.rows.now.items in
    let i = c.args.row in
    let ml : length c.leave.new.members.items ≡ length rows = ap length c.leave.ensures ∙ change_length c.entries.result.now (left_by i) c.args.members.now.items ∙ c.requires.sets in
    let nl : length c.reduce_rows.new.members.items ≡ length rows = c.in_ok-multipliers.ensures.sets ∙ length-set c.leave.new.members.items c.args.place c.replace-below.new.dest ∙ ml in
    let lp : c.args.place < length rows = c.requires.place_low in
    let o = c.reduce_rows.new.members.ok in
    omega arith

pub returns-clause-script : goal.returns-clause-script
returns-clause-script c = λ ts cs s.
    let rows = c.args.rows.now.items in
    let i = c.args.row in
    let p = c.args.place in
    let kq = c.replace-kept.ensures.value ∙ c.index_mut.ensures.value ∙ get_or_default rows i c.index_mut.result.now [] c.requires.row_low in
    let kl : length c.replace-kept.result ≡ length rows = ap length kq ∙ c.requires.square in
    let rq = ap (set rows i) (c.replace-kept.ensures.after ∙ c.in_ok-nothing.ensures) in
    let ml : length c.leave.new.members.items ≡ length rows = ap length c.leave.ensures ∙ change_length c.entries.result.now (left_by i) c.args.members.now.items ∙ c.requires.sets in
    let lk = left_keeps i (length rows) rows c.args.members.now.items c.entries.result.now c.requires.row_low refl c.requires.sets c.requires.square (subst (λ xs. AreEntriesOf xs c.entries.result.now) kq c.entries.ensures) c.requires.all in
    let bq : c.as_slice.result.now ≡ those (length rows) 0 (λ h. stands_at (set rows i []) h p) =
    c.as_slice.ensures ∙ c.replace-below.ensures.value ∙ c.index_mut-2.ensures.value ∙ get_or_default c.leave.new.members.items p c.index_mut-2.result.now [] (subst (λ n. p < n) (sym ml) c.requires.place_low)
    ∙ ap (λ ms. set_of ms p) c.leave.ensures ∙ lk p c.requires.place_low in
    step_follows ts cs rows i p c.replace-kept.result c.as_slice.result.now (set rows i c.replace-kept.new.dest) (Ok (c.reduce_rows.new.rows.items, c.in_ok-multipliers.multipliers)) s c.requires.row_low c.requires.place_low kq bq rq kl c.in_ok-multipliers.ensures.script

pub returns-clause-others : goal.returns-clause-others
returns-clause-others c =
    let rows = c.args.rows.now.items in
    let i = c.args.row in
    let ml : length c.leave.new.members.items ≡ length rows = ap length c.leave.ensures ∙ change_length c.entries.result.now (left_by i) c.args.members.now.items ∙ c.requires.sets in
    let nl : length c.reduce_rows.new.members.items ≡ length rows = c.in_ok-multipliers.ensures.sets ∙ length-set c.leave.new.members.items c.args.place c.replace-below.new.dest ∙ ml in
    others_again c.args.place c.reduce_rows.new.rows.items c.reduce_rows.new.members.items c.empty-3.result (subst (λ n. c.args.place < n) (sym nl) c.requires.place_low) c.empty-3.ensures c.in_ok-multipliers.ensures.others

pub returns-clause-sets : goal.returns-clause-sets
returns-clause-sets c =
    let rows = c.args.rows.now.items in
    let i = c.args.row in
    let ml : length c.leave.new.members.items ≡ length rows = ap length c.leave.ensures ∙ change_length c.entries.result.now (left_by i) c.args.members.now.items ∙ c.requires.sets in
    length-set c.reduce_rows.new.members.items c.args.place c.empty-3.result ∙ c.in_ok-multipliers.ensures.sets ∙ length-set c.leave.new.members.items c.args.place c.replace-below.new.dest ∙ ml ∙ sym c.requires.sets

pub returns-in_err-multipliers-clause-script : goal.returns-in_err-multipliers-clause-script
returns-in_err-multipliers-clause-script c = λ ts cs s.
    let rows = c.args.rows.now.items in
    let i = c.args.row in
    let p = c.args.place in
    let kq = c.replace-kept.ensures.value ∙ c.index_mut.ensures.value ∙ get_or_default rows i c.index_mut.result.now [] c.requires.row_low in
    let kl : length c.replace-kept.result ≡ length rows = ap length kq ∙ c.requires.square in
    let rq = ap (set rows i) (c.replace-kept.ensures.after ∙ c.in_ok-nothing.ensures) in
    let ml : length c.leave.new.members.items ≡ length rows = ap length c.leave.ensures ∙ change_length c.entries.result.now (left_by i) c.args.members.now.items ∙ c.requires.sets in
    let lk = left_keeps i (length rows) rows c.args.members.now.items c.entries.result.now c.requires.row_low refl c.requires.sets c.requires.square (subst (λ xs. AreEntriesOf xs c.entries.result.now) kq c.entries.ensures) c.requires.all in
    let bq : c.as_slice.result.now ≡ those (length rows) 0 (λ h. stands_at (set rows i []) h p) =
    c.as_slice.ensures ∙ c.replace-below.ensures.value ∙ c.index_mut-2.ensures.value ∙ get_or_default c.leave.new.members.items p c.index_mut-2.result.now [] (subst (λ n. p < n) (sym ml) c.requires.place_low)
    ∙ ap (λ ms. set_of ms p) c.leave.ensures ∙ lk p c.requires.place_low in
    let e = err_from_is_err_and c.from_residual-in_err-multipliers.result c.from_residual-in_err-multipliers.ensures.1 in
    subst (FollowsBy (λ (k : SparseStep). (k, c.reduce_rows.new.rows.items)) (clear_step ts cs rows i p)) (sym (e.1 ∙ ap Err e.2))
    (step_fails ts cs rows c.reduce_rows.new.rows.items i p c.replace-kept.result c.as_slice.result.now (set rows i c.replace-kept.new.dest) c.in_err-multipliers.field-0.0 s c.requires.row_low c.requires.place_low kq bq rq kl c.in_err-multipliers.ensures.script)
