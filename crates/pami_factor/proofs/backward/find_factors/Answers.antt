use Rattle.std.proofs.Common.{◌≡◌, ◌<◌, ◌+◌, [], ◌∷◌, length, drop, set, replicate, sym, ap, ◌∙◌, subst, arith, Ok, Err}
use Rattle.std.proofs.lemmas.List.{get_or_default}
use Rattle.std.proofs.lemmas.Result.{err_from_is_err_and}
use lib.IntN.{pos}
use Rattle.pami_algebra.specs.Operations.{of_int}
use Rattle.pami_linear.specs.Lists.{get}
use Rattle.pami_frac.specs.Answers.{FollowsBy}
use Rattle.pami_frac.specs.Arithmetic.{div_outcome}
use Rattle.pami_script.specs.Dense.{at}
use Rattle.pami_script.specs.Script.{then, sub_product}
use Rattle.pami_script.proofs.Scripts.{then_stop}
use Rattle.pami_factoring.specs.Solve.{factors, by_row}
use Rattle.pami_factoring.proofs.Backward.{by_row_length}
use Rattle.pami_vec.proofs.Scripted.{get_at}
use Rattle.pami_lu.specs.Stored.{full_steps}
use Rattle.pami_factor.specs.Reads.{rest_at, row_factors}
use Rattle.pami_factor.proofs.Taken.{written}
use Rattle.pami_factor.proofs.Positions.{at_step}
use Rattle.pami_factor.proofs.Rises.{IsWriting, writing_start, writing_row, writing_next, writing_end, finding_stop}
use Rattle.pami_factor.proofs.backward.find_factors.Goals as goal

pub loop-step-init : goal.loop-step-init
loop-step-init c =
    let ss = c.args.steps.now in
    let ks = full_steps [] ss in
    subst (λ rs. IsWriting (length ss) ks c.args.right.now (factors ks ks [] c.args.right.now) 0 ss c.in_ok-out.out.items rs) (sym c.in_ok-rests.ensures)
    (writing_start ss c.args.right.now c.in_ok-out.out.items c.requires.stored c.requires.same (c.in_ok-out.ensures ∙ ap (λ n. replicate n (of_int (pos 0))) c.requires.same))

pub returns-in_err-factor-clause-script : goal.returns-in_err-factor-clause-script
returns-in_err-factor-clause-script c =
    let ss = c.args.steps.now in
    let ks = full_steps [] ss in
    let m = length ss in
    let right = c.args.right.now in
    let start = factors ks ks [] right in
    let i = c.loop-step.step-index in
    let s = c.step-item.result in
    let rests = c.loop-step.rests.items in
    let here = at_step i ss s c.loop-step-test.true c.step-item.is in
    let g : IsWriting m ks right start i (s ∷ drop (i + 1) ss) c.loop-step.out.items rests = subst (λ zs. IsWriting m ks right start i zs c.loop-step.out.items rests) here c.loop-step.invariant in
    let low : s.place < length rests = subst (λ n. s.place < n) (sym g.finding.as_many) g.finding.before.stored.0.place_low in
    let r = c.in_err-factor.field-0.0 in
    let q = err_from_is_err_and c.from_residual-in_err-factor.result c.from_residual-in_err-factor.ensures.1 in
    subst (FollowsBy (λ v. v.items) (row_factors ks right)) (sym (q.1 ∙ ap Err q.2))
    (then_stop start (λ ws. Ok (by_row (length right) ks ws)) r (finding_stop m ks right start i s (drop (i + 1) ss) g.found rests r g.finding
    (ap (λ u. then u (λ t. div_outcome t (get s.kept s.place))) (sym (c.index.ensures ∙ get_or_default rests s.place c.index.result.now (Ok (of_int (pos 0))) low))
    ∙ ap (λ d. then c.index.result.now (λ t. div_outcome t d)) (sym c.at.ensures) ∙ sym c.in_err-factor.ensures)))

pub index_mut-requires : goal.index_mut-requires
index_mut-requires c =
    let ss = c.args.steps.now in
    let ks = full_steps [] ss in
    let right = c.args.right.now in
    let i = c.loop-step.step-index in
    let s = c.step-item.result in
    let start = factors ks ks [] right in
    let here = at_step i ss s c.loop-step-test.true c.step-item.is in
    let g : IsWriting (length ss) ks right start i (s ∷ drop (i + 1) ss) c.loop-step.out.items c.loop-step.rests.items = subst (λ zs. IsWriting (length ss) ks right start i zs c.loop-step.out.items c.loop-step.rests.items) here c.loop-step.invariant in
    let row : s.row < length c.loop-step.out.items = writing_row (length ss) ks right start i s (drop (i + 1) ss) c.loop-step.out.items c.loop-step.rests.items g in
    let o = c.loop-step.out.ok in
    omega arith

pub loop-step-preserved : goal.loop-step-preserved
loop-step-preserved c =
    let ss = c.args.steps.now in
    let ks = full_steps [] ss in
    let m = length ss in
    let right = c.args.right.now in
    let start = factors ks ks [] right in
    let i = c.loop-step.step-index in
    let s = c.step-item.result in
    let out = c.loop-step.out.items in
    let w = c.in_ok-factor.factor in
    let rests = c.loop-step.rests.items in
    let here = at_step i ss s c.loop-step-test.true c.step-item.is in
    let g : IsWriting m ks right start i (s ∷ drop (i + 1) ss) out rests = subst (λ zs. IsWriting m ks right start i zs out rests) here c.loop-step.invariant in
    let low : s.place < length rests = subst (λ n. s.place < n) (sym g.finding.as_many) g.finding.before.stored.0.place_low in
    let new = c.take_kept.new.rests in
    let n : length new ≡ length rests = c.take_kept.ensures.as_many ∙ ap length c.as_mut_slice.ensures.value in
    let o = c.loop-step.rests.ok in
    subst (λ rs. IsWriting m ks right start (i + 1) (drop (i + 1) ss) (set out s.row w) rs) (sym (written c.loop-step.rests.len new rests n (omega arith)))
    (writing_next ss right start i s out w rests new c.requires.stored here g
    (ap (λ u. then u (λ t. div_outcome t (get s.kept s.place))) (sym (c.index.ensures ∙ get_or_default rests s.place c.index.result.now (Ok (of_int (pos 0))) low))
    ∙ ap (λ d. then c.index.result.now (λ t. div_outcome t d)) (sym c.at.ensures) ∙ sym c.in_ok-factor.ensures)
    n
    (λ j l n.
    c.take_kept.ensures.each j n
    ∙ ap (λ rs. then (rest_at rs j) (λ t. sub_product t w (at c.entries.result.now j))) c.as_mut_slice.ensures.value
    ∙ ap (λ v. then (rest_at rests j) (λ t. sub_product t w v)) (sym (get_at s.kept c.entries.result.now j c.entries.ensures (subst (λ n. j < n) (sym g.finding.before.stored.0.kept_length) l)))))

pub returns-clause-script : goal.returns-clause-script
returns-clause-script c =
    let ss = c.args.steps.now in
    let ks = full_steps [] ss in
    let right = c.args.right.now in
    ap (λ n. then (factors ks ks [] right) (λ ws. Ok (by_row n ks ws))) c.requires.same
    ∙ writing_end (length ss) ks right (factors ks ks [] right) c.loop-step.step-index ss c.loop-step.out.items c.loop-step.rests.items c.loop-step.invariant c.loop-step-test.false

pub returns-clause-size : goal.returns-clause-size
returns-clause-size c =
    let n = by_row_length (length c.args.steps.now) (full_steps [] c.args.steps.now) c.loop-step.invariant.found in
    ap length c.loop-step.invariant.written ∙ n ∙ sym c.requires.same
