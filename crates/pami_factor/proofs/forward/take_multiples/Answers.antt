use Rattle.std.proofs.Common.{◌<◌, length, set, false, refl, sym, ap, ◌∙◌, subst}
use Rattle.std.proofs.lemmas.List.{get_or_default, get_or-set_same, length-set}
use lib.IntN.{pos}
use Rattle.pami_algebra.specs.Operations.{of_int}
use Rattle.pami_factoring.specs.Solve.{sub_multiples}
use Rattle.pami_vec.proofs.ProductForm.{sub_multiples_zero}
use Rattle.pami_factor.proofs.Multiples.{multiples_go, multiples_stop}
use Rattle.pami_factor.proofs.forward.take_multiples.Goals as goal

pub returns-then-is_zero-clause-script : goal.returns-then-is_zero-clause-script
returns-then-is_zero-clause-script c = λ ts cs n st.
    let s = c.args.step.now in
    let x = c.index-right-step.is ∙ get_or_default c.args.right.now s.row c.index-right-step.result (of_int (pos 0)) c.requires.low in
    ap (sub_multiples (set ts s.row false) c.args.right.now s.multipliers) (sym x ∙ c.if-is_zero.ensures.value.0 refl)
    ∙ sub_multiples_zero (set ts s.row false) c.args.right.now s.multipliers

pub returns-in-Ok-clause-script : goal.returns-in-Ok-clause-script
returns-in-Ok-clause-script c = λ ts cs n st.
    let s = c.args.step.now in
    let x = c.index-right-step.is ∙ get_or_default c.args.right.now s.row c.index-right-step.result (of_int (pos 0)) c.requires.low in
    ap (sub_multiples (set ts s.row false) c.args.right.now s.multipliers) (sym x)
    ∙ multiples_go (length c.args.right.now) ts cs s c.entries.result.now c.args.right.now c.change_members.new.members c.index-right-step.result n st refl
    (get_or-set_same ts s.row false false (subst (λ m. s.row < m) (sym n) c.requires.low)) (length-set ts s.row false ∙ n) c.entries.ensures c.in-Ok.ensures

pub returns-in-Err-clause-script : goal.returns-in-Err-clause-script
returns-in-Err-clause-script c = λ ts cs n st.
    let s = c.args.step.now in
    let x = c.index-right-step.is ∙ get_or_default c.args.right.now s.row c.index-right-step.result (of_int (pos 0)) c.requires.low in
    ap (sub_multiples (set ts s.row false) c.args.right.now s.multipliers) (sym x)
    ∙ multiples_stop (length c.args.right.now) ts cs s c.entries.result.now c.args.right.now c.index-right-step.result c.in-Err.stop.place c.in-Err.stop.refused n st refl
    (get_or-set_same ts s.row false false (subst (λ m. s.row < m) (sym n) c.requires.low)) (length-set ts s.row false ∙ n) c.entries.ensures c.in-Err.ensures
