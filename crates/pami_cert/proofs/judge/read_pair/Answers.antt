use Rattle.std.proofs.Common.{◌≡◌, ◌∷◌, [], refl, rules}
use Rattle.std.proofs.lemmas.Result.{err_from_is_err_and}
use Rattle.pami_cert.specs.Part.{tag}
use Rattle.pami_cert.specs.CertText.{words_of}
use Rattle.pami_cert.specs.Due.{Variable, IsNumber, IsWrong}
use Rattle.pami_cert.proofs.Lists.{all_head, all_tail}
use Rattle.pami_cert.proofs.Judged.{handed_on, no_numbers}
use Rattle.pami_cert.proofs.judge.read_pair.Goals as goal

pub returns-in_err-number-clause-wrong : goal.returns-in_err-number-clause-wrong
returns-in_err-number-clause-wrong c =
    let t = c.in_ok-first in
    let words : words_of c.args.line.now ≡ t.first.now ∷ t.second.now ∷ t.value.now ∷ t.other.now ∷ [] = search rules in
    let first : t.first.now ≡ tag c.args.part = search rules in
    let second : t.second.now ≡ c.args.name.now = search rules in
    let w = c.in_err-number.ensures.wrong in
    let p = err_from_is_err_and c.from_residual-in_err-number.result c.from_residual-in_err-number.ensures.1 in
    handed_on c.from_residual-in_err-number.result p.0 c.in_err-number.field-0.0
    (λ kind. IsWrong (Variable c.args.part c.args.name.now 2) (words_of c.args.line.now) kind) p.1 p.2
    (no_numbers c.args.part c.args.name.now 2 (words_of c.args.line.now) t.first.now t.second.now (t.value.now ∷ t.other.now ∷ []) c.in_err-number.field-0.0
    words first second refl w.0 (λ a. w.1 (all_head IsNumber t.value.now (t.other.now ∷ []) a)))

pub returns-in_err-number-2-clause-wrong : goal.returns-in_err-number-2-clause-wrong
returns-in_err-number-2-clause-wrong c =
    let t = c.in_ok-first in
    let words : words_of c.args.line.now ≡ t.first.now ∷ t.second.now ∷ t.value.now ∷ t.other.now ∷ [] = search rules in
    let first : t.first.now ≡ tag c.args.part = search rules in
    let second : t.second.now ≡ c.args.name.now = search rules in
    let w = c.in_err-number-2.ensures.wrong in
    let p = err_from_is_err_and c.from_residual-in_err-number-2.result c.from_residual-in_err-number-2.ensures.1 in
    handed_on c.from_residual-in_err-number-2.result p.0 c.in_err-number-2.field-0.0
    (λ kind. IsWrong (Variable c.args.part c.args.name.now 2) (words_of c.args.line.now) kind) p.1 p.2
    (no_numbers c.args.part c.args.name.now 2 (words_of c.args.line.now) t.first.now t.second.now (t.value.now ∷ t.other.now ∷ []) c.in_err-number-2.field-0.0
    words first second refl w.0 (λ a. w.1 (all_head IsNumber t.other.now [] (all_tail IsNumber t.value.now (t.other.now ∷ []) a))))
