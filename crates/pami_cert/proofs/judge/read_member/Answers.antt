use Rattle.std.proofs.Common.{◌≡◌, ◌∷◌, [], refl, rules}
use Rattle.std.proofs.lemmas.Result.{IfErr-weaker}
use Rattle.pami_cert.specs.declared.cert.CertKind.TheVariants as kinds
use Rattle.pami_cert.specs.Part.{tag}
use Rattle.pami_cert.specs.CertText.{words_of}
use Rattle.pami_cert.specs.Due.{Variable, IsNumber, IsWrong}
use Rattle.pami_cert.proofs.Lists.{all_head}
use Rattle.pami_cert.proofs.Judged.{no_numbers}
use Rattle.pami_cert.proofs.judge.read_member.Goals as goal

pub returns-clause-wrong : goal.returns-clause-wrong
returns-clause-wrong c =
    let t = c.in_ok-first in
    let words : words_of c.args.line.now ≡ t.first.now ∷ t.second.now ∷ t.value.now ∷ [] = search rules in
    let first : t.first.now ≡ tag c.args.part = search rules in
    let second : t.second.now ≡ c.args.name.now = search rules in
    IfErr-weaker c.number.result (λ kind. (kind ≡ kinds.Number) × (¬ IsNumber t.value.now))
    (λ kind. IsWrong (Variable c.args.part c.args.name.now 1) (words_of c.args.line.now) kind)
    (λ kind w. no_numbers c.args.part c.args.name.now 1 (words_of c.args.line.now) t.first.now t.second.now (t.value.now ∷ []) kind
    words first second refl w.0 (λ a. w.1 (all_head IsNumber t.value.now [] a)))
    c.number.ensures.wrong
