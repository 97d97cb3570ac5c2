use Rattle.std.proofs.Common.{ℕ, List, ◌∷◌, ◌++◌, decimal, ap, ◌∙◌, append_assoc}
use Rattle.std.proofs.lemmas.Result.{on_ok_weaker}
use Rattle.pami_cli.proofs.summary.push_counted.Goals as goal

pub returns : goal.returns
returns c =
    let o = c.args.out.now.items in
    let behind = 32 ∷ decimal c.count_events.result in
    on_ok_weaker c.push_digits.result
    (λ p. λ names counts.
    p ∙ ap (λ (z : List ℕ). z ++ behind) c.in_ok-extend_from_slice.ensures.items ∙ append_assoc o c.args.name.now behind
    ∙ ap (λ (n : ℕ). o ++ (c.args.name.now ++ 32 ∷ decimal n)) (c.count_events.ensures names counts))
    c.push_digits.ensures
