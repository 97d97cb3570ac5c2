use Rattle.std.proofs.Common.{rules, ◌≡◌, ◌∙◌, sym, ap, Some, pos, to_z, of_z, SFits}
use Rattle.std.proofs.lemmas.Int.{to_z-of_z}
use mir.Syntax.{w128}
use Rattle.pami_frac.specs.Range.{quotient}
use Rattle.pami_frac.proofs.PrintedParts.{above_small, below_small, joined_by, value_is, same_value}
use Rattle.pami_frac.proofs.fraction.fraction_of.Goals as goal
use Rattle.pami_frac.proofs.fraction.fraction_of.Goals.{else-numerator-n-via-then-numerator-n+else-denominator-d, else-numerator-n-via-else-numerator-n}

pub returns-then-denominator-d-clause-read : goal.returns-then-denominator-d-clause-read
returns-then-denominator-d-clause-read c =
    let k = c.in-Some-denominator_of.ensures.read in
    let n = c.in-Some.n in
    let d = c.in-Some-denominator_of.d in
    let fit-n : SFits w128 n = search rules in
    let fit-d : SFits w128 d = search rules in
    let same-n : c.numerator.result ≡ n = sym (to_z-of_z w128 c.numerator.result (record { sfits = c.numerator.type_inv })) ∙ ap (to_z w128) c.if-numerator-n.true ∙ to_z-of_z w128 n fit-n in
    let same-d : c.denominator.result ≡ d = sym (to_z-of_z w128 c.denominator.result (record { sfits = c.denominator.type_inv })) ∙ ap (to_z w128) c.if-denominator-d.true ∙ to_z-of_z w128 d fit-d in
    joined_by c.in-Ok.value n d c.numerator.result c.denominator.result k.0 c.args.above.now c.args.rest.now
    c.in-Some.ensures.read c.numerator.ensures.value same-n k.1 k.2 c.denominator.ensures.value same-d

pub returns-then-denominator-d-clause-only : goal.returns-then-denominator-d-clause-only
returns-then-denominator-d-clause-only c = λ v f a r.
    let n = c.in-Some.n in
    let d = c.in-Some-denominator_of.d in
    let fit-n : SFits w128 n = search rules in
    let fit-d : SFits w128 d = search rules in
    let is-n : n ≡ v.num = same_value (c.in-Some.ensures.only v.num (above_small v f) a) in
    let is-d : d ≡ pos v.den = same_value (c.in-Some-denominator_of.ensures.only v.den (below_small v f) r) in
    let made : c.in-Ok.value ≡ quotient n d = c.in-Ok.ensures.value ∙ ap (λ x. quotient x (to_z w128 (of_z w128 d))) (to_z-of_z w128 n fit-n) ∙ ap (quotient n) (to_z-of_z w128 d fit-d) in
    ap Some (value_is v c.in-Ok.value n d is-n is-d made)

pub returns-else-numerator-n-clause-only : goal.returns-else-numerator-n-clause-only
returns-else-numerator-n-clause-only c = λ v f a r.
    let n = c.in-Some.n in
    let d = c.in-Some-denominator_of.d in
    let fit-n : SFits w128 n = search rules in
    let fit-d : SFits w128 d = search rules in
    let is-n : n ≡ v.num = same_value (c.in-Some.ensures.only v.num (above_small v f) a) in
    let is-d : d ≡ pos v.den = same_value (c.in-Some-denominator_of.ensures.only v.den (below_small v f) r) in
    let made : c.in-Ok.value ≡ quotient n d = c.in-Ok.ensures.value ∙ ap (λ x. quotient x (to_z w128 (of_z w128 d))) (to_z-of_z w128 n fit-n) ∙ ap (quotient n) (to_z-of_z w128 d fit-d) in
    let same = value_is v c.in-Ok.value n d is-n is-d made in
    elim c.else-numerator-n.branch [
      | else-numerator-n-via-then-numerator-n+else-denominator-d w ↦ absurd (w.if-denominator-d.false (ap (of_z w128) (w.denominator.ensures.value ∙ ap (λ x. pos x.den) same ∙ sym is-d)))
      | else-numerator-n-via-else-numerator-n w ↦ absurd (w.if-numerator-n.false (ap (of_z w128) (c.numerator.ensures.value ∙ ap (λ x. x.num) same ∙ sym is-n)))
    ]
