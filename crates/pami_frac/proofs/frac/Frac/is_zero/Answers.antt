use Rattle.std.proofs.Common.{rules, ◌≡◌, sym, ◌∙◌, nat_eq, of_z}
use mir.Syntax.{w128}
use Rattle.pami_frac.specs.Signs.{is_zero}
use Rattle.pami_algebra.proofs.Tests.{is_zero_iff}
use Rattle.pami_frac.proofs.frac.Frac.is_zero.Goals as goal

pub returns-clause-value : goal.returns-clause-value
returns-clause-value c =
    let test : nat_eq (of_z w128 c.numerator.result) 0 ≡ is_zero c.args.self.now = search rules in
    (λ h. (is_zero_iff c.args.self.now).0 (sym test ∙ h), λ h. test ∙ (is_zero_iff c.args.self.now).1 h)
