use Rattle.std.proofs.Common.{rules, ◌≡◌, sym, ◌∙◌, to_z, of_z, pos}
use mir.Syntax.{w128}
use lib.Signed.{lt_z}
use Rattle.pami_frac.specs.Signs.{is_negative}
use Rattle.pami_frac.proofs.Signs.{negative_means}
use Rattle.pami_frac.proofs.frac.Frac.is_negative.Goals as goal

pub returns-clause-value : goal.returns-clause-value
returns-clause-value c =
    let test : lt_z (to_z w128 (of_z w128 c.numerator.result)) (pos 0) ≡ is_negative c.args.self.now = search rules in
    (λ h. (negative_means c.args.self.now).0 (sym test ∙ h), λ h. test ∙ (negative_means c.args.self.now).1 h)
