use Rattle.std.proofs.Common.{ℕ, ◌≡◌, ◌⊎◌, inl, inr, ◌∙◌, ◌<◌, ap, sym, subst, arith}
use Rattle.pami_algebra.specs.Fraction.{gcd as the_gcd}
use Rattle.pami_algebra.specs.Gcd.{gcd_step, gcd_end}
use Rattle.pami_algebra.specs.Reduced.{gcd_pos}
use Rattle.pami_algebra.proofs.Parts.{gcd_one}
use Rattle.pami_frac.proofs.Crosswise.{coprime_swap}
use Rattle.pami_frac.proofs.whole.gcd.Goals as goal

pub returns-then-a-eq1-clause-value : goal.returns-then-a-eq1-clause-value
returns-then-a-eq1-clause-value c = one_of c.args.a c.args.b (either_one c.then-a-eq1.either)
  where
    either_one : {A B C : Type 0} → A ⊎ (C × B) → A ⊎ B
    either_one (inl x) = inl x
    either_one (inr x) = inr x.1

    one_of : (a b : ℕ) → (a ≡ 1) ⊎ (b ≡ 1) → 1 ≡ the_gcd a b
    one_of a b (inl e) = sym (ap (λ n. the_gcd n b) e ∙ coprime_swap b 1 (gcd_one b))
    one_of a b (inr e) = sym (ap (the_gcd a) e ∙ gcd_one a)

pub loop-y-preserved : goal.loop-y-preserved
loop-y-preserved c = gcd_step c.loop-y.x c.loop-y.y (omega arith) ∙ c.loop-y.invariant

pub returns-then-y-eq0-clause-value : goal.returns-then-y-eq0-clause-value
returns-then-y-eq0-clause-value c = sym (gcd_end c.loop-y.x) ∙ ap (the_gcd c.loop-y.x) (sym c.if-y-eq0.true) ∙ c.loop-y.invariant

pub returns-then-y-eq0-clause-positive : goal.returns-then-y-eq0-clause-positive
returns-then-y-eq0-clause-positive c h = subst (λ n. 0 < n) (sym (returns-then-y-eq0-clause-value c)) (gcd_pos c.args.a c.args.b h)

pub returns-clause-value : goal.returns-clause-value
returns-clause-value c = c.gcd_narrow-2.ensures ∙ gcd_step c.loop-y.x c.loop-y.y (omega arith) ∙ c.loop-y.invariant

pub returns-clause-positive : goal.returns-clause-positive
returns-clause-positive c h = subst (λ n. 0 < n) (sym (returns-clause-value c)) (gcd_pos c.args.a c.args.b h)

pub returns-then-x-le-NARROW-clause-positive : goal.returns-then-x-le-NARROW-clause-positive
returns-then-x-le-NARROW-clause-positive c h = subst (λ n. 0 < n) (sym (c.gcd_narrow.ensures ∙ c.loop-y.invariant)) (gcd_pos c.args.a c.args.b h)
