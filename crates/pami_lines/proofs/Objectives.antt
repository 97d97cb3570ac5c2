-- The objective that a text tells is exact.
use Rattle.std.proofs.Common.{◌≡◌, ℕ, refl, Result, Ok, Err}
use Rattle.pami_algebra.specs.Fraction.{Fraction}
use Rattle.pami_frac.specs.declared.arithmetic.Refused.{Refused}
use Rattle.pami_script.specs.Script.{add_dot}
use Rattle.pami_script.proofs.Values.{add_dot_value}
use Rattle.pami_theory.specs.Certificate.{HoldsObjective, objective_of}
use Rattle.pami_lines.specs.Certificate.{Named, kept_or_none, objective_in}

told : (m : Named) (x : ℕ → Fraction) (r : Result Fraction Refused) →
    ((s : Fraction) → r ≡ Ok s → s ≡ objective_of m.constant m.counts.columns m.cost x) → HoldsObjective m.constant m.counts.columns m.cost x (kept_or_none r)
told m x (Ok s) h = h s refl
told m x (Err e) h = tt

pub objective_holds : (m : Named) (x : ℕ → Fraction) → HoldsObjective m.constant m.counts.columns m.cost x (objective_in m x)
objective_holds m x = told m x (add_dot m.counts.columns m.cost x m.constant) (λ s e. add_dot_value m.counts.columns m.cost x m.constant s e)
