use Rattle.std.proofs.Common.{◌≡◌, ◌≤◌, ◌-◌, ℕ, length, drop, Result}
use Rattle.pami_algebra.specs.Fraction.{Fraction}
use Rattle.pami_frac.specs.declared.arithmetic.Refused.{Refused}
use Rattle.pami_script.specs.Dense.{Rising}
use Rattle.pami_price.specs.Sums.{AreSums, limit_of, with_row}
use Rattle.pami_price.proofs.sums.add_row.Given as goal

abbrev pub invariant-loop-k : goal.invariant-loop-k
invariant-loop-k l =
    (length l.sums ≡ length l.fn.sums)
    × Rising l.first (length l.stands) (drop l.k l.entries)
    × ((rest : ℕ → Fraction → Result Fraction Refused) (outcome : ℕ → Result Fraction Refused) → AreSums l.stands l.first l.last (with_row l.factor l.entries rest) outcome l.fn.sums l.before
    → AreSums l.stands l.first l.last (with_row l.factor (drop l.k l.entries) rest) outcome l.sums l.before)

abbrev pub decreases-loop-k : goal.decreases-loop-k
decreases-loop-k l = length l.entries - l.k
