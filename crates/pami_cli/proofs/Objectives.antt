-- The objective's sum, where a loop has come to a column.
use Rattle.std.proofs.Common.{◌≡◌, ℕ, ◌+◌, ◌-◌, ◌<◌, None, Some, Result, Ok, Err, refl, ap}
use Rattle.pami_algebra.specs.Fraction.{Fraction}
use Rattle.pami_frac.specs.declared.arithmetic.Refused.{Refused}
use Rattle.pami_script.specs.Script.{each}
use Rattle.pami_script.proofs.Loops.{each_goes, each_stops}
use Rattle.pami_lines.specs.Certificate.{kept_or_none}

-- a result that is kept, or not
pub kept_is : (r : Result Fraction Refused) (x : Fraction) → Some x ≡ kept_or_none r → r ≡ Ok x
kept_is (Ok y) x e = cc
kept_is (Err r) x e = absurd cc

pub kept_not : (r : Result Fraction Refused) → None ≡ kept_or_none r → (e : Refused) × (r ≡ Err e)
kept_not (Ok y) e = absurd cc
kept_not (Err r) e = (r, refl)

-- a loop over n columns that has come to j, where a refusal tells none
pub sum_stops : (s : Result Fraction Refused) (n j : ℕ) (step : ℕ → Fraction → Result Fraction Refused) (t : Fraction) → s ≡ each (n - j) j step t → j < n → None ≡ kept_or_none (step j t) → None ≡ kept_or_none s
sum_stops s n j step t h l e = let k = kept_not (step j t) e in ap kept_or_none (each_stops s n j step t k.0 h l k.1)

pub sum_goes : (s : Result Fraction Refused) (n j : ℕ) (step : ℕ → Fraction → Result Fraction Refused) (t next : Fraction) → s ≡ each (n - j) j step t → j < n → Some next ≡ kept_or_none (step j t) → s ≡ each (n - (j + 1)) (j + 1) step next
sum_goes s n j step t next h l e = each_goes s n j step t next h l (kept_is (step j t) next e)
