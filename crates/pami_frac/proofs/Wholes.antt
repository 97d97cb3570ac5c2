-- A whole number of 64 bits as a stored fraction.
use Rattle.std.proofs.Common.{◌≡◌, ◌<◌, ◌^◌, sym, ap, subst, arith, lit<}
use lib.IntN.{ℤ, pos, negsuc, nat_abs}
use lib.Signed.{mag}
use lib.Dec.{T}
use Rattle.pami_algebra.specs.Fraction.{is_lowest}
use Rattle.pami_algebra.specs.Reduced.{over}
use Rattle.pami_algebra.specs.Operations.{of_int}
use Rattle.pami_algebra.proofs.Parts.{num_of_int, den_of_int}
use Rattle.pami_frac.specs.Stored.{IsStored}

whole_lowest : (n : ℤ) → T (is_lowest n 1)
whole_lowest n = subst (λ k. T (is_lowest k 1)) (num_of_int n) (subst (λ d. T (is_lowest (of_int n).num d)) (den_of_int n) (of_int n).lowest)

whole_small : (n : ℤ) → mag n < 2 ^ 63 → nat_abs n < 2 ^ 127
whole_small (pos n) l = let h : n < 2 ^ 63 = l in omega arith
whole_small (negsuc n) l = let h : n < 2 ^ 63 = l in omega arith

pub whole_stored : (n m : ℤ) → m ≡ n → mag n < 2 ^ 63 → IsStored m 1
whole_stored n m e l = subst (λ k. IsStored k 1) (sym e) (record { lowest = whole_lowest n; num_small = whole_small n l; den_small = lit< tt })

pub whole_is : (n m : ℤ) → m ≡ n → over m 1 ≡ of_int n
unfolding of_int
whole_is n m e = ap (λ k. over k 1) e
