-- A stored fraction with its sign turned.
use Rattle.std.proofs.Common.{◌≡◌, ℕ, ◌<◌, ◌^◌, zero, suc, refl, sym, ap, ◌∙◌, subst, arith, to_z, of_z}
use lib.IntN.{ℤ, pos, negsuc, neg_ℤ, nat_abs, ◌-ℤ◌}
use lib.Signed.{mag}
use lib.Dec.{T}
use Rattle.pami_algebra.specs.Fraction.{is_lowest}
use Rattle.pami_algebra.specs.Reduced.{over, over_num, over_den}
use Rattle.pami_algebra.specs.Operations.{neg_f}
use Rattle.pami_frac.specs.Stored.{IsStored}
use Rattle.std.proofs.lemmas.Int.{ints, to_z-of_z}
use mir.Syntax.{w128}

pub neg_over : (n : ℤ) (d : ℕ) → T (is_lowest n d) → over (neg_ℤ n) d ≡ neg_f (over n d)
unfolding neg_f
neg_over n d h = sym (ap (λ z. over (neg_ℤ z) (over n d).den) (over_num n d h) ∙ ap (λ z. over (neg_ℤ n) z) (over_den n d h))

stored_fits : (n : ℤ) → nat_abs n < 2 ^ 127 → mag n < 2 ^ 127
stored_fits (pos n) l = l
stored_fits (negsuc n) l = omega arith

neg_abs : (n : ℤ) → nat_abs (neg_ℤ n) ≡ nat_abs n
neg_abs (pos zero) = refl
neg_abs (pos (suc n)) = refl
neg_abs (negsuc n) = refl

neg_as : (n : ℤ) → pos 0 -ℤ n ≡ neg_ℤ n
neg_as n = omega (arith, ints)

neg_fits : (n : ℤ) → nat_abs n < 2 ^ 127 → mag (pos 0 -ℤ n) < 2 ^ 127
neg_fits n l = stored_fits (pos 0 -ℤ n) (subst (λ z. z < 2 ^ 127) (sym (ap nat_abs (neg_as n) ∙ neg_abs n)) l)

pub back : (n : ℤ) (d : ℕ) → IsStored n d → to_z w128 (of_z w128 n) ≡ n
back n d k = to_z-of_z w128 n (record { sfits = stored_fits n k.num_small })

pub neg_back : (n : ℤ) (d : ℕ) → IsStored n d → to_z w128 (of_z w128 (pos 0 -ℤ to_z w128 (of_z w128 n))) ≡ neg_ℤ n
neg_back n d k = ap (λ z. to_z w128 (of_z w128 (pos 0 -ℤ z))) (back n d k) ∙ to_z-of_z w128 (pos 0 -ℤ n) (record { sfits = neg_fits n k.num_small }) ∙ neg_as n
