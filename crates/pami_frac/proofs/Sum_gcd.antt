-- What the numbers of a sum have in common divides both denominators.
use Rattle.std.proofs.Common.{◌≡◌, ℕ, suc, ◌*◌, ◌/◌, ◌<◌, [], ◌∷◌, refl, sym, ap, ◌∙◌, subst, arith}
use native.Mathlib.Nat.{div-mul_cancel, dvd-mul_left, dvd-mul_right, dvd_trans, dvd_antisymm, dvd_refl}
use lib.IntN.{ℤ, pos, negsuc, neg_ℤ, ◌+ℤ◌, ◌*ℤ◌, nat_abs, +ℤ_comm}
use Rattle.std.specs.Int.{◌∣◌}
use Rattle.pami_algebra.specs.Fraction.{gcd}
use Rattle.pami_algebra.specs.Gcd.{gcd_is, divides_other}
use Rattle.pami_algebra.specs.Integers.{by_ring_ℤ, neg_mul_ℤ}
use Rattle.pami_algebra.specs.Lowest.{abs_mul}
use Rattle.pami_algebra.specs.Reduced.{reduced_gcd, reduced_pos, gcd_pos}
use Rattle.pami_algebra.specs.Ring.{var, ◌⊕◌, ◌⊗◌, ⊖}
use Rattle.pami_frac.proofs.Crosswise.{coprime_in, coprime_out, coprime_parts, coprime_swap, coprime_times, quotient_pos}

-- a factor that has nothing in common with x can be left out
gcd_left_out : (x z w : ℕ) → 0 < w → gcd x z ≡ 1 → gcd x (z * w) ≡ gcd x w
gcd_left_out x z w p e =
    let g = gcd_is x (z * w) in
    let h = gcd_is x w in
    dvd_antisymm
    (h.2 (gcd x (z * w)) g.0 (divides_other (gcd x (z * w)) z w p (coprime_parts x z (gcd x (z * w)) z e g.0 (dvd_refl z)) g.1))
    (g.2 (gcd x w) h.0 (dvd_trans (gcd x w) h.1 (dvd-mul_left w z)))

-- a divisor of a number with a sign, as a factor
factor : (e : ℕ) (z : ℤ) → e ∣ nat_abs z → (k : ℤ) × (z ≡ k *ℤ pos e)
factor e (pos n) h = (pos (n / e), ap pos (sym (div-mul_cancel e h)))
factor e (negsuc n) h = (neg_ℤ (pos (suc n / e)), sym (neg_mul_ℤ (pos (suc n / e)) (pos e) ∙ ap (λ k. neg_ℤ (pos k)) (div-mul_cancel e h)))

divides_factor : (e : ℕ) (z k : ℤ) → z ≡ k *ℤ pos e → e ∣ nat_abs z
divides_factor e z k h = subst (λ n. e ∣ n) (sym (ap nat_abs h ∙ abs_mul k e)) (dvd-mul_left e (nat_abs k))

-- what divides a sum and one summand divides the other
divides_rest : (e : ℕ) (u v : ℤ) → e ∣ nat_abs (u +ℤ v) → e ∣ nat_abs v → e ∣ nat_abs u
divides_rest e u v h k =
    let s = factor e (u +ℤ v) h in
    let t = factor e v k in
    divides_factor e u (s.0 +ℤ neg_ℤ t.0)
    (by_ring_ℤ (u ∷ v ∷ []) (var 0) (var 0 ⊕ var 1 ⊕ ⊖ (var 1)) refl
    ∙ ap (λ z. z +ℤ neg_ℤ v) s.1 ∙ ap (λ z. s.0 *ℤ pos e +ℤ neg_ℤ z) t.1
    ∙ by_ring_ℤ (s.0 ∷ t.0 ∷ pos e ∷ []) (var 0 ⊗ var 2 ⊕ ⊖ (var 1 ⊗ var 2)) ((var 0 ⊕ ⊖ (var 1)) ⊗ var 2) refl)

-- a y + c x has nothing in common with x
sum_coprime : (a c : ℤ) (x y : ℕ) → 0 < y → gcd (nat_abs a) x ≡ 1 → gcd x y ≡ 1 → gcd (nat_abs (a *ℤ pos y +ℤ c *ℤ pos x)) x ≡ 1
sum_coprime a c x y p e f = coprime_in (nat_abs (a *ℤ pos y +ℤ c *ℤ pos x)) x (λ d h k.
    coprime_out x (nat_abs a * y) d (coprime_times x (nat_abs a) y p (coprime_swap (nat_abs a) x e) f) k
    (subst (λ n. d ∣ n) (abs_mul a y) (divides_rest d (a *ℤ pos y) (c *ℤ pos x) h (subst (λ n. d ∣ n) (sym (abs_mul c x)) (dvd_trans d k (dvd-mul_left x (nat_abs c)))))))

-- b is b' g and d is d' g
regroup : (b' d' g : ℕ) → b' * g * d' ≡ b' * (d' * g)
regroup b' d' g = omega arith

parts_gcd : (n b d b' d' g : ℕ) → b' * g ≡ b → d' * g ≡ d → 0 < d → 0 < g → gcd n b' ≡ 1 → gcd n d' ≡ 1 → gcd n (b * d') ≡ gcd n g
parts_gcd n b d b' d' g e f pd pg h k =
    ap (λ b. gcd n (b * d')) (sym e) ∙ ap (gcd n) (regroup b' d' g)
    ∙ gcd_left_out n b' (d' * g) (subst (λ d. 0 < d) (sym f) pd) h ∙ gcd_left_out n d' g pg k

pub sum_gcd : (a c : ℤ) (b d : ℕ) → 0 < b → 0 < d → gcd (nat_abs a) b ≡ 1 → gcd (nat_abs c) d ≡ 1 →
    gcd (nat_abs (a *ℤ pos (d / gcd b d) +ℤ c *ℤ pos (b / gcd b d))) (b * (d / gcd b d)) ≡ gcd (nat_abs (a *ℤ pos (d / gcd b d) +ℤ c *ℤ pos (b / gcd b d))) (gcd b d)
sum_gcd a c b d pb pd e f =
    let g = gcd_is b d in
    let pg : 0 < gcd b d = gcd_pos b d pd in
    let eb : b / gcd b d * gcd b d ≡ b = div-mul_cancel (gcd b d) g.0 in
    let ed : d / gcd b d * gcd b d ≡ d = div-mul_cancel (gcd b d) g.1 in
    let db : b / gcd b d ∣ b = subst (λ n. b / gcd b d ∣ n) eb (dvd-mul_right (b / gcd b d) (gcd b d)) in
    let dd : d / gcd b d ∣ d = subst (λ n. d / gcd b d ∣ n) ed (dvd-mul_right (d / gcd b d) (gcd b d)) in
    let apart : gcd (b / gcd b d) (d / gcd b d) ≡ 1 = reduced_gcd b d pd in
    parts_gcd (nat_abs (a *ℤ pos (d / gcd b d) +ℤ c *ℤ pos (b / gcd b d))) b d (b / gcd b d) (d / gcd b d) (gcd b d) eb ed pd pg
    (sum_coprime a c (b / gcd b d) (d / gcd b d) (reduced_pos b d pd) (coprime_parts (nat_abs a) b (nat_abs a) (b / gcd b d) e (dvd_refl (nat_abs a)) db) apart)
    (subst (λ z. gcd (nat_abs z) (d / gcd b d) ≡ 1) (+ℤ_comm (c *ℤ pos (b / gcd b d)) (a *ℤ pos (d / gcd b d)))
    (sum_coprime c a (d / gcd b d) (b / gcd b d) (quotient_pos b (gcd b d) pb eb) (coprime_parts (nat_abs c) d (nat_abs c) (d / gcd b d) f (dvd_refl (nat_abs c)) dd) (coprime_swap (b / gcd b d) (d / gcd b d) apart)))
