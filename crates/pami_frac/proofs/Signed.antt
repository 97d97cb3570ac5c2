-- A pair divided by its greatest common divisor, with a sign.
use Rattle.std.proofs.Common.{◌≡◌, ℕ, ◌*◌, ◌/◌, ◌<◌, ◌≤◌, ◌^◌, refl, sym, ap, ◌∙◌, subst, arith, Bool, true, false, cond, Option, Some, None, ◌⊎◌}
use native.Mathlib.Nat.{div-mul_cancel}
use lib.IntN.{ℤ, pos, neg_ℤ, ◌*ℤ◌, nat_abs}
use lib.Dec.{T, ltb→lt, lt→ltb}
use Rattle.pami_algebra.specs.Fraction.{Fraction, gcd, is_lowest}
use Rattle.pami_algebra.specs.Gcd.{gcd_is}
use Rattle.pami_algebra.specs.Integers.{neg_mul_ℤ}
use Rattle.pami_algebra.specs.Lowest.{abs_neg, is_lowest_in, same_ratio}
use Rattle.pami_algebra.specs.Reduced.{over, over_ratio, over_num, over_den, reduced_gcd, reduced_pos, crossed}
use Rattle.pami_frac.specs.Stored.{IsStored}
use Rattle.pami_frac.specs.Range.{fits, small, signed_of, kept}

pub signed_abs : (s : Bool) (n : ℕ) → nat_abs (signed_of s n) ≡ n
signed_abs true n = abs_neg n
signed_abs false n = refl

pub signed_mul : (s : Bool) (n d m e : ℕ) → n * d ≡ m * e → signed_of s n *ℤ pos d ≡ signed_of s m *ℤ pos e
signed_mul true n d m e h = neg_mul_ℤ (pos n) (pos d) ∙ ap (λ k. neg_ℤ (pos k)) h ∙ sym (neg_mul_ℤ (pos m) (pos e))
signed_mul false n d m e h = ap pos h

pub lowest_of : (s : Bool) (a b g : ℕ) → 0 < b → g ≡ gcd a b → T (is_lowest (signed_of s (a / g)) (b / g))
lowest_of s a b g p e =
    subst (λ g. T (is_lowest (signed_of s (a / g)) (b / g))) (sym e)
    (is_lowest_in (signed_of s (a / gcd a b)) (b / gcd a b) (ap (λ k. gcd k (b / gcd a b)) (signed_abs s (a / gcd a b)) ∙ reduced_gcd a b p) (reduced_pos a b p))

pub over_reduced : (s : Bool) (a b g : ℕ) → 0 < b → g ≡ gcd a b → over (signed_of s (a / g)) (b / g) ≡ over (signed_of s a) b
over_reduced s a b g p e =
    let d = gcd_is a b in
    let at : over (signed_of s (a / gcd a b)) (b / gcd a b) ≡ over (signed_of s a) b =
    same_ratio _ _ _ _ _ _ (over_ratio (signed_of s (a / gcd a b)) (b / gcd a b) (reduced_pos a b p)) (over_ratio (signed_of s a) b p)
    (signed_mul s (a / gcd a b) b a (b / gcd a b) (crossed a (a / gcd a b) (gcd a b) b (b / gcd a b) (div-mul_cancel (gcd a b) d.0) (div-mul_cancel (gcd a b) d.1))) in
    subst (λ g. over (signed_of s (a / g)) (b / g) ≡ over (signed_of s a) b) (sym e) at

pub cond_true : (b : Bool) (x y : Option Fraction) → T b → cond b x y ≡ x
cond_true true x y h = refl
cond_true false x y h = absurd h

pub cond_false : (b : Bool) (x y : Option Fraction) → (T b → ⊥) → cond b x y ≡ y
cond_false true x y h = absurd (h tt)
cond_false false x y h = refl

pub both : (b c : Bool) → T b → T c → T (cond b c false)
both true c h k = k
both false c h k = absurd h

of_both : (b c : Bool) → T (cond b c false) → T b × T c
of_both true c h = (tt, h)
of_both false c h = absurd h

pub fits_over : (r : ℤ) (d : ℕ) → T (is_lowest r d) → (T (fits (over r d)) → (nat_abs r < 2 ^ 127) × (d < 2 ^ 127)) × (nat_abs r < 2 ^ 127 → d < 2 ^ 127 → T (fits (over r d)))
fits_over r d h =
    let e = over_num r d h in let f = over_den r d h in (
      λ t. let b = of_both (small (nat_abs (over r d).num)) (small (over r d).den) t in
          (subst (λ k. nat_abs k < 2 ^ 127) e (ltb→lt _ _ b.0), subst (λ k. k < 2 ^ 127) f (ltb→lt _ _ b.1)),
      λ x y. both (small (nat_abs (over r d).num)) (small (over r d).den) (lt→ltb _ _ (subst (λ k. nat_abs k < 2 ^ 127) (sym e) x)) (lt→ltb _ _ (subst (λ k. k < 2 ^ 127) (sym f) y)),
    )

pub make_some : (s : Bool) (a b g : ℕ) → 0 < b → g ≡ gcd a b → a / g < 2 ^ 127 → b / g < 2 ^ 127 → Some (over (signed_of s (a / g)) (b / g)) ≡ kept (over (signed_of s a) b)
make_some s a b g p e x y =
    let low = lowest_of s a b g p e in
    sym (cond_true (fits (over (signed_of s (a / g)) (b / g))) (Some (over (signed_of s (a / g)) (b / g))) None ((fits_over _ _ low).1 (subst (λ k. k < 2 ^ 127) (sym (signed_abs s (a / g))) x) y))
    ∙ ap kept (over_reduced s a b g p e)

pub too_big : (s : Bool) (n d : ℕ) → (2 ^ 127 ≤ n) ⊎ (2 ^ 127 ≤ d) → (nat_abs (signed_of s n) < 2 ^ 127) × (d < 2 ^ 127) → ⊥
too_big s n d w k = let l : n < 2 ^ 127 = subst (λ k. k < 2 ^ 127) (signed_abs s n) k.0 in let m : d < 2 ^ 127 = k.1 in omega arith

pub make_none : (s : Bool) (a b g : ℕ) → 0 < b → g ≡ gcd a b → (2 ^ 127 ≤ a / g) ⊎ (2 ^ 127 ≤ b / g) → None ≡ kept (over (signed_of s a) b)
make_none s a b g p e w =
    let low = lowest_of s a b g p e in
    sym (cond_false (fits (over (signed_of s (a / g)) (b / g))) (Some (over (signed_of s (a / g)) (b / g))) None
    (λ t. too_big s (a / g) (b / g) w ((fits_over (signed_of s (a / g)) (b / g) low).0 t)))
    ∙ ap kept (over_reduced s a b g p e)

pub kept_of : (s : Bool) (a b g : ℕ) → 0 < b → g ≡ gcd a b → a / g < 2 ^ 127 → b / g < 2 ^ 127 → IsStored (signed_of s (a / g)) (b / g)
kept_of s a b g p e x y = record { lowest = lowest_of s a b g p e; num_small = subst (λ k. k < 2 ^ 127) (sym (signed_abs s (a / g))) x; den_small = y }
