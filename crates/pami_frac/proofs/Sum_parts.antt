-- The pair that a sum goes through is the sum of the fractions, and fits once reduced.
use Rattle.std.proofs.Common.{◌≡◌, ℕ, ◌*◌, ◌/◌, ◌<◌, ◌≤◌, ◌^◌, refl, sym, ap, ◌∙◌, subst, arith, Bool, true, false, cond, Option, Some, None, [], ◌∷◌}
use native.Mathlib.Nat.{div-mul_cancel}
use lib.IntN.{ℤ, pos, ◌+ℤ◌, ◌*ℤ◌, nat_abs}
use lib.Dec.{T, ltb→lt}
use Rattle.pami_algebra.specs.Fraction.{Fraction, gcd}
use Rattle.pami_algebra.specs.Ring.{var, ◌⊕◌, ◌⊗◌}
use Rattle.pami_algebra.specs.Integers.{by_ring_ℤ}
use Rattle.pami_algebra.specs.Gcd.{gcd_is}
use Rattle.pami_algebra.specs.Lowest.{itself, same_ratio, den_pos, mul_pos}
use Rattle.pami_algebra.specs.Reduced.{over, over_ratio, reduced_pos}
use Rattle.pami_algebra.specs.Operations.{◌+ᶠ◌}
use Rattle.pami_algebra.proofs.Laws.{add_ratio}
use Rattle.pami_frac.specs.Range.{small}
use Rattle.pami_frac.specs.Arithmetic.{all_small, add_fits}
use Rattle.pami_frac.specs.Checked.{small_int, small_nat, then_int, then_nat, sum_parts_by, sum_parts_of, sum_if}

some_int : (x : Option ℤ) (f : ℤ → Option (ℤ × ℕ)) (r : ℤ × ℕ) → then_int x f ≡ Some r → (v : ℤ) × ((x ≡ Some v) × (f v ≡ Some r))
some_int None f r e = absurd (cc)
some_int (Some v) f r e = (v, (refl, e))

some_nat : (x : Option ℕ) (f : ℕ → Option (ℤ × ℕ)) (r : ℤ × ℕ) → then_nat x f ≡ Some r → (v : ℕ) × ((x ≡ Some v) × (f v ≡ Some r))
some_nat None f r e = absurd (cc)
some_nat (Some v) f r e = (v, (refl, e))

pub int_is : (z v : ℤ) → small_int z ≡ Some v → (v ≡ z) × (nat_abs z < 2 ^ 127)
int_is z v e = go (small (nat_abs z)) (ltb→lt (nat_abs z) (2 ^ 127)) e
  where
    go : (b : Bool) → (T b → nat_abs z < 2 ^ 127) → cond b (Some z) None ≡ Some v → (v ≡ z) × (nat_abs z < 2 ^ 127)
    go true h e = (cc, h tt)
    go false h e = absurd (cc)

nat_is : (z v : ℕ) → small_nat z ≡ Some v → (v ≡ z) × (z < 2 ^ 127)
nat_is z v e = go (small z) (ltb→lt z (2 ^ 127)) e
  where
    go : (b : Bool) → (T b → z < 2 ^ 127) → cond b (Some z) None ≡ Some v → (v ≡ z) × (z < 2 ^ 127)
    go true h e = (cc, h tt)
    go false h e = absurd (cc)

pair_of : (a n : ℤ) (b m : ℕ) → ◌≡◌ {A = Option (ℤ × ℕ)} (Some (a, b)) (Some (n, m)) → (a ≡ n) × (b ≡ m)
pair_of a n b m e = let f : ◌≡◌ {A = ℤ × ℕ} (a, b) (n, m) = cc in (ap (λ (r : ℤ × ℕ). r.0) f, ap (λ (r : ℤ × ℕ). r.1) f)

le_lt : (a b : ℕ) → a ≤ b → b < 2 ^ 127 → a < 2 ^ 127
le_lt a b h k = omega arith

pub record Parts (a : ℤ) (b : ℕ) (c : ℤ) (d : ℕ) (n : ℤ) (m : ℕ) : Type 0 where
  pub above : n ≡ a *ℤ pos (d / gcd b d) +ℤ c *ℤ pos (b / gcd b d)
  pub below : m ≡ b * (d / gcd b d)
  pub above_small : nat_abs n < 2 ^ 127
  pub below_small : m < 2 ^ 127

pub parts_are : (a : ℤ) (b : ℕ) (c : ℤ) (d : ℕ) (n : ℤ) (m : ℕ) → sum_parts_of a b c d ≡ Some (n, m) → Parts a b c d n m
parts_are a b c d n m e =
    let s1 = some_int _ _ (n, m) e in
    let l = int_is _ _ s1.1.0 in
    let s2 = some_int _ _ (n, m) s1.1.1 in
    let r = int_is _ _ s2.1.0 in
    let s3 = some_int _ _ (n, m) s2.1.1 in
    let t = int_is _ _ s3.1.0 in
    let s4 = some_nat _ _ (n, m) s3.1.1 in
    let u = nat_is _ _ s4.1.0 in
    let last : (s3.0 ≡ n) × (s4.0 ≡ m) = pair_of s3.0 n s4.0 m s4.1.1 in
    let above : n ≡ s1.0 +ℤ s2.0 = sym last.0 ∙ t.0 in
    record {
      above = above ∙ ap (λ z. z +ℤ s2.0) l.0 ∙ ap (λ z. a *ℤ pos (d / gcd b d) +ℤ z) r.0;
      below = sym last.1 ∙ u.0;
      above_small = subst (λ z. nat_abs z < 2 ^ 127) (sym above) t.1;
      below_small = subst (λ k. k < 2 ^ 127) (sym (sym last.1 ∙ u.0)) u.1;
    }

pub parts_pos : (a c n : ℤ) (b d m : ℕ) → 0 < b → 0 < d → Parts a b c d n m → 0 < m
parts_pos a c n b d m p q h = subst (λ k. 0 < k) (sym h.below) (mul_pos b (d / gcd b d) p (reduced_pos b d q))

crossed_sum : (a c : ℤ) (b d g b' d' : ℕ) → b' * g ≡ b → d' * g ≡ d → (a *ℤ pos d' +ℤ c *ℤ pos b') *ℤ pos (b * d) ≡ (a *ℤ pos d +ℤ c *ℤ pos b) *ℤ pos (b * d')
crossed_sum a c b d g b' d' e f =
    let x0 = var 0 in let x1 = var 1 in let x2 = var 2 in let x3 = var 3 in let x4 = var 4 in
    subst (λ b. (a *ℤ pos d' +ℤ c *ℤ pos b') *ℤ pos (b * d) ≡ (a *ℤ pos d +ℤ c *ℤ pos b) *ℤ pos (b * d')) e
    (subst (λ d. (a *ℤ pos d' +ℤ c *ℤ pos b') *ℤ pos (b' * g * d) ≡ (a *ℤ pos d +ℤ c *ℤ pos (b' * g)) *ℤ pos (b' * g * d')) f
    (by_ring_ℤ (a ∷ c ∷ pos g ∷ pos b' ∷ pos d' ∷ []) ((x0 ⊗ x4 ⊕ x1 ⊗ x3) ⊗ (x3 ⊗ x2 ⊗ (x4 ⊗ x2))) ((x0 ⊗ (x4 ⊗ x2) ⊕ x1 ⊗ (x3 ⊗ x2)) ⊗ (x3 ⊗ x2 ⊗ x4)) refl))

pub parts_sum : (p q : Fraction) (n : ℤ) (m : ℕ) → Parts p.num p.den q.num q.den n m → over n m ≡ p +ᶠ q
parts_sum p q n m h =
    let g = gcd_is p.den q.den in
    let pm : 0 < m = parts_pos p.num q.num n p.den q.den m (den_pos p) (den_pos q) h in
    same_ratio _ _ _ _ _ _ (over_ratio n m pm) (add_ratio p q _ _ _ _ (itself p) (itself q))
    (ap (λ z. z *ℤ pos (p.den * q.den)) h.above
    ∙ crossed_sum p.num q.num p.den q.den (gcd p.den q.den) (p.den / gcd p.den q.den) (q.den / gcd p.den q.den) (div-mul_cancel (gcd p.den q.den) g.0) (div-mul_cancel (gcd p.den q.den) g.1)
    ∙ ap (λ k. (p.num *ℤ pos q.den +ℤ q.num *ℤ pos p.den) *ℤ pos k) (sym h.below))

-- ---- the test for a sum is that for the pair
abbrev pub is_some : Option (ℤ × ℕ) → Bool
is_some None = false
is_some (Some x) = true

step_int : (z : ℤ) (f : ℤ → Option (ℤ × ℕ)) → is_some (then_int (small_int z) f) ≡ cond (small (nat_abs z)) (is_some (f z)) false
step_int z f = go (small (nat_abs z))
  where
    go : (b : Bool) → is_some (then_int (cond b (Some z) None) f) ≡ cond b (is_some (f z)) false
    go true = refl
    go false = refl

step_nat : (n : ℕ) (f : ℕ → Option (ℤ × ℕ)) → is_some (then_nat (small_nat n) f) ≡ cond (small n) (is_some (f n)) false
step_nat n f = go (small n)
  where
    go : (b : Bool) → is_some (then_nat (cond b (Some n) None) f) ≡ cond b (is_some (f n)) false
    go true = refl
    go false = refl

if_small : (b : Bool) → cond b true false ≡ b
if_small true = refl
if_small false = refl

chain : (l r : ℤ) (m : ℕ) → is_some (then_int (small_int l) (λ left. then_int (small_int r) (λ right. then_int (small_int (left +ℤ right)) (λ above. then_nat (small_nat m) (λ below. Some (above, below)))))) ≡ all_small l r m
chain l r m =
    step_int l (λ left. then_int (small_int r) (λ right. then_int (small_int (left +ℤ right)) (λ above. then_nat (small_nat m) (λ below. Some (above, below)))))
    ∙ ap (λ t. cond (small (nat_abs l)) t false) (step_int r (λ right. then_int (small_int (l +ℤ right)) (λ above. then_nat (small_nat m) (λ below. Some (above, below))))
    ∙ ap (λ t. cond (small (nat_abs r)) t false) (step_int (l +ℤ r) (λ above. then_nat (small_nat m) (λ below. Some (above, below)))
    ∙ ap (λ t. cond (small (nat_abs (l +ℤ r))) t false) (step_nat m (λ below. Some (l +ℤ r, below)) ∙ if_small (small m))))

fits_is : (p q : Fraction) → is_some (sum_parts_of p.num p.den q.num q.den) ≡ add_fits p q
unfolding add_fits
fits_is p q = chain (p.num *ℤ pos (q.den / gcd p.den q.den)) (q.num *ℤ pos (p.den / gcd p.den q.den)) (p.den * (q.den / gcd p.den q.den))

-- a pair over denominators and numerators as the code has them
pub moved : (p q : Fraction) (x y : ℤ) (b d g : ℕ) → x ≡ p.num → b ≡ p.den → y ≡ q.num → d ≡ q.den → g ≡ gcd b d → sum_parts_by x b y d g ≡ sum_parts_of p.num p.den q.num q.den
moved p q x y b d g e f h k i = ap (sum_parts_by x b y d) i ∙ ap (λ z. sum_parts_of z b y d) e ∙ ap (λ k. sum_parts_of p.num k y d) f ∙ ap (λ z. sum_parts_of p.num p.den z d) h ∙ ap (λ k. sum_parts_of p.num p.den q.num k) k

pub sum_none : (p q : Fraction) → sum_parts_of p.num p.den q.num q.den ≡ None → None ≡ sum_if p q
sum_none p q e = sym (ap (λ b. cond b (Some (p +ᶠ q)) None) (sym (fits_is p q) ∙ ap is_some e))

pub sum_some : (p q : Fraction) (n : ℤ) (m : ℕ) → sum_parts_of p.num p.den q.num q.den ≡ Some (n, m) → Some (over n m) ≡ sum_if p q
sum_some p q n m e =
    ap Some (parts_sum p q n m (parts_are p.num p.den q.num q.den n m e))
    ∙ sym (ap (λ b. cond b (Some (p +ᶠ q)) None) (sym (fits_is p q) ∙ ap is_some e))
