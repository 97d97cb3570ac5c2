-- What follows from the laws of a field: signs, differences, inverses, quotients, factors that are not 0.
use Rattle.std.proofs.Common.{◌≡◌, zero, suc, [], ◌∷◌, refl, sym, ap, ◌∙◌, arith, ◌⊎◌, inl, inr, ⊎_elim}
use lib.IntN.{ℤ, pos, negsuc}
use Rattle.std.proofs.lemmas.Int.{ints}
use Rattle.pami_algebra.specs.Fraction.{Fraction}
use Rattle.pami_algebra.specs.Ring.{var, t0, t1, ◌⊕◌, ◌⊗◌, ⊖}
use Rattle.pami_algebra.specs.Ring as ring
use Rattle.pami_algebra.specs.Reduced.{over}
use Rattle.pami_algebra.specs.Operations.{◌+ᶠ◌, ◌*ᶠ◌, ◌-ᶠ◌, ◌/ᶠ◌, neg_f, of_int, inv_f, over_int}
use Rattle.pami_algebra.proofs.Laws.{ring_f, by_ring_f, add_assoc_f, add_comm_f, add_nil_f, add_neg_f, mul_assoc_f, mul_comm_f, mul_one_f, mul_add_f, mul_inv_f, zero_num}
use Rattle.pami_algebra.proofs.Parts.{num_of_int}

-- ---- 0, 1 and signs
pub nil_add_f : (p : Fraction) → of_int (pos 0) +ᶠ p ≡ p
nil_add_f = ring.nil_add (of_int (pos 0)) (of_int (pos 1)) ◌+ᶠ◌ ◌*ᶠ◌ neg_f ring_f

pub mul_nil_f : (p : Fraction) → p *ᶠ of_int (pos 0) ≡ of_int (pos 0)
mul_nil_f = ring.mul_nil (of_int (pos 0)) (of_int (pos 1)) ◌+ᶠ◌ ◌*ᶠ◌ neg_f ring_f

pub nil_mul_f : (p : Fraction) → of_int (pos 0) *ᶠ p ≡ of_int (pos 0)
nil_mul_f = ring.nil_mul (of_int (pos 0)) (of_int (pos 1)) ◌+ᶠ◌ ◌*ᶠ◌ neg_f ring_f

pub one_mul_f : (p : Fraction) → of_int (pos 1) *ᶠ p ≡ p
one_mul_f = ring.one_mul (of_int (pos 0)) (of_int (pos 1)) ◌+ᶠ◌ ◌*ᶠ◌ neg_f ring_f

pub neg_neg_f : (p : Fraction) → neg_f (neg_f p) ≡ p
neg_neg_f = ring.neg_neg (of_int (pos 0)) (of_int (pos 1)) ◌+ᶠ◌ ◌*ᶠ◌ neg_f ring_f

pub neg_nil_f : neg_f (of_int (pos 0)) ≡ of_int (pos 0)
neg_nil_f = ring.neg_nil (of_int (pos 0)) (of_int (pos 1)) ◌+ᶠ◌ ◌*ᶠ◌ neg_f ring_f

pub neg_add_f : (p q : Fraction) → neg_f (p +ᶠ q) ≡ neg_f p +ᶠ neg_f q
neg_add_f = ring.neg_of_add (of_int (pos 0)) (of_int (pos 1)) ◌+ᶠ◌ ◌*ᶠ◌ neg_f ring_f

pub neg_mul_f : (p q : Fraction) → neg_f p *ᶠ q ≡ neg_f (p *ᶠ q)
neg_mul_f = ring.neg_mul (of_int (pos 0)) (of_int (pos 1)) ◌+ᶠ◌ ◌*ᶠ◌ neg_f ring_f

pub mul_neg_f : (p q : Fraction) → p *ᶠ neg_f q ≡ neg_f (p *ᶠ q)
mul_neg_f = ring.mul_neg (of_int (pos 0)) (of_int (pos 1)) ◌+ᶠ◌ ◌*ᶠ◌ neg_f ring_f

pub add_mul_f : (p q r : Fraction) → (p +ᶠ q) *ᶠ r ≡ p *ᶠ r +ᶠ q *ᶠ r
add_mul_f = ring.add_mul (of_int (pos 0)) (of_int (pos 1)) ◌+ᶠ◌ ◌*ᶠ◌ neg_f ring_f

pub add_left_comm_f : (p q r : Fraction) → p +ᶠ (q +ᶠ r) ≡ q +ᶠ (p +ᶠ r)
add_left_comm_f = ring.add_left_comm (of_int (pos 0)) (of_int (pos 1)) ◌+ᶠ◌ ◌*ᶠ◌ neg_f ring_f

pub mul_left_comm_f : (p q r : Fraction) → p *ᶠ (q *ᶠ r) ≡ q *ᶠ (p *ᶠ r)
mul_left_comm_f = ring.mul_left_comm (of_int (pos 0)) (of_int (pos 1)) ◌+ᶠ◌ ◌*ᶠ◌ neg_f ring_f

pub add_neg_add_f : (p q : Fraction) → p +ᶠ (neg_f p +ᶠ q) ≡ q
add_neg_add_f = ring.cancel_left (of_int (pos 0)) (of_int (pos 1)) ◌+ᶠ◌ ◌*ᶠ◌ neg_f ring_f

pub neg_add_add_f : (p q : Fraction) → neg_f p +ᶠ (p +ᶠ q) ≡ q
neg_add_add_f = ring.cancel_left_neg (of_int (pos 0)) (of_int (pos 1)) ◌+ᶠ◌ ◌*ᶠ◌ neg_f ring_f

-- these laws for `simp`, which sorts sums and products by them; where it leaves a sum open, `by_ring_f` closes it
pub ruleset ring_laws = (add_neg_add_f, neg_add_add_f, add_neg_f, nil_add_f, add_nil_f, neg_neg_f, neg_add_f, neg_mul_f, mul_neg_f, mul_add_f, add_mul_f, mul_one_f, add_assoc_f, add_comm_f, add_left_comm_f, mul_assoc_f, mul_comm_f, mul_left_comm_f)

-- ---- differences
pub sub_self_f : (p : Fraction) → p -ᶠ p ≡ of_int (pos 0)
sub_self_f = add_neg_f

pub sub_add_f : (p q : Fraction) → (p -ᶠ q) +ᶠ q ≡ p
sub_add_f p q = by_ring_f (p ∷ q ∷ []) (var 0 ⊕ ⊖ (var 1) ⊕ var 1) (var 0) refl

pub add_sub_f : (p q : Fraction) → (p +ᶠ q) -ᶠ q ≡ p
add_sub_f p q = by_ring_f (p ∷ q ∷ []) (var 0 ⊕ var 1 ⊕ ⊖ (var 1)) (var 0) refl

-- a difference is 0 where its two sides are equal
pub sub_zero_f : (p q : Fraction) → p -ᶠ q ≡ of_int (pos 0) → p ≡ q
sub_zero_f p q e = sym (sub_add_f p q) ∙ ap (λ z. z +ᶠ q) e ∙ nil_add_f q

-- what gives 0 with p is its negation
pub neg_unique_f : (p q : Fraction) → p +ᶠ q ≡ of_int (pos 0) → q ≡ neg_f p
neg_unique_f = ring.neg_unique (of_int (pos 0)) (of_int (pos 1)) ◌+ᶠ◌ ◌*ᶠ◌ neg_f ring_f

-- ---- zero or not
pub one_not_zero : ¬ (of_int (pos 0) ≡ of_int (pos 1))
one_not_zero e = let k : pos 0 ≡ pos 1 = sym (num_of_int (pos 0)) ∙ ap (λ (p : Fraction). p.num) e ∙ num_of_int (pos 1) in absurd (omega (arith, ints))

-- 0 has the numerator 0
pub num_zero : (p : Fraction) → p ≡ of_int (pos 0) → p.num ≡ pos 0
num_zero p e = ap (λ (q : Fraction). q.num) e ∙ num_of_int (pos 0)

-- each fraction is 0 or isn't
pub zero_or_not : (p : Fraction) → (p ≡ of_int (pos 0)) ⊎ (¬ (p ≡ of_int (pos 0)))
zero_or_not p = go p.num refl
  where
    go : (n : ℤ) → p.num ≡ n → (p ≡ of_int (pos 0)) ⊎ (¬ (p ≡ of_int (pos 0)))
    go (pos zero) e = inl (zero_num p e)
    go (pos (suc n)) e = inr (λ h. let k : pos (suc n) ≡ pos 0 = sym e ∙ num_zero p h in absurd (omega (arith, ints)))
    go (negsuc n) e = inr (λ h. let k : negsuc n ≡ pos 0 = sym e ∙ num_zero p h in absurd (omega (arith, ints)))

-- ---- quotients, by what isn't 0
pub inv_mul_f : (p : Fraction) → ¬ (p ≡ of_int (pos 0)) → inv_f p *ᶠ p ≡ of_int (pos 1)
inv_mul_f p h = mul_comm_f (inv_f p) p ∙ mul_inv_f p h

-- what isn't 0 can be multiplied and divided away
pub mul_div_f : (p r : Fraction) → ¬ (r ≡ of_int (pos 0)) → (p *ᶠ r) /ᶠ r ≡ p
mul_div_f p r h = mul_assoc_f p r (inv_f r) ∙ ap (λ z. p *ᶠ z) (mul_inv_f r h) ∙ mul_one_f p

pub div_mul_f : (p r : Fraction) → ¬ (r ≡ of_int (pos 0)) → (p /ᶠ r) *ᶠ r ≡ p
div_mul_f p r h = mul_assoc_f p (inv_f r) r ∙ ap (λ z. p *ᶠ z) (inv_mul_f r h) ∙ mul_one_f p

-- equal products with one factor equal and not 0
pub cancel_mul_f : (p q r : Fraction) → ¬ (r ≡ of_int (pos 0)) → p *ᶠ r ≡ q *ᶠ r → p ≡ q
cancel_mul_f p q r h e = sym (mul_div_f p r h) ∙ ap (λ z. z *ᶠ inv_f r) e ∙ mul_div_f q r h

-- a product is 0 only by one of its factors
pub zero_factor_f : (p q : Fraction) → p *ᶠ q ≡ of_int (pos 0) → (p ≡ of_int (pos 0)) ⊎ (q ≡ of_int (pos 0))
zero_factor_f p q e = ⊎_elim (λ (h : q ≡ of_int (pos 0)). inr h) (λ (h : ¬ (q ≡ of_int (pos 0))). inl (cancel_mul_f p (of_int (pos 0)) q h (e ∙ sym (nil_mul_f q)))) (zero_or_not q)

pub mul_not_zero_f : (p q : Fraction) → ¬ (p ≡ of_int (pos 0)) → ¬ (q ≡ of_int (pos 0)) → ¬ (p *ᶠ q ≡ of_int (pos 0))
mul_not_zero_f p q h k e = ⊎_elim (λ (l : p ≡ of_int (pos 0)). h l) (λ (l : q ≡ of_int (pos 0)). k l) (zero_factor_f p q e)

pub neg_not_zero_f : (p : Fraction) → ¬ (p ≡ of_int (pos 0)) → ¬ (neg_f p ≡ of_int (pos 0))
neg_not_zero_f p h e = h (sym (neg_neg_f p) ∙ ap neg_f e ∙ neg_nil_f)

-- ---- inverses
pub inv_nil_f : inv_f (of_int (pos 0)) ≡ of_int (pos 0)
unfolding inv_f
inv_nil_f = ap (over_int (of_int (pos 0)).den) (num_of_int (pos 0)) ∙ zero_num (over (pos (of_int (pos 0)).den) 0) refl

-- the two factors of 1 aren't 0
pub left_of_one_f : (p q : Fraction) → p *ᶠ q ≡ of_int (pos 1) → ¬ (p ≡ of_int (pos 0))
left_of_one_f p q e h = one_not_zero (sym (ap (λ z. z *ᶠ q) h ∙ nil_mul_f q) ∙ e)

-- what gives 1 with p is its inverse
pub inv_unique_f : (p q : Fraction) → p *ᶠ q ≡ of_int (pos 1) → q ≡ inv_f p
inv_unique_f p q e =
    let h : ¬ (p ≡ of_int (pos 0)) = left_of_one_f p q e in
    cancel_mul_f q (inv_f p) p h (mul_comm_f q p ∙ e ∙ sym (inv_mul_f p h))

-- these three hold at 0 too, where the inverse is 0
pub inv_inv_f : (p : Fraction) → inv_f (inv_f p) ≡ p
inv_inv_f p = ⊎_elim
    (λ (h : p ≡ of_int (pos 0)). ap inv_f (ap inv_f h ∙ inv_nil_f) ∙ inv_nil_f ∙ sym h)
    (λ (h : ¬ (p ≡ of_int (pos 0))). sym (inv_unique_f (inv_f p) p (inv_mul_f p h)))
    (zero_or_not p)

pub inv_neg_f : (p : Fraction) → inv_f (neg_f p) ≡ neg_f (inv_f p)
inv_neg_f p = ⊎_elim
    (λ (h : p ≡ of_int (pos 0)). ap inv_f (ap neg_f h ∙ neg_nil_f) ∙ inv_nil_f ∙ sym (ap neg_f (ap inv_f h ∙ inv_nil_f) ∙ neg_nil_f))
    (λ (h : ¬ (p ≡ of_int (pos 0))). sym (inv_unique_f (neg_f p) (neg_f (inv_f p)) (by_ring_f (p ∷ inv_f p ∷ []) ((⊖ (var 0)) ⊗ (⊖ (var 1))) (var 0 ⊗ var 1) refl ∙ mul_inv_f p h)))
    (zero_or_not p)

inv_mul_both : (p q : Fraction) → ¬ (p ≡ of_int (pos 0)) → ¬ (q ≡ of_int (pos 0)) → inv_f (p *ᶠ q) ≡ inv_f p *ᶠ inv_f q
inv_mul_both p q h k = sym (inv_unique_f (p *ᶠ q) (inv_f p *ᶠ inv_f q)
    (by_ring_f (p ∷ q ∷ inv_f p ∷ inv_f q ∷ []) ((var 0 ⊗ var 1) ⊗ (var 2 ⊗ var 3)) ((var 0 ⊗ var 2) ⊗ (var 1 ⊗ var 3)) refl
    ∙ ap (λ z. z *ᶠ (q *ᶠ inv_f q)) (mul_inv_f p h) ∙ one_mul_f (q *ᶠ inv_f q) ∙ mul_inv_f q k))

pub inv_of_mul_f : (p q : Fraction) → inv_f (p *ᶠ q) ≡ inv_f p *ᶠ inv_f q
inv_of_mul_f p q = ⊎_elim
    (λ (h : p ≡ of_int (pos 0)). ap inv_f (ap (λ z. z *ᶠ q) h ∙ nil_mul_f q) ∙ inv_nil_f ∙ sym (ap (λ z. z *ᶠ inv_f q) (ap inv_f h ∙ inv_nil_f) ∙ nil_mul_f (inv_f q)))
    (λ (h : ¬ (p ≡ of_int (pos 0))). ⊎_elim
    (λ (k : q ≡ of_int (pos 0)). ap inv_f (ap (λ z. p *ᶠ z) k ∙ mul_nil_f p) ∙ inv_nil_f ∙ sym (ap (λ z. inv_f p *ᶠ z) (ap inv_f k ∙ inv_nil_f) ∙ mul_nil_f (inv_f p)))
    (λ (k : ¬ (q ≡ of_int (pos 0))). inv_mul_both p q h k)
    (zero_or_not q))
    (zero_or_not p)
