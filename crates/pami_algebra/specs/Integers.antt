-- Whole numbers are a commutative ring, and the ring solver for them.
use Rattle.std.proofs.Common.{◌≡◌, List, sym, ap, ◌∙◌, arith}
use lib.IntN.{ℤ, pos, ◌+ℤ◌, ◌-ℤ◌, ◌*ℤ◌, neg_ℤ, ℤ_ind, +ℤ_assoc, +ℤ_comm, +ℤ_idr, +ℤ_invr, *ℤ_comm, suc_ℤ-*ℤ, pred_ℤ-*ℤ, zero-*ℤ, +ℤ_one, -ℤ_one}
use Rattle.std.proofs.lemmas.Int.{ints}
use Rattle.pami_algebra.specs.Ring.{IsRing, Term, normal, value, by_ring}

-- ---- one more or one less in the first factor, the steps of the inductions below
one_more : (m k : ℤ) → (m +ℤ pos 1) *ℤ k ≡ (m *ℤ k) +ℤ k
one_more m k = ap (λ z. z *ℤ k) (+ℤ_one m) ∙ suc_ℤ-*ℤ m k

one_less : (m k : ℤ) → (m -ℤ pos 1) *ℤ k ≡ (m *ℤ k) -ℤ k
one_less m k = ap (λ z. z *ℤ k) (-ℤ_one m) ∙ pred_ℤ-*ℤ m k

-- ---- products distribute over sums
mul_add_more : (a b c : ℤ) → a *ℤ (b +ℤ c) ≡ (a *ℤ b) +ℤ (a *ℤ c) → (a +ℤ pos 1) *ℤ (b +ℤ c) ≡ ((a +ℤ pos 1) *ℤ b) +ℤ ((a +ℤ pos 1) *ℤ c)
mul_add_more a b c h = let e = one_more a (b +ℤ c) in let f = one_more a b in let g = one_more a c in rw (e, f, g, h) (omega (arith, ints))

mul_add_less : (a b c : ℤ) → a *ℤ (b +ℤ c) ≡ (a *ℤ b) +ℤ (a *ℤ c) → (a -ℤ pos 1) *ℤ (b +ℤ c) ≡ ((a -ℤ pos 1) *ℤ b) +ℤ ((a -ℤ pos 1) *ℤ c)
mul_add_less a b c h = let e = one_less a (b +ℤ c) in let f = one_less a b in let g = one_less a c in rw (e, f, g, h) (omega (arith, ints))

pub mul_add_ℤ : (a b c : ℤ) → a *ℤ (b +ℤ c) ≡ (a *ℤ b) +ℤ (a *ℤ c)
mul_add_ℤ a b c =
    ℤ_ind (λ z. z *ℤ (b +ℤ c) ≡ (z *ℤ b) +ℤ (z *ℤ c))
    (zero-*ℤ (b +ℤ c) ∙ sym (ap (λ z. z +ℤ (pos 0 *ℤ c)) (zero-*ℤ b) ∙ ap (λ z. pos 0 +ℤ z) (zero-*ℤ c)))
    (λ n h. mul_add_more (pos n) b c h)
    (λ n h. mul_add_less (neg_ℤ (pos n)) b c h)
    a

pub add_mul_ℤ : (a b c : ℤ) → (a +ℤ b) *ℤ c ≡ (a *ℤ c) +ℤ (b *ℤ c)
add_mul_ℤ a b c = *ℤ_comm (a +ℤ b) c ∙ mul_add_ℤ c a b ∙ ap (λ z. z +ℤ (c *ℤ b)) (*ℤ_comm c a) ∙ ap (λ z. (a *ℤ c) +ℤ z) (*ℤ_comm c b)

-- ---- products are associative
mul_assoc_more : (a b c : ℤ) → (a *ℤ b) *ℤ c ≡ a *ℤ (b *ℤ c) → ((a +ℤ pos 1) *ℤ b) *ℤ c ≡ (a +ℤ pos 1) *ℤ (b *ℤ c)
mul_assoc_more a b c h = ap (λ z. z *ℤ c) (one_more a b) ∙ add_mul_ℤ (a *ℤ b) b c ∙ ap (λ z. z +ℤ (b *ℤ c)) h ∙ sym (one_more a (b *ℤ c))

-- a sign in front of a factor is one in front of the product
pub neg_mul_ℤ : (a b : ℤ) → neg_ℤ a *ℤ b ≡ neg_ℤ (a *ℤ b)
neg_mul_ℤ a b = let e : (a *ℤ b) +ℤ (neg_ℤ a *ℤ b) ≡ pos 0 = sym (add_mul_ℤ a (neg_ℤ a) b) ∙ ap (λ z. z *ℤ b) (+ℤ_invr a) ∙ zero-*ℤ b in omega (arith, ints)

mul_assoc_less : (a b c : ℤ) → (a *ℤ b) *ℤ c ≡ a *ℤ (b *ℤ c) → ((a -ℤ pos 1) *ℤ b) *ℤ c ≡ (a -ℤ pos 1) *ℤ (b *ℤ c)
mul_assoc_less a b c h = ap (λ z. z *ℤ c) (one_less a b) ∙ add_mul_ℤ (a *ℤ b) (neg_ℤ b) c ∙ ap (λ z. ((a *ℤ b) *ℤ c) +ℤ z) (neg_mul_ℤ b c) ∙ ap (λ z. z +ℤ neg_ℤ (b *ℤ c)) h ∙ sym (one_less a (b *ℤ c))

pub mul_assoc_ℤ : (a b c : ℤ) → (a *ℤ b) *ℤ c ≡ a *ℤ (b *ℤ c)
mul_assoc_ℤ a b c =
    ℤ_ind (λ z. (z *ℤ b) *ℤ c ≡ z *ℤ (b *ℤ c))
    (ap (λ z. z *ℤ c) (zero-*ℤ b) ∙ zero-*ℤ c ∙ sym (zero-*ℤ (b *ℤ c)))
    (λ n h. mul_assoc_more (pos n) b c h)
    (λ n h. mul_assoc_less (neg_ℤ (pos n)) b c h)
    a

-- ---- the ring and its solver
pub ring_ℤ : IsRing (pos 0) (pos 1) ◌+ℤ◌ ◌*ℤ◌ neg_ℤ
ring_ℤ = record {
  add_assoc = +ℤ_assoc;
  add_comm = +ℤ_comm;
  add_nil = +ℤ_idr;
  add_neg = +ℤ_invr;
  mul_assoc = mul_assoc_ℤ;
  mul_comm = *ℤ_comm;
  mul_one = λ m. omega (arith, ints);
  mul_add = mul_add_ℤ;
}

-- what a term is at the numbers of a list, by their place
abbrev pub value_ℤ : List ℤ → Term → ℤ
value_ℤ = value (pos 0) (pos 1) ◌+ℤ◌ ◌*ℤ◌ neg_ℤ

-- terms with one normal form have one value: `refl` is the proof of the premise
pub by_ring_ℤ : (xs : List ℤ) (a b : Term) → normal a ≡ normal b → value_ℤ xs a ≡ value_ℤ xs b
by_ring_ℤ = by_ring (pos 0) (pos 1) ◌+ℤ◌ ◌*ℤ◌ neg_ℤ ring_ℤ
