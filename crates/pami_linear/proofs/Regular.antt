-- What a regular matrix has: one solution of each system and one inverse, which is of both sides.
use Rattle.std.proofs.Common.{◌≡◌, ℕ, ◌<◌, refl, sym, ap, ◌∙◌}
use lib.IntN.{pos}
use Rattle.pami_algebra.specs.Fraction.{Fraction}
use Rattle.pami_algebra.specs.Operations.{◌+ᶠ◌, ◌*ᶠ◌, ◌/ᶠ◌, neg_f, of_int}
use Rattle.pami_algebra.proofs.Laws.{mul_comm_f}
use Rattle.pami_algebra.proofs.Field.{one_not_zero, neg_neg_f, mul_neg_f, neg_mul_f, mul_nil_f, div_mul_f}
use Rattle.pami_linear.specs.Sums.{sum_to, unit}
use Rattle.pami_linear.specs.Systems.{Solves, Combines, IsRow, IsInverse, IsLeftInverse, IsRegular, replaced, stepped}
use Rattle.pami_linear.specs.Elimination.{backward}
use Rattle.pami_linear.specs.Chains.{Eliminates}
use Rattle.pami_linear.proofs.Sums.{sum_same, sum_unit, unit_same, unit_other}
use Rattle.pami_linear.proofs.Units.{unit_swap, dot_neg_unit}
use Rattle.pami_linear.proofs.Systems.{solves_same, combines_same, solves_zero, solves_unit, solves_by, combined_is}
use Rattle.pami_linear.proofs.Parts.{set_same}
use Rattle.pami_linear.proofs.Pivoted.{solves_after_pivot, inverse_after_pivot}
use Rattle.pami_linear.proofs.Solutions.{chain_of, forward_one, backward_is, completes_if}

-- ---- B x = r
pub solution : (m : ℕ) (b : ℕ → ℕ → Fraction) (r : ℕ → Fraction) → IsRegular m b → (x : ℕ → Fraction) × Solves m b x r
solution m b r g = (λ k. sum_to m (λ j. g.0 j k *ᶠ r j), solves_by m b g.0 r g.1)

pub one_solution : (m : ℕ) (b : ℕ → ℕ → Fraction) (x z r : ℕ → Fraction) → IsRegular m b → Solves m b x r → Solves m b z r → (k : ℕ) → k < m → x k ≡ z k
one_solution m b x z r g e f k l =
    let c = completes_if m b g in
    let q : Eliminates m b c.0 = chain_of m b c.0 c.1 in
    sym (forward_one m b c.0 x r q e k l) ∙ forward_one m b c.0 z r q f k l

-- ---- y B = d
pub one_combination : (m : ℕ) (b : ℕ → ℕ → Fraction) (y z d : ℕ → Fraction) → IsRegular m b → Combines m b y d → Combines m b z d → (i : ℕ) → i < m → y i ≡ z i
one_combination m b y z d g e f i l = combined_is m i b g.0 y d l e g.1 ∙ sym (combined_is m i b g.0 z d l f g.1)

pub combines_by : (m : ℕ) (b v : ℕ → ℕ → Fraction) (d : ℕ → Fraction) → IsInverse m b v → Combines m b (λ i. sum_to m (λ k. v i k *ᶠ d k)) d
combines_by m b v d inv =
    let c = completes_if m b (v, inv) in
    let e : Combines m b (backward m c.0 d) d = backward_is m b c.0 d (chain_of m b c.0 c.1) in
    combines_same m b b (backward m c.0 d) (λ i. sum_to m (λ k. v i k *ᶠ d k)) d d (λ k i h l. refl) (λ i l. combined_is m i b v (backward m c.0 d) d l e inv) (λ k l. refl) e

pub combination : (m : ℕ) (b : ℕ → ℕ → Fraction) (d : ℕ → Fraction) → IsRegular m b → (y : ℕ → Fraction) × Combines m b y d
combination m b d g = (λ i. sum_to m (λ k. g.0 i k *ᶠ d k), combines_by m b g.0 d g.1)

-- ---- inverses
pub inverse_row : (m p : ℕ) (b v : ℕ → ℕ → Fraction) → p < m → IsInverse m b v → IsRow m b p (λ j. v j p)
inverse_row m p b v l inv =
    combines_same m b b (λ i. sum_to m (λ k. v i k *ᶠ unit p k)) (λ j. v j p) (unit p) (unit p) (λ k i h j. refl)
    (λ i j. sum_same m (λ k. v i k *ᶠ unit p k) (λ k. unit p k *ᶠ v i k) (λ k h. mul_comm_f (v i k) (unit p k)) ∙ sum_unit m p (v i) l)
    (λ k h. refl) (combines_by m b v (unit p) inv)

pub left_inverse : (m : ℕ) (b v : ℕ → ℕ → Fraction) → IsInverse m b v → IsLeftInverse m b v
left_inverse m b v inv = record { at = λ p k lp lk. (inverse_row m p b v lp inv).at k lk }

pub right_inverse_from_left : (m : ℕ) (b v : ℕ → ℕ → Fraction) → IsLeftInverse m b v → IsInverse m b v
right_inverse_from_left m b v e =
    let f : IsLeftInverse m v b = left_inverse m v b (record {
      at = λ k lk. record { at = λ p lp. e.at p k lp lk ∙ unit_swap p k };
    }) in
    record { at = λ j lj. record { at = λ i li. f.at i j li lj ∙ unit_swap i j } }

pub one_inverse : (m : ℕ) (b v w : ℕ → ℕ → Fraction) → IsInverse m b v → IsInverse m b w → (j k : ℕ) → j < m → k < m → v j k ≡ w j k
one_inverse m b v w e f j k lj lk = one_solution m b (v j) (w j) (unit j) (v, e) (e.at j lj) (f.at j lj) k lk

-- ---- unit columns
pub units_inverse : (m : ℕ) → IsInverse m unit unit
units_inverse m = record { at = λ j l. solves_unit m j unit l }

pub units_regular : (m : ℕ) → IsRegular m unit
units_regular m = (unit, units_inverse m)

pub solves_units : (m : ℕ) (r : ℕ → Fraction) → Solves m unit r r
solves_units m r = record { at = λ i l. sum_same m (λ k. unit k i *ᶠ r k) (λ k. unit i k *ᶠ r k) (λ k h. ap (λ z. z *ᶠ r k) (unit_swap k i)) ∙ sum_unit m i r l }

neg_neg_product : (x y : Fraction) → neg_f x *ᶠ neg_f y ≡ x *ᶠ y
neg_neg_product x y = neg_mul_f x (neg_f y) ∙ ap neg_f (mul_neg_f x y) ∙ neg_neg_f (x *ᶠ y)

pub solves_negated_units : (m : ℕ) (r : ℕ → Fraction) → Solves m (λ k i. neg_f (unit k i)) (λ k. neg_f (r k)) r
solves_negated_units m r = record { at = λ i l. sum_same m (λ k. neg_f (unit k i) *ᶠ neg_f (r k)) (λ k. unit k i *ᶠ r k) (λ k h. neg_neg_product (unit k i) (r k)) ∙ (solves_units m r).at i l }

pub negated_units_inverse : (m : ℕ) → IsInverse m (λ k i. neg_f (unit k i)) (λ j k. neg_f (unit j k))
negated_units_inverse m = record { at = λ j l. solves_negated_units m (unit j) }

pub negated_units_regular : (m : ℕ) → IsRegular m (λ k i. neg_f (unit k i))
negated_units_regular m = (λ j k. neg_f (unit j k), negated_units_inverse m)

pub combines_units : (m : ℕ) (d : ℕ → Fraction) → Combines m unit d d
combines_units m d = record { at = λ k l. sum_same m (λ i. d i *ᶠ unit k i) (λ i. unit k i *ᶠ d i) (λ i h. mul_comm_f (d i) (unit k i)) ∙ sum_unit m k d l }

pub combines_negated_units : (m : ℕ) (d : ℕ → Fraction) → Combines m (λ k i. neg_f (unit k i)) (λ i. neg_f (d i)) d
combines_negated_units m d = record { at = λ k l. dot_neg_unit m k (λ i. neg_f (d i)) l ∙ neg_neg_f (d k) }

-- ---- what leaves no inverse
pub not_regular_by_column : (m k : ℕ) (b : ℕ → ℕ → Fraction) (x : ℕ → Fraction) → k < m → Solves m b x (λ i. of_int (pos 0)) → ¬ (x k ≡ of_int (pos 0)) → ¬ (IsRegular m b)
not_regular_by_column m k b x l e n g = n (one_solution m b x (λ j. of_int (pos 0)) (λ i. of_int (pos 0)) g e (solves_zero m b) k l)

pub not_regular_by_equal : (m p q : ℕ) (b : ℕ → ℕ → Fraction) → p < m → q < m → ¬ (p ≡ q) → ((i : ℕ) → i < m → b p i ≡ b q i) → ¬ (IsRegular m b)
not_regular_by_equal m p q b lp lq n e g = one_not_zero
    (sym (unit_other q p (λ d. n (sym d)))
    ∙ one_solution m b (unit q) (unit p) (b p) g
    (solves_same m b b (unit q) (unit q) (b q) (b p) (λ k i h l. refl) (λ k h. refl) (λ i l. sym (e i l)) (solves_unit m q b lq)) (solves_unit m p b lp) p lp
    ∙ unit_same p)

-- ---- a pivot
pub regular_after_pivot : (m p : ℕ) (b : ℕ → ℕ → Fraction) (c alpha : ℕ → Fraction) → p < m → Solves m b alpha c → ¬ (alpha p ≡ of_int (pos 0)) → IsRegular m b → IsRegular m (replaced b p c)
regular_after_pivot m p b c alpha l e n g = (λ j. stepped p alpha (g.0 j p /ᶠ alpha p) (g.0 j), inverse_after_pivot m p b g.0 c alpha l e n g.1)

pub solves_to_quotient : (m p : ℕ) (b : ℕ → ℕ → Fraction) (c alpha x r : ℕ → Fraction) → p < m → Solves m b alpha c → Solves m b x r → ¬ (alpha p ≡ of_int (pos 0)) →
    Solves m (replaced b p c) (stepped p alpha (x p /ᶠ alpha p) x) r
solves_to_quotient m p b c alpha x r l e f n = solves_after_pivot m p b c alpha x r (x p /ᶠ alpha p) l e f (div_mul_f (x p) (alpha p) n)

-- at a pivot that is 0 any step would do
pub pivot_not_zero : (m p : ℕ) (b : ℕ → ℕ → Fraction) (c alpha : ℕ → Fraction) → p < m → Solves m b alpha c → IsRegular m (replaced b p c) → ¬ (alpha p ≡ of_int (pos 0))
pivot_not_zero m p b c alpha l e g z =
    let any : (t : Fraction) → Solves m (replaced b p c) (stepped p alpha t alpha) c = λ t. solves_after_pivot m p b c alpha alpha c t l e e (ap (λ s. t *ᶠ s) z ∙ mul_nil_f t ∙ sym z) in
    one_not_zero
    (sym (set_same p (of_int (pos 0)) (λ k. alpha k +ᶠ neg_f (of_int (pos 0) *ᶠ alpha k)))
    ∙ one_solution m (replaced b p c) (stepped p alpha (of_int (pos 0)) alpha) (stepped p alpha (of_int (pos 1)) alpha) c g (any (of_int (pos 0))) (any (of_int (pos 1))) p l
    ∙ set_same p (of_int (pos 1)) (λ k. alpha k +ᶠ neg_f (of_int (pos 1) *ᶠ alpha k)))
