-- The laws of results that fit, from those of the exact values.
use Rattle.std.proofs.Common.{◌≡◌, refl, sym, ap, ◌∙◌, Bool, true, false, cond, Result, Ok, Err}
use lib.IntN.{pos}
use Rattle.pami_algebra.specs.Fraction.{Fraction}
use Rattle.pami_algebra.specs.Operations.{◌+ᶠ◌, ◌*ᶠ◌, neg_f, inv_f, of_int, ◌≤ᶠ◌, ◌<ᶠ◌}
use Rattle.pami_algebra.proofs.Laws.{add_assoc_f, mul_assoc_f, mul_add_f, mul_one_f, add_neg_f}
use Rattle.pami_algebra.proofs.Field.{add_sub_f, mul_div_f, div_mul_f}
use Rattle.pami_algebra.proofs.Bounds.{le_moved_f}
use Rattle.pami_algebra.proofs.Products.{lt_moved_f, add_lt_f, mul_le_f, mul_lt_f}
use Rattle.pami_algebra.proofs.Order.{add_le_f}
use Rattle.pami_frac.specs.Signs.{is_zero}
use Rattle.pami_frac.specs.Arithmetic.{add_fits, mul_fits, answer, add_outcome, mul_outcome, sub_outcome, div_outcome, refused_as}
use Rattle.pami_frac.specs.declared.arithmetic.Op.{Op}
use Rattle.pami_frac.specs.declared.arithmetic.Op.TheVariants.{Add, Sub, Mul, Div}
use Rattle.pami_frac.specs.declared.arithmetic.Refused.{Refused}
use Rattle.pami_frac.proofs.Outcomes.{add_value, mul_value, sub_value, div_value}

-- ---- sums
pub add_assoc_fit : (p q r s t u v : Fraction) → add_outcome p q ≡ Ok s → add_outcome s r ≡ Ok t → add_outcome q r ≡ Ok u → add_outcome p u ≡ Ok v → t ≡ v
add_assoc_fit p q r s t u v a b c d =
    add_value s r t b ∙ ap (λ z. z +ᶠ r) (add_value p q s a) ∙ add_assoc_f p q r ∙ sym (add_value p u v d ∙ ap (λ z. p +ᶠ z) (add_value q r u c))

pub add_neg_fit : (p s : Fraction) → add_outcome p (neg_f p) ≡ Ok s → s ≡ of_int (pos 0)
add_neg_fit p s e = add_value p (neg_f p) s e ∙ add_neg_f p

pub add_le_fit : (p q r s t : Fraction) → p ≤ᶠ q → add_outcome p r ≡ Ok s → add_outcome q r ≡ Ok t → s ≤ᶠ t
add_le_fit p q r s t h a b = le_moved_f (p +ᶠ r) (q +ᶠ r) s t (sym (add_value p r s a)) (sym (add_value q r t b)) (add_le_f p q r h)

pub add_lt_fit : (p q r s t : Fraction) → p <ᶠ q → add_outcome p r ≡ Ok s → add_outcome q r ≡ Ok t → s <ᶠ t
add_lt_fit p q r s t h a b = lt_moved_f (p +ᶠ r) (q +ᶠ r) s t (sym (add_value p r s a)) (sym (add_value q r t b)) (add_lt_f p q r h)

-- ---- differences
pub sub_add_fit : (p q s t : Fraction) → add_outcome p q ≡ Ok s → sub_outcome s q ≡ Ok t → t ≡ p
sub_add_fit p q s t a b = sub_value s q t b ∙ ap (λ z. z +ᶠ neg_f q) (add_value p q s a) ∙ add_sub_f p q

pub sub_le_fit : (p q r s t : Fraction) → p ≤ᶠ q → sub_outcome p r ≡ Ok s → sub_outcome q r ≡ Ok t → s ≤ᶠ t
sub_le_fit p q r s t h a b = le_moved_f (p +ᶠ neg_f r) (q +ᶠ neg_f r) s t (sym (sub_value p r s a)) (sym (sub_value q r t b)) (add_le_f p q (neg_f r) h)

-- ---- products
pub mul_assoc_fit : (p q r s t u v : Fraction) → mul_outcome p q ≡ Ok s → mul_outcome s r ≡ Ok t → mul_outcome q r ≡ Ok u → mul_outcome p u ≡ Ok v → t ≡ v
mul_assoc_fit p q r s t u v a b c d =
    mul_value s r t b ∙ ap (λ z. z *ᶠ r) (mul_value p q s a) ∙ mul_assoc_f p q r ∙ sym (mul_value p u v d ∙ ap (λ z. p *ᶠ z) (mul_value q r u c))

pub mul_add_fit : (p q r s t u v w : Fraction) → add_outcome q r ≡ Ok s → mul_outcome p s ≡ Ok t → mul_outcome p q ≡ Ok u → mul_outcome p r ≡ Ok v → add_outcome u v ≡ Ok w → t ≡ w
mul_add_fit p q r s t u v w a b c d e =
    mul_value p s t b ∙ ap (λ z. p *ᶠ z) (add_value q r s a) ∙ mul_add_f p q r
    ∙ sym (add_value u v w e ∙ ap (λ z. z +ᶠ v) (mul_value p q u c) ∙ ap (λ z. p *ᶠ q +ᶠ z) (mul_value p r v d))

pub mul_one_fit : (p s : Fraction) → mul_outcome p (of_int (pos 1)) ≡ Ok s → s ≡ p
mul_one_fit p s e = mul_value p (of_int (pos 1)) s e ∙ mul_one_f p

pub mul_le_fit : (p q r s t : Fraction) → of_int (pos 0) ≤ᶠ r → p ≤ᶠ q → mul_outcome p r ≡ Ok s → mul_outcome q r ≡ Ok t → s ≤ᶠ t
mul_le_fit p q r s t k h a b = le_moved_f (p *ᶠ r) (q *ᶠ r) s t (sym (mul_value p r s a)) (sym (mul_value q r t b)) (mul_le_f p q r k h)

pub mul_lt_fit : (p q r s t : Fraction) → of_int (pos 0) <ᶠ r → p <ᶠ q → mul_outcome p r ≡ Ok s → mul_outcome q r ≡ Ok t → s <ᶠ t
mul_lt_fit p q r s t k h a b = lt_moved_f (p *ᶠ r) (q *ᶠ r) s t (sym (mul_value p r s a)) (sym (mul_value q r t b)) (mul_lt_f p q r k h)

-- ---- quotients
pub div_mul_fit : (p q s t : Fraction) → ¬ (q ≡ of_int (pos 0)) → mul_outcome p q ≡ Ok s → div_outcome s q ≡ Ok t → t ≡ p
div_mul_fit p q s t h a b = div_value s q t b ∙ ap (λ z. z *ᶠ inv_f q) (mul_value p q s a) ∙ mul_div_f p q h

pub mul_div_fit : (p q s t : Fraction) → ¬ (q ≡ of_int (pos 0)) → div_outcome p q ≡ Ok s → mul_outcome s q ≡ Ok t → t ≡ p
mul_div_fit p q s t h a b = mul_value s q t b ∙ ap (λ z. z *ᶠ q) (div_value p q s a) ∙ div_mul_f p q h

-- ---- refusals: the operation, both operands, and that the result doesn't fit
refused_by_tests : (a b f : Bool) (x y v p q : Fraction) (op : Op) (r : Refused) → cond a (Ok x) (cond b (Ok y) (answer f v op p q)) ≡ Err r → (r ≡ record { op = op; left = p; right = q }) × (f ≡ false)
refused_by_tests true b f x y v p q op r e = absurd (cc)
refused_by_tests false true f x y v p q op r e = absurd (cc)
refused_by_tests false false true x y v p q op r e = absurd (cc)
refused_by_tests false false false x y v p q op r e = (cc, refl)

refused_again : (op : Op) (p q : Fraction) (x : Result Fraction Refused) (r : Refused) → refused_as op p q x ≡ Err r → (r ≡ record { op = op; left = p; right = q }) × ((y : Refused) × (x ≡ Err y))
refused_again op p q (Ok v) r e = absurd (cc)
refused_again op p q (Err y) r e = (cc, (y, refl))

pub add_refused : (p q : Fraction) (r : Refused) → add_outcome p q ≡ Err r → (r ≡ record { op = Add; left = p; right = q }) × (add_fits p q ≡ false)
unfolding add_outcome
add_refused p q r e = refused_by_tests (is_zero p) (is_zero q) (add_fits p q) q p (p +ᶠ q) p q Add r e

pub mul_refused : (p q : Fraction) (r : Refused) → mul_outcome p q ≡ Err r → (r ≡ record { op = Mul; left = p; right = q }) × (mul_fits p q ≡ false)
unfolding mul_outcome
mul_refused p q r e = refused_by_tests (is_zero p) (is_zero q) (mul_fits p q) (of_int (pos 0)) (of_int (pos 0)) (p *ᶠ q) p q Mul r e

pub sub_refused : (p q : Fraction) (r : Refused) → sub_outcome p q ≡ Err r → (r ≡ record { op = Sub; left = p; right = q }) × (add_fits p (neg_f q) ≡ false)
unfolding sub_outcome
sub_refused p q r e = let h = refused_again Sub p q (add_outcome p (neg_f q)) r e in (h.0, (add_refused p (neg_f q) h.1.0 h.1.1).1)

pub div_refused : (p q : Fraction) (r : Refused) → div_outcome p q ≡ Err r → (r ≡ record { op = Div; left = p; right = q }) × (mul_fits p (inv_f q) ≡ false)
unfolding div_outcome
div_refused p q r e = let h = refused_again Div p q (mul_outcome p (inv_f q)) r e in (h.0, (mul_refused p (inv_f q) h.1.0 h.1.1).1)
