-- A script that isn't refused has the exact value.
use Rattle.std.proofs.Common.{◌≡◌, ℕ, ◌+◌, [], ◌∷◌, refl, sym, ap, ◌∙◌, subst, arith, Ok}
use Rattle.pami_algebra.specs.Fraction.{Fraction}
use Rattle.pami_algebra.specs.Operations.{◌+ᶠ◌, ◌*ᶠ◌, neg_f}
use Rattle.pami_algebra.specs.Ring.{var, t0, ◌⊕◌, ◌⊗◌, ⊖}
use Rattle.pami_algebra.proofs.Laws.{by_ring_f}
use Rattle.pami_linear.specs.Sums.{dot}
use Rattle.pami_frac.specs.Arithmetic.{add_outcome, sub_outcome, mul_outcome}
use Rattle.pami_frac.specs.declared.arithmetic.Op.{Op}
use Rattle.pami_frac.specs.declared.arithmetic.Op.TheVariants.{Add, Sub, Mul, Div}
use Rattle.pami_frac.proofs.Outcomes.{add_value, sub_value, mul_value, div_value}
use Rattle.pami_script.specs.Script.{then, add_product, sub_product, add_dot, sub_dot}
use Rattle.pami_script.specs.Expression.{Expression, number, apply, exact, outcome, value_of, run}
use Rattle.pami_script.proofs.Scripts.{then_ok, each_keeps}

-- ---- single operations and expressions
pub outcome_value : (op : Op) (p q s : Fraction) → outcome op p q ≡ Ok s → s ≡ exact op p q
outcome_value Add p q s e = add_value p q s e
outcome_value Sub p q s e = sub_value p q s e
outcome_value Mul p q s e = mul_value p q s e
outcome_value Div p q s e = div_value p q s e

pub run_value : (x : Expression) (s : Fraction) → run x ≡ Ok s → s ≡ value_of x
run_value (number p) s e = let h : p ≡ s = cc in sym h
run_value (apply op a b) s e =
    let h = then_ok (run a) (λ p. then (run b) (λ q. outcome op p q)) s e in
    let k = then_ok (run b) (λ q. outcome op h.0 q) s h.1.1 in
    outcome_value op h.0 k.0 s k.1.1 ∙ ap (λ z. exact op z k.0) (run_value a h.0 h.1.0) ∙ ap (exact op (value_of a)) (run_value b k.0 k.1.0)

-- ---- sums of products
pub add_product_value : (t x y s : Fraction) → add_product t x y ≡ Ok s → s ≡ t +ᶠ x *ᶠ y
add_product_value t x y s e =
    let h = then_ok (mul_outcome x y) (λ p. add_outcome t p) s e in
    add_value t h.0 s h.1.1 ∙ ap (λ z. t +ᶠ z) (mul_value x y h.0 h.1.0)

pub sub_product_value : (t x y s : Fraction) → sub_product t x y ≡ Ok s → s ≡ t +ᶠ neg_f (x *ᶠ y)
sub_product_value t x y s e =
    let h = then_ok (mul_outcome x y) (λ p. sub_outcome t p) s e in
    sub_value t h.0 s h.1.1 ∙ ap (λ z. t +ᶠ neg_f z) (mul_value x y h.0 h.1.0)

pub add_dot_value : (n : ℕ) (u v : ℕ → Fraction) (t s : Fraction) → add_dot n u v t ≡ Ok s → s ≡ t +ᶠ dot n u v
add_dot_value n u v t s e = let at : 0 + n ≡ n = omega arith in subst (λ j. s ≡ t +ᶠ dot j u v) at (each_keeps (λ i x. x ≡ t +ᶠ dot i u v) n 0 (λ i t. add_product t (u i) (v i)) t s
    (λ i l m x y h k. add_product_value x (u i) (v i) y k ∙ ap (λ z. z +ᶠ u i *ᶠ v i) h
    ∙ by_ring_f (t ∷ dot i u v ∷ u i ∷ v i ∷ []) (var 0 ⊕ var 1 ⊕ var 2 ⊗ var 3) (var 0 ⊕ (var 1 ⊕ var 2 ⊗ var 3)) refl)
    (by_ring_f (t ∷ []) (var 0) (var 0 ⊕ t0) refl) e)

pub sub_dot_value : (n : ℕ) (u v : ℕ → Fraction) (t s : Fraction) → sub_dot n u v t ≡ Ok s → s ≡ t +ᶠ neg_f (dot n u v)
sub_dot_value n u v t s e = let at : 0 + n ≡ n = omega arith in subst (λ j. s ≡ t +ᶠ neg_f (dot j u v)) at (each_keeps (λ i x. x ≡ t +ᶠ neg_f (dot i u v)) n 0 (λ i t. sub_product t (u i) (v i)) t s
    (λ i l m x y h k. sub_product_value x (u i) (v i) y k ∙ ap (λ z. z +ᶠ neg_f (u i *ᶠ v i)) h
    ∙ by_ring_f (t ∷ dot i u v ∷ u i ∷ v i ∷ []) (var 0 ⊕ ⊖ (var 1) ⊕ ⊖ (var 2 ⊗ var 3)) (var 0 ⊕ ⊖ (var 1 ⊕ var 2 ⊗ var 3)) refl)
    (by_ring_f (t ∷ []) (var 0) (var 0 ⊕ ⊖ t0) refl) e)
