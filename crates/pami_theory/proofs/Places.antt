-- The values of a basis by its places: B x_B = - N x_N.
use Rattle.std.proofs.Common.{◌≡◌, ◌↔◌, ℕ, ◌<◌, [], ◌∷◌, refl, sym, ap, ◌∙◌, subst, ⊎_elim, Some}
use Rattle.pami_algebra.specs.Fraction.{Fraction}
use Rattle.pami_algebra.specs.Ring.{var, t0, ◌⊕◌, ◌⊗◌, ⊖}
use Rattle.pami_algebra.specs.Operations.{◌+ᶠ◌, ◌*ᶠ◌, ◌-ᶠ◌, neg_f}
use Rattle.pami_algebra.proofs.Laws.{by_ring_f, add_nil_f}
use Rattle.pami_algebra.proofs.Field.{nil_mul_f, one_mul_f, nil_add_f}
use Rattle.pami_linear.specs.Sums.{sum_to, dot, unit}
use Rattle.pami_linear.specs.Systems.{Solves}
use Rattle.pami_linear.proofs.Sums.{sum_same, sum_none, sum_add, sum_swap, sum_only, sum_unit, unit_same, unit_other, dot_same}
use Rattle.pami_linear.proofs.Systems.{solves_same}
use Rattle.pami_linear.proofs.Regular.{solution, one_solution}
use Rattle.pami_frac.specs.declared.list.Bounds.{Bounds}
use Rattle.pami_theory.specs.Form.{Form, variables, limits, coefficient, IsPoint, zero_f}
use Rattle.pami_theory.specs.declared.words.Stand.{Stand}
use Rattle.pami_theory.specs.declared.words.Stand.TheVariants.{Basic, Lower, Upper, Zero}
use Rattle.pami_theory.specs.Basis.{Basis, head_at, stand_at, StandsAt, IsBasis, basis_column, IsRegularBasis}
use Rattle.pami_theory.specs.Violation.{value_or_zero}
use Rattle.pami_theory.specs.Fresh.{AreValues, standing_value, nonbasic_sum}
use Rattle.pami_theory.proofs.Certificates.{basic_or_not}
use Rattle.pami_theory.proofs.Starts.{stands_one}

-- ---- sums in which only basic variables count
own_place : (f : Form) (b : Basis) (c : Fraction) (v p : ℕ) → IsBasis f b → p < f.rows → head_at b p ≡ v → sum_to f.rows (λ q. unit (head_at b q) v *ᶠ c) ≡ c
own_place f b c v p s l e =
    sum_only f.rows p (λ q. unit (head_at b q) v *ᶠ c) l
    (λ q k n. ap (λ z. z *ᶠ c) (unit_other (head_at b q) v (λ h. n (s.distinct p q l k (e ∙ sym h)))) ∙ nil_mul_f c)
    ∙ ap (λ w. unit w v *ᶠ c) e ∙ ap (λ z. z *ᶠ c) (unit_same v) ∙ one_mul_f c

pub no_place : (f : Form) (b : Basis) (z : ℕ → Fraction) (v : ℕ) → IsBasis f b → ¬ (stand_at b v ≡ Basic) → sum_to f.rows (λ q. unit (head_at b q) v *ᶠ z q) ≡ zero_f
no_place f b z v s n = sum_none f.rows (λ q. unit (head_at b q) v *ᶠ z q)
    (λ q k. ap (λ w. w *ᶠ z q) (unit_other (head_at b q) v (λ e. n (ap (stand_at b) (sym e) ∙ s.basic q k))) ∙ nil_mul_f (z q))

pub sum_basic : (f : Form) (b : Basis) (g : ℕ → Fraction) → IsBasis f b → ((v : ℕ) → v < variables f → ¬ (stand_at b v ≡ Basic) → g v ≡ zero_f) → sum_to (variables f) g ≡ sum_to f.rows (λ p. g (head_at b p))
sum_basic f b g s h =
    sum_same (variables f) g (λ v. sum_to f.rows (λ p. unit (head_at b p) v *ᶠ g v)) (λ v l. sym (at v l))
    ∙ sum_swap (variables f) f.rows (λ v p. unit (head_at b p) v *ᶠ g v)
    ∙ sum_same f.rows (λ p. sum_to (variables f) (λ v. unit (head_at b p) v *ᶠ g v)) (λ p. g (head_at b p)) (λ p l. sum_unit (variables f) (head_at b p) g (s.within p l))
  where
    at : (v : ℕ) → v < variables f → sum_to f.rows (λ p. unit (head_at b p) v *ᶠ g v) ≡ g v
    at v l = ⊎_elim
        (λ (e : stand_at b v ≡ Basic). let p = s.placed v l e in own_place f b (g v) v p.0 s p.1 p.2)
        (λ (n : ¬ (stand_at b v ≡ Basic)). no_place f b (λ q. g v) v s n ∙ sym (h v l n))
        (basic_or_not (stand_at b v))

-- the sum over the places counts a basic variable at its own
pub at_head : (f : Form) (b : Basis) (z : ℕ → Fraction) (p : ℕ) → IsBasis f b → p < f.rows → sum_to f.rows (λ q. unit (head_at b q) (head_at b p) *ᶠ z q) ≡ z p
at_head f b z p s l =
    sum_only f.rows p (λ q. unit (head_at b q) (head_at b p) *ᶠ z q) l
    (λ q k n. ap (λ w. w *ᶠ z q) (unit_other (head_at b q) (head_at b p) (λ h. n (sym (s.distinct q p k l h)))) ∙ nil_mul_f (z q))
    ∙ ap (λ w. w *ᶠ z p) (unit_same (head_at b p)) ∙ one_mul_f (z p)

-- ---- the value at which a nonbasic variable stands
pub standing_is : (l : Bounds) (s : Stand) (value : Fraction) → ¬ (s ≡ Basic) → StandsAt l s value → value ≡ standing_value l s
standing_is l Basic value n h = absurd (n refl)
standing_is l Lower value n h = sym (ap value_or_zero h)
standing_is l Upper value n h = sym (ap value_or_zero h)
standing_is l Zero value n h = h.2

pub stands_there : (l : Bounds) (s : Stand) (value : Fraction) → StandsAt l s value → StandsAt l s (standing_value l s)
stands_there l Basic value h = tt
stands_there l Lower value h = subst (λ z. l.low ≡ Some z) (standing_is l Lower value (λ e. cc) h) h
stands_there l Upper value h = subst (λ z. l.high ≡ Some z) (standing_is l Upper value (λ e. cc) h) h
stands_there l Zero value h = (h.0, h.1, refl)

abbrev pub StandAt : Form → Basis → (ℕ → Fraction) → Type 0
StandAt f b x = (v : ℕ) → v < variables f → StandsAt (limits f v) (stand_at b v) (x v)

-- the standing value of a variable
abbrev pub standing : Form → Basis → ℕ → Fraction
standing f b v = standing_value (limits f v) (stand_at b v)

pub standing_basic : (f : Form) (b : Basis) (p : ℕ) → IsBasis f b → p < f.rows → standing f b (head_at b p) ≡ zero_f
standing_basic f b p s l = ap (standing_value (limits f (head_at b p))) (s.basic p l)

-- ---- a row of [A, -I] in its two parts
pub row_in_parts : (f : Form) (b : Basis) (x : ℕ → Fraction) (i : ℕ) → IsBasis f b → StandAt f b x → dot (variables f) (λ v. coefficient f v i) x ≡ sum_to f.rows (λ p. basis_column f b p i *ᶠ x (head_at b p)) +ᶠ nonbasic_sum f b i
row_in_parts f b x i s h =
    let a : ℕ → Fraction = λ v. coefficient f v i in
    let w : ℕ → Fraction = standing f b in
    sum_same (variables f) (λ v. a v *ᶠ x v) (λ v. a v *ᶠ (x v -ᶠ w v) +ᶠ a v *ᶠ w v)
    (λ v l. by_ring_f (a v ∷ x v ∷ w v ∷ []) (var 0 ⊗ var 1) (var 0 ⊗ (var 1 ⊕ ⊖ (var 2)) ⊕ var 0 ⊗ var 2) refl)
    ∙ sum_add (variables f) (λ v. a v *ᶠ (x v -ᶠ w v)) (λ v. a v *ᶠ w v)
    ∙ ap (λ z. z +ᶠ nonbasic_sum f b i)
    (sum_basic f b (λ v. a v *ᶠ (x v -ᶠ w v)) s
    (λ v l n. ap (λ z. a v *ᶠ (z -ᶠ w v)) (standing_is (limits f v) (stand_at b v) (x v) n (h v l)) ∙ by_ring_f (a v ∷ w v ∷ []) (var 0 ⊗ (var 1 ⊕ ⊖ (var 1))) t0 refl)
    ∙ sum_same f.rows (λ p. a (head_at b p) *ᶠ (x (head_at b p) -ᶠ w (head_at b p))) (λ p. a (head_at b p) *ᶠ x (head_at b p))
    (λ p l. ap (λ z. a (head_at b p) *ᶠ (x (head_at b p) -ᶠ z)) (standing_basic f b p s l) ∙ by_ring_f (a (head_at b p) ∷ x (head_at b p) ∷ []) (var 0 ⊗ (var 1 ⊕ ⊖ t0)) (var 0 ⊗ var 1) refl))

abbrev pub BasicSolve : Form → Basis → (ℕ → Fraction) → Type 0
BasicSolve f b x = Solves f.rows (basis_column f b) (λ p. x (head_at b p)) (λ i. neg_f (nonbasic_sum f b i))

-- x_B solves exactly where x is a point
pub point_solves : (f : Form) (b : Basis) (x : ℕ → Fraction) → IsBasis f b → StandAt f b x → IsPoint f x → BasicSolve f b x
point_solves f b x s h k = record { at = λ i l. opposite _ _ (sym (row_in_parts f b x i s h) ∙ k.at i l) }
  where
    opposite : (p q : Fraction) → p +ᶠ q ≡ zero_f → p ≡ neg_f q
    opposite p q e = by_ring_f (p ∷ q ∷ []) (var 0) ((var 0 ⊕ var 1) ⊕ ⊖ (var 1)) refl ∙ ap (λ z. z +ᶠ neg_f q) e ∙ nil_add_f (neg_f q)

pub solved_point : (f : Form) (b : Basis) (x : ℕ → Fraction) → IsBasis f b → StandAt f b x → BasicSolve f b x → IsPoint f x
solved_point f b x s h k = record {
  at = λ i l. row_in_parts f b x i s h ∙ ap (λ z. z +ᶠ nonbasic_sum f b i) (k.at i l) ∙ by_ring_f (nonbasic_sum f b i ∷ []) (⊖ (var 0) ⊕ var 0) t0 refl;
}

pub values_solve : (f : Form) (b : Basis) (x : ℕ → Fraction) → IsBasis f b → StandAt f b x → IsPoint f x ↔ BasicSolve f b x
values_solve f b x s h = (point_solves f b x s h, solved_point f b x s h)

-- ---- one point
pub values_only : (f : Form) (b : Basis) (x z : ℕ → Fraction) → IsBasis f b → IsRegularBasis f b → AreValues f b x → AreValues f b z → (v : ℕ) → v < variables f → x v ≡ z v
values_only f b x z s r h k v l = ⊎_elim
    (λ (e : stand_at b v ≡ Basic). let p = s.placed v l e in
    subst (λ w. x w ≡ z w) p.2 (one_solution f.rows (basis_column f b) (λ q. x (head_at b q)) (λ q. z (head_at b q)) (λ i. neg_f (nonbasic_sum f b i)) r
    (point_solves f b x s h.nonbasic h.point) (point_solves f b z s k.nonbasic k.point) p.0 p.1))
    (λ (n : ¬ (stand_at b v ≡ Basic)). stands_one (limits f v) (stand_at b v) (x v) (z v) n (h.nonbasic v l) (k.nonbasic v l))
    (basic_or_not (stand_at b v))

-- the values by variable of these values by place
abbrev pub spread : Form → Basis → (ℕ → Fraction) → ℕ → Fraction
spread f b z v = standing f b v +ᶠ sum_to f.rows (λ p. unit (head_at b p) v *ᶠ z p)

spread_nonbasic : (f : Form) (b : Basis) (z : ℕ → Fraction) (v : ℕ) → IsBasis f b → ¬ (stand_at b v ≡ Basic) → spread f b z v ≡ standing f b v
spread_nonbasic f b z v s n = ap (λ w. standing f b v +ᶠ w) (no_place f b z v s n) ∙ add_nil_f (standing f b v)

pub spread_basic : (f : Form) (b : Basis) (z : ℕ → Fraction) (p : ℕ) → IsBasis f b → p < f.rows → spread f b z (head_at b p) ≡ z p
spread_basic f b z p s l =
    ap (λ w. w +ᶠ sum_to f.rows (λ q. unit (head_at b q) (head_at b p) *ᶠ z q)) (standing_basic f b p s l)
    ∙ nil_add_f (sum_to f.rows (λ q. unit (head_at b q) (head_at b p) *ᶠ z q))
    ∙ at_head f b z p s l

pub spread_stands : (f : Form) (b : Basis) (z : ℕ → Fraction) → IsBasis f b → StandAt f b (spread f b z)
spread_stands f b z s v l = ⊎_elim
    (λ (e : stand_at b v ≡ Basic). subst (λ t. StandsAt (limits f v) t (spread f b z v)) (sym e) tt)
    (λ (n : ¬ (stand_at b v ≡ Basic)). let h = s.stands v l in
    subst (StandsAt (limits f v) (stand_at b v)) (sym (spread_nonbasic f b z v s n)) (stands_there (limits f v) (stand_at b v) h.0 h.1))
    (basic_or_not (stand_at b v))

pub spread_values : (f : Form) (b : Basis) (z : ℕ → Fraction) → IsBasis f b → Solves f.rows (basis_column f b) z (λ i. neg_f (nonbasic_sum f b i)) → AreValues f b (spread f b z)
spread_values f b z s h = record {
  point = solved_point f b (spread f b z) s (spread_stands f b z s)
      (solves_same f.rows (basis_column f b) (basis_column f b) z (λ p. spread f b z (head_at b p)) (λ i. neg_f (nonbasic_sum f b i)) (λ i. neg_f (nonbasic_sum f b i))
      (λ k i l m. refl) (λ k l. sym (spread_basic f b z k s l)) (λ i l. refl) h);
  nonbasic = spread_stands f b z s;
}

pub has_values : (f : Form) (b : Basis) → IsBasis f b → IsRegularBasis f b → (x : ℕ → Fraction) × AreValues f b x
has_values f b s r = let z = solution f.rows (basis_column f b) (λ i. neg_f (nonbasic_sum f b i)) r in (spread f b z.0, spread_values f b z.0 s z.1)

-- equal values on the variables are values alike
pub values_same : (f : Form) (b : Basis) (x z : ℕ → Fraction) → ((v : ℕ) → v < variables f → x v ≡ z v) → AreValues f b x → AreValues f b z
values_same f b x z e h = record {
  point = record { at = λ i l. sym (dot_same (variables f) (λ v. coefficient f v i) x (λ v. coefficient f v i) z (λ v k. refl) e) ∙ h.point.at i l };
  nonbasic = λ v l. subst (StandsAt (limits f v) (stand_at b v)) (e v l) (h.nonbasic v l);
}

pub nonbasic_standing : (f : Form) (b : Basis) (x : ℕ → Fraction) (v : ℕ) → AreValues f b x → v < variables f → ¬ (stand_at b v ≡ Basic) → x v ≡ standing_value (limits f v) (stand_at b v)
nonbasic_standing f b x v h l n = standing_is (limits f v) (stand_at b v) (x v) n (h.nonbasic v l)
