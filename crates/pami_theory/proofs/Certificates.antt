-- A basis that is dual feasible, and whose basic variables are within their bounds, gives a certificate.
use Rattle.std.proofs.Common.{◌≡◌, ◌↔◌, ℕ, ◌<◌, ◌⊎◌, inl, inr, refl, sym, ap, ◌∙◌, subst, arith, Option, None, Some, ⊎_elim}
use Rattle.std.proofs.lemmas.Option.{none-some, same_Some}
use Rattle.pami_algebra.specs.Fraction.{Fraction}
use Rattle.pami_algebra.specs.Operations.{◌-ᶠ◌, ◌≤ᶠ◌, ◌<ᶠ◌}
use Rattle.pami_algebra.proofs.Order.{le_refl_f}
use Rattle.pami_algebra.proofs.Strict.{lt_or_le_f, le_by_not_f, not_le_f, lt_irrefl_f}
use Rattle.pami_linear.specs.Sums.{dot}
use Rattle.pami_frac.specs.declared.list.Bounds.{Bounds}
use Rattle.pami_theory.specs.Form.{Form, limits, entry, cost, variables, row_variable, coefficient, cost_of, zero_f, IsWithin, IsUncrossed}
use Rattle.pami_theory.specs.declared.words.Stand.{Stand}
use Rattle.pami_theory.specs.declared.words.Stand.TheVariants.{Basic, Lower, Upper, Zero}
use Rattle.pami_theory.specs.Basis.{Basis, head_at, stand_at, StandsAt, IsBasis}
use Rattle.pami_theory.specs.Fresh.{AreValues, AreReducedCosts, IsFixed, IsSignedFor, IsDualFeasible, IsOutside, HasInfeasible}
use Rattle.pami_theory.specs.Start.{starting_basis}
use Rattle.pami_theory.specs.Certificate.{IsComplementary, HoldsOptimal}
use Rattle.pami_linear.proofs.Sums.{dot_same}
use Rattle.pami_theory.proofs.Forms.{by_variable, cost_of_column, dot_column}
use Rattle.pami_theory.proofs.Starts.{start_is_basis, row_cost, basic_cost, start_costs, start_row, start_stand}
use Rattle.pami_theory.proofs.Signs.{start_signed, dual_feasible_columns, fixed_or_not}

-- ---- options
one_of : (o : Option Fraction) (a b : Fraction) → o ≡ Some a → o ≡ Some b → a ≡ b
one_of o a b h k = same_Some a b (sym h ∙ k)

none_of : (o : Option Fraction) (a : Fraction) → o ≡ None → ¬ (o ≡ Some a)
none_of o a h k = none-some a (sym h ∙ k)

-- ---- within
pub within_by_not_outside : (l : Bounds) (value : Fraction) → ¬ IsOutside l value → IsWithin l value
within_by_not_outside l value n = record {
  above_low = λ low e. le_by_not_f low value (λ k. n (inr (low, e, k)));
  below_high = λ high e. le_by_not_f value high (λ k. n (inl (high, e, k)));
}

pub within_not_outside : (l : Bounds) (value : Fraction) → IsWithin l value → ¬ IsOutside l value
within_not_outside l value h o = ⊎_elim
    (λ (k : (high : Fraction) × (l.high ≡ Some high) × (high <ᶠ value)). not_le_f k.0 value k.2 (h.below_high k.0 k.1))
    (λ (k : (low : Fraction) × (l.low ≡ Some low) × (value <ᶠ low)). not_le_f value k.0 k.2 (h.above_low k.0 k.1))
    o

pub within_iff_not_outside : (l : Bounds) (value : Fraction) → IsWithin l value ↔ (¬ IsOutside l value)
within_iff_not_outside l value = (within_not_outside l value, within_by_not_outside l value)

abbrev BelowLow : Option Fraction → Fraction → Type 0
BelowLow o value = (low : Fraction) × (o ≡ Some low) × (value <ᶠ low)

abbrev AboveHigh : Option Fraction → Fraction → Type 0
AboveHigh o value = (high : Fraction) × (o ≡ Some high) × (high <ᶠ value)

low_side : (o : Option Fraction) (value : Fraction) → BelowLow o value ⊎ ((low : Fraction) → o ≡ Some low → low ≤ᶠ value)
low_side None value = inr (λ low e. absurd (none-some low e))
low_side (Some b) value = ⊎_elim
    (λ (l : value <ᶠ b). inl (b, refl, l))
    (λ (l : b ≤ᶠ value). inr (λ low e. subst (λ z. z ≤ᶠ value) (same_Some b low e) l))
    (lt_or_le_f value b)

high_side : (o : Option Fraction) (value : Fraction) → AboveHigh o value ⊎ ((high : Fraction) → o ≡ Some high → value ≤ᶠ high)
high_side None value = inr (λ high e. absurd (none-some high e))
high_side (Some b) value = ⊎_elim
    (λ (l : b <ᶠ value). inl (b, refl, l))
    (λ (l : value ≤ᶠ b). inr (λ high e. subst (λ z. value ≤ᶠ z) (same_Some b high e) l))
    (lt_or_le_f b value)

pub outside_or_within : (l : Bounds) (value : Fraction) → IsOutside l value ⊎ IsWithin l value
outside_or_within l value = ⊎_elim
    (λ (o : AboveHigh l.high value). inl (inl o))
    (λ (h : (high : Fraction) → l.high ≡ Some high → value ≤ᶠ high). ⊎_elim
    (λ (o : BelowLow l.low value). inl (inr o))
    (λ (k : (low : Fraction) → l.low ≡ Some low → low ≤ᶠ value). inr (record { above_low = k; below_high = h }))
    (low_side l.low value))
    (high_side l.high value)

-- what stands at a bound is within uncrossed bounds
pub within_at_stand : (l : Bounds) (s : Stand) (value : Fraction) → ¬ (s ≡ Basic) → IsUncrossed l → StandsAt l s value → IsWithin l value
within_at_stand l Basic value n u h = absurd (n refl)
within_at_stand l Lower value n u h = record {
  above_low = λ low e. subst (λ z. low ≤ᶠ z) (one_of l.low low value e h) (le_refl_f low);
  below_high = λ high e. u.ordered value high h e;
}
within_at_stand l Upper value n u h = record {
  above_low = λ low e. u.ordered low value e h;
  below_high = λ high e. subst (λ z. z ≤ᶠ high) (one_of l.high high value e h) (le_refl_f high);
}
within_at_stand l Zero value n u h = record {
  above_low = λ low e. absurd (none_of l.low low h.0 e);
  below_high = λ high e. absurd (none_of l.high high h.1 e);
}

-- ---- complementary
-- a reduced cost of 0 asks for nothing
pub complementary_zero : (l : Bounds) (value d : Fraction) → d ≡ zero_f → IsComplementary l value d
complementary_zero l value d e = record {
  positive = λ k. absurd (lt_irrefl_f zero_f (subst (λ z. zero_f <ᶠ z) e k));
  negative = λ k. absurd (lt_irrefl_f zero_f (subst (λ z. z <ᶠ zero_f) e k));
}

complementary_fixed : (l : Bounds) (s : Stand) (value d : Fraction) → ¬ (s ≡ Basic) → IsFixed l → StandsAt l s value → IsComplementary l value d
complementary_fixed l Basic value d n x h = absurd (n refl)
complementary_fixed l Lower value d n x h = record { positive = λ k. h; negative = λ k. x.2 ∙ ap Some (one_of l.low x.0 value x.1 h) }
complementary_fixed l Upper value d n x h = record { positive = λ k. x.1 ∙ ap Some (one_of l.high x.0 value x.2 h); negative = λ k. h }
complementary_fixed l Zero value d n x h = absurd (none_of l.low x.0 h.0 x.1)

complementary_signed : (l : Bounds) (s : Stand) (value d : Fraction) → ¬ (s ≡ Basic) → IsSignedFor s d → StandsAt l s value → IsComplementary l value d
complementary_signed l Basic value d n g h = absurd (n refl)
complementary_signed l Lower value d n g h = record { positive = λ k. h; negative = λ k. absurd (not_le_f d zero_f k g) }
complementary_signed l Upper value d n g h = record { positive = λ k. absurd (not_le_f zero_f d k g); negative = λ k. h }
complementary_signed l Zero value d n g h = complementary_zero l value d g

pub complementary_at_stand : (l : Bounds) (s : Stand) (value d : Fraction) → ¬ (s ≡ Basic) → (¬ IsFixed l → IsSignedFor s d) → StandsAt l s value → IsComplementary l value d
complementary_at_stand l s value d n g h = ⊎_elim
    (λ (x : IsFixed l). complementary_fixed l s value d n x h)
    (λ (x : ¬ IsFixed l). complementary_signed l s value d n (g x) h)
    (fixed_or_not l)

-- ---- basic or not
pub basic_or_not : (s : Stand) → (s ≡ Basic) ⊎ (¬ (s ≡ Basic))
basic_or_not Basic = inl refl
basic_or_not Lower = inr (λ e. lower e)
  where
    lower : ¬ (Lower ≡ Basic)
    lower e = cc
basic_or_not Upper = inr (λ e. upper e)
  where
    upper : ¬ (Upper ≡ Basic)
    upper e = cc
basic_or_not Zero = inr (λ e. nil e)
  where
    nil : ¬ (Zero ≡ Basic)
    nil e = cc

-- nonbasic variables have bounds in order
abbrev pub NonbasicUncrossed : Form → Basis → Type 0
NonbasicUncrossed f b = (v : ℕ) → v < variables f → ¬ (stand_at b v ≡ Basic) → IsUncrossed (limits f v)

abbrev pub NonbasicSigned : Form → Basis → (ℕ → Fraction) → Type 0
NonbasicSigned f b d = (v : ℕ) → v < variables f → ¬ IsFixed (limits f v) → IsSignedFor (stand_at b v) (d v)

-- ---- the certificate of any basis
basis_within : (f : Form) (b : Basis) (x : ℕ → Fraction) → IsBasis f b → AreValues f b x → ¬ HasInfeasible f b x → NonbasicUncrossed f b → (v : ℕ) → v < variables f → IsWithin (limits f v) (x v)
basis_within f b x s h n u v l = ⊎_elim
    (λ (e : stand_at b v ≡ Basic). let p = s.placed v l e in
    subst (λ w. IsWithin (limits f w) (x w)) p.2 (within_by_not_outside (limits f (head_at b p.0)) (x (head_at b p.0)) (λ o. n (p.0, p.1, o))))
    (λ (e : ¬ (stand_at b v ≡ Basic)). within_at_stand (limits f v) (stand_at b v) (x v) e (u v l e) (h.nonbasic v l))
    (basic_or_not (stand_at b v))

basis_complementary : (f : Form) (b : Basis) (x y d : ℕ → Fraction) → IsBasis f b → AreValues f b x → AreReducedCosts f b y d → NonbasicSigned f b d → (v : ℕ) → v < variables f → IsComplementary (limits f v) (x v) (d v)
basis_complementary f b x y d s h c g v l = ⊎_elim
    (λ (e : stand_at b v ≡ Basic). let p = s.placed v l e in
    complementary_zero (limits f v) (x v) (d v) (ap d (sym p.2) ∙ basic_cost f b y d s c p.0 p.1))
    (λ (e : ¬ (stand_at b v ≡ Basic)). complementary_at_stand (limits f v) (stand_at b v) (x v) (d v) e (g v l) (h.nonbasic v l))
    (basic_or_not (stand_at b v))

-- d = c - y A with the y read off the row variables
pub reduced_by_rows : (f : Form) (b : Basis) (y d : ℕ → Fraction) → AreReducedCosts f b y d → (j : ℕ) → j < f.columns → d j ≡ cost f j -ᶠ dot f.rows (λ i. d (row_variable f i)) (λ i. entry f i j)
reduced_by_rows f b y d c j l =
    c.reduced j (omega arith)
    ∙ ap (λ z. z -ᶠ dot f.rows y (coefficient f j)) (cost_of_column f j l)
    ∙ ap (λ z. cost f j -ᶠ z) (dot_column f y j l ∙ dot_same f.rows y (λ i. entry f i j) (λ i. d (row_variable f i)) (λ i. entry f i j) (λ i k. sym (row_cost f b y d c i k)) (λ i k. refl))

pub certificate : (f : Form) (b : Basis) (x y d : ℕ → Fraction) → IsBasis f b → AreValues f b x → AreReducedCosts f b y d → NonbasicSigned f b d → ¬ HasInfeasible f b x → NonbasicUncrossed f b → HoldsOptimal f x d
certificate f b x y d s h c g n u = record {
  feasible = record { point = h.point; within = basis_within f b x s h n u };
  reduced = reduced_by_rows f b y d c;
  complementary = basis_complementary f b x y d s h c g;
}

-- ---- at the start
abbrev pub ColumnsUncrossed : Form → Type 0
ColumnsUncrossed f = (j : ℕ) → j < f.columns → IsUncrossed (limits f j)

start_uncrossed : (f : Form) → ColumnsUncrossed f → NonbasicUncrossed f (starting_basis f)
start_uncrossed f u = by_variable f (λ v. ¬ (stand_at (starting_basis f) v ≡ Basic) → IsUncrossed (limits f v))
    (λ j l n. u j l)
    (λ i l n. absurd (n (start_stand f (row_variable f i) (omega arith) ∙ start_row f i)))

pub certificate_at_start : (f : Form) (x : ℕ → Fraction) → AreValues f (starting_basis f) x → IsDualFeasible f (starting_basis f) → ¬ HasInfeasible f (starting_basis f) x → ColumnsUncrossed f → HoldsOptimal f x (cost_of f)
certificate_at_start f x h g n u =
    certificate f (starting_basis f) x (λ i. zero_f) (cost_of f) (start_is_basis f) h (start_costs f) (start_signed f (dual_feasible_columns f g)) n (start_uncrossed f u)

pub certificate_of_basis : (f : Form) (b : Basis) (x : ℕ → Fraction) (dual : IsDualFeasible f b) → IsBasis f b → AreValues f b x → ¬ HasInfeasible f b x → NonbasicUncrossed f b → HoldsOptimal f x dual.d
certificate_of_basis f b x dual s h n u = certificate f b x dual.y dual.d s h dual.costs dual.signed n u
