-- Phase one in the boxes: it begins dual feasible and never lacks an entering variable, and where its last basis isn't
-- dual feasible for the form's own bounds, its values are a certificate of that.
use Rattle.std.proofs.Common.{◌≡◌, ◌↔◌, ℕ, ◌<◌, ◌≤◌, ⊎_elim, Bool, true, false, if◌then◌else◌, List, [], ◌∷◌, length, map, Option, None, Some, refl, sym, ap, ◌∙◌, subst, arith}
use Rattle.std.proofs.lemmas.Bool.{cases_lt}
use Rattle.std.proofs.lemmas.Option.{none-some, same_Some}
use Rattle.std.proofs.lemmas.List.{get_or-map, get_or_past, length-map}
use lib.IntN.{pos, negsuc}
use Rattle.pami_algebra.specs.Fraction.{Fraction}
use Rattle.pami_algebra.specs.Ring.{var, t1, ◌⊗◌, ⊖}
use Rattle.pami_algebra.specs.Operations.{◌*ᶠ◌, neg_f, of_int, ◌≤ᶠ◌, ◌<ᶠ◌, is_below}
use Rattle.pami_algebra.proofs.Laws.{by_ring_f}
use Rattle.pami_algebra.proofs.Field.{nil_mul_f, mul_nil_f, neg_nil_f, neg_neg_f}
use Rattle.pami_algebra.proofs.Order.{le_refl_f, le_trans_f}
use Rattle.pami_algebra.proofs.Strict.{lt_le_f, lt_by_other_f, lt_irrefl_f, lt_trans_f}
use Rattle.pami_algebra.proofs.Products.{zero_lt_one_f, neg_below_f, neg_nonneg_f, neg_nonpos_f}
use Rattle.pami_algebra.proofs.Tests.{is_below_iff, not_below_iff}
use Rattle.pami_algebra.proofs.Whole.{of_int_neg}
use Rattle.pami_linear.specs.Lists.{get}
use Rattle.pami_linear.specs.Sums.{sum_to, dot}
use Rattle.pami_linear.proofs.Sums.{sum_neg, sum_nonneg, sum_nonneg_zero, sum_none}
use Rattle.pami_frac.specs.declared.list.Bounds.{Bounds}
use Rattle.pami_theory.specs.Form.{Form, variables, limits, row_variable, coefficient, IsPoint, IsWithin, IsUncrossed, IsFeasible, zero_f}
use Rattle.pami_theory.specs.declared.words.Stand.{Stand}
use Rattle.pami_theory.specs.declared.words.Stand.TheVariants.{Basic, Lower, Upper, Zero}
use Rattle.pami_theory.specs.Basis.{Basis, head_at, stand_at, StandsAt, IsBasis}
use Rattle.pami_theory.specs.Fresh.{AreReducedCosts, IsFixed, IsSignedFor, IsDualFeasible, Fresh, value_at_place, IsFresh}
use Rattle.pami_theory.specs.declared.words.Violation.{Violation}
use Rattle.pami_theory.specs.Violation.{violation}
use Rattle.pami_theory.specs.Start.{is_same, starting_basis}
use Rattle.pami_theory.specs.Step.{step_at}
use Rattle.pami_theory.specs.Certificate.{HoldsOptimal, HoldsDualInfeasible}
use Rattle.pami_theory.specs.Boxes.{between, box_by, box, boxes_of, CanBeDualFeasible, boxed_by, switched_by, unless_basic, switched_basis}
use Rattle.pami_theory.proofs.Starts.{basic_cost}
use Rattle.pami_theory.proofs.Certificates.{basic_or_not}
use Rattle.pami_theory.proofs.Signs.{columns_dual_feasible, both_bounds_signed, is_same_iff}
use Rattle.pami_theory.proofs.Solved.{reduced_only, fresh_regular}
use Rattle.pami_theory.proofs.Farkas.{no_feasible_point, costs_by_reduced}
use Rattle.pami_theory.proofs.NextCosts.{SignedAt, signed_at}
use Rattle.pami_theory.proofs.NoEntering.{infeasible_without_step}
use Rattle.pami_theory.proofs.Optimal.{optimal_solved}
use Rattle.pami_theory.proofs.Switched.{switched_there, switch_is_basis}

-- ---- the boxes
minus_one_below : of_int (negsuc 0) <ᶠ zero_f
minus_one_below = subst (λ z. z <ᶠ zero_f) (sym (of_int_neg (pos 1))) (neg_below_f (of_int (pos 1)) zero_lt_one_f)

abbrev IsAround : Bounds → Type 0
IsAround l = (low : Fraction) × (high : Fraction) × (l.low ≡ Some low) × (l.high ≡ Some high) × (low ≤ᶠ zero_f) × (zero_f ≤ᶠ high)

box_around : (o p : Option Fraction) → IsAround (box_by o p)
box_around None None = (of_int (negsuc 0), of_int (pos 1), refl, refl, lt_le_f (of_int (negsuc 0)) zero_f minus_one_below, lt_le_f zero_f (of_int (pos 1)) zero_lt_one_f)
box_around (Some low) None = (zero_f, of_int (pos 1), refl, refl, le_refl_f zero_f, lt_le_f zero_f (of_int (pos 1)) zero_lt_one_f)
box_around None (Some high) = (of_int (negsuc 0), zero_f, refl, refl, lt_le_f (of_int (negsuc 0)) zero_f minus_one_below, le_refl_f zero_f)
box_around (Some low) (Some high) = (zero_f, zero_f, refl, refl, le_refl_f zero_f, le_refl_f zero_f)

around_within : (l : Bounds) → IsAround l → IsWithin l zero_f
around_within l h = record {
  above_low = λ low e. subst (λ z. z ≤ᶠ zero_f) (same_Some h.0 low (sym h.2 ∙ e)) h.4;
  below_high = λ high e. subst (λ z. zero_f ≤ᶠ z) (same_Some h.1 high (sym h.3 ∙ e)) h.5;
}

around_uncrossed : (l : Bounds) → IsAround l → IsUncrossed l
around_uncrossed l h = record { ordered = λ low high e k. le_trans_f low zero_f high ((around_within l h).above_low low e) ((around_within l h).below_high high k) }

abbrev unlimited : Bounds
unlimited = record { low = None; high = None }

pub limits_boxed : (f : Form) (v : ℕ) → v < length f.bounds → limits (boxes_of f) v ≡ box (limits f v)
limits_boxed f v l = get_or-map box f.bounds v unlimited unlimited l

-- every limit of the boxes lets 0 in
zero_within : (f : Form) (v : ℕ) → IsWithin (limits (boxes_of f) v) zero_f
zero_within f v = ⊎_elim
    (λ (l : v < length f.bounds). subst (λ z. IsWithin z zero_f) (sym (limits_boxed f v l)) (around_within (box (limits f v)) (box_around (limits f v).low (limits f v).high)))
    (λ (l : length f.bounds ≤ v). subst (λ z. IsWithin z zero_f) (sym (get_or_past (map box f.bounds) v unlimited (omega (arith, l, length-map f.bounds box)))) (record { above_low = λ low e. absurd (none-some low e); below_high = λ high e. absurd (none-some high e) }))
    (cases_lt v (length f.bounds))

pub zero_feasible : (f : Form) → IsFeasible (boxes_of f) (λ v. zero_f)
zero_feasible f = record {
  point = record { at = λ i l. sum_none (variables f) (λ v. coefficient f v i *ᶠ zero_f) (λ v m. mul_nil_f (coefficient f v i)) };
  within = λ v l. zero_within f v;
}

pub boxes_enter : (f : Form) (b : Basis) (s : Fresh) (p : ℕ) (v : Violation) → IsBasis (boxes_of f) b → IsFresh (boxes_of f) b s → p < f.rows → violation (limits (boxes_of f) (head_at b p)) (value_at_place b s p) ≡ Some v → ¬ (step_at (boxes_of f) b s p v ≡ None)
boxes_enter f b s p v is h l o e = no_feasible_point (boxes_of f) _ (λ u. zero_f) (infeasible_without_step (boxes_of f) b s p v is h l o e) (zero_feasible f)

pub boxes_start : (f : Form) → length f.bounds ≡ variables f → IsDualFeasible (boxes_of f) (starting_basis (boxes_of f))
boxes_start f n = columns_dual_feasible (boxes_of f) (λ j l fixed.
    let around : IsAround (limits (boxes_of f) j) = subst IsAround (sym (limits_boxed f j (omega (arith, l, n)))) (box_around (limits f j).low (limits f j).high) in
    both_bounds_signed (boxes_of f) j around.0 around.1 l around.2 around.3 fixed)

-- ---- the signs that the form's own bounds ask for
abbrev pub OwnSign : Option Fraction → Option Fraction → Fraction → Type 0
OwnSign None None d = d ≡ zero_f
OwnSign (Some low) None d = zero_f ≤ᶠ d
OwnSign None (Some high) d = d ≤ᶠ zero_f
OwnSign (Some low) (Some high) d = Unit {0}

abbrev pub OwnSigned : Form → Basis → (ℕ → Fraction) → Type 0
OwnSigned f b d = (v : ℕ) → v < variables f → ¬ (stand_at b v ≡ Basic) → OwnSign (limits f v).low (limits f v).high (d v)

-- where a nonbasic variable stands so, the sign of its stand is its own sign
sign_of_stand : (o p : Option Fraction) (st : Stand) (x d : Fraction) → ¬ (st ≡ Basic) → StandsAt (record { low = o; high = p }) st x → (¬ IsFixed (record { low = o; high = p }) → IsSignedFor st d) → OwnSign o p d
sign_of_stand o p Basic x d n h g = absurd (n refl)
sign_of_stand None p Lower x d n h g = absurd (none-some x h)
sign_of_stand (Some low) None Lower x d n h g = g (λ k. none-some k.0 k.2)
sign_of_stand (Some low) (Some high) Lower x d n h g = tt
sign_of_stand o None Upper x d n h g = absurd (none-some x h)
sign_of_stand None (Some high) Upper x d n h g = g (λ k. none-some k.0 k.1)
sign_of_stand (Some low) (Some high) Upper x d n h g = tt
sign_of_stand None None Zero x d n h g = g (λ k. none-some k.0 k.1)
sign_of_stand None (Some high) Zero x d n h g = absurd (none-some high (sym h.1))
sign_of_stand (Some low) p Zero x d n h g = absurd (none-some low (sym h.0))

-- and the switch gives it a stand of that sign
boxed_sign : (fixed : Bool) (d : Fraction) → ¬ (fixed ≡ true) → IsSignedFor (boxed_by fixed d) d
boxed_sign true d n = absurd (n refl)
boxed_sign false d n = go (is_below d zero_f) refl
  where
    go : (c : Bool) → is_below d zero_f ≡ c → IsSignedFor (if c then Upper else Lower) d
    go true e = lt_le_f d zero_f ((is_below_iff d zero_f).0 e)
    go false e = (not_below_iff d zero_f).0 e

sign_by_switch : (o p : Option Fraction) (d : Fraction) → OwnSign o p d → ¬ IsFixed (record { low = o; high = p }) → IsSignedFor (switched_by o p d) d
sign_by_switch None None d h n = h
sign_by_switch (Some low) None d h n = h
sign_by_switch None (Some high) d h n = h
sign_by_switch (Some low) (Some high) d h n = boxed_sign (is_same low high) d (λ e. n (low, refl, ap Some (sym ((is_same_iff low high).0 e))))

unless_signed : (s t : Stand) (d : Fraction) → (¬ (s ≡ Basic) → IsSignedFor t d) → IsSignedFor (unless_basic s t) d
unless_signed Basic t d h = tt
unless_signed Lower t d h = h (λ e. cc)
unless_signed Upper t d h = h (λ e. cc)
unless_signed Zero t d h = h (λ e. cc)

-- ---- dual feasible for the own bounds
abbrev pub reduced_in : Form → Fresh → ℕ → Fraction
reduced_in f s i = get s.reduced (row_variable f i)

same_head : (f : Form) (b : Basis) (stands : List Stand) (y d : ℕ → Fraction) → AreReducedCosts (boxes_of f) b y d → AreReducedCosts f (record { head = b.head; stands = stands }) y d
same_head f b stands y d h = record { basic = h.basic; reduced = h.reduced }

pub signed_switch : (f : Form) (b : Basis) (s : Fresh) → IsBasis (boxes_of f) b → IsFresh (boxes_of f) b s → OwnSigned f b (get s.reduced) → IsDualFeasible f (switched_basis f b s.reduced)
signed_switch f b s is h own = record {
  y = reduced_in f s;
  d = get s.reduced;
  costs = same_head f b (switched_basis f b s.reduced).stands (reduced_in f s) (get s.reduced) h.reduced;
  signed = λ v l n. subst (λ st. IsSignedFor st (get s.reduced v)) (sym (switched_there f b s.reduced v is l))
      (unless_signed (stand_at b v) (switched_by (limits f v).low (limits f v).high (get s.reduced v)) (get s.reduced v)
      (λ k. sign_by_switch (limits f v).low (limits f v).high (get s.reduced v) (own v l k) n));
}

pub switch_can : (f : Form) (b : Basis) (s : Fresh) → IsBasis (boxes_of f) b → IsDualFeasible f (switched_basis f b s.reduced) → CanBeDualFeasible f b
switch_can f b s is h = record { stands = (switched_basis f b s.reduced).stands; basis = switch_is_basis f b s.reduced is; signed = h }

-- a variable is basic by the head alone
basic_in_both : (f : Form) (b : Basis) (stands : List Stand) (v : ℕ) → IsBasis (boxes_of f) b → IsBasis f (record { head = b.head; stands = stands }) → v < variables f → stand_at (record { head = b.head; stands = stands }) v ≡ Basic → stand_at b v ≡ Basic
basic_in_both f b stands v is h l e = let p = h.placed v l e in ap (stand_at b) (sym p.2) ∙ is.basic p.0 p.1

pub can_own : (f : Form) (b : Basis) (s : Fresh) → IsBasis (boxes_of f) b → IsFresh (boxes_of f) b s → CanBeDualFeasible f b → OwnSigned f b (get s.reduced)
can_own f b s is h c v l n =
    let b' : Basis = record { head = b.head; stands = c.stands } in
    let at = c.basis.stands v l in
    let same : c.signed.d v ≡ get s.reduced v = reduced_only f b' c.signed.y c.signed.d (reduced_in f s) (get s.reduced) (fresh_regular (boxes_of f) b s h) c.signed.costs (same_head f b c.stands (reduced_in f s) (get s.reduced) h.reduced) v l in
    sign_of_stand (limits f v).low (limits f v).high (stand_at b' v) at.0 (get s.reduced v) (λ e. n (basic_in_both f b c.stands v is c.basis l e)) at.1
    (λ k. subst (IsSignedFor (stand_at b' v)) same (c.signed.signed v l k))

pub can_iff : (f : Form) (b : Basis) (s : Fresh) → IsBasis (boxes_of f) b → IsFresh (boxes_of f) b s → CanBeDualFeasible f b ↔ IsDualFeasible f (switched_basis f b s.reduced)
can_iff f b s is h = (λ c. signed_switch f b s is h (can_own f b s is h c), λ d. switch_can f b s is d)

-- ---- the products of phase one
one_not_minus : ¬ (of_int (negsuc 0) ≡ of_int (pos 1))
one_not_minus e = lt_irrefl_f zero_f (lt_trans_f zero_f (of_int (pos 1)) zero_f zero_lt_one_f (subst (λ z. z <ᶠ zero_f) e minus_one_below))

-- the product is at most 0; where it is 0 the reduced cost has the variable's own sign
abbrev Falls : Option Fraction → Option Fraction → Fraction → Fraction → Type 0
Falls o p d z = ((d *ᶠ z) ≤ᶠ zero_f) × (d *ᶠ z ≡ zero_f → OwnSign o p d)

times_one : (d z : Fraction) → z ≡ of_int (pos 1) → d *ᶠ z ≡ d
times_one d z e = ap (λ w. d *ᶠ w) e ∙ by_ring_f (d ∷ []) (var 0 ⊗ t1) (var 0) refl

times_minus : (d z : Fraction) → z ≡ of_int (negsuc 0) → d *ᶠ z ≡ neg_f d
times_minus d z e = ap (λ w. d *ᶠ w) (e ∙ of_int_neg (pos 1)) ∙ by_ring_f (d ∷ []) (var 0 ⊗ ⊖ t1) (⊖ (var 0)) refl

times_zero : (d z : Fraction) → z ≡ zero_f → d *ᶠ z ≡ zero_f
times_zero d z e = ap (λ w. d *ᶠ w) e ∙ mul_nil_f d

was_zero : (d : Fraction) → neg_f d ≡ zero_f → d ≡ zero_f
was_zero d e = sym (neg_neg_f d) ∙ ap neg_f e ∙ neg_nil_f

by_zero : (o p : Option Fraction) (d z : Fraction) → z ≡ zero_f → OwnSign o p d → Falls o p d z
by_zero o p d z e g = (subst (λ w. w ≤ᶠ zero_f) (sym (times_zero d z e)) (le_refl_f zero_f), λ k. g)

by_one : (o p : Option Fraction) (d z : Fraction) → z ≡ of_int (pos 1) → d ≤ᶠ zero_f → (d ≡ zero_f → OwnSign o p d) → Falls o p d z
by_one o p d z e h g = (subst (λ w. w ≤ᶠ zero_f) (sym (times_one d z e)) h, λ k. g (sym (times_one d z e) ∙ k))

by_minus : (o p : Option Fraction) (d z : Fraction) → z ≡ of_int (negsuc 0) → zero_f ≤ᶠ d → (d ≡ zero_f → OwnSign o p d) → Falls o p d z
by_minus o p d z e h g = (subst (λ w. w ≤ᶠ zero_f) (sym (times_minus d z e)) (neg_nonpos_f d h), λ k. g (was_zero d (sym (times_minus d z e) ∙ k)))

at_most_zero : (d : Fraction) → d ≡ zero_f → d ≤ᶠ zero_f
at_most_zero d e = subst (λ w. w ≤ᶠ zero_f) (sym e) (le_refl_f zero_f)

at_least_zero : (d : Fraction) → d ≡ zero_f → zero_f ≤ᶠ d
at_least_zero d e = subst (λ w. zero_f ≤ᶠ w) (sym e) (le_refl_f zero_f)

-- the bounds of a box differ but for [0, 0]
differ : (low high : Fraction) → low <ᶠ high → ¬ IsFixed (between low high)
differ low high h k = lt_irrefl_f high (subst (λ z. z <ᶠ high) (same_Some low k.0 k.1 ∙ sym (same_Some high k.0 k.2)) h)

minus_below_one : of_int (negsuc 0) <ᶠ of_int (pos 1)
minus_below_one = lt_trans_f (of_int (negsuc 0)) zero_f (of_int (pos 1)) minus_one_below zero_lt_one_f

falls_by : (o p : Option Fraction) (st : Stand) (d z : Fraction) → ¬ (st ≡ Basic) → StandsAt (box_by o p) st z → (¬ IsFixed (box_by o p) → IsSignedFor st d) → Falls o p d z
falls_by o p Basic d z n h g = absurd (n refl)
falls_by None None Lower d z n h g = by_minus None None d z (sym (same_Some (of_int (negsuc 0)) z h)) (g (differ (of_int (negsuc 0)) (of_int (pos 1)) minus_below_one)) (λ e. e)
falls_by None None Upper d z n h g = by_one None None d z (sym (same_Some (of_int (pos 1)) z h)) (g (differ (of_int (negsuc 0)) (of_int (pos 1)) minus_below_one)) (λ e. e)
falls_by None None Zero d z n h g = by_zero_of h
  where
    by_zero_of : StandsAt (box_by None None) Zero z → Falls None None d z
    by_zero_of k = absurd (none-some (of_int (negsuc 0)) (sym k.0))
falls_by (Some low) None Lower d z n h g = by_zero (Some low) None d z (sym (same_Some zero_f z h)) (g (differ zero_f (of_int (pos 1)) zero_lt_one_f))
falls_by (Some low) None Upper d z n h g = by_one (Some low) None d z (sym (same_Some (of_int (pos 1)) z h)) (g (differ zero_f (of_int (pos 1)) zero_lt_one_f)) (at_least_zero d)
falls_by (Some low) None Zero d z n h g = absurd (none-some zero_f (sym h.0))
falls_by None (Some high) Lower d z n h g = by_minus None (Some high) d z (sym (same_Some (of_int (negsuc 0)) z h)) (g (differ (of_int (negsuc 0)) zero_f minus_one_below)) (at_most_zero d)
falls_by None (Some high) Upper d z n h g = by_zero None (Some high) d z (sym (same_Some zero_f z h)) (g (differ (of_int (negsuc 0)) zero_f minus_one_below))
falls_by None (Some high) Zero d z n h g = absurd (none-some (of_int (negsuc 0)) (sym h.0))
falls_by (Some low) (Some high) Lower d z n h g = by_zero (Some low) (Some high) d z (sym (same_Some zero_f z h)) tt
falls_by (Some low) (Some high) Upper d z n h g = by_zero (Some low) (Some high) d z (sym (same_Some zero_f z h)) tt
falls_by (Some low) (Some high) Zero d z n h g = absurd (none-some zero_f (sym h.0))

-- ---- the ray of phase one
abbrev pub NoneViolated : Form → Basis → Fresh → Type 0
NoneViolated f b s = (p : ℕ) → p < f.rows → violation (limits f (head_at b p)) (value_at_place b s p) ≡ None

boxed_limits : (f : Form) (v : ℕ) → length f.bounds ≡ variables f → v < variables f → limits (boxes_of f) v ≡ box (limits f v)
boxed_limits f v n l = limits_boxed f v (omega (arith, n, l))

falls_at : (f : Form) (b : Basis) (s : Fresh) (v : ℕ) → length f.bounds ≡ variables f → IsFresh (boxes_of f) b s → SignedAt (boxes_of f) b s → v < variables f → ¬ (stand_at b v ≡ Basic) → Falls (limits f v).low (limits f v).high (get s.reduced v) (get s.values v)
falls_at f b s v n h g l k =
    let e = boxed_limits f v n l in
    falls_by (limits f v).low (limits f v).high (stand_at b v) (get s.reduced v) (get s.values v) k
    (subst (λ z. StandsAt z (stand_at b v) (get s.values v)) e (h.values.nonbasic v l))
    (λ m. g v l (λ x. m (subst IsFixed e x)))

term_falls : (f : Form) (b : Basis) (s : Fresh) (v : ℕ) → length f.bounds ≡ variables f → IsBasis (boxes_of f) b → IsFresh (boxes_of f) b s → SignedAt (boxes_of f) b s → v < variables f → (get s.reduced v *ᶠ get s.values v) ≤ᶠ zero_f
term_falls f b s v n is h g l = ⊎_elim
    (λ (e : stand_at b v ≡ Basic). let p = is.placed v l e in
    at_most_zero (get s.reduced v *ᶠ get s.values v) (ap (λ z. z *ᶠ get s.values v) (ap (get s.reduced) (sym p.2) ∙ basic_cost (boxes_of f) b (reduced_in f s) (get s.reduced) is h.reduced p.0 p.1) ∙ nil_mul_f (get s.values v)))
    (λ (k : ¬ (stand_at b v ≡ Basic)). (falls_at f b s v n h g l k).0)
    (basic_or_not (stand_at b v))

-- a sum of terms that aren't above 0 isn't above 0, and it is 0 only where they all are
sum_nonpos : (m : ℕ) (h : ℕ → Fraction) → ((v : ℕ) → v < m → h v ≤ᶠ zero_f) → sum_to m h ≤ᶠ zero_f
sum_nonpos m h g = subst (λ z. z ≤ᶠ zero_f) (neg_neg_f (sum_to m h)) (neg_nonpos_f (neg_f (sum_to m h)) (subst (λ z. zero_f ≤ᶠ z) (sum_neg m h) (sum_nonneg m (λ v. neg_f (h v)) (λ v l. neg_nonneg_f (h v) (g v l)))))

sum_nonpos_zero : (m v : ℕ) (h : ℕ → Fraction) → v < m → ((u : ℕ) → u < m → h u ≤ᶠ zero_f) → sum_to m h ≡ zero_f → h v ≡ zero_f
sum_nonpos_zero m v h l g e = was_zero (h v) (sum_nonneg_zero m v (λ u. neg_f (h u)) l (λ u k. neg_nonneg_f (h u) (g u k)) (sum_neg m h ∙ ap neg_f e ∙ neg_nil_f))

box_low : (o p : Option Fraction) (bound z : Fraction) → o ≡ Some bound → IsWithin (box_by o p) z → zero_f ≤ᶠ z
box_low None p bound z e w = absurd (none-some bound e)
box_low (Some low) None bound z e w = w.above_low zero_f refl
box_low (Some low) (Some high) bound z e w = w.above_low zero_f refl

box_high : (o p : Option Fraction) (bound z : Fraction) → p ≡ Some bound → IsWithin (box_by o p) z → z ≤ᶠ zero_f
box_high o None bound z e w = absurd (none-some bound e)
box_high None (Some high) bound z e w = w.below_high zero_f refl
box_high (Some low) (Some high) bound z e w = w.below_high zero_f refl

pub boxes_ray : (f : Form) (b : Basis) (s : Fresh) → length f.bounds ≡ variables f → IsBasis (boxes_of f) b → IsFresh (boxes_of f) b s → IsDualFeasible (boxes_of f) b → NoneViolated (boxes_of f) b s → ¬ CanBeDualFeasible f b → HoldsDualInfeasible f (get s.values)
boxes_ray f b s n is h dual none cannot = record {
  point = point;
  low = λ v bound l e. box_low (limits f v).low (limits f v).high bound (get s.values v) e (within v l);
  high = λ v bound l e. box_high (limits f v).low (limits f v).high bound (get s.values v) e (within v l);
  falls = subst (λ z. z <ᶠ zero_f) (costs_by_reduced f (reduced_in f s) (get s.reduced) (get s.values) h.reduced.reduced point)
      (lt_by_other_f (dot (variables f) (get s.reduced) (get s.values)) zero_f (sum_nonpos (variables f) (λ v. get s.reduced v *ᶠ get s.values v) terms) other);
}
  where
    g : SignedAt (boxes_of f) b s
    g = signed_at (boxes_of f) b s h dual

    point : IsPoint f (get s.values)
    point = record { at = h.values.point.at }

    terms : (v : ℕ) → v < variables f → (get s.reduced v *ᶠ get s.values v) ≤ᶠ zero_f
    terms v l = term_falls f b s v n is h g l

    optimal : HoldsOptimal (boxes_of f) (get s.values) (get s.reduced)
    optimal = optimal_solved (boxes_of f) b s is h dual none (λ v l k. subst IsUncrossed (sym (boxed_limits f v n l)) (around_uncrossed (box (limits f v)) (box_around (limits f v).low (limits f v).high)))

    within : (v : ℕ) → v < variables f → IsWithin (box (limits f v)) (get s.values v)
    within v l = subst (λ z. IsWithin z (get s.values v)) (boxed_limits f v n l) (optimal.feasible.within v l)

    other : ¬ (dot (variables f) (get s.reduced) (get s.values) ≡ zero_f)
    other e = cannot (switch_can f b s is (signed_switch f b s is h (λ v l k. (falls_at f b s v n h g l k).1 (sum_nonpos_zero (variables f) v (λ u. get s.reduced u *ᶠ get s.values u) l terms e))))
