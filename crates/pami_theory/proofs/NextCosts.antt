-- The reduced costs behind a step, and that it keeps a basis dual feasible.
use Rattle.std.proofs.Common.{◌≡◌, ℕ, ◌<◌, ◌⊎◌, inl, inr, ⊎_elim, Bool, true, false, not, if◌then◌else◌, [], ◌∷◌, refl, sym, ap, ◌∙◌, subst, true≢false}
use Rattle.std.proofs.lemmas.Bool.{cases_eq, cond-false}
use Rattle.std.proofs.lemmas.Option.{none-some}
use lib.IntN.{pos}
use Rattle.pami_algebra.specs.Fraction.{Fraction}
use Rattle.pami_algebra.specs.Ring.{var, t0, t1, ◌⊕◌, ◌⊗◌, ⊖}
use Rattle.pami_algebra.specs.Operations.{◌+ᶠ◌, ◌*ᶠ◌, ◌-ᶠ◌, ◌/ᶠ◌, neg_f, inv_f, of_int, ◌≤ᶠ◌, ◌<ᶠ◌, is_below}
use Rattle.pami_algebra.proofs.Laws.{by_ring_f}
use Rattle.pami_algebra.proofs.Field.{sub_zero_f, div_mul_f, nil_mul_f, zero_or_not}
use Rattle.pami_algebra.proofs.Order.{le_refl_f, le_trans_f, le_antisymm_f, mul_nonneg_f}
use Rattle.pami_algebra.proofs.Strict.{lt_le_f, lt_or_le_f, lt_irrefl_f}
use Rattle.pami_algebra.proofs.Bounds.{le_by, gap_of}
use Rattle.pami_algebra.proofs.Products.{mul_le_f, mul_le_neg_f, neg_nonneg_f, neg_nonpos_f, inv_above_f, inv_below_f}
use Rattle.pami_algebra.proofs.Tests.{is_below_iff, not_below_iff, not_zero_iff}
use Rattle.pami_linear.specs.Lists.{get}
use Rattle.pami_linear.specs.Sums.{dot, unit}
use Rattle.pami_linear.proofs.Sums.{dot_add, dot_scale, unit_same, unit_other}
use Rattle.pami_frac.specs.declared.list.Bounds.{Bounds}
use Rattle.pami_theory.specs.Form.{Form, variables, limits, row_variable, coefficient, cost_of, zero_f}
use Rattle.pami_theory.specs.declared.words.Stand.{Stand}
use Rattle.pami_theory.specs.declared.words.Stand.TheVariants.{Basic, Lower, Upper, Zero}
use Rattle.pami_theory.specs.Basis.{Basis, head_at, stand_at, StandsAt, IsBasis}
use Rattle.pami_theory.specs.Fresh.{AreReducedCosts, IsFixed, IsSignedFor, IsDualFeasible, Fresh, row_at, IsFresh}
use Rattle.pami_theory.specs.declared.words.Side.{Side}
use Rattle.pami_theory.specs.declared.words.Side.TheVariants.{Above, Below}
use Rattle.pami_theory.specs.declared.words.Violation.{Violation}
use Rattle.pami_theory.specs.Violation.{is_fixed}
use Rattle.pami_theory.specs.Ratio.{Leaving, toward, turned_entry, may_enter, is_candidate, ratio, walks_before, IsEntering}
use Rattle.pami_theory.specs.Step.{Step, leaving_at, TakesStep, flipped, stand_on, stand_after, basis_after}
use Rattle.pami_theory.proofs.Starts.{basic_cost}
use Rattle.pami_theory.proofs.Solved.{reduced_only, fresh_regular, basic_entry}
use Rattle.pami_theory.proofs.Members.{has_filter}
use Rattle.pami_theory.proofs.Comparisons.{walk_either}
use Rattle.pami_theory.proofs.Candidates.{has_walk, flips_has, passed_boxed}
use Rattle.pami_theory.proofs.Violations.{IsWidth, width_is, fixed_iff}
use Rattle.pami_theory.proofs.Steps.{step_of, candidate_parts, turned_not_zero, of_step, head_there, head_elsewhere, by_role, stand_there, takes_again}

-- ---- the reduced costs
toward_times : (side : Side) (t a : Fraction) → toward side t *ᶠ a ≡ t *ᶠ toward side a
toward_times Above t a = refl
toward_times Below t a = by_ring_f (t ∷ a ∷ []) (⊖ (var 0) ⊗ var 1) (var 0 ⊗ ⊖ (var 1)) refl

toward_zero : (side : Side) (a : Fraction) → a ≡ zero_f → toward side a ≡ zero_f
toward_zero Above a e = e
toward_zero Below a e = ap neg_f e ∙ by_ring_f [] (⊖ t0) t0 refl

-- behind a step of this length at the place p
abbrev pub reduced_behind : Form → Fresh → ℕ → Violation → Fraction → ℕ → Fraction
reduced_behind f s p v tau u = get s.reduced u -ᶠ tau *ᶠ turned_entry f (leaving_at s p v) u

multiplier_behind : Form → Fresh → ℕ → Violation → Fraction → ℕ → Fraction
multiplier_behind f s p v tau i = get s.reduced (row_variable f i) +ᶠ toward v.side tau *ᶠ get (row_at s p) i

behind_against : (f : Form) (s : Fresh) (p : ℕ) (v : Violation) (tau : Fraction) (u : ℕ) → dot f.rows (multiplier_behind f s p v tau) (coefficient f u) ≡ dot f.rows (λ i. get s.reduced (row_variable f i)) (coefficient f u) +ᶠ tau *ᶠ turned_entry f (leaving_at s p v) u
unfolding multiplier_behind
behind_against f s p v tau u =
    let y : ℕ → Fraction = λ i. get s.reduced (row_variable f i) in
    let rho : ℕ → Fraction = get (row_at s p) in
    dot_add f.rows y (λ i. toward v.side tau *ᶠ rho i) (coefficient f u)
    ∙ ap (λ z. dot f.rows y (coefficient f u) +ᶠ z) (dot_scale f.rows (toward v.side tau) rho (coefficient f u) ∙ toward_times v.side tau (dot f.rows rho (coefficient f u)))

behind_is : (f : Form) (b : Basis) (s : Fresh) (p : ℕ) (v : Violation) (tau : Fraction) (u : ℕ) → IsFresh f b s → u < variables f → reduced_behind f s p v tau u ≡ cost_of f u -ᶠ dot f.rows (multiplier_behind f s p v tau) (coefficient f u)
behind_is f b s p v tau u h l =
    let y : Fraction = dot f.rows (λ i. get s.reduced (row_variable f i)) (coefficient f u) in
    let a : Fraction = turned_entry f (leaving_at s p v) u in
    ap (λ z. z -ᶠ tau *ᶠ a) (h.reduced.reduced u l)
    ∙ by_ring_f (cost_of f u ∷ y ∷ tau ∷ a ∷ []) ((var 0 ⊕ ⊖ (var 1)) ⊕ ⊖ (var 2 ⊗ var 3)) (var 0 ⊕ ⊖ (var 1 ⊕ var 2 ⊗ var 3)) refl
    ∙ ap (λ z. cost_of f u -ᶠ z) (sym (behind_against f s p v tau u))

turned_basic : (f : Form) (b : Basis) (s : Fresh) (p : ℕ) (v : Violation) (k : ℕ) → IsFresh f b s → p < f.rows → k < f.rows → turned_entry f (leaving_at s p v) (head_at b k) ≡ toward v.side (unit p k)
turned_basic f b s p v k h l m = ap (toward v.side) (basic_entry f b s p k h l m)

stays_zero : (f : Form) (b : Basis) (s : Fresh) (p : ℕ) (v : Violation) (tau : Fraction) (k : ℕ) → IsBasis f b → IsFresh f b s → p < f.rows → k < f.rows → ¬ (k ≡ p) → reduced_behind f s p v tau (head_at b k) ≡ zero_f
stays_zero f b s p v tau k is h l m n =
    ap (λ z. z -ᶠ tau *ᶠ turned_entry f (leaving_at s p v) (head_at b k)) (basic_cost f b (λ i. get s.reduced (row_variable f i)) (get s.reduced) is h.reduced k m)
    ∙ ap (λ z. zero_f -ᶠ tau *ᶠ z) (turned_basic f b s p v k h l m ∙ toward_zero v.side (unit p k) (unit_other p k (λ e. n (sym e))))
    ∙ by_ring_f (tau ∷ []) (t0 ⊕ ⊖ (var 0 ⊗ t0)) t0 refl

becomes_zero : (f : Form) (b : Basis) (s : Fresh) (p : ℕ) (v : Violation) (q : ℕ) → IsEntering f b (leaving_at s p v) q → reduced_behind f s p v (ratio f (leaving_at s p v) q) q ≡ zero_f
becomes_zero f b s p v q e =
    ap (λ z. get s.reduced q -ᶠ z) (div_mul_f (get s.reduced q) (turned_entry f (leaving_at s p v) q) (turned_not_zero f b (leaving_at s p v) q e.candidate))
    ∙ by_ring_f (get s.reduced q ∷ []) (var 0 ⊕ ⊖ (var 0)) t0 refl

costs_behind : (f : Form) (b : Basis) (s : Fresh) (p : ℕ) (v : Violation) (q : ℕ) → IsBasis f b → IsFresh f b s → p < f.rows → IsEntering f b (leaving_at s p v) q → AreReducedCosts f (basis_after b (step_of f b s p v q)) (multiplier_behind f s p v (ratio f (leaving_at s p v) q)) (reduced_behind f s p v (ratio f (leaving_at s p v) q))
costs_behind f b s p v q is h l e = record { basic = basic; reduced = λ u m. behind_is f b s p v tau u h m }
  where
    tau : Fraction
    tau = ratio f (leaving_at s p v) q

    t : Step
    t = step_of f b s p v q

    zero_gives : (u : ℕ) → u < variables f → reduced_behind f s p v tau u ≡ zero_f → dot f.rows (multiplier_behind f s p v tau) (coefficient f u) ≡ cost_of f u
    zero_gives u m k = sym (sub_zero_f (cost_of f u) (dot f.rows (multiplier_behind f s p v tau) (coefficient f u)) (sym (behind_is f b s p v tau u h m) ∙ k))

    basic : (k : ℕ) → k < f.rows → dot f.rows (multiplier_behind f s p v tau) (coefficient f (head_at (basis_after b t) k)) ≡ cost_of f (head_at (basis_after b t) k)
    basic k m = ⊎_elim
        (λ (i : k ≡ p). subst (λ w. dot f.rows (multiplier_behind f s p v tau) (coefficient f w) ≡ cost_of f w) (sym (ap (head_at (basis_after b t)) i ∙ head_there f b t is l)) (zero_gives q e.within (becomes_zero f b s p v q e)))
        (λ (n : ¬ (k ≡ p)). subst (λ w. dot f.rows (multiplier_behind f s p v tau) (coefficient f w) ≡ cost_of f w) (sym (head_elsewhere b t k n)) (zero_gives (head_at b k) (is.within k m) (stays_zero f b s p v tau k is h l m n)))
        (cases_eq k p)

-- ---- signs
not_above : (p q : Fraction) → p ≤ᶠ q → (p -ᶠ q) ≤ᶠ zero_f
not_above p q h = le_by (p -ᶠ q) zero_f (q -ᶠ p) (gap_of p q h) (by_ring_f (p ∷ q ∷ []) t0 ((var 0 ⊕ ⊖ (var 1)) ⊕ (var 1 ⊕ ⊖ (var 0))) refl)

other_not_zero : (a : Fraction) → zero_f <ᶠ a → ¬ (a ≡ zero_f)
other_not_zero a h e = lt_irrefl_f zero_f (subst (λ z. zero_f <ᶠ z) e h)

below_not_zero : (a : Fraction) → a <ᶠ zero_f → ¬ (a ≡ zero_f)
below_not_zero a h e = lt_irrefl_f zero_f (subst (λ z. z <ᶠ zero_f) e h)

-- a candidate's ratio isn't below 0
pub ratio_nonneg : (s : Stand) (d a : Fraction) → may_enter s a ≡ true → IsSignedFor s d → zero_f ≤ᶠ (d /ᶠ a)
ratio_nonneg Basic d a e h = absurd (true≢false (sym e))
ratio_nonneg Lower d a e h = mul_nonneg_f d (inv_f a) h (lt_le_f zero_f (inv_f a) (inv_above_f a ((is_below_iff zero_f a).0 e)))
ratio_nonneg Upper d a e h = subst (λ z. zero_f ≤ᶠ z) (by_ring_f (d ∷ inv_f a ∷ []) (⊖ (var 0) ⊗ ⊖ (var 1)) (var 0 ⊗ var 1) refl)
    (mul_nonneg_f (neg_f d) (neg_f (inv_f a)) (neg_nonneg_f d h) (neg_nonneg_f (inv_f a) (lt_le_f (inv_f a) zero_f (inv_below_f a ((is_below_iff a zero_f).0 e)))))
ratio_nonneg Zero d a e h = subst (λ z. zero_f ≤ᶠ z) (sym (ap (λ z. z /ᶠ a) h ∙ nil_mul_f (inv_f a))) (le_refl_f zero_f)

flip_signed : (s : Stand) (d a tau : Fraction) → may_enter s a ≡ true → ¬ (s ≡ Zero) → (d /ᶠ a) ≤ᶠ tau → IsSignedFor (flipped s) (d -ᶠ tau *ᶠ a)
flip_signed Basic d a tau e n h = tt
flip_signed Lower d a tau e n h =
    let k : zero_f <ᶠ a = (is_below_iff zero_f a).0 e in
    not_above d (tau *ᶠ a) (subst (λ z. z ≤ᶠ (tau *ᶠ a)) (div_mul_f d a (other_not_zero a k)) (mul_le_f (d /ᶠ a) tau a (lt_le_f zero_f a k) h))
flip_signed Upper d a tau e n h =
    let k : a <ᶠ zero_f = (is_below_iff a zero_f).0 e in
    gap_of (tau *ᶠ a) d (subst (λ z. (tau *ᶠ a) ≤ᶠ z) (div_mul_f d a (below_not_zero a k)) (mul_le_neg_f (d /ᶠ a) tau a (lt_le_f a zero_f k) h))
flip_signed Zero d a tau e n h = absurd (n refl)

tau_times_nonpos : (tau a : Fraction) → zero_f ≤ᶠ tau → a ≤ᶠ zero_f → (tau *ᶠ a) ≤ᶠ zero_f
tau_times_nonpos tau a h k = subst (λ z. z ≤ᶠ zero_f) (by_ring_f (tau ∷ a ∷ []) (⊖ (var 0 ⊗ ⊖ (var 1))) (var 0 ⊗ var 1) refl) (neg_nonpos_f (tau *ᶠ neg_f a) (mul_nonneg_f tau (neg_f a) h (neg_nonneg_f a k)))

stay_signed : (s : Stand) (d a tau : Fraction) → zero_f ≤ᶠ tau → (may_enter s a ≡ true → tau ≤ᶠ (d /ᶠ a)) → IsSignedFor s d → IsSignedFor s (d -ᶠ tau *ᶠ a)
stay_signed Basic d a tau h k g = tt
stay_signed Lower d a tau h k g = ⊎_elim
    (λ (l : zero_f <ᶠ a). gap_of (tau *ᶠ a) d (subst (λ z. (tau *ᶠ a) ≤ᶠ z) (div_mul_f d a (other_not_zero a l)) (mul_le_f tau (d /ᶠ a) a (lt_le_f zero_f a l) (k ((is_below_iff zero_f a).1 l)))))
    (λ (l : a ≤ᶠ zero_f). gap_of (tau *ᶠ a) d (le_trans_f (tau *ᶠ a) zero_f d (tau_times_nonpos tau a h l) g))
    (lt_or_le_f zero_f a)
stay_signed Upper d a tau h k g = ⊎_elim
    (λ (l : a <ᶠ zero_f). not_above d (tau *ᶠ a) (subst (λ z. z ≤ᶠ (tau *ᶠ a)) (div_mul_f d a (below_not_zero a l)) (mul_le_neg_f tau (d /ᶠ a) a (lt_le_f a zero_f l) (k ((is_below_iff a zero_f).1 l)))))
    (λ (l : zero_f ≤ᶠ a). not_above d (tau *ᶠ a) (le_trans_f d zero_f (tau *ᶠ a) g (mul_nonneg_f tau a h l)))
    (lt_or_le_f a zero_f)
stay_signed Zero d a tau h k g = ⊎_elim
    (λ (e : a ≡ zero_f). ap (λ z. z -ᶠ tau *ᶠ a) g ∙ ap (λ z. zero_f -ᶠ tau *ᶠ z) e ∙ by_ring_f (tau ∷ []) (t0 ⊕ ⊖ (var 0 ⊗ t0)) t0 refl)
    (λ (n : ¬ (a ≡ zero_f)).
    let most : tau ≤ᶠ zero_f = subst (λ z. tau ≤ᶠ z) (ap (λ z. z /ᶠ a) g ∙ nil_mul_f (inv_f a)) (k (enters a n)) in
    ap (λ z. z -ᶠ tau *ᶠ a) g ∙ ap (λ z. zero_f -ᶠ z *ᶠ a) (le_antisymm_f tau zero_f most h) ∙ by_ring_f (a ∷ []) (t0 ⊕ ⊖ (t0 ⊗ var 0)) t0 refl)
    (zero_or_not a)
  where
    enters : (c : Fraction) → ¬ (c ≡ zero_f) → may_enter Zero c ≡ true
    enters c n = ap not ((not_zero_iff c).1 n)

-- ---- the order of ratios
picked : (a b c : Bool) → (if a then true else if b then false else c) ≡ true → (a ≡ true) ⊎ (b ≡ false)
picked true b c e = inl refl
picked false true c e = absurd (true≢false (sym e))
picked false false c e = inr refl

pub before_ratio : (f : Form) (l : Leaving) (j k : ℕ) → walks_before f l j k ≡ true → ratio f l j ≤ᶠ ratio f l k
before_ratio f l j k e = ⊎_elim
    (λ (i : is_below (ratio f l j) (ratio f l k) ≡ true). lt_le_f (ratio f l j) (ratio f l k) ((is_below_iff (ratio f l j) (ratio f l k)).0 i))
    (λ (i : is_below (ratio f l k) (ratio f l j) ≡ false). (not_below_iff (ratio f l k) (ratio f l j)).0 i)
    (picked (is_below (ratio f l j) (ratio f l k)) (is_below (ratio f l k) (ratio f l j)) _ e)

not_fixed : (c : Bool) → ¬ (c ≡ true) → c ≡ false
not_fixed true n = absurd (n refl)
not_fixed false n = refl

-- ---- dual feasible
abbrev pub SignedAt : Form → Basis → Fresh → Type 0
SignedAt f b s = (u : ℕ) → u < variables f → ¬ IsFixed (limits f u) → IsSignedFor (stand_at b u) (get s.reduced u)

pub signed_at : (f : Form) (b : Basis) (s : Fresh) → IsFresh f b s → IsDualFeasible f b → SignedAt f b s
signed_at f b s h dual u l n = subst (IsSignedFor (stand_at b u)) (reduced_only f b dual.y dual.d (λ i. get s.reduced (row_variable f i)) (get s.reduced) (fresh_regular f b s h) dual.costs h.reduced u l) (dual.signed u l n)

candidate_not_fixed : (f : Form) (b : Basis) (l : Leaving) (u : ℕ) → is_candidate f b l u ≡ true → ¬ IsFixed (limits f u)
candidate_not_fixed f b l u e x = true≢false (sym ((fixed_iff (limits f u)).1 x) ∙ (candidate_parts f b l u e).0)

pub tau_nonneg : (f : Form) (b : Basis) (s : Fresh) (p : ℕ) (v : Violation) (q : ℕ) → SignedAt f b s → IsEntering f b (leaving_at s p v) q → zero_f ≤ᶠ ratio f (leaving_at s p v) q
tau_nonneg f b s p v q g e =
    ratio_nonneg (stand_at b q) (get s.reduced q) (turned_entry f (leaving_at s p v) q) (candidate_parts f b (leaving_at s p v) q e.candidate).1
    (g q e.within (candidate_not_fixed f b (leaving_at s p v) q e.candidate))

-- the leaving variable
pub leaving_behind : (f : Form) (b : Basis) (s : Fresh) (p : ℕ) (v : Violation) (tau : Fraction) → IsBasis f b → IsFresh f b s → p < f.rows → reduced_behind f s p v tau (head_at b p) ≡ neg_f (toward v.side tau)
leaving_behind f b s p v tau is h l =
    ap (λ z. z -ᶠ tau *ᶠ turned_entry f (leaving_at s p v) (head_at b p)) (basic_cost f b (λ i. get s.reduced (row_variable f i)) (get s.reduced) is h.reduced p l)
    ∙ ap (λ z. zero_f -ᶠ tau *ᶠ z) (turned_basic f b s p v p h l l ∙ ap (toward v.side) (unit_same p))
    ∙ go v.side
  where
    go : (side : Side) → zero_f -ᶠ tau *ᶠ toward side (of_int (pos 1)) ≡ neg_f (toward side tau)
    go Above = by_ring_f (tau ∷ []) (t0 ⊕ ⊖ (var 0 ⊗ t1)) (⊖ (var 0)) refl
    go Below = by_ring_f (tau ∷ []) (t0 ⊕ ⊖ (var 0 ⊗ ⊖ t1)) (⊖ (⊖ (var 0))) refl

leaving_signed : (side : Side) (tau : Fraction) → zero_f ≤ᶠ tau → IsSignedFor (stand_on side) (neg_f (toward side tau))
leaving_signed Above tau h = neg_nonpos_f tau h
leaving_signed Below tau h = subst (λ z. zero_f ≤ᶠ z) (by_ring_f (tau ∷ []) (var 0) (⊖ (⊖ (var 0))) refl) h

stands_zero : (l : Bounds) (s : Stand) (value w : Fraction) → StandsAt l s value → IsWidth l w → ¬ (s ≡ Zero)
stands_zero l s value w h k e = let z = subst (λ t. StandsAt l t value) e h in none-some k.0 (sym z.0 ∙ k.2)

signed_behind : (f : Form) (b : Basis) (s : Fresh) (p : ℕ) (v : Violation) (q : ℕ) → IsBasis f b → IsFresh f b s → p < f.rows → SignedAt f b s → IsEntering f b (leaving_at s p v) q → (u : ℕ) → u < variables f → ¬ IsFixed (limits f u) → IsSignedFor (stand_after b (step_of f b s p v q) u) (reduced_behind f s p v (ratio f (leaving_at s p v) q) u)
signed_behind f b s p v q is h l g e u m n =
    let way : Leaving = leaving_at s p v in
    let tau : Fraction = ratio f way q in
    let a : Fraction = turned_entry f way u in
    by_role b (step_of f b s p v q) u (λ st. IsSignedFor st (reduced_behind f s p v tau u))
    (λ i. tt)
    (λ i j. subst (IsSignedFor (stand_on v.side)) (sym (leaving_behind f b s p v tau is h l) ∙ ap (reduced_behind f s p v tau) (sym j)) (leaving_signed v.side tau (tau_nonneg f b s p v q g e)))
    (λ i j k. let c = flips_has f b way q u k in
    let w = passed_boxed f b way u (e.first u c.0 c.1 c.2) in
    let at = is.stands u m in
    flip_signed (stand_at b u) (get s.reduced u) a tau (candidate_parts f b way u c.1).1 (stands_zero (limits f u) (stand_at b u) at.0 w.0 at.1 (width_is (limits f u) w.0 w.1)) (before_ratio f way u q c.2))
    (λ i j k. stay_signed (stand_at b u) (get s.reduced u) a tau (tau_nonneg f b s p v q g e)
    (λ c. let one : is_candidate f b way u ≡ true = cond-false (is_fixed (limits f u)) false (may_enter (stand_at b u) a) (not_fixed (is_fixed (limits f u)) (λ x. n ((fixed_iff (limits f u)).0 x))) ∙ c in
    ⊎_elim
    (λ (o : walks_before f way q u ≡ true). before_ratio f way q u o)
    (λ (o : walks_before f way u q ≡ true). absurd (k (has_filter (λ z. walks_before f way z q) _ u (has_walk f b way u (m, one)) o)))
    (walk_either f way q u (λ x. i (sym x))))
    (g u m n))

pub feasible_behind : (f : Form) (b : Basis) (s : Fresh) (p : ℕ) (v : Violation) (q : ℕ) → IsBasis f b → IsFresh f b s → p < f.rows → SignedAt f b s → IsEntering f b (leaving_at s p v) q → IsDualFeasible f (basis_after b (step_of f b s p v q))
feasible_behind f b s p v q is h l g e = record {
  y = multiplier_behind f s p v (ratio f (leaving_at s p v) q);
  d = reduced_behind f s p v (ratio f (leaving_at s p v) q);
  costs = costs_behind f b s p v q is h l e;
  signed = λ u m n. subst (λ st. IsSignedFor st (reduced_behind f s p v (ratio f (leaving_at s p v) q) u)) (sym (stand_there f b (step_of f b s p v q) u is m)) (signed_behind f b s p v q is h l g e u m n);
}

-- ---- of a step
pub step_keeps_feasible : (f : Form) (b : Basis) (s : Fresh) (p : ℕ) (v : Violation) (t : Step) → TakesStep f b s p v t → IsDualFeasible f b → IsDualFeasible f (basis_after b t)
step_keeps_feasible f b s p v t h dual = of_step f b s p v t (λ (z : Step). IsDualFeasible f (basis_after b z)) h (λ q e. feasible_behind f b s p v q h.basis h.fresh h.place (signed_at f b s h.fresh dual) e)

pub step_length : (f : Form) (b : Basis) (s : Fresh) (p : ℕ) (v : Violation) (t : Step) → TakesStep f b s p v t → IsDualFeasible f b → zero_f ≤ᶠ t.tau
step_length f b s p v t h dual = of_step f b s p v t (λ (z : Step). zero_f ≤ᶠ z.tau) h (λ q e. tau_nonneg f b s p v q (signed_at f b s h.fresh dual) e)

pub step_reduced : (f : Form) (b : Basis) (s : Fresh) (p : ℕ) (v : Violation) (t : Step) (r : Fresh) (u : ℕ) → TakesStep f b s p v t → IsFresh f (basis_after b t) r → u < variables f → get r.reduced u ≡ reduced_behind f s p v t.tau u
step_reduced f b s p v t r u h k l = of_step f b s p v t (λ (z : Step). IsFresh f (basis_after b z) r → get r.reduced u ≡ reduced_behind f s p v z.tau u) h
    (λ q e i. reduced_only f (basis_after b (step_of f b s p v q)) (λ j. get r.reduced (row_variable f j)) (get r.reduced)
    (multiplier_behind f s p v (ratio f (leaving_at s p v) q)) (reduced_behind f s p v (ratio f (leaving_at s p v) q))
    (fresh_regular f (basis_after b (step_of f b s p v q)) r i) i.reduced (costs_behind f b s p v q h.basis h.fresh h.place e) u l)
    k

pub step_leaving : (f : Form) (b : Basis) (s : Fresh) (p : ℕ) (v : Violation) (t : Step) (r : Fresh) → TakesStep f b s p v t → IsFresh f (basis_after b t) r → get r.reduced (head_at b p) ≡ neg_f (toward v.side t.tau)
step_leaving f b s p v t r h k = step_reduced f b s p v t r (head_at b p) h k (h.basis.within p h.place) ∙ leaving_behind f b s p v t.tau h.basis h.fresh h.place

pub step_entering : (f : Form) (b : Basis) (s : Fresh) (p : ℕ) (v : Violation) (t : Step) (r : Fresh) → TakesStep f b s p v t → IsFresh f (basis_after b t) r → get r.reduced t.entering ≡ zero_f
step_entering f b s p v t r h k = of_step f b s p v t (λ (z : Step). IsFresh f (basis_after b z) r → get r.reduced z.entering ≡ zero_f) h
    (λ q e i. step_reduced f b s p v (step_of f b s p v q) r q (record { basis = h.basis; fresh = h.fresh; place = h.place; outside = h.outside; taken = takes_again f b s p v q e }) i e.within ∙ becomes_zero f b s p v q e)
    k
