-- The cost of one column moved: reduced costs behind the move, and with which costs the basis stays dual feasible.
use Rattle.std.proofs.Common.{◌≡◌, ◌↔◌, ℕ, ◌<◌, ⊎_elim, Bool, true, false, if◌then◌else◌, length, [], ◌∷◌, refl, sym, ap, ◌∙◌, subst, arith, true≢false, nat_lt}
use Rattle.std.proofs.lemmas.Bool.{cases_eq}
use Rattle.std.proofs.lemmas.List.{get_or-set_same, get_or-set_other}
use Rattle.pami_algebra.specs.Fraction.{Fraction}
use Rattle.pami_algebra.specs.Ring.{var, t0, t1, ◌⊕◌, ◌⊗◌, ⊖}
use Rattle.pami_algebra.specs.Operations.{◌+ᶠ◌, ◌-ᶠ◌, ◌*ᶠ◌, neg_f, of_int}
use Rattle.pami_algebra.proofs.Laws.{by_ring_f, add_nil_f}
use Rattle.pami_algebra.proofs.Field.{one_mul_f, neg_neg_f}
use Rattle.pami_linear.specs.Lists.{get}
use Rattle.pami_linear.specs.Sums.{dot, unit}
use Rattle.pami_linear.proofs.Sums.{dot_add, dot_scale, unit_same, unit_other}
use lib.IntN.{pos}
use Rattle.pami_theory.specs.Form.{Form, variables, limits, row_variable, coefficient, cost, cost_of, IsWithin, zero_f}
use Rattle.pami_frac.specs.declared.list.Bounds.{Bounds}
use Rattle.pami_theory.specs.Basis.{Basis, head_at, stand_at, IsBasis, IsRegularBasis}
use Rattle.pami_theory.specs.declared.words.Stand.{Stand}
use Rattle.pami_theory.specs.declared.words.Stand.TheVariants.{Basic}
use Rattle.pami_theory.specs.Fresh.{AreReducedCosts, IsFixed, IsSignedFor, IsDualFeasible, Fresh, row_at, IsFresh}
use Rattle.pami_theory.specs.Violation.{is_fixed}
use Rattle.pami_theory.specs.Ratio.{row_entry}
use Rattle.pami_theory.proofs.Forms.{cost_of_column}
use Rattle.pami_theory.proofs.Certificates.{basic_or_not}
use Rattle.pami_theory.proofs.Solved.{reduced_only, fresh_regular, basic_entry}
use Rattle.pami_theory.proofs.Violations.{fixed_iff}
use Rattle.pami_theory.proofs.NextCosts.{SignedAt, signed_at}
use Rattle.pami_ranging.specs.Ranges.{with_cost, KeepsDualFeasible, IsReadyForCosts}
use Rattle.pami_ranging.specs.Intervals.{all_to, limits_of_variable, basic_cost_interval, cost_interval_by, nonbasic_cost_interval, negated}
use Rattle.pami_ranging.proofs.Ends.{all_within, within_all, within_moved, within_negated}
use Rattle.pami_ranging.proofs.Quotients.{limits_if, limits_only, own_kept}

-- ---- costs behind the move
abbrev pub by_move : Form → ℕ → Fraction → Fraction
by_move f j c = c -ᶠ cost f j

own_cost : (f : Form) (j : ℕ) (c : Fraction) → length f.costs ≡ f.columns → j < f.columns → cost_of (with_cost f j c) j ≡ cost_of f j +ᶠ unit j j *ᶠ by_move f j c
own_cost f j c e l =
    cost_of_column (with_cost f j c) j l
    ∙ get_or-set_same f.costs j c zero_f (omega (arith, e, l))
    ∙ by_ring_f (c ∷ cost f j ∷ []) (var 0) (var 1 ⊕ t1 ⊗ (var 0 ⊕ ⊖ (var 1))) refl
    ∙ ap (λ z. z +ᶠ t *ᶠ by_move f j c) (sym (cost_of_column f j l))
    ∙ ap (λ z. cost_of f j +ᶠ z *ᶠ by_move f j c) (sym (unit_same j))
  where
    t : Fraction
    t = of_int (pos 1)

other_cost : (f : Form) (j u : ℕ) (c : Fraction) → ¬ (u ≡ j) → cost_of (with_cost f j c) u ≡ cost_of f u +ᶠ unit j u *ᶠ by_move f j c
other_cost f j u c n =
    ap (λ z. if nat_lt u f.columns then z else zero_f) (get_or-set_other f.costs j u c zero_f n)
    ∙ by_ring_f (cost_of f u ∷ by_move f j c ∷ []) (var 0) (var 0 ⊕ t0 ⊗ var 1) refl
    ∙ ap (λ z. cost_of f u +ᶠ z *ᶠ by_move f j c) (sym (unit_other j u (λ e. n (sym e))))

pub moved_cost : (f : Form) (j u : ℕ) (c : Fraction) → length f.costs ≡ f.columns → j < f.columns → cost_of (with_cost f j c) u ≡ cost_of f u +ᶠ unit j u *ᶠ by_move f j c
moved_cost f j u c e l = ⊎_elim
    (λ (i : u ≡ j). subst (λ w. cost_of (with_cost f j c) w ≡ cost_of f w +ᶠ unit j w *ᶠ by_move f j c) (sym i) (own_cost f j c e l))
    (λ (n : ¬ (u ≡ j)). other_cost f j u c n)
    (cases_eq u j)

-- ---- the reduced costs of a basis, by its multipliers
abbrev pub multipliers : Form → Fresh → ℕ → Fraction
multipliers f s i = get s.reduced (row_variable f i)

abbrev priced : Form → (ℕ → Fraction) → ℕ → Fraction
priced f y u = cost_of f u -ᶠ dot f.rows y (coefficient f u)

-- a basis is dual feasible exactly where the reduced costs by its multipliers have their signs
pub feasible_by : (f : Form) (b : Basis) (y d : ℕ → Fraction) → IsRegularBasis f b → AreReducedCosts f b y d → IsDualFeasible f b ↔ ((u : ℕ) → u < variables f → ¬ IsFixed (limits f u) → IsSignedFor (stand_at b u) (d u))
feasible_by f b y d r h = (
  λ k u l n. subst (IsSignedFor (stand_at b u)) (reduced_only f b k.y k.d y d r k.costs h u l) (k.signed u l n),
  λ k. record { y = y; d = d; costs = h; signed = k },
)

-- ---- of a nonbasic column
nonbasic_costs : (f : Form) (b : Basis) (s : Fresh) (j : ℕ) (c : Fraction) → IsBasis f b → IsFresh f b s → length f.costs ≡ f.columns → j < f.columns → ¬ (stand_at b j ≡ Basic) →
    AreReducedCosts (with_cost f j c) b (multipliers f s) (λ u. get s.reduced u +ᶠ unit j u *ᶠ by_move f j c)
nonbasic_costs f b s j c is h e l n = record {
  basic = λ p m. h.reduced.basic p m
      ∙ by_ring_f (cost_of f (head_at b p) ∷ by_move f j c ∷ []) (var 0) (var 0 ⊕ t0 ⊗ var 1) refl
      ∙ ap (λ z. cost_of f (head_at b p) +ᶠ z *ᶠ by_move f j c) (sym (unit_other j (head_at b p) (λ i. n (ap (stand_at b) i ∙ is.basic p m))))
      ∙ sym (moved_cost f j (head_at b p) c e l);
  reduced = λ u m. ap (λ z. z +ᶠ unit j u *ᶠ by_move f j c) (h.reduced.reduced u m)
      ∙ by_ring_f (cost_of f u ∷ dot f.rows (multipliers f s) (coefficient f u) ∷ (unit j u *ᶠ by_move f j c) ∷ []) ((var 0 ⊕ ⊖ (var 1)) ⊕ var 2) ((var 0 ⊕ var 2) ⊕ ⊖ (var 1)) refl
      ∙ ap (λ z. z -ᶠ dot f.rows (multipliers f s) (coefficient f u)) (sym (moved_cost f j u c e l));
}

at_own : (j : ℕ) (d t : Fraction) → d +ᶠ unit j j *ᶠ t ≡ d +ᶠ t
at_own j d t = ap (λ z. d +ᶠ z *ᶠ t) (unit_same j) ∙ ap (λ z. d +ᶠ z) (one_mul_f t)

at_other : (j u : ℕ) (d t : Fraction) → ¬ (u ≡ j) → d +ᶠ unit j u *ᶠ t ≡ d
at_other j u d t n = ap (λ z. d +ᶠ z *ᶠ t) (unit_other j u (λ e. n (sym e))) ∙ by_ring_f (d ∷ t ∷ []) (var 0 ⊕ t0 ⊗ var 1) (var 0) refl

own_within : (fixed : Bool) (s : Stand) (c d e : Fraction) → ¬ (s ≡ Basic) → (fixed ≡ false → IsSignedFor s d) → (fixed ≡ false → IsSignedFor s (d +ᶠ (e -ᶠ c))) → IsWithin (cost_interval_by fixed s c d) e
own_within true s c d e n g h = all_within e
own_within false s c d e n g h = (own_kept s c d e n (g refl)).0 (h refl)

own_only : (fixed : Bool) (s : Stand) (c d e : Fraction) → ¬ (s ≡ Basic) → fixed ≡ false → IsSignedFor s d → IsWithin (cost_interval_by fixed s c d) e → IsSignedFor s (d +ᶠ (e -ᶠ c))
own_only true s c d e n i g h = absurd (cc)
own_only false s c d e n i g h = (own_kept s c d e n g).1 h

free_of : (f : Form) (u : ℕ) → is_fixed (limits f u) ≡ false → ¬ IsFixed (limits f u)
free_of f u e x = true≢false (sym ((fixed_iff (limits f u)).1 x) ∙ e)

not_true : (c : Bool) → ¬ (c ≡ true) → c ≡ false
not_true true n = absurd (n refl)
not_true false n = refl

unfixed : (f : Form) (u : ℕ) → ¬ IsFixed (limits f u) → is_fixed (limits f u) ≡ false
unfixed f u n = not_true (is_fixed (limits f u)) (λ e. n ((fixed_iff (limits f u)).0 e))

pub nonbasic_cost_range : (f : Form) (b : Basis) (s : Fresh) (j : ℕ) (c : Fraction) → IsReadyForCosts f b s → j < f.columns → ¬ (stand_at b j ≡ Basic) → KeepsDualFeasible f b j c ↔ IsWithin (nonbasic_cost_interval f b s j) c
nonbasic_cost_range f b s j c r l n =
    let d : ℕ → Fraction = λ u. get s.reduced u +ᶠ unit j u *ᶠ by_move f j c in
    let by = feasible_by (with_cost f j c) b (multipliers f s) d (fresh_regular f b s r.fresh) (nonbasic_costs f b s j c r.basis r.fresh r.costs_by_column l n) in
    let old : SignedAt f b s = signed_at f b s r.fresh r.feasible in
    let m : j < variables f = omega arith in (
      λ h. own_within (is_fixed (limits f j)) (stand_at b j) (cost f j) (get s.reduced j) c n (λ e. old j m (free_of f j e))
          (λ e. subst (IsSignedFor (stand_at b j)) (at_own j (get s.reduced j) (by_move f j c)) (by.0 h j m (free_of f j e))),
      λ h. by.1 (λ u k x. ⊎_elim
          (λ (i : u ≡ j). subst (λ w. ¬ IsFixed (limits f w) → IsSignedFor (stand_at b w) (d w)) (sym i)
          (λ y. subst (IsSignedFor (stand_at b j)) (sym (at_own j (get s.reduced j) (by_move f j c))) (own_only (is_fixed (limits f j)) (stand_at b j) (cost f j) (get s.reduced j) c n (unfixed f j y) (old j m y) h)) x)
          (λ (i : ¬ (u ≡ j)). subst (IsSignedFor (stand_at b u)) (sym (at_other j u (get s.reduced u) (by_move f j c) i)) (old u k x))
          (cases_eq u j)),
    )

-- ---- of a basic column
abbrev moved_multipliers : Form → Fresh → ℕ → Fraction → ℕ → Fraction
moved_multipliers f s p t i = multipliers f s i +ᶠ t *ᶠ get (row_at s p) i

moved_against : (f : Form) (s : Fresh) (p u : ℕ) (t : Fraction) → dot f.rows (moved_multipliers f s p t) (coefficient f u) ≡ dot f.rows (multipliers f s) (coefficient f u) +ᶠ t *ᶠ row_entry f (row_at s p) u
moved_against f s p u t =
    dot_add f.rows (multipliers f s) (λ i. t *ᶠ get (row_at s p) i) (coefficient f u)
    ∙ ap (λ z. dot f.rows (multipliers f s) (coefficient f u) +ᶠ z) (dot_scale f.rows t (get (row_at s p)) (coefficient f u))

same_unit : (f : Form) (b : Basis) (p q : ℕ) → IsBasis f b → p < f.rows → q < f.rows → unit p q ≡ unit (head_at b p) (head_at b q)
same_unit f b p q is l m = ⊎_elim
    (λ (e : p ≡ q). subst (λ w. unit p w ≡ unit (head_at b p) (head_at b w)) e (unit_same p ∙ sym (unit_same (head_at b p))))
    (λ (n : ¬ (p ≡ q)). unit_other p q n ∙ sym (unit_other (head_at b p) (head_at b q) (λ e. n (is.distinct p q l m e))))
    (cases_eq p q)

basic_costs : (f : Form) (b : Basis) (s : Fresh) (p : ℕ) (c : Fraction) → IsBasis f b → IsFresh f b s → length f.costs ≡ f.columns → p < f.rows → head_at b p < f.columns →
    AreReducedCosts (with_cost f (head_at b p) c) b (moved_multipliers f s p (by_move f (head_at b p) c)) (priced (with_cost f (head_at b p) c) (moved_multipliers f s p (by_move f (head_at b p) c)))
basic_costs f b s p c is h e l m = record {
  basic = λ q k. let t : Fraction = by_move f (head_at b p) c in
      moved_against f s p (head_at b q) t
      ∙ ap (λ z. z +ᶠ t *ᶠ row_entry f (row_at s p) (head_at b q)) (h.reduced.basic q k)
      ∙ ap (λ z. cost_of f (head_at b q) +ᶠ t *ᶠ z) (basic_entry f b s p q h l k ∙ same_unit f b p q is l k)
      ∙ by_ring_f (cost_of f (head_at b q) ∷ t ∷ unit (head_at b p) (head_at b q) ∷ []) (var 0 ⊕ var 1 ⊗ var 2) (var 0 ⊕ var 2 ⊗ var 1) refl
      ∙ sym (moved_cost f (head_at b p) (head_at b q) c e m);
  reduced = λ u k. refl;
}

-- a nonbasic variable's reduced cost falls by the change times its entry of the row
basic_moves : (f : Form) (b : Basis) (s : Fresh) (p u : ℕ) (c : Fraction) → IsBasis f b → IsFresh f b s → length f.costs ≡ f.columns → p < f.rows → head_at b p < f.columns → u < variables f → ¬ (stand_at b u ≡ Basic) →
    priced (with_cost f (head_at b p) c) (moved_multipliers f s p (by_move f (head_at b p) c)) u ≡ get s.reduced u -ᶠ by_move f (head_at b p) c *ᶠ row_entry f (row_at s p) u
basic_moves f b s p u c is h e l m k n =
    let j : ℕ = head_at b p in
    let t : Fraction = by_move f (head_at b p) c in
    let y : Fraction = dot f.rows (multipliers f s) (coefficient f u) in
    let a : Fraction = row_entry f (row_at s p) u in
    ap (λ z. z -ᶠ dot f.rows (moved_multipliers f s p t) (coefficient f u)) (moved_cost f j u c e m ∙ at_other j u (cost_of f u) t (λ i. n (ap (stand_at b) i ∙ is.basic p l)))
    ∙ ap (λ z. cost_of f u -ᶠ z) (moved_against f s p u t)
    ∙ by_ring_f (cost_of f u ∷ y ∷ t ∷ a ∷ []) (var 0 ⊕ ⊖ (var 1 ⊕ var 2 ⊗ var 3)) ((var 0 ⊕ ⊖ (var 1)) ⊕ ⊖ (var 2 ⊗ var 3)) refl
    ∙ ap (λ z. z -ᶠ t *ᶠ a) (sym (h.reduced.reduced u k))

if_nonbasic : (s : Stand) (d e : Fraction) → (¬ (s ≡ Basic) → d ≡ e) → IsSignedFor s d → IsSignedFor s e
if_nonbasic s d e h g = ⊎_elim
    (λ (i : s ≡ Basic). subst (λ z. IsSignedFor z e) (sym i) tt)
    (λ (n : ¬ (s ≡ Basic)). subst (IsSignedFor s) (h n) g)
    (basic_or_not s)

pub basic_cost_range : (f : Form) (b : Basis) (s : Fresh) (p : ℕ) (c : Fraction) → IsReadyForCosts f b s → p < f.rows → head_at b p < f.columns → KeepsDualFeasible f b (head_at b p) c ↔ IsWithin (basic_cost_interval f b s p) c
basic_cost_range f b s p c r l m =
    let j : ℕ = head_at b p in
    let t : Fraction = by_move f (head_at b p) c in
    let d : ℕ → Fraction = priced (with_cost f (head_at b p) c) (moved_multipliers f s p (by_move f (head_at b p) c)) in
    let way : ℕ → Bounds = limits_of_variable f b s p in
    let by = feasible_by (with_cost f (head_at b p) c) b (moved_multipliers f s p (by_move f (head_at b p) c)) d (fresh_regular f b s r.fresh) (basic_costs f b s p c r.basis r.fresh r.costs_by_column l m) in
    let old : SignedAt f b s = signed_at f b s r.fresh r.feasible in
    let there : cost f j +ᶠ t ≡ c = by_ring_f (c ∷ cost f j ∷ []) (var 1 ⊕ (var 0 ⊕ ⊖ (var 1))) (var 0) refl in
    let ends = within_moved (cost f j) t (all_to (variables f) way) in
    let each = within_all (variables f) way t in (
      λ h. subst (IsWithin (basic_cost_interval f b s p)) there (ends.1 (each.1 (λ u k.
          limits_if (is_fixed (limits f u)) (stand_at b u) (get s.reduced u) (row_entry f (row_at s p) u) t
          (λ e. old u k (free_of f u e))
          (λ e. if_nonbasic (stand_at b u) (d u) (get s.reduced u -ᶠ t *ᶠ row_entry f (row_at s p) u) (basic_moves f b s p u c r.basis r.fresh r.costs_by_column l m k) (by.0 h u k (free_of f u e)))))),
      λ h. by.1 (λ u k x. if_nonbasic (stand_at b u) (get s.reduced u -ᶠ t *ᶠ row_entry f (row_at s p) u) (d u) (λ n. sym (basic_moves f b s p u c r.basis r.fresh r.costs_by_column l m k n))
          (limits_only (is_fixed (limits f u)) (stand_at b u) (get s.reduced u) (row_entry f (row_at s p) u) t (unfixed f u x) (old u k x)
          (each.0 (ends.0 (subst (IsWithin (basic_cost_interval f b s p)) (sym there) h)) u k))),
    )

-- ---- of a maximum, and the cost itself
pub negated_range : (P : Fraction → Type 0) (l : Bounds) (m : Fraction) → ((c : Fraction) → P c ↔ IsWithin l c) → P (neg_f m) ↔ IsWithin (negated l) m
negated_range P l m h =
    let back : neg_f (neg_f m) ≡ m = neg_neg_f m in (
      λ k. subst (IsWithin (negated l)) back ((within_negated (neg_f m) l).1 ((h (neg_f m)).0 k)),
      λ k. (h (neg_f m)).1 ((within_negated (neg_f m) l).0 (subst (IsWithin (negated l)) (sym back) k)),
    )

pub nonbasic_maximum_range : (f : Form) (b : Basis) (s : Fresh) (j : ℕ) (m : Fraction) → IsReadyForCosts f b s → j < f.columns → ¬ (stand_at b j ≡ Basic) → KeepsDualFeasible f b j (neg_f m) ↔ IsWithin (negated (nonbasic_cost_interval f b s j)) m
nonbasic_maximum_range f b s j m r l n = negated_range (KeepsDualFeasible f b j) (nonbasic_cost_interval f b s j) m (λ c. nonbasic_cost_range f b s j c r l n)

pub basic_maximum_range : (f : Form) (b : Basis) (s : Fresh) (p : ℕ) (m : Fraction) → IsReadyForCosts f b s → p < f.rows → head_at b p < f.columns → KeepsDualFeasible f b (head_at b p) (neg_f m) ↔ IsWithin (negated (basic_cost_interval f b s p)) m
basic_maximum_range f b s p m r l k = negated_range (KeepsDualFeasible f b (head_at b p)) (basic_cost_interval f b s p) m (λ c. basic_cost_range f b s p c r l k)

zero_move : (s : Stand) (d c : Fraction) → IsSignedFor s d → IsSignedFor s (d +ᶠ (c -ᶠ c))
zero_move s d c g = subst (IsSignedFor s) (by_ring_f (d ∷ c ∷ []) (var 0) (var 0 ⊕ (var 1 ⊕ ⊖ (var 1))) refl) g

pub own_nonbasic_cost : (f : Form) (b : Basis) (s : Fresh) (j : ℕ) → IsReadyForCosts f b s → j < f.columns → ¬ (stand_at b j ≡ Basic) → IsWithin (nonbasic_cost_interval f b s j) (cost f j)
own_nonbasic_cost f b s j r l n =
    let m : j < variables f = omega arith in
    let old : is_fixed (limits f j) ≡ false → IsSignedFor (stand_at b j) (get s.reduced j) = λ e. signed_at f b s r.fresh r.feasible j m (free_of f j e) in
    own_within (is_fixed (limits f j)) (stand_at b j) (cost f j) (get s.reduced j) (cost f j) n old (λ e. zero_move (stand_at b j) (get s.reduced j) (cost f j) (old e))

pub own_basic_cost : (f : Form) (b : Basis) (s : Fresh) (p : ℕ) → IsReadyForCosts f b s → p < f.rows → head_at b p < f.columns → IsWithin (basic_cost_interval f b s p) (cost f (head_at b p))
own_basic_cost f b s p r l m =
    let c : Fraction = cost f (head_at b p) in
    let there : c +ᶠ zero_f ≡ cost f (head_at b p) = add_nil_f (cost f (head_at b p)) in
    subst (IsWithin (basic_cost_interval f b s p)) there ((within_moved c zero_f (all_to (variables f) (limits_of_variable f b s p))).1 ((within_all (variables f) (limits_of_variable f b s p) zero_f).1 (λ u k.
    let old : is_fixed (limits f u) ≡ false → IsSignedFor (stand_at b u) (get s.reduced u) = λ e. signed_at f b s r.fresh r.feasible u k (free_of f u e) in
    limits_if (is_fixed (limits f u)) (stand_at b u) (get s.reduced u) (row_entry f (row_at s p) u) zero_f old
    (λ e. subst (IsSignedFor (stand_at b u)) (by_ring_f (get s.reduced u ∷ row_entry f (row_at s p) u ∷ []) (var 0) (var 0 ⊕ ⊖ (t0 ⊗ var 1)) refl) (old e)))))
