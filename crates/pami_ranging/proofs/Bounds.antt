-- The bound at which one nonbasic variable stands moved: the values behind the move, and with which bounds the basic
-- variables stay within theirs.
use Rattle.std.proofs.Common.{◌≡◌, ◌↔◌, ℕ, ◌<◌, ⊎_elim, length, [], ◌∷◌, refl, sym, ap, ◌∙◌, subst}
use Rattle.std.proofs.lemmas.Bool.{cases_eq}
use Rattle.std.proofs.lemmas.List.{get_or-set_same, get_or-set_other}
use Rattle.pami_algebra.specs.Fraction.{Fraction}
use Rattle.pami_algebra.specs.Ring.{var, t0, t1, ◌⊕◌, ◌⊗◌, ⊖}
use Rattle.pami_algebra.specs.Operations.{◌+ᶠ◌, ◌-ᶠ◌, ◌*ᶠ◌, neg_f}
use Rattle.pami_algebra.proofs.Laws.{by_ring_f, add_nil_f}
use Rattle.pami_linear.specs.Lists.{get}
use Rattle.pami_linear.specs.Sums.{unit}
use Rattle.pami_linear.specs.Systems.{Solves}
use Rattle.pami_linear.proofs.Sums.{sum_same, sum_add, sum_unit, unit_same, unit_other}
use Rattle.pami_linear.proofs.Systems.{solves_same, solves_add}
use Rattle.pami_theory.specs.Form.{Form, variables, limits, coefficient, IsWithin, zero_f}
use Rattle.pami_frac.specs.declared.list.Bounds.{Bounds}
use Rattle.pami_theory.specs.Basis.{Basis, head_at, stand_at, StandsAt, IsBasis, basis_column}
use Rattle.pami_theory.specs.declared.words.Stand.{Stand}
use Rattle.pami_theory.specs.declared.words.Stand.TheVariants.{Basic, Lower, Upper}
use Rattle.pami_theory.specs.Fresh.{AreValues, standing_value, nonbasic_sum, Fresh, column_at, value_at_place}
use Rattle.pami_theory.proofs.Places.{standing, point_solves, spread, spread_basic, spread_values, values_only}
use Rattle.pami_theory.proofs.Solved.{fresh_regular}
use Rattle.pami_ranging.specs.Ranges.{with_stand, with_bound, KeepsPrimalFeasible, IsAtBound, IsReadyForBounds}
use Rattle.pami_ranging.specs.Intervals.{all_to, limits_of_place, bound_interval}
use Rattle.pami_ranging.proofs.Ends.{within_all, within_moved}
use Rattle.pami_ranging.proofs.Quotients.{value_kept}

-- ---- limits behind the move
own_limits : (f : Form) (b : Basis) (v : ℕ) (value : Fraction) → length f.bounds ≡ variables f → v < variables f → limits (with_bound f b v value) v ≡ with_stand (limits f v) (stand_at b v) value
own_limits f b v value e l = get_or-set_same f.bounds v (with_stand (limits f v) (stand_at b v) value) _ (subst (λ n. v < n) (sym e) l)

other_limits : (f : Form) (b : Basis) (v u : ℕ) (value : Fraction) → ¬ (u ≡ v) → limits (with_bound f b v value) u ≡ limits f u
other_limits f b v u value n = get_or-set_other f.bounds v u (with_stand (limits f v) (stand_at b v) value) _ n

stands_moved : (l : Bounds) (s : Stand) (value : Fraction) → IsAtBound s → StandsAt (with_stand l s value) s value
stands_moved l s value h = ⊎_elim
    (λ (e : s ≡ Lower). subst (λ z. StandsAt (with_stand l z value) z value) (sym e) refl)
    (λ (e : s ≡ Upper). subst (λ z. StandsAt (with_stand l z value) z value) (sym e) refl)
    h

value_moved : (l : Bounds) (s : Stand) (value : Fraction) → IsAtBound s → standing_value (with_stand l s value) s ≡ value
value_moved l s value h = ⊎_elim
    (λ (e : s ≡ Lower). subst (λ z. standing_value (with_stand l z value) z ≡ value) (sym e) refl)
    (λ (e : s ≡ Upper). subst (λ z. standing_value (with_stand l z value) z ≡ value) (sym e) refl)
    h

bound_not_basic : (s : Stand) → IsAtBound s → ¬ (s ≡ Basic)
bound_not_basic s h i = ⊎_elim
    (λ (e : s ≡ Lower). lower (sym e ∙ i))
    (λ (e : s ≡ Upper). upper (sym e ∙ i))
    h
  where
    lower : ¬ (Lower ≡ Basic)
    lower e = cc

    upper : ¬ (Upper ≡ Basic)
    upper e = cc

abbrev AtStand : Form → Basis → ℕ → Type 0
AtStand f b u = (value : Fraction) × StandsAt (limits f u) (stand_at b u) value

pub moved_basis : (f : Form) (b : Basis) (v : ℕ) (value : Fraction) → IsBasis f b → length f.bounds ≡ variables f → v < variables f → IsAtBound (stand_at b v) → IsBasis (with_bound f b v value) b
moved_basis f b v value is e l h = record {
  places = is.places;
  variables_stand = is.variables_stand;
  within = is.within;
  distinct = is.distinct;
  basic = is.basic;
  placed = is.placed;
  stands = λ u m. ⊎_elim
      (λ (i : u ≡ v). subst (AtStand (with_bound f b v value) b) (sym i)
      (value, subst (λ z. StandsAt z (stand_at b v) value) (sym (own_limits f b v value e l)) (stands_moved (limits f v) (stand_at b v) value h)))
      (λ (n : ¬ (u ≡ v)). subst (λ z. (w : Fraction) × StandsAt z (stand_at b u) w) (sym (other_limits f b v u value n)) (is.stands u m))
      (cases_eq u v);
}

-- ---- values behind the move
abbrev pub move_of : Form → Basis → ℕ → Fraction → Fraction
move_of f b v value = value -ᶠ standing f b v

standing_moved : (f : Form) (b : Basis) (v u : ℕ) (value : Fraction) → length f.bounds ≡ variables f → v < variables f → IsAtBound (stand_at b v) → standing (with_bound f b v value) b u ≡ standing f b u +ᶠ unit v u *ᶠ move_of f b v value
standing_moved f b v u value e l h = ⊎_elim
    (λ (i : u ≡ v). subst (λ w. standing (with_bound f b v value) b w ≡ standing f b w +ᶠ unit v w *ᶠ move_of f b v value) (sym i)
    (ap (λ z. standing_value z (stand_at b v)) (own_limits f b v value e l)
    ∙ value_moved (limits f v) (stand_at b v) value h
    ∙ by_ring_f (value ∷ standing f b v ∷ []) (var 0) (var 1 ⊕ t1 ⊗ (var 0 ⊕ ⊖ (var 1))) refl
    ∙ ap (λ z. standing f b v +ᶠ z *ᶠ move_of f b v value) (sym (unit_same v))))
    (λ (n : ¬ (u ≡ v)).
    ap (λ z. standing_value z (stand_at b u)) (other_limits f b v u value n)
    ∙ by_ring_f (standing f b u ∷ move_of f b v value ∷ []) (var 0) (var 0 ⊕ t0 ⊗ var 1) refl
    ∙ ap (λ z. standing f b u +ᶠ z *ᶠ move_of f b v value) (sym (unit_other v u (λ i. n (sym i)))))
    (cases_eq u v)

sum_moved : (f : Form) (b : Basis) (v i : ℕ) (value : Fraction) → length f.bounds ≡ variables f → v < variables f → IsAtBound (stand_at b v) → nonbasic_sum (with_bound f b v value) b i ≡ nonbasic_sum f b i +ᶠ move_of f b v value *ᶠ coefficient f v i
sum_moved f b v i value e l h =
    let t : Fraction = move_of f b v value in
    sum_same (variables f) (λ u. coefficient f u i *ᶠ standing (with_bound f b v value) b u) (λ u. coefficient f u i *ᶠ standing f b u +ᶠ unit v u *ᶠ (t *ᶠ coefficient f u i))
    (λ u m. ap (λ z. coefficient f u i *ᶠ z) (standing_moved f b v u value e l h)
    ∙ by_ring_f (coefficient f u i ∷ standing f b u ∷ unit v u ∷ t ∷ []) (var 0 ⊗ (var 1 ⊕ var 2 ⊗ var 3)) (var 0 ⊗ var 1 ⊕ var 2 ⊗ (var 3 ⊗ var 0)) refl)
    ∙ sum_add (variables f) (λ u. coefficient f u i *ᶠ standing f b u) (λ u. unit v u *ᶠ (t *ᶠ coefficient f u i))
    ∙ ap (λ z. nonbasic_sum f b i +ᶠ z) (sum_unit (variables f) v (λ u. t *ᶠ coefficient f u i) l)

-- the values by place: each falls by the move times its member of the variable's column
abbrev pub values_behind : Form → Basis → Fresh → ℕ → Fraction → ℕ → Fraction
values_behind f b s v value k = value_at_place b s k +ᶠ neg_f (move_of f b v value) *ᶠ get (column_at s v) k

behind_solves : (f : Form) (b : Basis) (s : Fresh) (v : ℕ) (value : Fraction) → IsReadyForBounds f b s → v < variables f → IsAtBound (stand_at b v) →
    Solves f.rows (basis_column f b) (values_behind f b s v value) (λ i. neg_f (nonbasic_sum (with_bound f b v value) b i))
behind_solves f b s v value r l h =
    let t : Fraction = move_of f b v value in
    solves_same f.rows (basis_column f b) (basis_column f b) (values_behind f b s v value) (values_behind f b s v value)
    (λ i. neg_f (nonbasic_sum f b i) +ᶠ neg_f t *ᶠ coefficient f v i) (λ i. neg_f (nonbasic_sum (with_bound f b v value) b i))
    (λ k i m n. refl) (λ k m. refl)
    (λ i m. by_ring_f (nonbasic_sum f b i ∷ t ∷ coefficient f v i ∷ []) (⊖ (var 0) ⊕ ⊖ (var 1) ⊗ var 2) (⊖ (var 0 ⊕ var 1 ⊗ var 2)) refl
    ∙ ap neg_f (sym (sum_moved f b v i value r.bounds_by_variable l h)))
    (solves_add f.rows (basis_column f b) (value_at_place b s) (get (column_at s v)) (λ i. neg_f (nonbasic_sum f b i)) (coefficient f v) (neg_f t)
    (point_solves f b (get s.values) r.basis r.fresh.values.nonbasic r.fresh.values.point) (r.fresh.column v l))

-- ---- within the bounds
behind_is : (f : Form) (b : Basis) (s : Fresh) (v k : ℕ) (value : Fraction) → values_behind f b s v value k ≡ value_at_place b s k -ᶠ move_of f b v value *ᶠ get (column_at s v) k
behind_is f b s v k value = by_ring_f (value_at_place b s k ∷ move_of f b v value ∷ get (column_at s v) k ∷ []) (var 0 ⊕ ⊖ (var 1) ⊗ var 2) (var 0 ⊕ ⊖ (var 1 ⊗ var 2)) refl

place_limits : (f : Form) (b : Basis) (v p : ℕ) (value : Fraction) → IsBasis f b → IsAtBound (stand_at b v) → p < f.rows → limits (with_bound f b v value) (head_at b p) ≡ limits f (head_at b p)
place_limits f b v p value is h l = other_limits f b v (head_at b p) value (λ e. bound_not_basic (stand_at b v) h (ap (stand_at b) (sym e) ∙ is.basic p l))

pub feasible_behind : (f : Form) (b : Basis) (s : Fresh) (v : ℕ) (value : Fraction) → IsReadyForBounds f b s → v < variables f → IsAtBound (stand_at b v) →
    KeepsPrimalFeasible f b v value ↔ ((p : ℕ) → p < f.rows → IsWithin (limits f (head_at b p)) (value_at_place b s p -ᶠ move_of f b v value *ᶠ get (column_at s v) p))
feasible_behind f b s v value r l h =
    let g : Form = with_bound f b v value in
    let z : ℕ → Fraction = values_behind f b s v value in
    let is : IsBasis (with_bound f b v value) b = moved_basis f b v value r.basis r.bounds_by_variable l h in
    let there : AreValues (with_bound f b v value) b (spread (with_bound f b v value) b (values_behind f b s v value)) = spread_values (with_bound f b v value) b z is (behind_solves f b s v value r l h) in
    let at : (p : ℕ) → p < f.rows → spread (with_bound f b v value) b (values_behind f b s v value) (head_at b p) ≡ value_at_place b s p -ᶠ move_of f b v value *ᶠ get (column_at s v) p
    = λ p m. spread_basic (with_bound f b v value) b z p is m ∙ behind_is f b s v p value in (
      λ k p m. subst (IsWithin (limits f (head_at b p)))
          (values_only (with_bound f b v value) b k.x (spread (with_bound f b v value) b z) is (fresh_regular f b s r.fresh) k.values there (head_at b p) (is.within p m) ∙ at p m)
          (subst (λ w. IsWithin w (k.x (head_at b p))) (place_limits f b v p value r.basis h m) (k.within p m)),
      λ k. record {
        x = spread (with_bound f b v value) b z;
        values = there;
        within = λ p m. subst (λ w. IsWithin w (spread (with_bound f b v value) b z (head_at b p))) (sym (place_limits f b v p value r.basis h m))
            (subst (IsWithin (limits f (head_at b p))) (sym (at p m)) (k p m));
      },
    )

pub bound_range : (f : Form) (b : Basis) (s : Fresh) (v : ℕ) (value : Fraction) → IsReadyForBounds f b s → v < variables f → IsAtBound (stand_at b v) → KeepsPrimalFeasible f b v value ↔ IsWithin (bound_interval f b s v) value
bound_range f b s v value r l h =
    let t : Fraction = move_of f b v value in
    let way : ℕ → Bounds = limits_of_place f b s v in
    let by = feasible_behind f b s v value r l h in
    let there : standing f b v +ᶠ t ≡ value = by_ring_f (value ∷ standing f b v ∷ []) (var 1 ⊕ (var 0 ⊕ ⊖ (var 1))) (var 0) refl in
    let ends = within_moved (standing f b v) t (all_to f.rows way) in
    let each = within_all f.rows way t in (
      λ k. subst (IsWithin (bound_interval f b s v)) there (ends.1 (each.1 (λ p m.
          (value_kept (limits f (head_at b p)) (value_at_place b s p) (get (column_at s v) p) t (r.within p m)).0 (by.0 k p m)))),
      λ k. by.1 (λ p m.
          (value_kept (limits f (head_at b p)) (value_at_place b s p) (get (column_at s v) p) t (r.within p m)).1
          (each.0 (ends.0 (subst (IsWithin (bound_interval f b s v)) (sym there) k)) p m)),
    )

pub own_bound : (f : Form) (b : Basis) (s : Fresh) (v : ℕ) → IsReadyForBounds f b s → v < variables f → IsAtBound (stand_at b v) → IsWithin (bound_interval f b s v) (standing_value (limits f v) (stand_at b v))
own_bound f b s v r l h =
    let there : standing f b v +ᶠ zero_f ≡ standing f b v = add_nil_f (standing f b v) in
    subst (IsWithin (bound_interval f b s v)) there ((within_moved (standing f b v) zero_f (all_to f.rows (limits_of_place f b s v))).1 ((within_all f.rows (limits_of_place f b s v) zero_f).1 (λ p m.
    (value_kept (limits f (head_at b p)) (value_at_place b s p) (get (column_at s v) p) zero_f (r.within p m)).0
    (subst (IsWithin (limits f (head_at b p))) (by_ring_f (value_at_place b s p ∷ get (column_at s v) p ∷ []) (var 0) (var 0 ⊕ ⊖ (t0 ⊗ var 1)) refl) (r.within p m)))))
