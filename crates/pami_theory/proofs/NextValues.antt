-- The values behind a step.
use Rattle.std.proofs.Common.{◌≡◌, ℕ, ◌<◌, inl, inr, ⊎_elim, Bool, List, [], ◌∷◌, Some, refl, sym, ap, ◌∙◌, subst, true≢false}
use Rattle.std.specs.Cmp.{IsStrictWeakOrder}
use Rattle.std.proofs.lemmas.Option.{same_Some}
use Rattle.pami_algebra.specs.Fraction.{Fraction}
use Rattle.pami_algebra.specs.Ring.{var, t0, t1, ◌⊕◌, ◌⊗◌, ⊖}
use Rattle.pami_algebra.specs.Operations.{◌+ᶠ◌, ◌*ᶠ◌, ◌-ᶠ◌, neg_f}
use Rattle.pami_algebra.proofs.Laws.{by_ring_f, add_nil_f}
use Rattle.pami_algebra.proofs.Field.{div_mul_f, nil_mul_f, nil_add_f, one_mul_f}
use Rattle.pami_linear.specs.Lists.{get}
use Rattle.pami_linear.specs.Sums.{sum_to, dot, unit}
use Rattle.pami_linear.specs.Systems.{Solves}
use Rattle.pami_linear.proofs.Sums.{sum_same, sum_add, sum_sub, sum_swap, sum_scale, sum_unit, sum_none, unit_same, unit_other}
use Rattle.pami_linear.proofs.Systems.{row_meets_column}
use Rattle.pami_linear.proofs.Regular.{solution}
use Rattle.pami_frac.specs.declared.list.Bounds.{Bounds}
use Rattle.pami_theory.specs.Form.{Form, variables, limits, coefficient, IsPoint, zero_f}
use Rattle.pami_theory.specs.declared.words.Stand.{Stand}
use Rattle.pami_theory.specs.declared.words.Stand.TheVariants.{Basic, Lower, Upper, Zero}
use Rattle.pami_theory.specs.Basis.{Basis, head_at, stand_at, StandsAt, IsBasis, basis_column}
use Rattle.pami_theory.specs.Fresh.{AreValues, Fresh, row_at, column_at, value_at_place, IsFresh}
use Rattle.pami_theory.specs.declared.words.Side.{Side}
use Rattle.pami_theory.specs.declared.words.Side.TheVariants.{Above, Below}
use Rattle.pami_theory.specs.declared.words.Violation.{Violation}
use Rattle.pami_theory.specs.Violation.{IsPast, value_or_zero, passed_bound, width}
use Rattle.pami_theory.specs.Ratio.{row_entry, walks_before}
use Rattle.pami_theory.specs.Step.{Step, leaving_at, TakesStep, flipped, stand_on, basis_after, change_by, flip_change, flips_change, theta}
use Rattle.pami_theory.proofs.Certificates.{basic_or_not}
use Rattle.pami_theory.proofs.Places.{StandAt, no_place, at_head, values_only}
use Rattle.pami_theory.proofs.Solved.{fresh_regular, row_entry_is}
use Rattle.pami_theory.proofs.Members.{Has}
use Rattle.pami_theory.proofs.Orders.{Rises, irreflexive}
use Rattle.pami_theory.proofs.Comparisons.{walk_is_order}
use Rattle.pami_theory.proofs.Candidates.{flips_has, flips_rise}
use Rattle.pami_theory.proofs.Slopes.{list_sum}
use Rattle.pami_theory.proofs.Violations.{IsWidth, width_is, violation_past}
use Rattle.pami_theory.proofs.Steps.{IsExchange, exchanges, of_step, by_role, stand_there, head_there, head_elsewhere, step_exchanges, candidate_not_basic, step_is_basis, entry_not_zero}

-- ---- what flips change
-- what the flips of these variables add to the value of u
abbrev pub change_at : Form → Basis → List ℕ → ℕ → Fraction
change_at f b vs u = list_sum (λ w. unit w u *ᶠ flip_change f b w) vs

not_flipped : (f : Form) (b : Basis) (vs : List ℕ) (u : ℕ) → ¬ Has vs u → change_at f b vs u ≡ zero_f
not_flipped f b [] u n = refl
not_flipped f b (w ∷ vs) u n =
    ap (λ z. z *ᶠ flip_change f b w +ᶠ change_at f b vs u) (unit_other w u (λ e. n (inl e)))
    ∙ ap (λ z. z +ᶠ change_at f b vs u) (nil_mul_f (flip_change f b w))
    ∙ nil_add_f (change_at f b vs u) ∙ not_flipped f b vs u (λ h. n (inr h))

flipped_once : (f : Form) (b : Basis) (before : ℕ → ℕ → Bool) (o : IsStrictWeakOrder before) (vs : List ℕ) (u : ℕ) → Rises before vs → Has vs u → change_at f b vs u ≡ flip_change f b u
flipped_once f b before o [] u r h = absurd h
flipped_once f b before o (w ∷ vs) u r (inl e) =
    ap (λ z. z *ᶠ flip_change f b w +ᶠ change_at f b vs u) (ap (unit w) (sym e) ∙ unit_same w)
    ∙ ap (λ z. z +ᶠ change_at f b vs u) (one_mul_f (flip_change f b w))
    ∙ ap (λ z. flip_change f b w +ᶠ z) (not_flipped f b vs u (λ h. true≢false (sym (r.0 u h) ∙ ap (before w) (sym e) ∙ irreflexive before w o)))
    ∙ add_nil_f (flip_change f b w) ∙ ap (flip_change f b) e
flipped_once f b before o (w ∷ vs) u r (inr h) =
    ap (λ z. z *ᶠ flip_change f b w +ᶠ change_at f b vs u) (unit_other w u (λ e. true≢false (sym (r.0 u h) ∙ ap (before w) (sym e) ∙ irreflexive before w o)))
    ∙ ap (λ z. z +ᶠ change_at f b vs u) (nil_mul_f (flip_change f b w))
    ∙ nil_add_f (change_at f b vs u) ∙ flipped_once f b before o vs u r.1 h

-- and in a row
changes_in_row : (f : Form) (b : Basis) (vs : List ℕ) (i : ℕ) → ((w : ℕ) → Has vs w → w < variables f) → dot (variables f) (λ u. coefficient f u i) (change_at f b vs) ≡ flips_change f b vs i
changes_in_row f b [] i l = sum_none (variables f) (λ u. coefficient f u i *ᶠ zero_f) (λ u m. by_ring_f (coefficient f u i ∷ []) (var 0 ⊗ t0) t0 refl)
changes_in_row f b (w ∷ vs) i l =
    let c : Fraction = flip_change f b w in
    sum_same (variables f) (λ u. coefficient f u i *ᶠ (unit w u *ᶠ c +ᶠ change_at f b vs u)) (λ u. unit w u *ᶠ (c *ᶠ coefficient f u i) +ᶠ coefficient f u i *ᶠ change_at f b vs u)
    (λ u m. by_ring_f (coefficient f u i ∷ unit w u ∷ c ∷ change_at f b vs u ∷ []) (var 0 ⊗ (var 1 ⊗ var 2 ⊕ var 3)) (var 1 ⊗ (var 2 ⊗ var 0) ⊕ var 0 ⊗ var 3) refl)
    ∙ sum_add (variables f) (λ u. unit w u *ᶠ (c *ᶠ coefficient f u i)) (λ u. coefficient f u i *ᶠ change_at f b vs u)
    ∙ ap (λ z. z +ᶠ dot (variables f) (λ u. coefficient f u i) (change_at f b vs)) (sum_unit (variables f) w (λ u. c *ᶠ coefficient f u i) (l w (inl refl)))
    ∙ ap (λ z. c *ᶠ coefficient f w i +ᶠ z) (changes_in_row f b vs i (λ z h. l z (inr h)))

-- ---- a step whose facts are these
pub record Moves (f : Form) (b : Basis) (s : Fresh) (t : Step) : Type 0 where
  pub basis : IsBasis f b
  pub fresh : IsFresh f b s
  pub exchange : IsExchange f b t
  pub flips : (u : ℕ) → Has t.flips u → (u < variables f) × (¬ (stand_at b u ≡ Basic))
  pub enters : ¬ Has t.flips t.entering
  pub before : ℕ → ℕ → Bool
  pub order : IsStrictWeakOrder before
  pub once : Rises before t.flips
  pub bound : StandsAt (limits f t.leaving) (stand_on t.side) (passed_bound (limits f t.leaving) t.side)
  pub pivot : ¬ (row_entry f (row_at s t.place) t.entering ≡ zero_f)

-- by how much the value at a place falls: z is the inverse times the flips' change
abbrev falls : Form → Basis → Fresh → Step → (ℕ → Fraction) → ℕ → Fraction
falls f b s t z k = z k +ᶠ theta f b s t *ᶠ get (column_at s t.entering) k

abbrev pub moved : Form → Basis → Fresh → Step → (ℕ → Fraction) → ℕ → Fraction
moved f b s t z u =
    ((get s.values u +ᶠ change_at f b t.flips u) +ᶠ unit t.entering u *ᶠ theta f b s t) -ᶠ sum_to f.rows (λ k. unit (head_at b k) u *ᶠ falls f b s t z k)

-- ---- it is a point
places_in_row : (f : Form) (b : Basis) (g : ℕ → Fraction) (i : ℕ) → IsBasis f b → dot (variables f) (λ u. coefficient f u i) (λ u. sum_to f.rows (λ k. unit (head_at b k) u *ᶠ g k)) ≡ sum_to f.rows (λ k. basis_column f b k i *ᶠ g k)
places_in_row f b g i is =
    sum_same (variables f) (λ u. coefficient f u i *ᶠ sum_to f.rows (λ k. unit (head_at b k) u *ᶠ g k)) (λ u. sum_to f.rows (λ k. unit (head_at b k) u *ᶠ (coefficient f u i *ᶠ g k)))
    (λ u l. sym (sum_scale f.rows (coefficient f u i) (λ k. unit (head_at b k) u *ᶠ g k))
    ∙ sum_same f.rows (λ k. coefficient f u i *ᶠ (unit (head_at b k) u *ᶠ g k)) (λ k. unit (head_at b k) u *ᶠ (coefficient f u i *ᶠ g k))
    (λ k m. by_ring_f (coefficient f u i ∷ unit (head_at b k) u ∷ g k ∷ []) (var 0 ⊗ (var 1 ⊗ var 2)) (var 1 ⊗ (var 0 ⊗ var 2)) refl))
    ∙ sum_swap (variables f) f.rows (λ u k. unit (head_at b k) u *ᶠ (coefficient f u i *ᶠ g k))
    ∙ sum_same f.rows (λ k. sum_to (variables f) (λ u. unit (head_at b k) u *ᶠ (coefficient f u i *ᶠ g k))) (λ k. basis_column f b k i *ᶠ g k)
    (λ k l. sum_unit (variables f) (head_at b k) (λ u. coefficient f u i *ᶠ g k) (is.within k l))

falls_in_row : (f : Form) (b : Basis) (s : Fresh) (t : Step) (z : ℕ → Fraction) (i : ℕ) → Moves f b s t → Solves f.rows (basis_column f b) z (flips_change f b t.flips) → i < f.rows → sum_to f.rows (λ k. basis_column f b k i *ᶠ falls f b s t z k) ≡ flips_change f b t.flips i +ᶠ theta f b s t *ᶠ coefficient f t.entering i
falls_in_row f b s t z i m h l =
    let a : ℕ → Fraction = λ k. basis_column f b k i in
    let alpha : ℕ → Fraction = get (column_at s t.entering) in
    let th : Fraction = theta f b s t in
    sum_same f.rows (λ k. a k *ᶠ (z k +ᶠ th *ᶠ alpha k)) (λ k. a k *ᶠ z k +ᶠ th *ᶠ (a k *ᶠ alpha k))
    (λ k n. by_ring_f (a k ∷ z k ∷ th ∷ alpha k ∷ []) (var 0 ⊗ (var 1 ⊕ var 2 ⊗ var 3)) (var 0 ⊗ var 1 ⊕ var 2 ⊗ (var 0 ⊗ var 3)) refl)
    ∙ sum_add f.rows (λ k. a k *ᶠ z k) (λ k. th *ᶠ (a k *ᶠ alpha k))
    ∙ ap (λ w. sum_to f.rows (λ k. a k *ᶠ z k) +ᶠ w) (sum_scale f.rows th (λ k. a k *ᶠ alpha k))
    ∙ ap (λ w. w +ᶠ th *ᶠ sum_to f.rows (λ k. a k *ᶠ alpha k)) (h.at i l)
    ∙ ap (λ w. flips_change f b t.flips i +ᶠ th *ᶠ w) ((m.fresh.column t.entering m.exchange.within).at i l)

moved_point : (f : Form) (b : Basis) (s : Fresh) (t : Step) (z : ℕ → Fraction) → Moves f b s t → Solves f.rows (basis_column f b) z (flips_change f b t.flips) → IsPoint f (moved f b s t z)
moved_point f b s t z m h = record { at = at }
  where
    at : (i : ℕ) → i < f.rows → dot (variables f) (λ u. coefficient f u i) (moved f b s t z) ≡ zero_f
    at i l =
        let a : ℕ → Fraction = λ u. coefficient f u i in
        let x : ℕ → Fraction = get s.values in
        let c : ℕ → Fraction = change_at f b t.flips in
        let th : Fraction = theta f b s t in
        let e : ℕ → Fraction = unit t.entering in
        let g : ℕ → Fraction = λ u. sum_to f.rows (λ k. unit (head_at b k) u *ᶠ falls f b s t z k) in
        let n : ℕ = variables f in
        sum_same n (λ u. a u *ᶠ (((x u +ᶠ c u) +ᶠ e u *ᶠ th) -ᶠ g u)) (λ u. ((a u *ᶠ x u +ᶠ a u *ᶠ c u) +ᶠ e u *ᶠ (a u *ᶠ th)) -ᶠ a u *ᶠ g u)
        (λ u k. by_ring_f (a u ∷ x u ∷ c u ∷ e u ∷ th ∷ g u ∷ []) (var 0 ⊗ (((var 1 ⊕ var 2) ⊕ var 3 ⊗ var 4) ⊕ ⊖ (var 5))) (((var 0 ⊗ var 1 ⊕ var 0 ⊗ var 2) ⊕ var 3 ⊗ (var 0 ⊗ var 4)) ⊕ ⊖ (var 0 ⊗ var 5)) refl)
        ∙ sum_sub n (λ u. (a u *ᶠ x u +ᶠ a u *ᶠ c u) +ᶠ e u *ᶠ (a u *ᶠ th)) (λ u. a u *ᶠ g u)
        ∙ ap (λ w. w -ᶠ dot n a g) (sum_add n (λ u. a u *ᶠ x u +ᶠ a u *ᶠ c u) (λ u. e u *ᶠ (a u *ᶠ th)) ∙ ap (λ w. w +ᶠ sum_to n (λ u. e u *ᶠ (a u *ᶠ th))) (sum_add n (λ u. a u *ᶠ x u) (λ u. a u *ᶠ c u)))
        ∙ ap (λ w. ((w +ᶠ dot n a c) +ᶠ sum_to n (λ u. e u *ᶠ (a u *ᶠ th))) -ᶠ dot n a g) (m.fresh.values.point.at i l)
        ∙ ap (λ w. ((zero_f +ᶠ w) +ᶠ sum_to n (λ u. e u *ᶠ (a u *ᶠ th))) -ᶠ dot n a g) (changes_in_row f b t.flips i (λ w k. (m.flips w k).0))
        ∙ ap (λ w. ((zero_f +ᶠ flips_change f b t.flips i) +ᶠ w) -ᶠ dot n a g) (sum_unit n t.entering (λ u. a u *ᶠ th) m.exchange.within)
        ∙ ap (λ w. ((zero_f +ᶠ flips_change f b t.flips i) +ᶠ a t.entering *ᶠ th) -ᶠ w) (places_in_row f b (falls f b s t z) i m.basis ∙ falls_in_row f b s t z i m h l)
        ∙ by_ring_f (flips_change f b t.flips i ∷ a t.entering ∷ th ∷ []) (((t0 ⊕ var 0) ⊕ var 1 ⊗ var 2) ⊕ ⊖ (var 0 ⊕ var 2 ⊗ var 1)) t0 refl

-- ---- the value of each variable
-- of one that isn't basic
pub moved_nonbasic : (f : Form) (b : Basis) (s : Fresh) (t : Step) (z : ℕ → Fraction) (u : ℕ) → IsBasis f b → ¬ (stand_at b u ≡ Basic) → moved f b s t z u ≡ (get s.values u +ᶠ change_at f b t.flips u) +ᶠ unit t.entering u *ᶠ theta f b s t
moved_nonbasic f b s t z u is n =
    let c : Fraction = (get s.values u +ᶠ change_at f b t.flips u) +ᶠ unit t.entering u *ᶠ theta f b s t in
    ap (λ w. c -ᶠ w) (no_place f b (falls f b s t z) u is n) ∙ by_ring_f (c ∷ []) (var 0 ⊕ ⊖ t0) (var 0) refl

-- of a variable that doesn't enter
off_entering : (t : Step) (u : ℕ) (c th : Fraction) → ¬ (u ≡ t.entering) → c +ᶠ unit t.entering u *ᶠ th ≡ c
off_entering t u c th n = ap (λ w. c +ᶠ w *ᶠ th) (unit_other t.entering u (λ e. n (sym e))) ∙ by_ring_f (c ∷ th ∷ []) (var 0 ⊕ t0 ⊗ var 1) (var 0) refl

pub moved_stays : (f : Form) (b : Basis) (s : Fresh) (t : Step) (z : ℕ → Fraction) (u : ℕ) → IsBasis f b → ¬ (stand_at b u ≡ Basic) → ¬ (u ≡ t.entering) → ¬ Has t.flips u → moved f b s t z u ≡ get s.values u
moved_stays f b s t z u is n i k =
    moved_nonbasic f b s t z u is n
    ∙ off_entering t u (get s.values u +ᶠ change_at f b t.flips u) (theta f b s t) i
    ∙ ap (λ w. get s.values u +ᶠ w) (not_flipped f b t.flips u k) ∙ add_nil_f (get s.values u)

pub moved_flips : (f : Form) (b : Basis) (s : Fresh) (t : Step) (z : ℕ → Fraction) (u : ℕ) → Moves f b s t → Has t.flips u → moved f b s t z u ≡ get s.values u +ᶠ flip_change f b u
moved_flips f b s t z u m k =
    moved_nonbasic f b s t z u m.basis (m.flips u k).1
    ∙ off_entering t u (get s.values u +ᶠ change_at f b t.flips u) (theta f b s t) (λ e. m.enters (subst (Has t.flips) e k))
    ∙ ap (λ w. get s.values u +ᶠ w) (flipped_once f b m.before m.order t.flips u m.once k)

pub moved_enters : (f : Form) (b : Basis) (s : Fresh) (t : Step) (z : ℕ → Fraction) → Moves f b s t → moved f b s t z t.entering ≡ get s.values t.entering +ᶠ theta f b s t
moved_enters f b s t z m =
    let x : Fraction = get s.values t.entering in
    moved_nonbasic f b s t z t.entering m.basis m.exchange.enters
    ∙ ap (λ w. (x +ᶠ w) +ᶠ unit t.entering t.entering *ᶠ theta f b s t) (not_flipped f b t.flips t.entering m.enters)
    ∙ ap (λ w. (x +ᶠ zero_f) +ᶠ w *ᶠ theta f b s t) (unit_same t.entering)
    ∙ by_ring_f (x ∷ theta f b s t ∷ []) ((var 0 ⊕ t0) ⊕ t1 ⊗ var 1) (var 0 ⊕ var 1) refl

basic_not_flipped : (f : Form) (b : Basis) (s : Fresh) (t : Step) (k : ℕ) → Moves f b s t → k < f.rows → ¬ Has t.flips (head_at b k)
basic_not_flipped f b s t k m l h = (m.flips (head_at b k) h).1 (m.basis.basic k l)

pub moved_basic : (f : Form) (b : Basis) (s : Fresh) (t : Step) (z : ℕ → Fraction) (k : ℕ) → Moves f b s t → k < f.rows → moved f b s t z (head_at b k) ≡ value_at_place b s k -ᶠ falls f b s t z k
moved_basic f b s t z k m l =
    let u : ℕ = head_at b k in
    let g : Fraction = sum_to f.rows (λ j. unit (head_at b j) u *ᶠ falls f b s t z j) in
    ap (λ w. w -ᶠ g) (off_entering t u (get s.values u +ᶠ change_at f b t.flips u) (theta f b s t) (λ e. m.exchange.enters (ap (stand_at b) (sym e) ∙ m.basis.basic k l)))
    ∙ ap (λ w. (get s.values u +ᶠ w) -ᶠ g) (not_flipped f b t.flips u (basic_not_flipped f b s t k m l))
    ∙ ap (λ w. w -ᶠ g) (add_nil_f (get s.values u))
    ∙ ap (λ w. get s.values u -ᶠ w) (at_head f b (falls f b s t z) k m.basis l)

-- ---- the leaving variable meets its bound
pub flips_at_place : (f : Form) (b : Basis) (s : Fresh) (t : Step) (z : ℕ → Fraction) (k : ℕ) → IsFresh f b s → Solves f.rows (basis_column f b) z (flips_change f b t.flips) → k < f.rows → dot f.rows (get (row_at s k)) (flips_change f b t.flips) ≡ z k
flips_at_place f b s t z k h sz l = row_meets_column f.rows k (basis_column f b) z (flips_change f b t.flips) (get (row_at s k)) l sz (h.row k l)

moved_leaves : (f : Form) (b : Basis) (s : Fresh) (t : Step) (z : ℕ → Fraction) → Moves f b s t → Solves f.rows (basis_column f b) z (flips_change f b t.flips) → moved f b s t z (head_at b t.place) ≡ passed_bound (limits f t.leaving) t.side
moved_leaves f b s t z m h =
    let x : Fraction = value_at_place b s t.place in
    let bound : Fraction = passed_bound (limits f t.leaving) t.side in
    let change : Fraction = dot f.rows (get (row_at s t.place)) (flips_change f b t.flips) in
    let a : Fraction = row_entry f (row_at s t.place) t.entering in
    moved_basic f b s t z t.place m m.exchange.place
    ∙ ap (λ w. x -ᶠ (w +ᶠ theta f b s t *ᶠ get (column_at s t.entering) t.place)) (sym (flips_at_place f b s t z t.place m.fresh h m.exchange.place))
    ∙ ap (λ w. x -ᶠ (change +ᶠ theta f b s t *ᶠ w)) (sym (row_entry_is f b s t.place t.entering m.fresh m.exchange.place m.exchange.within))
    ∙ ap (λ w. x -ᶠ (change +ᶠ w)) (div_mul_f ((x -ᶠ change) -ᶠ bound) a m.pivot)
    ∙ by_ring_f (x ∷ change ∷ bound ∷ []) (var 0 ⊕ ⊖ (var 1 ⊕ ((var 0 ⊕ ⊖ (var 1)) ⊕ ⊖ (var 2)))) (var 2) refl

-- ---- where each variable stands
flip_stands : (l : Bounds) (s : Stand) (x w : Fraction) → StandsAt l s x → IsWidth l w → StandsAt l (flipped s) (x +ᶠ change_by s w)
flip_stands l Basic x w h k = tt
flip_stands l Lower x w h k = k.3 ∙ ap Some (by_ring_f (k.0 ∷ k.1 ∷ []) (var 1) (var 0 ⊕ (var 1 ⊕ ⊖ (var 0))) refl ∙ ap (λ z. z +ᶠ (k.1 -ᶠ k.0)) (same_Some k.0 x (sym k.2 ∙ h)) ∙ ap (λ z. x +ᶠ z) (sym k.5))
flip_stands l Upper x w h k = k.2 ∙ ap Some (by_ring_f (k.0 ∷ k.1 ∷ []) (var 0) (var 1 ⊕ ⊖ (var 1 ⊕ ⊖ (var 0))) refl ∙ ap (λ z. z +ᶠ neg_f (k.1 -ᶠ k.0)) (same_Some k.1 x (sym k.3 ∙ h)) ∙ ap (λ z. x +ᶠ neg_f z) (sym k.5))
flip_stands l Zero x w h k = (h.0, h.1, add_nil_f x ∙ h.2)

flip_stands_there : (f : Form) (b : Basis) (u : ℕ) (x w : Fraction) → StandsAt (limits f u) (stand_at b u) x → width (limits f u) ≡ Some w → StandsAt (limits f u) (flipped (stand_at b u)) (x +ᶠ flip_change f b u)
flip_stands_there f b u x w h e =
    subst (λ z. StandsAt (limits f u) (flipped (stand_at b u)) (x +ᶠ change_by (stand_at b u) z)) (sym (ap value_or_zero e))
    (flip_stands (limits f u) (stand_at b u) x w h (width_is (limits f u) w e))

stay_stands : (f : Form) (b : Basis) (s : Fresh) (t : Step) (z : ℕ → Fraction) (u : ℕ) → Moves f b s t → u < variables f → ¬ (u ≡ t.entering) → ¬ Has t.flips u → StandsAt (limits f u) (stand_at b u) (moved f b s t z u)
stay_stands f b s t z u m l i k = ⊎_elim
    (λ (e : stand_at b u ≡ Basic). subst (λ st. StandsAt (limits f u) st (moved f b s t z u)) (sym e) tt)
    (λ (n : ¬ (stand_at b u ≡ Basic)). subst (StandsAt (limits f u) (stand_at b u)) (sym (moved_stays f b s t z u m.basis n i k)) (m.fresh.values.nonbasic u l))
    (basic_or_not (stand_at b u))

moved_stands : (f : Form) (b : Basis) (s : Fresh) (t : Step) (z : ℕ → Fraction) → Moves f b s t → Solves f.rows (basis_column f b) z (flips_change f b t.flips) → StandAt f (basis_after b t) (moved f b s t z)
moved_stands f b s t z m h u l = subst (λ st. StandsAt (limits f u) st (moved f b s t z u)) (sym (stand_there f b t u m.basis l))
    (by_role b t u (λ st. StandsAt (limits f u) st (moved f b s t z u))
    (λ i. tt)
    (λ i e. subst (λ w. StandsAt (limits f w) (stand_on t.side) (moved f b s t z w)) (sym e)
    (subst (StandsAt (limits f t.leaving) (stand_on t.side)) (sym (ap (moved f b s t z) m.exchange.leaves ∙ moved_leaves f b s t z m h)) m.bound))
    (λ i j k. let w = m.exchange.boxed u k in
    subst (StandsAt (limits f u) (flipped (stand_at b u))) (sym (moved_flips f b s t z u m k)) (flip_stands_there f b u (get s.values u) w.0 (m.fresh.values.nonbasic u l) w.1))
    (λ i j k. stay_stands f b s t z u m l i k))

pub moved_values : (f : Form) (b : Basis) (s : Fresh) (t : Step) (z : ℕ → Fraction) → Moves f b s t → Solves f.rows (basis_column f b) z (flips_change f b t.flips) → AreValues f (basis_after b t) (moved f b s t z)
moved_values f b s t z m h = record { point = moved_point f b s t z m h; nonbasic = moved_stands f b s t z m h }

-- ---- of the step of the walk
bound_passed : (side : Side) (l : Bounds) (value amount : Fraction) → IsPast side l value amount → StandsAt l (stand_on side) (passed_bound l side)
bound_passed Above l value amount h = subst (λ z. l.high ≡ Some z) (sym (ap value_or_zero h.1)) h.1
bound_passed Below l value amount h = subst (λ z. l.low ≡ Some z) (sym (ap value_or_zero h.1)) h.1

pub step_moves : (f : Form) (b : Basis) (s : Fresh) (p : ℕ) (v : Violation) (t : Step) → TakesStep f b s p v t → Moves f b s t
step_moves f b s p v t h = of_step f b s p v t (Moves f b s) h (λ q e. record {
  basis = h.basis;
  fresh = h.fresh;
  exchange = exchanges f b s p v q h.place h.outside e;
  flips = λ u k. let c = flips_has f b (leaving_at s p v) q u k in (c.0, candidate_not_basic f b (leaving_at s p v) u c.1);
  enters = λ k. let c = flips_has f b (leaving_at s p v) q q k in true≢false (sym c.2 ∙ irreflexive (walks_before f (leaving_at s p v)) q (walk_is_order f (leaving_at s p v)));
  before = walks_before f (leaving_at s p v);
  order = walk_is_order f (leaving_at s p v);
  once = flips_rise f b (leaving_at s p v) q;
  bound = bound_passed v.side (limits f (head_at b p)) (value_at_place b s p) v.amount (violation_past (limits f (head_at b p)) (value_at_place b s p) v h.outside);
  pivot = entry_not_zero f b (leaving_at s p v) q e.candidate;
})

-- the values that are solved behind the step
pub step_values : (f : Form) (b : Basis) (s : Fresh) (p : ℕ) (v : Violation) (t : Step) (r : Fresh) (z : ℕ → Fraction) (u : ℕ) → TakesStep f b s p v t → IsFresh f (basis_after b t) r → Solves f.rows (basis_column f b) z (flips_change f b t.flips) → u < variables f → get r.values u ≡ moved f b s t z u
step_values f b s p v t r z u h fresh sz l = values_only f (basis_after b t) (get r.values) (moved f b s t z) (step_is_basis f b s p v t h) (fresh_regular f (basis_after b t) r fresh) fresh.values (moved_values f b s t z (step_moves f b s p v t h) sz) u l

-- z is there
flips_solved : (f : Form) (b : Basis) (s : Fresh) (t : Step) → IsFresh f b s → (z : ℕ → Fraction) × Solves f.rows (basis_column f b) z (flips_change f b t.flips)
flips_solved f b s t h = solution f.rows (basis_column f b) (flips_change f b t.flips) (fresh_regular f b s h)

pub step_value_at_place : (f : Form) (b : Basis) (s : Fresh) (p : ℕ) (v : Violation) (t : Step) (r : Fresh) (k : ℕ) → TakesStep f b s p v t → IsFresh f (basis_after b t) r → k < f.rows →
    get r.values (head_at b k) ≡ (value_at_place b s k -ᶠ dot f.rows (get (row_at s k)) (flips_change f b t.flips)) -ᶠ theta f b s t *ᶠ row_entry f (row_at s k) t.entering
step_value_at_place f b s p v t r k h fresh l =
    let m = step_moves f b s p v t h in
    let z = flips_solved f b s t h.fresh in
    let x : Fraction = value_at_place b s k in
    let change : Fraction = dot f.rows (get (row_at s k)) (flips_change f b t.flips) in
    step_values f b s p v t r z.0 (head_at b k) h fresh z.1 (h.basis.within k l)
    ∙ moved_basic f b s t z.0 k m l
    ∙ ap (λ w. x -ᶠ (w +ᶠ theta f b s t *ᶠ get (column_at s t.entering) k)) (sym (flips_at_place f b s t z.0 k h.fresh z.1 l))
    ∙ ap (λ w. x -ᶠ (change +ᶠ theta f b s t *ᶠ w)) (sym (row_entry_is f b s k t.entering h.fresh l m.exchange.within))
    ∙ by_ring_f (x ∷ change ∷ theta f b s t ∷ row_entry f (row_at s k) t.entering ∷ []) (var 0 ⊕ ⊖ (var 1 ⊕ var 2 ⊗ var 3)) ((var 0 ⊕ ⊖ (var 1)) ⊕ ⊖ (var 2 ⊗ var 3)) refl

-- with the flips' change and the entering column solved
pub step_value_solved : (f : Form) (b : Basis) (s : Fresh) (p : ℕ) (v : Violation) (t : Step) (r : Fresh) (z : ℕ → Fraction) (k : ℕ) → TakesStep f b s p v t → IsFresh f (basis_after b t) r → Solves f.rows (basis_column f b) z (flips_change f b t.flips) → k < f.rows →
    get r.values (head_at b k) ≡ (value_at_place b s k -ᶠ z k) -ᶠ theta f b s t *ᶠ get (column_at s t.entering) k
step_value_solved f b s p v t r z k h fresh sz l =
    step_values f b s p v t r z (head_at b k) h fresh sz (h.basis.within k l)
    ∙ moved_basic f b s t z k (step_moves f b s p v t h) l
    ∙ by_ring_f (value_at_place b s k ∷ z k ∷ theta f b s t ∷ get (column_at s t.entering) k ∷ []) (var 0 ⊕ ⊖ (var 1 ⊕ var 2 ⊗ var 3)) ((var 0 ⊕ ⊖ (var 1)) ⊕ ⊖ (var 2 ⊗ var 3)) refl

pub step_value_leaving : (f : Form) (b : Basis) (s : Fresh) (p : ℕ) (v : Violation) (t : Step) (r : Fresh) → TakesStep f b s p v t → IsFresh f (basis_after b t) r → get r.values t.leaving ≡ passed_bound (limits f t.leaving) t.side
step_value_leaving f b s p v t r h fresh =
    let m = step_moves f b s p v t h in
    let z = flips_solved f b s t h.fresh in
    ap (get r.values) m.exchange.leaves
    ∙ step_values f b s p v t r z.0 (head_at b t.place) h fresh z.1 (h.basis.within t.place m.exchange.place)
    ∙ moved_leaves f b s t z.0 m z.1

pub step_value_entering : (f : Form) (b : Basis) (s : Fresh) (p : ℕ) (v : Violation) (t : Step) (r : Fresh) → TakesStep f b s p v t → IsFresh f (basis_after b t) r → get r.values t.entering ≡ get s.values t.entering +ᶠ theta f b s t
step_value_entering f b s p v t r h fresh =
    let m = step_moves f b s p v t h in
    let z = flips_solved f b s t h.fresh in
    step_values f b s p v t r z.0 t.entering h fresh z.1 m.exchange.within ∙ moved_enters f b s t z.0 m

pub step_value_flipped : (f : Form) (b : Basis) (s : Fresh) (p : ℕ) (v : Violation) (t : Step) (r : Fresh) (u : ℕ) → TakesStep f b s p v t → IsFresh f (basis_after b t) r → Has t.flips u → get r.values u ≡ get s.values u +ᶠ flip_change f b u
step_value_flipped f b s p v t r u h fresh k =
    let m = step_moves f b s p v t h in
    let z = flips_solved f b s t h.fresh in
    step_values f b s p v t r z.0 u h fresh z.1 (m.flips u k).0 ∙ moved_flips f b s t z.0 u m k

pub step_value_stays : (f : Form) (b : Basis) (s : Fresh) (p : ℕ) (v : Violation) (t : Step) (r : Fresh) (u : ℕ) → TakesStep f b s p v t → IsFresh f (basis_after b t) r → u < variables f → ¬ (stand_at b u ≡ Basic) → ¬ (u ≡ t.entering) → ¬ Has t.flips u → get r.values u ≡ get s.values u
step_value_stays f b s p v t r u h fresh l n i k =
    let z = flips_solved f b s t h.fresh in
    step_values f b s p v t r z.0 u h fresh z.1 l ∙ moved_stays f b s t z.0 u h.basis n i k

-- ---- by the places of the basis behind the step
pub place_value_other : (f : Form) (b : Basis) (s : Fresh) (p : ℕ) (v : Violation) (t : Step) (r : Fresh) (k : ℕ) → TakesStep f b s p v t → IsFresh f (basis_after b t) r → k < f.rows → ¬ (k ≡ t.place) →
    value_at_place (basis_after b t) r k ≡ (value_at_place b s k -ᶠ dot f.rows (get (row_at s k)) (flips_change f b t.flips)) -ᶠ theta f b s t *ᶠ row_entry f (row_at s k) t.entering
place_value_other f b s p v t r k h fresh l n = ap (get r.values) (head_elsewhere b t k n) ∙ step_value_at_place f b s p v t r k h fresh l

pub place_value_entering : (f : Form) (b : Basis) (s : Fresh) (p : ℕ) (v : Violation) (t : Step) (r : Fresh) → TakesStep f b s p v t → IsFresh f (basis_after b t) r → value_at_place (basis_after b t) r t.place ≡ get s.values t.entering +ᶠ theta f b s t
place_value_entering f b s p v t r h fresh = ap (get r.values) (head_there f b t h.basis (step_exchanges f b s p v t h).place) ∙ step_value_entering f b s p v t r h fresh
