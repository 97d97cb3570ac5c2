-- The starting basis: that it is one, and its values and reduced costs.
use Rattle.std.proofs.Common.{◌≡◌, ℕ, ◌+◌, ◌-◌, ◌<◌, [], ◌∷◌, refl, sym, ap, ◌∙◌, subst, arith, Bool, true, false, if◌then◌else◌, nat_lt, Option, None, Some}
use Rattle.std.proofs.lemmas.Bool.{lt-ltb, le-ltb, cond-true, cond-false}
use Rattle.std.proofs.lemmas.Option.{same_Some}
use Rattle.std.proofs.lemmas.List.FromFn.{length-map-range_with_len, get_or-map-range_with_len}
use Rattle.pami_algebra.specs.Fraction.{Fraction}
use Rattle.pami_algebra.specs.Ring.{var, t0, ◌⊕◌, ⊖}
use Rattle.pami_algebra.specs.Operations.{◌-ᶠ◌, neg_f}
use Rattle.pami_algebra.proofs.Laws.{by_ring_f}
use Rattle.pami_algebra.proofs.Field.{neg_nil_f, neg_neg_f}
use Rattle.pami_linear.specs.Sums.{dot}
use Rattle.pami_linear.proofs.Sums.{dot_same}
use Rattle.pami_frac.specs.declared.list.Bounds.{Bounds}
use Rattle.pami_theory.specs.Form.{Form, limits, entry, cost, variables, row_variable, coefficient, cost_of, zero_f}
use Rattle.pami_theory.specs.declared.words.Stand.{Stand}
use Rattle.pami_theory.specs.declared.words.Stand.TheVariants.{Basic, Lower, Upper, Zero}
use Rattle.pami_theory.specs.Basis.{Basis, head_at, stand_at, StandsAt, IsBasis}
use Rattle.pami_theory.specs.Fresh.{AreValues, AreReducedCosts}
use Rattle.pami_frac.specs.Signs.{is_negative}
use Rattle.pami_theory.specs.Start.{is_same, boxed_stand, stand_by, starting_stand, starting_basis}
use Rattle.pami_linear.proofs.Units.{dot_none}
use Rattle.pami_theory.proofs.Forms.{by_variable, cost_of_row, dot_row_variable, point_rows, rows_point}

-- ---- where a variable stands
pub start_head : (f : Form) (p : ℕ) → p < f.rows → head_at (starting_basis f) p ≡ row_variable f p
start_head f p l = get_or-map-range_with_len (row_variable f) 0 f.rows p p 0 l (omega arith)

pub start_stand : (f : Form) (v : ℕ) → v < variables f → stand_at (starting_basis f) v ≡ starting_stand f v
start_stand f v l = get_or-map-range_with_len (starting_stand f) 0 (variables f) v v Zero l (omega arith)

pub start_row : (f : Form) (i : ℕ) → starting_stand f (row_variable f i) ≡ Basic
start_row f i = let v = f.columns + i in cond-false (nat_lt v f.columns) _ Basic (le-ltb v f.columns (omega arith))

pub start_column : (f : Form) (j : ℕ) → j < f.columns → starting_stand f j ≡ stand_by (limits f j).low (limits f j).high (cost f j)
start_column f j l = cond-true (nat_lt j f.columns) _ Basic (lt-ltb j f.columns l)

boxed_not_basic : (fixed : Bool) (cost : Fraction) → ¬ (boxed_stand fixed cost ≡ Basic)
boxed_not_basic true cost e = cc
boxed_not_basic false cost e = go (is_negative cost) e
  where
    go : (b : Bool) → ¬ ((if b then Upper else Lower) ≡ Basic)
    go true h = cc
    go false h = cc

stand_not_basic : (low high : Option Fraction) (cost : Fraction) → ¬ (stand_by low high cost ≡ Basic)
stand_not_basic None None cost e = cc
stand_not_basic None (Some h) cost e = cc
stand_not_basic (Some l) None cost e = cc
stand_not_basic (Some l) (Some h) cost e = boxed_not_basic (is_same l h) cost e

pub column_not_basic : (f : Form) (j : ℕ) → j < f.columns → ¬ (starting_stand f j ≡ Basic)
column_not_basic f j l e = stand_not_basic (limits f j).low (limits f j).high (cost f j) (sym (start_column f j l) ∙ e)

-- ---- it is a basis
abbrev AtStand : Bounds → Stand → Type 0
AtStand l s = (value : Fraction) × StandsAt l s value

boxed_stands : (low high : Fraction) (fixed : Bool) (cost : Fraction) → AtStand (record { low = Some low; high = Some high }) (boxed_stand fixed cost)
boxed_stands low high true cost = (low, refl)
boxed_stands low high false cost = go (is_negative cost)
  where
    go : (b : Bool) → AtStand (record { low = Some low; high = Some high }) (if b then Upper else Lower)
    go true = (high, refl)
    go false = (low, refl)

stand_stands : (low high : Option Fraction) (cost : Fraction) → AtStand (record { low = low; high = high }) (stand_by low high cost)
stand_stands None None cost = (zero_f, (refl, refl, refl))
stand_stands None (Some h) cost = (h, refl)
stand_stands (Some l) None cost = (l, refl)
stand_stands (Some l) (Some h) cost = boxed_stands l h (is_same l h) cost

start_stands : (f : Form) (v : ℕ) → v < variables f → AtStand (limits f v) (starting_stand f v)
start_stands f = by_variable f (λ v. AtStand (limits f v) (starting_stand f v))
    (λ j l. subst (AtStand (limits f j)) (sym (start_column f j l)) (stand_stands (limits f j).low (limits f j).high (cost f j)))
    (λ i l. subst (AtStand (limits f (row_variable f i))) (sym (start_row f i)) (zero_f, tt))

abbrev Placed : Form → ℕ → Type 0
Placed f v = stand_at (starting_basis f) v ≡ Basic → (p : ℕ) × (p < f.rows) × (head_at (starting_basis f) p ≡ v)

start_placed : (f : Form) (v : ℕ) → v < variables f → Placed f v
start_placed f = by_variable f (Placed f)
    (λ j l e. absurd (column_not_basic f j l (sym (start_stand f j (omega arith)) ∙ e)))
    (λ i l e. (i, l, start_head f i l))

pub start_is_basis : (f : Form) → IsBasis f (starting_basis f)
start_is_basis f = record {
  places = length-map-range_with_len (row_variable f) 0 f.rows;
  variables_stand = length-map-range_with_len (starting_stand f) 0 (variables f);
  within = λ p l. subst (λ v. v < variables f) (sym (start_head f p l)) (omega arith);
  distinct = λ p q l k e. let h : f.columns + p ≡ f.columns + q = sym (start_head f p l) ∙ e ∙ start_head f q k in omega arith;
  basic = λ p l. ap (stand_at (starting_basis f)) (start_head f p l) ∙ start_stand f (row_variable f p) (omega arith) ∙ start_row f p;
  placed = start_placed f;
  stands = λ v l. subst (AtStand (limits f v)) (sym (start_stand f v l)) (start_stands f v l);
}

-- ---- reduced costs: those of any basis, and those of the starting one
-- the reduced cost of a row variable is the y of its row
pub row_cost : (f : Form) (b : Basis) (y d : ℕ → Fraction) → AreReducedCosts f b y d → (i : ℕ) → i < f.rows → d (row_variable f i) ≡ y i
row_cost f b y d h i l =
    h.reduced (row_variable f i) (omega arith)
    ∙ ap (λ z. z -ᶠ dot f.rows y (coefficient f (row_variable f i))) (cost_of_row f i)
    ∙ ap (λ z. zero_f -ᶠ z) (dot_row_variable f y i l)
    ∙ by_ring_f (y i ∷ []) (t0 ⊕ ⊖ (⊖ (var 0))) (var 0) refl

-- the reduced cost of a basic variable is 0
pub basic_cost : (f : Form) (b : Basis) (y d : ℕ → Fraction) → IsBasis f b → AreReducedCosts f b y d → (p : ℕ) → p < f.rows → d (head_at b p) ≡ zero_f
basic_cost f b y d s h p l =
    h.reduced (head_at b p) (s.within p l)
    ∙ ap (λ z. cost_of f (head_at b p) -ᶠ z) (h.basic p l)
    ∙ by_ring_f (cost_of f (head_at b p) ∷ []) (var 0 ⊕ ⊖ (var 0)) t0 refl

nothing_less : (f : Form) (y : ℕ → Fraction) (v : ℕ) → ((i : ℕ) → i < f.rows → y i ≡ zero_f) → cost_of f v -ᶠ dot f.rows y (coefficient f v) ≡ cost_of f v
nothing_less f y v h = ap (λ z. cost_of f v -ᶠ z) (dot_none f.rows y (coefficient f v) h) ∙ by_ring_f (cost_of f v ∷ []) (var 0 ⊕ ⊖ t0) (var 0) refl

pub start_costs : (f : Form) → AreReducedCosts f (starting_basis f) (λ i. zero_f) (cost_of f)
start_costs f = record {
  basic = λ p l. dot_none f.rows (λ i. zero_f) (coefficient f (head_at (starting_basis f) p)) (λ i k. refl) ∙ sym (cost_of_row f p) ∙ ap (cost_of f) (sym (start_head f p l));
  reduced = λ v l. sym (nothing_less f (λ i. zero_f) v (λ i k. refl));
}

-- its equation at each row variable
start_basic : (f : Form) (y d : ℕ → Fraction) → AreReducedCosts f (starting_basis f) y d → (i : ℕ) → i < f.rows → dot f.rows y (coefficient f (row_variable f i)) ≡ cost_of f (row_variable f i)
start_basic f y d h i l = subst (λ v. dot f.rows y (coefficient f v) ≡ cost_of f v) (start_head f i l) (h.basic i l)

pub start_prices_zero : (f : Form) (y d : ℕ → Fraction) → AreReducedCosts f (starting_basis f) y d → (i : ℕ) → i < f.rows → y i ≡ zero_f
start_prices_zero f y d h i l =
    let e : neg_f (y i) ≡ zero_f = sym (dot_row_variable f y i l) ∙ start_basic f y d h i l ∙ cost_of_row f i in
    sym (neg_neg_f (y i)) ∙ ap neg_f e ∙ neg_nil_f

pub start_costs_only : (f : Form) (y d : ℕ → Fraction) → AreReducedCosts f (starting_basis f) y d → (v : ℕ) → v < variables f → d v ≡ cost_of f v
start_costs_only f y d h v l = h.reduced v l ∙ nothing_less f y v (start_prices_zero f y d h)

-- ---- values
-- a variable that isn't basic has one value where it stands
pub stands_one : (l : Bounds) (s : Stand) (a b : Fraction) → ¬ (s ≡ Basic) → StandsAt l s a → StandsAt l s b → a ≡ b
stands_one l Basic a b n h k = absurd (n refl)
stands_one l Lower a b n h k = same_Some a b (sym h ∙ k)
stands_one l Upper a b n h k = same_Some a b (sym h ∙ k)
stands_one l Zero a b n h k = h.2 ∙ sym k.2

start_nonbasic : (f : Form) (x : ℕ → Fraction) → AreValues f (starting_basis f) x → (v : ℕ) → v < variables f → StandsAt (limits f v) (starting_stand f v) (x v)
start_nonbasic f x h v l = subst (λ s. StandsAt (limits f v) s (x v)) (start_stand f v l) (h.nonbasic v l)

column_value : (f : Form) (x z : ℕ → Fraction) → AreValues f (starting_basis f) x → AreValues f (starting_basis f) z → (j : ℕ) → j < f.columns → x j ≡ z j
column_value f x z h k j l =
    let n : j < variables f = omega arith in
    stands_one (limits f j) (starting_stand f j) (x j) (z j) (column_not_basic f j l) (start_nonbasic f x h j n) (start_nonbasic f z k j n)

pub start_values_only : (f : Form) (x z : ℕ → Fraction) → AreValues f (starting_basis f) x → AreValues f (starting_basis f) z → (v : ℕ) → v < variables f → x v ≡ z v
start_values_only f x z h k = by_variable f (λ v. x v ≡ z v) (column_value f x z h k)
    (λ i l. point_rows f x h.point i l ∙ dot_same f.columns (entry f i) x (entry f i) z (λ j k. refl) (column_value f x z h k) ∙ sym (point_rows f z k.point i l))

pub stands_at_start : (f : Form) (x : ℕ → Fraction) → ((v : ℕ) → v < variables f → StandsAt (limits f v) (starting_stand f v) (x v)) → (v : ℕ) → v < variables f → StandsAt (limits f v) (stand_at (starting_basis f) v) (x v)
stands_at_start f x h v l = subst (λ s. StandsAt (limits f v) s (x v)) (sym (start_stand f v l)) (h v l)

-- there are values: each column where it stands, and each row variable by its row
column_start : Form → ℕ → Fraction
column_start f j = (stand_stands (limits f j).low (limits f j).high (cost f j)).0

start_values : Form → ℕ → Fraction
start_values f v = if nat_lt v f.columns then column_start f v else dot f.columns (entry f (v - f.columns)) (column_start f)

start_values_column : (f : Form) (j : ℕ) → j < f.columns → start_values f j ≡ column_start f j
unfolding start_values
start_values_column f j l = cond-true (nat_lt j f.columns) (column_start f j) _ (lt-ltb j f.columns l)

start_values_row : (f : Form) (i : ℕ) → start_values f (row_variable f i) ≡ dot f.columns (entry f i) (column_start f)
unfolding start_values
start_values_row f i =
    let v = f.columns + i in
    let e : v - f.columns ≡ i = omega arith in
    cond-false (nat_lt v f.columns) (column_start f v) _ (le-ltb v f.columns (omega arith)) ∙ ap (λ k. dot f.columns (entry f k) (column_start f)) e

column_start_stands : (f : Form) (j : ℕ) → j < f.columns → StandsAt (limits f j) (starting_stand f j) (start_values f j)
unfolding column_start
column_start_stands f j l =
    let s = stand_stands (limits f j).low (limits f j).high (cost f j) in
    subst (StandsAt (limits f j) (starting_stand f j)) (sym (start_values_column f j l))
    (subst (λ t. StandsAt (limits f j) t s.0) (sym (start_column f j l)) s.1)

start_values_are : (f : Form) → AreValues f (starting_basis f) (start_values f)
start_values_are f = record {
  point = rows_point f (start_values f) (λ i l. start_values_row f i ∙ dot_same f.columns (entry f i) (column_start f) (entry f i) (start_values f) (λ j k. refl) (λ j k. sym (start_values_column f j k)));
  nonbasic = stands_at_start f (start_values f) (by_variable f (λ v. StandsAt (limits f v) (starting_stand f v) (start_values f v))
      (column_start_stands f)
      (λ i l. subst (λ t. StandsAt (limits f (row_variable f i)) t (start_values f (row_variable f i))) (sym (start_row f i)) tt));
}

pub start_has_values : (f : Form) → (x : ℕ → Fraction) × AreValues f (starting_basis f) x
start_has_values f = (start_values f, start_values_are f)
