-- A batch pulled back to its first basis: the pivots in product form, and the values behind it.
use Rattle.std.proofs.Common.{◌≡◌, ℕ, ◌<◌, List, [], ◌∷◌, ◌++◌, length, map, refl, sym, ap, ◌∙◌, subst}
use Rattle.std.specs.List.{range_with_len}
use Rattle.pami_algebra.specs.Fraction.{Fraction}
use Rattle.pami_algebra.specs.Ring.{var, t0, ◌⊕◌, ◌⊗◌, ⊖}
use Rattle.pami_algebra.specs.Operations.{◌+ᶠ◌, ◌-ᶠ◌, ◌*ᶠ◌, ◌/ᶠ◌}
use Rattle.pami_algebra.proofs.Laws.{by_ring_f}
use Rattle.pami_linear.specs.Lists.{get}
use Rattle.pami_linear.specs.Sums.{sum_to, unit}
use Rattle.pami_linear.specs.Systems.{Solves, stepped}
use Rattle.pami_linear.proofs.Lists.{same_list, one_solution_list}
use Rattle.pami_linear.proofs.Systems.{solves_zero, solves_add, solves_unit, row_meets_column}
use Rattle.pami_linear.proofs.Regular.{solution, one_solution}
use Rattle.pami_factoring.specs.Solve.{ColumnPivot}
use Rattle.pami_theory.specs.Form.{Form, limits, coefficient, zero_f}
use Rattle.pami_theory.specs.Basis.{stand_at, basis_column}
use Rattle.pami_theory.specs.Fresh.{row_at, column_at, value_at_place, IsFresh, standing_value}
use Rattle.pami_theory.specs.Step.{basis_after, flips_change}
use Rattle.pami_theory.proofs.Tables.{tabled, tabled_length, tabled_at}
use Rattle.pami_theory.proofs.Places.{nonbasic_standing}
use Rattle.pami_theory.proofs.Solved.{fresh_regular}
use Rattle.pami_method.specs.Batch.{Reached, Minor}
use Rattle.pami_method.specs.Work.{pivot_of, all_flips_change, all_flips_at, entering_value, leaving_bound}
use Rattle.pami_deferral.specs.Collected.{through, through_all, deferred_pivot, deferred_pivots, entered, departed, gathered, collected_values, reweighed, stepped_through}
use Rattle.pami_deferral.proofs.Systems.{solves_equal, solves_sub, solves_sum}
use Rattle.pami_deferral.proofs.Chains.{Links, IsChain, ended, linked, next_fresh, exchange_of, AllLeave, all_leave}
use Rattle.pami_deferral.proofs.Solutions.{solves_behind, side_behind, values_behind}

-- lists of one length with equal members
pub same_below : (n : ℕ) (xs ys : List Fraction) → length xs ≡ n → length ys ≡ n → ((i : ℕ) → i < n → get xs i ≡ get ys i) → xs ≡ ys
same_below n xs ys e f h = same_list xs ys (e ∙ sym f) (λ i l. h i (subst (λ n. i < n) e l))

-- ---- solutions go through the pivots
pub through_length : (e : ColumnPivot) (x : List Fraction) → length (through e x) ≡ length x
through_length e x = tabled_length (length x) (stepped e.place (get e.column) (get x e.place /ᶠ get e.column e.place) (get x))

pub through_at : (e : ColumnPivot) (x : List Fraction) (k : ℕ) → k < length x
    → get (through e x) k ≡ stepped e.place (get e.column) (get x e.place /ᶠ get e.column e.place) (get x) k
through_at e x k l = tabled_at (length x) (stepped e.place (get e.column) (get x e.place /ᶠ get e.column e.place) (get x)) k zero_f l

pub through_all_length : (es : List ColumnPivot) (x : List Fraction) → length (through_all es x) ≡ length x
through_all_length [] x = refl
through_all_length (e ∷ es) x = through_all_length es (through e x) ∙ through_length e x

through_link : (f : Form) (m : Minor) (next : Reached) (x : List Fraction) (r : ℕ → Fraction) → Links f m next → length x ≡ f.rows
    → Solves f.rows (basis_column f m.reached.basis) (get x) r →
    Solves f.rows (basis_column f next.basis) (get (through (pivot_of m) x)) r
through_link f m next x r k l e =
    subst (λ b. Solves f.rows (basis_column f b) (get (through (pivot_of m) x)) r) (sym k.reaches.basis)
    (solves_equal f.rows (basis_column f (basis_after m.reached.basis m.step)) _ (get (through (pivot_of m) x)) r r
    (λ j h. sym (through_at (pivot_of m) x j (subst (λ n. j < n) (sym l) h))) (λ i h. refl)
    (solves_behind f m.reached.basis m.reached.fresh m.row.place m.row.violation m.step (get x) r k.step e))

pub through_chain : (f : Form) (first : Reached) (ms : List Minor) (last : Reached) (x : List Fraction) (r : ℕ → Fraction)
    → IsChain f first ms last → length x ≡ f.rows →
    Solves f.rows (basis_column f first.basis) (get x) r
    → Solves f.rows (basis_column f last.basis) (get (through_all (map pivot_of ms) x)) r
through_chain f _ _ _ x r (ended first) l e = e
through_chain f _ _ _ x r (linked m next ms last k rest) l e =
    through_chain f next ms last (through (pivot_of m) x) r rest (through_length (pivot_of m) x ∙ l) (through_link f m next x r k l e)

-- ---- the pivots are those with fresh columns
pub chain_more : (f : Form) (first : Reached) (es : List Minor) (m : Minor) (next : Reached) → IsChain f first es m.reached
    → Links f m next → IsChain f first (es ++ m ∷ []) next
chain_more f first es m next h k = go first es m.reached h refl
  where
    go : (first : Reached) (es : List Minor) (r : Reached) → IsChain f first es r → r ≡ m.reached → IsChain f first (es ++ m ∷ []) next
    go _ _ _ (ended r) e = subst (λ r. IsChain f r (m ∷ []) next) (sym e) (linked m next [] next k (ended next))
    go _ _ _ (linked n then es r j rest) e = linked n then (es ++ m ∷ []) next j (go then es r rest e)

pub deferred_column : (f : Form) (first : Reached) (es : List Minor) (m : Minor) (next : Reached) → IsFresh f first.basis first.fresh
    → IsChain f first es m.reached → Links f m next →
    through_all (map pivot_of es) (column_at first.fresh m.step.entering) ≡ column_at m.reached.fresh m.step.entering
deferred_column f first es m next s h k =
    let q : ℕ = m.step.entering in
    let l = (exchange_of f m next k).within in
    let fresh = k.step.fresh in
    one_solution_list f.rows (basis_column f m.reached.basis) (coefficient f q) (through_all (map pivot_of es) (column_at first.fresh q))
    (column_at m.reached.fresh q)
    (fresh_regular f m.reached.basis m.reached.fresh fresh)
    (through_all_length (map pivot_of es) (column_at first.fresh q) ∙ s.column_by_place q l) (fresh.column_by_place q l)
    (through_chain f first es m.reached (column_at first.fresh q) (coefficient f q) h (s.column_by_place q l) (s.column q l))
    (fresh.column q l)

pub map_more : (es : List Minor) (m : Minor) → map pivot_of es ++ pivot_of m ∷ [] ≡ map pivot_of (es ++ m ∷ [])
map_more [] m = refl
map_more (e ∷ es) m = ap (λ ps. pivot_of e ∷ ps) (map_more es m)

deferred_from : (f : Form) (first : Reached) (es : List Minor) (r : Reached) (ms : List Minor) (last : Reached)
    → IsFresh f first.basis first.fresh → IsChain f first es r → IsChain f r ms last →
    deferred_pivots first (map pivot_of es) ms ≡ map pivot_of ms
deferred_from f first es _ _ _ s h (ended r) = refl
deferred_from f first es _ _ _ s h (linked m next ms last k rest) =
    let one : deferred_pivot first (map pivot_of es) m ≡ pivot_of m =
    ap (λ c. record { place = m.step.place; column = c }) (deferred_column f first es m next s h k) in
    ap (λ e. e ∷ deferred_pivots first (map pivot_of es ++ e ∷ []) ms) one
    ∙ ap (λ ps. pivot_of m ∷ deferred_pivots first ps ms) (map_more es m)
    ∙ ap (λ ps. pivot_of m ∷ ps) (deferred_from f first (es ++ m ∷ []) next ms last s (chain_more f first es m next h k) rest)

pub deferred_are : (f : Form) (first : Reached) (ms : List Minor) (last : Reached) → IsFresh f first.basis first.fresh
    → IsChain f first ms last → deferred_pivots first [] ms ≡ map pivot_of ms
deferred_are f first ms last s h = deferred_from f first [] first ms last s (ended first) h

-- ---- what the values solve
abbrev entered_columns : Form → List Minor → ℕ → Fraction
entered_columns f [] i = zero_f
entered_columns f (m ∷ ms) i = entering_value m *ᶠ coefficient f m.step.entering i +ᶠ entered_columns f ms i

abbrev departed_columns : Form → List Minor → ℕ → Fraction
departed_columns f [] i = zero_f
departed_columns f (m ∷ ms) i = leaving_bound f m *ᶠ coefficient f m.step.leaving i +ᶠ departed_columns f ms i

-- the right side behind a batch
abbrev side_after : Form → List Minor → (ℕ → Fraction) → ℕ → Fraction
side_after f ms r i = ((r i -ᶠ all_flips_change f ms i) +ᶠ entered_columns f ms i) -ᶠ departed_columns f ms i

-- minor by minor
values_chain : (f : Form) (first : Reached) (ms : List Minor) (last : Reached) (r : ℕ → Fraction) → IsChain f first ms last →
    Solves f.rows (basis_column f first.basis) (value_at_place first.basis first.fresh) r →
    Solves f.rows (basis_column f last.basis) (value_at_place last.basis last.fresh) (side_after f ms r)
values_chain f _ _ _ r (ended n) e =
    solves_equal f.rows (basis_column f n.basis) (value_at_place n.basis n.fresh) (value_at_place n.basis n.fresh) r (side_after f [] r)
    (λ k l. refl)
    (λ i l. by_ring_f (r i ∷ []) (var 0) (((var 0 ⊕ ⊖ t0) ⊕ t0) ⊕ ⊖ t0) refl) e
values_chain f _ _ _ r (linked m next ms last k rest) e =
    let side : ℕ → Fraction = side_behind f m.reached.basis m.reached.fresh m.step r in
    solves_equal f.rows (basis_column f last.basis) (value_at_place last.basis last.fresh) (value_at_place last.basis last.fresh)
    (side_after f ms side) (side_after f (m ∷ ms) r) (λ j l. refl)
    (λ i l. by_ring_f
    (r i ∷ flips_change f m.reached.basis m.step.flips i ∷ entering_value m ∷ coefficient f m.step.entering i ∷ leaving_bound f m ∷ coefficient f m.step.leaving i
    ∷ all_flips_change f ms i ∷ entered_columns f ms i ∷ departed_columns f ms i ∷ [])
    (((((var 0 ⊕ ⊖ (var 1)) ⊕ var 2 ⊗ var 3) ⊕ ⊖ (var 4 ⊗ var 5) ⊕ ⊖ (var 6)) ⊕ var 7) ⊕ ⊖ (var 8))
    (((var 0 ⊕ ⊖ (var 1 ⊕ var 6)) ⊕ (var 2 ⊗ var 3 ⊕ var 7)) ⊕ ⊖ (var 4 ⊗ var 5 ⊕ var 8)) refl)
    (values_chain f next ms last side rest
    (subst (λ b. Solves f.rows (basis_column f b) (value_at_place b next.fresh) side) (sym k.reaches.basis)
    (values_behind f m.reached.basis m.reached.fresh m.row.place m.row.violation m.step next.fresh r k.step (next_fresh f m next k) e)))

-- and all at once by the first basis
pub flips_solve : (f : Form) (first : Reached) (ms : List Minor) → IsFresh f first.basis first.fresh
    → Solves f.rows (basis_column f first.basis) (all_flips_at f first ms) (all_flips_change f ms)
flips_solve f first ms s =
    let z = solution f.rows (basis_column f first.basis) (all_flips_change f ms) (fresh_regular f first.basis first.fresh s) in
    solves_equal f.rows (basis_column f first.basis) z.0 (all_flips_at f first ms) (all_flips_change f ms) (all_flips_change f ms)
    (λ k l. sym (row_meets_column f.rows k (basis_column f first.basis) z.0 (all_flips_change f ms) (get (row_at first.fresh k)) l z.1
    (s.row k l))) (λ i l. refl) z.1

times_first : (t x y : Fraction) → y +ᶠ t *ᶠ x ≡ t *ᶠ x +ᶠ y
times_first t x y = by_ring_f (t ∷ x ∷ y ∷ []) (var 2 ⊕ var 0 ⊗ var 1) (var 0 ⊗ var 1 ⊕ var 2) refl

entered_solve : (f : Form) (first : Reached) (ms : List Minor) → IsFresh f first.basis first.fresh → AllLeave f first ms
    → Solves f.rows (basis_column f first.basis) (entered first ms) (entered_columns f ms)
entered_solve f first [] s a = solves_zero f.rows (basis_column f first.basis)
entered_solve f first (m ∷ ms) s a =
    let q : ℕ = m.step.entering in
    let v : Fraction = entering_value m in
    solves_equal f.rows (basis_column f first.basis) _ _ _ _
    (λ k l. times_first v (get (column_at first.fresh q) k) (entered first ms k))
    (λ i l. times_first v (coefficient f q i) (entered_columns f ms i))
    (solves_add f.rows (basis_column f first.basis) (entered first ms) (get (column_at first.fresh q)) (entered_columns f ms)
    (coefficient f q) v (entered_solve f first ms s a.1) (s.column q a.0.within))

departed_solve : (f : Form) (first : Reached) (ms : List Minor) → AllLeave f first ms
    → Solves f.rows (basis_column f first.basis) (departed f ms) (departed_columns f ms)
departed_solve f first [] a = solves_zero f.rows (basis_column f first.basis)
departed_solve f first (m ∷ ms) a =
    let p : ℕ = m.step.place in
    let bound : Fraction = leaving_bound f m in
    solves_equal f.rows (basis_column f first.basis) _ _ _ _
    (λ k l. times_first bound (unit p k) (departed f ms k))
    (λ i l. times_first bound (basis_column f first.basis p i) (departed_columns f ms i)
    ∙ ap (λ u. bound *ᶠ coefficient f u i +ᶠ departed_columns f ms i) (sym a.0.leaving))
    (solves_add f.rows (basis_column f first.basis) (departed f ms) (unit p) (departed_columns f ms) (basis_column f first.basis p) bound
    (departed_solve f first ms a.1)
    (solves_unit f.rows p (basis_column f first.basis) a.0.place))

-- what the first values solve, whatever that is
first_side : Form → Reached → ℕ → Fraction
first_side f first i = sum_to f.rows (λ k. basis_column f first.basis k i *ᶠ value_at_place first.basis first.fresh k)

first_solve : (f : Form) (first : Reached)
    → Solves f.rows (basis_column f first.basis) (value_at_place first.basis first.fresh) (first_side f first)
unfolding first_side
first_solve f first = record { at = λ i l. refl }

gathered_solve : (f : Form) (first : Reached) (ms : List Minor) → IsFresh f first.basis first.fresh → AllLeave f first ms
    → Solves f.rows (basis_column f first.basis) (gathered f first ms) (side_after f ms (first_side f first))
gathered_solve f first ms s a =
    solves_sub f.rows (basis_column f first.basis) _ (departed f ms) _ (departed_columns f ms)
    (solves_sum f.rows (basis_column f first.basis) _ (entered first ms) _ (entered_columns f ms)
    (solves_sub f.rows (basis_column f first.basis) (value_at_place first.basis first.fresh) (all_flips_at f first ms) (first_side f first)
    (all_flips_change f ms) (first_solve f first) (flips_solve f first ms s))
    (entered_solve f first ms s a))
    (departed_solve f first ms a)

-- ---- so they are the values behind the batch
pub collected_are : (f : Form) (first : Reached) (ms : List Minor) (last : Reached) → IsFresh f first.basis first.fresh
    → IsFresh f last.basis last.fresh → IsChain f first ms last →
    collected_values f first ms ≡ map (value_at_place last.basis last.fresh) (range_with_len 0 f.rows)
collected_are f first ms last s g h =
    let n : ℕ = f.rows in
    let y : List Fraction = tabled n (gathered f first ms) in
    let ly : length y ≡ n = tabled_length n (gathered f first ms) in
    let side : ℕ → Fraction = side_after f ms (first_side f first) in
    let b = basis_column f last.basis in
    let solved : Solves n b (get (through_all (map pivot_of ms) y)) side =
    through_chain f first ms last y side h ly
    (solves_equal n (basis_column f first.basis) (gathered f first ms) (get y) side side
    (λ k l. sym (tabled_at n (gathered f first ms) k zero_f l)) (λ i l. refl)
    (gathered_solve f first ms s (all_leave f first ms last h))) in
    ap (λ es. through_all es y) (deferred_are f first ms last s h)
    ∙ same_below n (through_all (map pivot_of ms) y) (tabled n (value_at_place last.basis last.fresh))
    (through_all_length (map pivot_of ms) y ∙ ly) (tabled_length n (value_at_place last.basis last.fresh))
    (λ k l. one_solution n b (get (through_all (map pivot_of ms) y)) (value_at_place last.basis last.fresh) side
    (fresh_regular f last.basis last.fresh g) solved
    (values_chain f first ms last (first_side f first) h (first_solve f first)) k l
    ∙ sym (tabled_at n (value_at_place last.basis last.fresh) k zero_f l))

-- ---- the rest of the state
weights_chain : (f : Form) (first : Reached) (ms : List Minor) (last : Reached) → IsChain f first ms last
    → reweighed (map pivot_of ms) first.weights ≡ last.weights
weights_chain f _ _ _ (ended r) = refl
weights_chain f _ _ _ (linked m next ms last k rest) = ap (reweighed (map pivot_of ms)) (sym k.reaches.weights)
    ∙ weights_chain f next ms last rest

pub weights_are : (f : Form) (first : Reached) (ms : List Minor) (last : Reached) → IsFresh f first.basis first.fresh
    → IsChain f first ms last → reweighed (deferred_pivots first [] ms) first.weights ≡ last.weights
weights_are f first ms last s h = ap (λ es. reweighed es first.weights) (deferred_are f first ms last s h) ∙ weights_chain f first ms last h

pub basis_is : (f : Form) (first : Reached) (ms : List Minor) (last : Reached) → IsChain f first ms last
    → stepped_through ms first.basis ≡ last.basis
basis_is f _ _ _ (ended r) = refl
basis_is f _ _ _ (linked m next ms last k rest) = ap (stepped_through ms) (sym k.reaches.basis) ∙ basis_is f next ms last rest

-- the value of a variable that enters is that at which it stands then
pub entering_stands : (f : Form) (m : Minor) (next : Reached) → Links f m next
    → entering_value m ≡ standing_value (limits f m.step.entering) (stand_at m.reached.basis m.step.entering)
entering_stands f m next k =
    let x = exchange_of f m next k in
    nonbasic_standing f m.reached.basis (get m.reached.fresh.values) m.step.entering k.step.fresh.values x.within x.enters
