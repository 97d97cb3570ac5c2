-- What one pivot makes of the inside of a batch is fresh behind it, where it was fresh before.
use Rattle.std.proofs.Common.{◌≡◌, ℕ, suc, ◌<◌, ⊎_elim, Bool, true, false, not, nat_eq, cond, List, [], ◌∷◌, length, map, refl, sym, ap, ◌∙◌, subst, true≢false}
use Rattle.std.specs.List.{filter, range_with_len}
use Rattle.std.proofs.lemmas.Bool.{cases_eq, cond-true, cond-false, eq-eqb, ne_eqb}
use Rattle.pami_algebra.specs.Fraction.{Fraction}
use Rattle.pami_algebra.specs.Operations.{◌-ᶠ◌, ◌*ᶠ◌, ◌/ᶠ◌, neg_f}
use Rattle.pami_algebra.specs.Ring.{var, t0, ◌⊕◌, ◌⊗◌, ⊖}
use Rattle.pami_algebra.proofs.Laws.{by_ring_f}
use Rattle.pami_algebra.proofs.Field.{neg_nil_f}
use Rattle.pami_linear.specs.Lists.{get}
use Rattle.pami_linear.specs.Sums.{dot}
use Rattle.pami_linear.proofs.Sums.{unit_other}
use Rattle.pami_theory.specs.Form.{Form, variables, limits, coefficient, zero_f}
use Rattle.pami_theory.specs.Basis.{Basis, head_at, stand_at}
use Rattle.pami_theory.specs.declared.words.Stand.{Stand}
use Rattle.pami_theory.specs.declared.words.Stand.TheVariants.{Basic, Lower, Upper, Zero}
use Rattle.pami_theory.specs.Fresh.{row_at, column_at, value_at_place}
use Rattle.pami_theory.specs.Violation.{passed_bound}
use Rattle.pami_theory.specs.declared.words.Side.{Side}
use Rattle.pami_theory.specs.declared.words.Side.TheVariants.{Above, Below}
use Rattle.pami_theory.specs.Ratio.{row_entry, toward}
use Rattle.pami_theory.specs.Step.{Step, flips_change, theta}
use Rattle.pami_theory.specs.Weights.{weight_at, weight_after}
use Rattle.pami_theory.specs.Choice.{InfeasibleRow}
use Rattle.pami_theory.proofs.Tables.{tabled, tabled_length, tabled_at}
use Rattle.pami_theory.proofs.Members.{filter_has, contains_from, has_from}
use Rattle.pami_theory.proofs.Solved.{row_entry_is, basic_entry}
use Rattle.pami_theory.proofs.Steps.{step_is}
use Rattle.pami_theory.proofs.NextRows as rows
use Rattle.pami_theory.proofs.NextCosts.{step_reduced, step_leaving, step_entering}
use Rattle.pami_theory.proofs.NextValues.{place_value_other}
use Rattle.pami_method.specs.Batch.{Reached, Minor, is_attractive, staying}
use Rattle.pami_method.specs.Scripts.{is_nonbasic}
use Rattle.pami_deferral.specs.Inside.{KeptRow, fresh_row, fresh_inside, place_of, row_for, value_for, weight_for, kept_staying, kept_theta, value_behind, rho_behind, weight_beside, weight_behind, row_behind, cost_behind, inside_behind, IsPlaced}
use Rattle.pami_deferral.proofs.Filters.{filter-map, map-map, map_same}
use Rattle.pami_deferral.proofs.KeptTurns.{row_is, value_is, weight_is, staying_is}
use Rattle.pami_deferral.proofs.CollectedValues.{same_below}
use Rattle.pami_deferral.proofs.Chains.{HasPlace, Links, next_fresh, exchange_of, remained}

-- the remaining places exist, and there is a weight for each place
pub place_low : (f : Form) (r : Reached) (p : ℕ) → IsPlaced f r → HasPlace r.rows p → p < f.rows
place_low f r p h q = subst (λ i. i < f.rows) q.2 (h.rows q.0 (contains_from r.rows q.0 q.1))

pub next_placed : (f : Form) (m : Minor) (next : Reached) → Links f m next → IsPlaced f m.reached → IsPlaced f next
next_placed f m next k h = record {
  rows = λ row q. place_low f m.reached row.place h (remained f m next row.place k.reaches (row, has_from next.rows row q, refl)).0;
  weights = ap length k.reaches.weights
      ∙ tabled_length (length m.reached.weights) (weight_after (column_at m.reached.fresh m.step.entering) m.step.place m.reached.weights)
      ∙ h.weights;
}

-- ---- the pivot's place, by what is kept
pivot_row_is : (f : Form) (m : Minor) (next : Reached) → Links f m next
    → row_for (fresh_inside m.reached) m.step.place ≡ row_at m.reached.fresh m.step.place
pivot_row_is f m next k = row_is m.reached m.step.place k.place

theta_by : Form → Basis → Step → List Fraction → Fraction → Fraction
theta_by f b t rho x =
    ((x -ᶠ dot f.rows (get rho) (flips_change f b t.flips)) -ᶠ passed_bound (limits f t.leaving) t.side) /ᶠ row_entry f rho t.entering

pub theta_is : (f : Form) (m : Minor) (next : Reached) → Links f m next
    → kept_theta f (fresh_inside m.reached) m.step ≡ theta f m.reached.basis m.reached.fresh m.step
unfolding theta_by
theta_is f m next k =
    let d = fresh_inside m.reached in
    ap (λ rho. theta_by f m.reached.basis m.step rho (value_for d m.step.place)) (pivot_row_is f m next k)
    ∙ ap (theta_by f m.reached.basis m.step (row_at m.reached.fresh m.step.place)) (value_is m.reached m.step.place k.place)

-- ---- a row that remains
pub value_there : (f : Form) (m : Minor) (next : Reached) (row : InfeasibleRow) → Links f m next → row.place < f.rows
    → ¬ (row.place ≡ m.step.place) →
    value_behind f (fresh_inside m.reached) m.step (fresh_row m.reached row) ≡ value_at_place next.basis next.fresh row.place
value_there f m next row k l n =
    let r = m.reached in
    let t = m.step in
    ap (λ th. (value_at_place r.basis r.fresh row.place -ᶠ dot f.rows (get (row_at r.fresh row.place))
    (flips_change f r.basis t.flips)) -ᶠ th *ᶠ row_entry f (row_at r.fresh row.place) t.entering) (theta_is f m next k)
    ∙ sym (place_value_other f r.basis r.fresh m.row.place m.row.violation t next.fresh row.place k.step (next_fresh f m next k) l n)
    ∙ ap (λ b. value_at_place b next.fresh row.place) (sym k.reaches.basis)

pub rho_there : (f : Form) (m : Minor) (next : Reached) (row : InfeasibleRow) → Links f m next → row.place < f.rows
    → ¬ (row.place ≡ m.step.place) →
    rho_behind f (fresh_inside m.reached) m.step (fresh_row m.reached row) ≡ row_at next.fresh row.place
rho_there f m next row k l n =
    let r = m.reached in
    let t = m.step in
    let fresh = next_fresh f m next k in
    let g : List Fraction → ℕ
    → Fraction =
    λ rho h. get (row_at r.fresh row.place) h -ᶠ
    (row_entry f (row_at r.fresh row.place) t.entering /ᶠ row_entry f rho t.entering) *ᶠ get rho h in
    ap (λ rho. tabled f.rows (g rho)) (pivot_row_is f m next k)
    ∙ same_below f.rows (tabled f.rows (g (row_at r.fresh t.place))) (row_at next.fresh row.place)
    (tabled_length f.rows (g (row_at r.fresh t.place))) (fresh.row_by_row row.place l)
    (λ i j. tabled_at f.rows (g (row_at r.fresh t.place)) i zero_f j
    ∙ sym (rows.row_behind f r.basis r.fresh m.row.place m.row.violation t next.fresh row.place i k.step fresh l j n))

weight_by : (alpha : List Fraction) (p : ℕ) (weights : List ℕ) (i : ℕ) → ¬ (i ≡ p)
    → weight_after alpha p weights i ≡ weight_beside (weight_at weights i) (get alpha i) (get alpha p) (weight_at weights p)
weight_by alpha p weights i n = cond-false (nat_eq i p) _ _ (ne_eqb i p n)

pub weight_there : (f : Form) (m : Minor) (next : Reached) (row : InfeasibleRow) → Links f m next → IsPlaced f m.reached
    → row.place < f.rows → ¬ (row.place ≡ m.step.place) →
    weight_behind f (fresh_inside m.reached) m.step (fresh_row m.reached row) ≡ weight_at next.weights row.place
weight_there f m next row k h l n =
    let r = m.reached in
    let t = m.step in
    let i : ℕ = row.place in
    let x = exchange_of f m next k in
    let fresh = k.step.fresh in
    let alpha : List Fraction = column_at r.fresh t.entering in
    ap (λ rho. weight_beside (weight_at r.weights i) (row_entry f (row_at r.fresh i) t.entering) (row_entry f rho t.entering)
    (weight_for (fresh_inside r) t.place)) (pivot_row_is f m next k)
    ∙ ap (weight_beside (weight_at r.weights i) (row_entry f (row_at r.fresh i) t.entering)
    (row_entry f (row_at r.fresh t.place) t.entering)) (weight_is r t.place k.place)
    ∙ ap (λ a. weight_beside (weight_at r.weights i) a (row_entry f (row_at r.fresh t.place) t.entering) (weight_at r.weights t.place))
    (row_entry_is f r.basis r.fresh i t.entering fresh l x.within)
    ∙ ap (λ a. weight_beside (weight_at r.weights i) (get alpha i) a (weight_at r.weights t.place))
    (row_entry_is f r.basis r.fresh t.place t.entering fresh x.place x.within)
    ∙ sym (weight_by alpha t.place r.weights i n)
    ∙ sym (tabled_at (length r.weights) (weight_after alpha t.place r.weights) i 1 (subst (λ c. i < c) (sym h.weights) l))
    ∙ ap (λ ws. weight_at ws i) (sym k.reaches.weights)

row_there : (f : Form) (m : Minor) (next : Reached) (row : InfeasibleRow) → Links f m next → IsPlaced f m.reached → row.place < f.rows
    → ¬ (row.place ≡ m.step.place) →
    row_behind f (fresh_inside m.reached) m.step (fresh_row m.reached row) ≡ fresh_row next row
row_there f m next row k h l n =
    let d = fresh_inside m.reached in
    let kept = fresh_row m.reached row in
    ap (λ rho. record { place = row.place; merit = row.merit; rho = rho; value = value_behind f d m.step kept; weight = weight_behind f d m.step kept })
    (rho_there f m next row k l n)
    ∙ ap (λ x. record { place = row.place; merit = row.merit; rho = row_at next.fresh row.place; value = x; weight = weight_behind f d m.step kept })
    (value_there f m next row k l n)
    ∙ ap (λ w. record {
      place = row.place;
      merit = row.merit;
      rho = row_at next.fresh row.place;
      value = value_at_place next.basis next.fresh row.place;
      weight = w;
    }) (weight_there f m next row k h l n)

not_true : (b : Bool) → not b ≡ true → b ≡ false
not_true true e = sym e
not_true false e = refl

rows_there : (f : Form) (m : Minor) (next : Reached) → Links f m next → IsPlaced f m.reached →
    map (row_behind f (fresh_inside m.reached) m.step)
    (filter (λ k. not (nat_eq (place_of k) m.step.place)) (kept_staying f (fresh_inside m.reached))) ≡ map (fresh_row next) next.rows
rows_there f m next k h =
    let r = m.reached in
    let left : InfeasibleRow → Bool = λ (row : InfeasibleRow). not (nat_eq row.place m.step.place) in
    ap (λ ks. map (row_behind f (fresh_inside r) m.step) (filter (λ k. not (nat_eq (place_of k) m.step.place)) ks)) (staying_is f r)
    ∙ ap (map (row_behind f (fresh_inside r) m.step)) (filter-map (λ k. not (nat_eq (place_of k) m.step.place)) (fresh_row r) (staying f r))
    ∙ map-map (row_behind f (fresh_inside r) m.step) (fresh_row r) (filter left (staying f r))
    ∙ map_same (λ row. row_behind f (fresh_inside r) m.step (fresh_row r row)) (fresh_row next) (filter left (staying f r))
    (λ row q. let c = filter_has left (staying f r) row q in
    let has : HasPlace r.rows row.place = (row, (filter_has (is_attractive f r) r.rows row c.0).0, refl) in
    row_there f m next row k h (place_low f r row.place h has)
    (λ e. true≢false (sym (eq-eqb row.place m.step.place e) ∙ not_true (nat_eq row.place m.step.place) c.1)))
    ∙ ap (map (fresh_row next)) (sym k.reaches.rows)

-- ---- the reduced costs
-- the step is at the place of its row, on the side of its violation
pub step_place : (f : Form) (m : Minor) (next : Reached) → Links f m next → m.step.place ≡ m.row.place
step_place f m next k = ap (λ (t : Step). t.place) (step_is f m.reached.basis m.reached.fresh m.row.place m.row.violation m.step k.step)

pub step_side : (f : Form) (m : Minor) (next : Reached) → Links f m next → m.step.side ≡ m.row.violation.side
step_side f m next k = ap (λ (t : Step). t.side) (step_is f m.reached.basis m.reached.fresh m.row.place m.row.violation m.step k.step)

toward_nil : (side : Side) (a : Fraction) → a ≡ zero_f → toward side a ≡ zero_f
toward_nil Above a e = e
toward_nil Below a e = ap neg_f e ∙ neg_nil_f

-- of any variable, by the fresh row of the pivot's place
cost_moves : (f : Form) (m : Minor) (next : Reached) (u : ℕ) → Links f m next → u < variables f →
    get next.fresh.reduced u ≡ get m.reached.fresh.reduced u -ᶠ m.step.tau *ᶠ toward m.step.side
    (row_entry f (row_at m.reached.fresh m.step.place) u)
cost_moves f m next u k l =
    let r = m.reached in
    step_reduced f r.basis r.fresh m.row.place m.row.violation m.step next.fresh u k.step (next_fresh f m next k) l
    ∙ ap (λ side. get r.fresh.reduced u -ᶠ m.step.tau *ᶠ toward side (row_entry f (row_at r.fresh m.row.place) u))
    (sym (step_side f m next k))
    ∙ ap (λ p. get r.fresh.reduced u -ᶠ m.step.tau *ᶠ toward m.step.side (row_entry f (row_at r.fresh p) u)) (sym (step_place f m next k))

-- one that stays basic has none
basic_stays : (f : Form) (m : Minor) (next : Reached) (u : ℕ) → Links f m next → u < variables f → stand_at m.reached.basis u ≡ Basic
    → ¬ (u ≡ m.step.leaving) →
    get next.fresh.reduced u ≡ get m.reached.fresh.reduced u
basic_stays f m next u k l e n =
    let r = m.reached in
    let x = exchange_of f m next k in
    let p = k.step.basis.placed u l e in
    let d : Fraction = get r.fresh.reduced u in
    let none : row_entry f (row_at r.fresh m.step.place) u ≡ zero_f =
    ap (λ w. dot f.rows (get (row_at r.fresh m.step.place)) (coefficient f w)) (sym p.2)
    ∙ basic_entry f r.basis r.fresh m.step.place p.0 k.step.fresh x.place p.1
    ∙ unit_other m.step.place p.0 (λ q. n (sym p.2 ∙ ap (head_at r.basis) (sym q) ∙ sym x.leaves)) in
    cost_moves f m next u k l
    ∙ ap (λ a. d -ᶠ m.step.tau *ᶠ a) (toward_nil m.step.side (row_entry f (row_at r.fresh m.step.place) u) none)
    ∙ by_ring_f (d ∷ m.step.tau ∷ []) (var 0 ⊕ ⊖ (var 1 ⊗ t0)) (var 0) refl

by_stand : (s : Stand) (x y z : Fraction) → z ≡ x → (s ≡ Basic → z ≡ y) → cond (is_nonbasic s) x y ≡ z
by_stand Basic x y z h k = sym (k refl)
by_stand Lower x y z h k = sym h
by_stand Upper x y z h k = sym h
by_stand Zero x y z h k = sym h

pub cost_there : (f : Form) (m : Minor) (next : Reached) (u : ℕ) → Links f m next → u < variables f
    → cost_behind f (fresh_inside m.reached) m.step u ≡ get next.fresh.reduced u
cost_there f m next u k l =
    let r = m.reached in
    let t = m.step in
    let x = exchange_of f m next k in
    let fresh = next_fresh f m next k in
    let d : Fraction = get r.fresh.reduced u in
    ⊎_elim
    (λ (e : u ≡ t.entering). cond-true (nat_eq u t.entering) zero_f _ (eq-eqb u t.entering e)
    ∙ sym (step_entering f r.basis r.fresh m.row.place m.row.violation t next.fresh k.step fresh) ∙ ap (get next.fresh.reduced) (sym e))
    (λ (n : ¬ (u ≡ t.entering)). cond-false (nat_eq u t.entering) zero_f _ (ne_eqb u t.entering n)
    ∙ ⊎_elim
    (λ (e : u ≡ t.leaving). cond-true (nat_eq u t.leaving) (neg_f (toward t.side t.tau)) _ (eq-eqb u t.leaving e)
    ∙ ap (λ side. neg_f (toward side t.tau)) (step_side f m next k)
    ∙ sym (step_leaving f r.basis r.fresh m.row.place m.row.violation t next.fresh k.step fresh)
    ∙ ap (λ p. get next.fresh.reduced (head_at r.basis p)) (sym (step_place f m next k))
    ∙ ap (get next.fresh.reduced) (sym x.leaves ∙ sym e))
    (λ (o : ¬ (u ≡ t.leaving)). cond-false (nat_eq u t.leaving) (neg_f (toward t.side t.tau)) _ (ne_eqb u t.leaving o)
    ∙ by_stand (stand_at r.basis u) (d -ᶠ t.tau *ᶠ toward t.side (row_entry f (row_for (fresh_inside r) t.place) u)) d
    (get next.fresh.reduced u)
    (cost_moves f m next u k l ∙ ap (λ rho. d -ᶠ t.tau *ᶠ toward t.side (row_entry f rho u)) (sym (pivot_row_is f m next k)))
    (λ e. basic_stays f m next u k l e o))
    (cases_eq u t.leaving))
    (cases_eq u t.entering)

costs_there : (f : Form) (m : Minor) (next : Reached) → Links f m next
    → map (cost_behind f (fresh_inside m.reached) m.step) (range_with_len 0 (variables f)) ≡ next.fresh.reduced
costs_there f m next k =
    let n : ℕ = variables f in
    let g : ℕ → Fraction = cost_behind f (fresh_inside m.reached) m.step in
    same_below n (tabled n g) next.fresh.reduced (tabled_length n g) (next_fresh f m next k).reduced_by_variable
    (λ u l. tabled_at n g u zero_f l ∙ cost_there f m next u k l)

-- ---- all of it
pub inside_is : (f : Form) (m : Minor) (next : Reached) → Links f m next → IsPlaced f m.reached
    → inside_behind f (fresh_inside m.reached) m.step ≡ fresh_inside next
inside_is f m next k h =
    let r = m.reached in
    let d = fresh_inside r in
    let left : List KeptRow = map (row_behind f d m.step) (filter (λ k. not (nat_eq (place_of k) m.step.place)) (kept_staying f d)) in
    let costs : List Fraction = map (cost_behind f d m.step) (range_with_len 0 (variables f)) in
    ap (λ b. record { basis = b; reduced = costs; count = suc r.count; rows = left }) (sym k.reaches.basis)
    ∙ ap (λ c. record { basis = next.basis; reduced = c; count = suc r.count; rows = left }) (costs_there f m next k)
    ∙ ap (λ n. record { basis = next.basis; reduced = next.fresh.reduced; count = n; rows = left }) (sym k.reaches.count)
    ∙ ap (λ ks. record { basis = next.basis; reduced = next.fresh.reduced; count = next.count; rows = ks }) (rows_there f m next k h)
