-- A Minor behind a step, all of which is taken in, is fresh at the next basis.
use Rattle.std.proofs.Common.{◌≡◌, ℕ, ◌*◌, ◌<◌, ⊎_elim, cond, List, [], ◌∷◌, length, take, drop, refl, sym, ap, ◌∙◌, subst, arith}
use Rattle.std.proofs.lemmas.Bool.{cases_eq, lt-ltb}
use Rattle.pami_linear.specs.Lists.{get}
use Rattle.pami_linear.proofs.Lists.{same_list}
use Rattle.pami_theory.specs.Form.{Form, variables}
use Rattle.pami_theory.specs.Fresh.{column_at}
use Rattle.pami_theory.specs.Weights.{weight_at, weight_after, weights_after, clamped}
use Rattle.pami_theory.specs.Choice.{InfeasibleRow}
use Rattle.pami_theory.proofs.Tables.{tabled_length, tabled_at}
use Rattle.pami_method.specs.Batch as batch
use Rattle.pami_method.specs.Batch.{Reached}
use Rattle.pami_price.specs.Slices.{slices}
use Rattle.pami_algebra.specs.Size.{size}
use Rattle.pami_devex.specs.Weights.{IsWeight, AreWeights, weight_beside, weight_at_pivot}
use Rattle.pami_devex.proofs.Reweighed.{pivot_weight, other_weight, beside_in_range, halved_in_range}
use Rattle.pami_deferral.proofs.Chains.{pivot_links, next_basis}
use Rattle.pami_deferral.proofs.Pivots.{next_placed, step_place}
use Rattle.pami_algebra.specs.Fraction.{Fraction}
use Rattle.pami_minor.specs.declared.kept.Kept.{Kept}
use Rattle.pami_minor.specs.declared.minor.Minor.{Minor}
use Rattle.pami_minor.specs.Fresh.{AreFreshRows, IsFreshMinor, IsStepping}
use Rattle.pami_minor.proofs.Nth.{next_apart}

all_rows : (f : Form) (n r : Reached) (ks : List Kept) (xs : List InfeasibleRow) → AreFreshRows f n (take (length xs) ks) (take (length xs) xs)
    → AreFreshRows f r (drop (length xs) ks) (drop (length xs) xs) → AreFreshRows f n ks xs
all_rows f n r [] [] h a = tt
all_rows f n r [] (y ∷ ys) h a = absurd h
all_rows f n r (k ∷ ks) [] h a = absurd a
all_rows f n r (k ∷ ks) (y ∷ ys) h a = (h.0, all_rows f n r ks ys h.1 a)

enough : (n v : ℕ) → v < n → v < 64 * slices n
enough n v l = omega arith

-- weights behind a pivot are weights
weights_range : (alpha : List Fraction) (p : ℕ) (old new : List ℕ) → new ≡ weights_after alpha p old → AreWeights old → p < length old → AreWeights new
weights_range alpha p old new e a l = subst AreWeights (sym e) (λ i m.
    let many = tabled_length (length old) (weight_after alpha p old) in
    let low : i < length old = omega (arith, m, many) in
    subst IsWeight (sym (tabled_at (length old) (weight_after alpha p old) i 1 low))
    (⊎_elim
    (λ (s : i ≡ p). subst IsWeight
    (pivot_weight p (get alpha p) (weight_at old p) i (get alpha i) (weight_at old i) (weight_at_pivot (weight_at old p) (get alpha p)) s refl)
    (halved_in_range (weight_at old p) (2 * clamped (size (get alpha p))) (a p l)))
    (λ (s : ¬ (i ≡ p)). subst IsWeight
    (other_weight p (get alpha p) (weight_at old p) i (get alpha i) (weight_at old i)
    (weight_beside (weight_at old i) (get alpha i) (get alpha p) (weight_at old p)) s refl)
    (beside_in_range (weight_at old i) (get alpha i) (get alpha p) (weight_at old p) (a i low)))
    (cases_eq i p)))

pub fresh_again : (f : Form) (limit : ℕ) (m : batch.Minor) (next : Reached) (minor : Minor)
    → IsStepping f limit m next (length next.rows) (slices (variables f)) minor → IsFreshMinor f limit next minor
fresh_again f limit m next minor h =
    let links = pivot_links f limit m next h.pivot in
    let fresh = h.pivot.behind.fresh in
    let many = h.shifted.by_variable in
    record {
      reached = record {
        basis = next_basis f m next links;
        fresh = fresh;
        placed = next_placed f m next links h.reached.placed;
        apart = next_apart f limit m next (length next.rows) (slices (variables f)) minor h;
        range = weights_range (column_at m.reached.fresh m.step.entering) m.step.place m.reached.weights next.weights h.pivot.behind.weights h.reached.range
            (let low = links.step.place in let same = step_place f m next links in let n = h.reached.placed.weights in omega (arith, low, same, n));
      };
      head = h.head;
      stands = h.stands;
      reduced = same_list minor.reduced.items next.fresh.reduced (many ∙ sym fresh.reduced_by_variable)
          (λ v l.
          let low : v < variables f = omega (arith, l, many) in
          h.shifted.at v low ∙ ap (λ c. cond c (get next.fresh.reduced v) (get m.reached.fresh.reduced v)) (lt-ltb v (64 * slices (variables f)) (enough (variables f) v low)));
      limited = h.limited;
      rows = all_rows f next m.reached minor.rows.items next.rows h.reached_rows h.other_rows;
      remaining = h.remaining;
      room = h.room;
    }
