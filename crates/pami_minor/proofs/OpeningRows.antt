-- The rows with which a batch begins: at distinct places, and each kept as it is solved.
use Rattle.std.proofs.Common.{◌≡◌, ℕ, zero, suc, ◌+◌, ◌<◌, inl, inr, ⊎_elim, Bool, true, false, cond, nat_eq, ◌||◌, List, [], ◌∷◌, map, take, Option, None, Some, refl, sym, ap, ◌∙◌, arith, true≢false}
use Rattle.std.specs.List.{All, filter_map, range_with_len, cons_option}
use Rattle.std.specs.Option.{option_map}
use Rattle.std.proofs.lemmas.List.Elements.{All-nil, All-cons}
use Rattle.std.proofs.lemmas.Bool.{ne_eqb}
use Rattle.std.proofs.lemmas.Option.{none-some, same_Some}
use Rattle.pami_linear.specs.Lists.{get}
use Rattle.pami_theory.specs.Form.{Form, limits}
use Rattle.pami_theory.specs.Basis.{Basis, head_at}
use Rattle.pami_theory.specs.Fresh.{Fresh, value_at_place}
use Rattle.pami_theory.specs.Weights.{weight_at}
use Rattle.pami_theory.specs.declared.words.Violation.{Violation}
use Rattle.pami_theory.specs.Violation.{violation}
use Rattle.pami_theory.specs.Order.{put_in, ordered}
use Rattle.pami_theory.specs.Choice.{InfeasibleRow, row_of, infeasible_at, is_chosen_before, chosen, infeasible_rows}
use Rattle.pami_theory.specs.Step.{is_among}
use Rattle.pami_theory.proofs.Members.{Has, range_has}
use Rattle.pami_theory.proofs.Orders.{put_has, ordered_has}
use Rattle.pami_theory.proofs.Chosen.{filter_map_has}
use Rattle.pami_method.specs.Batch.{places}
use Rattle.pami_chuzr.specs.Choice.{chosen_row}
use Rattle.pami_chuzr.specs.declared.row.ChosenRow.{ChosenRow}
use Rattle.pami_form.specs.declared.form.Form.{Form as ProgramForm}
use Rattle.pami_state.specs.State.{basis_of}
use Rattle.pami_state.specs.Columns.{rows_of}
use Rattle.pami_state.specs.declared.state.State.{State}
use Rattle.pami_form.specs.FormOf.{form_of}
use Rattle.pami_minor.specs.Picks.{remaining_of}
use Rattle.pami_minor.specs.Fresh.{AreKnownRows, AreApart}
use Rattle.pami_minor.specs.Opening.{open_by, first_reached}
use Rattle.pami_minor.proofs.Places.{apart_from}

-- ---- distinct places
or_no : (b c : Bool) → b ≡ false → c ≡ false → (b || c) ≡ false
or_no true c e h = absurd (true≢false e)
or_no false c e h = h

not_place : (p : ℕ) (xs : List InfeasibleRow) → ((x : InfeasibleRow) → Has xs x → ¬ (x.place ≡ p)) → is_among p (places xs) ≡ false
not_place p [] n = refl
not_place p (x ∷ xs) n =
    or_no (nat_eq p x.place) (is_among p (places xs)) (ne_eqb p x.place (λ e. n x (inl refl) (sym e))) (not_place p xs (λ y m. n y (inr m)))

put_apart : (x : InfeasibleRow) (ys : List InfeasibleRow) → ((y : InfeasibleRow) → Has ys y → ¬ (y.place ≡ x.place)) → AreApart ys
    → AreApart (put_in is_chosen_before x ys)
put_apart x [] n a = (refl, tt)
put_apart x (y ∷ ys) n a =
    go (is_chosen_before x y)
    (not_place y.place (put_in is_chosen_before x ys) (λ z m. ⊎_elim
    (λ (e : x ≡ z). λ s. n y (inl refl) (sym s ∙ ap (λ (w : InfeasibleRow). w.place) (sym e)))
    (λ (k : Has ys z). apart_from ys y.place z a.0 k)
    (put_has is_chosen_before x ys z m)))
    (put_apart x ys (λ z m. n z (inr m)) a.1)
  where
    go : (b : Bool) → is_among y.place (places (put_in is_chosen_before x ys)) ≡ false → AreApart (put_in is_chosen_before x ys)
        → AreApart (cond b (x ∷ y ∷ ys) (y ∷ put_in is_chosen_before x ys))
    go true m p = (not_place x.place (y ∷ ys) n, a)
    go false m p = (m, p)

ordered_apart : (xs : List InfeasibleRow) → AreApart xs → AreApart (ordered is_chosen_before xs)
ordered_apart [] a = tt
ordered_apart (x ∷ xs) a =
    put_apart x (ordered is_chosen_before xs) (λ y m. apart_from xs x.place y a.0 (ordered_has is_chosen_before xs y m)) (ordered_apart xs a.1)

take_has : (n : ℕ) (xs : List InfeasibleRow) (z : InfeasibleRow) → Has (take n xs) z → Has xs z
take_has zero xs z h = absurd h
take_has (suc n) [] z h = absurd h
take_has (suc n) (x ∷ xs) z (inl e) = inl e
take_has (suc n) (x ∷ xs) z (inr h) = inr (take_has n xs z h)

take_apart : (n : ℕ) (xs : List InfeasibleRow) → AreApart xs → AreApart (take n xs)
take_apart zero xs a = tt
take_apart (suc n) [] a = tt
take_apart (suc n) (x ∷ xs) a = (not_place x.place (take n xs) (λ y m. apart_from xs x.place y a.0 (take_has n xs y m)), take_apart n xs a.1)

place_of : (f : Form) (b : Basis) (s : Fresh) (weights : List ℕ) (p : ℕ) (r : InfeasibleRow) → infeasible_at f b s weights p ≡ Some r → r.place ≡ p
place_of f b s weights p r e = go (violation (limits f (head_at b p)) (value_at_place b s p)) e
  where
    go : (o : Option Violation) → option_map (row_of p (weight_at weights p)) o ≡ Some r → r.place ≡ p
    go None k = absurd (none-some r k)
    go (Some v) k = sym (ap (λ (z : InfeasibleRow). z.place) (same_Some (row_of p (weight_at weights p) v) r k))

apart_by : (f : Form) (b : Basis) (s : Fresh) (weights : List ℕ) (k n : ℕ) (o : Option InfeasibleRow) → infeasible_at f b s weights k ≡ o
    → AreApart (filter_map (infeasible_at f b s weights) (range_with_len (k + 1) n))
    → AreApart (cons_option o (filter_map (infeasible_at f b s weights) (range_with_len (k + 1) n)))
apart_by f b s weights k n None e a = a
apart_by f b s weights k n (Some x) e a = (
  not_place x.place (filter_map (infeasible_at f b s weights) (range_with_len (k + 1) n))
      (λ y m.
      let h = filter_map_has (infeasible_at f b s weights) (range_with_len (k + 1) n) y m in
      let low = (range_has (k + 1) n h.0 h.1).0 in
      let there : y.place ≡ h.0 = place_of f b s weights h.0 y h.2 in
      let here : x.place ≡ k = place_of f b s weights k x e in
      λ (q : y.place ≡ x.place). absurd (omega (arith, low, there, here, q))),
  a,
)

rows_apart : (f : Form) (b : Basis) (s : Fresh) (weights : List ℕ) (k n : ℕ) → AreApart (filter_map (infeasible_at f b s weights) (range_with_len k n))
rows_apart f b s weights k zero = tt
rows_apart f b s weights k (suc n) = apart_by f b s weights k n (infeasible_at f b s weights k) refl (rows_apart f b s weights (k + 1) n)

pub chosen_apart : (f : Form) (b : Basis) (s : Fresh) (weights : List ℕ) (most : ℕ) → AreApart (chosen f b s weights most)
chosen_apart f b s weights most =
    take_apart most (ordered is_chosen_before (infeasible_rows f b s weights))
    (ordered_apart (infeasible_rows f b s weights) (rows_apart f b s weights 0 f.rows))

-- ---- the rows as they are kept
pub known_rows : (form : ProgramForm) (st : State) (s : Fresh) (most : ℕ) (xs : List InfeasibleRow)
    → ((p : ℕ) → p < rows_of form.columns → get st.values p ≡ value_at_place (basis_of st) s p)
    → ((x : InfeasibleRow) → Has xs x → x.place < rows_of form.columns)
    → AreKnownRows (form_of form) (first_reached form st s most) (map remaining_of (map (open_by form st) (map chosen_row xs))) xs
known_rows form st s most [] v l = tt
known_rows form st s most (x ∷ xs) v l = (
  record { place = refl; merit = refl; bounds = refl; value = v x.place (l x (inl refl)); weight = refl },
  known_rows form st s most xs v (λ y m. l y (inr m)),
)

pub all_places : (n : ℕ) (xs : List InfeasibleRow) → ((x : InfeasibleRow) → Has xs x → x.place < n) → All (λ (c : ChosenRow). c.place < n) (map chosen_row xs)
all_places n [] l = All-nil (λ (c : ChosenRow). c.place < n)
all_places n (x ∷ xs) l =
    All-cons (λ (c : ChosenRow). c.place < n) (chosen_row x) (map chosen_row xs) (l x (inl refl)) (all_places n xs (λ y m. l y (inr m)))
