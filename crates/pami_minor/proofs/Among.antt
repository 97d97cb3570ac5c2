-- Picking among rows that are fresh.
use Rattle.std.proofs.Common.{◌≡◌, ℕ, suc, ◌+◌, inl, not, nat_eq, List, [], ◌∷◌, ◌++◌, map, take, drop, length, Option, None, Some, Ok, refl, sym, ap, ◌∙◌, subst, arith}
use Rattle.std.specs.List.{filter, filter_map}
use Rattle.std.specs.Option.{option_map}
use Rattle.std.proofs.lemmas.Option.{none-some}
use Rattle.pami_theory.specs.Form.{Form}
use Rattle.pami_theory.specs.Fresh.{value_at_place, row_at}
use Rattle.pami_theory.specs.Order.{ordered}
use Rattle.pami_theory.specs.Weights.{weight_at}
use Rattle.pami_theory.specs.Choice.{InfeasibleRow, is_chosen_before}
use Rattle.pami_theory.proofs.Members.{Has}
use Rattle.pami_theory.proofs.Orders.{ordered_has}
use Rattle.pami_theory.proofs.Chosen.{filter_map_has}
use Rattle.pami_method.specs.Batch.{Reached, places, row_now, is_attractive}
use Rattle.pami_method.proofs.Turns.{infeasible_is}
use Rattle.pami_script.specs.Script.{each_member}
use Rattle.pami_method.specs.Task.{refusal}
use Rattle.pami_method.specs.Scripts.{place_script}
use Rattle.pami_minor.specs.declared.row.RowNow.{RowNow}
use Rattle.pami_minor.specs.declared.kept.Kept.{Kept}
use Rattle.pami_minor.specs.declared.kept.Picked.{Picked}
use Rattle.pami_minor.specs.Rows.{row_seen, looks_by, dropped_by, best_by}
use Rattle.pami_minor.specs.Picks.{remaining_of, staying_by, IsRowAt, HasRowAt, TakesBest}
use Rattle.pami_minor.specs.Fresh.{AreFreshRows, AreApart}
use Rattle.pami_minor.specs.Follow.{FollowsAmong}
use Rattle.pami_minor.proofs.Looks.{AreLooked, head_of, looked, looks_fit, known_of, stay_fresh}
use Rattle.pami_minor.proofs.Places.{find_fresh, taken_fresh, filter_apart}

-- ---- the first of a list
head_in : {A : Type 0} (xs : List A) (x : A) → head_of xs ≡ Some x → Has xs x
head_in [] x e = absurd (none-some x e)
head_in (y ∷ ys) x e = inl (let same : y ≡ x = cc in same)

pub head_rest : {A : Type 0} (xs : List A) (x : A) → head_of xs ≡ Some x → (ys : List A) × (xs ≡ x ∷ ys)
head_rest [] x e = absurd (none-some x e)
head_rest (y ∷ ys) x e = (ys, let same : y ≡ x = cc in ap (λ z. z ∷ ys) same)

pub head_none : {A : Type 0} (xs : List A) → head_of xs ≡ None → xs ≡ []
head_none [] e = refl
head_none (y ∷ ys) e = absurd (none-some y (sym e))

-- ---- the best row is there
pub has_best : (f : Form) (r : Reached) (ks : List Kept) (nows : List (Option RowNow)) (xs : List InfeasibleRow) (row : RowNow) → AreLooked f r (map remaining_of ks) nows xs
    → AreFreshRows f r (staying_by ks nows) (filter (is_attractive f r) xs) → best_by (map remaining_of ks) nows ≡ Some row
    → HasRowAt row.place (staying_by ks nows)
has_best f r ks nows xs row a s e =
    let now : List InfeasibleRow = filter_map (row_now f r) (filter (is_attractive f r) xs) in
    let first = head_in (ordered is_chosen_before now) (row_seen row) (sym a.best ∙ ap (option_map row_seen) e) in
    let m = filter_map_has (row_now f r) (filter (is_attractive f r) xs) (row_seen row) (ordered_has is_chosen_before now (row_seen row) first) in
    let place : row.place ≡ m.0.place = (infeasible_is f r.basis r.fresh r.weights m.0.place (row_seen row) m.2).0 in
    subst (λ p. HasRowAt p (staying_by ks nows)) (sym place) (find_fresh f r (staying_by ks nows) (filter (is_attractive f r) xs) m.0 s m.1)

-- ---- and is taken out
among_by : (f : Form) (r : Reached) (ks : List Kept) (nows : List (Option RowNow)) (xs : List InfeasibleRow) (best : Option RowNow) (old new : List Kept)
    (drops : List ℕ) (picked : Option Picked) → AreApart xs → AreLooked f r (map remaining_of ks) nows xs
    → AreFreshRows f r (staying_by ks nows) (filter (is_attractive f r) xs) → best ≡ best_by (map remaining_of ks) nows → old ≡ staying_by ks nows
    → drops ≡ dropped_by (map remaining_of ks) nows → refusal (each_member (λ k p. place_script f r.basis r.fresh p) 0 (places xs)) ≡ None
    → TakesBest best old new picked → FollowsAmong f r xs new drops (Ok picked)
among_by f r ks nows xs None old new drops None apart a stay b o d n t = (
  head_none (ordered is_chosen_before (filter_map (row_now f r) (filter (is_attractive f r) xs))) (sym a.best ∙ ap (option_map row_seen) (sym b)),
  d ∙ a.drop,
  n,
)
among_by f r ks nows xs None old new drops (Some p) apart a stay b o d n t = absurd t
among_by f r ks nows xs (Some row) old new drops None apart a stay b o d n t = absurd t
among_by f r ks nows xs (Some row) old new drops (Some p) apart a stay b o d n t =
    let now : List InfeasibleRow = ordered is_chosen_before (filter_map (row_now f r) (filter (is_attractive f r) xs)) in
    let first = head_rest now (row_seen row) (sym a.best ∙ ap (option_map row_seen) (sym b)) in
    let at : IsRowAt row.place (staying_by ks nows) t.1.0 t.0 = subst (λ js. IsRowAt row.place js t.1.0 t.0) o t.1.1 in
    let s = taken_fresh f r (staying_by ks nows) (filter (is_attractive f r) xs) t.1.0 t.0 row.place stay
    (filter_apart (is_attractive f r) xs apart) at in
    let fresh = s.1.2 in
    let same : s.1.0.place ≡ row.place = sym fresh.known.place ∙ at.2 in
    let z : suc t.1.0 ≡ t.1.0 + 1 = omega arith in
    let rows : take t.1.0 (staying_by ks nows) ++ drop (suc t.1.0) (staying_by ks nows) ≡ new =
    ap (λ j. take t.1.0 (staying_by ks nows) ++ drop j (staying_by ks nows)) z
    ∙ ap (λ js. take t.1.0 js ++ drop (t.1.0 + 1) js) (sym o) ∙ sym t.1.2 in (
      row_seen row,
      first.0,
      first.1,
      record {
        place = ap (λ z. z.place) t.2 ∙ at.2;
        violation = t.3;
        value = ap (λ z. z.value) t.2 ∙ fresh.known.value ∙ ap (value_at_place r.basis r.fresh) same;
        weight = ap (λ z. z.weight) t.2 ∙ fresh.known.weight ∙ ap (weight_at r.weights) same;
        rho = ap (λ z. z.rho) t.2 ∙ fresh.rho ∙ ap (row_at r.fresh) same;
      },
      subst (λ js. AreFreshRows f r js (filter (λ (x : InfeasibleRow). not (nat_eq x.place row.place)) (filter (is_attractive f r) xs))) rows s.0,
      d ∙ a.drop,
      n,
    )

pub among : (f : Form) (r : Reached) (ks : List Kept) (nows : List (Option RowNow)) (xs : List InfeasibleRow) (best : Option RowNow) (old new : List Kept)
    (drops : List ℕ) (picked : Option Picked) → AreFreshRows f r ks xs → AreApart xs → looks_by (map remaining_of ks) ≡ Ok nows
    → best ≡ best_by (map remaining_of ks) nows → old ≡ staying_by ks nows → drops ≡ dropped_by (map remaining_of ks) nows → TakesBest best old new picked → FollowsAmong f r xs new drops (Ok picked)
among f r ks nows xs best old new drops picked h apart e b o d t =
    let known = known_of f r ks xs h in
    among_by f r ks nows xs best old new drops picked apart (looked f r (map remaining_of ks) xs 0 nows known e) (stay_fresh f r ks xs 0 nows h e) b o d
    (looks_fit f r (map remaining_of ks) xs 0 nows known e) t

-- ---- how many rows, and their weights
pub fresh_length : (f : Form) (r : Reached) (ks : List Kept) (xs : List InfeasibleRow) → AreFreshRows f r ks xs → length ks ≡ length xs
fresh_length f r [] [] h = refl
fresh_length f r [] (x ∷ xs) h = absurd h
fresh_length f r (k ∷ ks) [] h = absurd h
fresh_length f r (k ∷ ks) (x ∷ xs) h = ap suc (fresh_length f r ks xs h.1)

pub fresh_places : (f : Form) (r : Reached) (ks : List Kept) (xs : List InfeasibleRow) → AreFreshRows f r ks xs
    → map (λ (k : Kept). k.at.place) ks ≡ places xs
fresh_places f r [] [] h = refl
fresh_places f r [] (x ∷ xs) h = absurd h
fresh_places f r (k ∷ ks) [] h = absurd h
fresh_places f r (k ∷ ks) (x ∷ xs) h = ap (λ p. p ∷ map (λ (j : Kept). j.at.place) ks) h.0.known.place ∙ ap (λ ps. x.place ∷ ps) (fresh_places f r ks xs h.1)
