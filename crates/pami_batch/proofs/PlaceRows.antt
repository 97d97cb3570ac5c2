-- The rows of a batch by their places, one after the other.
use Rattle.std.proofs.Common.{◌≡◌, ℕ, zero, suc, ◌<◌, Bool, true, false, cond, not, nat_eq, List, [], ◌∷◌, map, length, get_or, refl, sym, ap, ◌∙◌, subst, arith}
use Rattle.std.specs.List.{filter}
use Rattle.std.proofs.lemmas.List.{length-map, get_or_default}
use Rattle.pami_theory.specs.Form.{Form}
use Rattle.pami_theory.specs.Choice.{InfeasibleRow}
use Rattle.pami_method.specs.Batch.{Reached, Minor, places, staying, IsNext}
use Rattle.pami_method.specs.Work.{remaining, reach_tasks}
use Rattle.pami_chuzr.specs.Choice.{chosen_row}
use Rattle.pami_chuzr.specs.declared.row.ChosenRow.{ChosenRow}
use Rattle.pami_deferral.specs.Inside.{IsPlaced}
use Rattle.pami_minor.specs.Behind.{IsRowOf}
use Rattle.pami_batch.specs.Told.{reach_task}

pub places_long : (rows : List InfeasibleRow) → length (places rows) ≡ length rows
places_long rows = length-map rows (λ (x : InfeasibleRow). x.place)

place_nth : (rows : List InfeasibleRow) (i d : ℕ) → i < length rows → (x : InfeasibleRow) × (get_or rows i x ≡ x) × (x.place ≡ get_or (places rows) i d)
place_nth [] i d l = absurd (omega arith)
place_nth (x ∷ xs) zero d l = (x, refl, refl)
place_nth (x ∷ xs) (suc i) d l = place_nth xs i d (omega arith)

pub row_of : (next : Reached) (i place : ℕ) → i < length next.rows → place ≡ get_or (places next.rows) i 0 → IsRowOf next i place
row_of next i place l e = let s = place_nth next.rows i 0 l in (s.0, l, s.1, s.2 ∙ sym e)

pub place_at : (rows : List InfeasibleRow) (i place : ℕ) → i < length rows → place ≡ get_or (places rows) i 0
    → (i < length (places rows)) × (get_or (places rows) i place ≡ place)
place_at rows i place l e =
    let n = places_long rows in
    let low : i < length (places rows) = omega (arith, l, n) in
    (low, get_or_default (places rows) i place 0 low ∙ sym e)

-- ---- the chosen rows
pub chosen_place : (rows : List InfeasibleRow) (i : ℕ) (d : ChosenRow) → i < length rows
    → (get_or (map chosen_row rows) i d).place ≡ get_or (places rows) i 0
chosen_place [] i d l = absurd (omega arith)
chosen_place (x ∷ xs) zero d l = refl
chosen_place (x ∷ xs) (suc i) d l = chosen_place xs i d (omega arith)

pub chosen_long : (rows : List InfeasibleRow) (chosen : List ChosenRow) → chosen ≡ map chosen_row rows → length chosen ≡ length rows
chosen_long rows chosen e = ap length e ∙ length-map rows chosen_row

-- ---- the rows that remain behind a pivot
filter_by : (b : Bool) (x : InfeasibleRow) (ps : List ℕ) (xs : List InfeasibleRow) → ps ≡ places xs → cond b (x.place ∷ ps) ps ≡ places (cond b (x ∷ xs) xs)
filter_by true x ps xs e = ap (λ qs. x.place ∷ qs) e
filter_by false x ps xs e = e

filter_places : (p : ℕ) (rows : List InfeasibleRow)
    → filter (λ q. not (nat_eq q p)) (places rows) ≡ places (filter (λ (row : InfeasibleRow). not (nat_eq row.place p)) rows)
filter_places p [] = refl
filter_places p (x ∷ xs) =
    filter_by (not (nat_eq x.place p)) x (filter (λ q. not (nat_eq q p)) (places xs)) (filter (λ (row : InfeasibleRow). not (nat_eq row.place p)) xs)
    (filter_places p xs)

remaining_is : (f : Form) (m : Minor) (next : Reached) → IsNext f m next → remaining f m ≡ places next.rows
remaining_is f m next n = filter_places m.step.place (staying f m.reached) ∙ sym (ap places n.rows)

pub reach_tasks_are : (f : Form) (number : ℕ) (m : Minor) (next : Reached) → IsNext f m next
    → map (reach_task f number m) (places next.rows) ≡ reach_tasks f number m
reach_tasks_are f number m next n = ap (map (reach_task f number m)) (sym (remaining_is f m next n))

-- ---- a row of its index
nth_place : (rows : List InfeasibleRow) (i d : ℕ) (x : InfeasibleRow) → i < length rows → get_or rows i x ≡ x → x.place ≡ get_or (places rows) i d
nth_place [] i d x l e = absurd (omega arith)
nth_place (y ∷ ys) zero d x l e = ap (λ (z : InfeasibleRow). z.place) (sym e)
nth_place (y ∷ ys) (suc i) d x l e = nth_place ys i d x (omega arith) e

pub row_place : (r : Reached) (i place : ℕ) → IsRowOf r i place → (i < length (places r.rows)) × (get_or (places r.rows) i place ≡ place)
row_place r i place o = place_at r.rows i place o.1 (sym o.3 ∙ nth_place r.rows i 0 o.0 o.1 o.2)

pub place_low : (f : Form) (r : Reached) (i place : ℕ) → IsPlaced f r → IsRowOf r i place → place < f.rows
place_low f r i place p o = subst (λ q. q < f.rows) o.3 (p.rows o.0 (i, o.1, o.2))

pub chosen_at : (r : Reached) (chosen : List ChosenRow) (i : ℕ) (d : ChosenRow) → chosen ≡ map chosen_row r.rows → i < length chosen
    → IsRowOf r i (get_or chosen i d).place
chosen_at r chosen i d e l =
    let n = chosen_long r.rows chosen e in
    let low : i < length r.rows = omega (arith, l, n) in
    row_of r i (get_or chosen i d).place low (ap (λ cs. (get_or cs i d).place) e ∙ chosen_place r.rows i d low)
