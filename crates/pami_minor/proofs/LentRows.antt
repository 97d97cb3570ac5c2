-- The row of a place among those that are kept.
use Rattle.std.proofs.Common.{◌≡◌, ℕ, zero, suc, ◌<◌, inl, inr, ⊎_elim, not, nat_eq, cond, List, [], ◌∷◌, length, get_or, take, drop, None, Some, refl, sym, ap, ◌∙◌, subst, arith, true≢false}
use Rattle.std.specs.List.{Contains}
use Rattle.std.proofs.lemmas.Bool.{cases_eq, eq-eqb, ne_eqb}
use Rattle.pami_theory.specs.Form.{Form}
use Rattle.pami_theory.specs.Fresh.{row_at}
use Rattle.pami_theory.specs.Choice.{InfeasibleRow}
use Rattle.pami_theory.proofs.Members.{Has, has_from, filter_has}
use Rattle.pami_deferral.proofs.Chains.{pivot_links}
use Rattle.pami_deferral.proofs.Pivots.{step_place}
use Rattle.pami_method.specs.Batch as batch
use Rattle.pami_method.specs.Batch.{Reached, places, staying}
use Rattle.pami_minor.specs.declared.kept.Kept.{Kept}
use Rattle.pami_minor.specs.declared.kept.Picked.{Picked}
use Rattle.pami_minor.specs.declared.minor.Minor.{Minor}
use Rattle.pami_minor.specs.Behind.{IsFirstAt}
use Rattle.pami_minor.specs.Fresh.{AreApart, IsFreshRow, AreFreshRows, IsStepping, rest_of}
use Rattle.pami_minor.specs.Follow.{IsStopped, places_left}
use Rattle.pami_minor.specs.Opening.{IsOpening}
use Rattle.pami_minor.specs.Lent.{FindsRow, HasRho}
use Rattle.pami_minor.proofs.Nth.{next_apart}
use Rattle.pami_minor.proofs.Places.{apart_from, place_of_has, find_fresh}
use Rattle.pami_minor.proofs.Reaching.{left_out}

-- ---- a row of the list
fresh_at : (f : Form) (r : Reached) (ks : List Kept) (xs : List InfeasibleRow) (i : ℕ) (k : Kept) → AreFreshRows f r ks xs → i < length ks
    → k ≡ get_or ks i k → (x : InfeasibleRow) × Has xs x × IsFreshRow f r k x
fresh_at f r [] xs i k h l e = absurd (omega arith)
fresh_at f r (j ∷ ks) [] i k h l e = absurd h
fresh_at f r (j ∷ ks) (x ∷ xs) zero k h l e = (x, inl refl, subst (λ z. IsFreshRow f r z x) (sym e) h.0)
fresh_at f r (j ∷ ks) (x ∷ xs) (suc i) k h l e =
    let s = fresh_at f r ks xs i k h.1 (omega arith) e in (s.0, inr s.1, s.2)

-- ---- the first row at a place
-- has the row of the inverse of that place
pub row_found : (f : Form) (r : Reached) (ks rows : List Kept) (xs : List InfeasibleRow) (i place : ℕ) (k : Kept) → AreFreshRows f r ks xs
    → rows ≡ ks → IsFirstAt place rows i → k ≡ get_or ks i k → k.at.rho ≡ row_at r.fresh place
row_found f r ks rows xs i place k h e a read =
    let s = fresh_at f r ks xs i k h (subst (λ js. i < length js) e a.within) read in
    let here : k.at.place ≡ place = ap (λ (z : Kept). z.at.place) read ∙ ap (λ js. (get_or js i k).at.place) (sym e) ∙ a.at k in
    s.2.rho ∙ ap (row_at r.fresh) (sym s.2.known.place ∙ here)

-- where there is none, no row of the batch is there
pub row_missed : (f : Form) (r : Reached) (ks rows : List Kept) (xs : List InfeasibleRow) (place : ℕ) → AreFreshRows f r ks xs → rows ≡ ks
    → FindsRow place rows None → Contains (places xs) place → ⊥
row_missed f r ks rows xs place h e n c =
    let x = place_of_has xs place (has_from (places xs) place c) in
    let s = find_fresh f r ks xs x.0 h x.1 in
    n s.0 s.1 (subst (λ js. s.0 < length js) (sym e) s.2.0)
    (ap (λ js. (get_or js s.0 s.1).at.place) e ∙ ap (λ (z : Kept). z.at.place) s.2.1 ∙ s.2.2 ∙ x.2)

-- the place that was picked isn't among those that stay beside it
pub picked_apart : (f : Form) (r : Reached) (row : InfeasibleRow) (ks rows : List Kept) (i place : ℕ) → AreFreshRows f r ks (rest_of f r row)
    → rows ≡ ks → IsFirstAt place rows i → row.place ≡ place → (k : Kept) → k ≡ get_or ks i k → ⊥
picked_apart f r row ks rows i place h e a p k read =
    let s = fresh_at f r ks (rest_of f r row) i k h (subst (λ js. i < length js) e a.within) read in
    let here : k.at.place ≡ place = ap (λ (z : Kept). z.at.place) read ∙ ap (λ js. (get_or js i k).at.place) (sym e) ∙ a.at k in
    let other = (filter_has (λ (x : InfeasibleRow). not (nat_eq x.place row.place)) (staying f r) s.0 s.1).1 in
    true≢false (sym other ∙ ap not (eq-eqb s.0.place row.place (sym s.2.known.place ∙ here ∙ sym p)))

-- ---- rows of two bases: those in front at one, those behind at the other
pub front_found : (f : Form) (n : Reached) (ks : List Kept) (xs : List InfeasibleRow) (i place p : ℕ) (k : Kept) → AreFreshRows f n (take i ks) (take i xs)
    → Has (places (take i xs)) place → p < length ks → k ≡ get_or ks p k → k.at.place ≡ place
    → ((j : ℕ) (d : Kept) → j < p → ¬ ((get_or ks j d).at.place ≡ place)) → k.at.rho ≡ row_at n.fresh place
front_found f n ks xs zero place p k h m l e w b = absurd m
front_found f n ks [] (suc i) place p k h m l e w b = absurd m
front_found f n [] (y ∷ ys) (suc i) place p k h m l e w b = absurd h
front_found f n (j ∷ ks) (y ∷ ys) (suc i) place zero k h m l e w b =
    ap (λ (z : Kept). z.at.rho) e ∙ h.0.rho
    ∙ ap (row_at n.fresh) (sym h.0.known.place ∙ ap (λ (z : Kept). z.at.place) (sym e) ∙ w)
front_found f n (j ∷ ks) (y ∷ ys) (suc i) place (suc p) k h (inl s) l e w b = absurd (b 0 j (omega arith) (h.0.known.place ∙ s))
front_found f n (j ∷ ks) (y ∷ ys) (suc i) place (suc p) k h (inr m) l e w b =
    front_found f n ks ys i place p k h.1 m (omega arith) e w (λ q d o. b (suc q) d (omega (arith, o)))

pub front_missed : (f : Form) (n : Reached) (ks : List Kept) (xs : List InfeasibleRow) (i place : ℕ) → AreFreshRows f n (take i ks) (take i xs)
    → Has (places (take i xs)) place → ((j : ℕ) (d : Kept) → j < length ks → ¬ ((get_or ks j d).at.place ≡ place)) → ⊥
front_missed f n ks xs zero place h m b = m
front_missed f n ks [] (suc i) place h m b = m
front_missed f n [] (y ∷ ys) (suc i) place h m b = h
front_missed f n (j ∷ ks) (y ∷ ys) (suc i) place h (inl s) b = b 0 j (omega arith) (h.0.known.place ∙ s)
front_missed f n (j ∷ ks) (y ∷ ys) (suc i) place h (inr m) b = front_missed f n ks ys i place h.1 m (λ q d o. b (suc q) d (omega (arith, o)))

has_behind : (xs : List InfeasibleRow) (i : ℕ) (x : InfeasibleRow) → Has (drop i xs) x → Has xs x
has_behind xs zero x m = m
has_behind [] (suc i) x m = m
has_behind (y ∷ ys) (suc i) x m = inr (has_behind ys i x m)

pub back_found : (f : Form) (n r : Reached) (ks : List Kept) (xs : List InfeasibleRow) (i place p : ℕ) (k : Kept) → AreFreshRows f n (take i ks) (take i xs)
    → AreFreshRows f r (drop i ks) (drop i xs) → AreApart xs → Has (places (drop i xs)) place → p < length ks → k ≡ get_or ks p k → k.at.place ≡ place
    → k.at.rho ≡ row_at r.fresh place
back_found f n r ks xs zero place p k h o a m l e w =
    let s = fresh_at f r ks xs p k o l e in s.2.rho ∙ ap (row_at r.fresh) (sym s.2.known.place ∙ w)
back_found f n r ks [] (suc i) place p k h o a m l e w = absurd m
back_found f n r [] (y ∷ ys) (suc i) place p k h o a m l e w = absurd h
back_found f n r (j ∷ ks) (y ∷ ys) (suc i) place zero k h o a m l e w =
    let x = place_of_has (drop i ys) place m in
    absurd (apart_from ys y.place x.0 a.0 (has_behind ys i x.0 x.1) (x.2 ∙ sym w ∙ ap (λ (z : Kept). z.at.place) e ∙ h.0.known.place))
back_found f n r (j ∷ ks) (y ∷ ys) (suc i) place (suc p) k h o a m l e w = back_found f n r ks ys i place p k h.1 o a.1 m (omega arith) e w

pub back_missed : (f : Form) (n r : Reached) (ks : List Kept) (xs : List InfeasibleRow) (i place : ℕ) → AreFreshRows f n (take i ks) (take i xs)
    → AreFreshRows f r (drop i ks) (drop i xs) → Has (places (drop i xs)) place → ((j : ℕ) (d : Kept) → j < length ks → ¬ ((get_or ks j d).at.place ≡ place)) → ⊥
back_missed f n r ks xs zero place h o m b =
    let x = place_of_has xs place m in
    let s = find_fresh f r ks xs x.0 o x.1 in
    b s.0 s.1 s.2.0 (ap (λ (z : Kept). z.at.place) s.2.1 ∙ s.2.2 ∙ x.2)
back_missed f n r ks [] (suc i) place h o m b = m
back_missed f n r [] (y ∷ ys) (suc i) place h o m b = h
back_missed f n r (j ∷ ks) (y ∷ ys) (suc i) place h o m b = back_missed f n r ks ys i place h.1 o m (λ q d l. b (suc q) d (omega (arith, l)))

-- each is at the place of one of them
pub place_found : (f : Form) (n r : Reached) (ks : List Kept) (xs : List InfeasibleRow) (i p : ℕ) (k : Kept) → AreFreshRows f n (take i ks) (take i xs)
    → AreFreshRows f r (drop i ks) (drop i xs) → p < length ks → k ≡ get_or ks p k → (x : InfeasibleRow) × Has xs x × (k.at.place ≡ x.place)
place_found f n r ks xs zero p k h o l e = let s = fresh_at f r ks xs p k o l e in (s.0, s.1, s.2.known.place)
place_found f n r [] xs (suc i) p k h o l e = absurd (omega arith)
place_found f n r (j ∷ ks) [] (suc i) p k h o l e = absurd h
place_found f n r (j ∷ ks) (y ∷ ys) (suc i) zero k h o l e = (y, inl refl, ap (λ (z : Kept). z.at.place) e ∙ h.0.known.place)
place_found f n r (j ∷ ks) (y ∷ ys) (suc i) (suc p) k h o l e =
    let s = place_found f n r ks ys i p k h.1 o (omega arith) e in (s.0, inr s.1, s.2)

-- ---- what a Minor lends
pub first_within : (place i : ℕ) (rows ks : List Kept) → rows ≡ ks → FindsRow place rows (Some i) → i < length ks
first_within place i rows ks e a = subst (λ js. i < length js) e a.within

pub none_picked : (place : ℕ) (minor : Minor) (rows : List Kept) → HasRho place minor → rows ≡ minor.rows.items → FindsRow place rows None
    → (k : Picked) × (minor.picked ≡ Some k)
none_picked place minor rows (inl h) e n =
    absurd (n h.0 h.1 (subst (λ js. h.0 < length js) (sym e) h.2.0)
    (ap (λ js. (get_or js h.0 h.1).at.place) e ∙ ap (λ (z : Kept). z.at.place) h.2.1 ∙ h.2.2))
none_picked place minor rows (inr h) e n = (h.0, h.1)

-- the first row at a place, or none, in the Minor's own list
here_at : (place i : ℕ) (rows ks : List Kept) (k : Kept) → rows ≡ ks → IsFirstAt place rows i → k ≡ get_or ks i k → k.at.place ≡ place
here_at place i rows ks k e a read = ap (λ (z : Kept). z.at.place) read ∙ ap (λ js. (get_or js i k).at.place) (sym e) ∙ a.at k

none_here : (place : ℕ) (rows ks : List Kept) → rows ≡ ks → FindsRow place rows None → (j : ℕ) (d : Kept) → j < length ks → ¬ ((get_or ks j d).at.place ≡ place)
none_here place rows ks e n = subst (λ js. FindsRow place js None) e n

-- one that is taken in at the start
pub opening_found : (f : Form) (limit : ℕ) (r : Reached) (n place i : ℕ) (minor : Minor) (rows : List Kept) (k : Kept) → IsOpening f limit r n minor
    → Contains (places (take n r.rows)) place → rows ≡ minor.rows.items → IsFirstAt place rows i → k ≡ get_or minor.rows.items i k → k.at.rho ≡ row_at r.fresh place
opening_found f limit r n place i minor rows k h c e a read =
    let b = subst (λ js. IsFirstAt place js i) e a in
    front_found f r minor.rows.items r.rows n place i k h.fresh_rows (has_from (places (take n r.rows)) place c) b.within read
    (here_at place i rows minor.rows.items k e a read) b.before

pub opening_missed : (f : Form) (limit : ℕ) (r : Reached) (n place : ℕ) (minor : Minor) (rows : List Kept) → IsOpening f limit r n minor
    → Contains (places (take n r.rows)) place → rows ≡ minor.rows.items → FindsRow place rows None → ⊥
opening_missed f limit r n place minor rows h c e a =
    front_missed f r minor.rows.items r.rows n place h.fresh_rows (has_from (places (take n r.rows)) place c) (none_here place rows minor.rows.items e a)

-- one that is left where the batch stops
left_met : (limit : ℕ) (r : Reached) (place : ℕ) → Contains (places_left limit r) place → (r.count ≡ limit) × Contains (places r.rows) place
left_met limit r place c =
    ⊎_elim
    (λ (e : r.count ≡ limit). (e, subst (λ ps. Contains ps place) (ap (λ t. cond t (places r.rows) []) (eq-eqb r.count limit e)) c))
    (λ (n : ¬ (r.count ≡ limit)).
    absurd (has_from [] place (subst (λ ps. Contains ps place) (ap (λ t. cond t (places r.rows) []) (ne_eqb r.count limit n)) c)))
    (cases_eq r.count limit)

pub stopped_found : (f : Form) (limit : ℕ) (r : Reached) (place i : ℕ) (minor : Minor) (rows : List Kept) (k : Kept) → IsStopped f limit r minor
    → Contains (places_left limit r) place → rows ≡ minor.rows.items → IsFirstAt place rows i → k ≡ get_or minor.rows.items i k → k.at.rho ≡ row_at r.fresh place
stopped_found f limit r place i minor rows k h c e a read =
    row_found f r minor.rows.items rows r.rows i place k (h.rows (left_met limit r place c).0) e a read

pub stopped_missed : (f : Form) (limit : ℕ) (r : Reached) (place : ℕ) (minor : Minor) (rows : List Kept) → IsStopped f limit r minor
    → Contains (places_left limit r) place → rows ≡ minor.rows.items → FindsRow place rows None → ⊥
stopped_missed f limit r place minor rows h c e a =
    let m = left_met limit r place c in row_missed f r minor.rows.items rows r.rows place (h.rows m.0) e a m.1

-- behind a step
pub reached_found : (f : Form) (limit : ℕ) (m : batch.Minor) (next : Reached) (i j place p : ℕ) (minor : Minor) (rows : List Kept) (k : Kept)
    → IsStepping f limit m next i j minor → Contains (places (take i next.rows)) place → rows ≡ minor.rows.items → IsFirstAt place rows p
    → k ≡ get_or minor.rows.items p k → k.at.rho ≡ row_at next.fresh place
reached_found f limit m next i j place p minor rows k h c e a read =
    let b = subst (λ js. IsFirstAt place js p) e a in
    front_found f next minor.rows.items next.rows i place p k h.reached_rows (has_from (places (take i next.rows)) place c) b.within read
    (here_at place p rows minor.rows.items k e a read) b.before

pub reached_missed : (f : Form) (limit : ℕ) (m : batch.Minor) (next : Reached) (i j place : ℕ) (minor : Minor) (rows : List Kept)
    → IsStepping f limit m next i j minor → Contains (places (take i next.rows)) place → rows ≡ minor.rows.items → FindsRow place rows None → ⊥
reached_missed f limit m next i j place minor rows h c e a =
    front_missed f next minor.rows.items next.rows i place h.reached_rows (has_from (places (take i next.rows)) place c)
    (none_here place rows minor.rows.items e a)

pub others_found : (f : Form) (limit : ℕ) (m : batch.Minor) (next : Reached) (i j place p : ℕ) (minor : Minor) (rows : List Kept) (k : Kept)
    → IsStepping f limit m next i j minor → Contains (places (drop i next.rows)) place → rows ≡ minor.rows.items → IsFirstAt place rows p
    → k ≡ get_or minor.rows.items p k → k.at.rho ≡ row_at m.reached.fresh place
others_found f limit m next i j place p minor rows k h c e a read =
    let b = subst (λ js. IsFirstAt place js p) e a in
    back_found f next m.reached minor.rows.items next.rows i place p k h.reached_rows h.other_rows (next_apart f limit m next i j minor h)
    (has_from (places (drop i next.rows)) place c) b.within read (here_at place p rows minor.rows.items k e a read)

pub others_missed : (f : Form) (limit : ℕ) (m : batch.Minor) (next : Reached) (i j place : ℕ) (minor : Minor) (rows : List Kept)
    → IsStepping f limit m next i j minor → Contains (places (drop i next.rows)) place → rows ≡ minor.rows.items → FindsRow place rows None → ⊥
others_missed f limit m next i j place minor rows h c e a =
    back_missed f next m.reached minor.rows.items next.rows i place h.reached_rows h.other_rows (has_from (places (drop i next.rows)) place c)
    (none_here place rows minor.rows.items e a)

-- the place that left isn't among those that remain
pub left_apart : (f : Form) (limit : ℕ) (m : batch.Minor) (next : Reached) (i j place p : ℕ) (minor : Minor) (rows : List Kept) (k : Kept)
    → IsStepping f limit m next i j minor → m.row.place ≡ place → rows ≡ minor.rows.items → IsFirstAt place rows p → k ≡ get_or minor.rows.items p k → ⊥
left_apart f limit m next i j place p minor rows k h w e a read =
    let b = subst (λ js. IsFirstAt place js p) e a in
    let links = pivot_links f limit m next h.pivot in
    let x = place_found f next m.reached minor.rows.items next.rows i p k h.reached_rows h.other_rows b.within read in
    left_out f limit m next x.0 links x.1
    (sym x.2 ∙ here_at place p rows minor.rows.items k e a read ∙ sym w ∙ sym (step_place f m next links))
