-- The next row that a batch brings up to date: where it is kept, and that it is the first at its place.
use Rattle.std.proofs.Common.{◌≡◌, ℕ, zero, suc, ◌<◌, ◌≤◌, ⊎_elim, not, nat_eq, List, [], ◌∷◌, length, get_or, take, drop, refl, sym, ap, ◌∙◌, subst, arith}
use Rattle.std.proofs.lemmas.Bool.{cases_lt}
use Rattle.std.proofs.lemmas.List.{get_or_default}
use Rattle.pami_deferral.specs.SolvedBatch.{IsSolvedPivot}
use Rattle.pami_deferral.proofs.Chains.{pivot_links}
use Rattle.pami_deferral.proofs.Pivots.{next_placed}
use Rattle.pami_theory.specs.Form.{Form}
use Rattle.pami_theory.specs.Choice.{InfeasibleRow}
use Rattle.pami_theory.proofs.Members.{has_from}
use Rattle.pami_method.specs.Batch as batch
use Rattle.pami_method.specs.Batch.{Reached, is_attractive, staying}
use Rattle.pami_minor.specs.declared.kept.Kept.{Kept}
use Rattle.pami_minor.specs.declared.minor.Minor.{Minor}
use Rattle.pami_minor.specs.Picks.{HasRowAt}
use Rattle.pami_minor.specs.Behind.{IsRowOf, IsFirstAt}
use Rattle.pami_minor.specs.Fresh.{IsFreshRow, AreFreshRows, AreApart, IsStepping}
use Rattle.pami_minor.proofs.Places.{apart_from, filter_apart}

nth_by : (f : Form) (n r : Reached) (ks : List Kept) (xs : List InfeasibleRow) (i : ℕ) (x : InfeasibleRow) → AreFreshRows f n (take i ks) (take i xs)
    → AreFreshRows f r (drop i ks) (drop i xs) → i < length xs → get_or xs i x ≡ x → (k : Kept) × (i < length ks) × (get_or ks i k ≡ k) × IsFreshRow f r k x
nth_by f n r ks [] i x h a l e = absurd (omega arith)
nth_by f n r [] (y ∷ ys) zero x h a l e = absurd a
nth_by f n r (k ∷ ks) (y ∷ ys) zero x h a l e = (k, omega arith, refl, subst (IsFreshRow f r k) e a.0)
nth_by f n r [] (y ∷ ys) (suc i) x h a l e = absurd h
nth_by f n r (k ∷ ks) (y ∷ ys) (suc i) x h a l e =
    let s = nth_by f n r ks ys i x h.1 a (omega arith) e in
    (s.0, (let m = s.1 in omega arith), s.2, s.3)

pub before_by : (f : Form) (n : Reached) (ks : List Kept) (xs : List InfeasibleRow) (i : ℕ) (x : InfeasibleRow) (j : ℕ) (d : Kept)
    → AreFreshRows f n (take i ks) (take i xs) → AreApart xs → i < length xs → get_or xs i x ≡ x → j < i → ¬ ((get_or ks j d).at.place ≡ x.place)
before_by f n ks [] i x j d h a l e m = absurd (omega arith)
before_by f n ks (y ∷ ys) zero x j d h a l e m = absurd (omega arith)
before_by f n [] (y ∷ ys) (suc i) x j d h a l e m = absurd h
before_by f n (k ∷ ks) (y ∷ ys) (suc i) x zero d h a l e m =
    λ s. apart_from ys y.place x a.0 (has_from ys x (i, omega arith, e)) (sym s ∙ h.0.known.place)
before_by f n (k ∷ ks) (y ∷ ys) (suc i) x (suc j) d h a l e m = before_by f n ks ys i x j d h.1 a.1 (omega arith) e (omega arith)

-- ---- in a Minor behind a step
pub next_apart : (f : Form) (limit : ℕ) (m : batch.Minor) (next : Reached) (i j : ℕ) (minor : Minor) → IsStepping f limit m next i j minor → AreApart next.rows
next_apart f limit m next i j minor h =
    subst AreApart (sym h.pivot.behind.rows)
    (filter_apart (λ (x : InfeasibleRow). not (nat_eq x.place m.step.place)) (staying f m.reached)
    (filter_apart (is_attractive f m.reached) m.reached.rows h.reached.apart))

pub nth_row : (f : Form) (limit : ℕ) (m : batch.Minor) (next : Reached) (i j place : ℕ) (minor : Minor) → IsStepping f limit m next i j minor
    → (o : IsRowOf next i place) → (k : Kept) × (i < length minor.rows.items) × (get_or minor.rows.items i k ≡ k) × IsFreshRow f m.reached k o.0
nth_row f limit m next i j place minor h o =
    nth_by f next m.reached minor.rows.items next.rows i o.0 h.reached_rows h.other_rows o.1 o.2

pub has_nth : (f : Form) (limit : ℕ) (m : batch.Minor) (next : Reached) (i j place : ℕ) (minor : Minor) → IsStepping f limit m next i j minor
    → IsRowOf next i place → HasRowAt place minor.rows.items
has_nth f limit m next i j place minor h o =
    let s = nth_row f limit m next i j place minor h o in
    (i, s.0, (s.1, s.2, s.3.known.place ∙ o.3))

pub first_is : (f : Form) (limit : ℕ) (m : batch.Minor) (next : Reached) (i j place first : ℕ) (minor : Minor) → IsStepping f limit m next i j minor
    → IsRowOf next i place → IsFirstAt place minor.rows.items first → first ≡ i
first_is f limit m next i j place first minor h o a =
    let s = nth_row f limit m next i j place minor h o in
    ⊎_elim
    (λ (l : first < i). absurd (before_by f next minor.rows.items next.rows i o.0 first s.0 h.reached_rows (next_apart f limit m next i j minor h) o.1 o.2 l
    (a.at s.0 ∙ sym o.3)))
    (λ (l : i ≤ first). ⊎_elim
    (λ (b : i < first). absurd (a.before i s.0 b (ap (λ (k : Kept). k.at.place) s.2 ∙ s.3.known.place ∙ o.3)))
    (λ (b : first ≤ i). let same : first ≡ i = omega arith in same)
    (cases_lt i first))
    (cases_lt first i)

-- the row that is read there
pub kept_at : (f : Form) (limit : ℕ) (m : batch.Minor) (next : Reached) (i j place : ℕ) (minor : Minor) (rows : List Kept) (first : ℕ) (k : Kept)
    → IsStepping f limit m next i j minor → (o : IsRowOf next i place) → rows ≡ minor.rows.items → IsFirstAt place rows first
    → k ≡ get_or minor.rows.items first k → IsFreshRow f m.reached k o.0
kept_at f limit m next i j place minor rows first k h o e a read =
    let s = nth_row f limit m next i j place minor h o in
    let here : first ≡ i = first_is f limit m next i j place first minor h o (subst (λ ks. IsFirstAt place ks first) e a) in
    let same : k ≡ s.0 = read ∙ ap (λ n. get_or minor.rows.items n k) here ∙ get_or_default minor.rows.items i k s.0 s.1 ∙ s.2 in
    subst (λ z. IsFreshRow f m.reached z o.0) (sym same) s.3

pub row_low : (f : Form) (limit : ℕ) (m : batch.Minor) (next : Reached) (i j place : ℕ) (minor : Minor) → IsStepping f limit m next i j minor
    → (o : IsRowOf next i place) → o.0.place < f.rows
row_low f limit m next i j place minor h o =
    (next_placed f m next (pivot_links f limit m next h.pivot) h.reached.placed).rows o.0 (i, o.1, o.2)

pub pivot_low : (f : Form) (limit : ℕ) (m : batch.Minor) (next : Reached) → IsSolvedPivot f limit m next → m.row.place < f.rows
pivot_low f limit m next v = (pivot_links f limit m next v).step.place
