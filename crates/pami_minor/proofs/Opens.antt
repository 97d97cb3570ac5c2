-- A Minor that is opened, and the rows of the inverse that it takes in one by one.
use Rattle.std.proofs.Common.{◌≡◌, ℕ, zero, suc, ◌+◌, ◌<◌, ◌≤◌, ⊎_elim, List, [], ◌∷◌, length, map, get_or, set, take, drop, refl, sym, ap, ◌∙◌, subst, arith, vec_len, vec_capacity}
use Rattle.std.specs.List.{All}
use Rattle.std.proofs.lemmas.Bool.{cases_lt}
use Rattle.std.proofs.lemmas.List.{get_or_default, length-map}
use Rattle.pami_algebra.specs.Fraction.{Fraction}
use Rattle.pami_linear.specs.Lists.{get}
use Rattle.pami_theory.specs.Form.{Form, zero_f, variables}
use Rattle.pami_theory.specs.Fresh.{Fresh, IsFresh, row_at, value_at_place}
use Rattle.pami_theory.specs.Choice.{InfeasibleRow, chosen}
use Rattle.pami_theory.proofs.Members.{contains_from}
use Rattle.pami_theory.proofs.Solved.{only_fresh}
use Rattle.pami_theory.proofs.Tables.{tabled_at, tabled_length}
use Rattle.pami_method.specs.Batch.{Reached, places}
use Rattle.pami_price.specs.Slices.{slices}
use Rattle.pami_chuzr.specs.Choice.{chosen_row}
use Rattle.pami_chuzr.specs.declared.row.ChosenRow.{ChosenRow}
use Rattle.pami_form.specs.declared.form.Form.{Form as ProgramForm}
use Rattle.pami_state.specs.State.{basis_of}
use Rattle.pami_state.specs.Columns.{rows_of, IsForm}
use Rattle.pami_state.specs.declared.state.State.{State}
use Rattle.pami_state.proofs.Formed.{variables_are}
use Rattle.pami_deferral.proofs.Insides.{chosen_place}
use Rattle.pami_minor.specs.declared.kept.Kept.{Kept}
use Rattle.pami_minor.specs.declared.minor.Minor.{Minor}
use Rattle.pami_minor.specs.Picks.{remaining_of, HasRowAt}
use Rattle.pami_form.specs.FormOf.{form_of}
use Rattle.pami_minor.specs.Fresh.{IsKnownRow, AreKnownRows, IsFreshRow, AreFreshRows, IsFreshMinor}
use Rattle.pami_minor.specs.Behind.{IsRowOf, IsFirstAt}
use Rattle.pami_minor.specs.Opening.{open_by, IsOpenable, first_reached, IsOpening}
use Rattle.pami_minor.proofs.NextRow.{KeepsRest}
use Rattle.pami_minor.proofs.Nth.{before_by}
use Rattle.pami_minor.proofs.OpeningRows.{chosen_apart, known_rows, all_places}

-- ---- what is opened
pub record HasOpened (form : ProgramForm) (st : State) (rows : List ChosenRow) (left : ℕ) (minor : Minor) : Type 0 where
  pub head : minor.head.items ≡ st.head
  pub stands : minor.stands.items ≡ st.stands
  pub reduced : minor.reduced.items ≡ st.reduced
  pub count : minor.count ≡ st.pivots
  pub limit : minor.limit ≡ st.pivots + left
  pub rows_are : minor.rows.items ≡ map (open_by form st) rows
  pub nows : length rows ≤ vec_capacity minor.nows
  pub dropped : length rows ≤ vec_capacity minor.dropped
  pub remaining : length rows ≤ vec_capacity minor.remaining
  pub places_are : minor.remaining.items ≡ map (λ (k : Kept). k.at.place) minor.rows.items
  pub steps : vec_len minor.steps + length rows ≤ vec_capacity minor.steps
  pub slices_are : length minor.alpha.items ≡ slices (length minor.stands.items)

opened_places : (form : ProgramForm) (st : State) (xs : List InfeasibleRow)
    → map (λ (k : Kept). k.at.place) (map (open_by form st) (map chosen_row xs)) ≡ places xs
opened_places form st [] = refl
opened_places form st (x ∷ xs) = ap (λ ps. x.place ∷ ps) (opened_places form st xs)

pub opens : (form : ProgramForm) (st : State) (rows : List ChosenRow) (left : ℕ) (s : Fresh) (most : ℕ) (minor : Minor) → IsOpenable form st rows left
    → IsFresh (form_of form) (basis_of st) s → rows ≡ map chosen_row (chosen (form_of form) (basis_of st) s st.weights most)
    → HasOpened form st rows left minor → IsOpening (form_of form) (st.pivots + left) (first_reached form st s most) 0 minor
opens form st rows left s most minor o fresh e h =
    let f = form_of form in
    let b = basis_of st in
    let xs : List InfeasibleRow = chosen f b s st.weights most in
    let same : o.solved.fresh ≡ s = only_fresh f b o.solved.fresh s o.basis o.solved.solved fresh in
    let count : length rows ≡ length xs = ap length e ∙ length-map xs chosen_row in
    let nows = h.nows in let dropped = h.dropped in let remaining = h.remaining in let steps = h.steps in
    record {
      reached = record {
        basis = o.basis;
        fresh = fresh;
        placed = record { rows = λ x m. chosen_place f b s st.weights most x m; weights = o.weights ∙ o.basis.places };
        apart = chosen_apart f b s st.weights most;
        range = o.range;
      };
      head = h.head;
      stands = h.stands;
      reduced = h.reduced ∙ o.solved.reduced ∙ ap (λ (x : Fresh). x.reduced) same;
      limited = record { count_is = h.count; limit_is = h.limit; most = omega arith; few = o.few };
      within = omega arith;
      fresh_rows = tt;
      known_rows = subst (λ (ks : List Kept). AreKnownRows f (first_reached form st s most) (map remaining_of ks) xs)
          (sym (h.rows_are ∙ ap (λ (rs : List ChosenRow). map (open_by form st) rs) e))
          (known_rows form st s most xs
          (λ p l. ap (λ vs. get vs p) o.solved.values ∙ tabled_at (rows_of form.columns) (value_at_place b o.solved.fresh) p zero_f l
          ∙ ap (λ (x : Fresh). value_at_place b x p) same)
          (λ x m. chosen_place f b s st.weights most x (contains_from xs x m)));
      remaining = h.places_are ∙ ap (map (λ (k : Kept). k.at.place)) (h.rows_are ∙ ap (λ (rs : List ChosenRow). map (open_by form st) rs) e)
          ∙ opened_places form st xs;
      room = record {
        nows = omega (arith, nows, count);
        dropped = omega (arith, dropped, count);
        remaining = omega (arith, remaining, count);
        steps = omega (arith, steps, count);
        slices = h.slices_are;
      };
    }

pub places_low : (form : ProgramForm) (st : State) (rows : List ChosenRow) (left : ℕ) → IsOpenable form st rows left
    → All (λ (c : ChosenRow). c.place < length st.head) rows
places_low form st rows left o =
    let f = form_of form in
    let b = basis_of st in
    let xs : List InfeasibleRow = chosen f b o.solved.fresh st.weights o.most in
    subst (λ (cs : List ChosenRow). All (λ (c : ChosenRow). c.place < length st.head) cs) (sym o.chosen_are)
    (subst (λ n. All (λ (c : ChosenRow). c.place < n) (map chosen_row xs)) (sym o.basis.places)
    (all_places f.rows xs (λ x m. chosen_place f b o.solved.fresh st.weights o.most x (contains_from xs x m))))

pub values_long : (form : ProgramForm) (st : State) (rows : List ChosenRow) (left : ℕ) → IsOpenable form st rows left → length st.values ≡ length st.head
values_long form st rows left o =
    ap length o.solved.values ∙ tabled_length (rows_of form.columns) (value_at_place (basis_of st) o.solved.fresh) ∙ sym o.basis.places

pub head_known : (form : ProgramForm) (st : State) (rows : List ChosenRow) (left : ℕ) → IsForm form.columns form.bounds form.costs
    → IsOpenable form st rows left → All (λ v. v < length form.bounds) st.head
head_known form st rows left k o = λ p d l.
    let n : variables (form_of form) ≡ length form.columns = variables_are form.columns form.bounds form.costs k in
    let many : length form.bounds ≡ length form.columns = k.as_many_bounds in
    let places : length st.head ≡ rows_of form.columns = o.basis.places in
    let low : get_or st.head p 0 < variables (form_of form) = o.basis.within p (omega (arith, l, places)) in
    subst (λ v. v < length form.bounds) (get_or_default st.head p 0 d l) (omega (arith, low, n, many))

-- ---- a row of the inverse that is taken in
nth_known : (f : Form) (r : Reached) (ks : List Kept) (xs : List InfeasibleRow) (i : ℕ) (x : InfeasibleRow) → AreFreshRows f r (take i ks) (take i xs)
    → AreKnownRows f r (map remaining_of (drop i ks)) (drop i xs) → i < length xs → get_or xs i x ≡ x → (k : Kept) × (i < length ks) × (get_or ks i k ≡ k) × IsKnownRow f r (remaining_of k) x
nth_known f r ks [] i x h a l e = absurd (omega arith)
nth_known f r [] (y ∷ ys) zero x h a l e = absurd a
nth_known f r (k ∷ ks) (y ∷ ys) zero x h a l e = (k, omega arith, refl, subst (IsKnownRow f r (remaining_of k)) e a.0)
nth_known f r [] (y ∷ ys) (suc i) x h a l e = absurd h
nth_known f r (k ∷ ks) (y ∷ ys) (suc i) x h a l e =
    let s = nth_known f r ks ys i x h.1 a (omega arith) e in
    (s.0, (let m = s.1 in omega arith), s.2, s.3)

set_known : (f : Form) (r : Reached) (ks : List Kept) (xs : List InfeasibleRow) (i : ℕ) (x : InfeasibleRow) (k : Kept)
    → AreFreshRows f r (take i ks) (take i xs) → AreKnownRows f r (map remaining_of (drop i ks)) (drop i xs) → i < length xs → get_or xs i x ≡ x → IsFreshRow f r k x
    → AreFreshRows f r (take (suc i) (set ks i k)) (take (suc i) xs) × AreKnownRows f r (map remaining_of (drop (suc i) (set ks i k))) (drop (suc i) xs)
set_known f r ks [] i x k h a l e w = absurd (omega arith)
set_known f r [] (y ∷ ys) zero x k h a l e w = absurd a
set_known f r (j ∷ ks) (y ∷ ys) zero x k h a l e w = ((subst (IsFreshRow f r k) (sym e) w, tt), a.1)
set_known f r [] (y ∷ ys) (suc i) x k h a l e w = absurd h
set_known f r (j ∷ ks) (y ∷ ys) (suc i) x k h a l e w =
    let s = set_known f r ks ys i x k h.1 a (omega arith) e w in
    ((h.0, s.0), s.1)

pub has_known : (f : Form) (limit : ℕ) (r : Reached) (n place : ℕ) (minor : Minor) → IsOpening f limit r n minor → IsRowOf r n place
    → HasRowAt place minor.rows.items
has_known f limit r n place minor h o =
    let s = nth_known f r minor.rows.items r.rows n o.0 h.fresh_rows h.known_rows o.1 o.2 in
    (n, s.0, (s.1, s.2, s.3.place ∙ o.3))

first_known : (f : Form) (limit : ℕ) (r : Reached) (n place first : ℕ) (minor : Minor) → IsOpening f limit r n minor
    → IsRowOf r n place → IsFirstAt place minor.rows.items first → first ≡ n
first_known f limit r n place first minor h o a =
    let s = nth_known f r minor.rows.items r.rows n o.0 h.fresh_rows h.known_rows o.1 o.2 in
    ⊎_elim
    (λ (l : first < n). absurd (before_by f r minor.rows.items r.rows n o.0 first s.0 h.fresh_rows h.reached.apart o.1 o.2 l (a.at s.0 ∙ sym o.3)))
    (λ (l : n ≤ first). ⊎_elim
    (λ (b : n < first). absurd (a.before n s.0 b (ap (λ (k : Kept). k.at.place) s.2 ∙ s.3.place ∙ o.3)))
    (λ (b : first ≤ n). let same : first ≡ n = omega arith in same)
    (cases_lt n first))
    (cases_lt first n)

-- the row that is put in
abbrev pub with_row : Kept → List Fraction → Kept
with_row k rho = record { merit = k.merit; bounds = k.bounds; at = record { place = k.at.place; value = k.at.value; weight = k.at.weight; rho = rho } }

pub known_more : (f : Form) (limit : ℕ) (r : Reached) (n place : ℕ) (minor new : Minor) (rows : List Kept) (first : ℕ) (old : Kept) (rho : List Fraction)
    → IsOpening f limit r n minor → IsRowOf r n place → rho ≡ row_at r.fresh place → rows ≡ minor.rows.items → IsFirstAt place rows first
    → old ≡ get_or minor.rows.items first old → KeepsRest minor new → new.remaining ≡ minor.remaining
    → new.rows.items ≡ set minor.rows.items first (with_row old rho)
    → IsOpening f limit r (n + 1) new
known_more f limit r n place minor new rows first old rho h o w e a read k g s =
    let z : suc n ≡ n + 1 = omega arith in
    let here : first ≡ n = first_known f limit r n place first minor h o (subst (λ ks. IsFirstAt place ks first) e a) in
    let t = nth_known f r minor.rows.items r.rows n o.0 h.fresh_rows h.known_rows o.1 o.2 in
    let same : old ≡ t.0 = read ∙ ap (λ q. get_or minor.rows.items q old) here ∙ get_or_default minor.rows.items n old t.0 t.1 ∙ t.2 in
    let known : IsKnownRow f r (remaining_of old) o.0 = subst (λ x. IsKnownRow f r (remaining_of x) o.0) (sym same) t.3 in
    let put : Kept = with_row old rho in
    let row : IsFreshRow f r put o.0 = record {
      known = record { place = known.place; merit = known.merit; bounds = known.bounds; value = known.value; weight = known.weight };
      rho = w ∙ ap (row_at r.fresh) (sym o.3);
    } in
    let u = set_known f r minor.rows.items r.rows n o.0 put h.fresh_rows h.known_rows o.1 o.2 row in
    let items : set minor.rows.items n put ≡ new.rows.items = ap (λ q. set minor.rows.items q put) (sym here) ∙ sym s in
    let low = o.1 in
    let nows = h.room.nows in let dropped = h.room.dropped in let remaining = h.room.remaining in let steps = h.room.steps in
    let kn = k.nows in let kd = k.dropped in let kr = k.remaining in
    let sl : vec_len new.steps ≡ vec_len minor.steps = ap vec_len k.steps in
    let sc : vec_capacity new.steps ≡ vec_capacity minor.steps = ap vec_capacity k.steps in
    record {
      reached = h.reached;
      head = ap (λ v. v.items) k.head ∙ h.head;
      stands = ap (λ v. v.items) k.stands ∙ h.stands;
      reduced = ap (λ v. v.items) k.reduced ∙ h.reduced;
      limited = record {
        count_is = k.count ∙ h.limited.count_is;
        limit_is = k.limit ∙ h.limited.limit_is;
        most = h.limited.most;
        few = h.limited.few;
      };
      within = omega (arith, low);
      fresh_rows = subst (λ ks. AreFreshRows f r (take (n + 1) ks) (take (n + 1) r.rows)) items
          (subst (λ q. AreFreshRows f r (take q (set minor.rows.items n put)) (take q r.rows)) z u.0);
      known_rows = subst (λ ks. AreKnownRows f r (map remaining_of (drop (n + 1) ks)) (drop (n + 1) r.rows)) items
          (subst (λ q. AreKnownRows f r (map remaining_of (drop q (set minor.rows.items n put))) (drop q r.rows)) z u.1);
      remaining = ap (λ v. v.items) g ∙ h.remaining;
      room = record {
        nows = omega (arith, nows, kn);
        dropped = omega (arith, dropped, kd);
        remaining = omega (arith, remaining, kr);
        steps = omega (arith, steps, sl, sc);
        slices = ap (λ v. length v.items) k.alpha ∙ h.room.slices ∙ sym (ap (λ v. slices (length v.items)) k.stands);
      };
    }

-- ---- all rows taken in
all_known : (f : Form) (r : Reached) (ks : List Kept) (xs : List InfeasibleRow) → AreFreshRows f r (take (length xs) ks) (take (length xs) xs)
    → AreKnownRows f r (map remaining_of (drop (length xs) ks)) (drop (length xs) xs) → AreFreshRows f r ks xs
all_known f r [] [] h a = tt
all_known f r [] (x ∷ xs) h a = absurd h
all_known f r (k ∷ ks) [] h a = absurd a
all_known f r (k ∷ ks) (x ∷ xs) h a = (h.0, all_known f r ks xs h.1 a)

pub fresh_opened : (f : Form) (limit : ℕ) (r : Reached) (minor : Minor) → IsOpening f limit r (length r.rows) minor → IsFreshMinor f limit r minor
fresh_opened f limit r minor h = record {
  reached = h.reached;
  head = h.head;
  stands = h.stands;
  reduced = h.reduced;
  limited = h.limited;
  rows = all_known f r minor.rows.items r.rows h.fresh_rows h.known_rows;
  remaining = h.remaining;
  room = h.room;
}
