-- The next row of a Minor that is fresh: it is picked as the batch's turn has it, or the batch stops.
use Rattle.std.proofs.Common.{◌≡◌, ℕ, zero, suc, ◌<◌, ◌≤◌, inl, inr, Bool, true, false, not, cond, nat_eq, List, [], ◌∷◌, map, length, get_or, Option, None, Some, Ok, refl, sym, ap, ◌∙◌, subst, arith, vec_len, vec_capacity}
use Rattle.std.specs.List.{filter, filter_map}
use Rattle.std.proofs.lemmas.Bool.{eq-eqb, ne_eqb}
use Rattle.pami_theory.specs.Form.{Form}
use Rattle.pami_theory.specs.Order.{ordered}
use Rattle.pami_theory.specs.Choice.{InfeasibleRow, is_chosen_before}
use Rattle.pami_theory.proofs.Members.{Has, contains_from}
use Rattle.pami_theory.proofs.Orders.{ordered_has}
use Rattle.pami_theory.proofs.Chosen.{filter_map_has}
use Rattle.pami_devex.specs.Weights.{AreWeights}
use Rattle.pami_method.specs.Batch as batch
use Rattle.pami_method.specs.Batch.{Reached, places, row_now, is_attractive, staying, AtLimit, NoRow, with_rows, turn}
use Rattle.pami_method.proofs.Turns.{infeasible_is}
use Rattle.pami_minor.specs.declared.kept.Kept.{Kept}
use Rattle.pami_minor.specs.declared.kept.Picked.{Picked}
use Rattle.pami_minor.specs.declared.minor.Minor.{Minor}
use Rattle.pami_minor.specs.Fresh.{AreFreshRows, IsFreshMinor, IsPricing, rest_of}
use Rattle.pami_script.specs.Script.{each_member}
use Rattle.pami_method.specs.Task.{refusal}
use Rattle.pami_method.specs.Scripts.{place_script, row_script}
use Rattle.pami_minor.specs.Follow.{FollowsAmong, Stops, IsStopped, places_left, looked_rows}
use Rattle.std.proofs.lemmas.Option.{none-some}
use Rattle.pami_price.specs.Slices.{slices}
use Rattle.pami_minor.proofs.Among.{fresh_length, fresh_places}

-- ---- weights are positive
weights_by : (f : Form) (r : Reached) (ks : List Kept) (xs : List InfeasibleRow) (i : ℕ) (d : Kept) → AreFreshRows f r ks xs
    → ((x : InfeasibleRow) → Has xs x → x.place < length r.weights) → AreWeights r.weights → i < length ks → 0 < (get_or ks i d).at.weight
weights_by f r [] xs i d h p a l = absurd (omega arith)
weights_by f r (k ∷ ks) [] i d h p a l = absurd h
weights_by f r (k ∷ ks) (x ∷ xs) zero d h p a l =
    let w = (a x.place (p x (inl refl))).least in
    let e = h.0.known.weight in
    omega (arith, w, e)
weights_by f r (k ∷ ks) (x ∷ xs) (suc i) d h p a l = weights_by f r ks xs i d h.1 (λ y m. p y (inr m)) a (omega arith)

pub positive_weights : (f : Form) (limit : ℕ) (r : Reached) (minor : Minor) (i : ℕ) (d : Kept) → IsFreshMinor f limit r minor → i < length minor.rows.items
    → 0 < (get_or minor.rows.items i d).at.weight
positive_weights f limit r minor i d h l =
    weights_by f r minor.rows.items r.rows i d h.rows
    (λ x m. let low = h.reached.placed.rows x (contains_from r.rows x m) in let n = h.reached.placed.weights in omega (arith, low, n)) h.reached.range l

-- ---- one row fewer is left
fewer_by : (b : Bool) (x : InfeasibleRow) (xs : List InfeasibleRow) (n : ℕ) → length xs ≤ n → length (cond b (x ∷ xs) xs) ≤ suc n
fewer_by true x xs n h = omega arith
fewer_by false x xs n h = omega arith

filter_short : (q : InfeasibleRow → Bool) (xs : List InfeasibleRow) → length (filter q xs) ≤ length xs
filter_short q [] = omega arith
filter_short q (x ∷ xs) = fewer_by (q x) x (filter q xs) (length xs) (filter_short q xs)

less_by : (b : Bool) (x : InfeasibleRow) (xs : List InfeasibleRow) (n : ℕ) → length xs < n → length (cond b (x ∷ xs) xs) < suc n
less_by true x xs n h = omega arith
less_by false x xs n h = omega arith

less_one : (xs : List InfeasibleRow) (x : InfeasibleRow) (p : ℕ) → Has xs x → x.place ≡ p
    → length (filter (λ (y : InfeasibleRow). not (nat_eq y.place p)) xs) < length xs
less_one [] x p m e = absurd m
less_one (y ∷ ys) x p (inl s) e =
    let here : nat_eq y.place p ≡ true = eq-eqb y.place p (ap (λ (z : InfeasibleRow). z.place) s ∙ e) in
    let left : List InfeasibleRow = filter (λ (z : InfeasibleRow). not (nat_eq z.place p)) ys in
    let short = filter_short (λ (z : InfeasibleRow). not (nat_eq z.place p)) ys in
    let same : length (cond (not (nat_eq y.place p)) (y ∷ left) left) ≡ length left = ap (λ b. length (cond (not b) (y ∷ left) left)) here in
    omega (arith, short, same)
less_one (y ∷ ys) x p (inr m) e =
    less_by (not (nat_eq y.place p)) y (filter (λ (z : InfeasibleRow). not (nat_eq z.place p)) ys) (length ys) (less_one ys x p m e)

-- ---- the row that is picked
pub picked_has : (f : Form) (r : Reached) (row : InfeasibleRow) (others : List InfeasibleRow)
    → ordered is_chosen_before (filter_map (row_now f r) (staying f r)) ≡ row ∷ others → (x : InfeasibleRow) × Has (staying f r) x × (x.place ≡ row.place)
picked_has f r row others e =
    let now : List InfeasibleRow = filter_map (row_now f r) (staying f r) in
    let first : Has (ordered is_chosen_before now) row = subst (λ ys. Has ys row) (sym e) (inl refl) in
    let m = filter_map_has (row_now f r) (staying f r) row (ordered_has is_chosen_before now row first) in
    (m.0, m.1, sym (infeasible_is f r.basis r.fresh r.weights m.0.place row m.2).0)

-- fewer rows than before are left beside it
pub picked_few : (f : Form) (r : Reached) (ks : List Kept) (drops : List ℕ) (o : Option Picked) (p : Picked) → FollowsAmong f r r.rows ks drops (Ok o) → o ≡ Some p
    → length ks < length r.rows
picked_few f r ks drops None p a e = absurd (none-some p e)
picked_few f r ks drops (Some q) p a e =
    let x = picked_has f r a.0 a.1 a.2 in
    let less = less_one (staying f r) x.0 a.0.place x.1 x.2 in
    let short = filter_short (is_attractive f r) r.rows in
    let same = fresh_length f r ks (rest_of f r a.0) a.4 in
    omega (arith, less, short, same)

-- all but the rows and the scratch lists is as before
pub record KeepsRest (old new : Minor) : Type 0 where
  pub head : new.head ≡ old.head
  pub stands : new.stands ≡ old.stands
  pub reduced : new.reduced ≡ old.reduced
  pub count : new.count ≡ old.count
  pub limit : new.limit ≡ old.limit
  pub alpha : new.alpha ≡ old.alpha
  pub steps : new.steps ≡ old.steps
  pub nows : vec_capacity new.nows ≡ vec_capacity old.nows
  pub dropped : vec_capacity new.dropped ≡ vec_capacity old.dropped
  pub remaining : vec_capacity new.remaining ≡ vec_capacity old.remaining

-- the rows that are looked at, below the limit
pub looked_fit : (f : Form) (limit : ℕ) (r : Reached) → nat_eq r.count limit ≡ false
    → refusal (each_member (λ k p. place_script f r.basis r.fresh p) 0 (places r.rows)) ≡ None → refusal (looked_rows f limit r) ≡ None
looked_fit f limit r e n = ap (λ t. refusal (row_script f r.basis r.fresh (cond t [] (places r.rows)))) e ∙ n

pub picks : (f : Form) (limit : ℕ) (r : Reached) (old new : Minor) (p : Picked) → IsFreshMinor f limit r old → KeepsRest old new
    → ¬ (old.count ≡ old.limit) → new.picked ≡ Some p → new.remaining.items ≡ map (λ (k : Kept). k.at.place) new.rows.items
    → FollowsAmong f r r.rows new.rows.items new.dropped.items (Ok (Some p))
    → (row : InfeasibleRow) × (row.place ≡ p.at.place) × (row.violation ≡ p.violation) × (new.dropped.items ≡ batch.dropped f r) × IsPricing f limit r row 0 new
    × (refusal (looked_rows f limit r) ≡ None)
picks f limit r old new p h k below e n a =
    let x = picked_has f r a.0 a.1 a.2 in
    let less = less_one (staying f r) x.0 a.0.place x.1 x.2 in
    let short = filter_short (is_attractive f r) r.rows in
    let room = h.room in
    let nows = room.nows in let dropped = room.dropped in let remaining = room.remaining in let steps = room.steps in
    let kn = k.nows in let kd = k.dropped in let kr = k.remaining in
    let same_len : vec_len new.steps ≡ vec_len old.steps = ap vec_len k.steps in
    let same_cap : vec_capacity new.steps ≡ vec_capacity old.steps = ap vec_capacity k.steps in (
      a.0,
      sym a.3.place,
      sym a.3.violation,
      a.5,
      record {
        reached = h.reached;
        pick = record { below = λ s. below (h.limited.count_is ∙ s ∙ sym h.limited.limit_is); others = a.1; first = a.2 };
        head = ap (λ v. v.items) k.head ∙ h.head;
        stands = ap (λ v. v.items) k.stands ∙ h.stands;
        reduced = ap (λ v. v.items) k.reduced ∙ h.reduced;
        limited = record {
          count_is = k.count ∙ h.limited.count_is;
          limit_is = k.limit ∙ h.limited.limit_is;
          most = h.limited.most;
          few = h.limited.few;
        };
        rows = a.4;
        remaining = n ∙ fresh_places f r new.rows.items (rest_of f r a.0) a.4;
        picked = (p, e, a.3);
        priced = record { at = λ slice l. absurd (omega arith) };
        room = record {
          nows = omega (arith, less, short, nows, kn);
          dropped = omega (arith, less, short, dropped, kd);
          remaining = omega (arith, less, short, remaining, kr);
          steps = omega (arith, less, short, steps, same_len, same_cap);
          slices = ap (λ v. length v.items) k.alpha ∙ room.slices ∙ sym (ap (λ v. slices (length v.items)) k.stands);
        };
      },
      looked_fit f limit r (ne_eqb r.count limit (λ s. below (h.limited.count_is ∙ s ∙ sym h.limited.limit_is))) a.6,
    )

-- ---- the batch stops
stopped : (f : Form) (limit : ℕ) (r : Reached) (old new : Minor) → IsFreshMinor f limit r old → new.head ≡ old.head → new.stands ≡ old.stands
    → new.reduced ≡ old.reduced → new.remaining.items ≡ places_left limit r → (r.count ≡ limit → AreFreshRows f r new.rows.items r.rows)
    → IsStopped f limit r new
stopped f limit r old new h a b c left rows = record {
  reached = h.reached;
  head = ap (λ v. v.items) a ∙ h.head;
  stands = ap (λ v. v.items) b ∙ h.stands;
  reduced = ap (λ v. v.items) c ∙ h.reduced;
  remaining = left;
  rows = rows;
}

pub stops_at_limit : (f : Form) (limit : ℕ) (r : Reached) (old new : Minor) → IsFreshMinor f limit r old → new.head ≡ old.head → new.stands ≡ old.stands
    → new.reduced ≡ old.reduced → new.remaining ≡ old.remaining → new.rows ≡ old.rows → old.count ≡ old.limit → new.dropped.items ≡ []
    → Stops f limit r new.dropped.items × IsStopped f limit r new × (refusal (looked_rows f limit r) ≡ None)
stops_at_limit f limit r old new h a b c k l e d =
    let met : r.count ≡ limit = sym h.limited.count_is ∙ e ∙ h.limited.limit_is in
    let here : nat_eq r.count limit ≡ true = eq-eqb r.count limit met in (
      inl (ap (λ t. cond t AtLimit (with_rows f r (ordered is_chosen_before (filter_map (row_now f r) (staying f r))))) here, d),
      stopped f limit r old new h a b c (ap (λ v. v.items) k ∙ h.remaining ∙ sym (ap (λ t. cond t (places r.rows) []) here))
          (λ m. subst (λ ks. AreFreshRows f r ks r.rows) (sym (ap (λ v. v.items) l)) h.rows),
      ap (λ t. refusal (row_script f r.basis r.fresh (cond t [] (places r.rows)))) here,
    )

pub stops_without_rows : (f : Form) (limit : ℕ) (r : Reached) (old new : Minor) → IsFreshMinor f limit r old → new.head ≡ old.head → new.stands ≡ old.stands
    → new.reduced ≡ old.reduced → new.remaining.items ≡ [] → ¬ (old.count ≡ old.limit) → FollowsAmong f r r.rows new.rows.items new.dropped.items (Ok None)
    → Stops f limit r new.dropped.items × IsStopped f limit r new × (refusal (looked_rows f limit r) ≡ None)
stops_without_rows f limit r old new h a b c k below e =
    let other : ¬ (r.count ≡ limit) = λ s. below (h.limited.count_is ∙ s ∙ sym h.limited.limit_is) in
    let unmet : nat_eq r.count limit ≡ false = ne_eqb r.count limit other in (
      inr (
        ap (λ t. cond t AtLimit (with_rows f r (ordered is_chosen_before (filter_map (row_now f r) (staying f r))))) unmet ∙ ap (with_rows f r) e.0,
        e.1,
      ),
      stopped f limit r old new h a b c (k ∙ sym (ap (λ t. cond t (places r.rows) []) unmet)) (λ m. absurd (other m)),
      looked_fit f limit r unmet e.2,
    )

-- ---- a row is refused: all is as before but the scratch lists
pub refused_keeps : (f : Form) (limit : ℕ) (r : Reached) (old new : Minor) → IsFreshMinor f limit r old → KeepsRest old new → new.rows ≡ old.rows
    → new.remaining ≡ old.remaining → IsFreshMinor f limit r new
refused_keeps f limit r old new h k l g =
    let room = h.room in
    let nows = room.nows in let dropped = room.dropped in let remaining = room.remaining in let steps = room.steps in
    let kn = k.nows in let kd = k.dropped in let kr = k.remaining in
    let same_len : vec_len new.steps ≡ vec_len old.steps = ap vec_len k.steps in
    let same_cap : vec_capacity new.steps ≡ vec_capacity old.steps = ap vec_capacity k.steps in
    record {
      reached = h.reached;
      head = ap (λ v. v.items) k.head ∙ h.head;
      stands = ap (λ v. v.items) k.stands ∙ h.stands;
      reduced = ap (λ v. v.items) k.reduced ∙ h.reduced;
      limited = record {
        count_is = k.count ∙ h.limited.count_is;
        limit_is = k.limit ∙ h.limited.limit_is;
        most = h.limited.most;
        few = h.limited.few;
      };
      rows = subst (λ ks. AreFreshRows f r ks r.rows) (sym (ap (λ v. v.items) l)) h.rows;
      remaining = ap (λ v. v.items) g ∙ h.remaining;
      room = record {
        nows = omega (arith, nows, kn);
        dropped = omega (arith, dropped, kd);
        remaining = omega (arith, remaining, kr);
        steps = omega (arith, steps, same_len, same_cap);
        slices = ap (λ v. length v.items) k.alpha ∙ room.slices ∙ sym (ap (λ v. slices (length v.items)) k.stands);
      };
    }
