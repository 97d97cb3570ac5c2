-- Rows that remain are looked at as the batch's rows are: the same stay, the same are dropped, the same one is best.
use Rattle.std.proofs.Common.{◌≡◌, ℕ, suc, Bool, true, false, not, cond, List, [], ◌∷◌, map, length, Option, None, Some, Result, Ok, Err, refl, sym, ap, ◌∙◌, subst}
use Rattle.std.specs.List.{filter, filter_map, cons_option}
use Rattle.std.proofs.lemmas.List.{length-map}
use Rattle.std.specs.Option.{option_map}
use Rattle.pami_frac.specs.declared.arithmetic.Refused.{Refused}
use Rattle.pami_script.specs.Script.{then, each_member}
use Rattle.pami_script.proofs.Scripts.{then_ok}
use Rattle.pami_theory.specs.Form.{Form, limits}
use Rattle.pami_theory.specs.Basis.{head_at}
use Rattle.pami_theory.specs.Order.{put_in, ordered}
use Rattle.pami_theory.specs.Weights.{weight_at}
use Rattle.pami_theory.specs.declared.words.Violation.{Violation}
use Rattle.pami_theory.specs.Violation.{violation}
use Rattle.pami_theory.specs.Choice.{InfeasibleRow, row_of, is_chosen_before}
use Rattle.pami_method.specs.Batch.{Reached, places, row_now, is_attractive}
use Rattle.pami_method.specs.Task.{refusal}
use Rattle.pami_method.specs.Scripts.{violation_script, place_script}
use Rattle.pami_method.proofs.Values.{violation_value}
use Rattle.pami_deferral.specs.Inside.{keeps}
use Rattle.pami_deferral.proofs.KeptTurns.{keeps_is}
use Rattle.pami_minor.specs.declared.row.Remaining.{Remaining}
use Rattle.pami_minor.specs.declared.row.RowNow.{RowNow}
use Rattle.pami_minor.specs.declared.kept.Kept.{Kept}
use Rattle.pami_minor.specs.Rows.{row_seen, now_with, look_by, looks_by, better_of, dropped_by, best_by}
use Rattle.pami_minor.specs.Picks.{remaining_of, staying_by}
use Rattle.pami_minor.specs.Fresh.{IsKnownRow, AreKnownRows, AreFreshRows}

-- ---- one row
seen_with : (row : Remaining) (o : Option Violation) → option_map row_seen (option_map (now_with row) o) ≡ option_map (row_of row.place row.weight) o
seen_with row None = refl
seen_with row (Some v) = refl

look_is : (f : Form) (r : Reached) (row : Remaining) (x : InfeasibleRow) (now : Option RowNow) → IsKnownRow f r row x → look_by row ≡ Ok now
    → option_map row_seen now ≡ row_now f r x
look_is f r row x now h e =
    let j = then_ok (violation_script row.bounds row.value) (λ v. Ok (option_map (now_with row) v)) now e in
    let same : option_map (now_with row) j.0 ≡ now = cc (j.1.1) in
    ap (option_map row_seen) (sym same)
    ∙ seen_with row j.0
    ∙ ap (λ p. option_map (row_of p row.weight) j.0) h.place
    ∙ ap (λ w. option_map (row_of x.place w) j.0) h.weight
    ∙ ap (option_map (row_of x.place (weight_at r.weights x.place)))
    (violation_value row.bounds row.value j.0 j.1.0 ∙ ap (λ l. violation l row.value) h.bounds
    ∙ ap (violation (limits f (head_at r.basis x.place))) h.value)

attractive_is : (f : Form) (r : Reached) (row : Remaining) (x : InfeasibleRow) (now : Option RowNow) → IsKnownRow f r row x → look_by row ≡ Ok now
    → keeps row.merit (option_map row_seen now) ≡ is_attractive f r x
attractive_is f r row x now h e =
    ap (keeps row.merit) (look_is f r row x now h e) ∙ ap (λ m. keeps m (row_now f r x)) h.merit ∙ keeps_is x (row_now f r x)

-- ---- the first of a list in order
abbrev pub head_of : {A : Type 0} → List A → Option A
head_of [] = None
head_of (x ∷ xs) = Some x

abbrev pub first_of : Option InfeasibleRow → Option InfeasibleRow → Option InfeasibleRow
first_of None second = second
first_of (Some x) None = Some x
first_of (Some x) (Some y) = cond (is_chosen_before x y) (Some x) (Some y)

seen_by : (x y : RowNow) (b : Bool) → option_map row_seen (cond b (Some x) (Some y)) ≡ cond b (Some (row_seen x)) (Some (row_seen y))
seen_by x y true = refl
seen_by x y false = refl

seen_better : (a b : Option RowNow) → option_map row_seen (better_of a b) ≡ first_of (option_map row_seen a) (option_map row_seen b)
seen_better None b = refl
seen_better (Some x) None = refl
seen_better (Some x) (Some y) = seen_by x y (is_chosen_before (row_seen x) (row_seen y))

head_by : (x y : InfeasibleRow) (xs ys : List InfeasibleRow) (b : Bool) → head_of (cond b (x ∷ xs) (y ∷ ys)) ≡ cond b (Some x) (Some y)
head_by x y xs ys true = refl
head_by x y xs ys false = refl

head_put : (x : InfeasibleRow) (ys : List InfeasibleRow) → head_of (put_in is_chosen_before x ys) ≡ first_of (Some x) (head_of ys)
head_put x [] = refl
head_put x (y ∷ ys) = head_by x y (y ∷ ys) (put_in is_chosen_before x ys) (is_chosen_before x y)

first_more : (o : Option InfeasibleRow) (xs : List InfeasibleRow)
    → head_of (ordered is_chosen_before (cons_option o xs)) ≡ first_of o (head_of (ordered is_chosen_before xs))
first_more None xs = refl
first_more (Some x) xs = head_put x (ordered is_chosen_before xs)

-- ---- all rows
pub record AreLooked (f : Form) (r : Reached) (rows : List Remaining) (nows : List (Option RowNow)) (xs : List InfeasibleRow) : Type 0 where
  pub drop : dropped_by rows nows ≡ places (filter (λ x. not (is_attractive f r x)) xs)
  pub best : option_map row_seen (best_by rows nows) ≡ head_of (ordered is_chosen_before (filter_map (row_now f r) (filter (is_attractive f r) xs)))

looked_more : (f : Form) (r : Reached) (row : Remaining) (rows : List Remaining) (now : Option RowNow) (nows : List (Option RowNow)) (x : InfeasibleRow) (xs : List InfeasibleRow)
    (b c : Bool) → b ≡ c → option_map row_seen now ≡ row_now f r x → row.place ≡ x.place → AreLooked f r rows nows xs
    → (cond b (dropped_by rows nows) (row.place ∷ dropped_by rows nows)
    ≡ places (cond (not c) (x ∷ filter (λ x. not (is_attractive f r x)) xs) (filter (λ x. not (is_attractive f r x)) xs)))
    × (option_map row_seen (better_of (cond b now None) (best_by rows nows))
    ≡ head_of (ordered is_chosen_before (filter_map (row_now f r) (cond c (x ∷ filter (is_attractive f r) xs) (filter (is_attractive f r) xs)))))
looked_more f r row rows now nows x xs true true e n h a = (
  a.drop,
  seen_better now (best_by rows nows)
      ∙ ap (λ o. first_of o (option_map row_seen (best_by rows nows))) n
      ∙ ap (first_of (row_now f r x)) a.best
      ∙ sym (first_more (row_now f r x) (filter_map (row_now f r) (filter (is_attractive f r) xs))),
)
looked_more f r row rows now nows x xs false false e n h a = (
  ap (λ p. p ∷ dropped_by rows nows) h ∙ ap (λ ps. x.place ∷ ps) a.drop,
  a.best,
)
looked_more f r row rows now nows x xs true false e n h a = absurd (cc)
looked_more f r row rows now nows x xs false true e n h a = absurd (cc)

pub looked : (f : Form) (r : Reached) (rows : List Remaining) (xs : List InfeasibleRow) (i : ℕ) (nows : List (Option RowNow)) → AreKnownRows f r rows xs
    → each_member (λ i row. look_by row) i rows ≡ Ok nows → AreLooked f r rows nows xs
looked f r [] [] i nows h e =
    let same : [] ≡ nows = cc in
    subst (λ ns. AreLooked f r [] ns []) same (record { drop = refl; best = refl })
looked f r [] (x ∷ xs) i nows h e = absurd h
looked f r (row ∷ rows) [] i nows h e = absurd h
looked f r (row ∷ rows) (x ∷ xs) i nows h e =
    let a = then_ok (look_by row) (λ y. then (each_member (λ i row. look_by row) (suc i) rows) (λ ys. Ok (y ∷ ys))) nows e in
    let b = then_ok (each_member (λ i row. look_by row) (suc i) rows) (λ ys. Ok (a.0 ∷ ys)) nows a.1.1 in
    let same : a.0 ∷ b.0 ≡ nows = cc (b.1.1) in
    let rest = looked f r rows xs (suc i) b.0 h.1 b.1.0 in
    let now = look_is f r row x a.0 h.0 a.1.0 in
    let m = looked_more f r row rows a.0 b.0 x xs (keeps row.merit (option_map row_seen a.0)) (is_attractive f r x)
    (attractive_is f r row x a.0 h.0 a.1.0) now h.0.place rest in
    subst (λ ns. AreLooked f r (row ∷ rows) ns (x ∷ xs)) same (record { drop = m.0; best = m.1 })

-- ---- rows that are kept
pub known_of : (f : Form) (r : Reached) (ks : List Kept) (xs : List InfeasibleRow) → AreFreshRows f r ks xs → AreKnownRows f r (map remaining_of ks) xs
known_of f r [] [] h = tt
known_of f r [] (x ∷ xs) h = absurd h
known_of f r (k ∷ ks) [] h = absurd h
known_of f r (k ∷ ks) (x ∷ xs) h = (h.0.known, known_of f r ks xs h.1)

stay_more : (f : Form) (r : Reached) (k : Kept) (ks : List Kept) (nows : List (Option RowNow)) (x : InfeasibleRow) (xs : List InfeasibleRow) (b c : Bool) → b ≡ c
    → AreFreshRows f r (k ∷ []) (x ∷ []) → AreFreshRows f r (staying_by ks nows) (filter (is_attractive f r) xs)
    → AreFreshRows f r (cond b (k ∷ staying_by ks nows) (staying_by ks nows)) (cond c (x ∷ filter (is_attractive f r) xs) (filter (is_attractive f r) xs))
stay_more f r k ks nows x xs true true e h a = (h.0, a)
stay_more f r k ks nows x xs false false e h a = a
stay_more f r k ks nows x xs true false e h a = absurd (cc)
stay_more f r k ks nows x xs false true e h a = absurd (cc)

pub stay_fresh : (f : Form) (r : Reached) (ks : List Kept) (xs : List InfeasibleRow) (i : ℕ) (nows : List (Option RowNow)) → AreFreshRows f r ks xs
    → each_member (λ i row. look_by row) i (map remaining_of ks) ≡ Ok nows → AreFreshRows f r (staying_by ks nows) (filter (is_attractive f r) xs)
stay_fresh f r [] [] i nows h e = let same : [] ≡ nows = cc in subst (λ ns. AreFreshRows f r (staying_by [] ns) []) same tt
stay_fresh f r [] (x ∷ xs) i nows h e = absurd h
stay_fresh f r (k ∷ ks) [] i nows h e = absurd h
stay_fresh f r (k ∷ ks) (x ∷ xs) i nows h e =
    let a = then_ok (look_by (remaining_of k)) (λ y. then (each_member (λ i row. look_by row) (suc i) (map remaining_of ks)) (λ ys. Ok (y ∷ ys))) nows e in
    let b = then_ok (each_member (λ i row. look_by row) (suc i) (map remaining_of ks)) (λ ys. Ok (a.0 ∷ ys)) nows a.1.1 in
    let same : a.0 ∷ b.0 ≡ nows = cc (b.1.1) in
    subst (λ ns. AreFreshRows f r (staying_by (k ∷ ks) ns) (filter (is_attractive f r) (x ∷ xs))) same
    (stay_more f r k ks b.0 x xs (keeps k.merit (option_map row_seen a.0)) (is_attractive f r x)
    (attractive_is f r (remaining_of k) x a.0 h.0.known a.1.0) (h.0, tt) (stay_fresh f r ks xs (suc i) b.0 h.1 b.1.0))

-- ---- a refusal
refused_more : {A B : Type 0} (s : Result A Refused) (o : Result B Refused) (g : B → A) (rest : Result (List B) Refused) (others : Result (List A) Refused) (d : Refused)
    → then o (λ v. Ok (g v)) ≡ s → ((c : Refused) → others ≡ Err c → rest ≡ Err c)
    → then s (λ y. then others (λ ys. Ok (y ∷ ys))) ≡ Err d → then o (λ y. then rest (λ ys. Ok (y ∷ ys))) ≡ Err d
refused_more (Ok y) (Ok v) g rest (Ok ys) d e k h = absurd (cc)
refused_more (Ok y) (Ok v) g rest (Err c) d e k h = ap (λ s. then s (λ ys. Ok (v ∷ ys))) (k c refl) ∙ ap Err (let same : c ≡ d = cc in same)
refused_more (Ok y) (Err c) g rest others d e k h = absurd (cc)
refused_more (Err c) (Ok v) g rest others d e k h = absurd (cc)
refused_more (Err c) (Err b) g rest others d e k h = let same : b ≡ d = cc in ap Err same

-- the operations of a row are those of its place
place_is : (f : Form) (r : Reached) (row : Remaining) (x : InfeasibleRow) → IsKnownRow f r row x
    → violation_script row.bounds row.value ≡ place_script f r.basis r.fresh x.place
place_is f r row x h =
    ap (λ l. violation_script l row.value) h.bounds ∙ ap (violation_script (limits f (head_at r.basis x.place))) h.value

pub looks_refused : (f : Form) (r : Reached) (rows : List Remaining) (xs : List InfeasibleRow) (i : ℕ) (d : Refused) → AreKnownRows f r rows xs
    → each_member (λ i row. look_by row) i rows ≡ Err d → each_member (λ k p. place_script f r.basis r.fresh p) i (places xs) ≡ Err d
looks_refused f r [] [] i d h e = absurd (cc)
looks_refused f r [] (x ∷ xs) i d h e = absurd h
looks_refused f r (row ∷ rows) [] i d h e = absurd h
looks_refused f r (row ∷ rows) (x ∷ xs) i d h e =
    refused_more (look_by row) (place_script f r.basis r.fresh x.place) (option_map (now_with row))
    (each_member (λ k p. place_script f r.basis r.fresh p) (suc i) (places xs)) (each_member (λ i row. look_by row) (suc i) rows) d
    (ap (λ s. then s (λ v. Ok (option_map (now_with row) v))) (sym (place_is f r row x h.0)))
    (λ c m. looks_refused f r rows xs (suc i) c h.1 m) e

-- ---- and none
fits_more : {A B : Type 0} (o : Result B Refused) (g : B → A) (rest : Result (List B) Refused) (others : Result (List A) Refused) (zs : List A)
    → ((ys : List A) → others ≡ Ok ys → refusal rest ≡ None)
    → then (then o (λ v. Ok (g v))) (λ y. then others (λ ys. Ok (y ∷ ys))) ≡ Ok zs → refusal (then o (λ y. then rest (λ ys. Ok (y ∷ ys)))) ≡ None
fits_more (Ok v) g (Ok xs) (Ok ys) zs k e = refl
fits_more (Ok v) g (Err c) (Ok ys) zs k e = k ys refl
fits_more (Ok v) g rest (Err c) zs k e = absurd (cc)
fits_more (Err c) g rest others zs k e = absurd (cc)

pub looks_fit : (f : Form) (r : Reached) (rows : List Remaining) (xs : List InfeasibleRow) (i : ℕ) (nows : List (Option RowNow)) → AreKnownRows f r rows xs
    → each_member (λ i row. look_by row) i rows ≡ Ok nows
    → refusal (each_member (λ k p. place_script f r.basis r.fresh p) i (places xs)) ≡ None
looks_fit f r [] [] i nows h e = refl
looks_fit f r [] (x ∷ xs) i nows h e = absurd h
looks_fit f r (row ∷ rows) [] i nows h e = absurd h
looks_fit f r (row ∷ rows) (x ∷ xs) i nows h e =
    subst (λ (s : Result (Option Violation) Refused).
    refusal (then s (λ y. then (each_member (λ k p. place_script f r.basis r.fresh p) (suc i) (places xs)) (λ ys. Ok (y ∷ ys)))) ≡ None) (place_is f r row x h.0)
    (fits_more (violation_script row.bounds row.value) (option_map (now_with row))
    (each_member (λ k p. place_script f r.basis r.fresh p) (suc i) (places xs)) (each_member (λ i row. look_by row) (suc i) rows) nows
    (λ ys m. looks_fit f r rows xs (suc i) ys h.1 m) e)

-- ---- one for each
members_length : {A B : Type 0} (g : ℕ → A → Result B Refused) (i : ℕ) (xs : List A) (ys : List B) → each_member g i xs ≡ Ok ys → length ys ≡ length xs
members_length g i [] ys e = let same : [] ≡ ys = cc in sym (ap length same)
members_length g i (x ∷ xs) ys e =
    let a = then_ok (g i x) (λ y. then (each_member g (suc i) xs) (λ zs. Ok (y ∷ zs))) ys e in
    let b = then_ok (each_member g (suc i) xs) (λ zs. Ok (a.0 ∷ zs)) ys a.1.1 in
    let same : a.0 ∷ b.0 ≡ ys = cc (b.1.1) in
    sym (ap length same) ∙ ap suc (members_length g (suc i) xs b.0 b.1.0)

pub looks_length : (ks : List Kept) (nows : List (Option RowNow)) → looks_by (map remaining_of ks) ≡ Ok nows → length nows ≡ length ks
looks_length ks nows e = members_length (λ i row. look_by row) 0 (map remaining_of ks) nows e ∙ length-map ks remaining_of
