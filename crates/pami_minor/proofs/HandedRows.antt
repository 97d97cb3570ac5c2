-- A pick over rows that are handed in: one look through them, and the turn where they are those of what is reached.
use Rattle.std.proofs.Common.{◌≡◌, ℕ, suc, ◌+◌, ◌<◌, inl, inr, Bool, true, false, cond, nat_eq, List, [], ◌∷◌, ◌++◌, drop, length, get_or, Option, None, Some, Result, Ok, Err, refl, sym, ap, ◌∙◌, subst, arith, true≢false}
use Rattle.std.specs.Global.{Vec}
use Rattle.std.specs.List.{filter_map}
use Rattle.std.specs.Option.{option_map}
use Rattle.std.proofs.lemmas.List.{append_assoc, drop_more}
use Rattle.std.proofs.lemmas.Bool.{eq-eqb}
use Rattle.pami_frac.specs.Answers.{FollowsBy}
use Rattle.pami_frac.specs.declared.arithmetic.Refused.{Refused}
use Rattle.pami_frac.specs.declared.fault.Fault.{Fault}
use Rattle.pami_frac.specs.declared.fault.Fault.TheVariants as faults
use Rattle.pami_script.specs.Script.{then, each_member}
use Rattle.pami_script.proofs.Scripts.{then_ok}
use Rattle.pami_theory.specs.Form.{Form}
use Rattle.pami_theory.specs.Order.{ordered}
use Rattle.pami_theory.specs.Choice.{InfeasibleRow, is_chosen_before}
use Rattle.pami_theory.proofs.Comparisons.{choice_is_order}
use Rattle.pami_method.specs.Batch.{Reached, row_now, staying, AtLimit, with_rows, places}
use Rattle.pami_method.specs.Task.{refusal}
use Rattle.pami_method.specs.Scripts.{row_script}
use Rattle.pami_deferral.specs.Inside.{keeps}
use Rattle.pami_minor.specs.declared.row.Remaining.{Remaining}
use Rattle.pami_minor.specs.declared.row.RowNow.{RowNow}
use Rattle.pami_minor.specs.declared.row.RowPick.{RowPick}
use Rattle.pami_minor.specs.declared.row.RowPick.TheVariants.{Stop}
use Rattle.pami_minor.specs.Rows.{row_seen, look_by, looks_by, better_of, dropped_by, best_by, Found, find_by, Pick, pick_of, pick_by, picked}
use Rattle.pami_minor.specs.Follow.{IsBeforePick, IsTurn, FollowsTurn}
use Rattle.pami_minor.proofs.Looks.{AreLooked, looked, looks_fit, looks_refused}
use Rattle.pami_minor.proofs.Among.{head_rest, head_none}
use Rattle.pami_minor.proofs.NextRow.{looked_fit}

-- ---- the best of three, whichever two are compared first
before_chain : (x y z : InfeasibleRow) → is_chosen_before x y ≡ true → is_chosen_before y z ≡ true → is_chosen_before x z ≡ true
before_chain x y z h k = go (is_chosen_before x z) refl
  where
    go : (b : Bool) → is_chosen_before x z ≡ b → is_chosen_before x z ≡ true
    go true e = e
    go false e = absurd (true≢false (sym h ∙ choice_is_order.chain x z y e (choice_is_order.one_way y z k)))

better_by : (x y z : RowNow) (a b c : Bool) → (a ≡ true → b ≡ true → c ≡ true) → (a ≡ false → b ≡ false → c ≡ false)
    → is_chosen_before (row_seen x) (row_seen y) ≡ a → is_chosen_before (row_seen x) (row_seen z) ≡ c → is_chosen_before (row_seen y) (row_seen z) ≡ b
    → better_of (cond a (Some x) (Some y)) (Some z) ≡ better_of (Some x) (cond b (Some y) (Some z))
better_by x y z true true c on off ea ec eb =
    ap (λ t. cond t (Some x) (Some z)) (ec ∙ on refl refl) ∙ sym (ap (λ t. cond t (Some x) (Some y)) ea)
better_by x y z true false c on off ea ec eb = refl
better_by x y z false true c on off ea ec eb =
    ap (λ t. cond t (Some y) (Some z)) eb ∙ sym (ap (λ t. cond t (Some x) (Some y)) ea)
better_by x y z false false c on off ea ec eb =
    ap (λ t. cond t (Some y) (Some z)) eb ∙ sym (ap (λ t. cond t (Some x) (Some z)) (ec ∙ off refl refl))

better_chain : (x y z : Option RowNow) → better_of (better_of x y) z ≡ better_of x (better_of y z)
better_chain None y z = refl
better_chain (Some x) None z = refl
better_chain (Some x) (Some y) None = go (is_chosen_before (row_seen x) (row_seen y))
  where
    go : (b : Bool) → better_of (cond b (Some x) (Some y)) None ≡ cond b (Some x) (Some y)
    go true = refl
    go false = refl
better_chain (Some x) (Some y) (Some z) =
    better_by x y z (is_chosen_before (row_seen x) (row_seen y)) (is_chosen_before (row_seen y) (row_seen z)) (is_chosen_before (row_seen x) (row_seen z))
    (before_chain (row_seen x) (row_seen y) (row_seen z)) (choice_is_order.chain (row_seen x) (row_seen y) (row_seen z)) refl refl refl

-- ---- one row more
abbrev pub found_from : List ℕ → Option RowNow → List Remaining → List (Option RowNow) → Result Found Refused
found_from drops best rows nows = Ok (record { dropped = drops ++ dropped_by rows nows; best = better_of best (best_by rows nows) })

kept_more : (drops : List ℕ) (best : Option RowNow) (row : Remaining) (rows : List Remaining) (now : Option RowNow) (rest : Result (List (Option RowNow)) Refused)
    → keeps row.merit (option_map row_seen now) ≡ true
    → then (then rest (λ nows. Ok (now ∷ nows))) (found_from drops best (row ∷ rows)) ≡ then rest (found_from drops (better_of best now) rows)
kept_more drops best row rows now (Ok nows) e =
    ap (λ t. Ok (record {
      dropped = drops ++ cond t (dropped_by rows nows) (row.place ∷ dropped_by rows nows);
      best = better_of best (better_of (cond t now None) (best_by rows nows));
    })) e
    ∙ ap (λ o. Ok (record { dropped = drops ++ dropped_by rows nows; best = o })) (sym (better_chain best now (best_by rows nows)))
kept_more drops best row rows now (Err d) e = refl

dropped_more : (drops : List ℕ) (best : Option RowNow) (row : Remaining) (rows : List Remaining) (now : Option RowNow) (rest : Result (List (Option RowNow)) Refused)
    → keeps row.merit (option_map row_seen now) ≡ false
    → then (then rest (λ nows. Ok (now ∷ nows))) (found_from drops best (row ∷ rows)) ≡ then rest (found_from (drops ++ row.place ∷ []) best rows)
dropped_more drops best row rows now (Ok nows) e =
    ap (λ t. Ok (record {
      dropped = drops ++ cond t (dropped_by rows nows) (row.place ∷ dropped_by rows nows);
      best = better_of best (better_of (cond t now None) (best_by rows nows));
    })) e
    ∙ ap (λ ps. Ok (record { dropped = ps; best = better_of best (best_by rows nows) })) (sym (append_assoc drops (row.place ∷ []) (dropped_by rows nows)))
dropped_more drops best row rows now (Err d) e = refl

-- what is known behind i rows, and behind the next one
abbrev pub IsFound : List Remaining → ℕ → List ℕ → Option RowNow → Type 0
IsFound rows i drops best = find_by rows ≡ then (each_member (λ k row. look_by row) i (drop i rows)) (found_from drops best (drop i rows))

looked_next : (rows : List Remaining) (i : ℕ) (row : Remaining) (now : Option RowNow) (drops : List ℕ) (best : Option RowNow) → i < length rows
    → row ≡ get_or rows i row → look_by row ≡ Ok now → IsFound rows i drops best
    → find_by rows ≡ then (then (each_member (λ k x. look_by x) (i + 1) (drop (i + 1) rows)) (λ nows. Ok (now ∷ nows)))
    (found_from drops best (row ∷ drop (i + 1) rows))
looked_next rows i row now drops best l e k h =
    let z : suc i ≡ i + 1 = omega arith in
    let rest : List Remaining = drop (i + 1) rows in
    let here : drop i rows ≡ row ∷ rest = drop_more rows i row l ∙ ap (λ x. x ∷ rest) (sym e) in
    h ∙ ap (λ rs. then (each_member (λ j x. look_by x) i rs) (found_from drops best rs)) here
    ∙ ap (λ (s : Result (Option RowNow) Refused).
    then (then s (λ y. then (each_member (λ j x. look_by x) (suc i) rest) (λ ys. Ok (y ∷ ys)))) (found_from drops best (row ∷ rest))) k
    ∙ ap (λ n. then (then (each_member (λ j x. look_by x) n rest) (λ ys. Ok (now ∷ ys))) (found_from drops best (row ∷ rest))) z

pub kept_next : (rows : List Remaining) (i : ℕ) (row : Remaining) (now : Option RowNow) (drops next : List ℕ) (best better : Option RowNow) → i < length rows
    → row ≡ get_or rows i row → look_by row ≡ Ok now → keeps row.merit (option_map row_seen now) ≡ true → next ≡ drops → better ≡ better_of best now
    → IsFound rows i drops best → IsFound rows (i + 1) next better
kept_next rows i row now drops next best better l e k s d b h =
    looked_next rows i row now drops best l e k h
    ∙ kept_more drops best row (drop (i + 1) rows) now (each_member (λ j x. look_by x) (i + 1) (drop (i + 1) rows)) s
    ∙ ap (λ ps. then (each_member (λ j x. look_by x) (i + 1) (drop (i + 1) rows)) (found_from ps (better_of best now) (drop (i + 1) rows))) (sym d)
    ∙ ap (λ o. then (each_member (λ j x. look_by x) (i + 1) (drop (i + 1) rows)) (found_from next o (drop (i + 1) rows))) (sym b)

pub dropped_next : (rows : List Remaining) (i : ℕ) (row : Remaining) (now : Option RowNow) (drops next : List ℕ) (best same : Option RowNow) → i < length rows
    → row ≡ get_or rows i row → look_by row ≡ Ok now → keeps row.merit (option_map row_seen now) ≡ false → next ≡ drops ++ row.place ∷ [] → same ≡ best
    → IsFound rows i drops best → IsFound rows (i + 1) next same
dropped_next rows i row now drops next best same l e k s d b h =
    looked_next rows i row now drops best l e k h
    ∙ dropped_more drops best row (drop (i + 1) rows) now (each_member (λ j x. look_by x) (i + 1) (drop (i + 1) rows)) s
    ∙ ap (λ ps. then (each_member (λ j x. look_by x) (i + 1) (drop (i + 1) rows)) (found_from ps best (drop (i + 1) rows))) (sym d)
    ∙ ap (λ o. then (each_member (λ j x. look_by x) (i + 1) (drop (i + 1) rows)) (found_from next o (drop (i + 1) rows))) (sym b)

-- ---- the turn
abbrev looked_with : List Remaining → List (Option RowNow) → Result Found Refused
looked_with rows nows = Ok (record { dropped = dropped_by rows nows; best = best_by rows nows })

abbrev pick_with : Found → Result Pick Refused
pick_with look = Ok (record { dropped = look.dropped; row = pick_of look.best })

picked_one : (f : Form) (limit : ℕ) (r : Reached) (rows : List Remaining) (nows : List (Option RowNow)) (best : Option RowNow) → nat_eq r.count limit ≡ false
    → AreLooked f r rows nows r.rows → best_by rows nows ≡ best → IsTurn f limit r (dropped_by rows nows) (pick_of best)
picked_one f limit r rows nows None below a e =
    inr (
      ap (λ t. cond t AtLimit (with_rows f r (ordered is_chosen_before (filter_map (row_now f r) (staying f r))))) below
          ∙ ap (with_rows f r) (head_none (ordered is_chosen_before (filter_map (row_now f r) (staying f r))) (sym a.best ∙ ap (option_map row_seen) e)),
      a.drop,
    )
picked_one f limit r rows nows (Some row) below a e =
    let first = head_rest (ordered is_chosen_before (filter_map (row_now f r) (staying f r))) (row_seen row) (sym a.best ∙ ap (option_map row_seen) e) in (
      row_seen row,
      refl,
      refl,
      a.drop,
      record { below = λ s. true≢false (sym (eq-eqb r.count limit s) ∙ below); others = first.0; first = first.1 },
    )

-- below the limit
below_limit : (f : Form) (limit : ℕ) (r : Reached) (rows : List Remaining) (result : Result (Vec ℕ × RowPick) (Fault Refused)) → IsBeforePick f limit r rows false
    → FollowsBy picked (pick_by rows false) result → FollowsTurn f limit r result
below_limit f limit r rows (Ok answer) h o =
    let below : nat_eq r.count limit ≡ false = sym h.limit_is in
    let a = then_ok (find_by rows) pick_with (picked answer) o in
    let b = then_ok (looks_by rows) (looked_with rows) a.0 a.1.0 in
    let found_is : record { dropped = dropped_by rows b.0; best = best_by rows b.0 } ≡ a.0 = cc (b.1.1) in
    let answer_is : record { dropped = a.0.dropped; row = pick_of a.0.best } ≡ picked answer = cc (a.1.1) in
    let same : record { dropped = dropped_by rows b.0; row = pick_of (best_by rows b.0) } ≡ picked answer =
    ap (λ (look : Found). record { dropped = look.dropped; row = pick_of look.best }) found_is ∙ answer_is in
    let turn = picked_one f limit r rows b.0 (best_by rows b.0) below (looked f r rows r.rows 0 b.0 h.rows_are b.1.0) refl in (
      subst (λ (p : Pick). IsTurn f limit r p.dropped p.row) same turn,
      looked_fit f limit r below (looks_fit f r rows r.rows 0 b.0 h.rows_are b.1.0),
    )
below_limit f limit r rows (Err (faults.Named d)) h o =
    let below : nat_eq r.count limit ≡ false = sym h.limit_is in
    ap (λ t. row_script f r.basis r.fresh (cond t [] (places r.rows))) below
    ∙ looks_refused f r rows r.rows 0 d h.rows_are (go (looks_by rows) o)
  where
    go : (s : Result (List (Option RowNow)) Refused) → then (then s (looked_with rows)) pick_with ≡ Err d → s ≡ Err d
    go (Ok nows) e = absurd (cc)
    go (Err c) e = let same : c ≡ d = cc in ap Err same
below_limit f limit r rows (Err faults.OutOfMemory) h o = tt

at_limit : (f : Form) (limit : ℕ) (r : Reached) (rows : List Remaining) (result : Result (Vec ℕ × RowPick) (Fault Refused)) → IsBeforePick f limit r rows true
    → FollowsBy picked (pick_by rows true) result → FollowsTurn f limit r result
at_limit f limit r rows (Ok answer) h o =
    let met : nat_eq r.count limit ≡ true = sym h.limit_is in
    let same : record { dropped = []; row = Stop } ≡ picked answer = cc (o) in (
      subst (λ (p : Pick). IsTurn f limit r p.dropped p.row) same
          (inl (ap (λ t. cond t AtLimit (with_rows f r (ordered is_chosen_before (filter_map (row_now f r) (staying f r))))) met, refl)),
      ap (λ t. refusal (row_script f r.basis r.fresh (cond t [] (places r.rows)))) met,
    )
at_limit f limit r rows (Err (faults.Named d)) h o = absurd (cc)
at_limit f limit r rows (Err faults.OutOfMemory) h o = tt

pub pick_follows : (f : Form) (limit : ℕ) (r : Reached) (rows : List Remaining) (flag : Bool) (result : Result (Vec ℕ × RowPick) (Fault Refused))
    → IsBeforePick f limit r rows flag → FollowsBy picked (pick_by rows flag) result → FollowsTurn f limit r result
pick_follows f limit r rows true result h o = at_limit f limit r rows result h o
pick_follows f limit r rows false result h o = below_limit f limit r rows result h o
