-- The choice of rows over a state's lists is that of what its basis has.
use Rattle.std.proofs.Common.{◌≡◌, ℕ, ◌<◌, ◌^◌, List, map, length, Option, Result, Ok, Err, sym, ap, ◌∙◌, subst, arith}
use Rattle.std.proofs.lemmas.List.{length-map}
use Rattle.pami_algebra.specs.Fraction.{Fraction}
use Rattle.pami_frac.specs.declared.arithmetic.Refused.{Refused}
use Rattle.pami_frac.specs.declared.list.Bounds.{Bounds}
use Rattle.pami_frac.specs.declared.fault.Fault.{Fault}
use Rattle.pami_frac.specs.declared.fault.Fault.TheVariants as faults
use Rattle.pami_frac.specs.Answers.{FollowsBy}
use Rattle.pami_script.specs.Script.{then}
use Rattle.pami_theory.specs.declared.words.Violation.{Violation}
use Rattle.pami_theory.specs.Fresh.{Fresh, IsFresh}
use Rattle.pami_theory.specs.Choice.{chosen}
use Rattle.pami_method.specs.declared.words.Spot.TheVariants.{Choose}
use Rattle.pami_method.specs.Scripts.{choose_script}
use Rattle.pami_chuzr.specs.Choice.{chosen_by, chosen_row, choice_script}
use Rattle.pami_chuzr.specs.declared.row.ChosenRow.{ChosenRow}
use Rattle.pami_chuzr.proofs.Places.{rows_of_basis, script_of_basis}
use Rattle.pami_form.specs.declared.form.Form.{Form}
use Rattle.pami_form.specs.FormOf.{form_of}
use Rattle.pami_state.specs.State.{basis_of}
use Rattle.pami_state.specs.Columns.{rows_of}
use Rattle.pami_state.specs.declared.state.State.{State}
use Rattle.pami_minor.proofs.WalkedRow.{Kept}
use Rattle.pami_major.specs.Beginnings.{bounds_at_places, told_at, choice_outcome}
use Rattle.pami_major.specs.Ready.{IsReady}
use Rattle.pami_major.proofs.Places.{values_at_places, places_of}

-- ---- how many
-- a state that is ready has few places
pub few_places : (form : Form) (limit : ℕ) (st : State) → Kept form → IsReady form limit st → length st.head < 2 ^ 32
few_places form limit st k r =
    let p : length st.head ≡ rows_of form.columns = r.basis.places in
    let few = k.form.few in
    let rows = k.form.row_variables in
    omega arith

-- the lists that were lent are as long as each other
pub lent_few : (form : Form) (limit : ℕ) (st : State) (values : List Fraction) → Kept form → IsReady form limit st → values ≡ st.values
    → length values < 2 ^ 32
lent_few form limit st values k r v =
    subst (λ n. n < 2 ^ 32) (sym (ap length v ∙ values_at_places form limit st r)) (few_places form limit st k r)

pub lent_bounds : (form : Form) (limit : ℕ) (st : State) (lent : List Bounds) (values : List Fraction) → IsReady form limit st
    → lent ≡ bounds_at_places form.bounds st.head → values ≡ st.values → length lent ≡ length values
lent_bounds form limit st lent values r e v =
    ap length e ∙ length-map st.head _ ∙ sym (ap length v ∙ values_at_places form limit st r)

pub lent_weights : (form : Form) (limit : ℕ) (st : State) (weights : List ℕ) (values : List Fraction) → IsReady form limit st
    → weights ≡ st.weights → values ≡ st.values → length weights ≡ length values
lent_weights form limit st weights values r w v = ap length w ∙ r.weights ∙ sym (ap length v ∙ values_at_places form limit st r)

-- the bounds at the places, from those that were lent
pub lent_at : (form : Form) (st : State) (by lent : List Bounds) (bounds : List Bounds) (head : List ℕ) → lent ≡ by → by ≡ bounds_at_places bounds head
    → bounds ≡ form.bounds → head ≡ st.head → lent ≡ bounds_at_places form.bounds st.head
lent_at form st by lent bounds head e i b h = e ∙ i ∙ ap (λ bs. bounds_at_places bs head) b ∙ ap (bounds_at_places form.bounds) h

-- a named fault is the script's refusal
pub named_so : {A B E : Type 0} (seen : B → A) (r : Result A E) (fault : Fault E) (e : E) → FollowsBy seen r (Err fault) → fault ≡ faults.Named e → r ≡ Err e
named_so seen r fault e h i = subst (λ x. FollowsBy seen r (Err x)) i h

-- ---- the choice
-- over the state's lists
choice_is : (form : Form) (limit : ℕ) (st : State) (s : Fresh) (most : ℕ) → Kept form → IsReady form limit st → IsFresh (form_of form) (basis_of st) s
    → choice_script (bounds_at_places form.bounds st.head) st.values st.weights most
    ≡ then (choose_script (form_of form) (basis_of st) s) (λ found. Ok (map chosen_row (chosen (form_of form) (basis_of st) s st.weights most)))
choice_is form limit st s most k r fresh =
    let f = form_of form in
    let b = basis_of st in
    let by = bounds_at_places form.bounds st.head in
    let at = places_of form limit st s k r fresh in
    ap (λ z. then z (λ found. Ok (map chosen_row (chosen_by by st.values st.weights most)))) (script_of_basis f b s by st.values at)
    ∙ ap (λ xs. then (choose_script f b s) (λ found. Ok (map chosen_row xs))) (rows_of_basis f b s by st.values st.weights most at)

-- and over those that were lent
lent_choice : (form : Form) (st : State) (most : ℕ) (lent : List Bounds) (values : List Fraction) (weights : List ℕ)
    → lent ≡ bounds_at_places form.bounds st.head → values ≡ st.values → weights ≡ st.weights
    → choice_script (bounds_at_places form.bounds st.head) st.values st.weights most ≡ choice_script lent values weights most
lent_choice form st most lent values weights e v w =
    ap (λ z. choice_script (bounds_at_places form.bounds st.head) st.values z most) (sym w)
    ∙ ap (λ z. choice_script (bounds_at_places form.bounds st.head) z weights most) (sym v)
    ∙ ap (λ z. choice_script z values weights most) (sym e)

told_ok : (r : Result (List (Option Violation)) Refused) (xs rows : List ChosenRow) → then r (λ found. Ok xs) ≡ Ok rows → told_at Choose r xs ≡ Ok rows
told_ok (Ok found) xs rows e = let same : xs ≡ rows = cc in ap Ok same
told_ok (Err d) xs rows e = absurd (cc)

told_err : (r : Result (List (Option Violation)) Refused) (xs : List ChosenRow) (d : Refused) → then r (λ found. Ok xs) ≡ Err d
    → told_at Choose r xs ≡ Err (record { task = Choose; refused = d })
told_err (Ok found) xs d e = absurd (cc)
told_err (Err c) xs d e = let same : c ≡ d = cc in ap (λ (x : Refused). Err (record { task = Choose; refused = x })) same

pub choice_ok : (form : Form) (limit : ℕ) (st : State) (s : Fresh) (most : ℕ) (lent : List Bounds) (values : List Fraction) (weights : List ℕ)
    (rows : List ChosenRow)
    → Kept form → IsReady form limit st → IsFresh (form_of form) (basis_of st) s
    → lent ≡ bounds_at_places form.bounds st.head → values ≡ st.values → weights ≡ st.weights → choice_script lent values weights most ≡ Ok rows
    → choice_outcome (form_of form) (basis_of st) s st.weights most ≡ Ok rows
choice_ok form limit st s most lent values weights rows k r fresh e v w h =
    told_ok (choose_script (form_of form) (basis_of st) s) (map chosen_row (chosen (form_of form) (basis_of st) s st.weights most)) rows
    (sym (choice_is form limit st s most k r fresh) ∙ lent_choice form st most lent values weights e v w ∙ h)

pub choice_err : (form : Form) (limit : ℕ) (st : State) (s : Fresh) (most : ℕ) (lent : List Bounds) (values : List Fraction) (weights : List ℕ) (d : Refused)
    → Kept form → IsReady form limit st → IsFresh (form_of form) (basis_of st) s
    → lent ≡ bounds_at_places form.bounds st.head → values ≡ st.values → weights ≡ st.weights → choice_script lent values weights most ≡ Err d
    → choice_outcome (form_of form) (basis_of st) s st.weights most ≡ Err (record { task = Choose; refused = d })
choice_err form limit st s most lent values weights d k r fresh e v w h =
    told_err (choose_script (form_of form) (basis_of st) s) (map chosen_row (chosen (form_of form) (basis_of st) s st.weights most)) d
    (sym (choice_is form limit st s most k r fresh) ∙ lent_choice form st most lent values weights e v w ∙ h)
