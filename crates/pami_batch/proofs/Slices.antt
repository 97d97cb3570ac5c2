-- What a slice of the picked row asks for, and what it answers.
use Rattle.std.proofs.Common.{◌≡◌, ℕ, ◌+◌, ◌<◌, ◌≤◌, ◌*◌, ◌^◌, List, length, get_or, slice_index_or, Result, sym, ap, ◌∙◌, subst, arith}
use Rattle.std.specs.Global.{Vec}
use Rattle.std.proofs.lemmas.List.{get_or_default}
use Rattle.std.proofs.lemmas.List.FromFn.{length-range_with_len, get_or-range_with_len}
use Rattle.pami_algebra.specs.Fraction.{Fraction}
use Rattle.pami_frac.specs.Answers.{FollowsBy}
use Rattle.pami_frac.specs.declared.arithmetic.Refused.{Refused}
use Rattle.pami_frac.specs.declared.fault.Fault.{Fault}
use Rattle.pami_frac.specs.declared.list.Entry.{Entry}
use Rattle.pami_theory.specs.Form as theory
use Rattle.pami_theory.specs.Form.{variables}
use Rattle.pami_theory.specs.Basis.{Basis, IsBasis}
use Rattle.pami_theory.specs.Fresh.{row_at}
use Rattle.pami_theory.specs.Choice.{InfeasibleRow}
use Rattle.pami_theory.specs.declared.words.Stand.{Stand}
use Rattle.pami_theory.specs.declared.words.Stand.TheVariants.{Basic, Zero}
use Rattle.pami_method.specs.Batch.{Reached}
use Rattle.pami_method.specs.Scripts.{price_script}
use Rattle.pami_method.specs.Task.{refusal}
use Rattle.pami_method.specs.Work.{slices as all_slices}
use Rattle.pami_state.specs.Columns.{column_of}
use Rattle.pami_state.proofs.Formed.{variables_are, coefficient_is}
use Rattle.pami_form.specs.Form.{KeepsForm}
use Rattle.pami_form.specs.FormOf.{form_of}
use Rattle.pami_form.specs.declared.form.Form.{Form}
use Rattle.pami_price.specs.Agreement.{AreListed}
use Rattle.pami_price.specs.Slices.{slices, slice_script}
use Rattle.pami_price.proofs.Priced.{slice_is, slice_value}
use Rattle.pami_minor.specs.declared.minor.Minor.{Minor}
use Rattle.pami_minor.specs.Fresh.{IsPricing}
use Rattle.pami_minor.specs.Follow.{IsPriceOf}
use Rattle.pami_minor.proofs.Walking.{picked_low}
use Rattle.pami_batch.proofs.Told.{IsAnswered}
use Rattle.pami_batch.proofs.Scripts.{priced}

abbrev pub Kept : Form → Type 0
Kept form = KeepsForm form.rows form.columns form.bounds form.costs form.widths

pub form_variables : (form : Form) → Kept form → variables (form_of form) ≡ length form.columns
form_variables form k = variables_are form.columns form.bounds form.costs k.form

pub form_few : (form : Form) → Kept form → variables (form_of form) < 2 ^ 32
form_few form k = subst (λ n. n < 2 ^ 32) (sym (form_variables form k)) k.form.few

pub rows_few : (form : Form) → Kept form → (form_of form).rows < 2 ^ 32
rows_few form k = let few = form_few form k in omega (arith, few)

pub listed : (form : Form) (b : Basis) (stands : List Stand) → Kept form → IsBasis (form_of form) b → stands ≡ b.stands
    → AreListed (form_of form) b form.columns stands
listed form b stands k is e =
    let n = form_variables form k in
    let m = is.variables_stand in
    record {
      count = sym n;
      column = λ v l i low. sym (coefficient_is form.columns form.bounds form.costs v i k.form (omega (arith, l, n)) low);
      stand = λ v l. get_or_default b.stands v Zero Basic (omega (arith, l, m)) ∙ ap (λ (ss : List Stand). slice_index_or ss v Basic) (sym e);
    }

-- as many stands as columns
pub as_many : (form : Form) (limit : ℕ) (r : Reached) (row : InfeasibleRow) (n : ℕ) (minor : Minor) (stands : List Stand) → Kept form
    → IsPricing (form_of form) limit r row n minor → stands ≡ minor.stands.items → length form.columns ≡ length stands
as_many form limit r row n minor stands k h e =
    sym (form_variables form k) ∙ sym h.reached.basis.variables_stand ∙ sym (ap length (e ∙ h.stands))

-- each column is as long as the row
pub as_long : (form : Form) (limit : ℕ) (r : Reached) (row : InfeasibleRow) (n : ℕ) (minor : Minor) (rho : List Fraction) (v : ℕ) → Kept form
    → IsPricing (form_of form) limit r row n minor → rho ≡ row_at r.fresh row.place → v < length form.columns → length (column_of form.columns v) ≡ length rho
as_long form limit r row n minor rho v k h e l =
    k.form.tall v l ∙ sym (h.reached.fresh.row_by_row row.place (picked_low (form_of form) limit r row n minor h)) ∙ sym (ap length e)

pub slice_exists : (form : Form) (slice : ℕ) → Kept form → slice < slices (variables (form_of form)) → 64 * slice < length form.columns
slice_exists form slice k l = let n = form_variables form k in omega (arith, l, n)

pub slice_answer : (form : Form) (limit : ℕ) (r : Reached) (row : InfeasibleRow) (n : ℕ) (minor : Minor) (stands : List Stand) (rho : List Fraction)
    (slice : ℕ) (columns : List (List Fraction)) (answer : Result (Vec Entry) (Fault Refused)) → Kept form
    → IsPricing (form_of form) limit r row n minor → stands ≡ minor.stands.items → rho ≡ row_at r.fresh row.place
    → columns ≡ form.columns → FollowsBy (λ (es : Vec Entry). es.items) (slice_script columns stands rho slice) answer
    → IsAnswered (λ (es : Vec Entry). IsPriceOf (form_of form) r row slice es.items)
    (refusal (price_script (form_of form) r.basis (row_at r.fresh row.place) slice)) answer
slice_answer form limit r row n minor stands rho slice columns answer k h es er ec o =
    let f = form_of form in
    let at : AreListed f r.basis form.columns stands = listed form r.basis stands k h.reached.basis (es ∙ h.stands) in
    let long = h.reached.fresh.row_by_row row.place (picked_low f limit r row n minor h) in
    priced f r row slice (slice_script form.columns stands (row_at r.fresh row.place) slice) answer
    (slice_is f r.basis form.columns stands (row_at r.fresh row.place) slice at long)
    (λ entries e. slice_value f r.basis form.columns stands (row_at r.fresh row.place) slice entries at long e)
    (subst (λ (z : List Fraction). FollowsBy (λ (xs : Vec Entry). xs.items) (slice_script form.columns stands z slice) answer) er
    (subst (λ (cs : List (List Fraction)). FollowsBy (λ (xs : Vec Entry). xs.items) (slice_script cs stands rho slice) answer) ec o))

-- ---- one slice after the other
pub nth_slice : (f : theory.Form) (slice : ℕ) → slice < slices (variables f) → (slice < length (all_slices f)) × (get_or (all_slices f) slice slice ≡ slice)
nth_slice f slice l =
    let z : 0 + slice ≡ slice = omega arith in
    (subst (λ n. slice < n) (sym (length-range_with_len 0 (slices (variables f)))) l, get_or-range_with_len 0 (slices (variables f)) slice slice l ∙ z)

pub slices_end : (f : theory.Form) (i : ℕ) → slices (variables f) ≤ i → length (all_slices f) ≤ i
slices_end f i l = subst (λ n. n ≤ i) (sym (length-range_with_len 0 (slices (variables f)))) l
