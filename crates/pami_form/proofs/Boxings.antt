-- The form of phase one keeps what a form keeps, and none of its widths is refused.
use Rattle.pami_algebra.proofs.Order.{le_trans_f}
use Rattle.std.proofs.Common.{◌≡◌, ℕ, suc, ◌<◌, List, [], ◌∷◌, length, map, take, Option, None, Some, Err, refl, sym, ap, ◌∙◌, subst}
use Rattle.std.proofs.lemmas.Option.{none-some}
use Rattle.std.proofs.lemmas.List.{length-map}
use lib.IntN.{pos, negsuc}
use Rattle.pami_algebra.specs.Fraction.{Fraction, gcd}
use Rattle.pami_algebra.specs.Operations.{of_int, neg_f, ◌+ᶠ◌}
use Rattle.pami_frac.specs.Arithmetic.{add_fits, add_outcome, sub_outcome}
use Rattle.pami_frac.specs.declared.list.Bounds.{Bounds}
use Rattle.pami_theory.specs.Form.{Form, limits, variables, zero_f, IsUncrossed}
use Rattle.pami_theory.specs.Boxes.{between, box_by, box, boxes_of}
use Rattle.pami_theory.proofs.Boxed.{zero_feasible}
use Rattle.pami_method.specs.Task.{refusal}
use Rattle.pami_state.specs.Columns.{rows_of, columns_of, form_by}
use Rattle.pami_state.proofs.Formed.{variables_are}
use Rattle.pami_form.specs.Form.{KeepsForm, widths_of}
use Rattle.pami_frac.specs.declared.fault.Fault.{Fault}
use Rattle.pami_frac.specs.declared.fault.Fault.TheVariants as faults
use Rattle.pami_frac.specs.Answers.{Follows}
use Rattle.pami_form.specs.declared.form.WideBox.{WideBox}
use Rattle.pami_form.specs.Widths.{width_script, wide_or, first_wide_from, first_wide}

-- ---- widths of boxes fit
-- -1 is the whole number
pub minus_one : neg_f (of_int (pos 1)) ≡ of_int (negsuc 0)
unfolding neg_f of_int gcd
minus_one = refl

box_fits_by : (low high : Option Fraction) → refusal (width_script (box_by low high)) ≡ None
unfolding add_outcome add_fits sub_outcome ◌+ᶠ◌ neg_f of_int gcd
box_fits_by None None = refl
box_fits_by (Some low) None = refl
box_fits_by None (Some high) = refl
box_fits_by (Some low) (Some high) = refl

none_from : (v : ℕ) (ls : List Bounds) → first_wide_from v (map box ls) ≡ None
none_from v [] = refl
none_from v (l ∷ ls) = ap (λ r. wide_or v r (first_wide_from (suc v) (map box ls))) (box_fits_by l.low l.high) ∙ none_from (suc v) ls

pub boxes_fit : (ls : List Bounds) → first_wide (map box ls) ≡ None
boxes_fit ls = none_from 0 ls

-- ---- the form of the lists
pub boxes_are : (columns : List (List Fraction)) (bounds boxed : List Bounds) (costs : List Fraction) → boxed ≡ map box bounds → form_by columns boxed costs ≡ boxes_of (form_by columns bounds costs)
boxes_are columns bounds boxed costs e = ap (λ (ls : List Bounds). record { rows = rows_of columns; columns = columns_of columns; entries = take (columns_of columns) columns; bounds = ls; costs = take (columns_of columns) costs }) e

-- each box holds 0, so none is crossed
boxes_uncrossed : (f : Form) (v : ℕ) → v < variables f → IsUncrossed (limits (boxes_of f) v)
boxes_uncrossed f v l =
    let w = (zero_feasible f).within v l in
    record { ordered = λ low high p q. le_trans_f low zero_f high (w.above_low low p) (w.below_high high q) }

pub keeps_boxes : (rows : ℕ) (columns : List (List Fraction)) (bounds boxed : List Bounds) (costs : List Fraction) (ws old : List (Option Fraction)) → KeepsForm rows columns bounds costs old →
    boxed ≡ map box bounds → ws ≡ widths_of boxed → KeepsForm rows columns boxed costs ws
keeps_boxes rows columns bounds boxed costs ws old k e w =
    let n : length boxed ≡ length bounds = ap length e ∙ length-map bounds box in
    let is = k.form in
    record {
      form = record {
        few = is.few;
        as_many_bounds = n ∙ is.as_many_bounds;
        as_many_costs = is.as_many_costs;
        row_variables = is.row_variables;
        tall = is.tall;
        row_column = is.row_column;
        row_cost = is.row_cost;
        uncrossed = λ v l.
            let f = form_by columns bounds costs in
            subst (λ (g : Form). IsUncrossed (limits g v)) (sym (boxes_are columns bounds boxed costs e))
            (boxes_uncrossed f v (subst (λ n. v < n) (sym (variables_are columns bounds costs is)) l));
      };
      tall = k.tall;
      wide = w;
    }

-- ---- programs
box_at : (l : Bounds) (o p : Option Fraction) → l.low ≡ o → l.high ≡ p → box l ≡ box_by o p
box_at l o p e h = ap (λ z. box_by z l.high) e ∙ ap (box_by o) h

pub free_box : (l b : Bounds) (low one high : Fraction) → b ≡ between low high → low ≡ neg_f one → one ≡ of_int (pos 1) → high ≡ of_int (pos 1) → l.low ≡ None → l.high ≡ None → b ≡ box l
free_box l b low one high e h k m o p = e ∙ ap (λ z. between z high) (h ∙ ap neg_f k ∙ minus_one) ∙ ap (between (of_int (negsuc 0))) m ∙ sym (box_at l None None o p)

pub upper_box : (l b : Bounds) (low one high top : Fraction) → b ≡ between low high → low ≡ neg_f one → one ≡ of_int (pos 1) → high ≡ zero_f → l.low ≡ None → l.high ≡ Some top → b ≡ box l
upper_box l b low one high top e h k m o p = e ∙ ap (λ z. between z high) (h ∙ ap neg_f k ∙ minus_one) ∙ ap (between (of_int (negsuc 0))) m ∙ sym (box_at l None (Some top) o p)

pub no_wide : (ls : List Bounds) (bs lent : List Bounds) (e : Fault WideBox) (w : WideBox) → lent ≡ bs → bs ≡ map box ls → e ≡ faults.Named w → Follows {A = List (Option Fraction)} (first_wide lent) (Err e) → ⊥
no_wide ls bs lent e w l h k f =
    let g : first_wide lent ≡ Some w = subst (λ (x : Fault WideBox). Follows {A = List (Option Fraction)} (first_wide lent) (Err x)) k f in
    let n : first_wide lent ≡ None = ap first_wide l ∙ ap first_wide h ∙ boxes_fit ls in
    none-some w (sym n ∙ g)
