-- What a walk alone asks for, and what it answers.
use Rattle.std.proofs.Common.{◌≡◌, ℕ, List, length, get_or, Option, Some, Result, refl, sym, ap, ◌∙◌, subst}
use Rattle.std.proofs.lemmas.List.{length-map, get_or_default}
use Rattle.pami_algebra.specs.Fraction.{Fraction}
use Rattle.pami_frac.specs.Answers.{FollowsBy}
use Rattle.pami_frac.specs.declared.arithmetic.Refused.{Refused}
use Rattle.pami_frac.specs.declared.fault.Fault.{Fault}
use Rattle.pami_frac.specs.declared.list.Entry.{Entry}
use Rattle.pami_frac.specs.declared.list.Bounds.{Bounds}
use Rattle.pami_script.specs.Dense.{Rising}
use Rattle.pami_theory.specs.Form.{variables}
use Rattle.pami_theory.specs.Ratio.{Entering}
use Rattle.pami_theory.specs.Violation as outside
use Rattle.pami_theory.specs.declared.words.Stand.{Stand}
use Rattle.pami_theory.specs.declared.words.Violation.{Violation}
use Rattle.pami_theory.specs.Choice.{InfeasibleRow}
use Rattle.pami_method.specs.Batch.{Reached}
use Rattle.pami_price.specs.Slices.{slices}
use Rattle.pami_form.specs.FormOf.{form_of}
use Rattle.pami_form.specs.declared.form.Form.{Form}
use Rattle.pami_state.proofs.Formed.{variables_are}
use Rattle.pami_bfrt.specs.Candidates.{Table}
use Rattle.pami_bfrt.specs.Walks.{walk_script, found_by}
use Rattle.pami_bfrt.specs.declared.walk.Walk.{Walk}
use Rattle.pami_minor.specs.declared.kept.Picked.{Picked}
use Rattle.pami_minor.specs.declared.minor.Minor.{Minor}
use Rattle.pami_minor.specs.Joined.{joined}
use Rattle.pami_minor.specs.Walked.{table_of}
use Rattle.pami_minor.specs.Steps.{AreWalked, FollowsRatio}
use Rattle.pami_minor.specs.Fresh.{IsPricing}
use Rattle.pami_minor.proofs.Walking.{picked_is, kept_low, walked_lists}
use Rattle.pami_minor.proofs.WalkedRow.{Kept, walked_rises, ratio_follows}

-- ---- all lists go over the variables
stands_long : (form : Form) (limit : ℕ) (r : Reached) (row : InfeasibleRow) (n : ℕ) (minor : Minor) → Kept form → IsPricing (form_of form) limit r row n minor
    → length form.columns ≡ length minor.stands.items
stands_long form limit r row n minor k h =
    sym (variables_are form.columns form.bounds form.costs k.form) ∙ sym (ap length h.stands ∙ h.reached.basis.variables_stand)

pub bounds_long : (form : Form) (limit : ℕ) (r : Reached) (row : InfeasibleRow) (n : ℕ) (minor : Minor) → Kept form → IsPricing (form_of form) limit r row n minor
    → length form.bounds ≡ length minor.stands.items
bounds_long form limit r row n minor k h = k.form.as_many_bounds ∙ stands_long form limit r row n minor k h

pub widths_long : (form : Form) (limit : ℕ) (r : Reached) (row : InfeasibleRow) (n : ℕ) (minor : Minor) → Kept form → IsPricing (form_of form) limit r row n minor
    → length form.widths ≡ length minor.stands.items
widths_long form limit r row n minor k h =
    ap length k.wide ∙ length-map form.bounds (λ (b : Bounds). outside.width b) ∙ bounds_long form limit r row n minor k h

pub reduced_long : (form : Form) (limit : ℕ) (r : Reached) (row : InfeasibleRow) (n : ℕ) (minor : Minor) → Kept form → IsPricing (form_of form) limit r row n minor
    → length minor.reduced.items ≡ length minor.stands.items
reduced_long form limit r row n minor k h =
    ap length h.reduced ∙ h.reached.fresh.reduced_by_variable ∙ sym (ap length h.stands ∙ h.reached.basis.variables_stand)

-- ---- the lists of the walk
row_lists : (form : Form) (limit : ℕ) (r : Reached) (row : InfeasibleRow) (minor : Minor) (p : Picked)
    → IsPricing (form_of form) limit r row (slices (variables (form_of form))) minor → minor.picked ≡ Some p
    → AreWalked (form_of form) r.basis r.fresh minor.stands.items minor.reduced.items (joined minor.alpha.items) p.at.rho
    (record { place = p.at.place; variable = get_or minor.head.items p.at.place 0; value = p.at.value; violation = p.violation })
row_lists form limit r row minor p h e =
    walked_lists (form_of form) limit r row minor p (get_or minor.head.items p.at.place 0) minor.stands.items minor.reduced.items (joined minor.alpha.items) h e
    (get_or_default minor.head.items p.at.place 0 (get_or minor.head.items p.at.place 0)
    (kept_low (form_of form) limit r row (slices (variables (form_of form))) minor p h e).1) refl refl refl

pub ratio_rises : (form : Form) (limit : ℕ) (r : Reached) (row : InfeasibleRow) (minor : Minor) (p : Picked) (alpha : List Entry) → Kept form
    → IsPricing (form_of form) limit r row (slices (variables (form_of form))) minor → minor.picked ≡ Some p → alpha ≡ joined minor.alpha.items
    → Rising 0 (length minor.stands.items) alpha
ratio_rises form limit r row minor p alpha k h e a =
    subst (λ (es : List Entry). Rising 0 (length minor.stands.items) es) (sym a)
    (subst (λ n. Rising 0 n (joined minor.alpha.items)) (stands_long form limit r row (slices (variables (form_of form))) minor k h)
    (walked_rises form r.basis r.fresh minor.stands.items minor.reduced.items (joined minor.alpha.items) p.at.rho _ k (row_lists form limit r row minor p h e)))

-- ---- its answer
-- over lists that are those of the form and of the Minor
lists_lent : (form : Form) (minor : Minor) (stands : List Stand) (bounds : List Bounds) (widths : List (Option Fraction)) (reduced : List Fraction)
    → stands ≡ minor.stands.items → bounds ≡ form.bounds → widths ≡ form.widths → reduced ≡ minor.reduced.items
    → ◌≡◌ {A = Table} (record { stands = stands; bounds = bounds; widths = widths; reduced = reduced }) (table_of form minor.stands.items minor.reduced.items)
lists_lent form minor stands bounds widths reduced a b c d =
    ap (λ (z : List Stand). record { stands = z; bounds = bounds; widths = widths; reduced = reduced }) a
    ∙ ap (λ (z : List Bounds). record { stands = minor.stands.items; bounds = z; widths = widths; reduced = reduced }) b
    ∙ ap (λ (z : List (Option Fraction)). record { stands = minor.stands.items; bounds = form.bounds; widths = z; reduced = reduced }) c
    ∙ ap (λ (z : List Fraction). record { stands = minor.stands.items; bounds = form.bounds; widths = form.widths; reduced = z }) d

pub ratio_at : (form : Form) (limit : ℕ) (r : Reached) (row : InfeasibleRow) (minor : Minor) (p : Picked) (stands : List Stand) (bounds : List Bounds)
    (widths : List (Option Fraction)) (reduced : List Fraction) (alpha : List Entry) (violation : Violation) (result : Result Walk (Fault Refused))
    → Kept form → IsPricing (form_of form) limit r row (slices (variables (form_of form))) minor → minor.picked ≡ Some p
    → stands ≡ minor.stands.items → bounds ≡ form.bounds → widths ≡ form.widths → reduced ≡ minor.reduced.items → alpha ≡ joined minor.alpha.items
    → violation ≡ p.violation
    → FollowsBy found_by (walk_script (record { stands = stands; bounds = bounds; widths = widths; reduced = reduced }) alpha violation) result
    → FollowsRatio (form_of form) r.basis r.fresh row.place row.violation result
ratio_at form limit r row minor p stands bounds widths reduced alpha violation result k h e a b c d m v o =
    let picked = picked_is r row minor p h.picked e in
    let same : walk_script (record { stands = stands; bounds = bounds; widths = widths; reduced = reduced }) alpha violation
    ≡ walk_script (table_of form minor.stands.items minor.reduced.items) (joined minor.alpha.items) p.violation =
    ap (λ t. walk_script t alpha violation) (lists_lent form minor stands bounds widths reduced a b c d)
    ∙ ap (λ es. walk_script (table_of form minor.stands.items minor.reduced.items) es violation) m
    ∙ ap (walk_script (table_of form minor.stands.items minor.reduced.items) (joined minor.alpha.items)) v in
    subst (λ (w : Violation). FollowsRatio (form_of form) r.basis r.fresh row.place w result) picked.violation
    (subst (λ (q : ℕ). FollowsRatio (form_of form) r.basis r.fresh q p.violation result) picked.place
    (ratio_follows form r.basis r.fresh minor.stands.items minor.reduced.items (joined minor.alpha.items) p.at.rho
    (record { place = p.at.place; variable = get_or minor.head.items p.at.place 0; value = p.at.value; violation = p.violation }) result k
    (row_lists form limit r row minor p h e)
    (subst (λ (x : Result (Option Entering) Refused). FollowsBy found_by x result) same o)))
