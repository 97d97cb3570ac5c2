-- A Minor that walks: what is kept of the row that was picked, and of its slices, is what the walk is given.
use Rattle.std.proofs.Common.{◌≡◌, ℕ, ◌<◌, List, length, get_or, Option, Some, Result, sym, ap, ◌∙◌, subst, arith}
use Rattle.std.proofs.lemmas.Option.{same_Some}
use Rattle.std.proofs.lemmas.List.{get_or_default}
use Rattle.pami_algebra.specs.Fraction.{Fraction}
use Rattle.pami_frac.specs.declared.arithmetic.Refused.{Refused}
use Rattle.pami_frac.specs.declared.fault.Fault.{Fault}
use Rattle.pami_frac.specs.declared.list.Entry.{Entry}
use Rattle.pami_theory.specs.Form.{Form, variables}
use Rattle.pami_theory.specs.Basis.{head_at}
use Rattle.pami_theory.specs.Fresh.{row_at, value_at_place}
use Rattle.pami_theory.specs.declared.words.Stand.{Stand}
use Rattle.pami_theory.specs.declared.words.Violation.{Violation}
use Rattle.pami_theory.specs.Ratio.{row_entry}
use Rattle.pami_theory.specs.Choice.{InfeasibleRow}
use Rattle.pami_theory.proofs.Members.{contains_from, filter_has}
use Rattle.pami_method.specs.Batch.{Reached, is_attractive}
use Rattle.pami_price.specs.Agreement.{nonzero_entries, all_nonbasic}
use Rattle.pami_price.specs.Slices.{slices}
use Rattle.pami_bfrt.specs.declared.walk.Walk.{Walk}
use Rattle.pami_vec.specs.declared.step.Step.{Step}
use Rattle.pami_minor.specs.declared.kept.Picked.{Picked}
use Rattle.pami_minor.specs.declared.minor.Minor.{Minor}
use Rattle.pami_minor.specs.Joined.{joined}
use Rattle.pami_minor.specs.Steps.{AreWalked, FollowsWalk}
use Rattle.pami_minor.specs.Fresh.{IsPickedRow, IsPricing}
use Rattle.pami_minor.proofs.NextRow.{picked_has}
use Rattle.pami_minor.proofs.Slices.{joined_is, slices_count}

pub picked_is : (r : Reached) (row : InfeasibleRow) (minor : Minor) (p : Picked) → ((k : Picked) × (minor.picked ≡ Some k) × IsPickedRow r row k)
    → minor.picked ≡ Some p → IsPickedRow r row p
picked_is r row minor p h e = subst (IsPickedRow r row) (same_Some h.0 p (sym h.1 ∙ e)) h.2

pub picked_low : (f : Form) (limit : ℕ) (r : Reached) (row : InfeasibleRow) (n : ℕ) (minor : Minor) → IsPricing f limit r row n minor → row.place < f.rows
picked_low f limit r row n minor h =
    let x = picked_has f r row h.pick.others h.pick.first in
    let m = filter_has (is_attractive f r) r.rows x.0 x.1 in
    subst (λ p. p < f.rows) x.2 (h.reached.placed.rows x.0 (contains_from r.rows x.0 m.0))

-- the place of the row that is kept
pub kept_low : (f : Form) (limit : ℕ) (r : Reached) (row : InfeasibleRow) (n : ℕ) (minor : Minor) (p : Picked) → IsPricing f limit r row n minor
    → minor.picked ≡ Some p → (p.at.place < f.rows) × (p.at.place < length minor.head.items)
kept_low f limit r row n minor p h e =
    let k = picked_is r row minor p h.picked e in
    let place = k.place in
    let l = picked_low f limit r row n minor h in
    let many = ap length h.head ∙ h.reached.basis.places in
    (omega (arith, place, l), omega (arith, place, l, many))

pub kept_variable : (f : Form) (limit : ℕ) (r : Reached) (row : InfeasibleRow) (n : ℕ) (minor : Minor) (p : Picked) (v : ℕ) → IsPricing f limit r row n minor
    → minor.picked ≡ Some p → v ≡ get_or minor.head.items p.at.place v → v ≡ head_at r.basis p.at.place
kept_variable f limit r row n minor p v h e read =
    read ∙ get_or_default minor.head.items p.at.place v 0 (kept_low f limit r row n minor p h e).1 ∙ ap (λ vs. get_or vs p.at.place 0) h.head

pub walked_lists : (f : Form) (limit : ℕ) (r : Reached) (row : InfeasibleRow) (minor : Minor) (p : Picked) (v : ℕ) (stands : List Stand) (reduced : List Fraction)
    (alpha : List Entry) → IsPricing f limit r row (slices (variables f)) minor → minor.picked ≡ Some p → v ≡ get_or minor.head.items p.at.place v
    → stands ≡ minor.stands.items → reduced ≡ minor.reduced.items → alpha ≡ joined minor.alpha.items
    → AreWalked f r.basis r.fresh stands reduced alpha p.at.rho (record { place = p.at.place; variable = v; value = p.at.value; violation = p.violation })
walked_lists f limit r row minor p v stands reduced alpha h e read a b c =
    let k = picked_is r row minor p h.picked e in
    let place : row.place ≡ p.at.place = sym k.place in
    record {
      basis = h.reached.basis;
      fresh = h.reached.fresh;
      place = (kept_low f limit r row (slices (variables f)) minor p h e).0;
      variable = kept_variable f limit r row (slices (variables f)) minor p v h e read;
      value = k.value ∙ ap (value_at_place r.basis r.fresh) place;
      stands_are = a ∙ h.stands;
      reduced_are = b ∙ h.reduced;
      rho_is = k.rho ∙ ap (row_at r.fresh) place;
      alpha_is = c ∙ joined_is f r row minor h.priced (slices_count f limit r row (slices (variables f)) minor h)
          ∙ ap (λ q. nonzero_entries (row_entry f (row_at r.fresh q)) (all_nonbasic f r.basis)) place;
    }

pub walked_at : (f : Form) (limit : ℕ) (r : Reached) (row : InfeasibleRow) (minor : Minor) (p : Picked) (result : Result (Walk × Option Step) (Fault Refused))
    → IsPricing f limit r row (slices (variables f)) minor → minor.picked ≡ Some p → FollowsWalk f r.basis r.fresh p.at.place p.violation result
    → FollowsWalk f r.basis r.fresh row.place row.violation result
walked_at f limit r row minor p result h e w =
    let k = picked_is r row minor p h.picked e in
    subst (λ (v : Violation). FollowsWalk f r.basis r.fresh row.place v result) k.violation
    (subst (λ (q : ℕ). FollowsWalk f r.basis r.fresh q p.violation result) k.place w)
