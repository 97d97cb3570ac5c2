-- The slices of a row: one more is priced, and all of them are the row.
use Rattle.std.proofs.Common.{◌≡◌, ℕ, suc, ◌+◌, ◌-◌, ◌*◌, ◌<◌, ◌≤◌, ⊎_elim, List, [], ◌∷◌, ◌++◌, length, get_or, set, drop, sym, ap, ◌∙◌, subst, arith}
use Rattle.std.specs.List.{filter, range_with_len}
use Rattle.std.proofs.lemmas.Bool.{cases_eq}
use Rattle.std.proofs.lemmas.List.{get_or-set_same, get_or-set_other, drop_more, drop_all, append_assoc, append-nil}
use Rattle.pami_algebra.specs.Fraction.{Fraction}
use Rattle.pami_frac.specs.declared.list.Entry.{Entry}
use Rattle.pami_theory.specs.Form.{Form, variables}
use Rattle.pami_theory.specs.Basis.{Basis, stand_at}
use Rattle.pami_theory.specs.Fresh.{row_at}
use Rattle.pami_theory.specs.Ratio.{row_entry}
use Rattle.pami_theory.specs.Choice.{InfeasibleRow}
use Rattle.pami_method.specs.Batch.{Reached}
use Rattle.pami_method.specs.Scripts.{is_nonbasic, nonbasic_in}
use Rattle.pami_price.specs.Agreement.{nonzero_entries, all_nonbasic}
use Rattle.pami_price.specs.Slices.{slices}
use Rattle.pami_price.proofs.Priced.{row_from}
use Rattle.pami_minor.specs.declared.minor.Minor.{Minor}
use Rattle.pami_minor.specs.Joined.{joined}
use Rattle.pami_minor.specs.Fresh.{ArePriced, IsPricing}
use Rattle.pami_minor.specs.Follow.{IsPriceOf}

joined_from : (f : Form) (b : Basis) (rho : List Fraction) (parts : List (List Entry)) (k : ℕ)
    → ((j : ℕ) → j < length parts → get_or parts j [] ≡ nonzero_entries (row_entry f rho) (nonbasic_in f b (k + j))) → variables f ≤ 64 * (k + length parts)
    → joined parts ≡ nonzero_entries (row_entry f rho) (filter (λ v. is_nonbasic (stand_at b v)) (range_with_len (64 * k) (variables f - 64 * k)))
joined_from f b rho [] k h l =
    let none : 0 ≡ variables f - 64 * k = omega arith in
    ap (λ n. nonzero_entries (row_entry f rho) (filter (λ v. is_nonbasic (stand_at b v)) (range_with_len (64 * k) n))) none
joined_from f b rho (a ∷ parts) k h l =
    let z : k + 0 ≡ k = omega arith in
    ap (λ es. es ++ joined parts) (h 0 (omega arith) ∙ ap (λ j. nonzero_entries (row_entry f rho) (nonbasic_in f b j)) z)
    ∙ ap (λ es. nonzero_entries (row_entry f rho) (nonbasic_in f b k) ++ es)
    (joined_from f b rho parts (k + 1)
    (λ j m. let s : k + suc j ≡ k + 1 + j = omega arith in
    subst (λ i. get_or parts j [] ≡ nonzero_entries (row_entry f rho) (nonbasic_in f b i)) s (h (suc j) (omega arith)))
    (omega arith))
    ∙ sym (row_from f b rho k)

pub joined_is : (f : Form) (r : Reached) (row : InfeasibleRow) (minor : Minor) → ArePriced f r row (slices (variables f)) minor
    → length minor.alpha.items ≡ slices (variables f)
    → joined minor.alpha.items ≡ nonzero_entries (row_entry f (row_at r.fresh row.place)) (all_nonbasic f r.basis)
joined_is f r row minor h n =
    let zero_first : 64 * 0 ≡ 0 = omega arith in
    let all : variables f - 64 * 0 ≡ variables f = omega arith in
    joined_from f r.basis (row_at r.fresh row.place) minor.alpha.items 0
    (λ j l. let s : 0 + j ≡ j = omega arith in
    h.at j (omega (arith, l, n)) ∙ ap (λ i. nonzero_entries (row_entry f (row_at r.fresh row.place)) (nonbasic_in f r.basis i)) (sym s))
    (omega (arith, n))
    ∙ ap (λ k. nonzero_entries (row_entry f (row_at r.fresh row.place)) (filter (λ v. is_nonbasic (stand_at r.basis v)) (range_with_len k (variables f - 64 * 0)))) zero_first
    ∙ ap (λ k. nonzero_entries (row_entry f (row_at r.fresh row.place)) (filter (λ v. is_nonbasic (stand_at r.basis v)) (range_with_len 0 k))) all

pub priced_more : (f : Form) (r : Reached) (row : InfeasibleRow) (slice : ℕ) (old new : Minor) (es : List Entry) → ArePriced f r row slice old
    → IsPriceOf f r row slice es → slice < length old.alpha.items → new.alpha.items ≡ set old.alpha.items slice es → ArePriced f r row (slice + 1) new
priced_more f r row slice old new es h e l s = record {
  at = λ k m. ap (λ parts. get_or parts k []) s ∙ ⊎_elim
      (λ (i : k ≡ slice). subst (λ j. get_or (set old.alpha.items slice es) j [] ≡ nonzero_entries (row_entry f (row_at r.fresh row.place)) (nonbasic_in f r.basis j)) (sym i)
      (get_or-set_same old.alpha.items slice es [] l ∙ e))
      (λ (i : ¬ (k ≡ slice)). get_or-set_other old.alpha.items slice k es [] i ∙ h.at k (omega arith))
      (cases_eq k slice);
}

pub slices_count : (f : Form) (limit : ℕ) (r : Reached) (row : InfeasibleRow) (n : ℕ) (minor : Minor) → IsPricing f limit r row n minor
    → length minor.alpha.items ≡ slices (variables f)
slices_count f limit r row n minor h = h.room.slices ∙ ap slices (ap length h.stands ∙ h.reached.basis.variables_stand)

pub join_more : (slices : List (List Entry)) (i : ℕ) (slice row : List Entry) → i < length slices → slice ≡ get_or slices i slice
    → joined slices ≡ row ++ joined (drop i slices) → joined slices ≡ (row ++ slice) ++ joined (drop (i + 1) slices)
join_more slices i slice row l e h =
    h ∙ ap (λ ss. row ++ joined ss) (drop_more slices i slice l ∙ ap (λ s. s ∷ drop (i + 1) slices) (sym e))
    ∙ sym (append_assoc row slice (joined (drop (i + 1) slices)))

pub join_ends : (slices : List (List Entry)) (i : ℕ) (row : List Entry) → length slices ≤ i → joined slices ≡ row ++ joined (drop i slices) → row ≡ joined slices
join_ends slices i row l h = sym (h ∙ ap (λ ss. row ++ joined ss) (drop_all i slices l) ∙ append-nil row)
