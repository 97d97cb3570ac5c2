-- Flips, one variable after the other.
use Rattle.std.proofs.Common.{◌≡◌, ℕ, suc, ◌+◌, ◌-◌, ◌<◌, List, [], ◌∷◌, length, refl, ap, ◌∙◌, subst, arith, Bool, true, false, cond, Result, Ok, Err}
use Rattle.std.specs.List.{filter, range_with_len}
use Rattle.pami_algebra.specs.Fraction.{Fraction}
use Rattle.pami_linear.specs.Lists.{get}
use Rattle.pami_frac.specs.declared.arithmetic.Refused.{Refused}
use Rattle.pami_frac.specs.declared.list.Entry.{Entry}
use Rattle.pami_script.specs.Script.{each_member, add_product}
use Rattle.pami_script.specs.Dense.{at}
use Rattle.pami_script.proofs.Scripts.{then_go, then_stop}
use Rattle.pami_vec.specs.Entries.{AreEntriesOf}
use Rattle.pami_theory.specs.Step.{is_among}
use Rattle.pami_state.specs.Columns.{column_of}
use Rattle.pami_vec.specs.declared.change.Change.TheVariants.{More}
use Rattle.pami_vec.specs.Changes.{AreChanged, IsStopped}
use Rattle.pami_minor.specs.Flips.{flips_by}
use Rattle.pami_vec.proofs.Changed.{change_ok, change_err}

-- ---- the flips that are left
abbrev pub flips_left : List (List Fraction) → (ℕ → Fraction) → (ℕ → Bool) → ℕ → List Fraction → Result (List Fraction) Refused
flips_left columns change marked v rows = flips_by columns change (filter marked (range_with_len v (length columns - v))) rows

range_one : (v n : ℕ) → v < n → range_with_len v (n - v) ≡ v ∷ range_with_len (v + 1) (n - (v + 1))
range_one v n l = let e : n - v ≡ suc (n - (v + 1)) = omega arith in ap (range_with_len v) e

left_one : (columns : List (List Fraction)) (change : ℕ → Fraction) (marked : ℕ → Bool) (v : ℕ) (rows : List Fraction) (b : Bool) → v < length columns → marked v ≡ b
    → flips_left columns change marked v rows ≡ flips_by columns change (cond b (v ∷ filter marked (range_with_len (v + 1) (length columns - (v + 1)))) (filter marked (range_with_len (v + 1) (length columns - (v + 1))))) rows
left_one columns change marked v rows b l e =
    ap (λ vs. flips_by columns change (filter marked vs) rows) (range_one v (length columns) l)
    ∙ ap (λ c. flips_by columns change (cond c (v ∷ filter marked (range_with_len (v + 1) (length columns - (v + 1)))) (filter marked (range_with_len (v + 1) (length columns - (v + 1))))) rows) e

pub unmarked : (s : Result (List Fraction) Refused) (columns : List (List Fraction)) (change : ℕ → Fraction) (marked : ℕ → Bool) (v : ℕ) (rows : List Fraction) → s ≡ flips_left columns change marked v rows
    → v < length columns → marked v ≡ false → s ≡ flips_left columns change marked (v + 1) rows
unmarked s columns change marked v rows h l e = h ∙ left_one columns change marked v rows false l e

pub marked_goes : (s : Result (List Fraction) Refused) (columns : List (List Fraction)) (change : ℕ → Fraction) (marked : ℕ → Bool) (v : ℕ) (rows next column : List Fraction) (es : List Entry) (factor : Fraction)
    → s ≡ flips_left columns change marked v rows → v < length columns → marked v ≡ true → column ≡ column_of columns v → factor ≡ change v → AreEntriesOf column es → length column ≡ length rows
    → AreChanged (More factor) rows (at es) next → s ≡ flips_left columns change marked (v + 1) next
marked_goes s columns change marked v rows next column es factor h l e k f a n c =
    h ∙ left_one columns change marked v rows true l e
    ∙ then_go (each_member (λ i t. add_product t (change v) (get (column_of columns v) i)) 0 rows) (λ r. flips_left columns change marked (v + 1) r) next
    (subst (λ (cs : List Fraction). each_member (λ i t. add_product t (change v) (get cs i)) 0 rows ≡ Ok next) k
    (subst (λ (x : Fraction). each_member (λ i t. add_product t x (get column i)) 0 rows ≡ Ok next) f (change_ok (More factor) rows column es next a n c)))

pub marked_stops : (s : Result (List Fraction) Refused) (columns : List (List Fraction)) (change : ℕ → Fraction) (marked : ℕ → Bool) (v : ℕ) (rows column : List Fraction) (es : List Entry) (factor : Fraction) (p : ℕ) (r : Refused)
    → s ≡ flips_left columns change marked v rows → v < length columns → marked v ≡ true → column ≡ column_of columns v → factor ≡ change v → AreEntriesOf column es → length column ≡ length rows
    → IsStopped (More factor) rows (at es) p r → s ≡ Err r
marked_stops s columns change marked v rows column es factor p r h l e k f a n c =
    h ∙ left_one columns change marked v rows true l e
    ∙ then_stop (each_member (λ i t. add_product t (change v) (get (column_of columns v) i)) 0 rows) (λ x. flips_left columns change marked (v + 1) x) r
    (subst (λ (cs : List Fraction). each_member (λ i t. add_product t (change v) (get cs i)) 0 rows ≡ Err r) k
    (subst (λ (x : Fraction). each_member (λ i t. add_product t x (get column i)) 0 rows ≡ Err r) f (change_err (More factor) rows column es p r a n c)))

-- marks that say the same
filter_same : (p q : ℕ → Bool) (vs : List ℕ) → ((v : ℕ) → p v ≡ q v) → filter p vs ≡ filter q vs
filter_same p q [] h = refl
filter_same p q (v ∷ vs) h = ap (λ b. cond b (v ∷ filter p vs) (filter p vs)) (h v) ∙ ap (λ ws. cond (q v) (v ∷ ws) ws) (filter_same p q vs h)

pub flips_same : (columns : List (List Fraction)) (change : ℕ → Fraction) (p q : ℕ → Bool) (vs : List ℕ) (rows : List Fraction) → ((v : ℕ) → p v ≡ q v) → flips_by columns change (filter p vs) rows ≡ flips_by columns change (filter q vs) rows
flips_same columns change p q vs rows h = ap (λ ws. flips_by columns change ws rows) (filter_same p q vs h)

-- no flips
none_among : (vs : List ℕ) → filter (λ v. is_among v []) vs ≡ []
none_among [] = refl
none_among (v ∷ vs) = none_among vs

pub no_flips : (columns : List (List Fraction)) (change : ℕ → Fraction) (flips vs : List ℕ) (rows : List Fraction) → length flips ≡ 0 → flips_by columns change (filter (λ v. is_among v flips) vs) rows ≡ Ok rows
no_flips columns change [] vs rows e = ap (λ ws. flips_by columns change ws rows) (none_among vs)
no_flips columns change (x ∷ xs) vs rows e = absurd (omega arith)
