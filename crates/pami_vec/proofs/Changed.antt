-- A change of all members is a script over them.
use Rattle.std.proofs.Common.{◌≡◌, ℕ, ◌+◌, List, length, ap, ◌∙◌, arith, Ok, Err}
use Rattle.pami_algebra.specs.Fraction.{Fraction}
use Rattle.pami_linear.specs.Lists.{get}
use Rattle.pami_frac.specs.declared.arithmetic.Refused.{Refused}
use Rattle.pami_frac.specs.declared.list.Entry.{Entry}
use Rattle.pami_script.specs.Script.{each_member}
use Rattle.pami_script.specs.Dense.{at}
use Rattle.pami_theory.specs.Form.{zero_f}
use Rattle.pami_vec.specs.Entries.{AreEntriesOf}
use Rattle.pami_vec.specs.declared.change.Change.{Change}
use Rattle.pami_vec.specs.Changes.{changed, AreChanged, IsStopped}
use Rattle.pami_vec.proofs.Results.{members_ok, members_err}
use Rattle.pami_vec.proofs.Scripted.{get_at}

zero_and : (i : ℕ) → 0 + i ≡ i
zero_and i = omega arith

pub change_ok : (c : Change) (xs : List Fraction) (column : List Fraction) (es : List Entry) (new : List Fraction) → AreEntriesOf column es → length column ≡ length xs
    → AreChanged c xs (at es) new → each_member (λ i x. changed c i x (get column i)) 0 xs ≡ Ok new
change_ok c xs column es new a n h = members_ok (λ i x. changed c i x (get column i)) 0 xs new zero_f zero_f h.as_many
    (λ i l. ap (λ j. changed c j (get xs i) (get column j)) (zero_and i) ∙ ap (changed c i (get xs i)) (get_at column es i a (omega arith)) ∙ h.at i l)

pub change_err : (c : Change) (xs : List Fraction) (column : List Fraction) (es : List Entry) (p : ℕ) (r : Refused) → AreEntriesOf column es → length column ≡ length xs
    → IsStopped c xs (at es) p r → each_member (λ i x. changed c i x (get column i)) 0 xs ≡ Err r
change_err c xs column es p r a n h =
    let w = h.within in
    members_err (λ i x. changed c i x (get column i)) 0 xs p r zero_f h.within
    (ap (λ j. changed c j (get xs p) (get column j)) (zero_and p) ∙ ap (changed c p (get xs p)) (get_at column es p a (omega arith)) ∙ h.refused)
    (λ i l. let m = h.before i l in (m.0, ap (λ j. changed c j (get xs i) (get column j)) (zero_and i) ∙ ap (changed c i (get xs i)) (get_at column es i a (omega arith)) ∙ m.1))
