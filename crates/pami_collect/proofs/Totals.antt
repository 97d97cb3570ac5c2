-- The loop over the steps whose flips are added up.
use Rattle.std.proofs.Common.{◌≡◌, ℕ, ◌+◌, ◌<◌, List, ◌∷◌, length, drop, map, get_or, sym, ap, ◌∙◌, Result, Err}
use Rattle.std.proofs.lemmas.List.{drop_more}
use Rattle.pami_algebra.specs.Fraction.{Fraction}
use Rattle.pami_frac.specs.Arithmetic.{add_outcome}
use Rattle.pami_frac.specs.declared.arithmetic.Refused.{Refused}
use Rattle.pami_frac.specs.declared.list.Entry.{Entry}
use Rattle.pami_linear.specs.Lists.{get}
use Rattle.pami_script.specs.Script.{then, each_member}
use Rattle.pami_script.specs.Dense.{at}
use Rattle.pami_script.proofs.Scripts.{then_go, then_stop}
use Rattle.pami_vec.specs.Entries.{AreEntriesOf}
use Rattle.pami_vec.specs.Changes.{AreChanged, IsStopped}
use Rattle.pami_vec.specs.declared.change.Change.TheVariants.{Plus}
use Rattle.pami_vec.specs.declared.step.Step.{Step}
use Rattle.pami_vec.proofs.Changed.{change_ok, change_err}
use Rattle.pami_deferral.specs.Listed.{total_script}
use Rattle.pami_collect.specs.Exchanges.{flips_of}

-- the rest of a list from an index on
pub rest_at : {A : Type 0} (xs : List A) (i : ℕ) (x : A) → i < length xs → x ≡ get_or xs i x → drop i xs ≡ x ∷ drop (i + 1) xs
rest_at xs i x l e = drop_more xs i x l ∙ ap (λ z. z ∷ drop (i + 1) xs) (sym e)

-- from the step of this index on
abbrev pub flips_left : List Step → ℕ → List Fraction → Result (List Fraction) Refused
flips_left ss i rows = total_script (map flips_of (drop i ss)) rows

flips_one : (ss : List Step) (i : ℕ) (s : Step) (rows : List Fraction) → i < length ss → s ≡ get_or ss i s
    → flips_left ss i rows ≡ then (each_member (λ i t. add_outcome t (get (flips_of s) i)) 0 rows) (λ next. flips_left ss (i + 1) next)
flips_one ss i s rows l e = ap (λ ts. total_script (map flips_of ts) rows) (rest_at ss i s l e)

pub flip_goes_on : (o : Result (List Fraction) Refused) (ss : List Step) (i : ℕ) (s : Step) (rows next : List Fraction) (es : List Entry)
    → o ≡ flips_left ss i rows → i < length ss → s ≡ get_or ss i s
    → AreEntriesOf s.flip_column es → length s.flip_column ≡ length rows → AreChanged Plus rows (at es) next → o ≡ flips_left ss (i + 1) next
flip_goes_on o ss i s rows next es h l e a n k =
    h ∙ flips_one ss i s rows l e
    ∙ then_go (each_member (λ i t. add_outcome t (get (flips_of s) i)) 0 rows) (λ next. flips_left ss (i + 1) next) next
    (change_ok Plus rows s.flip_column es next a n k)

pub flip_stops : (o : Result (List Fraction) Refused) (ss : List Step) (i : ℕ) (s : Step) (rows : List Fraction) (es : List Entry) (p : ℕ) (r : Refused)
    → o ≡ flips_left ss i rows → i < length ss → s ≡ get_or ss i s
    → AreEntriesOf s.flip_column es → length s.flip_column ≡ length rows → IsStopped Plus rows (at es) p r → o ≡ Err r
flip_stops o ss i s rows es p r h l e a n k =
    h ∙ flips_one ss i s rows l e
    ∙ then_stop (each_member (λ i t. add_outcome t (get (flips_of s) i)) 0 rows) (λ next. flips_left ss (i + 1) next) r
    (change_err Plus rows s.flip_column es p r a n k)
