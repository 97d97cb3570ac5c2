-- The flips of a batch: their sum over the program's steps is the method's, and a solve of no change answers none.
use Rattle.std.proofs.Common.{◌≡◌, ℕ, zero, suc, ◌<◌, Bool, true, false, List, [], ◌∷◌, map, length, set, replicate}
use Rattle.std.proofs.Common.{refl, sym, ap, ◌∙◌, arith, Result, Ok}
use Rattle.std.specs.List.{All}
use Rattle.std.proofs.lemmas.List.{length-replicate}
use Rattle.std.proofs.lemmas.List.Elements.{All-nil, All-cons}
use Rattle.pami_algebra.specs.Fraction.{Fraction}
use Rattle.pami_linear.specs.Lists.{get}
use Rattle.pami_frac.specs.Arithmetic.{add_outcome, sub_outcome, div_outcome}
use Rattle.pami_frac.specs.declared.arithmetic.Refused.{Refused}
use Rattle.pami_frac.specs.declared.list.Entry.{Entry}
use Rattle.pami_frac.proofs.Outcomes.{mul_zero_fits, sub_zero_fits, zero_div_fits}
use Rattle.pami_script.specs.Script.{then, each_member, sub_product}
use Rattle.pami_script.specs.Dense.{dense, dense_from}
use Rattle.pami_script.proofs.Scripts.{then_ok}
use Rattle.pami_script.proofs.Members.{length_members}
use Rattle.pami_factoring.specs.declared.kept.Kept.{Kept}
use Rattle.pami_factoring.specs.Factor.{sub_if}
use Rattle.pami_factoring.specs.Solve.{ColumnPivot, sub_multiples, sub_all, lowered, places_of}
use Rattle.pami_factoring.specs.Solve.{value_at, raised, all_but, transform_one, transform_script, forward_script}
use Rattle.pami_factoring.proofs.Solves.{forward_length}
use Rattle.pami_theory.specs.Form as theory
use Rattle.pami_theory.specs.Form.{zero_f}
use Rattle.pami_method.specs.Task.{refusal}
use Rattle.pami_method.specs.Factor.{refusal_by}
use Rattle.pami_method.specs.Batch.{Minor}
use Rattle.pami_method.specs.Scripts.{zeros}
use Rattle.pami_method.specs.Work.{all_flips_script, all_flips_at, flips_task}
use Rattle.pami_deferral.specs.Listed.{AreChanges, total_script}
use Rattle.pami_deferral.proofs.ListScripts.{total_is}
use Rattle.pami_deferral.proofs.Histories.{flips_solved}
use Rattle.pami_vec.specs.Entries.{AreEntriesOf}
use Rattle.pami_vec.specs.declared.step.Step.{Step}
use Rattle.pami_collect.specs.Exchanges.{flips_of}
use Rattle.pami_factor.specs.Value.{Product}
use Rattle.pami_minor.specs.Steps.{AreStepsOf}
use Rattle.pami_batch.specs.Factors.{IsFactorOf}
use Rattle.pami_batch.specs.FinishedBatch.{FinishedBatch, HasSteps}

-- ---- the sum
changes_are : (f : theory.Form) (ms : List Minor) (ss : List Step) → AreStepsOf f ms ss → AreChanges f ms (map flips_of ss)
changes_are f [] [] h = tt
changes_are f [] (s ∷ ss) h = absurd h
changes_are f (m ∷ ms) [] h = absurd h
changes_are f (m ∷ ms) (s ∷ ss) h = (h.0.flips, changes_are f ms ss h.1)

pub flips_long : (f : theory.Form) (ms : List Minor) (ss : List Step) → AreStepsOf f ms ss → All (λ (s : Step). length s.flip_column ≡ f.rows) ss
flips_long f [] [] h = All-nil (λ (s : Step). length s.flip_column ≡ f.rows)
flips_long f [] (s ∷ ss) h = absurd h
flips_long f (m ∷ ms) [] h = absurd h
flips_long f (m ∷ ms) (s ∷ ss) h = All-cons (λ (s : Step). length s.flip_column ≡ f.rows) s ss h.0.flips_by_row (flips_long f ms ss h.1)

pub total_length : (cs : List (List Fraction)) (rows total : List Fraction) → total_script cs rows ≡ Ok total → length total ≡ length rows
total_length [] rows total e = let same : rows ≡ total = cc in sym (ap length same)
total_length (c ∷ cs) rows total e =
    let h = then_ok (each_member (λ i t. add_outcome t (get c i)) 0 rows) (λ next. total_script cs next) total e in
    total_length cs h.0 total h.1.1 ∙ length_members (λ i t. add_outcome t (get c i)) 0 rows h.0 h.1.0

-- ---- the script of the program
abbrev pub flips_by : Product → List Step → ℕ → Result (List Fraction) Refused
flips_by factor ss rows = then (total_script (map flips_of ss) (zeros rows)) (λ total. forward_script factor.steps factor.pivots total)

abbrev method_flips : theory.Form → FinishedBatch → List Kept → Result (List Fraction) Refused
method_flips f b steps = then (all_flips_script f b.minors (zeros f.rows)) (λ rows. forward_script steps b.history.pivots rows)

flips_are : (f : theory.Form) (b : FinishedBatch) (ss : List Step) (factor : Product) (rows : ℕ) → HasSteps f ss b
    → IsFactorOf f b.history b.first.basis factor → rows ≡ f.rows
    → flips_by factor ss rows ≡ method_flips f b factor.steps
flips_are f b ss factor rows has is e =
    ap (flips_by factor ss) e
    ∙ ap (λ r. then r (λ total. forward_script factor.steps factor.pivots total))
    (total_is f b.minors (map flips_of ss) (zeros f.rows) (changes_are f b.minors ss has.steps_are) (length-replicate f.rows zero_f))
    ∙ ap (λ qs. then (all_flips_script f b.minors (zeros f.rows)) (λ rows. forward_script factor.steps qs rows)) is.pivots

pub flips_refusal : (f : theory.Form) (b : FinishedBatch) (ss : List Step) (factor : Product) (rows : ℕ) → HasSteps f ss b
    → IsFactorOf f b.history b.first.basis factor → rows ≡ f.rows
    → (flips_task f b.history b.minors).refusal ≡ refusal (flips_by factor ss rows)
flips_refusal f b ss factor rows has is e =
    ap (λ x. refusal_by x (method_flips f b)) is.steps ∙ ap refusal (sym (flips_are f b ss factor rows has is e))

pub flips_exact : (f : theory.Form) (b : FinishedBatch) (ss : List Step) (factor : Product) (rows : ℕ) (z : List Fraction) → HasSteps f ss b
    → IsFactorOf f b.history b.first.basis factor → rows ≡ f.rows
    → flips_by factor ss rows ≡ Ok z → (length z ≡ f.rows) × ((p : ℕ) → p < f.rows → get z p ≡ all_flips_at f b.first b.minors p)
flips_exact f b ss factor rows z has is e k =
    let a = then_ok (total_script (map flips_of ss) (zeros rows)) (λ total. forward_script factor.steps factor.pivots total) z k in
    let t = then_ok (all_flips_script f b.minors (zeros f.rows)) (λ rows. forward_script factor.steps b.history.pivots rows) z
    (sym (flips_are f b ss factor rows has is e) ∙ k) in (
      forward_length factor.steps factor.pivots a.0 z a.1.1 ∙ total_length (map flips_of ss) (zeros rows) a.0 a.1.0 ∙ length-replicate rows zero_f ∙ e,
      λ p l. flips_solved f b.history b.first b.minors factor.steps t.0 z p is.stands has.solved.fresh is.steps t.1.0 t.1.1 l,
    )

-- ---- lists of zeros

get_zeros : (n i : ℕ) → get (zeros n) i ≡ zero_f
get_zeros zero i = refl
get_zeros (suc n) zero = refl
get_zeros (suc n) (suc i) = get_zeros n i

set_zeros : (n i : ℕ) → set (zeros n) i zero_f ≡ zeros n
set_zeros zero i = refl
set_zeros (suc n) zero = refl
set_zeros (suc n) (suc i) = ap (λ xs. zero_f ∷ xs) (set_zeros n i)

-- ---- single operations

sub_product_zero : (t x : Fraction) → sub_product t x zero_f ≡ Ok t
sub_product_zero t x = ap (λ r. then r (λ p. sub_outcome t p)) (mul_zero_fits x) ∙ sub_zero_fits t

sub_if_zero : (b : Bool) (t x : Fraction) → sub_if b t x zero_f ≡ Ok t
sub_if_zero true t x = sub_product_zero t x
sub_if_zero false t x = refl

-- ---- the parts of a solve

-- multiples of 0 change nothing
sub_multiples_zero : (ts : List Bool) (xs us : List Fraction) → sub_multiples ts xs us zero_f ≡ Ok xs
sub_multiples_zero [] xs us = refl
sub_multiples_zero (t ∷ ts) [] us = refl
sub_multiples_zero (t ∷ ts) (x ∷ xs) [] = refl
sub_multiples_zero (t ∷ ts) (x ∷ xs) (u ∷ us) =
    ap (λ r. then r (λ z. then (sub_multiples ts xs us zero_f) (λ zs. Ok (z ∷ zs)))) (sub_if_zero t x u)
    ∙ ap (λ r. then r (λ zs. Ok (x ∷ zs))) (sub_multiples_zero ts xs us)

-- zeros take nothing away
sub_all_zeros : (ts : List Bool) (us : List Fraction) (n : ℕ) (s : Fraction) → sub_all ts us (zeros n) s ≡ Ok s
sub_all_zeros [] us n s = refl
sub_all_zeros (t ∷ ts) [] n s = refl
sub_all_zeros (t ∷ ts) (u ∷ us) zero s = refl
sub_all_zeros (t ∷ ts) (u ∷ us) (suc n) s =
    ap (λ r. then r (λ z. sub_all ts us (zeros n) z)) (sub_if_zero t s u) ∙ sub_all_zeros ts us n s

lowered_zeros : (ts : List Bool) (ks : List Kept) (n : ℕ) → lowered ts ks (zeros n) ≡ Ok (zeros n)
lowered_zeros ts [] n = refl
lowered_zeros ts (k ∷ ks) n =
    ap (λ v. then (sub_multiples (set ts k.row false) (zeros n) k.multipliers v) (λ next. lowered (set ts k.row false) ks next)) (get_zeros n k.row)
    ∙ ap (λ r. then r (λ next. lowered (set ts k.row false) ks next)) (sub_multiples_zero (set ts k.row false) (zeros n) k.multipliers)
    ∙ lowered_zeros (set ts k.row false) ks n

value_at_zeros : (cs : List Bool) (k : Kept) (n m : ℕ) → value_at cs k (zeros n) (zeros m) ≡ Ok zero_f
value_at_zeros cs k n m =
    ap (λ r. then r (λ t. div_outcome t (get k.kept k.place))) (sub_all_zeros cs k.kept m (get (zeros n) k.row))
    ∙ ap (λ t. div_outcome t (get k.kept k.place)) (get_zeros n k.row)
    ∙ zero_div_fits (get k.kept k.place)

raised_zeros : (m n : ℕ) (ks : List Kept) → raised m ks (zeros n) ≡ Ok (zeros m)
raised_zeros m n [] = refl
raised_zeros m n (k ∷ ks) =
    ap (λ r. then r (λ x. then (value_at (places_of m ks) k (zeros n) x) (λ v. Ok (set x k.place v)))) (raised_zeros m n ks)
    ∙ ap (λ r. then r (λ v. Ok (set (zeros m) k.place v))) (value_at_zeros (places_of m ks) k n m)
    ∙ ap Ok (set_zeros m k.place)

transform_zeros : (qs : List ColumnPivot) (n : ℕ) → transform_script qs (zeros n) ≡ Ok (zeros n)
transform_zeros [] n = refl
transform_zeros (q ∷ qs) n =
    ap (λ r. then r (λ y. transform_script qs y)) (one q) ∙ transform_zeros qs n
  where
    one : (q : ColumnPivot) → transform_one q (zeros n) ≡ Ok (zeros n)
    one q =
        ap (λ v. then (div_outcome v (get q.column q.place)) (λ v. sub_multiples (all_but (length (zeros n)) q.place) (set (zeros n) q.place v) q.column v))
        (get_zeros n q.place)
        ∙ ap (λ r. then r (λ v. sub_multiples (all_but (length (zeros n)) q.place) (set (zeros n) q.place v) q.column v)) (zero_div_fits (get q.column q.place))
        ∙ sub_multiples_zero (all_but (length (zeros n)) q.place) (set (zeros n) q.place zero_f) q.column
        ∙ ap Ok (set_zeros n q.place)

-- ---- the solve

-- whatever steps and pivots are: each operation has an operand 0, so that all of them fit, divisions too
idle_solve : (ks : List Kept) (qs : List ColumnPivot) (n : ℕ) → forward_script ks qs (zeros n) ≡ Ok (zeros n)
unfolding forward_script
idle_solve ks qs n =
    ap (λ r. then r (λ d. then (raised (length (zeros n)) ks d) (λ x. transform_script qs x))) (lowered_zeros (replicate (length (zeros n)) true) ks n)
    ∙ ap (λ r. then r (λ x. transform_script qs x)) (raised_zeros (length (zeros n)) n ks)
    ∙ transform_zeros qs (length (zeros n))
    ∙ ap (λ m. Ok (zeros m)) (length-replicate n zero_f)

dense_none : (n k : ℕ) → dense_from n k [] ≡ zeros n
dense_none zero k = refl
dense_none (suc n) k = ap (λ xs. zero_f ∷ xs) (dense_none n (suc k))

dense_zeros : (n : ℕ) → dense n [] ≡ zeros n
unfolding dense
dense_zeros n = dense_none n 0

no_entries : (xs : List Fraction) (es : List Entry) → AreEntriesOf xs es → length es ≡ 0 → xs ≡ zeros (length xs)
no_entries xs [] a e = sym a.values ∙ dense_zeros (length xs)
no_entries xs (x ∷ es) a e = absurd (omega arith)

-- where nothing changes, what is made without a solve is what the solve answers
pub idle_answer : (ks : List Kept) (qs : List ColumnPivot) (xs new : List Fraction) (es : List Entry) (n : ℕ) → AreEntriesOf xs es → length es ≡ 0
    → n ≡ length xs → new ≡ dense n []
    → forward_script ks qs xs ≡ Ok new
idle_answer ks qs xs new es n a e l h =
    ap (forward_script ks qs) (no_entries xs es a e) ∙ idle_solve ks qs (length xs) ∙ ap (λ m. Ok (zeros m)) (sym l)
    ∙ ap Ok (sym (dense_zeros n)) ∙ ap Ok (sym h)
