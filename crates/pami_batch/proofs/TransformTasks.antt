-- The columns of a batch through the pivots before their own, one by one, beside their tasks.
use Rattle.std.proofs.Common.{◌≡◌, ℕ, zero, suc, ◌+◌, ◌<◌, ◌≤◌, List, [], ◌∷◌, ◌++◌, map, length, take, drop, get_or}
use Rattle.std.proofs.Common.{refl, sym, ap, ◌∙◌, subst, arith, None, Some, Result, Ok, Err}
use Rattle.std.proofs.lemmas.List.{drop_all, take_all, map-append}
use Rattle.pami_algebra.specs.Fraction.{Fraction}
use Rattle.pami_frac.specs.declared.arithmetic.Refused.{Refused}
use Rattle.pami_factoring.specs.Solve.{transform_script}
use Rattle.pami_theory.specs.Form as theory
use Rattle.pami_theory.specs.Fresh.{column_at}
use Rattle.pami_method.specs.Task.{refusal}
use Rattle.pami_method.specs.declared.words.Spot.TheVariants.{Transform}
use Rattle.pami_method.specs.Batch.{Minor, IsBatch}
use Rattle.pami_method.specs.Work.{pivot_of, transform_tasks, first_refused, refused_or}
use Rattle.pami_deferral.proofs.CollectScripts.{transformed_in}
use Rattle.pami_vec.specs.declared.step.Step.{Step}
use Rattle.pami_vec.specs.declared.step.Pivot.{Pivot}
use Rattle.pami_vec.specs.Pivots.{column_pivot, column_pivots}
use Rattle.pami_batch.specs.FinishedBatch.{FinishedBatch, HasSteps, first_column, first_columns}
use Rattle.pami_batch.proofs.BatchSteps.{Known, as_many, take_on}

-- ---- the pivots so far
pub record PivotsTo (b : FinishedBatch) (k : ℕ) (pivots : List Pivot) : Type 0 where
  pub pivots_are : column_pivots pivots ≡ map pivot_of (take k b.minors)
  pub passed : first_refused (transform_tasks b.first 1 [] b.minors)
      ≡ first_refused (transform_tasks b.first (k + 1) (column_pivots pivots) (drop k b.minors))

pub pivots_begin : (b : FinishedBatch) → PivotsTo b 0 []
pivots_begin b = record { pivots_are = refl; passed = refl }

-- the column that is read for the next one
column_read : (b : FinishedBatch) (columns : List (List Fraction)) (k : ℕ) (m : Minor) (c : List Fraction) → columns ≡ first_columns b
    → drop k b.minors ≡ m ∷ drop (k + 1) b.minors → k < length columns → c ≡ get_or columns k c → c ≡ first_column b m
column_read b columns k m c e w l q = q ∙ go columns b.minors k e w (omega (arith, l))
  where
    go : (cs : List (List Fraction)) (ms : List Minor) (i : ℕ) → cs ≡ map (first_column b) ms → drop i ms ≡ m ∷ drop (i + 1) ms → i < length cs
        → get_or cs i c ≡ first_column b m
    go cs [] zero f v n = absurd (cc)
    go cs [] (suc i) f v n = absurd (cc)
    go cs (x ∷ ms) zero f v n = let same : x ≡ m = cc in ap (λ ds. get_or ds 0 c) f ∙ ap (first_column b) same
    go [] (x ∷ ms) (suc i) f v n = absurd (omega arith)
    go (d ∷ cs) (x ∷ ms) (suc i) f v n =
        let on : suc i + 1 ≡ suc (i + 1) = omega arith in
        let rest : cs ≡ map (first_column b) ms = cc (f) in
        go cs ms i rest (v ∙ ap (λ n. m ∷ drop n (x ∷ ms)) on) (omega (arith, n))

-- the task of the next one
transform_next : (f : theory.Form) (b : FinishedBatch) (k : ℕ) (s : Step) (pivots : List Pivot) (c : List Fraction) (script : Result (List Fraction) Refused)
    (w : Known f b k s)
    → c ≡ first_column b w.minor → script ≡ transform_script (column_pivots pivots) c
    → first_refused (transform_tasks b.first (k + 1) (column_pivots pivots) (drop k b.minors))
    ≡ refused_or (refusal script) (Transform (k + 1))
    (first_refused (transform_tasks b.first (k + 1 + 1) (column_pivots pivots ++ pivot_of w.minor ∷ []) (drop (k + 1) b.minors)))
transform_next f b k s pivots c script w q e =
    let m = w.minor in
    let more : suc (k + 1) ≡ k + 1 + 1 = omega arith in
    let later = first_refused (transform_tasks b.first (suc (k + 1)) (column_pivots pivots ++ pivot_of m ∷ []) (drop (k + 1) b.minors)) in
    let same : script ≡ transform_script (column_pivots pivots) (first_column b m) = e ∙ ap (transform_script (column_pivots pivots)) q in
    ap (λ ms. first_refused (transform_tasks b.first (k + 1) (column_pivots pivots) ms)) w.rest
    ∙ ap (λ x. refused_or (refusal x) (Transform (k + 1)) later) (sym same)
    ∙ ap (λ n. refused_or (refusal script) (Transform (k + 1))
    (first_refused (transform_tasks b.first n (column_pivots pivots ++ pivot_of m ∷ []) (drop (k + 1) b.minors)))) more

-- what comes through is the column by the basis before the pivot
through_is : (f : theory.Form) (b : FinishedBatch) (ss : List Step) (k : ℕ) (s : Step) (pivots : List Pivot) (c y : List Fraction) (w : Known f b k s)
    → HasSteps f ss b
    → PivotsTo b k pivots → c ≡ first_column b w.minor → transform_script (column_pivots pivots) c ≡ Ok y
    → y ≡ column_at w.minor.reached.fresh w.minor.step.entering
through_is f b ss k s pivots c y w has h q e =
    let m = w.minor in
    transformed_in f b.limit b.first (take k b.minors) m (drop (k + 1) b.minors) b.last y has.solved.basis has.solved.fresh
    (subst (λ ms. IsBatch f b.limit b.first ms b.last) w.split has.solved.batch)
    (ap (λ qs. transform_script qs (first_column b m)) (sym h.pivots_are) ∙ ap (transform_script (column_pivots pivots)) (sym q) ∙ e)

pivot_made : (f : theory.Form) (b : FinishedBatch) (ss : List Step) (k : ℕ) (s : Step) (pivots : List Pivot) (c y : List Fraction) (w : Known f b k s)
    → HasSteps f ss b
    → PivotsTo b k pivots → c ≡ first_column b w.minor → transform_script (column_pivots pivots) c ≡ Ok y
    → column_pivot (record { place = s.place; column = y }) ≡ pivot_of w.minor
pivot_made f b ss k s pivots c y w has h q e =
    ap (λ p. record { place = p; column = y }) w.step.place
    ∙ ap (λ x. record { place = w.minor.step.place; column = x }) (through_is f b ss k s pivots c y w has h q e)

pub pivots_go : (f : theory.Form) (b : FinishedBatch) (ss : List Step) (k : ℕ) (s : Step) (pivots : List Pivot) (columns : List (List Fraction))
    (c y : List Fraction) → Known f b k s → HasSteps f ss b
    → PivotsTo b k pivots → columns ≡ first_columns b → k < length columns → c ≡ get_or columns k c → transform_script (column_pivots pivots) c ≡ Ok y
    → PivotsTo b (k + 1) (pivots ++ record { place = s.place; column = y } ∷ [])
pivots_go f b ss k s pivots columns c y w has h read l i e =
    let m = w.minor in
    let p : Pivot = record { place = s.place; column = y } in
    let q = column_read b columns k m c read w.rest l i in
    let made : column_pivot p ≡ pivot_of m = pivot_made f b ss k s pivots c y w has h q e in
    let more : column_pivots (pivots ++ p ∷ []) ≡ column_pivots pivots ++ pivot_of m ∷ [] =
    map-append column_pivot pivots (p ∷ []) ∙ ap (λ x. column_pivots pivots ++ x ∷ []) made in
    record {
      pivots_are = more ∙ ap (λ ps. ps ++ pivot_of m ∷ []) h.pivots_are
          ∙ sym (map-append pivot_of (take k b.minors) (m ∷ [])) ∙ ap (map pivot_of) (sym (take_on b.minors k m w.rest));
      passed = h.passed ∙ transform_next f b k s pivots c (Ok y) w q (sym e)
          ∙ ap (λ ps. first_refused (transform_tasks b.first (k + 1 + 1) ps (drop (k + 1) b.minors))) (sym more);
    }

pub pivots_stop : (f : theory.Form) (b : FinishedBatch) (k : ℕ) (s : Step) (pivots : List Pivot) (columns : List (List Fraction)) (c : List Fraction)
    (r : Refused) → Known f b k s
    → PivotsTo b k pivots → columns ≡ first_columns b → k < length columns → c ≡ get_or columns k c → transform_script (column_pivots pivots) c ≡ Err r
    → first_refused (transform_tasks b.first 1 [] b.minors) ≡ Some (record { task = Transform (k + 1); refused = r })
pivots_stop f b k s pivots columns c r w h read l i e =
    h.passed ∙ transform_next f b k s pivots c (Err r) w (column_read b columns k w.minor c read w.rest l i) (sym e)

pub pivots_end : (f : theory.Form) (b : FinishedBatch) (ss : List Step) (k : ℕ) (pivots : List Pivot) → HasSteps f ss b → PivotsTo b k pivots → length ss ≤ k
    → (column_pivots pivots ≡ map pivot_of b.minors) × (first_refused (transform_tasks b.first 1 [] b.minors) ≡ None)
pivots_end f b ss k pivots has h l =
    let n = as_many f b.minors ss has.steps_are in (
      h.pivots_are ∙ ap (map pivot_of) (take_all k b.minors (omega (arith, n, l))),
      h.passed ∙ ap (λ ms. first_refused (transform_tasks b.first (k + 1) (column_pivots pivots) ms)) (drop_all k b.minors (omega (arith, n, l))),
    )
