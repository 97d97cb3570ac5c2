-- The steps of a batch, one by one, beside the minors that they are of.
use Rattle.std.proofs.Common.{◌≡◌, ℕ, zero, suc, ◌+◌, ◌<◌, ◌^◌, List, [], ◌∷◌, ◌++◌, map, length, take, drop, get_or}
use Rattle.std.proofs.Common.{refl, sym, ap, ◌∙◌, subst, arith}
use Rattle.std.specs.List.{All}
use Rattle.std.proofs.lemmas.List.{take-append-drop, map-append}
use Rattle.std.proofs.lemmas.List.Elements.{All-nil, All-cons, All-head, All-tail}
use Rattle.pami_algebra.specs.Fraction.{Fraction}
use Rattle.pami_linear.specs.Lists.{get}
use Rattle.pami_frac.proofs.Outcomes.{not_zero_by_test}
use Rattle.pami_factoring.specs.History.{IsColumnPivot}
use Rattle.pami_factoring.proofs.Programs.{step_count}
use Rattle.pami_theory.specs.Form as theory
use Rattle.pami_theory.specs.Form.{variables}
use Rattle.pami_theory.specs.Basis.{Basis}
use Rattle.pami_method.specs.Factor.{History, head_matrix}
use Rattle.pami_method.specs.Batch.{Reached, Minor}
use Rattle.pami_method.specs.Work.{pivot_of}
use Rattle.pami_method.proofs.Counts.{batch_counts, batch_within}
use Rattle.pami_deferral.proofs.Chains.{Leaves, AllLeave, all_leave, solved_chain}
use Rattle.pami_deferral.proofs.CollectScripts.{pivots_are_columns}
use Rattle.pami_deferral.proofs.Histories.{matrix_length, matrix_square}
use Rattle.pami_vec.specs.declared.step.Step.{Step}
use Rattle.pami_vec.specs.declared.step.Pivot.{Pivot}
use Rattle.pami_vec.specs.Pivots.{column_pivot, column_pivots, IsPivot, ArePivots}
use Rattle.pami_factor.specs.Value.{Product}
use Rattle.pami_minor.specs.Steps.{IsStepOf, AreStepsOf}
use Rattle.pami_batch.specs.Factors.{IsFactorOf}
use Rattle.pami_batch.specs.FinishedBatch.{FinishedBatch, HasSteps, first_column, first_columns}

-- ---- lists
-- one member more
pub take_on : {A : Type 0} (xs : List A) (k : ℕ) (x : A) → drop k xs ≡ x ∷ drop (k + 1) xs → take (k + 1) xs ≡ take k xs ++ x ∷ []
take_on [] zero x e = absurd (cc)
take_on [] (suc k) x e = absurd (cc)
take_on (y ∷ xs) zero x e = let same : y ≡ x = cc in ap (λ z. z ∷ []) same
take_on (y ∷ xs) (suc k) x e =
    let on : suc k + 1 ≡ suc (k + 1) = omega arith in
    let rest : drop k xs ≡ x ∷ drop (k + 1) xs = e ∙ ap (λ n. x ∷ drop n (y ∷ xs)) on in
    ap (λ n. take n (y ∷ xs)) on ∙ ap (λ zs. y ∷ zs) (take_on xs k x rest)

-- ---- the steps
pub as_many : (f : theory.Form) (ms : List Minor) (ss : List Step) → AreStepsOf f ms ss → length ms ≡ length ss
as_many f [] [] h = refl
as_many f [] (s ∷ ss) h = absurd h
as_many f (m ∷ ms) [] h = absurd h
as_many f (m ∷ ms) (s ∷ ss) h = ap suc (as_many f ms ss h.1)

-- the step of an index
record IsAt (f : theory.Form) (ms : List Minor) (k : ℕ) (s : Step) : Type 0 where
  pub minor : Minor
  pub rest : drop k ms ≡ minor ∷ drop (k + 1) ms
  pub step : IsStepOf f minor.reached.basis minor.reached.fresh minor.step s

step_at : (f : theory.Form) (ms : List Minor) (ss : List Step) (k : ℕ) (s : Step) → AreStepsOf f ms ss → k < length ss → s ≡ get_or ss k s → IsAt f ms k s
step_at f [] [] k s h l e = absurd (omega arith)
step_at f [] (t ∷ ss) k s h l e = absurd h
step_at f (m ∷ ms) [] k s h l e = absurd h
step_at f (m ∷ ms) (t ∷ ss) zero s h l e =
    record { minor = m; rest = refl; step = subst (IsStepOf f m.reached.basis m.reached.fresh m.step) (sym e) h.0 }
step_at f (m ∷ ms) (t ∷ ss) (suc k) s h l e =
    let a = step_at f ms ss k s h.1 (omega arith) e in
    let on : suc (k + 1) ≡ suc k + 1 = omega arith in
    record { minor = a.minor; rest = a.rest ∙ ap (λ n. a.minor ∷ drop n (m ∷ ms)) on; step = a.step }

leaves_at : (f : theory.Form) (first : Reached) (ms : List Minor) (k : ℕ) (m : Minor) (rest : List Minor) → AllLeave f first ms → drop k ms ≡ m ∷ rest
    → Leaves f first m
leaves_at f first [] zero m rest h e = absurd (cc)
leaves_at f first [] (suc k) m rest h e = absurd (cc)
leaves_at f first (n ∷ ms) zero m rest h e = let same : n ≡ m = cc in subst (Leaves f first) same h.0
leaves_at f first (n ∷ ms) (suc k) m rest h e = leaves_at f first ms k m rest h.1 e

-- what is known of it in a batch
pub record Known (f : theory.Form) (b : FinishedBatch) (k : ℕ) (s : Step) : Type 0 where
  pub minor : Minor
  pub rest : drop k b.minors ≡ minor ∷ drop (k + 1) b.minors
  pub step : IsStepOf f minor.reached.basis minor.reached.fresh minor.step s
  pub leaves : Leaves f b.first minor
  pub split : b.minors ≡ take k b.minors ++ minor ∷ drop (k + 1) b.minors

pub known : (f : theory.Form) (b : FinishedBatch) (ss : List Step) (k : ℕ) (s : Step) → HasSteps f ss b → k < length ss → s ≡ get_or ss k s → Known f b k s
known f b ss k s h l e =
    let a = step_at f b.minors ss k s h.steps_are l e in
    let all = all_leave f b.first b.minors b.last (solved_chain f b.limit b.first b.minors b.last h.solved) in
    record {
      minor = a.minor;
      rest = a.rest;
      step = a.step;
      leaves = leaves_at f b.first b.minors k a.minor (drop (k + 1) b.minors) all a.rest;
      split = sym (take-append-drop k b.minors) ∙ ap (λ ms. take k b.minors ++ ms) a.rest;
    }

-- a batch has fewer pivots than numbers
pub few_steps : (f : theory.Form) (b : FinishedBatch) (ss : List Step) → HasSteps f ss b → length ss < 2 ^ 32
few_steps f b ss h =
    let n = as_many f b.minors ss h.steps_are in
    let c = batch_counts f b.limit b.first b.minors b.last h.solved.batch in
    let w = batch_within f b.limit b.first b.minors b.last h.solved.batch h.most in
    let few = h.few in
    omega (arith, n, c, w, few)

-- ---- the factor
pub steps_long : (f : theory.Form) (h : History) (b : Basis) (factor : Product) → IsFactorOf f h b factor → length factor.steps ≡ f.rows
steps_long f h b factor is =
    step_count (head_matrix f h.head) factor.steps (matrix_square f h.head is.stands.places) is.steps ∙ matrix_length f h.head

-- ---- columns and pivots
pub columns_long : (f : theory.Form) (b : FinishedBatch) (ss : List Step) → HasSteps f ss b → All (λ (c : List Fraction). length c ≡ f.rows) (first_columns b)
columns_long f b ss h = go b.minors (all_leave f b.first b.minors b.last (solved_chain f b.limit b.first b.minors b.last h.solved))
  where
    go : (ms : List Minor) → AllLeave f b.first ms → All (λ (c : List Fraction). length c ≡ f.rows) (map (first_column b) ms)
    go [] a = All-nil (λ (c : List Fraction). length c ≡ f.rows)
    go (m ∷ ms) a = All-cons (λ (c : List Fraction). length c ≡ f.rows) (first_column b m) (map (first_column b) ms)
        (h.solved.fresh.column_by_place m.step.entering a.0.within) (go ms a.1)

pivots_by : (n : ℕ) (ps : List Pivot) → All (IsColumnPivot n) (column_pivots ps) → ArePivots n ps
pivots_by n [] a = All-nil (IsPivot n)
pivots_by n (p ∷ ps) a =
    let h = All-head (IsColumnPivot n) (column_pivot p) (column_pivots ps) a in
    All-cons (IsPivot n) p ps (h.place_low, h.column_length, not_zero_by_test (get p.column p.place) h.nonzero)
    (pivots_by n ps (All-tail (IsColumnPivot n) (column_pivot p) (column_pivots ps) a))

front_of : {A : Type 0} (P : A → Type 0) (xs ys : List A) → All P (xs ++ ys) → All P xs
front_of P [] ys a = All-nil P
front_of P (x ∷ xs) ys a = All-cons P x xs (All-head P x (xs ++ ys) a) (front_of P xs ys (All-tail P x (xs ++ ys) a))

-- the first pivots of a batch
pub pivots_ready : (f : theory.Form) (b : FinishedBatch) (ss : List Step) (k : ℕ) (ps : List Pivot) → HasSteps f ss b
    → column_pivots ps ≡ map pivot_of (take k b.minors) → ArePivots f.rows ps
pivots_ready f b ss k ps h e =
    let all : All (IsColumnPivot f.rows) (map pivot_of b.minors) = pivots_are_columns f b.first b.minors b.last
    (solved_chain f b.limit b.first b.minors b.last h.solved) in
    let apart : map pivot_of b.minors ≡ map pivot_of (take k b.minors) ++ map pivot_of (drop k b.minors) =
    ap (map pivot_of) (sym (take-append-drop k b.minors)) ∙ map-append pivot_of (take k b.minors) (drop k b.minors) in
    pivots_by f.rows ps (subst (All (IsColumnPivot f.rows)) (sym e)
    (front_of (IsColumnPivot f.rows) (map pivot_of (take k b.minors)) (map pivot_of (drop k b.minors)) (subst (All (IsColumnPivot f.rows)) apart all)))

pub all_pivots_ready : (f : theory.Form) (b : FinishedBatch) (ss : List Step) (ps : List Pivot) → HasSteps f ss b → column_pivots ps ≡ map pivot_of b.minors
    → ArePivots f.rows ps
all_pivots_ready f b ss ps h e =
    pivots_by f.rows ps (subst (All (IsColumnPivot f.rows)) (sym e)
    (pivots_are_columns f b.first b.minors b.last (solved_chain f b.limit b.first b.minors b.last h.solved)))
