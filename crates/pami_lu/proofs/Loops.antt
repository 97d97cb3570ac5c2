-- The loop of the elimination, over plain variables.
use Rattle.std.proofs.Common.{◌≡◌, ℕ, suc, ⊎_elim, ◌+◌, ◌-◌, ◌<◌, ◌≤◌, List, [], ◌∷◌, ◌++◌, length, set, replicate, refl, sym, ap, ◌∙◌, subst, arith, append_assoc, append-nil, Bool, true, false, not, Option, Some, None, Result, Ok, Err}
use Rattle.std.proofs.lemmas.List.{length-replicate, length-set, get_or-set_same, get_or-set_other, get_or_past}
use Rattle.std.proofs.lemmas.Bool.{cases_lt, true≢false}
use lib.IntN.{pos}
use Rattle.pami_algebra.specs.Operations.{of_int, is_zero}
use Rattle.pami_algebra.proofs.Tests.{is_zero_iff}
use Rattle.pami_linear.specs.Lists.{get}
use Rattle.pami_algebra.specs.Fraction.{Fraction}
use Rattle.pami_linear.specs.Active.{first_from}
use Rattle.pami_linear.specs.Pivoting.{Pivot, pivot, at_pivot}
use Rattle.pami_frac.specs.Answers.{FollowsBy}
use Rattle.pami_frac.specs.declared.arithmetic.Refused.{Refused}
use Rattle.pami_frac.specs.declared.fault.Fault.{Fault}
use Rattle.pami_frac.specs.declared.fault.Fault.TheVariants.{Named, OutOfMemory}
use Rattle.pami_factoring.specs.declared.kept.LuFault.{LuFault}
use Rattle.pami_factoring.specs.declared.kept.LuFault.TheVariants.{Singular}
use Rattle.pami_factoring.specs.Factor.{flag, entry, row_at, elimination_script}
use Rattle.pami_factoring.specs.Steps.{IsSquare}
use Rattle.pami_factoring.proofs.Shapes.{Shape, Pivoted, at_pivoted, flag_in}
use Rattle.pami_lu.specs.declared.step.SparseStep.{SparseStep}
use Rattle.pami_lu.specs.declared.search.Found.{Found}
use Rattle.pami_lu.specs.Clear.{clear_step, then_sparse, then_clear, clear_from, clear_script}
use Rattle.pami_lu.specs.Cleaned.{IsCleaned, IsStepOf}
use Rattle.pami_lu.specs.Follow.{FollowsPivot, widened}
use Rattle.pami_lu.specs.Members.{AreAll, AreOthers, stands_at}
use Rattle.pami_lu.specs.Plain.{set_of}
use Rattle.pami_lu.specs.Stored.{full_steps, AreWhole}
use Rattle.pami_lu.proofs.Stepped.{step_cleaned, all_again}
use Rattle.pami_lu.proofs.Restored.{clear_shape, cleaned_start, script_refused, script_restored, steps_whole}

-- steps before others
abbrev pub before : List SparseStep → Result (List SparseStep) LuFault → Result (List SparseStep) LuFault
before ss (Ok rest) = Ok (ss ++ rest)
before ss (Err e) = Err e

before_more : (ss : List SparseStep) (s : SparseStep) (r : Result (List SparseStep) LuFault) → before ss (then_sparse s r) ≡ before (ss ++ (s ∷ [])) r
before_more ss s (Ok rest) = ap Ok (sym (append_assoc ss (s ∷ []) rest))
before_more ss s (Err e) = refl

before_nil : (r : Result (List SparseStep) LuFault) → before [] r ≡ r
before_nil (Ok rest) = refl
before_nil (Err e) = refl

-- the script from flags and rows on, by what the search for a pivot gives
abbrev pub from_pivot : ℕ → List Bool → List Bool → List (List Fraction) → Option Pivot → Result (List SparseStep) LuFault
from_pivot j ts cs rows o =
    at_pivot o (Err (Singular (first_from (length cs) 0 (flag cs)))) (λ i p. then_clear (clear_step (set ts i false) (set cs p false) rows i p) (λ (next : List (List Fraction)). clear_from j (set ts i false) (set cs p false) next))

one_further : (n j : ℕ) (ts cs : List Bool) (rows : List (List Fraction)) (ss : List SparseStep) (o : Option Pivot) → n ≡ suc j → pivot (length rows) (flag ts) (flag cs) (entry rows) ≡ o →
    before ss (clear_from n ts cs rows) ≡ before ss (from_pivot j ts cs rows o)
one_further n j ts cs rows ss o e f = ap (λ n. before ss (clear_from n ts cs rows)) e ∙ ap (λ o. before ss (from_pivot j ts cs rows o)) f

-- ---- the pivot
pivoted_at : (m : ℕ) (ts cs : List Bool) (rows : List (List Fraction)) (f : Found) → Shape m ts cs rows → FollowsPivot ts cs rows (Ok f) → Pivoted m (flag ts) (flag cs) (entry rows) f.row f.place
pivoted_at m ts cs rows f s e = at_pivoted m ts cs rows (record { row = f.row; place = f.place }) s (sym e)

-- no pivot
none_left : (start : Result (List SparseStep) LuFault) (m k : ℕ) (ts cs : List Bool) (rows : List (List Fraction)) (ss : List SparseStep) (e : LuFault) → k < m →
    start ≡ before ss (clear_from (m - k) ts cs rows) → FollowsPivot ts cs rows (Err (Named e)) → start ≡ Err e
none_left start m k ts cs rows ss e l s f =
    s ∙ one_further (m - k) (m - (k + 1)) ts cs rows ss None (omega arith) f.0 ∙ ap Err (sym f.1)

-- ---- a step
next_left : (start : Result (List SparseStep) LuFault) (m k : ℕ) (ts cs : List Bool) (rows next : List (List Fraction)) (ss more : List SparseStep) (q : Found) (step : SparseStep) → k < m →
    start ≡ before ss (clear_from (m - k) ts cs rows) → FollowsPivot ts cs rows (Ok q) →
    clear_step (set ts q.row false) (set cs q.place false) rows q.row q.place ≡ Ok (step, next) → more ≡ ss ++ (step ∷ []) →
    start ≡ before more (clear_from (m - (k + 1)) (set ts q.row false) (set cs q.place false) next)
next_left start m k ts cs rows next ss more q step l e f g h =
    e ∙ one_further (m - k) (m - (k + 1)) ts cs rows ss (Some (record { row = q.row; place = q.place })) (omega arith) f
    ∙ ap (λ u. before ss (then_clear u (λ (n : List (List Fraction)). clear_from (m - (k + 1)) (set ts q.row false) (set cs q.place false) n))) g
    ∙ before_more ss step (clear_from (m - (k + 1)) (set ts q.row false) (set cs q.place false) next)
    ∙ ap (λ z. before z (clear_from (m - (k + 1)) (set ts q.row false) (set cs q.place false) next)) (sym h)

-- a refused one
refused_left : (start : Result (List SparseStep) LuFault) (m k : ℕ) (ts cs : List Bool) (rows : List (List Fraction)) (ss : List SparseStep) (q : Found) (r : Refused) → k < m →
    start ≡ before ss (clear_from (m - k) ts cs rows) → FollowsPivot ts cs rows (Ok q) →
    clear_step (set ts q.row false) (set cs q.place false) rows q.row q.place ≡ Err r → start ≡ Err (LuFault.Refused r)
refused_left start m k ts cs rows ss q r l s f g =
    s ∙ one_further (m - k) (m - (k + 1)) ts cs rows ss (Some (record { row = q.row; place = q.place })) (omega arith) f
    ∙ ap (λ u. before ss (then_clear u (λ (n : List (List Fraction)). clear_from (m - (k + 1)) (set ts q.row false) (set cs q.place false) n))) g

-- ---- the start
started : (m : ℕ) (ts cs : List Bool) (rows : List (List Fraction)) (ss : List SparseStep) → m ≡ length rows → ts ≡ replicate m true → cs ≡ replicate m true → ss ≡ [] →
    clear_script rows ≡ before ss (clear_from (m - 0) ts cs rows)
unfolding clear_script
started m ts cs rows ss e f g h =
    let k : m - 0 ≡ length rows = omega arith in
    sym
    (ap (λ z. before z (clear_from (m - 0) ts cs rows)) h ∙ before_nil (clear_from (m - 0) ts cs rows) ∙ ap (λ z. clear_from z ts cs rows) k
    ∙ ap (λ z. clear_from (length rows) z cs rows) (f ∙ ap (λ n. replicate n true) e)
    ∙ ap (λ z. clear_from (length rows) (replicate (length rows) true) z rows) (g ∙ ap (λ n. replicate n true) e))

shaped : (m : ℕ) (ts cs : List Bool) (rows : List (List Fraction)) → m ≡ length rows → ts ≡ replicate m true → cs ≡ replicate m true → IsSquare rows → Shape m ts cs rows
shaped m ts cs rows e f g s = record { tall = sym e; down = ap length f ∙ length-replicate m true; across = ap length g ∙ length-replicate m true; same = λ h l k. s h (omega arith) ∙ sym e }

-- ---- what a pivot finds is a step
step_ready : (m : ℕ) (ts cs : List Bool) (rows : List (List Fraction)) (i p : ℕ) → Shape m ts cs rows → IsCleaned ts cs rows → Pivoted m (flag ts) (flag cs) (entry rows) i p → IsStepOf (set ts i false) (set cs p false) rows i p
step_ready m ts cs rows i p s c q =
    let tall : length rows ≡ m = s.tall in
    let down : length ts ≡ m = s.down in
    let across : length cs ≡ m = s.across in
    let li : i < m = q.row_low in
    let lp : p < m = q.place_low in
    record {
      down = length-set ts i false ∙ down ∙ sym tall;
      across = length-set cs p false ∙ across ∙ sym tall;
      row_out = get_or-set_same ts i false false (omega arith);
      place_out = get_or-set_same cs p false false (omega arith);
      kept = s.same i li q.row_in ∙ sym tall;
      nonzero = q.nonzero;
      same = λ h l e. s.same h (omega arith) (flag_in ts i h (omega arith) e) ∙ sym tall;
      empty = λ h n e. c.empty h (sym (get_or-set_other ts i h false false n) ∙ e);
      zero = λ h g n e. c.zero h g (sym (get_or-set_other cs p g false false n) ∙ e);
    }

-- no row is longer than the others
long_most : (m h : ℕ) (ts cs : List Bool) (rows : List (List Fraction)) → Shape m ts cs rows → IsCleaned ts cs rows → length (row_at rows h) ≤ length rows
long_most m h ts cs rows s c = ⊎_elim
    (λ (l : h < length rows). go (flag ts h) refl l)
    (λ (l : length rows ≤ h). subst (λ (xs : List Fraction). length xs ≤ length rows) (sym (get_or_past rows h [] l)) (omega arith))
    (cases_lt h (length rows))
  where
    go : (t : Bool) → flag ts h ≡ t → h < length rows → length (row_at rows h) ≤ length rows
    go true e l = let tall : length rows ≡ m = s.tall in let q : length (row_at rows h) ≡ m = s.same h (omega arith) e in omega arith
    go false e l = subst (λ (xs : List Fraction). length xs ≤ length rows) (sym (c.empty h e)) (omega arith)

-- only an active row has a nonzero
long_stands : (m p : ℕ) (ts cs : List Bool) (rows : List (List Fraction)) → Shape m ts cs rows → IsCleaned ts cs rows → (h : ℕ) → stands_at rows h p ≡ true → length (row_at rows h) ≡ length rows
long_stands m p ts cs rows s c h e = ⊎_elim
    (λ (l : h < length rows). go (flag ts h) refl l)
    (λ (l : length rows ≤ h). absurd (true≢false (sym e ∙ ap (λ (xs : List Fraction). not (is_zero (get xs p))) (get_or_past rows h [] l) ∙ ap not ((is_zero_iff (of_int (pos 0))).1 refl))))
    (cases_lt h (length rows))
  where
    go : (t : Bool) → flag ts h ≡ t → h < length rows → length (row_at rows h) ≡ length rows
    go true f l = let tall : length rows ≡ m = s.tall in s.same h (omega arith) f ∙ sym tall
    go false f l = absurd (true≢false (sym e ∙ ap (λ (xs : List Fraction). not (is_zero (get xs p))) (c.empty h f) ∙ ap not ((is_zero_iff (of_int (pos 0))).1 refl)))

-- what is lent is what stands there
pivot_lent : (ts cs cs' : List Bool) (rows rows' : List (List Fraction)) (r : Result Found (Fault LuFault)) → cs' ≡ cs → rows' ≡ rows → ((ts : List Bool) → length ts ≡ length rows' → IsCleaned ts cs' rows' → FollowsPivot ts cs' rows' r) →
    length ts ≡ length rows → IsCleaned ts cs rows → FollowsPivot ts cs rows r
pivot_lent ts cs cs' rows rows' r e f h l c =
    subst (λ z. FollowsPivot ts cs z r) f (subst (λ z. FollowsPivot ts z rows' r) e
    (h ts (l ∙ ap length (sym f)) (subst (λ z. IsCleaned ts z rows') (sym e) (subst (λ z. IsCleaned ts cs z) (sym f) c))))

-- ---- before step k of m, with the places that are active; the rows that are active are those that aren't empty
pub record Going (matrix : List (List Fraction)) (m k : ℕ) (cs : List Bool) (rows : List (List Fraction)) (members : List (List ℕ)) (ss : List SparseStep) : Type 0 where
  pub active : List Bool
  pub left : clear_script matrix ≡ before ss (clear_from (m - k) active cs rows)
  pub shape : Shape m active cs rows
  pub tall : m ≡ length matrix
  pub clean : IsCleaned active cs rows
  pub all : AreAll rows members
  pub sets : length members ≡ length rows

pub going_start : (m : ℕ) (cs : List Bool) (matrix : List (List Fraction)) (members : List (List ℕ)) (ss : List SparseStep) → m ≡ length matrix → cs ≡ replicate m true → ss ≡ [] → IsSquare matrix →
    AreAll matrix members → length members ≡ length matrix → Going matrix m 0 cs matrix members ss
going_start m cs matrix members ss e f g s a l = record {
  active = replicate m true;
  left = started m (replicate m true) cs matrix ss e refl f g;
  shape = shaped m (replicate m true) cs matrix e refl f s;
  tall = e;
  clean = cleaned_start m (replicate m true) cs matrix e refl f s;
  all = a;
  sets = l;
}

-- what the search answers
pub going_search : (matrix : List (List Fraction)) (m k : ℕ) (cs cs' : List Bool) (rows rows' : List (List Fraction)) (members : List (List ℕ)) (ss : List SparseStep) (r : Result Found (Fault LuFault)) (g : Going matrix m k cs rows members ss) →
    cs' ≡ cs → rows' ≡ rows → ((ts : List Bool) → length ts ≡ length rows' → IsCleaned ts cs' rows' → FollowsPivot ts cs' rows' r) → FollowsPivot g.active cs rows r
going_search matrix m k cs cs' rows rows' members ss r g e f h = pivot_lent g.active cs cs' rows rows' r e f h (g.shape.down ∙ sym g.shape.tall) g.clean

pub going_pivot : (matrix : List (List Fraction)) (m k : ℕ) (cs : List Bool) (rows : List (List Fraction)) (members : List (List ℕ)) (ss : List SparseStep) (q : Found) (g : Going matrix m k cs rows members ss) →
    FollowsPivot g.active cs rows (Ok q) → Pivoted m (flag g.active) (flag cs) (entry rows) q.row q.place
going_pivot matrix m k cs rows members ss q g f = pivoted_at m g.active cs rows q g.shape f

pub going_step : (matrix : List (List Fraction)) (m k : ℕ) (cs : List Bool) (rows : List (List Fraction)) (members : List (List ℕ)) (ss : List SparseStep) (q : Found) (g : Going matrix m k cs rows members ss) →
    FollowsPivot g.active cs rows (Ok q) → IsStepOf (set g.active q.row false) (set cs q.place false) rows q.row q.place
going_step matrix m k cs rows members ss q g f = step_ready m g.active cs rows q.row q.place g.shape g.clean (going_pivot matrix m k cs rows members ss q g f)

pub going_none : (matrix : List (List Fraction)) (m k : ℕ) (cs : List Bool) (rows : List (List Fraction)) (members : List (List ℕ)) (ss : List SparseStep) (d : Fault LuFault) (g : Going matrix m k cs rows members ss) → IsSquare matrix → k < m →
    FollowsPivot g.active cs rows (Err d) → FollowsBy (λ ks. ks) (elimination_script matrix) (Err d)
going_none matrix m k cs rows members ss (Named e) g s l f = script_refused matrix e s (none_left (clear_script matrix) m k g.active cs rows ss e l g.left f)
going_none matrix m k cs rows members ss OutOfMemory g s l f = tt

pub going_refused : (matrix : List (List Fraction)) (m k : ℕ) (cs : List Bool) (rows next : List (List Fraction)) (members : List (List ℕ)) (ss : List SparseStep) (q : Found) (d : Fault Refused) (g : Going matrix m k cs rows members ss) → IsSquare matrix → k < m →
    FollowsPivot g.active cs rows (Ok q) →
    ((ts cs' : List Bool) → IsStepOf ts cs' rows q.row q.place → FollowsBy (λ (s : SparseStep). (s, next)) (clear_step ts cs' rows q.row q.place) (Err d)) →
    FollowsBy (λ ks. ks) (elimination_script matrix) (Err (widened d))
going_refused matrix m k cs rows next members ss q (Named r) g s l f h =
    script_refused matrix (LuFault.Refused r) s (refused_left (clear_script matrix) m k g.active cs rows ss q r l g.left f (h (set g.active q.row false) (set cs q.place false) (going_step matrix m k cs rows members ss q g f)))
going_refused matrix m k cs rows next members ss q OutOfMemory g s l f h = tt

pub going_next : (matrix : List (List Fraction)) (m k : ℕ) (cs : List Bool) (rows next : List (List Fraction)) (members sets : List (List ℕ)) (ss more : List SparseStep) (q : Found) (s : SparseStep) (g : Going matrix m k cs rows members ss) → k < m →
    FollowsPivot g.active cs rows (Ok q) →
    ((ts cs' : List Bool) → IsStepOf ts cs' rows q.row q.place → clear_step ts cs' rows q.row q.place ≡ Ok (s, next)) →
    AreOthers q.place next sets → set_of sets q.place ≡ [] → length sets ≡ length members → more ≡ ss ++ (s ∷ []) → Going matrix m (k + 1) (set cs q.place false) next sets more
going_next matrix m k cs rows next members sets ss more q s g l f h o z n e =
    let ts : List Bool = set g.active q.row false in
    let cs' : List Bool = set cs q.place false in
    let step : IsStepOf ts cs' rows q.row q.place = going_step matrix m k cs rows members ss q g f in
    let found : Pivoted m (flag g.active) (flag cs) (entry rows) q.row q.place = going_pivot matrix m k cs rows members ss q g f in
    let done : clear_step ts cs' rows q.row q.place ≡ Ok (s, next) = h ts cs' step in
    let shape : Shape m ts cs' next = clear_shape m q.row q.place g.active cs rows next s g.shape g.clean found done in
    let clean : IsCleaned ts cs' next = step_cleaned ts cs' rows next q.row q.place s step done in
    record {
      active = ts;
      left = next_left (clear_script matrix) m k g.active cs rows next ss more q s l g.left f done e;
      shape = shape;
      tall = g.tall;
      clean = clean;
      all = all_again ts cs' next sets q.place clean step.place_out o z;
      sets = n ∙ g.sets ∙ g.shape.tall ∙ sym shape.tall;
    }

-- ---- the end
going_done : (matrix : List (List Fraction)) (m k : ℕ) (cs : List Bool) (rows : List (List Fraction)) (members : List (List ℕ)) (ss : List SparseStep) → Going matrix m k cs rows members ss → m ≤ k → clear_script matrix ≡ Ok ss
going_done matrix m k cs rows members ss g l = let z : m - k ≡ 0 = omega arith in g.left ∙ ap (λ n. before ss (clear_from n g.active cs rows)) z ∙ ap Ok (append-nil ss)

pub going_end : (matrix : List (List Fraction)) (m k : ℕ) (cs : List Bool) (rows : List (List Fraction)) (members : List (List ℕ)) (ss : List SparseStep) → Going matrix m k cs rows members ss → IsSquare matrix → m ≤ k →
    elimination_script matrix ≡ Ok (full_steps [] ss)
going_end matrix m k cs rows members ss g s l = script_restored matrix ss s (going_done matrix m k cs rows members ss g l)

pub going_whole : (matrix : List (List Fraction)) (m k : ℕ) (cs : List Bool) (rows : List (List Fraction)) (members : List (List ℕ)) (ss : List SparseStep) → Going matrix m k cs rows members ss → IsSquare matrix → m ≤ k → AreWhole ss
going_whole matrix m k cs rows members ss g s l = steps_whole matrix ss s (going_done matrix m k cs rows members ss g l)

-- the rows that the search and the step are given
pub going_long : (matrix : List (List Fraction)) (m k : ℕ) (cs : List Bool) (rows : List (List Fraction)) (members : List (List ℕ)) (ss : List SparseStep) → Going matrix m k cs rows members ss → (h : ℕ) → length (row_at rows h) ≤ length rows
going_long matrix m k cs rows members ss g h = long_most m h g.active cs rows g.shape g.clean

pub going_stands : (matrix : List (List Fraction)) (m k p : ℕ) (cs : List Bool) (rows : List (List Fraction)) (members : List (List ℕ)) (ss : List SparseStep) → Going matrix m k cs rows members ss → (h : ℕ) → stands_at rows h p ≡ true → length (row_at rows h) ≡ length rows
going_stands matrix m k p cs rows members ss g = long_stands m p g.active cs rows g.shape g.clean
