-- The turns of a batch, one after the other.
use Rattle.std.proofs.Common.{◌≡◌, ℕ, suc, ◌+◌, ◌<◌, ◌≤◌, inl, inr, List, [], ◌∷◌, ◌++◌, map, length, None, Ok, Err, refl, sym, ap, ◌∙◌, subst, arith}
use Rattle.std.specs.List.{flat_map}
use Rattle.std.proofs.lemmas.List.{append_assoc, append-nil, length-append}
use Rattle.pami_algebra.specs.Fraction.{Fraction}
use Rattle.pami_frac.specs.declared.fault.Fault.{Fault}
use Rattle.pami_frac.specs.declared.fault.Fault.TheVariants as faults
use Rattle.pami_theory.specs.Form.{Form}
use Rattle.pami_method.specs.declared.words.Place.{Place}
use Rattle.pami_method.specs.Task.{Task}
use Rattle.pami_method.specs.Factor.{History}
use Rattle.pami_method.specs.Batch as batch
use Rattle.pami_method.specs.Batch.{Reached, Turn, Pivots, turn, places, EndsBatch, IsBatch}
use Rattle.pami_method.specs.Work.{backward_task, all_minors, minor_tasks, row_task, last_tasks, later_tasks, first_refused}
use Rattle.pami_method.proofs.BatchExists.{has_batch}
use Rattle.pami_method.proofs.Turns.{next_rows_fewer}
use Rattle.pami_log.specs.declared.event.Move.{Move}
use Rattle.pami_log.specs.Events.{minor_moves, last_moves}
use Rattle.pami_vec.specs.declared.step.Step.{Step}
use Rattle.pami_minor.specs.declared.minor.Minor.{Minor}
use Rattle.pami_minor.specs.Steps.{IsStepOf, AreStepsOf}
use Rattle.pami_minor.specs.Fresh.{IsReached, IsFreshMinor}
use Rattle.pami_minor.proofs.Among.{fresh_length}
use Rattle.pami_batch.specs.Batches.{IsStop}
use Rattle.pami_batch.specs.declared.minors.Minors.TheVariants as minors
use Rattle.pami_batch.specs.declared.minors_turn.Taken.TheVariants as taken
use Rattle.pami_batch.specs.Minors.{HasMinors}
use Rattle.pami_batch.specs.Turns.{rest_tasks, IsTurn}
use Rattle.pami_batch.specs.Told.{Tells}
use Rattle.pami_batch.proofs.Refusals.{front_refused, front_fits, both_fit}

-- the tasks up to what is reached behind the pivots es
abbrev pub front_tasks : Form → ℕ → History → Reached → List batch.Minor → List Task
front_tasks f limit h first es = map (backward_task f h) (places first.rows) ++ all_minors f limit 1 es

-- behind the pivots es the batch from `first` has reached `now`
pub record IsRunning (f : Form) (limit : ℕ) (h : History) (first : Reached) (es : List batch.Minor) (now : Reached) (count : ℕ) (minor : Minor)
    (moves : List Move) : Type 0 where
  pub fresh : IsFreshMinor f limit now minor
  pub leads : (ms : List batch.Minor) (last : Reached) → IsBatch f limit now ms last → IsBatch f limit first (es ++ ms) last
  pub fits : first_refused (front_tasks f limit h first es) ≡ None
  pub steps : AreStepsOf f es minor.steps.items
  pub told : moves ≡ flat_map minor_moves es
  pub count_is : count ≡ length es
  pub counted : count ≤ now.count

pub running_begins : (f : Form) (limit : ℕ) (h : History) (first : Reached) (minor : Minor) → IsFreshMinor f limit first minor
    → first_refused (map (backward_task f h) (places first.rows)) ≡ None → minor.steps.items ≡ [] → IsRunning f limit h first [] first 0 minor []
running_begins f limit h first minor k e s = record {
  fresh = k;
  leads = λ ms last b. b;
  fits = both_fit (map (backward_task f h) (places first.rows)) [] e refl;
  steps = subst (AreStepsOf f []) (sym s) tt;
  told = refl;
  count_is = refl;
  counted = omega arith;
}

-- ---- lists behind one another
all_more : (f : Form) (limit k : ℕ) (es fs : List batch.Minor)
    → all_minors f limit k (es ++ fs) ≡ all_minors f limit k es ++ all_minors f limit (k + length es) fs
all_more f limit k [] fs = let z : k ≡ k + 0 = omega arith in ap (λ n. all_minors f limit n fs) z
all_more f limit k (m ∷ es) fs =
    let z : suc k + length es ≡ k + length (m ∷ es) = omega arith in
    ap (λ ts. minor_tasks f limit k m ++ ts) (all_more f limit (suc k) es fs)
    ∙ sym (append_assoc (minor_tasks f limit k m) (all_minors f limit (suc k) es) (all_minors f limit (suc k + length es) fs))
    ∙ ap (λ n. (minor_tasks f limit k m ++ all_minors f limit (suc k) es) ++ all_minors f limit n fs) z

moves_more : (es : List batch.Minor) (m : batch.Minor) → flat_map minor_moves (es ++ m ∷ []) ≡ flat_map minor_moves es ++ minor_moves m
moves_more [] m = append-nil (minor_moves m)
moves_more (e ∷ es) m =
    ap (λ ms. minor_moves e ++ ms) (moves_more es m) ∙ sym (append_assoc (minor_moves e) (flat_map minor_moves es) (minor_moves m))

steps_more : (f : Form) (es : List batch.Minor) (steps : List Step) (m : batch.Minor) (step : Step) → AreStepsOf f es steps
    → IsStepOf f m.reached.basis m.reached.fresh m.step step → AreStepsOf f (es ++ m ∷ []) (steps ++ step ∷ [])
steps_more f [] [] m step h w = (w, tt)
steps_more f [] (s ∷ steps) m step h w = absurd h
steps_more f (e ∷ es) [] m step h w = absurd h
steps_more f (e ∷ es) (s ∷ steps) m step h w = (h.0, steps_more f es steps m step h.1 w)

-- ---- one pivot more
pub running_goes : (f : Form) (limit : ℕ) (h : History) (first : Reached) (es : List batch.Minor) (now : Reached) (count : ℕ) (old new : Minor)
    (moves told : List Move) → (g : IsRunning f limit h first es now count old moves) → (t : IsTurn f limit now (count + 1) old new moves told (Ok taken.Pivoted))
    → IsRunning f limit h first (es ++ t.0 ∷ []) t.1 (count + 1) new told
running_goes f limit h first es now count old new moves told g t =
    let m = t.0 in
    let b = t.3 in
    let n : count + 1 ≡ 1 + length es = (let k = g.count_is in omega (arith, k)) in
    let pivots : turn f limit now ≡ Pivots m.dropped m.row m.step = subst (λ (x : Reached). turn f limit x ≡ Pivots m.dropped m.row m.step) t.2 b.pivot.pivots in
    record {
      fresh = b.fresh;
      leads = λ ms last k.
          subst (λ xs. IsBatch f limit first xs last) (sym (append_assoc es (m ∷ []) ms))
          (g.leads (m ∷ ms) last (t.2, pivots, t.1, b.pivot.behind, k));
      fits =
          ap (λ ts. first_refused (map (backward_task f h) (places first.rows) ++ ts)) (all_more f limit 1 es (m ∷ []))
          ∙ ap first_refused (sym (append_assoc (map (backward_task f h) (places first.rows)) (all_minors f limit 1 es) (all_minors f limit (1 + length es) (m ∷ []))))
          ∙ both_fit (front_tasks f limit h first es) (all_minors f limit (1 + length es) (m ∷ [])) g.fits
          (both_fit (minor_tasks f limit (1 + length es) m) [] (subst (λ k. first_refused (minor_tasks f limit k m) ≡ None) n t.5) refl);
      steps = subst (AreStepsOf f (es ++ m ∷ [])) (sym b.steps) (steps_more f es old.steps.items m b.step g.steps b.step_is);
      told = t.4 ∙ ap (λ ms. ms ++ minor_moves m) g.told ∙ sym (moves_more es m);
      count_is = (let k = g.count_is in let l = length-append es (m ∷ []) in omega (arith, k, l));
      counted = (let k = g.counted in let c = b.pivot.behind.count in let e = ap (λ (x : Reached). x.count) t.2 in omega (arith, k, c, e));
    }

-- ---- the end
stop_ends : (t : Turn) → IsStop t → EndsBatch t
stop_ends t (inl e) = subst EndsBatch (sym e) tt
stop_ends t (inr e) = subst EndsBatch (sym e.1) tt

ended : (f : Form) (limit : ℕ) (h : History) (first : Reached) (es : List batch.Minor) (now : Reached) (count : ℕ) (minor : Minor) (moves : List Move)
    → IsRunning f limit h first es now count minor moves → EndsBatch (turn f limit now) → IsBatch f limit first es now
ended f limit h first es now count minor moves g e =
    subst (λ xs. IsBatch f limit first xs now) (append-nil es) (g.leads [] now (refl, e))

fits_behind : (f : Form) (limit : ℕ) (h : History) (first : Reached) (es : List batch.Minor) (ts : List Task) → first_refused (front_tasks f limit h first es) ≡ None
    → first_refused (map (backward_task f h) (places first.rows) ++ (all_minors f limit 1 es ++ ts)) ≡ first_refused ts
fits_behind f limit h first es ts e =
    ap first_refused (sym (append_assoc (map (backward_task f h) (places first.rows)) (all_minors f limit 1 es) ts)) ∙ front_fits (front_tasks f limit h first es) ts e

number_is : (count n : ℕ) → count ≡ n → count + 1 ≡ suc n
number_is count n e = omega (arith, e)

pub running_stops : (f : Form) (limit : ℕ) (h : History) (first : Reached) (es : List batch.Minor) (now : Reached) (count : ℕ) (old new : Minor)
    (moves told : List Move) → IsRunning f limit h first es now count old moves → IsTurn f limit now (count + 1) old new moves told (Ok taken.Stopped)
    → HasMinors f limit h first (Ok (minors.Stopped new told))
running_stops f limit h first es now count old new moves told g t = (
  es,
  now,
  ended f limit h first es now count old moves g (stop_ends (turn f limit now) t.0),
  (
    t.0,
    t.1,
    subst (AreStepsOf f es) (sym t.2) g.steps,
    t.3 ∙ ap (λ ms. ms ++ last_moves now (turn f limit now)) g.told,
    fits_behind f limit h first es (row_task f limit (suc (length es)) now ∷ []) g.fits
        ∙ ap (λ n. first_refused (row_task f limit n now ∷ [])) (sym (number_is count (length es) g.count_is)) ∙ t.4,
  ),
)

pub running_sticks : (f : Form) (limit : ℕ) (h : History) (first : Reached) (es : List batch.Minor) (now : Reached) (count : ℕ) (old new : Minor)
    (moves told : List Move) (rho : List Fraction) → IsRunning f limit h first es now count old moves
    → IsTurn f limit now (count + 1) old new moves told (Ok (taken.Stuck rho)) → HasMinors f limit h first (Ok (minors.Stuck rho told))
running_sticks f limit h first es now count old new moves told rho g t = (
  es,
  now,
  ended f limit h first es now count old moves g (subst EndsBatch (sym t.1) tt),
  (
    (batch.dropped f now, t.0, t.1, t.2),
    t.3 ∙ ap (λ ms. ms ++ last_moves now (turn f limit now)) g.told,
    fits_behind f limit h first es (row_task f limit (suc (length es)) now ∷ last_tasks f h first es (suc (length es)) now (turn f limit now)) g.fits
        ∙ ap (λ x. first_refused (row_task f limit (suc (length es)) now ∷ last_tasks f h first es (suc (length es)) now x)) t.1
        ∙ ap (λ n. first_refused (row_task f limit n now ∷ last_tasks f h first es n now (batch.Stuck (batch.dropped f now) t.0))) (sym (number_is count (length es) g.count_is))
        ∙ t.4,
  ),
)

-- ---- a refusal
later_is : (f : Form) (limit : ℕ) (h : History) (first : Reached) (es ms : List batch.Minor) (last : Reached)
    → first_refused (front_tasks f limit h first es) ≡ None
    → first_refused (later_tasks f limit h first (es ++ ms) last) ≡ first_refused (rest_tasks f limit h first (es ++ ms) (1 + length es) ms last)
later_is f limit h first es ms last e =
    let n : ℕ = suc (length (es ++ ms)) in
    let tail : List Task = row_task f limit n last ∷ last_tasks f h first (es ++ ms) n last (turn f limit last) in
    let l = length-append es ms in
    let z : n ≡ (1 + length es) + length ms = omega (arith, l) in
    ap (λ ts. first_refused (map (backward_task f h) (places first.rows) ++ (ts ++ tail))) (all_more f limit 1 es ms)
    ∙ ap (λ ts. first_refused (map (backward_task f h) (places first.rows) ++ ts))
    (append_assoc (all_minors f limit 1 es) (all_minors f limit (1 + length es) ms) tail)
    ∙ fits_behind f limit h first es (all_minors f limit (1 + length es) ms ++ tail) e
    ∙ ap (λ k. first_refused (all_minors f limit (1 + length es) ms ++ row_task f limit k last ∷ last_tasks f h first (es ++ ms) k last (turn f limit last))) z

pub running_refused : (f : Form) (limit : ℕ) (h : History) (first : Reached) (es : List batch.Minor) (now : Reached) (count : ℕ) (old new : Minor)
    (moves told : List Move) (fault : Fault Place) → IsRunning f limit h first es now count old moves
    → IsTurn f limit now (count + 1) old new moves told (Err fault) → HasMinors f limit h first (Err fault)
running_refused f limit h first es now count old new moves told (faults.Named place) g t =
    let b = has_batch f limit now g.fresh.reached.basis g.fresh.reached.fresh in
    let n : count + 1 ≡ 1 + length es = (let k = g.count_is in omega (arith, k)) in (
      es ++ b.0,
      b.1,
      g.leads b.0 b.1 b.2,
      later_is f limit h first es b.0 b.1 g.fits
          ∙ ap (λ k. first_refused (rest_tasks f limit h first (es ++ b.0) k b.0 b.1)) (sym n) ∙ t h first (es ++ b.0) b.0 b.1 b.2,
    )
running_refused f limit h first es now count old new moves told faults.OutOfMemory g t = tt

-- ---- before the first turn
pub opening_refused : {A : Type 0} (P : A → Type 0) (f : Form) (limit : ℕ) (h : History) (first : Reached) (fault : Fault Place) → IsReached f first
    → Tells P (map (backward_task f h) (places first.rows)) (Err fault) → HasMinors f limit h first (Err fault)
opening_refused P f limit h first (faults.Named place) r e =
    let b = has_batch f limit first r.basis r.fresh in
    let n : ℕ = suc (length b.0) in (
      b.0,
      b.1,
      b.2,
      front_refused (map (backward_task f h) (places first.rows))
          (all_minors f limit 1 b.0 ++ row_task f limit n b.1 ∷ last_tasks f h first b.0 n b.1 (turn f limit b.1)) place e,
    )
opening_refused P f limit h first faults.OutOfMemory r e = tt

-- ---- fewer rows are left behind a pivot
pub running_smaller : (f : Form) (limit : ℕ) (h : History) (first : Reached) (es : List batch.Minor) (now : Reached) (count : ℕ) (old new : Minor)
    (moves told : List Move) → IsRunning f limit h first es now count old moves → IsTurn f limit now (count + 1) old new moves told (Ok taken.Pivoted)
    → length new.rows.items < length old.rows.items
running_smaller f limit h first es now count old new moves told g t =
    let b = t.3 in
    let before = fresh_length f now old.rows.items now.rows g.fresh.rows in
    let behind = fresh_length f t.1 new.rows.items t.1.rows b.fresh.rows in
    let fewer = next_rows_fewer f limit t.0 t.1 b.pivot.pivots b.pivot.behind in
    let same = ap (λ (x : Reached). length x.rows) t.2 in
    omega (arith, before, behind, fewer, same)
