-- The loop of an elimination: the steps that were taken, before those that the script has left.
use Rattle.std.proofs.Common.{◌≡◌, ℕ, suc, ◌+◌, ◌-◌, ◌<◌, List, [], ◌∷◌, ◌++◌, length, set, replicate, refl, sym, ap, ◌∙◌, subst, arith}
use Rattle.std.proofs.Common.{append_assoc, true, false, Bool, Some, Result, Ok, Err}
use Rattle.std.proofs.lemmas.List.{length-replicate}
use Rattle.pami_frac.specs.Answers.{FollowsBy}
use Rattle.pami_frac.specs.declared.fault.Fault.{Fault}
use Rattle.pami_frac.specs.declared.fault.Fault.TheVariants.{Named, OutOfMemory}
use Rattle.pami_factoring.specs.declared.kept.Kept.{Kept}
use Rattle.pami_factoring.specs.declared.kept.LuFault.{LuFault}
use Rattle.pami_factoring.specs.Factor.{flag, entry, step_at, then_more, elimination_from, elimination_script}
use Rattle.pami_factoring.specs.Steps.{IsSquare}
use Rattle.pami_factoring.proofs.Shapes.{Shape, Pivoted, at_pivoted, shape_next}
use Rattle.pami_dense.specs.declared.elimination.Taken.{Taken}
use Rattle.pami_dense.specs.declared.rest.Rest.{Rest}
use Rattle.pami_dense.specs.Rest.{IsWhole, left_script}
use Rattle.pami_dense.specs.Search.{pivot_in}
use Rattle.pami_dense.specs.Step.{FollowsStep}

-- steps before others
abbrev pub before : List Kept → Result (List Kept) LuFault → Result (List Kept) LuFault
before ss (Ok rest) = Ok (ss ++ rest)
before ss (Err e) = Err e

before_more : (ss : List Kept) (s : Kept) (r : Result (List Kept) LuFault) → before ss (then_more s r) ≡ before (ss ++ (s ∷ [])) r
before_more ss s (Ok rest) = ap Ok (sym (append_assoc ss (s ∷ []) rest))
before_more ss s (Err e) = refl

before_nil : (r : Result (List Kept) LuFault) → before [] r ≡ r
before_nil (Ok rest) = refl
before_nil (Err e) = refl

-- ---- what a step leaves is whole
shape_of : (r : Rest) → IsWhole r → Shape (length r.rows.items) r.active.items r.places.items r.rows.items
shape_of r w = record { tall = refl; down = w.down; across = w.across; same = w.same }

-- (i, p) is the pivot
abbrev pub IsPivotOf : Rest → ℕ → ℕ → Type 0
IsPivotOf r i p = Some (record { row = i; place = p }) ≡ pivot_in r

-- this step at it
abbrev pub IsTakenAt : Rest → ℕ → ℕ → Taken → Type 0
IsTakenAt r i p t = step_at (set r.active.items i false) (set r.places.items p false) r.rows.items i p ≡ Ok (t.step, t.rest.rows.items)

pub pivoted_at : (r : Rest) (i p : ℕ) → IsWhole r → IsPivotOf r i p → Pivoted (length r.rows.items) (flag r.active.items) (flag r.places.items) (entry r.rows.items) i p
pivoted_at r i p w e = at_pivoted (length r.rows.items) r.active.items r.places.items r.rows.items (record { row = i; place = p }) (shape_of r w) e

pub shape_left : (r : Rest) (i p : ℕ) (t : Taken) → IsWhole r → IsPivotOf r i p → IsTakenAt r i p t →
    Shape (length r.rows.items) (set r.active.items i false) (set r.places.items p false) t.rest.rows.items
shape_left r i p t w e f =
    let q = pivoted_at r i p w e in
    shape_next (length r.rows.items) i p r.active.items r.places.items r.rows.items t.rest.rows.items t.step (shape_of r w) q.row_low q.row_in f

pub whole_left : (m : ℕ) (r : Rest) (ts cs : List Bool) → r.active.items ≡ ts → r.places.items ≡ cs → Shape m ts cs r.rows.items → IsWhole r
whole_left m r ts cs e f s = record {
  down = ap length e ∙ s.down ∙ sym s.tall;
  across = ap length f ∙ s.across ∙ sym s.tall;
  same = λ h l k. s.same h (subst (λ n. h < n) s.tall l) (sym (ap (λ z. flag z h) e) ∙ k) ∙ sym s.tall;
}

-- ---- the start
abbrev IsStart : ℕ → Rest → Type 0
IsStart m r = (m ≡ length r.rows.items) × (r.active.items ≡ replicate m true) × (r.places.items ≡ replicate m true)

pub started : (m : ℕ) (r : Rest) (ss : List Kept) → IsStart m r → ss ≡ [] → elimination_script r.rows.items ≡ before ss (left_script (m - 0) r)
unfolding elimination_script
started m r ss (e, f, g) h =
    let k : m - 0 ≡ length r.rows.items = omega arith in
    let rows = r.rows.items in
    sym
    (ap (λ z. before z (left_script (m - 0) r)) h ∙ before_nil (left_script (m - 0) r)
    ∙ ap (λ z. elimination_from z r.active.items r.places.items rows) k
    ∙ ap (λ z. elimination_from (length rows) z r.places.items rows) (f ∙ ap (λ n. replicate n true) e)
    ∙ ap (λ z. elimination_from (length rows) (replicate (length rows) true) z rows) (g ∙ ap (λ n. replicate n true) e))

pub starts_whole : (m : ℕ) (r : Rest) → IsStart m r → IsSquare r.rows.items → IsWhole r
starts_whole m r (e, f, g) s = record {
  down = ap length f ∙ length-replicate m true ∙ e;
  across = ap length g ∙ length-replicate m true ∙ e;
  same = λ h l k. s h l;
}

-- ---- one step more, and none: `start` is the whole script, of which the part behind the steps `ss` is left
abbrev pub IsLeft : Result (List Kept) LuFault → List Kept → ℕ → Rest → Type 0
IsLeft start ss n r = start ≡ before ss (left_script n r)

pub goes_on : (start : Result (List Kept) LuFault) (m k : ℕ) (r : Rest) (t : Taken) (ss more : List Kept) → k < m → IsLeft start ss (m - k) r →
    FollowsStep r (Ok t) → more ≡ ss ++ (t.step ∷ []) → IsLeft start more (m - (k + 1)) t.rest
goes_on start m k r t ss more l e f g =
    let n : m - k ≡ suc (m - (k + 1)) = omega arith in
    e ∙ ap (λ z. before ss (left_script z r)) n ∙ ap (before ss) (f (m - (k + 1))) ∙ before_more ss t.step (left_script (m - (k + 1)) t.rest)
    ∙ ap (λ z. before z (left_script (m - (k + 1)) t.rest)) (sym g)

pub stops : (start : Result (List Kept) LuFault) (m k : ℕ) (r : Rest) (ss : List Kept) (d : Fault LuFault) → k < m → IsLeft start ss (m - k) r →
    FollowsStep r (Err d) → FollowsBy (λ ks. ks) start (Err d)
stops start m k r ss (Named e) l s f =
    let n : m - k ≡ suc (m - (k + 1)) = omega arith in
    s ∙ ap (λ z. before ss (left_script z r)) n ∙ ap (before ss) (f (m - (k + 1)))
stops start m k r ss OutOfMemory l s f = tt
