-- What is told of a row that leaves.
use Rattle.std.proofs.Common.{◌≡◌, ℕ, suc, ◌+◌, List, [], ◌∷◌, ◌++◌, map, get_or, Result, Ok, Err, sym, ap, ◌∙◌, arith}
use Rattle.std.specs.Result.{IfOk}
use Rattle.std.proofs.lemmas.List.{append_assoc}
use Rattle.pami_algebra.specs.Fraction.{Fraction}
use Rattle.pami_frac.specs.declared.fault.OutOfMemory.{OutOfMemory}
use Rattle.pami_theory.specs.Form.{Form}
use Rattle.pami_theory.specs.declared.words.Stand.{Stand}
use Rattle.pami_theory.specs.declared.words.Stand.TheVariants.{Zero}
use Rattle.pami_theory.specs.declared.words.Side.{Side}
use Rattle.pami_theory.specs.Step as theory
use Rattle.pami_theory.specs.Step.{flipped}
use Rattle.pami_theory.specs.Choice.{InfeasibleRow}
use Rattle.pami_method.specs.Batch.{Reached}
use Rattle.pami_log.specs.declared.event.Move.{Move}
use Rattle.pami_log.specs.declared.event.Move.TheVariants as moves
use Rattle.pami_vec.specs.declared.step.Step.{Step}
use Rattle.pami_minor.specs.Steps.{IsStepOf}
use Rattle.pami_minor.proofs.Stepping.{IsGiven}
use Rattle.pami_batch.specs.Turns.{step_moves, stuck_moves}

pub copied_is : (answer : Result (List Fraction) OutOfMemory) (xs ys : List Fraction) → IfOk answer (λ v. v ≡ xs) → xs ≡ ys → IfOk answer (λ v. v ≡ ys)
copied_is (Ok v) xs ys h e = h ∙ e
copied_is (Err d) xs ys h e = tt

pub stuck_told : (r : Reached) (row : InfeasibleRow) (head : List ℕ) (place : ℕ) (side : Side) (old new : List Move) → head ≡ r.basis.head → row.place ≡ place
    → row.violation.side ≡ side → new ≡ old ++ moves.Stuck place (get_or head place 0) side ∷ [] → new ≡ old ++ stuck_moves r row
stuck_told r row head place side old new h p s e =
    e ∙ ap (λ vs. old ++ moves.Stuck place (get_or vs place 0) side ∷ []) h
    ∙ ap (λ q. old ++ moves.Stuck q (get_or r.basis.head q 0) side ∷ []) (sym p)
    ∙ ap (λ z. old ++ moves.Stuck row.place (get_or r.basis.head row.place 0) z ∷ []) (sym s)

-- the pivot of a step, as the program has it
pivot_told : (f : Form) (r : Reached) (t : theory.Step) (step : Step) (count : ℕ) (side : Side) → IsStepOf f r.basis r.fresh t step → count ≡ r.count → side ≡ t.side
    → moves.Pivoted (count + 1) step.place step.leaving side step.entering step.tau ≡ moves.Pivoted (suc r.count) t.place t.leaving t.side t.entering t.tau
pivot_told f r t step count side is c s =
    let n : count + 1 ≡ suc r.count = omega (arith, c) in
    ap (λ k. moves.Pivoted k step.place step.leaving side step.entering step.tau) n
    ∙ ap (λ p. moves.Pivoted (suc r.count) p step.leaving side step.entering step.tau) is.place
    ∙ ap (λ v. moves.Pivoted (suc r.count) t.place v side step.entering step.tau) is.leaving
    ∙ ap (λ z. moves.Pivoted (suc r.count) t.place t.leaving z step.entering step.tau) s
    ∙ ap (λ v. moves.Pivoted (suc r.count) t.place t.leaving t.side v step.tau) is.entering
    ∙ ap (λ x. moves.Pivoted (suc r.count) t.place t.leaving t.side t.entering x) is.tau

pub step_told : (f : Form) (r : Reached) (row : InfeasibleRow) (stands : List Stand) (count : ℕ) (flips : List ℕ) (step : Step) (side : Side) (old new : List Move)
    → (g : IsGiven f r row flips step) → stands ≡ r.basis.stands → count ≡ r.count → row.violation.side ≡ side
    → new ≡ (old ++ map (λ v. moves.Flipped v (flipped (get_or stands v Zero))) flips) ++ moves.Pivoted (count + 1) step.place step.leaving side step.entering step.tau ∷ []
    → new ≡ old ++ step_moves r g.taken
step_told f r row stands count flips step side old new g h c s e =
    let t = g.taken in
    let pivot = pivot_told f r t step count side g.step_of c (sym s ∙ sym (ap (λ (x : theory.Step). x.side) g.by)) in
    let same : flips ≡ t.flips = g.flips_are ∙ sym (ap (λ (x : theory.Step). x.flips) g.by) in
    e ∙ ap (λ ss. (old ++ map (λ v. moves.Flipped v (flipped (get_or ss v Zero))) flips) ++ moves.Pivoted (count + 1) step.place step.leaving side step.entering step.tau ∷ []) h
    ∙ ap (λ vs. (old ++ map (λ v. moves.Flipped v (flipped (get_or r.basis.stands v Zero))) vs) ++ moves.Pivoted (count + 1) step.place step.leaving side step.entering step.tau ∷ []) same
    ∙ ap (λ (x : Move). (old ++ map (λ v. moves.Flipped v (flipped (get_or r.basis.stands v Zero))) t.flips) ++ x ∷ []) pivot
    ∙ append_assoc old (map (λ v. moves.Flipped v (flipped (get_or r.basis.stands v Zero))) t.flips)
    (moves.Pivoted (suc r.count) t.place t.leaving t.side t.entering t.tau ∷ [])
