use Rattle.std.proofs.Common.{◌≡◌, ◌<◌, ◌≤◌, ℕ, List, subst, arith, length, take}
use Rattle.std.specs.List.{All}
use Rattle.std.proofs.lemmas.List.{take_all}
use Rattle.std.proofs.lemmas.List.Elements.{All-more}
use Rattle.pami_vec.specs.declared.step.Step.{Step}
use Rattle.pami_collect.proofs.tests.are_steps.Goals as goal

pub loop-step-preserved : goal.loop-step-preserved
loop-step-preserved c =
    let low = c.if-step-rows.false in
    let long = c.len.ensures in
    let same = c.if-len-rows.false in
    All-more (λ (s : Step). (s.place < c.args.rows) × (length s.flip_column ≡ c.args.rows)) c.args.steps.now c.loop-step.step-index c.step-item.result
    c.loop-step-test.true c.loop-step.invariant
    (subst (λ (s : Step). (s.place < c.args.rows) × (length s.flip_column ≡ c.args.rows)) c.step-item.is (omega (arith, low), omega (arith, long, same)))

all_tested : (rows k : ℕ) (ss : List Step) → length ss ≤ k → All (λ (s : Step). (s.place < rows) × (length s.flip_column ≡ rows)) (take k ss)
    → All (λ (s : Step). (s.place < rows) × (length s.flip_column ≡ rows)) ss
all_tested rows k ss l a = subst (All (λ (s : Step). (s.place < rows) × (length s.flip_column ≡ rows))) (take_all k ss l) a

pub returns-clause-places : goal.returns-clause-places
returns-clause-places c = λ e k d l. (all_tested c.args.rows c.loop-step.step-index c.args.steps.now c.loop-step-test.false c.loop-step.invariant k d l).0

pub returns-clause-flips : goal.returns-clause-flips
returns-clause-flips c = λ e k d l. (all_tested c.args.rows c.loop-step.step-index c.args.steps.now c.loop-step-test.false c.loop-step.invariant k d l).1
