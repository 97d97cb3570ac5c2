use Rattle.std.proofs.Common.{◌<◌, ℕ, List, Option, length, sym, ap, ◌∙◌, subst}
use Rattle.std.specs.List.{All}
use Rattle.std.proofs.lemmas.Option.{none-some}
use Rattle.pami_theory.specs.Step.{step_at}
use Rattle.pami_vec.specs.declared.step.Step.{Step}
use Rattle.pami_minor.specs.Steps.{IsStepFor, noted}
use Rattle.pami_minor.specs.Turned.{IsTaken}
use Rattle.pami_minor.proofs.Stepping.{given, given_flips, given_places, stepped}
use Rattle.pami_minor.proofs.minor.Minor.commit_walk.Goals as goal

pub take_step-requires-clause-flips : goal.take_step-requires-clause-flips
take_step-requires-clause-flips c =
    let t = c.requires.turn in
    let for = subst (λ (o : Option Step). IsStepFor t.0 t.2.basis t.2.fresh (step_at t.0 t.2.basis t.2.fresh t.3.place t.3.violation) o) c.in-Some.is t.5.1 in
    subst (λ (vs : List ℕ). All (λ v. v < length c.args.self.now.stands.items) vs) (sym c.flips_of.ensures)
    (given_flips t.0 t.1 t.2 t.3 _ c.args.self.now _ c.in-Some.step t.4 (given t.0 t.2 t.3 c.args.walk c.in-Some.step (t.5.0, for, t.5.2, t.5.3)))

pub take_step-requires-clause-entering : goal.take_step-requires-clause-entering
take_step-requires-clause-entering c =
    let t = c.requires.turn in
    let for = subst (λ (o : Option Step). IsStepFor t.0 t.2.basis t.2.fresh (step_at t.0 t.2.basis t.2.fresh t.3.place t.3.violation) o) c.in-Some.is t.5.1 in
    (given_places t.0 t.1 t.2 t.3 _ c.args.self.now _ c.in-Some.step t.4 (given t.0 t.2 t.3 c.args.walk c.in-Some.step (t.5.0, for, t.5.2, t.5.3))).2

pub take_step-requires-clause-place : goal.take_step-requires-clause-place
take_step-requires-clause-place c =
    let t = c.requires.turn in
    let for = subst (λ (o : Option Step). IsStepFor t.0 t.2.basis t.2.fresh (step_at t.0 t.2.basis t.2.fresh t.3.place t.3.violation) o) c.in-Some.is t.5.1 in
    (given_places t.0 t.1 t.2 t.3 _ c.args.self.now _ c.in-Some.step t.4 (given t.0 t.2 t.3 c.args.walk c.in-Some.step (t.5.0, for, t.5.2, t.5.3))).0

pub returns : goal.returns
returns c = record {
  stepping = λ f limit m next h w v.
      let for = subst (λ (o : Option Step). IsStepFor f m.reached.basis m.reached.fresh
      (step_at f m.reached.basis m.reached.fresh m.row.place m.row.violation) o) c.in-Some.is w.1 in
      let g = given f m.reached m.row c.args.walk c.in-Some.step (w.0, for, w.2, w.3) in
      stepped f limit m next 0 c.args.self.now c.take_step.new.minor _ c.picked_side-side.result c.in-Some.step h.picked.0 h g v h.picked.1
      (c.picked_side-side.ensures h.picked.0 h.picked.1)
      (subst (λ (vs : List ℕ). IsTaken vs c.picked_side-side.result c.in-Some.step c.args.self.now c.take_step.new.minor) c.flips_of.ensures c.take_step.ensures);
  steps = c.take_step.ensures.steps ∙ ap (λ o. noted o c.args.self.now.steps.items) (sym c.in-Some.is);
  dropped = c.take_step.ensures.dropped;
  idle = λ e. absurd (none-some c.in-Some.step (sym e ∙ c.in-Some.is));
}
