use Rattle.std.proofs.Common.{subst}
use Rattle.pami_phase.specs.Runs.{IsAnswerOf}
use Rattle.pami_cli.proofs.Statuses.{optimal_status, infeasible_status, dual_infeasible_status, limit_status, overflow_status}
use Rattle.pami_cli.proofs.answer.status_of.Goals as goal

pub returns-in-Optimal : goal.returns-in-Optimal
returns-in-Optimal c = λ f a l. optimal_status f c.in-Optimal.state c.in-Optimal.factor a (subst (λ x. IsAnswerOf f x a) c.in-Optimal.is l)

pub returns-in-Infeasible : goal.returns-in-Infeasible
returns-in-Infeasible c = λ f a l. infeasible_status f c.in-Infeasible.y a (subst (λ x. IsAnswerOf f x a) c.in-Infeasible.is l)

pub returns-in-DualInfeasible : goal.returns-in-DualInfeasible
returns-in-DualInfeasible c = λ f a l. dual_infeasible_status f c.in-DualInfeasible.state c.in-DualInfeasible.form a (subst (λ x. IsAnswerOf f x a) c.in-DualInfeasible.is l)

pub returns-in-Limit : goal.returns-in-Limit
returns-in-Limit c = λ f a l. limit_status f c.in-Limit.state a (subst (λ x. IsAnswerOf f x a) c.in-Limit.is l)

pub returns-in-Overflow : goal.returns-in-Overflow
returns-in-Overflow c = λ f a l. overflow_status f c.in-Overflow.field-0 a (subst (λ x. IsAnswerOf f x a) c.in-Overflow.is l)
