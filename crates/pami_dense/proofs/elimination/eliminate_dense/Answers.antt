use Rattle.std.proofs.Common.{◌^◌, ◌<◌, length, sym, ap, ◌∙◌, subst}
use Rattle.pami_frac.specs.Answers.{FollowsBy}
use Rattle.pami_factoring.specs.Factor.{elimination_script}
use Rattle.pami_factoring.specs.Steps.{IsSquare}
use Rattle.pami_factoring.proofs.Matrices.{matrix_count, matrix_square}
use Rattle.pami_lu.proofs.Answered.{regular_if_ok, not_regular_if_singular, count_if_ok}
use Rattle.pami_dense.proofs.elimination.eliminate_dense.Goals as goal

pub eliminate_rows-requires-clause-few : goal.eliminate_rows-requires-clause-few
eliminate_rows-requires-clause-few c =
    subst (λ n. n < 2 ^ 32) (sym (ap length c.in_ok-rows.ensures ∙ matrix_count c.args.columns.now c.args.head.now)) c.requires.few

pub eliminate_rows-requires-clause-square : goal.eliminate_rows-requires-clause-square
eliminate_rows-requires-clause-square c = subst IsSquare (sym c.in_ok-rows.ensures) (matrix_square c.args.columns.now c.args.head.now)

pub returns-clause-regular : goal.returns-clause-regular
returns-clause-regular c =
    let out = c.eliminate_rows.result in
    regular_if_ok c.args.columns.now c.args.head.now out
    (subst (λ z. FollowsBy (λ ks. ks) (elimination_script z) out) c.in_ok-rows.ensures c.eliminate_rows.ensures)

pub returns-clause-singular : goal.returns-clause-singular
returns-clause-singular c =
    let out = c.eliminate_rows.result in
    not_regular_if_singular c.args.columns.now c.args.head.now out
    (subst (λ z. FollowsBy (λ ks. ks) (elimination_script z) out) c.in_ok-rows.ensures c.eliminate_rows.ensures)

pub returns-clause-count : goal.returns-clause-count
returns-clause-count c =
    let out = c.eliminate_rows.result in
    count_if_ok c.args.columns.now c.args.head.now out
    (subst (λ z. FollowsBy (λ ks. ks) (elimination_script z) out) c.in_ok-rows.ensures c.eliminate_rows.ensures)
