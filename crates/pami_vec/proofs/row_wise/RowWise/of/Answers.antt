use Rattle.std.proofs.Common.{◌≡◌, ◌<◌, length, List, ℕ, sym, ap, ◌∙◌, subst, arith}
use Rattle.std.specs.Prelude.{All}
use Rattle.std.specs.List.{range_with_len}
use Rattle.pami_algebra.specs.Fraction.{Fraction}
use Rattle.pami_factoring.specs.Factor.{columns_at, rows_from}
use Rattle.pami_vec.specs.Turned.{AreLong, turned}
use Rattle.pami_vec.proofs.Turned.{all_known, all_ascending, rows_long, turned_back, length_range}
use Rattle.pami_vec.proofs.row_wise.RowWise.of.Goals as goal

pub rows_of_columns-requires-clause-few : goal.rows_of_columns-requires-clause-few
rows_of_columns-requires-clause-few c =
    let few = c.requires.few in
    let many = length_range (length c.args.columns.now) c.deref.result.now (c.deref.ensures.value ∙ c.in_ok-head.ensures) in
    omega arith

pub rows_of_columns-requires-clause-known : goal.rows_of_columns-requires-clause-known
rows_of_columns-requires-clause-known c =
    subst (λ (head : List ℕ). All (λ j. j < length c.args.columns.now) head) (sym (c.deref.ensures.value ∙ c.in_ok-head.ensures)) (all_known (length c.args.columns.now))

pub invariant_of-result : goal.invariant_of-result
invariant_of-result c =
    subst (λ (rows : List (List Fraction)). AreLong (length c.args.columns.now) rows)
    (sym (c.in_ok-rows.ensures ∙ ap (λ (head : List ℕ). rows_from c.height_of.result 0 (columns_at c.args.columns.now head)) (c.deref.ensures.value ∙ c.in_ok-head.ensures) ∙ ap (rows_from c.height_of.result 0) (all_ascending c.args.columns.now)))
    (rows_long c.height_of.result c.args.columns.now)

pub returns : goal.returns
returns c =
    ap (turned (length c.args.columns.now))
    (c.in_ok-rows.ensures ∙ ap (λ (head : List ℕ). rows_from c.height_of.result 0 (columns_at c.args.columns.now head)) (c.deref.ensures.value ∙ c.in_ok-head.ensures) ∙ ap (rows_from c.height_of.result 0) (all_ascending c.args.columns.now))
    ∙ turned_back c.height_of.result c.args.columns.now (λ v l. c.requires.even v l ∙ sym c.height_of.ensures)

pub rows_of_columns-requires-clause-heights : goal.rows_of_columns-requires-clause-heights
rows_of_columns-requires-clause-heights c = λ v l. c.requires.even v l ∙ sym c.height_of.ensures
