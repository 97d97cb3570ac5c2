use Rattle.std.proofs.Common.{List, ℕ, ◌++◌, Some, ap, sym, ◌∙◌, arith}
use Rattle.std.proofs.lemmas.List.{length-map}
use Rattle.pami_frac.specs.declared.list.Bounds.{Bounds}
use Rattle.pami_model.specs.declared.fault.Crossed.TheVariants as crosseds
use Rattle.pami_model.specs.Draft.{new_row}
use Rattle.pami_model.specs.Build.{named, rows_of}
use Rattle.pami_model.proofs.Finish.{crossed_row-here, distinct_names, shorter}
use Rattle.pami_model.proofs.builder.finish_rows.Goals as goal

pub overflow_cast-result : goal.overflow_cast-result
overflow_cast-result c =
    let most = shorter c.loop-name.rows.items (rows_of c.loop-name.name-iterator) (rows_of c.args.table.entries) c.loop-name.invariant.0 in
    omega (arith, most, length-map (named c.args.table.entries) (λ p. new_row p.0 p.1), length-map {B = List ℕ × Bounds} c.args.table.entries (λ e. (e.0.items, e.1)), c.requires, c.len.ensures, c.loop-name.rows.ok.0)

pub returns-then-are_crossed-clause-judged : goal.returns-then-are_crossed-clause-judged
returns-then-are_crossed-clause-judged c =
    let is = ap (λ es. c.loop-name.rows.items ++ rows_of es) (sym c.in-Some.ensures.steps) ∙ c.loop-name.invariant.0 in
    crossed_row-here c.loop-name.rows.items (new_row c.in-Some.name.items c.in-Some.bounds) (rows_of c.next.new.self) (rows_of c.args.table.entries) is c.loop-name.invariant.1 (sym c.are_crossed.ensures ∙ c.if-are_crossed.true)
    ∙ ap (λ n. Some (crosseds.Row n)) (sym c.loop-name.rows.ok.0 ∙ sym c.len.ensures)

pub returns-then-are_crossed-clause-distinct : goal.returns-then-are_crossed-clause-distinct
returns-then-are_crossed-clause-distinct c = distinct_names c.args.table.entries c.into_iter-name-iterator.ensures.into_iter_gives.4

pub returns-in_err-push-clause-distinct : goal.returns-in_err-push-clause-distinct
returns-in_err-push-clause-distinct c = distinct_names c.args.table.entries c.into_iter-name-iterator.ensures.into_iter_gives.4

pub returns-clause-distinct : goal.returns-clause-distinct
returns-clause-distinct c = distinct_names c.args.table.entries c.into_iter-name-iterator.ensures.into_iter_gives.4
