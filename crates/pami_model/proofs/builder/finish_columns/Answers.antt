use Rattle.std.proofs.Common.{List, ℕ, ◌++◌, ◌∷◌, [], subst, Some, ap, map, sym, ◌∙◌, arith}
use Rattle.std.specs.List.{All}
use Rattle.std.proofs.lemmas.List.Elements.{All-head, All-tail}
use Rattle.pami_model.specs.declared.list.Column.{Column}
use Rattle.std.proofs.lemmas.List.{length-map}
use Rattle.pami_model.specs.declared.builder.Building.{Building}
use Rattle.pami_model.specs.declared.fault.Crossed.TheVariants as crosseds
use Rattle.pami_model.specs.Draft.{crossed_column, finished}
use Rattle.pami_model.specs.Build.{IsApart, built_column, columns_of, named}
use Rattle.pami_model.proofs.Finish.{crossed_column-end, crossed_column-here, crossed_column-push, finished-more, distinct_names, shorter}
use Rattle.pami_model.proofs.builder.finish_columns.Goals as goal

pub overflow_cast-result : goal.overflow_cast-result
overflow_cast-result c =
    let most = shorter c.loop-name.columns.items (map finished (columns_of c.loop-name.name-iterator)) (map finished (columns_of c.args.table.entries)) c.loop-name.invariant.0 in
    omega (arith, most, length-map (columns_of c.args.table.entries) finished, length-map (named c.args.table.entries) built_column, length-map {B = List ℕ × Building} c.args.table.entries (λ e. (e.0.items, e.1)), c.requires.limited, c.len.ensures, c.loop-name.columns.ok.0)

pub returns-then-are_crossed-clause-judged : goal.returns-then-are_crossed-clause-judged
returns-then-are_crossed-clause-judged c =
    let is = ap (λ es. c.loop-name.columns.items ++ map finished (columns_of es)) (sym c.in-Some.ensures.steps) ∙ c.loop-name.invariant.0 in
    crossed_column-here c.loop-name.columns.items (built_column (c.in-Some.name.items, c.in-Some.column)) (map finished (columns_of c.next.new.self)) (columns_of c.args.table.entries) is c.loop-name.invariant.1 (sym c.are_crossed.ensures ∙ c.if-are_crossed.true)
    ∙ ap (λ n. Some (crosseds.Column n)) (sym c.loop-name.columns.ok.0 ∙ sym c.len.ensures)

pub returns-then-are_crossed-clause-distinct : goal.returns-then-are_crossed-clause-distinct
returns-then-are_crossed-clause-distinct c = distinct_names c.args.table.entries c.into_iter-name-iterator.ensures.into_iter_gives.4

pub returns-in_err-push-clause-distinct : goal.returns-in_err-push-clause-distinct
returns-in_err-push-clause-distinct c = distinct_names c.args.table.entries c.into_iter-name-iterator.ensures.into_iter_gives.4

pub returns-clause-distinct : goal.returns-clause-distinct
returns-clause-distinct c = distinct_names c.args.table.entries c.into_iter-name-iterator.ensures.into_iter_gives.4

pub loop-name-init : goal.loop-name-init
loop-name-init c =
    let e = sym c.into_iter-name-iterator.ensures.into_iter_gives.0 in
    (ap (λ xs. xs ++ map finished (columns_of c.into_iter-name-iterator.result)) c.new-columns.ensures.items ∙ ap (λ es. map finished (columns_of es)) (sym e), ap crossed_column c.new-columns.ensures.items, subst (λ es. All (λ (x : Column). IsApart x.entries) (columns_of es)) e c.requires.apart)

pub finish_column-requires : goal.finish_column-requires
finish_column-requires c =
    let rest = subst (λ es. All (λ (x : Column). IsApart x.entries) (columns_of es)) c.in-Some.ensures.steps c.loop-name.invariant.2 in
    All-head (λ (x : Column). IsApart x.entries) (built_column (c.in-Some.name.items, c.in-Some.column)) (columns_of c.next.new.self) rest

pub loop-name-preserved : goal.loop-name-preserved
loop-name-preserved c =
    let done = c.loop-name.columns.items in
    let b = built_column (c.in-Some.name.items, c.in-Some.column) in
    let is = ap (λ es. done ++ map finished (columns_of es)) (sym c.in-Some.ensures.steps) ∙ c.loop-name.invariant.0 in
    let pushed = c.in_ok-push.ensures.items ∙ ap (λ x. done ++ x ∷ []) c.finish_column.ensures in
    let rest = subst (λ es. All (λ (x : Column). IsApart x.entries) (columns_of es)) c.in-Some.ensures.steps c.loop-name.invariant.2 in (
      finished-more done b (map finished (columns_of c.next.new.self)) (columns_of c.args.table.entries) c.push.new.self.items pushed is,
      ap crossed_column pushed ∙ crossed_column-push done b c.loop-name.invariant.1 (sym c.are_crossed.ensures ∙ c.if-are_crossed.false),
      All-tail (λ (x : Column). IsApart x.entries) b (columns_of c.next.new.self) rest,
    )

pub returns-clause-judged : goal.returns-clause-judged
returns-clause-judged c =
    let is = ap (λ es. c.loop-name.columns.items ++ map finished (columns_of es)) (sym c.in-None.ensures.steps.0) ∙ c.loop-name.invariant.0 in
    crossed_column-end c.loop-name.columns.items (columns_of c.args.table.entries) is c.loop-name.invariant.1
