use Rattle.std.proofs.Common.{◌≡◌, ◌++◌, None, map}
use Rattle.std.specs.List.{All}
use Rattle.pami_model.specs.declared.list.Column.{Column}
use Rattle.pami_model.specs.Draft.{crossed_column, finished}
use Rattle.pami_model.specs.Build.{IsApart, columns_of}
use Rattle.pami_model.proofs.builder.finish_columns.Given as goal

abbrev pub invariant-loop-name : goal.invariant-loop-name
invariant-loop-name l = (l.columns.items ++ map finished (columns_of l.name-iterator) ≡ map finished (columns_of l.fn.table.entries)) × (crossed_column l.columns.items ≡ None) × All (λ (c : Column). IsApart c.entries) (columns_of l.name-iterator)
