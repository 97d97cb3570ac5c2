use Rattle.std.proofs.Common.{ap, ◌∙◌, sym}
use Rattle.pami_algebra.specs.Operations.{of_int, is_zero}
use Rattle.pami_algebra.proofs.Field.{one_not_zero}
use Rattle.pami_algebra.proofs.Tests.{not_zero_iff}
use lib.IntN.{pos}
use Rattle.pami_devex.proofs.tests.column.Goals as goal

pub returns-clause-pivot : goal.returns-clause-pivot
returns-clause-pivot c = ap is_zero c.one.ensures ∙ (not_zero_iff (of_int (pos 1))).1 (λ e. one_not_zero (sym e))
