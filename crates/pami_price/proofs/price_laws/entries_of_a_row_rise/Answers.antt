use Rattle.std.proofs.Common.{◌≡◌, ◌+◌, subst, arith}
use Rattle.pami_script.specs.Dense.{Rising}
use Rattle.pami_theory.specs.Form.{variables}
use Rattle.pami_price.specs.Agreement.{nonzero_entries, all_nonbasic}
use Rattle.pami_price.proofs.Priced.{nonbasic}
use Rattle.pami_price.proofs.Rows.{kept_rise, entries_nonzero, kept_value}
use Rattle.pami_price.proofs.price_laws.entries_of_a_row_rise.Goals as goal

pub returns-clause-rising : goal.returns-clause-rising
returns-clause-rising c = λ f b row. let e : 0 + variables f ≡ variables f = omega arith in subst (λ n. Rising 0 n (nonzero_entries row (all_nonbasic f b))) e (kept_rise (nonbasic b) row 0 (variables f))

pub returns-clause-nonzero : goal.returns-clause-nonzero
returns-clause-nonzero c = λ f b row. entries_nonzero row (all_nonbasic f b)

pub returns-clause-value : goal.returns-clause-value
returns-clause-value c = λ f b row v h. kept_value (nonbasic b) row 0 (variables f) v (omega arith) (omega arith)
