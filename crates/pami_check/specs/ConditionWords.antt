-- The word of each condition, as a verdict tells it.
use Rattle.std.specs.Prelude.{ℕ, List, codes}
use Rattle.pami_check.specs.declared.verdict.Condition.{Condition}
use Rattle.pami_check.specs.declared.verdict.Condition.TheVariants as conditions

abbrev pub condition_word : Condition → List ℕ
condition_word conditions.Bound = codes "bound"
condition_word conditions.Row = codes "row"
condition_word conditions.Reduced = codes "reduced"
condition_word conditions.Sign = codes "sign"
condition_word conditions.Objective = codes "objective"
condition_word conditions.Finite = codes "finite"
condition_word conditions.Positive = codes "positive"
condition_word conditions.Cost = codes "cost"
