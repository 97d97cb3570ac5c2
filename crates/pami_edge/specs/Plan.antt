-- How a shelf or a sink in memory serves its calls.
use Rattle.std.specs.Prelude.{ℕ, Bool, ◌==◌, List}
use Rattle.std.specs.List.{list_any}
use Rattle.pami_edge.specs.Outside.{counted}

-- the number of calls so far, the greatest length per call, and the numbers, from 1, of the calls that are to fail
pub record CallPlan : Type 0 where
  pub calls : ℕ
  pub most : ℕ
  pub failing : List ℕ

-- the plan with one more call counted
abbrev pub after_call : CallPlan → CallPlan
after_call plan = record plan { calls = counted plan.calls 1 }

-- the next call is one of those that are to fail
abbrev pub fails_next : CallPlan → Bool
fails_next plan = list_any (λ n. n == counted plan.calls 1) plan.failing
