-- Draws go on where others ended, and stay below their counts.
use Rattle.std.proofs.Common.{◌≡◌, ℕ, zero, suc, ◌+◌, ◌*◌, ◌≤◌, map, sum, sum_by, ap, ◌∙◌, arith}
use Rattle.std.specs.List.{range_with_len}
use Rattle.std.proofs.lemmas.List.Sums.{sum-map, sum_by-cons}
use Rattle.pami_trial.specs.Draws.{next_state, state_after, given_below, draw}
use Rattle.pami_trial.specs.Transport.{below, demand}

-- ---- one draw more

module _ (s n t u : ℕ) (so_far : t ≡ state_after s n) (next : u ≡ next_state t) where
  pub stepped : u ≡ state_after s (n + 1)
  stepped = let one : suc n ≡ n + 1 = omega arith in next ∙ ap next_state so_far ∙ ap (state_after s) one

  pub drawn_next : (count r : ℕ) → r ≡ given_below count u → r ≡ draw s n count
  drawn_next count r e = e ∙ ap (given_below count) (next ∙ ap next_state so_far)

-- ---- draws behind others

state_more : (s m n : ℕ) → state_after (state_after s m) n ≡ state_after s (m + n)
state_more s m zero = let e : m ≡ m + zero = omega arith in ap (state_after s) e
state_more s m (suc n) = let e : suc (m + n) ≡ m + suc n = omega arith in ap next_state (state_more s m n) ∙ ap (state_after s) e

pub draw_more : (s m n count : ℕ) → draw (state_after s m) n count ≡ draw s (m + n) count
draw_more s m n count = ap (λ t. given_below count (next_state t)) (state_more s m n)

-- ---- sums

most_from : (f : ℕ → ℕ) (a n : ℕ) → ((k : ℕ) → f k ≤ 50) → sum_by f (range_with_len a n) ≤ 50 * n
most_from f a zero h = omega arith
most_from f a (suc n) h = omega (arith, sum_by-cons f a (range_with_len (a + 1) n), h a, most_from f (a + 1) n h)

demand_most : (s k : ℕ) → demand s k ≤ 50
demand_most s k = omega arith

-- the demands of so many sinks are at most 50 each
pub demands_most : (s n : ℕ) → sum (map (demand s) (below n)) ≤ 50 * n
demands_most s n = omega (arith, sum-map (demand s) (below n), most_from (demand s) 0 n (demand_most s))
