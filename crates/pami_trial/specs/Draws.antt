-- The numbers that a seed draws: a sequence of states modulo 65536, each of which gives its upper twelve bits.
use Rattle.std.specs.Prelude.{ℕ, zero, suc, ◌+◌, ◌*◌, ◌/◌, ◌%◌}

-- the state of a seed before its first draw
abbrev pub first_state : ℕ → ℕ
first_state seed = seed % 65536

abbrev pub next_state : ℕ → ℕ
next_state state = (25173 * state + 13849) % 65536

-- the state behind so many draws
abbrev pub state_after : (state draws : ℕ) → ℕ
state_after state zero = state
state_after state (suc draws) = next_state (state_after state draws)

-- what a state gives below a count
abbrev pub given_below : (count state : ℕ) → ℕ
given_below count state = (state / 16) % count

-- the draw of this number, from 0, below a count: what its state gives
abbrev pub draw : (state number count : ℕ) → ℕ
draw state number count = given_below count (state_after state (suc number))
