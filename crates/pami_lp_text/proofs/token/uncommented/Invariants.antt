use Rattle.std.proofs.Common.{◌≡◌, ◌<◌, ℕ, false, get_or}
use Rattle.pami_lp_text.specs.Lexeme.{is_backslash}
use Rattle.pami_lp_text.proofs.token.uncommented.Given as goal

abbrev pub invariant-loop-i : goal.invariant-loop-i
invariant-loop-i l = (k : ℕ) → k < l.i → is_backslash (get_or l.line k 0) ≡ false
