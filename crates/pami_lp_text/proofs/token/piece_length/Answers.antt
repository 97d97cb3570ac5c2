use Rattle.std.proofs.Common.{◌≤◌, ℕ, length, sym, subst}
use Rattle.pami_lp_text.proofs.Pieces.{longest_within}
use Rattle.pami_lp_text.proofs.token.piece_length.Goals as goal

pub returns-clause-within : goal.returns-clause-within
returns-clause-within c = subst (λ (n : ℕ). n ≤ length c.args.bytes.now) (sym c.lexeme_length-found.ensures) (longest_within c.args.bytes.now)
