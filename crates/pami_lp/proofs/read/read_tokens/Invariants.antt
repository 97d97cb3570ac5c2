use Rattle.std.proofs.Common.{◌≡◌, drop}
use Rattle.pami_lp_text.specs.Classes.{symbols}
use Rattle.pami_lp_text.specs.Told.{all_told}
use Rattle.pami_lp.specs.Outcome.{first_class}
use Rattle.pami_lp.specs.Run.{seen_by_reader}
use Rattle.pami_lp.proofs.Texts.{At}
use Rattle.pami_lp.proofs.read.read_tokens.Given as goal

abbrev pub invariant-loop-i : goal.invariant-loop-i
invariant-loop-i l = record {
  seen : At l.tokens l.lines l.i (seen_by_reader l.reader);
  class : l.class ≡ first_class (drop l.i (symbols (all_told l.tokens)));
}
