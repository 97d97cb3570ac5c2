use Rattle.std.proofs.Common.{◌≡◌, []}
use Rattle.pami_cli.proofs.check_tests.ran.Given as goal

abbrev pub invariant-loop-name : goal.invariant-loop-name
invariant-loop-name l = l.shelf.asked ≡ []
