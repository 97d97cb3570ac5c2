use lib.IntN.{pos}
use Rattle.pami_algebra.specs.Operations.{of_int}
use Rattle.pami_script.proofs.Members.{length_members, member_is}
use Rattle.pami_script.proofs.list_laws.members_have_their_results.Goals as goal

pub returns : goal.returns
returns c = record {
  length = length_members;
  member = λ step k xs ys i e h. member_is step k xs ys i (of_int (pos 0)) (of_int (pos 0)) e h;
}
