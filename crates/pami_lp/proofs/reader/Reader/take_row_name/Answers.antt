use Rattle.pami_lp.proofs.Knowing.{known_more}
use Rattle.pami_lp.proofs.reader.Reader.take_row_name.Goals as goal

pub invariant_of-self-2 : goal.invariant_of-self-2
invariant_of-self-2 c = record {
  known = known_more c.args.self.now.builder c.stand_column.new.builder c.args.self.now.sums c.add.new.self c.in_ok-column.column c.args.self.now.column c.stand_column.ensures.grown c.add.ensures.below c.in_ok-column.ensures.known c.args.self.now.known;
}
