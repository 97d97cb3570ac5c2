use Rattle.std.proofs.Common.{[], false, Err, sym, subst, ◌∙◌}
use Rattle.pami_frac.specs.declared.fault.Fault.{Fault}
use Rattle.pami_model.specs.declared.fault.FileFault.{FileFault}
use Rattle.pami_lp_text.specs.declared.token.Token.{Token}
use Rattle.pami_lp_text.specs.Classes.{symbols}
use Rattle.pami_lp_text.specs.Told.{all_told}
use Rattle.pami_lp.specs.Run.{start, seen_by_reader}
use Rattle.pami_frac.specs.Answers.{FollowsBy}
use Rattle.pami_lp.specs.Outcome.{ended, reads}
use Rattle.pami_lp.proofs.Texts.{stopped, finished, goes, unended}
use Rattle.pami_lp.proofs.read.read_tokens.Goals as goal

abbrev none : Token
none = record { text = record { ref_ptr = (0, 0); now = [] }; line = 0; first = false }

pub returns-in-Err : goal.returns-in-Err
returns-in-Err c =
    subst (λ (x : Fault FileFault). FollowsBy ended (reads start c.args.lines (symbols (all_told c.args.tokens.now))) (Err x)) (sym c.at_line.ensures)
    (stopped c.args.tokens.now c.args.lines c.loop-i.i (seen_by_reader c.loop-i.reader) none c.loop-i.class c.class_at-after.result c.loop-i.invariant.seen c.loop-i-test.true c.loop-i.invariant.class c.class_at-after.ensures (Unit {0}) (λ _. seen_by_reader c.take.new.self) c.in-Err.fault c.in-Err.ensures)

pub returns-then-is_end : goal.returns-then-is_end
returns-then-is_end c =
    finished c.args.tokens.now c.args.lines c.loop-i.i (seen_by_reader c.loop-i.reader) none c.loop-i.class c.class_at-after.result c.loop-i.invariant.seen c.loop-i-test.true c.loop-i.invariant.class c.class_at-after.ensures
    (seen_by_reader c.take.new.self) c.in_default.ensures (sym c.is_end.ensures ∙ c.if-is_end.true)

pub loop-i-preserved : goal.loop-i-preserved
loop-i-preserved c = record {
  seen =
      goes c.args.tokens.now c.args.lines c.loop-i.i (seen_by_reader c.loop-i.reader) none c.loop-i.class c.class_at-after.result c.loop-i.invariant.seen c.loop-i-test.true c.loop-i.invariant.class c.class_at-after.ensures
      (seen_by_reader c.take.new.self) c.in_default.ensures (sym c.is_end.ensures ∙ c.if-is_end.false);
  class = c.class_at-after.ensures;
}

pub returns : goal.returns
returns c = unended c.args.tokens.now c.args.lines c.loop-i.i (seen_by_reader c.loop-i.reader) c.loop-i.invariant.seen c.loop-i-test.false
