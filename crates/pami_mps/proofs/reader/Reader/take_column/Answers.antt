use Rattle.std.proofs.Common.{Err, map, sym, ap, subst, ◌∙◌, arith}
use Rattle.std.proofs.lemmas.Result.{err_from_is_err_and}
use Rattle.pami_frac.specs.Answers.{Follows}
use Rattle.pami_mps.specs.Judge.{judge_column}
use Rattle.pami_mps.specs.Reader.{seen_by_reader}
use Rattle.pami_mps.proofs.Counts.{five}
use Rattle.pami_mps.proofs.ColumnLines.{other_count, pair_first, pair_second, pair_second_after}
use Rattle.pami_mps.proofs.reader.Reader.take_column.Goals as goal

pub returns-in_err-take_one-in-len5-clause-judged : goal.returns-in_err-take_one-in-len5-clause-judged
returns-in_err-take_one-in-len5-clause-judged c =
    let e = five c.args.words.now _ c.in-len5.len_at_least c.in-len5.len_below in
    let p = err_from_is_err_and c.from_residual.result c.from_residual.ensures.1 in
    subst (Follows (judge_column (seen_by_reader c.args.self.now) (map (λ w. w.now) c.args.words.now))) (sym (p.1 ∙ ap Err p.2))
    (pair_first (seen_by_reader c.args.self.now) _ _ _ _ _ _ c.in_err-take_one-in-len5.field-0.0 e c.in_err-take_one-in-len5.ensures.judged)

pub returns-in_ok-take_one-in-len5-clause-judged : goal.returns-in_ok-take_one-in-len5-clause-judged
returns-in_ok-take_one-in-len5-clause-judged c =
    let e = five c.args.words.now _ c.in-len5.len_at_least c.in-len5.len_below in
    pair_second (seen_by_reader c.args.self.now) _ _ _ _ _ _ c.take_pair.result _ e c.in_ok-take_one-in-len5.ensures.judged c.in_ok-take_one-in-len5.ensures.grown c.take_pair.ensures.judged

pub returns-in_ok-take_one-in-len5-clause-grown : goal.returns-in_ok-take_one-in-len5-clause-grown
returns-in_ok-take_one-in-len5-clause-grown c =
    let e = five c.args.words.now _ c.in-len5.len_at_least c.in-len5.len_below in
    pair_second_after (seen_by_reader c.args.self.now) _ _ _ _ _ _ c.take_pair.result _ _ e c.in_ok-take_one-in-len5.ensures.grown c.take_pair.ensures.grown

pub returns-in_default-clause-judged : goal.returns-in_default-clause-judged
returns-in_default-clause-judged c = other_count (seen_by_reader c.args.self.now) c.args.words.now (omega arith) (omega arith)

pub returns-in_default-2-clause-judged : goal.returns-in_default-2-clause-judged
returns-in_default-2-clause-judged c = other_count (seen_by_reader c.args.self.now) c.args.words.now (omega arith) (omega arith)

pub returns-in_default-3-clause-judged : goal.returns-in_default-3-clause-judged
returns-in_default-3-clause-judged c = other_count (seen_by_reader c.args.self.now) c.args.words.now (omega arith) (omega arith)
