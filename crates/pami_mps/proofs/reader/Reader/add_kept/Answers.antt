use Rattle.std.proofs.Common.{true, sym, ◌∙◌, ℕ}
use Rattle.pami_mps.specs.Reader.{seen_by_reader}
use Rattle.pami_mps.proofs.Keys.{list_any-names}
use Rattle.pami_mps.proofs.RowLines.{kept_judged, kept_refused, kept_taken}
use Rattle.pami_mps.proofs.reader.Reader.add_kept.Goals as goal

pub returns-then-contains-clause-judged : goal.returns-then-contains-clause-judged
returns-then-contains-clause-judged c =
    kept_judged (seen_by_reader c.args.self.now) c.args.name.now c.if-name-gt-NAME_LIMIT.false true
    (list_any-names c.args.name.now c.args.self.now.free.keys ∙ sym c.contains.ensures ∙ c.if-contains.true)

pub returns-in-Err-clause-judged : goal.returns-in-Err-clause-judged
returns-in-Err-clause-judged c =
    kept_refused (seen_by_reader c.args.self.now) c.args.name.now c.if-name-gt-NAME_LIMIT.false ℕ c.in-Err.fault c.file_fault.result
    (list_any-names c.args.name.now c.args.self.now.free.keys ∙ sym c.contains.ensures ∙ c.if-contains.false) c.file_fault.ensures c.in-Err.ensures.judged

pub returns-clause-judged : goal.returns-clause-judged
returns-clause-judged c =
    kept_taken (seen_by_reader c.args.self.now) c.args.name.now c.if-name-gt-NAME_LIMIT.false
    (list_any-names c.args.name.now c.args.self.now.free.keys ∙ sym c.contains.ensures ∙ c.if-contains.false) c.in_default.ensures.judged
