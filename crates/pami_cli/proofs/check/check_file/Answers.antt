use Rattle.std.proofs.Common.{◌≡◌, ℕ, List, refl, subst}
use Rattle.pami_edge.specs.Calls.{shelf_call, sink_call}
use Rattle.pami_cli.specs.Reading.{format_by}
use Rattle.pami_cli.specs.Run.{EndsBy, IsCheckDue, Refuses}
use Rattle.pami_cli.proofs.Runs.{ends_nowhere}
use Rattle.pami_cli.proofs.CheckRuns.{same_shelf, ends_check, ends_long_file, asked_front, asked_one, asked_file}
use Rattle.pami_cli.proofs.check.check_file.Goals as goal

pub returns-in-Ok-clause-ends : goal.returns-in-Ok-clause-ends
returns-in-Ok-clause-ends g c = λ words asks.
    let sink = sink_call g.K.Sink c.args.out.now c.check_bytes.new.out in
    let shelf = shelf_call g.S.Shelf c.read_whole.new.shelf c.check_bytes.new.shelf in
    ends_check _ c.check_bytes.result c.args.file c.args.cert c.args.lp asks c.in-Ok.bytes.items shelf
    (same_shelf _ _ _ _ _ _ c.in-Ok.ensures.files (c.in-Ok.ensures.steady (λ e. absurd cc))) c.in-Ok.ensures.whole
    (subst (λ (bytes : List ℕ). EndsBy (IsCheckDue (format_by c.args.lp) bytes c.args.cert shelf) sink c.check_bytes.result) c.as_slice.ensures.value c.check_bytes.ensures.ends)

pub returns-in-Ok-clause-asked : goal.returns-in-Ok-clause-asked
returns-in-Ok-clause-asked g c = asked_front _ _ _ c.args.file c.args.cert c.requires.unasked c.read_whole.ensures.asked c.check_bytes.ensures.asked

pub returns-in-Err-Failed-clause-asked : goal.returns-in-Err-Failed-clause-asked
returns-in-Err-Failed-clause-asked g c = asked_one _ _ c.args.file c.args.cert c.requires.unasked c.read_whole.ensures.asked

pub returns-in-Err-TooLong-clause-asked : goal.returns-in-Err-TooLong-clause-asked
returns-in-Err-TooLong-clause-asked g c = asked_one _ _ c.args.file c.args.cert c.requires.unasked c.read_whole.ensures.asked

pub returns-clause-asked : goal.returns-clause-asked
returns-clause-asked g c = asked_one _ _ c.args.file c.args.cert c.requires.unasked c.read_whole.ensures.asked

pub returns-in-Err-TooLong-clause-ends : goal.returns-in-Err-TooLong-clause-ends
returns-in-Err-TooLong-clause-ends g c = λ words asks.
    let long = rw c.in-Err-TooLong.field-0-is at c.in-Err-TooLong.ensures in
    ends_long_file _ _ c.args.file c.args.cert c.args.lp asks c.long_answer.result (long.longer refl) c.long_answer.ensures.status c.long_answer.ensures.text
    c.finish_answer.ensures.written c.finish_answer.ensures.nothing

pub returns-in-Ok-clause-file_first : goal.returns-in-Ok-clause-file_first
returns-in-Ok-clause-file_first g c = λ files bytes written told stands refuses.
    let format = format_by c.args.lp in
    let mid = g.S.Shelf.asked c.read_whole.new.shelf in
    let new = g.S.Shelf.asked c.check_bytes.new.shelf in
    asked_file (g.S.Shelf.files c.args.shelf.now) files c.args.file c.in-Ok.bytes.items bytes format written (g.S.Shelf.asked c.args.shelf.now) mid new told
    c.in-Ok.ensures.whole stands c.requires.unasked c.read_whole.ensures.asked
    (subst (λ (x : List ℕ). (w : List ℕ) → Refuses format x w → new ≡ mid) c.as_slice.ensures.value c.check_bytes.ensures.refused) refuses

pub returns-clause-ends : goal.returns-clause-ends
returns-clause-ends g c = λ words asks. ends_nowhere words _ (g.K.Sink.told c.args.out.now) _ _
