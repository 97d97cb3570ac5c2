use Rattle.std.proofs.Common.{◌≡◌, ◌+◌, List, [], ◌∷◌, codes, decimal, map, sym, ap, ◌∙◌, subst}
use Rattle.pami_text.specs.Record.{refused_words, mode_word}
use Rattle.pami_log.specs.declared.event.Event.{Event}
use Rattle.pami_log.specs.declared.event.Move.{Move}
use Rattle.pami_log.specs.Events.{move_line, event_lines}
use Rattle.pami_cli.specs.Summary.{count_lines}
use Rattle.pami_cli.proofs.FirstWords.{two_counted}
use Rattle.pami_cli.proofs.summary.count_lines_of.Goals as goal

pub returns-in-Header-clause-count : goal.returns-in-Header-clause-count
returns-in-Header-clause-count c = λ names counts.
    let w = c.args.word.now in
    subst (λ (e : Event). c.one_for.result + c.one_for-in-Header.result ≡ count_lines w (event_lines names counts e)) (sym c.in-Header.is)
    (two_counted w (codes "pami" ∷ codes "1" ∷ []) ((codes "model" ∷ decimal counts.rows ∷ decimal counts.columns ∷ decimal counts.entries ∷ []) ∷ []) c.one_for.result c.one_for-in-Header.result
    (c.one_for.ensures.count (codes "1" ∷ [])) (c.one_for-in-Header.ensures.count (decimal counts.rows ∷ decimal counts.columns ∷ decimal counts.entries ∷ [])))

pub returns-in-Phase-clause-count : goal.returns-in-Phase-clause-count
returns-in-Phase-clause-count c = λ names counts.
    subst (λ (e : Event). c.one_for-in-Phase.result ≡ count_lines c.args.word.now (event_lines names counts e)) (sym c.in-Phase.is)
    (c.one_for-in-Phase.ensures.count (decimal c.in-Phase.field-0 ∷ []))

pub returns-in-Major-clause-count : goal.returns-in-Major-clause-count
returns-in-Major-clause-count c = λ names counts.
    let w = c.args.word.now in
    let behind = decimal c.in-Major.number ∷ mode_word c.in-Major.mode ∷ map decimal c.in-Major.chosen in
    subst (λ (e : Event). c.one_for-in-Major.result + c.count_moves.result ≡ count_lines w (event_lines names counts e)) (sym c.in-Major.is)
    (two_counted w (codes "major" ∷ behind) (map (move_line names) c.in-Major.moves) c.one_for-in-Major.result c.count_moves.result
    (c.one_for-in-Major.ensures.count behind)
    (c.count_moves.ensures.count names ∙ ap (λ (ms : List Move). count_lines w (map (move_line names) ms)) c.as_slice.ensures))

pub returns-in-Rollback-clause-count : goal.returns-in-Rollback-clause-count
returns-in-Rollback-clause-count c = λ names counts.
    subst (λ (e : Event). c.one_for-in-Rollback.result ≡ count_lines c.args.word.now (event_lines names counts e)) (sym c.in-Rollback.is)
    (c.one_for-in-Rollback.ensures.count (decimal c.in-Rollback.number ∷ refused_words c.in-Rollback.place))
