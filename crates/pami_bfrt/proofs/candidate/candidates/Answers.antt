use Rattle.std.proofs.Common.{◌≡◌, ◌+◌, ◌<◌, length, drop, List, sym, ap, ◌∙◌, subst}
use Rattle.pami_script.proofs.Loops.{place_below}
use Rattle.pami_bfrt.specs.Candidates.{Table, candidate_script, candidates_script}
use Rattle.pami_bfrt.specs.declared.candidate.Candidate.{Candidate}
use Rattle.pami_bfrt.proofs.Gathered.{behind, gathered, entry_goes, none_gathered}
use Rattle.pami_bfrt.proofs.candidate.candidates.Goals.{in-Some+in_ok-push, in_default}
use Rattle.pami_bfrt.proofs.candidate.candidates.Goals as goal

pub candidate_at-requires-clause-stand : goal.candidate_at-requires-clause-stand
candidate_at-requires-clause-stand c = place_below c.args.alpha.now 0 (length c.args.stands.now) c.loop-entry.entry-index c.entry-item.result c.requires.rising c.loop-entry-test.true c.entry-item.is

pub candidate_at-requires-clause-bound : goal.candidate_at-requires-clause-bound
candidate_at-requires-clause-bound c = subst (λ n. c.entry-item.result.place < n) (sym c.requires.bound)
    (place_below c.args.alpha.now 0 (length c.args.stands.now) c.loop-entry.entry-index c.entry-item.result c.requires.rising c.loop-entry-test.true c.entry-item.is)

pub candidate_at-requires-clause-width : goal.candidate_at-requires-clause-width
candidate_at-requires-clause-width c = subst (λ n. c.entry-item.result.place < n) (sym c.requires.width)
    (place_below c.args.alpha.now 0 (length c.args.stands.now) c.loop-entry.entry-index c.entry-item.result c.requires.rising c.loop-entry-test.true c.entry-item.is)

pub candidate_at-requires-clause-cost : goal.candidate_at-requires-clause-cost
candidate_at-requires-clause-cost c = subst (λ n. c.entry-item.result.place < n) (sym c.requires.cost)
    (place_below c.args.alpha.now 0 (length c.args.stands.now) c.loop-entry.entry-index c.entry-item.result c.requires.rising c.loop-entry-test.true c.entry-item.is)

pub loop-entry-preserved : goal.loop-entry-preserved
loop-entry-preserved c =
    let t : Table = record { stands = c.args.stands.now; bounds = c.args.bounds.now; widths = c.args.widths.now; reduced = c.args.reduced.now } in
    let all = candidates_script t c.args.side c.args.alpha.now in
    let next = candidates_script t c.args.side (drop (c.loop-entry.entry-index + 1) c.args.alpha.now) in
    let goes = entry_goes t c.args.side c.args.alpha.now c.loop-entry.entry-index c.entry-item.result c.in-Ok.found c.loop-entry.out.items all c.loop-entry.invariant c.loop-entry-test.true c.entry-item.is
    (c.in-Ok.ensures ∙ ap (candidate_script t c.entry-item.result.place) c.toward-a.ensures) in
    elim c.match-found.branch [
      | in-Some+in_ok-push w ↦ subst (λ (cs : List Candidate). all ≡ behind cs next) (sym (ap (λ o. o.items) w.out-is ∙ w.in_ok-push.ensures.items)) (goes ∙ ap (λ f. behind (gathered f c.loop-entry.out.items) next) w.in-Some.is)
      | in_default w ↦ subst (λ (cs : List Candidate). all ≡ behind cs next) (sym (ap (λ o. o.items) w.out-is ∙ sym (none_gathered c.in-Ok.found c.loop-entry.out.items w.in_default.not-Some))) goes
    ]
