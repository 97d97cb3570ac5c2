use Rattle.std.proofs.Common.{◌≡◌, drop}
use Rattle.pami_bfrt.specs.Candidates.{Table, candidates_script}
use Rattle.pami_bfrt.proofs.Gathered.{behind}
use Rattle.pami_bfrt.proofs.candidate.candidates.Given as goal

abbrev pub invariant-loop-entry : goal.invariant-loop-entry
invariant-loop-entry l =
    let t : Table = record { stands = l.stands; bounds = l.bounds; widths = l.widths; reduced = l.reduced } in
    candidates_script t l.side l.alpha ≡ behind l.out.items (candidates_script t l.side (drop l.entry-index l.alpha))
