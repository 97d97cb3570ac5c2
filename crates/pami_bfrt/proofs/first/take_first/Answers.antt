use Rattle.std.proofs.Common.{◌≡◌, ◌+◌, suc, length, List, ◌∷◌, sym, subst, arith}
use Rattle.std.specs.List.{remove}
use Rattle.std.proofs.lemmas.List.Edits.{length-remove}
use Rattle.pami_theory.specs.Order.{ordered}
use Rattle.pami_bfrt.specs.Candidates.{comes_before}
use Rattle.pami_bfrt.specs.Firsts.{IsFirst}
use Rattle.pami_bfrt.specs.declared.candidate.Candidate.{Candidate}
use Rattle.pami_bfrt.proofs.Firsts.{first_taken}
use Rattle.pami_bfrt.proofs.first.take_first.Goals as goal

pub returns : goal.returns
returns c =
    let cs = c.args.candidates.now.items in
    let i = c.first_place-place.result in
    let f : IsFirst cs i (length cs) = subst (λ (xs : List Candidate). IsFirst xs i (length xs)) c.as_slice.ensures.value c.first_place-place.ensures in
    let n : length (remove cs i) + 1 ≡ length cs = length-remove cs i f.within in
    let m : length cs ≡ suc (length (remove cs i)) = omega arith in
    subst (λ (rest : List Candidate). (ordered comes_before cs ≡ c.remove.result ∷ ordered comes_before rest) × (length cs ≡ suc (length rest))) (sym c.remove.ensures.items)
    (first_taken cs i c.remove.result f c.remove.ensures.value, m)
