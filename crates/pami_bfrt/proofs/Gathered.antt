-- Candidates gathered from entry to entry, behind those that are there.
use Rattle.std.proofs.Common.{◌≡◌, ℕ, ◌+◌, ◌<◌, List, [], ◌∷◌, ◌++◌, length, drop, get_or, Option, None, Some, Result, Ok, Err, refl, sym, ap, ◌∙◌}
use Rattle.std.proofs.lemmas.List.{append_assoc}
use Rattle.pami_frac.specs.declared.arithmetic.Refused.{Refused}
use Rattle.pami_frac.specs.declared.list.Entry.{Entry}
use Rattle.pami_script.specs.Script.{then}
use Rattle.pami_vec.proofs.Built.{from_index}
use Rattle.pami_theory.specs.declared.words.Side.{Side}
use Rattle.pami_theory.specs.Ratio.{toward}
use Rattle.pami_bfrt.specs.Candidates.{Table, candidate_script, with_candidate, candidates_script}
use Rattle.pami_bfrt.specs.declared.candidate.Candidate.{Candidate}

-- these candidates, and behind them those of a script
abbrev pub behind : List Candidate → Result (List Candidate) Refused → Result (List Candidate) Refused
behind out s = then s (λ cs. Ok (out ++ cs))

abbrev pub gathered : Option Candidate → List Candidate → List Candidate
gathered None out = out
gathered (Some c) out = out ++ c ∷ []

one_more : (found : Option Candidate) (out : List Candidate) (s : Result (List Candidate) Refused) → behind out (then s (λ cs. Ok (with_candidate found cs))) ≡ behind (gathered found out) s
one_more None out (Ok cs) = refl
one_more (Some c) out (Ok cs) = ap (λ (xs : List Candidate). Ok xs) (sym (append_assoc out (c ∷ []) cs))
one_more found out (Err r) = refl

at_entry : (t : Table) (side : Side) (es : List Entry) (i : ℕ) (e : Entry) → i < length es → e ≡ get_or es i e →
    candidates_script t side (drop i es) ≡ then (candidate_script t e.place (toward side e.value)) (λ c. then (candidates_script t side (drop (i + 1) es)) (λ cs. Ok (with_candidate c cs)))
at_entry t side es i e h q = ap (candidates_script t side) (from_index es i e h q)

pub entry_goes : (t : Table) (side : Side) (es : List Entry) (i : ℕ) (e : Entry) (found : Option Candidate) (out : List Candidate) (r : Result (List Candidate) Refused) →
    r ≡ behind out (candidates_script t side (drop i es)) → i < length es → e ≡ get_or es i e → Ok found ≡ candidate_script t e.place (toward side e.value) → r ≡ behind (gathered found out) (candidates_script t side (drop (i + 1) es))
entry_goes t side es i e found out r s h q f =
    s ∙ ap (behind out) (at_entry t side es i e h q ∙ ap (λ x. then x (λ c. then (candidates_script t side (drop (i + 1) es)) (λ cs. Ok (with_candidate c cs)))) (sym f))
    ∙ one_more found out (candidates_script t side (drop (i + 1) es))

pub entry_stops : (t : Table) (side : Side) (es : List Entry) (i : ℕ) (e : Entry) (d : Refused) (out : List Candidate) (r : Result (List Candidate) Refused) →
    r ≡ behind out (candidates_script t side (drop i es)) → i < length es → e ≡ get_or es i e → Err d ≡ candidate_script t e.place (toward side e.value) → r ≡ Err d
entry_stops t side es i e d out r s h q f =
    s ∙ ap (behind out) (at_entry t side es i e h q ∙ ap (λ x. then x (λ c. then (candidates_script t side (drop (i + 1) es)) (λ cs. Ok (with_candidate c cs)))) (sym f))

-- an answer that isn't Some leaves what was gathered
pub none_gathered : (found : Option Candidate) (out : List Candidate) → ((c : Candidate) → ¬ (found ≡ Some c)) → gathered found out ≡ out
none_gathered None out h = refl
none_gathered (Some c) out h = absurd (h c refl)
