-- No two candidates tie: each is of a variable of its own.
use Rattle.std.proofs.Common.{◌≡◌, ℕ, suc, ◌+◌, ◌<◌, ◌≤◌, Bool, true, false, not, ◌&&◌, nat_lt, List, [], ◌∷◌, length, Option, None, Some, Result, Ok, Err, inl, inr, refl, sym, ap, ◌∙◌, subst, arith}
use Rattle.std.specs.List.{IsDistinct}
use Rattle.std.specs.List.Sorted.{IsPermutation, ties}
use Rattle.std.proofs.lemmas.Bool.{lt-ltb}
use Rattle.std.proofs.lemmas.List.Sorted.{IsPermutation-sym}
use Rattle.std.proofs.lemmas.Map.Keys.{IsDistinct-IsPermutation}
use Rattle.pami_algebra.specs.Fraction.{Fraction}
use Rattle.pami_algebra.specs.Operations.{is_below}
use Rattle.pami_frac.specs.Arithmetic.{div_outcome}
use Rattle.pami_frac.specs.declared.arithmetic.Refused.{Refused}
use Rattle.pami_frac.specs.declared.list.Entry.{Entry}
use Rattle.pami_linear.specs.Lists.{get}
use Rattle.pami_script.specs.Dense.{Rising}
use Rattle.pami_script.specs.Script.{then}
use Rattle.pami_script.proofs.Scripts.{then_ok}
use Rattle.pami_theory.specs.Order.{ordered}
use Rattle.pami_theory.proofs.Members.{Has}
use Rattle.pami_theory.proofs.Orders.{Apart, ordered_permutes}
use Rattle.pami_theory.proofs.Comparisons.{then_by, then_by_either, EitherFirst}
use Rattle.pami_theory.proofs.Candidates.{apart_distinct}
use Rattle.pami_theory.specs.declared.words.Side.{Side}
use Rattle.pami_theory.specs.Ratio.{toward}
use Rattle.pami_bfrt.specs.Candidates.{Table, is_candidate, candidate_of, candidate_script, with_candidate, candidates_script, comes_before}
use Rattle.pami_bfrt.specs.declared.candidate.Candidate.{Candidate}

-- ---- variables that rise
abbrev pub Rise : ℕ → List Candidate → Type 0
Rise low [] = Unit {0}
Rise low (c ∷ cs) = (low ≤ c.variable) × Rise (suc c.variable) cs

rise_from : (low lower : ℕ) (cs : List Candidate) → lower ≤ low → Rise low cs → Rise lower cs
rise_from low lower [] h r = tt
rise_from low lower (c ∷ cs) h r = (let p = r.0 in omega arith, r.1)

rise_has : (low : ℕ) (cs : List Candidate) (z : Candidate) → Rise low cs → Has cs z → low ≤ z.variable
rise_has low [] z r h = absurd h
rise_has low (c ∷ cs) z r (inl e) = subst (λ (d : Candidate). low ≤ d.variable) e r.0
rise_has low (c ∷ cs) z r (inr h) = let p = r.0 in let q = rise_has (suc c.variable) cs z r.1 h in omega arith

abbrev more_size : Candidate → Candidate → Bool
more_size c d = is_below d.size c.size

lesser_first : (c d : Candidate) → c.variable < d.variable → EitherFirst comes_before c d
lesser_first c d h =
    then_by_either (λ (c d : Candidate). is_below c.ratio d.ratio) (then_by more_size (λ c d. nat_lt c.variable d.variable)) c d
    (then_by_either more_size (λ (c d : Candidate). nat_lt c.variable d.variable) c d (inl (lt-ltb c.variable d.variable h)))

rise_apart : (low : ℕ) (cs : List Candidate) → Rise low cs → Apart comes_before cs
rise_apart low [] r = tt
rise_apart low (c ∷ cs) r = (λ z m. lesser_first c z (let q = rise_has (suc c.variable) cs z r.1 m in omega arith), rise_apart (suc c.variable) cs r.1)

-- ---- the candidates among rising entries
only_it : (t : Table) (v : ℕ) (a : Fraction) (found : Option Candidate) (b : Bool) → (o : Result Fraction Refused) → Rattle.std.proofs.Common.cond b (then o (λ r. Ok (Some (candidate_of t v a r)))) (Ok None) ≡ Ok found → (low : ℕ) (cs : List Candidate) →
    low ≤ v → Rise (suc v) cs → Rise low (with_candidate found cs)
only_it t v a found true (Ok r) e low cs h k = let same : Some (candidate_of t v a r) ≡ found = cc in subst (λ f. Rise low (with_candidate f cs)) same (h, k)
only_it t v a found true (Err d) e low cs h k = absurd (cc)
only_it t v a found false o e low cs h k = let same : None ≡ found = cc in subst (λ f. Rise low (with_candidate f cs)) same (rise_from (suc v) low cs (omega arith) k)

script_rises : (t : Table) (side : Side) (es : List Entry) (low high : ℕ) (cs : List Candidate) → Rising low high es → candidates_script t side es ≡ Ok cs → Rise low cs
script_rises t side [] low high cs r e = let same : [] ≡ cs = cc in subst (Rise low) same tt
script_rises t side (x ∷ es) low high cs r e =
    let h = then_ok (candidate_script t x.place (toward side x.value)) (λ c. then (candidates_script t side es) (λ cs. Ok (with_candidate c cs))) cs e in
    let g = then_ok (candidates_script t side es) (λ cs. Ok (with_candidate h.0 cs)) cs h.1.1 in
    let same : with_candidate h.0 g.0 ≡ cs = cc (g.1.1) in
    subst (Rise low) same
    (only_it t x.place (toward side x.value) h.0 (is_candidate t x.place (toward side x.value)) (div_outcome (get t.reduced x.place) (toward side x.value)) h.1.0 low g.0 r.0
    (script_rises t side es (suc x.place) high g.0 r.2 g.1.0))

pub script_distinct : (t : Table) (side : Side) (es : List Entry) (high : ℕ) (cs : List Candidate) → Rising 0 high es → candidates_script t side es ≡ Ok cs → IsDistinct (ties comes_before) cs
script_distinct t side es high cs r e = apart_distinct comes_before cs (rise_apart 0 cs (script_rises t side es 0 high cs r e))

-- ---- one of them less
and_swap : (a b : Bool) → (a && b) ≡ (b && a)
and_swap true true = refl
and_swap true false = refl
and_swap false true = refl
and_swap false false = refl

moved_distinct : (xs ys : List Candidate) → IsPermutation xs ys → IsDistinct (ties comes_before) xs → IsDistinct (ties comes_before) ys
moved_distinct xs ys p h = IsDistinct-IsPermutation (ties comes_before) (λ x y. and_swap (not (comes_before x y)) (not (comes_before y x))) xs ys p h

tail_distinct : (c : Candidate) (cs : List Candidate) → IsDistinct (ties comes_before) (c ∷ cs) → IsDistinct (ties comes_before) cs
unfolding IsDistinct
tail_distinct c cs h = h.1

pub rest_distinct : (cs rest : List Candidate) (c : Candidate) → IsDistinct (ties comes_before) cs → ordered comes_before cs ≡ c ∷ ordered comes_before rest → IsDistinct (ties comes_before) rest
rest_distinct cs rest c h e =
    moved_distinct (ordered comes_before rest) rest (IsPermutation-sym rest (ordered comes_before rest) (ordered_permutes comes_before rest))
    (tail_distinct c (ordered comes_before rest) (subst (IsDistinct (ties comes_before)) e (moved_distinct cs (ordered comes_before cs) (ordered_permutes comes_before cs) h)))
