-- The candidates among the entries are those of the whole form, with the same quotients.
use Rattle.std.proofs.Common.{◌≡◌, ℕ, zero, suc, ◌+◌, ◌<◌, ◌≤◌, Bool, true, false, cond, List, [], ◌∷◌, map, Option, None, Some, Result, Ok, Err, refl, sym, ap, ◌∙◌, subst, arith, true≢false, ⊎_elim}
use Rattle.std.specs.List.{filter, range_with_len}
use Rattle.std.proofs.lemmas.Bool.{cases_lt}
use Rattle.pami_algebra.specs.Fraction.{Fraction}
use Rattle.pami_frac.specs.Arithmetic.{div_outcome}
use Rattle.pami_frac.specs.declared.arithmetic.Refused.{Refused}
use Rattle.pami_frac.specs.declared.list.Entry.{Entry}
use Rattle.pami_frac.proofs.Outcomes.{div_value}
use Rattle.pami_linear.specs.Lists.{get}
use Rattle.pami_script.specs.Dense.{at, Rising}
use Rattle.pami_script.specs.Script.{then, each_member}
use Rattle.pami_script.proofs.Skipped.{at_here, at_other, at_below}
use Rattle.pami_theory.specs.Form.{Form, variables, limits, zero_f}
use Rattle.pami_theory.specs.Basis as theory
use Rattle.pami_theory.specs.Violation as outside
use Rattle.pami_theory.specs.Ratio.{Leaving, toward, may_enter, is_candidate, turned_entry, ratio, absolute, row_entry}
use Rattle.pami_method.specs.Scripts.{is_nonbasic, ratios_script}
use Rattle.pami_theory.specs.declared.words.Stand.{Stand}
use Rattle.pami_theory.specs.declared.words.Stand.TheVariants.{Basic, Lower, Upper, Zero}
use Rattle.pami_theory.specs.declared.words.Side.{Side}
use Rattle.pami_bfrt.specs.Candidates as lists
use Rattle.pami_bfrt.specs.Candidates.{Table, candidate_of, candidate_script, with_candidate, candidates_script}
use Rattle.pami_bfrt.specs.Agreement.{IsTable, AreRowEntries}
use Rattle.pami_bfrt.specs.declared.candidate.Candidate.{Candidate}
use Rattle.pami_bfrt.proofs.Tested.{toward_nil, nil_stays, fixed_same}

-- a variable as a candidate, exact
abbrev pub exactly : Form → Leaving → ℕ → Candidate
exactly f l v = record { variable = v; ratio = ratio f l v; size = absolute (turned_entry f l v); width = outside.width (limits f v) }

abbrev pub quotient : Form → Leaving → ℕ → ℕ → Result Fraction Refused
quotient f l k v = div_outcome (get l.reduced v) (turned_entry f l v)

-- ---- one variable
-- what is known of the value a at the variable v: the tests agree, and so does the entry of a candidate
pub record Matches (f : Form) (b : theory.Basis) (l : Leaving) (t : Table) (v : ℕ) (a : Fraction) : Type 0 where
  pub test : lists.is_candidate t v a ≡ is_candidate f b l v
  pub entry : is_candidate f b l v ≡ true → a ≡ turned_entry f l v

fixed_is : (f : Form) (b : theory.Basis) (l : Leaving) (t : Table) (v : ℕ) → IsTable f b l t → v < variables f → lists.is_fixed (lists.bounds_at t v) (lists.width_at t v) ≡ outside.is_fixed (limits f v)
fixed_is f b l t v m h =
    fixed_same (lists.bounds_at t v) (lists.width_at t v) (subst Rattle.pami_theory.specs.Form.IsUncrossed (m.bounds v h) (m.uncrossed v h)) (m.width v h ∙ ap outside.width (m.bounds v h))
    ∙ ap outside.is_fixed (sym (m.bounds v h))

basic_no : (c : Bool) → cond c false false ≡ false
basic_no true = refl
basic_no false = refl

basic_never : (c : Bool) (s : Stand) (a : Fraction) → is_nonbasic s ≡ false → cond c false (may_enter s a) ≡ false
basic_never c Basic a e = basic_no c
basic_never c Lower a e = absurd (true≢false e)
basic_never c Upper a e = absurd (true≢false e)
basic_never c Zero a e = absurd (true≢false e)

pub variable_matches : (f : Form) (b : theory.Basis) (l : Leaving) (t : Table) (side : Side) (v : ℕ) (a : Fraction) → IsTable f b l t → l.violation.side ≡ side → v < variables f →
    a ≡ cond (is_nonbasic (theory.stand_at b v)) (row_entry f l.row v) zero_f → Matches f b l t v (toward side a)
variable_matches f b l t side v a m s h e = go (is_nonbasic (theory.stand_at b v)) refl e
  where
    test : (x : Fraction) → lists.is_candidate t v x ≡ cond (outside.is_fixed (limits f v)) false (may_enter (theory.stand_at b v) x)
    test x = ap (λ c. cond c false (may_enter (lists.stand_at t v) x)) (fixed_is f b l t v m h)
        ∙ ap (cond (outside.is_fixed (limits f v)) false) (ap (λ s. may_enter s x) (sym (m.stand v h)))

    go : (n : Bool) → is_nonbasic (theory.stand_at b v) ≡ n → a ≡ cond n (row_entry f l.row v) zero_f → Matches f b l t v (toward side a)
    go true n q =
        let same : toward side a ≡ turned_entry f l v = ap (λ x. toward x a) (sym s) ∙ ap (toward l.violation.side) q in
        record { test = test (toward side a) ∙ ap (λ x. cond (outside.is_fixed (limits f v)) false (may_enter (theory.stand_at b v) x)) same; entry = λ c. same }
    go false n q =
        let none : is_candidate f b l v ≡ false = basic_never (outside.is_fixed (limits f v)) (theory.stand_at b v) (turned_entry f l v) n in
        record { test = test (toward side a) ∙ basic_never (outside.is_fixed (limits f v)) (theory.stand_at b v) (toward side a) n ∙ sym none; entry = λ c. absurd (true≢false (sym c ∙ none)) }

-- ---- its candidate
candidate_is : (f : Form) (l : Leaving) (t : Table) (v : ℕ) (a r : Fraction) → a ≡ turned_entry f l v → r ≡ ratio f l v → lists.width_at t v ≡ outside.width (limits f v) → candidate_of t v a r ≡ exactly f l v
candidate_is f l t v a r e q w =
    ap (λ x. candidate_of t v a x) q
    ∙ ap (λ (x : Fraction). record { variable = v; ratio = ratio f l v; size = x; width = lists.width_at t v }) (ap absolute e)
    ∙ ap (λ (x : Option Fraction). record { variable = v; ratio = ratio f l v; size = absolute (turned_entry f l v); width = x }) w

then_exact : {A : Type 0} (o : Result Fraction Refused) (g : Fraction → A) (x : A) → ((r : Fraction) → o ≡ Ok r → g r ≡ x) → then o (λ r. Ok (g r)) ≡ then o (λ r. Ok x)
then_exact (Ok r) g x h = ap (λ y. Ok y) (h r refl)
then_exact (Err e) g x h = refl

found : (f : Form) (b : theory.Basis) (l : Leaving) (t : Table) (v : ℕ) (a : Fraction) → IsTable f b l t → v < variables f → Matches f b l t v a → is_candidate f b l v ≡ true →
    candidate_script t v a ≡ then (quotient f l 0 v) (λ r. Ok (Some (exactly f l v)))
found f b l t v a m h k c =
    let e : a ≡ turned_entry f l v = k.entry c in
    ap (λ (x : Bool). cond x (then (div_outcome (get t.reduced v) a) (λ r. Ok (Some (candidate_of t v a r)))) (Ok None)) (k.test ∙ c)
    ∙ ap (λ x. then (div_outcome x a) (λ r. Ok (Some (candidate_of t v a r)))) (m.reduced v h)
    ∙ ap (λ x. then (div_outcome (get l.reduced v) x) (λ r. Ok (Some (candidate_of t v a r)))) e
    ∙ then_exact (quotient f l 0 v) (λ r. Some (candidate_of t v a r)) (Some (exactly f l v))
    (λ r q. ap (λ c. Some c) (candidate_is f l t v a r e (div_value (get l.reduced v) (turned_entry f l v) r q) (m.width v h)))

not_found : (f : Form) (b : theory.Basis) (l : Leaving) (t : Table) (v : ℕ) (a : Fraction) → Matches f b l t v a → is_candidate f b l v ≡ false → candidate_script t v a ≡ Ok None
not_found f b l t v a k c = ap (λ (x : Bool). cond x (then (div_outcome (get t.reduced v) a) (λ r. Ok (Some (candidate_of t v a r)))) (Ok None)) (k.test ∙ c)

-- ---- all of them
abbrev pub all_from : Form → theory.Basis → Leaving → ℕ → List ℕ → Result (List Candidate) Refused
all_from f b l k vs = then (each_member (quotient f l) k vs) (λ rs. Ok (map (exactly f l) vs))

joined : (f : Form) (b : theory.Basis) (l : Leaving) (v : ℕ) (vs : List ℕ) (o : Result Fraction Refused) (s : Result (List Fraction) Refused) →
    then (then o (λ r. Ok (Some (exactly f l v)))) (λ c. then (then s (λ rs. Ok (map (exactly f l) vs))) (λ cs. Ok (with_candidate c cs))) ≡ then (then o (λ y. then s (λ ys. Ok (y ∷ ys)))) (λ rs. Ok (map (exactly f l) (v ∷ vs)))
joined f b l v vs (Ok r) (Ok rs) = refl
joined f b l v vs (Ok r) (Err e) = refl
joined f b l v vs (Err e) s = refl

skipped : (s : Result (List Candidate) Refused) → then s (λ cs. Ok (with_candidate None cs)) ≡ s
skipped (Ok cs) = refl
skipped (Err e) = refl

-- the entry of a variable, and then the rest
one : (f : Form) (b : theory.Basis) (l : Leaving) (t : Table) (k v : ℕ) (a : Fraction) (vs : List ℕ) (s : Result (List Candidate) Refused) → IsTable f b l t → v < variables f → Matches f b l t v a → ((j : ℕ) → s ≡ all_from f b l j vs) → (c : Bool) → is_candidate f b l v ≡ c →
    then (candidate_script t v a) (λ c. then s (λ cs. Ok (with_candidate c cs))) ≡ all_from f b l k (cond c (v ∷ vs) vs)
one f b l t k v a vs s m h n e true c =
    ap (λ x. then x (λ c. then s (λ cs. Ok (with_candidate c cs)))) (found f b l t v a m h n c)
    ∙ ap (λ s. then (then (quotient f l 0 v) (λ r. Ok (Some (exactly f l v)))) (λ c. then s (λ cs. Ok (with_candidate c cs)))) (e (suc k))
    ∙ joined f b l v vs (quotient f l 0 v) (each_member (quotient f l) (suc k) vs)
one f b l t k v a vs s m h n e false c =
    ap (λ x. then x (λ c. then s (λ cs. Ok (with_candidate c cs)))) (not_found f b l t v a n c)
    ∙ skipped s ∙ e k

-- a variable without an entry is no candidate
none_here : (f : Form) (b : theory.Basis) (l : Leaving) (t : Table) (side : Side) (v : ℕ) → Matches f b l t v (toward side zero_f) → is_candidate f b l v ≡ false
none_here f b l t side v n = sym n.test ∙ ap (lists.is_candidate t v) (toward_nil side) ∙ ap (cond (lists.is_fixed (lists.bounds_at t v) (lists.width_at t v)) false) (nil_stays (lists.stand_at t v)) ∙ basic_no (lists.is_fixed (lists.bounds_at t v) (lists.width_at t v))

pub all_match : (f : Form) (b : theory.Basis) (l : Leaving) (t : Table) (side : Side) (n low k : ℕ) (es : List Entry) → IsTable f b l t → Rising low (low + n) es →
    ((v : ℕ) → low ≤ v → v < low + n → (v < variables f) × Matches f b l t v (toward side (at es v))) →
    candidates_script t side es ≡ all_from f b l k (filter (is_candidate f b l) (range_with_len low n))
all_match f b l t side zero low k [] m r h = refl
all_match f b l t side zero low k (e ∷ es) m r h = absurd (let p = r.0 in let q = r.1 in omega arith)
all_match f b l t side (suc n) low k [] m r h =
    let c : is_candidate f b l low ≡ false = none_here f b l t side low (h low (omega arith) (omega arith)).1 in
    all_match f b l t side n (low + 1) k [] m (let q : low + 1 ≤ (low + 1) + n = omega arith in q) (λ v p q. h v (omega arith) (omega arith))
    ∙ ap (λ x. all_from f b l k (cond x (low ∷ filter (is_candidate f b l) (range_with_len (low + 1) n)) (filter (is_candidate f b l) (range_with_len (low + 1) n)))) (sym c)
all_match f b l t side (suc n) low k (e ∷ es) m r h = ⊎_elim
    (λ (p : low < e.place).
    let none : at (e ∷ es) low ≡ zero_f = at_below (e ∷ es) (low + 1) (low + suc n) low (omega arith, r.1, r.2) (omega arith) in
    let c : is_candidate f b l low ≡ false = none_here f b l t side low (subst (λ x. Matches f b l t low (toward side x)) none (h low (omega arith) (omega arith)).1) in
    let top : low + suc n ≡ (low + 1) + n = omega arith in
    all_match f b l t side n (low + 1) k (e ∷ es) m (subst (λ x. Rising (low + 1) x (e ∷ es)) top (omega arith, r.1, r.2)) (λ v p q. h v (omega arith) (omega arith))
    ∙ ap (λ x. all_from f b l k (cond x (low ∷ filter (is_candidate f b l) (range_with_len (low + 1) n)) (filter (is_candidate f b l) (range_with_len (low + 1) n)))) (sym c))
    (λ (p : e.place ≤ low).
    let here : e.place ≡ low = (let q = r.0 in omega arith) in
    let top : low + suc n ≡ (low + 1) + n = omega arith in
    let next : suc e.place ≡ low + 1 = omega arith in
    let rest : Rising (low + 1) ((low + 1) + n) es = subst (λ x. Rising x ((low + 1) + n) es) next (subst (λ x. Rising (suc e.place) x es) top r.2) in
    let first = h low (omega arith) (omega arith) in
    ap (λ v. then (candidate_script t v (toward side e.value)) (λ c. then (candidates_script t side es) (λ cs. Ok (with_candidate c cs)))) here
    ∙ one f b l t k low (toward side e.value) (filter (is_candidate f b l) (range_with_len (low + 1) n)) (candidates_script t side es) m first.0
    (subst (λ x. Matches f b l t low (toward side x)) (at_here e es low here) first.1)
    (λ j. all_match f b l t side n (low + 1) j es m rest (λ v a c. let g = h v (omega arith) (omega arith) in
    (g.0, subst (λ x. Matches f b l t v (toward side x)) (at_other e es v (λ q. omega arith)) g.1)))
    (is_candidate f b l low) refl)
    (cases_lt low e.place)

pub candidates_are : (f : Form) (b : theory.Basis) (l : Leaving) (t : Table) (alpha : List Entry) (side : Side) → IsTable f b l t → AreRowEntries f b l alpha → l.violation.side ≡ side →
    candidates_script t side alpha ≡ then (ratios_script f b l) (λ rs. Ok (map (exactly f l) (filter (is_candidate f b l) (range_with_len 0 (variables f)))))
candidates_are f b l t alpha side m r s =
    let all : variables f ≡ 0 + variables f = omega arith in
    all_match f b l t side (variables f) 0 0 alpha m (subst (λ n. Rising 0 n alpha) all r.rising)
    (λ v p q. let h : v < variables f = omega arith in (h, variable_matches f b l t side v (at alpha v) m s h (r.value v h)))
