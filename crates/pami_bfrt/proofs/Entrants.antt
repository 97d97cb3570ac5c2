-- What a walk over a program's lists finds is among the entries: its variables exist, and the pivot isn't 0.
use Rattle.std.proofs.Common.{◌≡◌, ℕ, suc, ◌<◌, ◌≤◌, ◌⊎◌, inl, inr, ⊎_elim, Bool, true, false, cond, List, [], ◌∷◌, Option, None, Some, Result, Ok, Err, refl, sym, ap, ◌∙◌, subst, arith, true≢false}
use Rattle.std.specs.List.{All}
use Rattle.std.specs.Option.{option_map}
use Rattle.std.proofs.lemmas.List.Elements.{All-nil, All-cons}
use Rattle.pami_algebra.specs.Fraction.{Fraction}
use Rattle.pami_frac.specs.Arithmetic.{div_outcome}
use Rattle.pami_frac.specs.declared.list.Entry.{Entry}
use Rattle.pami_linear.specs.Lists.{get}
use Rattle.pami_script.specs.Script.{then}
use Rattle.pami_script.specs.Dense.{at, Rising}
use Rattle.pami_script.proofs.Scripts.{then_ok}
use Rattle.pami_script.proofs.Skipped.{at_here, at_other}
use Rattle.pami_theory.specs.Form.{zero_f}
use Rattle.pami_theory.specs.Ratio.{toward, may_enter, Entering}
use Rattle.pami_theory.specs.declared.words.Stand.{Stand}
use Rattle.pami_theory.specs.declared.words.Side.{Side}
use Rattle.pami_theory.specs.declared.words.Violation.{Violation}
use Rattle.pami_theory.specs.Order.{ordered}
use Rattle.pami_theory.proofs.Members.{Has}
use Rattle.pami_theory.proofs.Orders.{ordered_has}
use Rattle.pami_bfrt.specs.Candidates.{Table, candidate_of, candidate_script, candidates_script, with_candidate, comes_before, is_candidate, is_fixed, stand_at, bounds_at, width_at}
use Rattle.pami_bfrt.specs.Walks.{slope_behind, flips_first, passed, walk_over, walk_script}
use Rattle.pami_bfrt.specs.declared.candidate.Candidate.{Candidate}
use Rattle.pami_bfrt.proofs.Tested.{toward_nil, nil_stays}

-- ---- candidates
pub record IsGood (n : ℕ) (alpha : List Entry) (c : Candidate) : Type 0 where
  pub within : c.variable < n
  pub nonzero : ¬ (at alpha c.variable ≡ zero_f)

enters_nonzero : (fixed : Bool) (s : Stand) (side : Side) (a : Fraction) → cond fixed false (may_enter s (toward side a)) ≡ true → ¬ (a ≡ zero_f)
enters_nonzero true s side a h e = true≢false (sym h)
enters_nonzero false s side a h e =
    true≢false (sym h ∙ ap (λ z. may_enter s (toward side z)) e ∙ ap (may_enter s) (toward_nil side) ∙ nil_stays s)

made : (t : Table) (v : ℕ) (a : Fraction) (b : Bool) (c : Candidate)
    → cond b (then (div_outcome (get t.reduced v) a) (λ ratio. Ok (Some (candidate_of t v a ratio)))) (Ok None) ≡ Ok (Some c)
    → (b ≡ true) × (c.variable ≡ v)
made t v a true c h =
    let k = then_ok (div_outcome (get t.reduced v) a) (λ ratio. Ok (Some (candidate_of t v a ratio))) (Some c) h in
    let same : candidate_of t v a k.0 ≡ c = cc (k.1.1) in
    (refl, ap (λ (x : Candidate). x.variable) (sym same))
made t v a false c h = absurd (cc)

has_with : (o : Option Candidate) (cs : List Candidate) (c : Candidate) → Has (with_candidate o cs) c → (o ≡ Some c) ⊎ Has cs c
has_with None cs c m = inr m
has_with (Some x) cs c (inl e) = inl (ap Some e)
has_with (Some x) cs c (inr m) = inr m

head_good : (n : ℕ) (t : Table) (side : Side) (all es : List Entry) (e : Entry) (low : ℕ) (c : Candidate) → Rising low n (e ∷ es)
    → ((p : ℕ) → low ≤ p → at (e ∷ es) p ≡ at all p) → candidate_script t e.place (toward side e.value) ≡ Ok (Some c) → IsGood n all c
head_good n t side all es e low c r s h =
    let k = made t e.place (toward side e.value) (is_candidate t e.place (toward side e.value)) c h in
    let value : at all c.variable ≡ e.value = ap (at all) k.1 ∙ sym (s e.place r.0) ∙ at_here e es e.place refl in
    record {
      within = subst (λ v. v < n) (sym k.1) r.1;
      nonzero = λ z. enters_nonzero (is_fixed (bounds_at t e.place) (width_at t e.place)) (stand_at t e.place) side e.value k.0 (sym value ∙ z);
    }

pub all_good : (n : ℕ) (t : Table) (side : Side) (all es : List Entry) (low : ℕ) (cs : List Candidate) (c : Candidate) → Rising low n es
    → ((p : ℕ) → low ≤ p → at es p ≡ at all p) → candidates_script t side es ≡ Ok cs → Has cs c → IsGood n all c
all_good n t side all [] low cs c r s h m = let same : [] ≡ cs = cc in absurd (subst (λ xs. Has xs c) (sym same) m)
all_good n t side all (e ∷ es) low cs c r s h m =
    let k = then_ok (candidate_script t e.place (toward side e.value))
    (λ o. then (candidates_script t side es) (λ xs. Ok (with_candidate o xs))) cs h in
    let j = then_ok (candidates_script t side es) (λ xs. Ok (with_candidate k.0 xs)) cs k.1.1 in
    let same : with_candidate k.0 j.0 ≡ cs = cc (j.1.1) in
    ⊎_elim
    (λ (o : k.0 ≡ Some c). head_good n t side all es e low c r s (k.1.0 ∙ ap Ok o))
    (λ (w : Has j.0 c). all_good n t side all es (suc e.place) j.0 c r.2
    (λ p l. sym (at_other e es p (λ z. omega arith)) ∙ s p (let a = r.0 in omega arith)) j.1.0 w)
    (has_with k.0 j.0 c (subst (λ xs. Has xs c) (sym same) m))

-- ---- the walk
pub record IsSoundEntering (n : ℕ) (alpha : List Entry) (e : Entering) : Type 0 where
  pub within : e.variable < n
  pub nonzero : ¬ (at alpha e.variable ≡ zero_f)
  pub flips : All (λ v. v < n) e.flips

on_found : (n : ℕ) (alpha : List Entry) (c : Candidate) (o : Option Entering) (e : Entering) → IsGood n alpha c
    → ((x : Entering) → o ≡ Some x → IsSoundEntering n alpha x) → option_map (flips_first (c.variable ∷ [])) o ≡ Some e → IsSoundEntering n alpha e
on_found n alpha c None e g rest h = absurd (cc)
on_found n alpha c (Some x) e g rest h =
    let same : flips_first (c.variable ∷ []) x ≡ e = cc in
    let k = rest x refl in
    subst (IsSoundEntering n alpha) same (record { within = k.within; nonzero = k.nonzero; flips = All-cons (λ v. v < n) c.variable x.flips g.within k.flips })

on_passed : (n : ℕ) (alpha : List Entry) (c : Candidate) (cs : List Candidate) (o : Option Fraction) (e : Entering) → IsGood n alpha c
    → ((slope : Fraction) (x : Entering) → walk_over cs slope ≡ Ok (Some x) → IsSoundEntering n alpha x) → passed c o (walk_over cs) ≡ Ok (Some e)
    → IsSoundEntering n alpha e
on_passed n alpha c cs None e g rest h =
    let same : record { variable = c.variable; tau = c.ratio; flips = [] } ≡ e = cc in
    subst (IsSoundEntering n alpha) same (record { within = g.within; nonzero = g.nonzero; flips = All-nil (λ v. v < n) })
on_passed n alpha c cs (Some s) e g rest h =
    let k = then_ok (walk_over cs s) (λ found. Ok (option_map (flips_first (c.variable ∷ [])) found)) (Some e) h in
    let same : option_map (flips_first (c.variable ∷ [])) k.0 ≡ Some e = cc (k.1.1) in
    on_found n alpha c k.0 e g (λ x o. rest s x (k.1.0 ∙ ap Ok o)) same

walked_good : (n : ℕ) (alpha : List Entry) (cs : List Candidate) (slope : Fraction) (e : Entering) → ((c : Candidate) → Has cs c → IsGood n alpha c)
    → walk_over cs slope ≡ Ok (Some e) → IsSoundEntering n alpha e
walked_good n alpha [] slope e g h = absurd (cc)
walked_good n alpha (c ∷ cs) slope e g h =
    let k = then_ok (slope_behind c.width c.size slope) (λ behind. passed c behind (walk_over cs)) (Some e) h in
    on_passed n alpha c cs k.0 e (g c (inl refl)) (λ s x w. walked_good n alpha cs s x (λ d m. g d (inr m)) w) k.1.1

pub walk_sound : (n : ℕ) (t : Table) (alpha : List Entry) (v : Violation) (e : Entering) → Rising 0 n alpha → walk_script t alpha v ≡ Ok (Some e)
    → IsSoundEntering n alpha e
walk_sound n t alpha v e r h =
    let k = then_ok (candidates_script t v.side alpha) (λ cs. walk_over (ordered comes_before cs) v.amount) (Some e) h in
    walked_good n alpha (ordered comes_before k.0) v.amount e
    (λ c m. all_good n t v.side alpha alpha 0 k.0 c r (λ p l. refl) k.1.0 (ordered_has comes_before k.0 c m)) k.1.1
