-- The signs of reduced costs as they are read from a state's lists, and what they say of its basis.
use Rattle.std.proofs.Common.{◌≡◌, ◌↔◌, ℕ, ◌<◌, List, length, get_or, refl, sym, ap, ◌∙◌, subst, arith, Bool, true, false, IsTrue}
use Rattle.std.proofs.lemmas.List.{get_or_default}
use lib.IntN.{pos}
use Rattle.pami_algebra.specs.Fraction.{Fraction}
use Rattle.pami_algebra.specs.Operations.{of_int, ◌<ᶠ◌}
use Rattle.pami_algebra.proofs.Order.{le_antisymm_f, le_refl_f}
use Rattle.pami_algebra.proofs.Strict.{le_by_not_f}
use Rattle.pami_linear.specs.Lists.{get}
use Rattle.pami_frac.specs.declared.list.Bounds.{Bounds}
use Rattle.pami_script.proofs.Loops.{get_is}
use Rattle.pami_theory.specs.declared.words.Stand.{Stand}
use Rattle.pami_theory.specs.Form.{Form, limits, variables, row_variable, zero_f}
use Rattle.pami_theory.specs.declared.words.Stand.TheVariants.{Upper, Zero}
use Rattle.pami_theory.specs.Basis.{stand_at}
use Rattle.pami_theory.specs.Fresh.{IsFixed, IsSignedFor, IsDualFeasible}
use Rattle.pami_theory.proofs.Solved.{fresh_regular, reduced_only}
use Rattle.pami_state.specs.declared.state.State.{State}
use Rattle.pami_state.specs.Columns.{bounds_form, HasBounds}
use Rattle.pami_state.specs.State.{basis_of, IsSolvedAfresh, SignedBy, IsSignedAt, HasSigns}
use Rattle.pami_theory.proofs.Violations.{fixed_iff}
use Rattle.pami_state.proofs.Bounds.{bounds_read, limits_of_form}
use Rattle.pami_theory.specs.Violation.{is_fixed}

-- ---- at most 0, where it isn't below 0: it is 0
pub zero_at_upper : (d : Fraction) (a b : Bool) → (IsTrue a ↔ (d <ᶠ of_int (pos 0))) → a ≡ false → (IsTrue b ↔ (d ≡ of_int (pos 0))) → IsTrue b ↔ IsSignedFor Upper d
zero_at_upper d a b h e k = (
  λ t. subst (λ z. IsSignedFor Upper z) (sym (k.0 t)) (le_refl_f zero_f),
  λ l. k.1 (le_antisymm_f d zero_f l (le_by_not_f zero_f d (λ m. let t : a ≡ true = h.1 m in cc))),
)

-- a fixed variable is signed
pub fixed_signed : (l : Bounds) (s : Stand) (d : Fraction) (a : Bool) → a ≡ is_fixed l → a ≡ true → IsTrue a ↔ SignedBy l s d
fixed_signed l s d a e h = (λ t n. absurd (n ((fixed_iff l).0 (sym e ∙ h))), λ k. h)

-- ---- where a variable stands, and its reduced cost, as they are read
pub stand_read : (stands : List Stand) (v : ℕ) (d : Stand) → v < length stands → get_or stands v Zero ≡ get_or stands v d
stand_read stands v d l = get_or_default stands v Zero d l

-- the sign at a variable depends on its limits, its stand and its reduced cost alone
pub signed_same : (l k : Bounds) (s t : Stand) (d e : Fraction) → l ≡ k → s ≡ t → d ≡ e → SignedBy l s d → SignedBy k t e
signed_same l k s t d e p q r h n = subst (IsSignedFor t) r (subst (λ z. IsSignedFor z d) q (h (λ x. n (subst IsFixed p x))))

pub signed_read : (bounds : List Bounds) (st : State) (stands : List Stand) (reduced : List Fraction) (v : ℕ) (b : Bounds) (s : Stand) (d : Fraction) → stands ≡ st.stands → reduced ≡ st.reduced → length st.stands ≡ length bounds → length st.reduced ≡ length bounds →
    v < length bounds → b ≡ get_or bounds v b → d ≡ get_or reduced v d → IsSignedAt bounds st v ↔ SignedBy b (get_or stands v s) d
signed_read bounds st stands reduced v b s d e g m n l p q =
    let k : length stands ≡ length st.stands = ap length e in
    let j : length reduced ≡ length st.reduced = ap length g in
    let x : limits (bounds_form 0 bounds) v ≡ b = bounds_read bounds v b _ l p in
    let y : stand_at (basis_of st) v ≡ get_or stands v s = ap (λ (ss : List Stand). get_or ss v Zero) (sym e) ∙ stand_read stands v s (omega arith) in
    let z : get st.reduced v ≡ d = ap (λ ds. get ds v) (sym g) ∙ sym (get_is reduced v d (omega arith) q) in
    (signed_same _ _ _ _ _ _ x y z, signed_same _ _ _ _ _ _ (sym x) (sym y) (sym z))

-- one that is not signed
pub some_unsigned : (bounds : List Bounds) (st : State) (v : ℕ) (t : Bool) (P : Type 0) → v < length bounds → t ≡ false → (IsTrue t ↔ P) → (IsSignedAt bounds st v ↔ P) → IsTrue false ↔ HasSigns bounds st
some_unsigned bounds st v t P l e h k = (λ f. absurd (cc), λ a. let b : t ≡ true = h.1 (k.0 (a.at v l)) in cc)

-- ---- of a state that is solved afresh
pub feasible_if : (f : Form) (bounds : List Bounds) (st : State) → length st.reduced ≡ length bounds → HasBounds f bounds → IsSolvedAfresh f st → HasSigns bounds st → IsDualFeasible f (basis_of st)
feasible_if f bounds st n e a h =
    let same : length st.reduced ≡ length a.fresh.reduced = ap length a.reduced in
    let many : length a.fresh.reduced ≡ variables f = a.solved.reduced_by_variable in
    record {
      y = λ i. get a.fresh.reduced (row_variable f i);
      d = get a.fresh.reduced;
      costs = a.solved.reduced;
      signed = λ v l. signed_same _ _ _ _ _ _ (sym (limits_of_form f bounds 0 v e)) refl (ap (λ ds. get ds v) a.reduced) (h.at v (omega arith));
    }

pub feasible_only : (f : Form) (bounds : List Bounds) (st : State) → length st.reduced ≡ length bounds → HasBounds f bounds → IsSolvedAfresh f st → IsDualFeasible f (basis_of st) → HasSigns bounds st
feasible_only f bounds st n e a h =
    let same : length st.reduced ≡ length a.fresh.reduced = ap length a.reduced in
    let many : length a.fresh.reduced ≡ variables f = a.solved.reduced_by_variable in
    let only : (v : ℕ) → v < variables f → h.d v ≡ get a.fresh.reduced v =
    reduced_only f (basis_of st) h.y h.d (λ i. get a.fresh.reduced (row_variable f i)) (get a.fresh.reduced) (fresh_regular f (basis_of st) a.fresh a.solved) h.costs a.solved.reduced in
    record {
      at = λ v l. let k : v < variables f = omega arith in
          signed_same _ _ _ _ _ _ (limits_of_form f bounds 0 v e) refl (only v k ∙ ap (λ ds. get ds v) (sym a.reduced)) (h.signed v k);
    }

-- an answer that tells the signs tells whether the basis is dual feasible
pub feasible_by_signs : (t : Bool) (bounds : List Bounds) (st : State) → length st.reduced ≡ length bounds → (IsTrue t ↔ HasSigns bounds st) →
    (f : Form) → HasBounds f bounds → IsSolvedAfresh f st → IsTrue t ↔ IsDualFeasible f (basis_of st)
feasible_by_signs t bounds st n h f e a = (
  λ k. feasible_if f bounds st n e a (h.0 k),
  λ k. h.1 (feasible_only f bounds st n e a k),
)
