-- A slice of the reduced costs behind a step: what is worked out is what is solved at the next basis.
use Rattle.std.proofs.Common.{◌≡◌, ℕ, zero, suc, ◌+◌, ◌-◌, ◌<◌, ◌≤◌, Bool, true, false, cond, nat_eq, List, [], ◌∷◌, ◌++◌, None, Result, Ok, Err, refl, sym, ap, ◌∙◌, subst, arith, true≢false}
use Rattle.std.specs.List.{filter, range_with_len}
use Rattle.std.proofs.lemmas.List.{append_assoc}
use Rattle.pami_algebra.specs.Fraction.{Fraction}
use Rattle.pami_frac.specs.declared.arithmetic.Refused.{Refused}
use Rattle.pami_frac.specs.declared.list.Entry.{Entry}
use Rattle.pami_script.specs.Script.{then, each_member, sub_product}
use Rattle.pami_script.specs.Dense.{at}
use Rattle.pami_script.proofs.Scripts.{then_go, then_stop}
use Rattle.pami_method.specs.Task.{refusal}
use Rattle.pami_theory.specs.Ratio.{toward}
use Rattle.pami_theory.specs.declared.words.Side.{Side}
use Rattle.pami_vec.specs.declared.step.Step.{Step}
use Rattle.pami_minor.specs.Costs.{costs}
use Rattle.pami_minor.specs.Shift.{shift_by}

-- ---- one variable more
range_one : (v n : ℕ) → v < n → range_with_len v (n - v) ≡ v ∷ range_with_len (v + 1) (n - (v + 1))
range_one v n l = let e : n - v ≡ suc (n - (v + 1)) = omega arith in ap (range_with_len v) e

pub cost_kept : (p : ℕ → Bool) (g : ℕ → Fraction) (all kept : List Entry) (v n : ℕ) (x : Fraction) → all ≡ kept ++ costs p g (range_with_len v (n - v)) → v < n
    → p v ≡ true → x ≡ g v → all ≡ (kept ++ record { place = v; value = x } ∷ []) ++ costs p g (range_with_len (v + 1) (n - (v + 1)))
cost_kept p g all kept v n x h l e k =
    let rest : List Entry = costs p g (range_with_len (v + 1) (n - (v + 1))) in
    h ∙ ap (λ vs. kept ++ costs p g vs) (range_one v n l)
    ∙ ap (λ b. kept ++ cond b (record { place = v; value = g v } ∷ rest) rest) e
    ∙ ap (λ y. kept ++ record { place = v; value = y } ∷ rest) (sym k)
    ∙ sym (append_assoc kept (record { place = v; value = x } ∷ []) rest)

pub cost_passed : (p : ℕ → Bool) (g : ℕ → Fraction) (all kept : List Entry) (v n : ℕ) → all ≡ kept ++ costs p g (range_with_len v (n - v)) → v < n
    → p v ≡ false → all ≡ kept ++ costs p g (range_with_len (v + 1) (n - (v + 1)))
cost_passed p g all kept v n h l e =
    let rest : List Entry = costs p g (range_with_len (v + 1) (n - (v + 1))) in
    h ∙ ap (λ vs. kept ++ costs p g vs) (range_one v n l)
    ∙ ap (λ b. kept ++ cond b (record { place = v; value = g v } ∷ rest) rest) e

-- ---- the outcome of a slice
abbrev pub IsShifting : (ℕ → Result Fraction Refused) → (ℕ → Bool) → (ℕ → Fraction) → List ℕ → List ℕ → ℕ → Result (List Entry) Refused → Type 0
IsShifting shift p h vs ws k (Ok es) = (es ≡ costs p h vs) × (refusal (each_member (λ i u. shift u) k ws) ≡ None)
IsShifting shift p h vs ws k (Err d) = each_member (λ i u. shift u) k ws ≡ Err d

-- what is known of a variable: it is shifted exactly where it was nonbasic and doesn't enter, and its operation is the method's
pub record IsShiftOf (shift : ℕ → Result Fraction Refused) (alpha : List Entry) (step : Step) (side : Side) (p r q : ℕ → Bool) (g h : ℕ → Fraction) (u : ℕ) : Type 0 where
  pub test : p u ≡ cond (r u) (q u) false
  pub apart : p u ≡ true → nat_eq u step.entering ≡ false
  pub script : p u ≡ true → sub_product (g u) step.tau (toward side (at alpha u)) ≡ shift u
  pub value : (y : Fraction) → p u ≡ true → shift u ≡ Ok y → y ≡ h u

none_more : (y : Fraction) (rest : Result (List Fraction) Refused) → refusal rest ≡ None → refusal (then rest (λ zs. Ok (y ∷ zs))) ≡ None
none_more y (Ok zs) e = refl
none_more y (Err d) e = e

kept_more : (shift : ℕ → Result Fraction Refused) (p : ℕ → Bool) (h : ℕ → Fraction) (v k : ℕ) (vs ws : List ℕ) (s : Result Fraction Refused)
    (rest : Result (List Entry) Refused) → s ≡ shift v → ((y : Fraction) → shift v ≡ Ok y → y ≡ h v) → IsShifting shift p h vs ws (suc k) rest
    → p v ≡ true → IsShifting shift p h (v ∷ vs) (v ∷ ws) k (then s (λ cost. then rest (λ es. Ok (record { place = v; value = cost } ∷ es))))
kept_more shift p h v k vs ws (Ok y) (Ok es) e val i t = (
  ap (λ z. record { place = v; value = z } ∷ es) (val y (sym e)) ∙ ap (λ zs. record { place = v; value = h v } ∷ zs) i.0
      ∙ sym (ap (λ b. cond b (record { place = v; value = h v } ∷ costs p h vs) (costs p h vs)) t),
  ap (λ (r : Result Fraction Refused). refusal (then r (λ z. then (each_member (λ i u. shift u) (suc k) ws) (λ zs. Ok (z ∷ zs))))) (sym e)
      ∙ none_more y (each_member (λ i u. shift u) (suc k) ws) i.1,
)
kept_more shift p h v k vs ws (Ok y) (Err d) e val i t =
    then_go (shift v) (λ z. then (each_member (λ i u. shift u) (suc k) ws) (λ zs. Ok (z ∷ zs))) y (sym e)
    ∙ then_stop (each_member (λ i u. shift u) (suc k) ws) (λ zs. Ok (y ∷ zs)) d i
kept_more shift p h v k vs ws (Err d) rest e val i t =
    then_stop (shift v) (λ z. then (each_member (λ i u. shift u) (suc k) ws) (λ zs. Ok (z ∷ zs))) d (sym e)

one_more : (shift : ℕ → Result Fraction Refused) (alpha : List Entry) (step : Step) (side : Side) (p r q : ℕ → Bool) (g h : ℕ → Fraction) (v k : ℕ)
    (vs : List ℕ) (a b c : Bool) → p v ≡ a → r v ≡ b → q v ≡ c → IsShiftOf shift alpha step side p r q g h v
    → ((j : ℕ) → IsShifting shift p h vs (filter q (filter r vs)) j (shift_by alpha step side (costs p g vs)))
    → IsShifting shift p h (v ∷ vs) (filter q (cond b (v ∷ filter r vs) (filter r vs))) k
    (shift_by alpha step side (cond a (record { place = v; value = g v } ∷ costs p g vs) (costs p g vs)))
one_more shift alpha step side p r q g h v k vs true true true ea eb ec w rest =
    subst (λ z. IsShifting shift p h (v ∷ vs) (cond z (v ∷ filter q (filter r vs)) (filter q (filter r vs))) k
    (shift_by alpha step side (record { place = v; value = g v } ∷ costs p g vs))) (sym ec)
    (subst (λ z. IsShifting shift p h (v ∷ vs) (v ∷ filter q (filter r vs)) k
    (cond z (shift_by alpha step side (costs p g vs))
    (then (sub_product (g v) step.tau (toward side (at alpha v))) (λ cost.
    then (shift_by alpha step side (costs p g vs)) (λ es. Ok (record { place = v; value = cost } ∷ es)))))) (sym (w.apart ea))
    (kept_more shift p h v k vs (filter q (filter r vs)) (sub_product (g v) step.tau (toward side (at alpha v))) (shift_by alpha step side (costs p g vs))
    (w.script ea) (λ y e. w.value y ea e) (rest (suc k)) ea))
one_more shift alpha step side p r q g h v k vs false true false ea eb ec w rest =
    subst (λ z. IsShifting shift p h (v ∷ vs) (cond z (v ∷ filter q (filter r vs)) (filter q (filter r vs))) k (shift_by alpha step side (costs p g vs))) (sym ec)
    (passed shift p h v vs (filter q (filter r vs)) k (shift_by alpha step side (costs p g vs)) ea (rest k))
  where
    passed : (shift : ℕ → Result Fraction Refused) (p : ℕ → Bool) (h : ℕ → Fraction) (v : ℕ) (vs ws : List ℕ) (k : ℕ) (o : Result (List Entry) Refused)
        → p v ≡ false → IsShifting shift p h vs ws k o → IsShifting shift p h (v ∷ vs) ws k o
    passed shift p h v vs ws k (Ok es) e i = (i.0 ∙ sym (ap (λ b. cond b (record { place = v; value = h v } ∷ costs p h vs) (costs p h vs)) e), i.1)
    passed shift p h v vs ws k (Err d) e i = i
one_more shift alpha step side p r q g h v k vs false false c ea eb ec w rest =
    passed shift p h v vs (filter q (filter r vs)) k (shift_by alpha step side (costs p g vs)) ea (rest k)
  where
    passed : (shift : ℕ → Result Fraction Refused) (p : ℕ → Bool) (h : ℕ → Fraction) (v : ℕ) (vs ws : List ℕ) (k : ℕ) (o : Result (List Entry) Refused)
        → p v ≡ false → IsShifting shift p h vs ws k o → IsShifting shift p h (v ∷ vs) ws k o
    passed shift p h v vs ws k (Ok es) e i = (i.0 ∙ sym (ap (λ b. cond b (record { place = v; value = h v } ∷ costs p h vs) (costs p h vs)) e), i.1)
    passed shift p h v vs ws k (Err d) e i = i
one_more shift alpha step side p r q g h v k vs true true false ea eb ec w rest =
    absurd (true≢false (sym ea ∙ w.test ∙ ap (λ z. cond z (q v) false) eb ∙ ec))
one_more shift alpha step side p r q g h v k vs true false c ea eb ec w rest =
    absurd (true≢false (sym ea ∙ w.test ∙ ap (λ z. cond z (q v) false) eb))
one_more shift alpha step side p r q g h v k vs false true true ea eb ec w rest =
    absurd (true≢false (sym (sym ea ∙ w.test ∙ ap (λ z. cond z (q v) false) eb ∙ ec)))

pub shifting : (shift : ℕ → Result Fraction Refused) (alpha : List Entry) (step : Step) (side : Side) (p r q : ℕ → Bool) (g h : ℕ → Fraction) (n v k : ℕ)
    → ((u : ℕ) → v ≤ u → u < v + n → IsShiftOf shift alpha step side p r q g h u)
    → IsShifting shift p h (range_with_len v n) (filter q (filter r (range_with_len v n))) k (shift_by alpha step side (costs p g (range_with_len v n)))
shifting shift alpha step side p r q g h zero v k w = (refl, refl)
shifting shift alpha step side p r q g h (suc n) v k w =
    one_more shift alpha step side p r q g h v k (range_with_len (v + 1) n) (p v) (r v) (q v) refl refl refl (w v (omega arith) (omega arith))
    (λ j. shifting shift alpha step side p r q g h n (v + 1) j (λ u l m. w u (omega arith) (omega arith)))

pub answered : (shift : ℕ → Result Fraction Refused) (p : ℕ → Bool) (h : ℕ → Fraction) (vs ws : List ℕ) (o : Result (List Entry) Refused) (es : List Entry)
    → IsShifting shift p h vs ws 0 o → o ≡ Ok es → (es ≡ costs p h vs) × (refusal (each_member (λ i u. shift u) 0 ws) ≡ None)
answered shift p h vs ws o es i e = subst (IsShifting shift p h vs ws 0) e i

pub refused : (shift : ℕ → Result Fraction Refused) (p : ℕ → Bool) (h : ℕ → Fraction) (vs ws : List ℕ) (o : Result (List Entry) Refused) (d : Refused)
    → IsShifting shift p h vs ws 0 o → o ≡ Err d → each_member (λ i u. shift u) 0 ws ≡ Err d
refused shift p h vs ws o d i e = subst (IsShifting shift p h vs ws 0) e i
