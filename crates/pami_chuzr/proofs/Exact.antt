-- A violation whose difference fits is exact, and a value has one exactly where it isn't within its bounds.
use Rattle.std.proofs.Common.{◌≡◌, ◌↔◌, Bool, true, false, cond, Option, None, Some, Result, Ok, Err, IfOk, refl, sym, ap, ◌∙◌, subst}
use Rattle.pami_algebra.specs.Fraction.{Fraction}
use Rattle.pami_algebra.specs.Operations.{◌≤ᶠ◌, is_below}
use Rattle.pami_algebra.proofs.Tests.{is_below_iff, not_below_iff}
use Rattle.pami_algebra.proofs.Strict.{not_le_f}
use Rattle.pami_frac.specs.Arithmetic.{sub_outcome}
use Rattle.pami_frac.specs.declared.arithmetic.Refused.{Refused}
use Rattle.pami_script.specs.Script.{then}
use Rattle.pami_frac.specs.declared.list.Bounds.{Bounds}
use Rattle.pami_theory.specs.Form.{IsWithin}
use Rattle.pami_theory.specs.declared.words.Violation.{Violation}
use Rattle.pami_theory.specs.Violation.{violation}
use Rattle.pami_method.proofs.Values.{violation_value}
use Rattle.pami_method.specs.Scripts.{violation_script, low_script, high_script}
use Rattle.pami_theory.specs.declared.words.Side.{Side}
use Rattle.pami_theory.specs.declared.words.Side.TheVariants as sides

-- ---- there is none exactly within the bounds
low_within : (low : Option Fraction) (value : Fraction) → (low_script low value ≡ Ok None) ↔ ((bound : Fraction) → low ≡ Some bound → bound ≤ᶠ value)
low_within None value = (λ h bound e. absurd (cc), λ h. refl)
low_within (Some low) value = go (is_below value low) refl (sub_outcome low value)
  where
    go : (t : Bool) → is_below value low ≡ t → (o : Result Fraction Refused) → (cond t (then {B = Option Violation} o (λ amount. Ok (Some (record { side = sides.Below; amount = amount })))) (Ok None) ≡ Ok None) ↔ ((bound : Fraction) → Some low ≡ Some bound → bound ≤ᶠ value)
    go true e (Ok s) = (λ h. absurd (cc), λ h. absurd (not_le_f value low ((is_below_iff value low).0 e) (h low refl)))
    go true e (Err r) = (λ h. absurd (cc), λ h. absurd (not_le_f value low ((is_below_iff value low).0 e) (h low refl)))
    go false e o = (λ h bound k. let same : low ≡ bound = cc in subst (λ z. z ≤ᶠ value) same ((not_below_iff value low).0 e), λ h. refl)

high_within : (high : Option Fraction) (value : Fraction) (otherwise : Result (Option Violation) Refused) → (high_script high value otherwise ≡ Ok None) ↔ (((bound : Fraction) → high ≡ Some bound → value ≤ᶠ bound) × (otherwise ≡ Ok None))
high_within None value otherwise = (λ h. (λ bound e. absurd (cc), h), λ h. h.1)
high_within (Some high) value otherwise = go (is_below high value) refl (sub_outcome value high)
  where
    go : (t : Bool) → is_below high value ≡ t → (o : Result Fraction Refused) → (cond t (then {B = Option Violation} o (λ amount. Ok (Some (record { side = sides.Above; amount = amount })))) otherwise ≡ Ok None) ↔ (((bound : Fraction) → Some high ≡ Some bound → value ≤ᶠ bound) × (otherwise ≡ Ok None))
    go true e (Ok s) = (λ h. absurd (cc), λ h. absurd (not_le_f high value ((is_below_iff high value).0 e) (h.0 high refl)))
    go true e (Err r) = (λ h. absurd (cc), λ h. absurd (not_le_f high value ((is_below_iff high value).0 e) (h.0 high refl)))
    go false e o = (λ h. (λ bound k. let same : high ≡ bound = cc in subst (λ z. value ≤ᶠ z) same ((not_below_iff high value).0 e), h), λ h. h.1)

pub script_within : (l : Bounds) (value : Fraction) → (violation_script l value ≡ Ok None) ↔ IsWithin l value
script_within l value =
    let i = high_within l.high value (low_script l.low value) in
    let j = low_within l.low value in
    (λ h. record { above_low = j.0 ((i.0 h).1); below_high = (i.0 h).0 }, λ w. i.1 (w.below_high, j.1 w.above_low))

-- ---- the script at a value that passes a bound
pub above_script : (b : Bounds) (value high : Fraction) (r : Result (Option Violation) Refused) → b.high ≡ Some high → is_below high value ≡ true → r ≡ then (sub_outcome value high) (λ amount. Ok (Some (record { side = sides.Above; amount = amount }))) →
    r ≡ violation_script b value
above_script b value high r e t k =
    k
    ∙ sym (ap (λ t. cond t (then (sub_outcome value high) (λ amount. Ok (Some (record { side = sides.Above; amount = amount })))) (low_script b.low value)) t)
    ∙ sym (ap (λ o. high_script o value (low_script b.low value)) e)

pub below_script : (b : Bounds) (value low : Fraction) (r : Result (Option Violation) Refused) → violation_script b value ≡ low_script b.low value → b.low ≡ Some low → is_below value low ≡ true →
    r ≡ then (sub_outcome low value) (λ amount. Ok (Some (record { side = sides.Below; amount = amount }))) → r ≡ violation_script b value
below_script b value low r s e t k =
    k
    ∙ sym (ap (λ t. cond t (then (sub_outcome low value) (λ amount. Ok (Some (record { side = sides.Below; amount = amount })))) (Ok None)) t)
    ∙ sym (s ∙ ap (λ o. low_script o value) e)

pub not_above_script : (b : Bounds) (value high : Fraction) → b.high ≡ Some high → is_below high value ≡ false → violation_script b value ≡ low_script b.low value
not_above_script b value high e t =
    ap (λ o. high_script o value (low_script b.low value)) e
    ∙ ap (λ t. cond t (then (sub_outcome value high) (λ amount. Ok (Some (record { side = sides.Above; amount = amount })))) (low_script b.low value)) t

pub unbounded_script : (b : Bounds) (value : Fraction) → ((high : Fraction) → ¬ (b.high ≡ Some high)) → violation_script b value ≡ low_script b.low value
unbounded_script b value n = go b.high n
  where
    go : (o : Option Fraction) → ((high : Fraction) → ¬ (o ≡ Some high)) → high_script o value (low_script b.low value) ≡ low_script b.low value
    go None n = refl
    go (Some high) n = absurd (n high refl)

-- ---- what the answer of the program says then
pub answer_exact : (b : Bounds) (value : Fraction) (r : Result (Option Violation) Refused) → r ≡ violation_script b value →
    IfOk r (λ found. found ≡ violation b value)
answer_exact b value (Ok found) e = violation_value b value found (sym e)
answer_exact b value (Err r) e = tt

-- a difference that is asked for isn't None
never_none : (o : Result Fraction Refused) (side : Side) → then {B = Option Violation} o (λ amount. Ok (Some (record { side = side; amount = amount }))) ≡ Ok None → ⊥
never_none (Ok x) side e = cc
never_none (Err r) side e = cc

-- below its lower bound, a value isn't within its bounds
pub below_not_within : (b : Bounds) (value low : Fraction) → b.low ≡ Some low → is_below value low ≡ true → ¬ IsWithin b value
below_not_within b value low e t w = not_le_f value low ((is_below_iff value low).0 t) (w.above_low low e)

pub below_within : (b : Bounds) (value low : Fraction) (r : Result (Option Violation) Refused) → b.low ≡ Some low → is_below value low ≡ true → r ≡ then (sub_outcome low value) (λ amount. Ok (Some (record { side = sides.Below; amount = amount }))) →
    (r ≡ Ok None) ↔ IsWithin b value
below_within b value low r e t k = (λ h. absurd (never_none (sub_outcome low value) sides.Below (sym k ∙ h)), λ w. absurd (below_not_within b value low e t w))
