-- How far values are outside of their bounds, widths, and fixed variables.
use Rattle.std.proofs.Common.{◌≡◌, ◌↔◌, ◌⊎◌, inl, inr, ⊎_elim, Bool, true, false, IsTrue, if◌then◌else◌, Option, None, Some, refl, sym, ap, ◌∙◌, subst, true≢false}
use Rattle.std.proofs.lemmas.Option.{none-some, same_Some}
use Rattle.pami_algebra.specs.Fraction.{Fraction}
use Rattle.pami_algebra.specs.Operations.{◌-ᶠ◌, ◌<ᶠ◌, is_below}
use Rattle.pami_algebra.proofs.Strict.{lt_le_trans_f, lt_irrefl_f, lt_trans_f}
use Rattle.pami_algebra.proofs.Products.{gap_above}
use Rattle.pami_algebra.proofs.Tests.{is_below_iff}
use Rattle.pami_frac.specs.declared.list.Bounds.{Bounds}
use Rattle.pami_theory.specs.Form.{IsUncrossed, zero_f}
use Rattle.pami_theory.specs.Fresh.{IsOutside, IsFixed}
use Rattle.pami_theory.specs.declared.words.Side.{Side}
use Rattle.pami_theory.specs.declared.words.Side.TheVariants.{Above, Below}
use Rattle.pami_theory.specs.declared.words.Violation.{Violation}
use Rattle.pami_theory.specs.Violation.{below_low, above_high, violation, IsPast, width_by, width, fixed_by, is_fixed}
use Rattle.pami_theory.proofs.Signs.{is_same_iff}

-- ---- where it is found
low_found : (o : Option Fraction) (value : Fraction) (v : Violation) → below_low o value ≡ Some v → (low : Fraction) × (o ≡ Some low) × (value <ᶠ low) × (v ≡ record { side = Below; amount = low -ᶠ value })
low_found None value v e = absurd (none-some v e)
low_found (Some low) value v e = go (is_below value low) refl e
  where
    go : (b : Bool) → is_below value low ≡ b → (if b then Some (record { side = Below; amount = low -ᶠ value }) else None) ≡ Some v → (k : Fraction) × (Some low ≡ Some k) × (value <ᶠ k) × (v ≡ record { side = Below; amount = k -ᶠ value })
    go true i k = (low, refl, (is_below_iff value low).0 i, sym (same_Some (record { side = Below; amount = low -ᶠ value }) v k))
    go false i k = absurd (none-some v k)

high_found : (o : Option Fraction) (value : Fraction) (otherwise : Option Violation) (v : Violation) → above_high o value otherwise ≡ Some v → ((high : Fraction) × (o ≡ Some high) × (high <ᶠ value) × (v ≡ record { side = Above; amount = value -ᶠ high })) ⊎ (otherwise ≡ Some v)
high_found None value otherwise v e = inr e
high_found (Some high) value otherwise v e = go (is_below high value) refl e
  where
    go : (b : Bool) → is_below high value ≡ b → (if b then Some (record { side = Above; amount = value -ᶠ high }) else otherwise) ≡ Some v → ((k : Fraction) × (Some high ≡ Some k) × (k <ᶠ value) × (v ≡ record { side = Above; amount = value -ᶠ k })) ⊎ (otherwise ≡ Some v)
    go true i k = inl (high, refl, (is_below_iff high value).0 i, sym (same_Some (record { side = Above; amount = value -ᶠ high }) v k))
    go false i k = inr k

pub violation_past : (l : Bounds) (value : Fraction) (v : Violation) → violation l value ≡ Some v → IsPast v.side l value v.amount
violation_past l value v e = ⊎_elim
    (λ (h : (high : Fraction) × (l.high ≡ Some high) × (high <ᶠ value) × (v ≡ record { side = Above; amount = value -ᶠ high })).
    subst (λ (z : Violation). IsPast z.side l value z.amount) (sym h.3) (h.0, h.1, h.2, refl))
    (λ (h : below_low l.low value ≡ Some v). let k = low_found l.low value v h in
    subst (λ (z : Violation). IsPast z.side l value z.amount) (sym k.3) (k.0, k.1, k.2, refl))
    (high_found l.high value (below_low l.low value) v e)

pub past_positive : (s : Side) (l : Bounds) (value amount : Fraction) → IsPast s l value amount → zero_f <ᶠ amount
past_positive Above l value amount h = subst (λ z. zero_f <ᶠ z) (sym h.3) (gap_above h.0 value h.2)
past_positive Below l value amount h = subst (λ z. zero_f <ᶠ z) (sym h.3) (gap_above value h.0 h.2)

pub violation_positive : (l : Bounds) (value : Fraction) (v : Violation) → violation l value ≡ Some v → zero_f <ᶠ v.amount
violation_positive l value v e = past_positive v.side l value v.amount (violation_past l value v e)

-- ---- and only there
past_outside : (s : Side) (l : Bounds) (value amount : Fraction) → IsPast s l value amount → IsOutside l value
past_outside Above l value amount h = inl (h.0, h.1, h.2)
past_outside Below l value amount h = inr (h.0, h.1, h.2)

finds_high : (o : Option Fraction) (value high : Fraction) (otherwise : Option Violation) → o ≡ Some high → high <ᶠ value → above_high o value otherwise ≡ Some (record { side = Above; amount = value -ᶠ high })
finds_high o value high otherwise e l =
    ap (λ z. above_high z value otherwise) e
    ∙ ap (λ c. if c then Some (record { side = Above; amount = value -ᶠ high }) else otherwise) ((is_below_iff high value).1 l)

finds_low : (o : Option Fraction) (value low : Fraction) → o ≡ Some low → value <ᶠ low → below_low o value ≡ Some (record { side = Below; amount = low -ᶠ value })
finds_low o value low e l =
    ap (λ z. below_low z value) e
    ∙ ap (λ c. if c then Some (record { side = Below; amount = low -ᶠ value }) else None) ((is_below_iff value low).1 l)

passes_high : (o : Option Fraction) (value : Fraction) (otherwise : Option Violation) → ((high : Fraction) → o ≡ Some high → ¬ (high <ᶠ value)) → above_high o value otherwise ≡ otherwise
passes_high None value otherwise n = refl
passes_high (Some high) value otherwise n = go (is_below high value) refl
  where
    go : (b : Bool) → is_below high value ≡ b → (if b then Some (record { side = Above; amount = value -ᶠ high }) else otherwise) ≡ otherwise
    go true e = absurd (n high refl ((is_below_iff high value).0 e))
    go false e = refl

high_or_low : (o : Option Fraction) (value : Fraction) (otherwise : Option Violation) (w : Violation) → otherwise ≡ Some w → (v : Violation) × (above_high o value otherwise ≡ Some v)
high_or_low None value otherwise w e = (w, e)
high_or_low (Some high) value otherwise w e = go (is_below high value)
  where
    go : (b : Bool) → (v : Violation) × ((if b then Some (record { side = Above; amount = value -ᶠ high }) else otherwise) ≡ Some v)
    go true = (record { side = Above; amount = value -ᶠ high }, refl)
    go false = (w, e)

pub outside_found : (l : Bounds) (value : Fraction) → IsOutside l value → (v : Violation) × (violation l value ≡ Some v)
outside_found l value o = ⊎_elim
    (λ (h : (high : Fraction) × (l.high ≡ Some high) × (high <ᶠ value)). (record { side = Above; amount = value -ᶠ h.0 }, finds_high l.high value h.0 (below_low l.low value) h.1 h.2))
    (λ (h : (low : Fraction) × (l.low ≡ Some low) × (value <ᶠ low)). high_or_low l.high value (below_low l.low value) (record { side = Below; amount = h.0 -ᶠ value }) (finds_low l.low value h.0 h.1 h.2))
    o

pub violation_none : (l : Bounds) (value : Fraction) → violation l value ≡ None ↔ (¬ IsOutside l value)
violation_none l value = (
  λ e o. let v = outside_found l value o in none-some v.0 (sym e ∙ v.1),
  λ n. go (violation l value) refl n,
)
  where
    go : (o : Option Violation) → violation l value ≡ o → ¬ IsOutside l value → o ≡ None
    go None e n = refl
    go (Some v) e n = absurd (n (past_outside v.side l value v.amount (violation_past l value v e)))

-- where the bounds are in order, a value is past one of them alone
pub past_violation : (s : Side) (l : Bounds) (value amount : Fraction) → IsUncrossed l → IsPast s l value amount → violation l value ≡ Some (record { side = s; amount = amount })
past_violation Above l value amount u h = finds_high l.high value h.0 (below_low l.low value) h.1 h.2 ∙ ap (λ z. Some (record { side = Above; amount = z })) (sym h.3)
past_violation Below l value amount u h =
    passes_high l.high value (below_low l.low value) (λ high e k. lt_irrefl_f high (lt_trans_f high value high k (lt_le_trans_f value h.0 high h.2 (u.ordered h.0 high h.1 e))))
    ∙ finds_low l.low value h.0 h.1 h.2
    ∙ ap (λ z. Some (record { side = Below; amount = z })) (sym h.3)

-- ---- widths
abbrev pub IsWidth : Bounds → Fraction → Type 0
IsWidth l w = (low : Fraction) × (high : Fraction) × (l.low ≡ Some low) × (l.high ≡ Some high) × (low <ᶠ high) × (w ≡ high -ᶠ low)

width_parts : (o p : Option Fraction) (w : Fraction) → width_by o p ≡ Some w → IsWidth (record { low = o; high = p }) w
width_parts None p w e = absurd (none-some w e)
width_parts (Some low) None w e = absurd (none-some w e)
width_parts (Some low) (Some high) w e = go (is_below low high) refl e
  where
    go : (b : Bool) → is_below low high ≡ b → (if b then Some (high -ᶠ low) else None) ≡ Some w → IsWidth (record { low = Some low; high = Some high }) w
    go true i k = (low, high, refl, refl, (is_below_iff low high).0 i, sym (same_Some (high -ᶠ low) w k))
    go false i k = absurd (none-some w k)

pub width_is : (l : Bounds) (w : Fraction) → width l ≡ Some w → IsWidth l w
width_is l w e = width_parts l.low l.high w e

pub width_of : (l : Bounds) (w : Fraction) → IsWidth l w → width l ≡ Some w
width_of l w h =
    ap (λ z. width_by z l.high) h.2 ∙ ap (width_by (Some h.0)) h.3
    ∙ ap (λ c. if c then Some (h.1 -ᶠ h.0) else None) ((is_below_iff h.0 h.1).1 h.4)
    ∙ ap Some (sym h.5)

pub width_iff : (l : Bounds) (w : Fraction) → width l ≡ Some w ↔ IsWidth l w
width_iff l w = (width_is l w, width_of l w)

-- ---- fixed variables
fixed_parts : (o p : Option Fraction) → fixed_by o p ≡ true → IsFixed (record { low = o; high = p })
fixed_parts None p e = absurd (true≢false (sym e))
fixed_parts (Some low) None e = absurd (true≢false (sym e))
fixed_parts (Some low) (Some high) e = (low, refl, ap Some (sym ((is_same_iff low high).0 e)))

pub fixed_iff : (l : Bounds) → IsTrue (is_fixed l) ↔ IsFixed l
fixed_iff l = (fixed_parts l.low l.high, λ h. ap (λ z. fixed_by z l.high) h.1 ∙ ap (fixed_by (Some h.0)) h.2 ∙ (is_same_iff h.0 h.0).1 refl)
