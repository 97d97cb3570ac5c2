-- Scripts of ranging that aren't refused have the ends of the intervals.
use Rattle.std.proofs.Common.{◌≡◌, ◌↔◌, inl, inr, ⊎_elim, ℕ, zero, suc, ◌+◌, ◌<◌, Bool, true, false, nat_eq, List, [], ◌∷◌, length, Option, None, Some, Result, Ok, Err, refl, sym, ap, ◌∙◌, subst, arith, true≢false, get_or}
use Rattle.std.specs.Option.{option_map}
use Rattle.std.proofs.lemmas.Bool.{cases_eq, cond-true, cond-false, eq-eqb, ne_eqb}
use Rattle.std.proofs.lemmas.Option.{none-some, same_Some}
use Rattle.pami_algebra.specs.Fraction.{Fraction}
use Rattle.pami_algebra.specs.Operations.{◌+ᶠ◌, ◌-ᶠ◌, ◌/ᶠ◌, neg_f, ◌≤ᶠ◌, ◌<ᶠ◌, is_below}
use Rattle.pami_algebra.proofs.Field.{neg_nil_f}
use Rattle.pami_algebra.proofs.Order.{le_refl_f, le_trans_f}
use Rattle.pami_algebra.proofs.Strict.{lt_le_f}
use Rattle.pami_algebra.proofs.Products.{neg_above_f, neg_below_f}
use Rattle.pami_algebra.proofs.Tests.{is_below_iff, not_below_iff}
use Rattle.pami_linear.specs.Lists.{get}
use Rattle.pami_frac.specs.Arithmetic.{add_outcome, sub_outcome, div_outcome}
use Rattle.pami_frac.specs.declared.arithmetic.Refused.{Refused}
use Rattle.pami_frac.proofs.Outcomes.{add_value, sub_value, div_value}
use Rattle.pami_script.specs.Script.{then}
use Rattle.pami_script.proofs.Scripts.{then_ok, same_ok, each_keeps}
use Rattle.pami_theory.specs.Form.{Form, variables, limits, cost, IsWithin, zero_f}
use Rattle.pami_frac.specs.declared.list.Bounds.{Bounds}
use Rattle.pami_theory.specs.Basis.{Basis, head_at, stand_at}
use Rattle.pami_theory.specs.declared.words.Stand.{Stand}
use Rattle.pami_theory.specs.declared.words.Stand.TheVariants.{Basic, Lower, Upper, Zero}
use Rattle.pami_theory.specs.Fresh.{Fresh, row_at, column_at, value_at_place, standing_value}
use Rattle.pami_theory.specs.Violation.{is_fixed}
use Rattle.pami_theory.specs.declared.words.Side.{Side}
use Rattle.pami_theory.specs.declared.words.Side.TheVariants.{Above, Below}
use Rattle.pami_theory.specs.Ratio.{row_entry, toward}
use Rattle.pami_method.specs.Scripts.{is_nonbasic}
use Rattle.pami_ranging.specs.Ranges.{KeepsDualFeasible, KeepsPrimalFeasible, IsReadyForCosts, IsReadyForBounds, IsAtBound}
use Rattle.pami_ranging.specs.Intervals.{both, all_to, moved_by, when, bounds_from, change_to_zero, sign_limits, limits_of_variable, basic_cost_interval, cost_interval_by, nonbasic_cost_interval, change_to_bound, value_limits, limits_of_place, bound_interval}
use Rattle.pami_ranging.proofs.Ends.{AboveLow, BelowHigh}
use Rattle.pami_ranging.proofs.Quotients.{by_sign, limits_above, limits_below, limits_nil}
use Rattle.pami_ranging.proofs.Costs.{nonbasic_cost_range, basic_cost_range, own_nonbasic_cost, own_basic_cost}
use Rattle.pami_ranging.proofs.Bounds.{bound_range, own_bound}
use Rattle.pami_range.specs.declared.span.End.{End}
use Rattle.pami_range.specs.declared.span.End.TheVariants.{Infinite, At, Wide}
use Rattle.pami_range.specs.declared.span.Span.{Span}
use Rattle.pami_range.specs.Scripts.{tighter, tightest_script, moved_script, end_script, change_script, when_script, cost_quotient, basic_cost_script, own_difference, own_cost_script, nonbasic_cost_script, met_bound, meet_script, bound_quotient, bound_script, end_of, end_after, span_after, place_of, row_refused, cost_span_by, cost_span, column_refused, bound_span_by, bound_span}
use Rattle.pami_range.specs.Exact.{known_end, IsWide, IsEnd, AreEnds, IsFrom, IsUpTo, IsSpanOf, IsSpanIfAny}

-- ---- ends of intervals
-- on one side
abbrev pub end_on : Side → Bounds → Option Fraction
end_on Above l = l.high
end_on Below l = l.low

end_of_both : (side : Side) (l m : Bounds) → tighter side (end_on side l) (end_on side m) ≡ end_on side (both l m)
end_of_both Above l m = refl
end_of_both Below l m = refl

end_of_none : (side : Side) (l : ℕ → Bounds) → None ≡ end_on side (all_to 0 l)
end_of_none Above l = refl
end_of_none Below l = refl

end_of_moved : (side : Side) (c : Fraction) (l : Bounds) → option_map (λ t. c +ᶠ t) (end_on side l) ≡ end_on side (moved_by c l)
end_of_moved Above c l = refl
end_of_moved Below c l = refl

-- what a script has where it isn't refused
abbrev pub HasValue : {A : Type 0} → Result A Refused → A → Type 0
HasValue {A} script v = (x : A) → script ≡ Ok x → x ≡ v

ok_is : {A : Type 0} (v x : A) → ◌≡◌ {A = Result A Refused} (Ok v) (Ok x) → x ≡ v
ok_is v x e = sym (same_ok (Ok v) v x refl e)

-- ---- the tightest one
pub tightest_value : (side : Side) (n : ℕ) (quotient : ℕ → Result (Option Fraction) Refused) (l : ℕ → Bounds) → ((k : ℕ) → HasValue (quotient k) (end_on side (l k))) → HasValue (tightest_script side n quotient) (end_on side (all_to n l))
tightest_value side n quotient l h x e =
    let at : 0 + n ≡ n = omega arith in
    subst (λ m. x ≡ end_on side (all_to m l)) at (each_keeps (λ k a. a ≡ end_on side (all_to k l)) n 0 (λ k so_far. then (quotient k) (λ next. Ok (tighter side so_far next))) None x
    (λ k i j a b g s. let q = then_ok (quotient k) (λ next. Ok (tighter side a next)) b s in
    ok_is (tighter side a q.0) b q.1.1
    ∙ ap (λ z. tighter side z q.0) g
    ∙ ap (tighter side (end_on side (all_to k l))) (h k q.0 q.1.0)
    ∙ end_of_both side (all_to k l) (l k))
    (end_of_none side l) e)

moved_value : (c : Fraction) (o : Option Fraction) → HasValue (moved_script c o) (option_map (λ t. c +ᶠ t) o)
moved_value c None x e = ok_is None x e
moved_value c (Some t) x e = let s = then_ok (add_outcome c t) (λ v. Ok (Some v)) x e in ok_is (Some s.0) x s.1.1 ∙ ap Some (add_value c t s.0 s.1.0)

pub end_value : (side : Side) (c : Fraction) (n : ℕ) (quotient : ℕ → Result (Option Fraction) Refused) (l : ℕ → Bounds) → ((k : ℕ) → HasValue (quotient k) (end_on side (l k))) → HasValue (end_script side c n quotient) (end_on side (moved_by c (all_to n l)))
end_value side c n quotient l h x e =
    let s = then_ok (tightest_script side n quotient) (moved_script c) x e in
    moved_value c s.0 x s.1.1
    ∙ ap (option_map (λ t. c +ᶠ t)) (tightest_value side n quotient l h s.0 s.1.0)
    ∙ end_of_moved side c (all_to n l)

-- ---- costs
change_value : (s : Stand) (d a : Fraction) → HasValue (change_script s d a) (change_to_zero s d a)
change_value Basic d a x e = div_value d a x e
change_value Lower d a x e = div_value d a x e
change_value Upper d a x e = div_value d a x e
change_value Zero d a x e = ok_is zero_f x e

when_value : (c : Bool) (r : Result Fraction Refused) (q : Fraction) → HasValue r q → HasValue (when_script c r) (when c q)
when_value true r q h x e = let s = then_ok r (λ z. Ok (Some z)) x e in ok_is (Some s.0) x s.1.1 ∙ ap Some (h s.0 s.1.0)
when_value false r q h x e = ok_is None x e

end_of_sign : (side : Side) (fixed : Bool) (s : Stand) (d a : Fraction) → when (bounds_from side fixed s a) (change_to_zero s d a) ≡ end_on side (sign_limits fixed s d a)
end_of_sign Above fixed s d a = refl
end_of_sign Below fixed s d a = refl

cost_value : (f : Form) (b : Basis) (s : Fresh) (p : ℕ) (side : Side) (k : ℕ) → HasValue (cost_quotient f b s p side k) (end_on side (limits_of_variable f b s p k))
cost_value f b s p side k x e =
    let d : Fraction = get s.reduced k in
    let a : Fraction = row_entry f (row_at s p) k in
    when_value (bounds_from side (is_fixed (limits f k)) (stand_at b k) a) (change_script (stand_at b k) d a) (change_to_zero (stand_at b k) d a) (change_value (stand_at b k) d a) x e
    ∙ end_of_sign side (is_fixed (limits f k)) (stand_at b k) d a

pub basic_cost_value : (f : Form) (b : Basis) (s : Fresh) (p : ℕ) (side : Side) → HasValue (basic_cost_script f b s p side) (end_on side (basic_cost_interval f b s p))
basic_cost_value f b s p side = end_value side (cost f (head_at b p)) (variables f) (cost_quotient f b s p side) (limits_of_variable f b s p) (cost_value f b s p side)

difference_value : (c d : Fraction) → HasValue (own_difference c d) (Some (c -ᶠ d))
difference_value c d x e = let s = then_ok (sub_outcome c d) (λ v. Ok (Some v)) x e in ok_is (Some s.0) x s.1.1 ∙ ap Some (sub_value c d s.0 s.1.0)

own_value : (fixed : Bool) (s : Stand) (c d : Fraction) (side : Side) → HasValue (own_cost_script fixed s c d side) (end_on side (cost_interval_by fixed s c d))
own_value true s c d Above x e = ok_is None x e
own_value true s c d Below x e = ok_is None x e
own_value false Basic c d Above x e = ok_is None x e
own_value false Basic c d Below x e = ok_is None x e
own_value false Lower c d Above x e = ok_is None x e
own_value false Lower c d Below x e = difference_value c d x e
own_value false Upper c d Above x e = difference_value c d x e
own_value false Upper c d Below x e = ok_is None x e
own_value false Zero c d Above x e = ok_is (Some c) x e
own_value false Zero c d Below x e = ok_is (Some c) x e

-- ---- bounds
meet_value : (x a : Fraction) (bound : Option Fraction) → HasValue (meet_script x a bound) (change_to_bound x a bound)
meet_value x a None z e = ok_is None z e
meet_value x a (Some w) z e =
    let s = then_ok (sub_outcome x w) (λ u. then (div_outcome u a) (λ q. Ok (Some q))) z e in
    let t = then_ok (div_outcome s.0 a) (λ q. Ok (Some q)) z s.1.1 in
    ok_is (Some t.0) z t.1.1 ∙ ap Some (div_value s.0 a t.0 t.1.0 ∙ ap (λ u. u /ᶠ a) (sub_value x w s.0 s.1.0))

-- the bound that is met, for what moves upward and downward
met_first : (side : Side) (l : Bounds) (a : Fraction) → zero_f <ᶠ toward side a → met_bound side l a ≡ l.low
met_first side l a h = cond-true (is_below zero_f (toward side a)) _ _ ((is_below_iff zero_f (toward side a)).1 h)

met_second : (side : Side) (l : Bounds) (a : Fraction) → toward side a <ᶠ zero_f → met_bound side l a ≡ l.high
met_second side l a h =
    cond-false (is_below zero_f (toward side a)) _ _ ((not_below_iff zero_f (toward side a)).1 (lt_le_f (toward side a) zero_f h))
    ∙ cond-true (is_below (toward side a) zero_f) _ _ ((is_below_iff (toward side a) zero_f).1 h)

pub met_none : (side : Side) (l : Bounds) (a : Fraction) → toward side a ≡ zero_f → met_bound side l a ≡ None
met_none side l a e =
    cond-false (is_below zero_f (toward side a)) _ _ ((not_below_iff zero_f (toward side a)).1 (subst (λ z. z ≤ᶠ zero_f) (sym e) (le_refl_f zero_f)))
    ∙ cond-false (is_below (toward side a) zero_f) _ _ ((not_below_iff (toward side a) zero_f).1 (subst (λ z. zero_f ≤ᶠ z) (sym e) (le_refl_f zero_f)))

end_of_value : (side : Side) (l : Bounds) (x a : Fraction) → change_to_bound x a (met_bound side l a) ≡ end_on side (value_limits l x a)
end_of_value Above l x a = by_sign a (change_to_bound x a (met_bound Above l a) ≡ end_on Above (value_limits l x a))
    (λ h. ap (change_to_bound x a) (met_first Above l a h) ∙ sym (ap (end_on Above) (limits_above l x a h)))
    (λ h. ap (change_to_bound x a) (met_second Above l a h) ∙ sym (ap (end_on Above) (limits_below l x a h)))
    (λ e. ap (change_to_bound x a) (met_none Above l a e) ∙ sym (ap (end_on Above) (limits_nil l x a e)))
end_of_value Below l x a = by_sign a (change_to_bound x a (met_bound Below l a) ≡ end_on Below (value_limits l x a))
    (λ h. ap (change_to_bound x a) (met_second Below l a (neg_below_f a h)) ∙ sym (ap (end_on Below) (limits_above l x a h)))
    (λ h. ap (change_to_bound x a) (met_first Below l a (neg_above_f a h)) ∙ sym (ap (end_on Below) (limits_below l x a h)))
    (λ e. ap (change_to_bound x a) (met_none Below l a (ap neg_f e ∙ neg_nil_f)) ∙ sym (ap (end_on Below) (limits_nil l x a e)))

bound_value : (f : Form) (b : Basis) (s : Fresh) (v : ℕ) (side : Side) (p : ℕ) → HasValue (bound_quotient f b s v side p) (end_on side (limits_of_place f b s v p))
bound_value f b s v side p z e =
    let l : Bounds = limits f (head_at b p) in
    let x : Fraction = value_at_place b s p in
    let a : Fraction = get (column_at s v) p in
    meet_value x a (met_bound side l a) z e ∙ end_of_value side l x a

pub bound_script_value : (f : Form) (b : Basis) (s : Fresh) (v : ℕ) (side : Side) → HasValue (bound_script f b s v side) (end_on side (bound_interval f b s v))
bound_script_value f b s v side = end_value side (standing_value (limits f v) (stand_at b v)) f.rows (bound_quotient f b s v side) (limits_of_place f b s v) (bound_value f b s v side)

-- ---- spans
end_is : (script : Result (Option Fraction) Refused) (o : Option Fraction) → HasValue script o → IsEnd (end_of script) o
end_is (Ok None) o h = inr (ap known_end (h None refl))
end_is (Ok (Some v)) o h = inr (ap known_end (h (Some v) refl))
end_is (Err r) o h = inl tt

end_after_is : (refused : Option Refused) (script : Result (Option Fraction) Refused) (o : Option Fraction) → HasValue script o → IsEnd (end_after refused script) o
end_after_is None script o h = end_is script o h
end_after_is (Some r) script o h = inl tt

pub span_ends : (refused : Option Refused) (script : Side → Result (Option Fraction) Refused) (l : Bounds) → ((side : Side) → HasValue (script side) (end_on side l)) → AreEnds (span_after refused script) l
span_ends refused script l h = record { low = end_after_is refused (script Below) l.low (h Below); high = end_after_is refused (script Above) l.high (h Above) }

from_end : (e : End) (o : Option Fraction) (c : Fraction) → IsEnd e o → AboveLow o c → IsFrom e c
from_end Infinite o c h g = tt
from_end (At v) None c (inl w) g = absurd w
from_end (At v) None c (inr i) g = absurd (cc)
from_end (At v) (Some q) c (inl w) g = absurd w
from_end (At v) (Some q) c (inr i) g = let same : q ≡ v = cc in subst (λ z. z ≤ᶠ c) same (g q refl)
from_end (Wide r) o c h g = tt

up_to_end : (e : End) (o : Option Fraction) (c : Fraction) → IsEnd e o → BelowHigh o c → IsUpTo e c
up_to_end Infinite o c h g = tt
up_to_end (At v) None c (inl w) g = absurd w
up_to_end (At v) None c (inr i) g = absurd (cc)
up_to_end (At v) (Some q) c (inl w) g = absurd w
up_to_end (At v) (Some q) c (inr i) g = let same : q ≡ v = cc in subst (λ z. c ≤ᶠ z) same (g q refl)
up_to_end (Wide r) o c h g = tt

from_known : (o : Option Fraction) (c : Fraction) → IsFrom (known_end o) c → AboveLow o c
from_known None c h q e = absurd (none-some q e)
from_known (Some v) c h q e = subst (λ z. z ≤ᶠ c) (same_Some v q e) h

up_to_known : (o : Option Fraction) (c : Fraction) → IsUpTo (known_end o) c → BelowHigh o c
up_to_known None c h q e = absurd (none-some q e)
up_to_known (Some v) c h q e = subst (λ z. c ≤ᶠ z) (same_Some v q e) h

known : (e : End) (o : Option Fraction) → ¬ IsWide e → IsEnd e o → e ≡ known_end o
known e o n (inl w) = absurd (n w)
known e o n (inr i) = i

pub span_of : (P : Fraction → Type 0) (own : Fraction) (l : Bounds) (span : Span) → ((c : Fraction) → P c ↔ IsWithin l c) → IsWithin l own → AreEnds span l → IsSpanOf P own span
span_of P own l span h w e = record {
  from = λ c p. from_end span.low l.low c e.low ((h c).0 p).above_low;
  up_to = λ c p. up_to_end span.high l.high c e.high ((h c).0 p).below_high;
  below = λ c n g m. (h c).1 (record {
    above_low = from_known l.low c (subst (λ z. IsFrom z c) (known span.low l.low n e.low) g);
    below_high = λ q i. le_trans_f c own q m (w.below_high q i);
  });
  above = λ c n g m. (h c).1 (record {
    above_low = λ q i. le_trans_f q own c (w.above_low q i) m;
    below_high = up_to_known l.high c (subst (λ z. IsUpTo z c) (known span.high l.high n e.high) g);
  });
}

-- ---- of a column's cost
abbrev IsPlace : List ℕ → ℕ → ℕ → Type 0
IsPlace vs v n = (n < length vs) × (get_or vs n 0 ≡ v)

later_place : (w : ℕ) (ws : List ℕ) (v p : ℕ) → IsPlace (w ∷ ws) v p → ¬ (w ≡ v) → ((q : ℕ) → IsPlace ws v q → IsPlace ws v (place_of ws v)) → IsPlace (w ∷ ws) v (suc (place_of ws v))
later_place w ws v zero h n go = absurd (n h.1)
later_place w ws v (suc q) h n go =
    let i : suc q < length (w ∷ ws) = h.0 in
    let r = go q (omega arith, h.1) in
    let k : place_of ws v < length ws = r.0 in
    (omega arith, r.1)

pub place_found : (vs : List ℕ) (v p : ℕ) → IsPlace vs v p → IsPlace vs v (place_of vs v)
place_found [] v p h = let i : p < 0 = h.0 in absurd (omega arith)
place_found (w ∷ ws) v p h = ⊎_elim
    (λ (i : w ≡ v). subst (IsPlace (w ∷ ws) v) (sym (cond-true (nat_eq w v) 0 (suc (place_of ws v)) (eq-eqb w v i))) (omega arith, i))
    (λ (n : ¬ (w ≡ v)). subst (IsPlace (w ∷ ws) v) (sym (cond-false (nat_eq w v) 0 (suc (place_of ws v)) (ne_eqb w v n))) (later_place w ws v p h n (λ q. place_found ws v q)))
    (cases_eq w v)

nonbasic_stand : (s : Stand) → is_nonbasic s ≡ true → ¬ (s ≡ Basic)
nonbasic_stand s e i = true≢false (sym e ∙ ap is_nonbasic i)

basic_stand : (s : Stand) → is_nonbasic s ≡ false → s ≡ Basic
basic_stand Basic e = refl
basic_stand Lower e = absurd (true≢false e)
basic_stand Upper e = absurd (true≢false e)
basic_stand Zero e = absurd (true≢false e)

pub cost_span_is : (f : Form) (b : Basis) (s : Fresh) (j : ℕ) → IsReadyForCosts f b s → j < f.columns → IsSpanOf (KeepsDualFeasible f b j) (cost f j) (cost_span f b s j)
cost_span_is f b s j r l = go (is_nonbasic (stand_at b j)) refl
  where
    go : (c : Bool) → is_nonbasic (stand_at b j) ≡ c → IsSpanOf (KeepsDualFeasible f b j) (cost f j) (cost_span_by f b s j c)
    go true e =
        let n = nonbasic_stand (stand_at b j) e in
        span_of (KeepsDualFeasible f b j) (cost f j) (nonbasic_cost_interval f b s j) (span_after None (nonbasic_cost_script f b s j))
        (λ c. nonbasic_cost_range f b s j c r l n) (own_nonbasic_cost f b s j r l n)
        (span_ends None (nonbasic_cost_script f b s j) (nonbasic_cost_interval f b s j) (own_value (is_fixed (limits f j)) (stand_at b j) (cost f j) (get s.reduced j)))
    go false e =
        let m : j < variables f = omega arith in
        let at = r.basis.placed j m (basic_stand (stand_at b j) e) in
        let p : ℕ = place_of b.head j in
        let found = place_found b.head j at.0 (subst (λ n. at.0 < n) (sym r.basis.places) at.1, at.2) in
        let low : p < f.rows = subst (λ n. place_of b.head j < n) r.basis.places found.0 in
        let here : head_at b p ≡ j = found.1 in
        let is : head_at b p < f.columns = subst (λ v. v < f.columns) (sym here) l in
        subst (λ v. IsSpanOf (KeepsDualFeasible f b v) (cost f v) (cost_span_by f b s j false)) here
        (span_of (KeepsDualFeasible f b (head_at b p)) (cost f (head_at b p)) (basic_cost_interval f b s p) (span_after (row_refused f b s p) (basic_cost_script f b s p))
        (λ c. basic_cost_range f b s p c r low is) (own_basic_cost f b s p r low is)
        (span_ends (row_refused f b s p) (basic_cost_script f b s p) (basic_cost_interval f b s p) (basic_cost_value f b s p)))

-- ---- of a bound
pub bound_span_is : (f : Form) (b : Basis) (s : Fresh) (v : ℕ) → IsReadyForBounds f b s → v < variables f → IsSpanIfAny (KeepsPrimalFeasible f b v) (standing_value (limits f v) (stand_at b v)) (bound_span f b s v)
bound_span_is f b s v r l = go (stand_at b v) refl
  where
    at_bound : IsAtBound (stand_at b v) → IsSpanOf (KeepsPrimalFeasible f b v) (standing_value (limits f v) (stand_at b v)) (span_after (column_refused f b v) (bound_script f b s v))
    at_bound h = span_of (KeepsPrimalFeasible f b v) (standing_value (limits f v) (stand_at b v)) (bound_interval f b s v) (span_after (column_refused f b v) (bound_script f b s v))
        (λ c. bound_range f b s v c r l h) (own_bound f b s v r l h)
        (span_ends (column_refused f b v) (bound_script f b s v) (bound_interval f b s v) (bound_script_value f b s v))

    go : (t : Stand) → stand_at b v ≡ t → IsSpanIfAny (KeepsPrimalFeasible f b v) (standing_value (limits f v) (stand_at b v)) (bound_span_by f b s v t)
    go Basic e = tt
    go Lower e = at_bound (inl e)
    go Upper e = at_bound (inr e)
    go Zero e = tt
