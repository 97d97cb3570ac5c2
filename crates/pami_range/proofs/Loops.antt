-- Loops over the entries of a row or a column: one more entry, and what is read of it.
use Rattle.std.proofs.Common.{◌≡◌, ℕ, ◌<◌, List, length, get_or, Option, Result, sym, ap, ◌∙◌, subst, Bool, true, false}
use Rattle.std.proofs.lemmas.List.{get_or_read}
use Rattle.pami_algebra.specs.Fraction.{Fraction}
use Rattle.pami_algebra.specs.Operations.{neg_f, ◌<ᶠ◌, is_below}
use Rattle.pami_algebra.proofs.Field.{neg_nil_f}
use Rattle.pami_frac.specs.declared.arithmetic.Refused.{Refused}
use Rattle.pami_frac.specs.declared.list.Bounds.{Bounds}
use Rattle.pami_frac.specs.declared.list.Entry.{Entry}
use Rattle.pami_theory.specs.Form.{zero_f}
use Rattle.pami_theory.specs.declared.words.Side.{Side}
use Rattle.pami_theory.specs.declared.words.Side.TheVariants.{Above, Below}
use Rattle.pami_theory.specs.declared.words.Stand.{Stand}
use Rattle.pami_theory.specs.Ratio.{toward, may_enter}
use Rattle.pami_theory.proofs.Steps.{enters_not_zero}
use Rattle.pami_range.specs.Lists.{bounds_at, stand_at, cost_step, cost_step_at, bound_step, bound_step_at}
use Rattle.pami_frac.specs.Signs.{is_zero}
use Rattle.pami_frac.proofs.Outcomes.{not_zero_by_test}
use Rattle.pami_algebra.proofs.Strict.{lt_other_f}
use Rattle.pami_algebra.proofs.Tests.{is_below_iff}

pub cost_read : (side : Side) (bounds : List Bounds) (xs : List Stand) (reduced : List Fraction) (e : Entry) (so_far : Option Fraction) (r : Result (Option Fraction) Refused) (b : Bounds) (d : Fraction)
    → e.place < length bounds → length reduced ≡ length bounds
    → b ≡ get_or bounds e.place b → d ≡ get_or reduced e.place d
    → r ≡ cost_step side b (stand_at xs e.place) d e.value so_far → cost_step_at side bounds xs reduced e so_far ≡ r
cost_read side bounds xs reduced e so_far r b d l n hb hd h = sym (
    h
    ∙ ap (λ z. cost_step side z (stand_at xs e.place) d e.value so_far) (get_or_read bounds e.place b l hb _)
    ∙ ap (λ z. cost_step side (bounds_at bounds e.place) (stand_at xs e.place) z e.value so_far) (get_or_read reduced e.place d (subst (λ k. e.place < k) (sym n) l) hd _))

pub bound_read : (side : Side) (bounds : List Bounds) (head : List ℕ) (values : List Fraction) (e : Entry) (so_far : Option Fraction) (r : Result (Option Fraction) Refused) (b : Bounds) (x : Fraction)
    → e.place < length head → get_or head e.place 0 < length bounds → length values ≡ length head
    → b ≡ get_or bounds (get_or head e.place 0) b → x ≡ get_or values e.place x
    → r ≡ bound_step side b x e.value so_far → bound_step_at side bounds head values e so_far ≡ r
bound_read side bounds head values e so_far r b x l k m hb hx h = sym (
    h
    ∙ ap (λ z. bound_step side z x e.value so_far) (get_or_read bounds (get_or head e.place 0) b k hb _)
    ∙ ap (λ z. bound_step side (bounds_at bounds (get_or head e.place 0)) z e.value so_far) (get_or_read values e.place x (subst (λ n. e.place < n) (sym m) l) hx _))

-- ---- entries that bound aren't 0
pub toward_not_zero : (side : Side) (a : Fraction) → ¬ (toward side a ≡ zero_f) → ¬ (a ≡ zero_f)
toward_not_zero Above a n e = n e
toward_not_zero Below a n e = n (ap neg_f e ∙ neg_nil_f)

pub enters_nonzero : (side : Side) (s : Stand) (a : Fraction) → may_enter s (toward side a) ≡ true → ¬ (a ≡ zero_f)
enters_nonzero side s a h = toward_not_zero side a (enters_not_zero s (toward side a) h)

pub may_nonzero : (side : Side) (s : Stand) (a t : Fraction) (r : Bool) → t ≡ toward side a → r ≡ may_enter s t → r ≡ true → is_zero a ≡ false
may_nonzero side s a t r e h k = not_zero_by_test a (enters_nonzero side s a (ap (may_enter s) (sym e) ∙ sym h ∙ k))

pub above_nonzero : (side : Side) (a t z : Fraction) (r : Bool) → t ≡ toward side a → z ≡ zero_f → r ≡ is_below z t → r ≡ true → is_zero a ≡ false
above_nonzero side a t z r e i h k =
    let l : z <ᶠ t = (is_below_iff z t).0 (sym h ∙ k) in
    not_zero_by_test a (toward_not_zero side a (λ n. lt_other_f z t l (i ∙ sym (e ∙ n))))

pub below_nonzero : (side : Side) (a t z : Fraction) (r : Bool) → t ≡ toward side a → z ≡ zero_f → r ≡ is_below t z → r ≡ true → is_zero a ≡ false
below_nonzero side a t z r e i h k =
    let l : t <ᶠ z = (is_below_iff t z).0 (sym h ∙ k) in
    not_zero_by_test a (toward_not_zero side a (λ n. lt_other_f t z l ((e ∙ n) ∙ sym i)))
