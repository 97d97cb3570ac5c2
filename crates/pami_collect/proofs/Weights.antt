-- The loop over the pivots that the weights go through.
use Rattle.std.proofs.Common.{◌≡◌, ℕ, ◌+◌, ◌<◌, List, length, drop, get_or, false, ap, ◌∙◌, sym, subst, arith}
use Rattle.pami_algebra.specs.Fraction.{Fraction}
use Rattle.pami_frac.specs.declared.list.Entry.{Entry}
use Rattle.pami_frac.specs.Signs.{is_zero}
use Rattle.pami_script.specs.Dense.{at, dense}
use Rattle.pami_theory.specs.Weights.{weights_after}
use Rattle.pami_vec.specs.Entries.{AreEntriesOf}
use Rattle.pami_vec.specs.Pivots.{column_pivots, IsPivot, ArePivots}
use Rattle.pami_vec.proofs.Scripted.{get_at}
use Rattle.pami_vec.specs.declared.step.Pivot.{Pivot}
use Rattle.pami_deferral.specs.Collected.{reweighed}
use Rattle.pami_collect.proofs.Totals.{rest_at}

-- from the pivot of this index on
abbrev pub weights_left : List Pivot → ℕ → List ℕ → List ℕ
weights_left ps i weights = reweighed (column_pivots (drop i ps)) weights

pub weights_go_on : (all : List ℕ) (ps : List Pivot) (i : ℕ) (p : Pivot) (weights next : List ℕ) (es : List Entry) → all ≡ weights_left ps i weights
    → i < length ps → p ≡ get_or ps i p → AreEntriesOf p.column es → length p.column ≡ length weights
    → next ≡ weights_after (dense (length weights) es) p.place weights → all ≡ weights_left ps (i + 1) next
weights_go_on all ps i p weights next es h l e a n k =
    h ∙ ap (λ qs. reweighed (column_pivots qs) weights) (rest_at ps i p l e)
    ∙ ap (reweighed (column_pivots (drop (i + 1) ps)))
    (ap (λ (c : List Fraction). weights_after c p.place weights) (sym a.values ∙ ap (λ m. dense m es) n) ∙ sym k)

-- the pivot that is read is one
pub read_pivot : (n : ℕ) (ps : List Pivot) (i : ℕ) (p : Pivot) → ArePivots n ps → i < length ps → p ≡ get_or ps i p → IsPivot n p
read_pivot n ps i p a l e = subst (IsPivot n) (sym e) (a i p l)

pub pivot_entry : (n : ℕ) (p : Pivot) (es : List Entry) → IsPivot n p → AreEntriesOf p.column es → is_zero (at es p.place) ≡ false
pivot_entry n p es h a =
    let low = h.0 in
    let long = h.1 in
    ap is_zero (sym (get_at p.column es p.place a (omega (arith, low, long)))) ∙ h.2
