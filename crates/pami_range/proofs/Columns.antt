-- A column's entries bound what all its members bound.
use Rattle.std.proofs.Common.{◌≡◌, ℕ, List, length, get_or, Option, None, Some, Result, Ok, refl, sym, ap, ◌∙◌, arith}
use Rattle.pami_algebra.specs.Fraction.{Fraction}
use Rattle.pami_algebra.proofs.Field.{neg_nil_f}
use Rattle.pami_frac.specs.declared.arithmetic.Refused.{Refused}
use Rattle.pami_frac.specs.declared.list.Bounds.{Bounds}
use Rattle.pami_frac.specs.declared.list.Entry.{Entry}
use Rattle.pami_linear.specs.Lists.{get}
use Rattle.pami_script.specs.Script.{then}
use Rattle.pami_script.specs.Dense.{at}
use Rattle.pami_script.proofs.Scripts.{each_same}
use Rattle.pami_script.proofs.Skipped.{sparse_is_dense}
use Rattle.pami_theory.specs.Form.{zero_f}
use Rattle.pami_theory.specs.declared.words.Side.{Side}
use Rattle.pami_theory.specs.declared.words.Side.TheVariants.{Above, Below}
use Rattle.pami_theory.specs.Ratio.{toward}
use Rattle.pami_vec.specs.Entries.{AreEntriesOf}
use Rattle.pami_vec.proofs.Scripted.{get_at}
use Rattle.pami_range.specs.Scripts.{tighter, meet_script}
use Rattle.pami_range.specs.Lists.{bounds_at, bound_step, tightest_bound, tightest_over, end_by}
use Rattle.pami_range.specs.declared.span.End.{End}
use Rattle.pami_range.specs.declared.span.Span.{Span}
use Rattle.pami_range.proofs.Exact.{met_none}

pub tighter_none : (side : Side) (o : Option Fraction) → tighter side o None ≡ o
tighter_none Above None = refl
tighter_none Above (Some p) = refl
tighter_none Below None = refl
tighter_none Below (Some p) = refl

pub toward_nil : (side : Side) → toward side zero_f ≡ zero_f
toward_nil Above = refl
toward_nil Below = neg_nil_f

-- a member that is 0 bounds nothing
pub bound_nil : (side : Side) (l : Bounds) (x : Fraction) (o : Option Fraction) → bound_step side l x zero_f o ≡ Ok o
bound_nil side l x o =
    ap (λ m. then (meet_script x zero_f m) (λ next. Ok (tighter side o next))) (met_none side l zero_f (toward_nil side)) ∙ ap Ok (tighter_none side o)

pub column_bounds : (side : Side) (bounds : List Bounds) (head : List ℕ) (values x : List Fraction) (es : List Entry) → AreEntriesOf x es → tightest_bound side bounds head values es ≡ tightest_over side bounds head values x
column_bounds side bounds head values x es h =
    let step : ℕ → Fraction → Option Fraction → Result (Option Fraction) Refused = λ p a b. bound_step side (bounds_at bounds (get_or head p 0)) (get values p) a b in
    sym (each_same (length x) 0 (λ p b. bound_step side (bounds_at bounds (get_or head p 0)) (get values p) (get x p) b) (λ p b. bound_step side (bounds_at bounds (get_or head p 0)) (get values p) (at es p) b) None
    (λ p l m b. ap (λ a. bound_step side (bounds_at bounds (get_or head p 0)) (get values p) a b) (get_at x es p h (omega arith)))
    ∙ sparse_is_dense (length x) es step None h.rising (λ p b. bound_nil side (bounds_at bounds (get_or head p 0)) (get values p) b))

pub column_end : (side : Side) (bounds : List Bounds) (head : List ℕ) (values x : List Fraction) (es : List Entry) (own : Fraction) (e : End) → AreEntriesOf x es → e ≡ end_by own (tightest_bound side bounds head values es) → e ≡ end_by own (tightest_over side bounds head values x)
column_end side bounds head values x es own e h k = k ∙ ap (end_by own) (column_bounds side bounds head values x es h)

abbrev spanned : End → End → Span
spanned high low = record { low = low; high = high }

pub span_same : (l h m k : End) → l ≡ m → h ≡ k → ◌≡◌ {A = Span} (record { low = l; high = h }) (record { low = m; high = k })
span_same l h m k e i = ap (spanned h) e ∙ ap (λ (z : End). spanned z m) i
