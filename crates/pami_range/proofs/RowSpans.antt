-- What a program's lists give for the cost of a column is the span of the definition.
use Rattle.std.proofs.Common.{◌≡◌, ℕ, ◌+◌, ◌<◌, Bool, true, false, cond, List, [], length, get_or, Option, None, Result, Ok, Err, refl, sym, ap, ◌∙◌, subst, arith, true≢false}
use Rattle.pami_algebra.specs.Fraction.{Fraction}
use Rattle.pami_linear.specs.Lists.{get}
use Rattle.pami_frac.specs.declared.arithmetic.Refused.{Refused}
use Rattle.pami_frac.specs.declared.list.Bounds.{Bounds}
use Rattle.pami_frac.specs.declared.list.Entry.{Entry}
use Rattle.pami_script.specs.Script.{then}
use Rattle.pami_script.specs.Dense.{at, Rising}
use Rattle.pami_script.proofs.Scripts.{each_same}
use Rattle.pami_script.proofs.Skipped.{sparse_is_dense}
use Rattle.pami_factoring.specs.declared.kept.Kept.{Kept}
use Rattle.pami_factoring.specs.declared.kept.LuFault.{LuFault}
use Rattle.pami_factoring.specs.Solve.{backward_script}
use Rattle.pami_factor.specs.Units.{unit_list}
use Rattle.pami_theory.specs.declared.words.Stand.{Stand}
use Rattle.pami_theory.specs.declared.words.Stand.TheVariants.{Basic, Lower, Upper, Zero}
use Rattle.pami_theory.specs.declared.words.Side.{Side}
use Rattle.pami_theory.specs.declared.words.Side.TheVariants.{Above, Below}
use Rattle.pami_theory.specs.Form.{Form, variables, limits, cost, zero_f}
use Rattle.pami_theory.specs.Basis.{Basis, head_at, stand_at}
use Rattle.pami_theory.specs.Fresh.{Fresh, row_at}
use Rattle.pami_theory.specs.Violation.{is_fixed}
use Rattle.pami_theory.specs.Ratio.{row_entry, may_enter}
use Rattle.pami_theory.proofs.Steps.{enters_not_zero}
use Rattle.pami_method.specs.Factor.{elimination, unfit, refusal_by}
use Rattle.pami_method.specs.Scripts.{is_nonbasic}
use Rattle.pami_method.specs.Task.{refusal}
use Rattle.pami_method.specs.Work.{unit_at}
use Rattle.pami_price.specs.Slices.{row_script}
use Rattle.pami_price.specs.Agreement.{AreListed, nonzero_entries, all_nonbasic}
use Rattle.pami_price.specs.declared.price.SliceRefused.{SliceRefused}
use Rattle.pami_price.proofs.Priced.{row_value}
use Rattle.pami_price.proofs.Rows.{kept_rise, kept_value}
use Rattle.pami_ranging.specs.Intervals.{bounds_from}
use Rattle.pami_range.specs.Scripts.{tighter, change_script, when_script, tightest_script, cost_quotient, basic_cost_script, first_of, row_refused, prices_script, span_after}
use Rattle.pami_range.specs.Lists.{cost_step, tightest_cost, end_by, entries_span, priced, solved, row_span}
use Rattle.pami_range.specs.Lists as lists
use Rattle.pami_range.proofs.Columns.{tighter_none, toward_nil, span_same}
use Rattle.pami_range.proofs.Prices.{refused_of, prices_refused}

-- ---- an entry 0 bounds nothing
enters_nil : (s : Stand) → may_enter s zero_f ≡ false
enters_nil s = go (may_enter s zero_f) refl
  where
    go : (t : Bool) → may_enter s zero_f ≡ t → t ≡ false
    go true e = absurd (enters_not_zero s zero_f e refl)
    go false e = refl

bounds_nil : (side : Side) (fixed : Bool) (s : Stand) → bounds_from side fixed s zero_f ≡ false
bounds_nil side true s = refl
bounds_nil side false s = ap (may_enter s) (toward_nil side) ∙ enters_nil s

not_bounding : (side : Side) (t : Bool) (change : Result Fraction Refused) (o : Option Fraction) → t ≡ false → then (when_script t change) (λ next. Ok (tighter side o next)) ≡ Ok o
not_bounding side t change o e = ap (λ u. then (when_script u change) (λ next. Ok (tighter side o next))) e ∙ ap Ok (tighter_none side o)

cost_nil : (side : Side) (l : Bounds) (s : Stand) (d : Fraction) (o : Option Fraction) → cost_step side l s d zero_f o ≡ Ok o
cost_nil side l s d o = not_bounding side (bounds_from side (is_fixed l) s zero_f) (change_script s d zero_f) o (bounds_nil side (is_fixed l) s)

-- nor does a basic variable
bounds_basic : (side : Side) (fixed : Bool) (a : Fraction) → bounds_from side fixed Basic a ≡ false
bounds_basic side true a = refl
bounds_basic side false a = refl

cost_basic : (side : Side) (l : Bounds) (s : Stand) (d a : Fraction) (o : Option Fraction) → s ≡ Basic → cost_step side l s d a o ≡ Ok o
cost_basic side l s d a o e =
    not_bounding side (bounds_from side (is_fixed l) s a) (change_script s d a) o (ap (λ t. bounds_from side (is_fixed l) t a) e ∙ bounds_basic side (is_fixed l) a)

nonbasic_false : (s : Stand) → is_nonbasic s ≡ false → s ≡ Basic
nonbasic_false Basic e = refl
nonbasic_false Lower e = absurd (true≢false e)
nonbasic_false Upper e = absurd (true≢false e)
nonbasic_false Zero e = absurd (true≢false e)

-- ---- one variable
one_cost : (f : Form) (b : Basis) (s : Fresh) (side : Side) (k : ℕ) (a alpha : Fraction) (o : Option Fraction) (t : Bool) → is_nonbasic (stand_at b k) ≡ t → a ≡ cond t alpha zero_f
    → cost_step side (limits f k) (stand_at b k) (get s.reduced k) a o ≡ cost_step side (limits f k) (stand_at b k) (get s.reduced k) alpha o
one_cost f b s side k a alpha o true h e = ap (λ z. cost_step side (limits f k) (stand_at b k) (get s.reduced k) z o) e
one_cost f b s side k a alpha o false h e =
    cost_basic side (limits f k) (stand_at b k) (get s.reduced k) a o (nonbasic_false (stand_at b k) h)
    ∙ sym (cost_basic side (limits f k) (stand_at b k) (get s.reduced k) alpha o (nonbasic_false (stand_at b k) h))

-- ---- the row
tightest_is : (f : Form) (b : Basis) (s : Fresh) (side : Side) (stands : List Stand) (p : ℕ) → ((v : ℕ) → v < variables f → stand_at b v ≡ get_or stands v Basic)
    → tightest_cost side f.bounds stands s.reduced (nonzero_entries (row_entry f (row_at s p)) (all_nonbasic f b)) ≡ tightest_script side (variables f) (cost_quotient f b s p side)
tightest_is f b s side stands p stand =
    let es : List Entry = nonzero_entries (row_entry f (row_at s p)) (all_nonbasic f b) in
    let step : ℕ → Fraction → Option Fraction → Result (Option Fraction) Refused = λ k a o. cost_step side (limits f k) (lists.stand_at stands k) (get s.reduced k) a o in
    let rising : Rising 0 (variables f) (nonzero_entries (row_entry f (row_at s p)) (all_nonbasic f b)) = (let z : 0 + variables f ≡ variables f = omega arith in subst (λ h. Rising 0 h (nonzero_entries (row_entry f (row_at s p)) (all_nonbasic f b))) z (kept_rise (λ v. is_nonbasic (stand_at b v)) (row_entry f (row_at s p)) 0 (variables f))) in
    sym (sparse_is_dense (variables f) (nonzero_entries (row_entry f (row_at s p)) (all_nonbasic f b)) (λ k a o. cost_step side (limits f k) (lists.stand_at stands k) (get s.reduced k) a o) None rising
    (λ k o. cost_nil side (limits f k) (lists.stand_at stands k) (get s.reduced k) o))
    ∙ each_same (variables f) 0 (λ k o. cost_step side (limits f k) (lists.stand_at stands k) (get s.reduced k) (at (nonzero_entries (row_entry f (row_at s p)) (all_nonbasic f b)) k) o)
    (λ k o. then (cost_quotient f b s p side k) (λ next. Ok (tighter side o next))) None
    (λ k l m o.
    let low : k < variables f = omega arith in
    ap (λ z. cost_step side (limits f k) z (get s.reduced k) (at (nonzero_entries (row_entry f (row_at s p)) (all_nonbasic f b)) k) o) (sym (stand k low))
    ∙ one_cost f b s side k (at (nonzero_entries (row_entry f (row_at s p)) (all_nonbasic f b)) k) (row_entry f (row_at s p) k) o (is_nonbasic (stand_at b k)) refl
    (kept_value (λ v. is_nonbasic (stand_at b v)) (row_entry f (row_at s p)) 0 (variables f) k (omega arith) m))

entries_are : (f : Form) (b : Basis) (s : Fresh) (stands : List Stand) (p : ℕ) → ((v : ℕ) → v < variables f → stand_at b v ≡ get_or stands v Basic)
    → entries_span f.bounds stands s.reduced (cost f (head_at b p)) (nonzero_entries (row_entry f (row_at s p)) (all_nonbasic f b)) ≡ span_after None (basic_cost_script f b s p)
entries_are f b s stands p stand = span_same _ _ _ _
    (ap (end_by (cost f (head_at b p))) (tightest_is f b s Below stands p stand))
    (ap (end_by (cost f (head_at b p))) (tightest_is f b s Above stands p stand))

-- what is priced
priced_is : (f : Form) (b : Basis) (s : Fresh) (columns : List (List Fraction)) (stands : List Stand) (p : ℕ) → AreListed f b columns stands → length (row_at s p) ≡ f.rows
    → priced (entries_span f.bounds stands s.reduced (cost f (head_at b p))) (row_script columns stands (row_at s p)) ≡ span_after (refusal (prices_script f b (row_at s p))) (basic_cost_script f b s p)
priced_is f b s columns stands p l n = go (row_script columns stands (row_at s p)) refl
  where
    go : (r : Result (List Entry) SliceRefused) → row_script columns stands (row_at s p) ≡ r
        → priced (entries_span f.bounds stands s.reduced (cost f (head_at b p))) r ≡ span_after (refusal (prices_script f b (row_at s p))) (basic_cost_script f b s p)
    go (Ok es) e =
        ap (entries_span f.bounds stands s.reduced (cost f (head_at b p))) (row_value f b columns stands (row_at s p) es l n e)
        ∙ entries_are f b s stands p l.stand
        ∙ ap (λ z. span_after z (basic_cost_script f b s p)) (sym (ap refused_of e) ∙ prices_refused f b columns stands (row_at s p) l n)
    go (Err d) e = ap (λ z. span_after z (basic_cost_script f b s p)) (sym (ap refused_of e) ∙ prices_refused f b columns stands (row_at s p) l n)

-- by the steps of the elimination
pub row_span_is : (f : Form) (b : Basis) (s : Fresh) (columns : List (List Fraction)) (stands : List Stand) (ks : List Kept) (p : ℕ) → AreListed f b columns stands → length (row_at s p) ≡ f.rows → elimination f b.head ≡ Ok ks
    → unit_list (length ks) p ≡ unit_at f p → ((rho : List Fraction) → backward_script ks [] (unit_list (length ks) p) ≡ Ok rho → rho ≡ row_at s p)
    → row_span ks columns f.bounds stands s.reduced (cost f (head_at b p)) p ≡ span_after (row_refused f b s p) (basic_cost_script f b s p)
row_span_is f b s columns stands ks p l n e unit row =
    go (backward_script ks [] (unit_list (length ks) p)) refl
    ∙ ap (λ z. span_after (first_of (refusal (backward_script ks [] z)) (refusal (prices_script f b (row_at s p)))) (basic_cost_script f b s p)) unit
    ∙ ap (λ (z : Result (List Kept) LuFault). span_after (first_of (unfit z) (first_of (refusal_by z (λ steps. backward_script steps [] (unit_at f p))) (refusal (prices_script f b (row_at s p))))) (basic_cost_script f b s p)) (sym e)
  where
    go : (r : Result (List Fraction) Refused) → backward_script ks [] (unit_list (length ks) p) ≡ r
        → solved (λ rho. priced (entries_span f.bounds stands s.reduced (cost f (head_at b p))) (row_script columns stands rho)) r
        ≡ span_after (first_of (refusal r) (refusal (prices_script f b (row_at s p)))) (basic_cost_script f b s p)
    go (Ok rho) h =
        ap (λ z. priced (entries_span f.bounds stands s.reduced (cost f (head_at b p))) (row_script columns stands z)) (row rho h)
        ∙ priced_is f b s columns stands p l n
    go (Err d) h = refl
