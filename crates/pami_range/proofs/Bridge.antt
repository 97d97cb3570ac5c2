-- What the program's lists give for a bound is the span of the definition.
use Rattle.std.proofs.Common.{◌≡◌, ℕ, ◌<◌, List, [], length, get_or, None, Result, Ok, Err, refl, sym, ap, ◌∙◌, subst, arith}
use Rattle.std.proofs.lemmas.List.{get_or-map, length-map}
use Rattle.std.proofs.lemmas.List.Elements.{All-nil}
use Rattle.pami_algebra.specs.Fraction.{Fraction}
use Rattle.pami_linear.specs.Lists.{get}
use Rattle.pami_linear.specs.Systems.{Solves}
use Rattle.pami_linear.proofs.Lists.{one_solution_list}
use Rattle.pami_linear.proofs.Systems.{solves_same}
use Rattle.pami_frac.specs.declared.arithmetic.Refused.{Refused}
use Rattle.pami_frac.specs.declared.list.Bounds.{Bounds}
use Rattle.pami_script.specs.Script.{then, each}
use Rattle.pami_script.proofs.Scripts.{each_same}
use Rattle.pami_factoring.specs.declared.kept.Kept.{Kept}
use Rattle.pami_factoring.specs.declared.kept.LuFault.{LuFault}
use Rattle.pami_factoring.specs.Factor.{row_at as matrix_row}
use Rattle.pami_factoring.specs.Solve.{forward_script}
use Rattle.pami_factoring.specs.Steps.{IsSquare, columns_of}
use Rattle.pami_factoring.specs.History.{IsColumnPivot}
use Rattle.pami_factoring.proofs.Solves.{forward_solution, forward_length}
use Rattle.pami_theory.specs.Form.{Form, variables, limits, coefficient, zero_f}
use Rattle.pami_theory.specs.Basis.{Basis, head_at, stand_at, IsBasis, basis_column}
use Rattle.pami_theory.specs.Fresh.{Fresh, column_at, standing_value, IsFresh}
use Rattle.pami_theory.specs.declared.words.Side.{Side}
use Rattle.pami_theory.specs.declared.words.Side.TheVariants.{Above, Below}
use Rattle.pami_theory.proofs.Tables.{tabled_length, tabled_at}
use Rattle.pami_theory.proofs.Solved.{fresh_regular}
use Rattle.pami_method.specs.Task.{refusal}
use Rattle.pami_method.specs.Factor.{head_row, head_matrix, elimination, unfit, refusal_by}
use Rattle.pami_method.specs.Work.{column_of}
use Rattle.pami_range.specs.Scripts.{tighter, bound_quotient, bound_script, tightest_script, first_of, column_refused, span_after}
use Rattle.pami_range.specs.Lists.{bounds_at, bound_step, tightest_over, end_by, members_span, solved, column_span}
use Rattle.pami_range.specs.ListsOf.{AreListsOf}
use Rattle.pami_range.proofs.Columns.{span_same}

-- ---- the matrix of a head
matrix_length : (f : Form) (head : List ℕ) → length (head_matrix f head) ≡ f.rows
matrix_length f head = tabled_length f.rows (head_row f head)

matrix_row_is : (f : Form) (head : List ℕ) (h : ℕ) → h < f.rows → matrix_row (head_matrix f head) h ≡ head_row f head h
matrix_row_is f head h l = tabled_at f.rows (head_row f head) h [] l

square : (f : Form) (head : List ℕ) → length head ≡ f.rows → IsSquare (head_matrix f head)
square f head e h l =
    let n = matrix_length f head in
    ap length (matrix_row_is f head h (subst (λ m. h < m) n l)) ∙ length-map head (λ v. coefficient f v h) ∙ e ∙ sym n

matrix_entry : (f : Form) (b : Basis) (k i : ℕ) → length b.head ≡ f.rows → k < f.rows → i < f.rows → columns_of (head_matrix f b.head) k i ≡ basis_column f b k i
matrix_entry f b k i e l m =
    ap (λ (row : List Fraction). get row k) (matrix_row_is f b.head i m)
    ∙ get_or-map (λ v. coefficient f v i) b.head k 0 zero_f (subst (λ n. k < n) (sym e) l)

-- what a forward solve gives is the column of the variable
pub solved_column : (f : Form) (b : Basis) (s : Fresh) (v : ℕ) (ks : List Kept) (x : List Fraction) → IsBasis f b → IsFresh f b s → v < variables f → elimination f b.head ≡ Ok ks → forward_script ks [] (column_of f v) ≡ Ok x → x ≡ column_at s v
solved_column f b s v ks x is h l e g =
    let n : length (head_matrix f b.head) ≡ f.rows = matrix_length f b.head in
    let m : length (column_of f v) ≡ f.rows = tabled_length f.rows (coefficient f v) in
    one_solution_list f.rows (basis_column f b) (coefficient f v) x (column_at s v) (fresh_regular f b s h)
    (forward_length ks [] (column_of f v) x g ∙ m) (h.column_by_place v l)
    (solves_same f.rows (columns_of (head_matrix f b.head)) (basis_column f b) (get x) (get x) (get (column_of f v)) (coefficient f v)
    (λ k i o q. matrix_entry f b k i is.places o q) (λ k o. refl) (λ i o. tabled_at f.rows (coefficient f v) i zero_f o)
    (subst (λ z. Solves z (columns_of (head_matrix f b.head)) (get x) (get (column_of f v))) n
    (forward_solution (head_matrix f b.head) ks [] (column_of f v) x (square f b.head is.places) e (All-nil (IsColumnPivot (length (head_matrix f b.head)))) (m ∙ sym n) g)))
    (h.column v l)

-- ---- its ends
over_is : (f : Form) (b : Basis) (s : Fresh) (v : ℕ) (bounds : List Bounds) (head : List ℕ) (values : List Fraction) (side : Side) → IsBasis f b → IsFresh f b s → v < variables f → AreListsOf f b s bounds head values
    → tightest_over side bounds head values (column_at s v) ≡ tightest_script side f.rows (bound_quotient f b s v side)
over_is f b s v bounds head values side is h l r =
    let x : List Fraction = column_at s v in
    ap (λ n. each n 0 (λ p so_far. bound_step side (bounds_at bounds (get_or head p 0)) (get values p) (get (column_at s v) p) so_far) None) (h.column_by_place v l)
    ∙ each_same f.rows 0 (λ p so_far. bound_step side (bounds_at bounds (get_or head p 0)) (get values p) (get (column_at s v) p) so_far)
    (λ p so_far. then (bound_quotient f b s v side p) (λ next. Ok (tighter side so_far next))) None
    (λ p m n o.
    let k : p < f.rows = omega arith in
    let at : (bounds_at bounds (get_or head p 0)) ≡ limits f (head_at b p) = ap (λ (hs : List ℕ). (bounds_at bounds (get_or hs p 0))) r.same_head ∙ r.bound (head_at b p) (is.within p k) in
    ap (λ z. bound_step side z (get values p) (get (column_at s v) p) o) at
    ∙ ap (λ z. bound_step side (limits f (head_at b p)) z (get (column_at s v) p) o) (r.value p k))

members_are : (f : Form) (b : Basis) (s : Fresh) (v : ℕ) (bounds : List Bounds) (head : List ℕ) (values : List Fraction) → IsBasis f b → IsFresh f b s → v < variables f → AreListsOf f b s bounds head values
    → members_span bounds head values (standing_value (limits f v) (stand_at b v)) (column_at s v) ≡ span_after None (bound_script f b s v)
members_are f b s v bounds head values is h l r =
    let own : Fraction = standing_value (limits f v) (stand_at b v) in
    span_same _ _ _ _
    (ap (end_by own) (over_is f b s v bounds head values Below is h l r))
    (ap (end_by own) (over_is f b s v bounds head values Above is h l r))

-- the program's span is the definition's
pub column_span_is : (f : Form) (b : Basis) (s : Fresh) (v : ℕ) (ks : List Kept) (bounds : List Bounds) (head : List ℕ) (values : List Fraction) → IsBasis f b → IsFresh f b s → v < variables f → AreListsOf f b s bounds head values
    → elimination f b.head ≡ Ok ks → column_span ks bounds head values (standing_value (limits f v) (stand_at b v)) (column_of f v) ≡ span_after (column_refused f b v) (bound_script f b s v)
column_span_is f b s v ks bounds head values is h l r e =
    go (forward_script ks [] (column_of f v)) refl
    ∙ ap (λ z. span_after z (bound_script f b s v)) (sym (ap (λ (z : Result (List Kept) LuFault). first_of (unfit z) (refusal_by z (λ steps. forward_script steps [] (column_of f v)))) e))
  where
    go : (z : Result (List Fraction) Refused) → forward_script ks [] (column_of f v) ≡ z
        → solved (members_span bounds head values (standing_value (limits f v) (stand_at b v))) z ≡ span_after (refusal z) (bound_script f b s v)
    go (Ok x) g = ap (members_span bounds head values (standing_value (limits f v) (stand_at b v))) (solved_column f b s v ks x is h l e g) ∙ members_are f b s v bounds head values is h l r
    go (Err d) g = refl
