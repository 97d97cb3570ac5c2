-- The solves of a major by its factor's history: those of the basis that the history stands for.
use Rattle.std.proofs.Common.{◌≡◌, ℕ, ◌<◌, ⊎_elim, List, [], ◌∷◌, ◌++◌, length, map, Ok, refl, sym, ap, ◌∙◌, subst}
use Rattle.std.specs.Prelude.{All, slice_index_or}
use Rattle.std.proofs.lemmas.Bool.{cases_eq}
use Rattle.std.proofs.lemmas.List.{get_or-map, length-map, length-replicate}
use Rattle.std.proofs.lemmas.List.Elements.{All-nil, All-append}
use Rattle.pami_algebra.specs.Fraction.{Fraction}
use Rattle.pami_algebra.specs.Operations.{◌*ᶠ◌}
use Rattle.pami_linear.specs.Lists.{get}
use Rattle.pami_linear.specs.Sums.{unit}
use Rattle.pami_linear.specs.Systems.{Solves, Combines, replaced}
use Rattle.pami_linear.proofs.Sums.{sum_same}
use Rattle.pami_linear.proofs.Lists.{one_solution_list, one_combination_list}
use Rattle.pami_linear.proofs.Systems.{solves_same, combines_same}
use Rattle.pami_linear.proofs.Pivoted.{replaced_same, replaced_other}
use Rattle.pami_linear.proofs.Regular.{one_solution}
use Rattle.pami_factoring.specs.declared.kept.Kept.{Kept}
use Rattle.pami_factoring.specs.Steps.{IsSquare, columns_of}
use Rattle.pami_factoring.specs.Solve.{ColumnPivot, forward_script, backward_script}
use Rattle.pami_linear.specs.Products.{combination}
use Rattle.pami_linear.specs.Products as product
use Rattle.pami_factoring.specs.History.{product_pivot, columns_after, IsColumnPivot}
use Rattle.pami_factoring.proofs.Solves.{forward_solution, forward_length, backward_solution, backward_script_length}
use Rattle.pami_theory.specs.Form.{Form, variables, coefficient, zero_f}
use Rattle.pami_theory.specs.Basis.{Basis, IsBasis, basis_column}
use Rattle.pami_theory.specs.Fresh.{Fresh, IsFresh, row_at, column_at}
use Rattle.pami_theory.proofs.Tables.{tabled_length, tabled_at}
use Rattle.pami_theory.proofs.Solved.{fresh_regular}
use Rattle.pami_theory.proofs.Steps.{columns_after as step_columns}
use Rattle.pami_method.specs.Factor.{History, head_row, head_matrix, elimination}
use Rattle.pami_method.specs.Batch.{Reached, Minor}
use Rattle.pami_method.specs.Scripts.{zeros}
use Rattle.pami_method.specs.Work.{pivot_of, unit_at, column_of, all_flips_script, all_flips_change, all_flips_at}
use Rattle.pami_deferral.specs.Factored.{head_column, IsHistoryOf}
use Rattle.pami_deferral.proofs.Chains.{Links, IsChain, ended, linked, exchange_of}
use Rattle.pami_deferral.proofs.CollectedValues.{flips_solve}
use Rattle.pami_deferral.proofs.CollectScripts.{pivots_are_columns, total_from_zeros, total_length}

-- the columns after one pivot
abbrev columns_with : ℕ → (ℕ → ℕ → Fraction) → ColumnPivot → ℕ → ℕ → Fraction
columns_with m b q = product.columns_with m b (product_pivot q)

-- ---- columns with equal entries below m
AreEqual : ℕ → (ℕ → ℕ → Fraction) → (ℕ → ℕ → Fraction) → Type 0
AreEqual m b c = (k i : ℕ) → k < m → i < m → b k i ≡ c k i

replaced_equal : (m p : ℕ) (b c : ℕ → ℕ → Fraction) (x y : ℕ → Fraction) → ((k i : ℕ) → k < m → i < m → b k i ≡ c k i)
    → ((i : ℕ) → i < m → x i ≡ y i) → (k i : ℕ) → k < m → i < m → replaced b p x k i ≡ replaced c p y k i
replaced_equal m p b c x y e f k i l h = ⊎_elim
    (λ (q : p ≡ k). subst (λ j. replaced b p x j i ≡ replaced c p y j i) q
    (ap (λ u. u i) (replaced_same b p x) ∙ f i h ∙ sym (ap (λ u. u i) (replaced_same c p y))))
    (λ (n : ¬ (p ≡ k)). ap (λ u. u i) (replaced_other b p k x n) ∙ e k i l h ∙ sym (ap (λ u. u i) (replaced_other c p k y n)))
    (cases_eq p k)

combination_equal : (m : ℕ) (b c : ℕ → ℕ → Fraction) (alpha : ℕ → Fraction) (i : ℕ) → ((k i : ℕ) → k < m → i < m → b k i ≡ c k i) → i < m
    → combination m b alpha i ≡ combination m c alpha i
combination_equal m b c alpha i e h = sum_same m (λ k. b k i *ᶠ alpha k) (λ k. c k i *ᶠ alpha k) (λ k l. ap (λ z. z *ᶠ alpha k) (e k i l h))

pub columns_equal : (m : ℕ) (qs : List ColumnPivot) (b c : ℕ → ℕ → Fraction) → ((k i : ℕ) → k < m → i < m → b k i ≡ c k i) → (k i : ℕ)
    → k < m → i < m → columns_after m b qs k i ≡ columns_after m c qs k i
columns_equal m [] b c e = e
columns_equal m (q ∷ qs) b c e =
    columns_equal m qs (columns_with m b q) (columns_with m c q)
    (replaced_equal m q.place b c (combination m b (get q.column)) (combination m c (get q.column)) e
    (λ i h. combination_equal m b c (get q.column) i e h))

columns_append : (m : ℕ) (qs rs : List ColumnPivot) (b : ℕ → ℕ → Fraction)
    → columns_after m b (qs ++ rs) ≡ columns_after m (columns_after m b qs) rs
columns_append m [] rs b = refl
columns_append m (q ∷ qs) rs b = columns_append m qs rs (columns_with m b q)

-- ---- the pivots of a batch lead from its first columns to its last ones
link_columns : (f : Form) (m : Minor) (next : Reached) → Links f m next → (k i : ℕ) → k < f.rows → i < f.rows
    → columns_with f.rows (basis_column f m.reached.basis) (pivot_of m) k i ≡ basis_column f next.basis k i
link_columns f m next k j i l h =
    let b : Basis = m.reached.basis in
    let x = exchange_of f m next k in
    replaced_equal f.rows m.step.place (basis_column f b) (basis_column f b)
    (combination f.rows (basis_column f b) (get (column_at m.reached.fresh m.step.entering))) (coefficient f m.step.entering)
    (λ j i l h. refl) (λ i h. (k.step.fresh.column m.step.entering x.within).at i h) j i l h
    ∙ sym (step_columns f b m.step j i k.step.basis x.place)
    ∙ ap (λ c. basis_column f c j i) (sym k.reaches.basis)

chain_columns : (f : Form) (first : Reached) (ms : List Minor) (last : Reached) → IsChain f first ms last → (k i : ℕ) → k < f.rows
    → i < f.rows →
    columns_after f.rows (basis_column f first.basis) (map pivot_of ms) k i ≡ basis_column f last.basis k i
chain_columns f _ _ _ (ended r) k i l h = refl
chain_columns f _ _ _ (linked m next ms last j rest) k i l h =
    columns_equal f.rows (map pivot_of ms) (columns_with f.rows (basis_column f m.reached.basis) (pivot_of m)) (basis_column f next.basis)
    (link_columns f m next j) k i l h
    ∙ chain_columns f next ms last rest k i l h

pub history_new : (f : Form) (b : Basis) → IsBasis f b → IsHistoryOf f (record { head = b.head; pivots = [] }) b
history_new f b is = record { places = is.places; pivots = All-nil (IsColumnPivot f.rows); columns = λ k i l h. refl }

pub history_after : (f : Form) (h : History) (first : Reached) (ms : List Minor) (last : Reached) → IsHistoryOf f h first.basis
    → IsChain f first ms last
    → IsHistoryOf f (record { head = h.head; pivots = h.pivots ++ map pivot_of ms }) last.basis
history_after f h first ms last is c = record {
  places = is.places;
  pivots = All-append (IsColumnPivot f.rows) h.pivots (map pivot_of ms) is.pivots (pivots_are_columns f first ms last c);
  columns = λ k i l j.
      ap (λ b. b k i) (columns_append f.rows h.pivots (map pivot_of ms) (head_column f h.head))
      ∙ columns_equal f.rows (map pivot_of ms) (columns_after f.rows (head_column f h.head) h.pivots)
      (basis_column f first.basis) is.columns k i l j
      ∙ chain_columns f first ms last c k i l j;
}

-- ---- the matrix of a head
pub matrix_length : (f : Form) (head : List ℕ) → length (head_matrix f head) ≡ f.rows
matrix_length f head = tabled_length f.rows (head_row f head)

matrix_row : (f : Form) (head : List ℕ) (h : ℕ) → h < f.rows → slice_index_or (head_matrix f head) h [] ≡ head_row f head h
matrix_row f head h l = tabled_at f.rows (head_row f head) h [] l

pub matrix_square : (f : Form) (head : List ℕ) → length head ≡ f.rows → IsSquare (head_matrix f head)
matrix_square f head e h l =
    let m : length (head_matrix f head) ≡ f.rows = matrix_length f head in
    ap length (matrix_row f head h (subst (λ n. h < n) m l)) ∙ length-map head (λ v. coefficient f v h) ∙ e ∙ sym m

pub matrix_columns : (f : Form) (head : List ℕ) (k i : ℕ) → length head ≡ f.rows → k < f.rows → i < f.rows
    → columns_of (head_matrix f head) k i ≡ head_column f head k i
matrix_columns f head k i e l h =
    ap (λ (r : List Fraction). get r k) (matrix_row f head i h)
    ∙ get_or-map (λ v. coefficient f v i) head k 0 zero_f (subst (λ n. k < n) (sym e) l)

-- ---- what is solved by the history
solves_by_history : (f : Form) (h : History) (b : Basis) (steps : List Kept) (r x : List Fraction) → IsHistoryOf f h b
    → elimination f h.head ≡ Ok steps → length r ≡ f.rows → forward_script steps h.pivots r ≡ Ok x →
    Solves f.rows (basis_column f b) (get x) (get r)
solves_by_history f h b steps r x is e l k =
    let rows = head_matrix f h.head in
    let m : length rows ≡ f.rows = matrix_length f h.head in
    let by_matrix = forward_solution rows steps h.pivots r x (matrix_square f h.head is.places) e
    (subst (λ n. All (IsColumnPivot n) h.pivots) (sym m) is.pivots) (l ∙ sym m) k in
    let by_rows : Solves f.rows (columns_after f.rows (columns_of rows) h.pivots) (get x) (get r) =
    subst (λ n. Solves n (columns_after n (columns_of rows) h.pivots) (get x) (get r)) m by_matrix in
    solves_same f.rows (columns_after f.rows (columns_of rows) h.pivots) (basis_column f b) (get x) (get x) (get r) (get r)
    (λ j i lj li. columns_equal f.rows h.pivots (columns_of rows) (head_column f h.head)
    (λ j i lj li. matrix_columns f h.head j i is.places lj li) j i lj li ∙ is.columns j i lj li)
    (λ j lj. refl) (λ i li. refl) by_rows

combines_by_history : (f : Form) (h : History) (b : Basis) (steps : List Kept) (d y : List Fraction) → IsHistoryOf f h b
    → elimination f h.head ≡ Ok steps → length d ≡ f.rows → backward_script steps h.pivots d ≡ Ok y →
    Combines f.rows (basis_column f b) (get y) (get d)
combines_by_history f h b steps d y is e l k =
    let rows = head_matrix f h.head in
    let m : length rows ≡ f.rows = matrix_length f h.head in
    let by_matrix = backward_solution rows steps h.pivots d y (matrix_square f h.head is.places) e
    (subst (λ n. All (IsColumnPivot n) h.pivots) (sym m) is.pivots) (l ∙ sym m) k in
    let by_rows : Combines f.rows (columns_after f.rows (columns_of rows) h.pivots) (get y) (get d) =
    subst (λ n. Combines n (columns_after n (columns_of rows) h.pivots) (get y) (get d)) m by_matrix in
    combines_same f.rows (columns_after f.rows (columns_of rows) h.pivots) (basis_column f b) (get y) (get y) (get d) (get d)
    (λ j i lj li. columns_equal f.rows h.pivots (columns_of rows) (head_column f h.head)
    (λ j i lj li. matrix_columns f h.head j i is.places lj li) j i lj li ∙ is.columns j i lj li)
    (λ j lj. refl) (λ i li. refl) by_rows

pub column_solved : (f : Form) (h : History) (b : Basis) (s : Fresh) (steps : List Kept) (v : ℕ) (x : List Fraction) → IsHistoryOf f h b
    → IsFresh f b s → elimination f h.head ≡ Ok steps → v < variables f →
    forward_script steps h.pivots (column_of f v) ≡ Ok x → x ≡ column_at s v
column_solved f h b s steps v x is fresh e l k =
    let n : length (column_of f v) ≡ f.rows = tabled_length f.rows (coefficient f v) in
    one_solution_list f.rows (basis_column f b) (coefficient f v) x (column_at s v) (fresh_regular f b s fresh)
    (forward_length steps h.pivots (column_of f v) x k ∙ n) (fresh.column_by_place v l)
    (solves_same f.rows (basis_column f b) (basis_column f b) (get x) (get x) (get (column_of f v)) (coefficient f v) (λ j i lj li. refl)
    (λ j lj. refl) (λ i li. tabled_at f.rows (coefficient f v) i zero_f li)
    (solves_by_history f h b steps (column_of f v) x is e n k))
    (fresh.column v l)

pub row_solved : (f : Form) (h : History) (b : Basis) (s : Fresh) (steps : List Kept) (p : ℕ) (y : List Fraction) → IsHistoryOf f h b
    → IsFresh f b s → elimination f h.head ≡ Ok steps → p < f.rows →
    backward_script steps h.pivots (unit_at f p) ≡ Ok y → y ≡ row_at s p
row_solved f h b s steps p y is fresh e l k =
    let n : length (unit_at f p) ≡ f.rows = tabled_length f.rows (unit p) in
    one_combination_list f.rows (basis_column f b) (unit p) y (row_at s p) (fresh_regular f b s fresh)
    (backward_script_length steps h.pivots (unit_at f p) y k ∙ n) (fresh.row_by_row p l)
    (combines_same f.rows (basis_column f b) (basis_column f b) (get y) (get y) (get (unit_at f p)) (unit p) (λ j i lj li. refl)
    (λ j lj. refl) (λ i li. tabled_at f.rows (unit p) i zero_f li)
    (combines_by_history f h b steps (unit_at f p) y is e n k))
    (fresh.row p l)

pub flips_solved : (f : Form) (h : History) (first : Reached) (ms : List Minor) (steps : List Kept) (total z : List Fraction) (p : ℕ)
    → IsHistoryOf f h first.basis → IsFresh f first.basis first.fresh → elimination f h.head ≡ Ok steps
    → all_flips_script f ms (zeros f.rows) ≡ Ok total → forward_script steps h.pivots total ≡ Ok z → p < f.rows
    → get z p ≡ all_flips_at f first ms p
flips_solved f h first ms steps total z p is fresh e t k l =
    let b = basis_column f first.basis in
    let n : length total ≡ f.rows = total_length f ms (zeros f.rows) total t ∙ length-replicate f.rows zero_f in
    one_solution f.rows b (get z) (all_flips_at f first ms) (all_flips_change f ms) (fresh_regular f first.basis first.fresh fresh)
    (solves_same f.rows b b (get z) (get z) (get total) (all_flips_change f ms) (λ j i lj li. refl) (λ j lj. refl)
    (λ i li. total_from_zeros f ms total i t li)
    (solves_by_history f h first.basis steps total z is e n k))
    (flips_solve f first ms fresh) p l
