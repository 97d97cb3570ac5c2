-- Lists of two rows and two columns, with which the tests begin.
use Rattle.std.proofs.Common.{◌≡◌, ℕ, zero, suc, ◌+◌, ◌<◌, List, [], ◌∷◌, length, ◌-◌, refl, sym, ap, ◌∙◌, subst, arith, lit<}
use lib.IntN.{pos}
use Rattle.pami_algebra.specs.Fraction.{Fraction}
use Rattle.pami_algebra.specs.Operations.{of_int, neg_f}
use Rattle.pami_algebra.proofs.Field.{neg_nil_f}
use Rattle.pami_linear.specs.Lists.{get}
use Rattle.pami_linear.specs.Sums.{unit}
use Rattle.pami_frac.specs.declared.list.Bounds.{Bounds}
use Rattle.pami_frac.specs.declared.list.Entry.{Entry}
use Rattle.pami_script.specs.Dense.{dense}
use Rattle.pami_script.proofs.Skipped.{length_dense, get_dense, at_here, at_other}
use Rattle.pami_theory.specs.Form.{limits, zero_f, IsUncrossed}
use Rattle.pami_state.specs.Columns.{bounds_form, column_of, form_by, IsForm, HasBounds}
use Rattle.pami_state.proofs.Formed.{basis_by_bounds}
use Rattle.pami_state.proofs.Known.{stands_by_bounds}
use Rattle.pami_state.specs.declared.state.State.{State}
use Rattle.pami_state.specs.State.{basis_of}
use Rattle.pami_theory.specs.Basis.{IsBasis}
use Rattle.pami_theory.specs.Start.{starting_basis}
use Rattle.pami_theory.proofs.Starts.{start_is_basis}

-- ---- a column of two rows
abbrev pub two_entries : Fraction → Fraction → List Entry
two_entries a b = record { place = 0; value = a } ∷ record { place = 1; value = b } ∷ []

pub two_rows : (v : List Fraction) (a b : Fraction) → v ≡ dense 2 (two_entries a b) → length v ≡ 2
two_rows v a b e = ap length e ∙ length_dense 2 (two_entries a b)

pub first_row : (v : List Fraction) (a b : Fraction) → v ≡ dense 2 (two_entries a b) → get v 0 ≡ a
first_row v a b e = ap (λ xs. get xs 0) e ∙ get_dense 2 (two_entries a b) 0 (omega arith) ∙ at_here (record { place = 0; value = a }) (record { place = 1; value = b } ∷ []) 0 refl

pub second_row : (v : List Fraction) (a b : Fraction) → v ≡ dense 2 (two_entries a b) → get v 1 ≡ b
second_row v a b e =
    ap (λ xs. get xs 1) e ∙ get_dense 2 (two_entries a b) 1 (omega arith)
    ∙ at_other (record { place = 0; value = a }) (record { place = 1; value = b } ∷ []) 1 (λ h. omega arith)
    ∙ at_here (record { place = 1; value = b }) [] 1 refl

-- ---- something of each number below 4, below 2
below_four : (P : ℕ → Type 0) → P 0 → P 1 → P 2 → P 3 → (v : ℕ) → v < 4 → P v
below_four P a b c d zero l = a
below_four P a b c d (suc zero) l = b
below_four P a b c d (suc (suc zero)) l = c
below_four P a b c d (suc (suc (suc zero))) l = d
below_four P a b c d (suc (suc (suc (suc v)))) l = absurd (omega arith)

below_two : (P : ℕ → Type 0) → P 0 → P 1 → (v : ℕ) → v < 2 → P v
below_two P a b zero l = a
below_two P a b (suc zero) l = b
below_two P a b (suc (suc v)) l = absurd (omega arith)

-- ---- the form of two such columns, with the row variables' columns behind them
pub record IsPair (v : List Fraction) (a b : Fraction) : Type 0 where
  pub two : length v ≡ 2
  pub first : get v 0 ≡ a
  pub second : get v 1 ≡ b

abbrev RowColumns : List (List Fraction) → ℕ → Type 0
RowColumns columns m = (k i : ℕ) → k < m → i < m → get (column_of columns (length columns - m + k)) i ≡ neg_f (unit k i)

abbrev RowCosts : List Fraction → ℕ → ℕ → Type 0
RowCosts costs n m = (k : ℕ) → k < m → get costs (n - m + k) ≡ zero_f

row_columns : (u v w z : List Fraction) → IsPair w (neg_f (of_int (pos 1))) zero_f → IsPair z zero_f (neg_f (of_int (pos 1))) → RowColumns (u ∷ v ∷ w ∷ z ∷ []) 2
row_columns u v w z p q k i l m = below_two (λ k. get (column_of (u ∷ v ∷ w ∷ z ∷ []) (2 + k)) i ≡ neg_f (unit k i))
    (below_two (λ i. get w i ≡ neg_f (unit 0 i)) p.first (p.second ∙ sym neg_nil_f) i m)
    (below_two (λ i. get z i ≡ neg_f (unit 1 i)) (q.first ∙ sym neg_nil_f) q.second i m)
    k l

pub small_form : (u v w z : List Fraction) (bounds : List Bounds) (k l zero_cost : Fraction) → length u ≡ 2 → length v ≡ 2 → IsPair w (neg_f (of_int (pos 1))) zero_f → IsPair z zero_f (neg_f (of_int (pos 1))) →
    length bounds ≡ 4 → ((x : ℕ) → x < 4 → IsUncrossed (limits (bounds_form 0 bounds) x)) → zero_cost ≡ zero_f → IsForm (u ∷ v ∷ w ∷ z ∷ []) bounds (k ∷ l ∷ zero_cost ∷ zero_cost ∷ [])
small_form u v w z bounds k l zero_cost n m p q b c e = record {
  few = lit< tt;
  as_many_bounds = b;
  as_many_costs = refl;
  row_variables = omega arith;
  tall = below_four (λ x. length (column_of (u ∷ v ∷ w ∷ z ∷ []) x) ≡ length u) refl (m ∙ sym n) (p.two ∙ sym n) (q.two ∙ sym n);
  row_column = subst (RowColumns (u ∷ v ∷ w ∷ z ∷ [])) (sym n) (row_columns u v w z p q);
  row_cost = subst (RowCosts (k ∷ l ∷ zero_cost ∷ zero_cost ∷ []) 4) (sym n) (below_two (λ x. get (k ∷ l ∷ zero_cost ∷ zero_cost ∷ []) (2 + x) ≡ zero_f) e e);
  uncrossed = c;
}

pub four_uncrossed : (a b c d : Bounds) → IsUncrossed a → IsUncrossed b → IsUncrossed c → IsUncrossed d → (x : ℕ) → x < 4 → IsUncrossed (limits (bounds_form 0 (a ∷ b ∷ c ∷ d ∷ [])) x)
four_uncrossed a b c d ua ub uc ud = below_four (λ x. IsUncrossed (limits (bounds_form 0 (a ∷ b ∷ c ∷ d ∷ [])) x)) ua ub uc ud

-- ---- what such a state is known by, whose columns are these
small_bounds : (u v w z : List Fraction) (bounds : List Bounds) (costs : List Fraction) → length u ≡ 2 → length bounds ≡ 4 → HasBounds (form_by (u ∷ v ∷ w ∷ z ∷ []) bounds costs) bounds
small_bounds u v w z bounds costs n b = record { by_variable = omega arith; same = refl }

small_basis : (u v w z : List Fraction) (bounds : List Bounds) (costs : List Fraction) (st : State) → basis_of st ≡ starting_basis (form_by (u ∷ v ∷ w ∷ z ∷ []) bounds costs) → IsBasis (form_by (u ∷ v ∷ w ∷ z ∷ []) bounds costs) (basis_of st)
small_basis u v w z bounds costs st e = subst (IsBasis (form_by (u ∷ v ∷ w ∷ z ∷ []) bounds costs)) (sym e) (start_is_basis (form_by (u ∷ v ∷ w ∷ z ∷ []) bounds costs))

pub small_stands : (u v w z : List Fraction) (bounds : List Bounds) (costs : List Fraction) (st : State) → length u ≡ 2 → length bounds ≡ 4 → basis_of st ≡ starting_basis (form_by (u ∷ v ∷ w ∷ z ∷ []) bounds costs) → length st.stands ≡ 4
small_stands u v w z bounds costs st n b e = stands_by_bounds (form_by (u ∷ v ∷ w ∷ z ∷ []) bounds costs) bounds st (small_bounds u v w z bounds costs n b) (small_basis u v w z bounds costs st e) ∙ b

pub small_reads : (u v w z : List Fraction) (bounds : List Bounds) (costs : List Fraction) (st : State) → length u ≡ 2 → length bounds ≡ 4 → basis_of st ≡ starting_basis (form_by (u ∷ v ∷ w ∷ z ∷ []) bounds costs) →
    IsBasis (bounds_form (length st.head) bounds) (basis_of st)
small_reads u v w z bounds costs st n b e = basis_by_bounds (form_by (u ∷ v ∷ w ∷ z ∷ []) bounds costs) (basis_of st) bounds (small_bounds u v w z bounds costs n b) (small_basis u v w z bounds costs st e)
