-- Rows and columns of a matrix: what is turned twice is the same.
use Rattle.std.proofs.Common.{◌≡◌, ℕ, zero, suc, ◌+◌, ◌<◌, ◌≤◌, List, [], ◌∷◌, ◌++◌, length, map, get_or, refl, sym, ap, ◌∙◌, subst, arith}
use Rattle.std.specs.Prelude.{slice_index_or, All}
use Rattle.std.specs.List.{range_with_len}
use Rattle.std.proofs.lemmas.List.{get_or_default, get_or-map, length-map}
use Rattle.std.proofs.lemmas.List.FromFn.{fill_by_all, length-range_with_len, get_or-range_with_len, map-range_with_len_more}
use lib.IntN.{pos}
use Rattle.pami_algebra.specs.Fraction.{Fraction}
use Rattle.pami_algebra.specs.Operations.{of_int}
use Rattle.pami_frac.specs.declared.list.Entry.{Entry}
use Rattle.pami_linear.specs.Lists.{get}
use Rattle.pami_script.specs.Dense.{at, dense, dense_from, Rising}
use Rattle.pami_factoring.specs.Factor.{row_of, rows_from, columns_at}
use Rattle.pami_vec.specs.Entries.{AreEntriesOf}
use Rattle.pami_vec.specs.Turned.{turned, AreLong, AreRowOf}
use Rattle.pami_vec.proofs.Scripted.{get_at}

-- ---- a list by its values
dense_from_is : (n k : ℕ) (xs : List Fraction) (es : List Entry) → length xs ≡ n → ((q : ℕ) → q < n → at es (k + q) ≡ get xs q) → dense_from n k es ≡ xs
dense_from_is zero k [] es e h = refl
dense_from_is zero k (x ∷ xs) es e h = absurd (omega arith)
dense_from_is (suc n) k [] es e h = absurd (omega arith)
dense_from_is (suc n) k (x ∷ xs) es e h =
    let z : k + 0 ≡ k = omega arith in
    ap (λ y. y ∷ dense_from n (suc k) es) (ap (at es) (sym z) ∙ h 0 (omega arith))
    ∙ ap (λ ys. x ∷ ys) (dense_from_is n (suc k) xs es (omega arith) (λ q l. let s : suc k + q ≡ k + suc q = omega arith in ap (at es) s ∙ h (suc q) (omega arith)))

-- a whole vector from its entries
pub dense_is : (n : ℕ) (xs : List Fraction) (es : List Entry) → length xs ≡ n → ((q : ℕ) → q < n → at es q ≡ get xs q) → dense n es ≡ xs
unfolding dense
dense_is n xs es e h = dense_from_is n 0 xs es e (λ q l. let z : 0 + q ≡ q = omega arith in ap (at es) z ∙ h q l)

-- ---- lists that are equal member by member
same_members : (xs ys : List Fraction) → length xs ≡ length ys → ((i : ℕ) → i < length xs → get xs i ≡ get ys i) → xs ≡ ys
same_members [] [] e h = refl
same_members [] (y ∷ ys) e h = absurd (omega arith)
same_members (x ∷ xs) [] e h = absurd (omega arith)
same_members (x ∷ xs) (y ∷ ys) e h = ap (λ z. z ∷ xs) (h 0 (omega arith)) ∙ ap (λ zs. y ∷ zs) (same_members xs ys (omega arith) (λ i l. h (suc i) (omega arith)))

same_rows : (xs ys : List (List Fraction)) → length xs ≡ length ys → ((i : ℕ) → i < length xs → slice_index_or xs i [] ≡ slice_index_or ys i []) → xs ≡ ys
same_rows [] [] e h = refl
same_rows [] (y ∷ ys) e h = absurd (omega arith)
same_rows (x ∷ xs) [] e h = absurd (omega arith)
same_rows (x ∷ xs) (y ∷ ys) e h = ap (λ z. z ∷ xs) (h 0 (omega arith)) ∙ ap (λ zs. y ∷ zs) (same_rows xs ys (omega arith) (λ i l. h (suc i) (omega arith)))

-- ---- rows of columns
pub length_rows : (n k : ℕ) (columns : List (List Fraction)) → length (rows_from n k columns) ≡ n
length_rows zero k columns = refl
length_rows (suc n) k columns = ap suc (length_rows n (suc k) columns)

pub row_at : (n k i : ℕ) (columns : List (List Fraction)) → i < n → slice_index_or (rows_from n k columns) i [] ≡ row_of columns (k + i)
row_at zero k i columns l = absurd (omega arith)
row_at (suc n) k zero columns l = let z : k ≡ k + 0 = omega arith in ap (row_of columns) z
row_at (suc n) k (suc i) columns l = let z : suc k + i ≡ k + suc i = omega arith in row_at n (suc k) i columns (omega arith) ∙ ap (row_of columns) z

-- the member of a row that a column has there
pub member_of : (columns : List (List Fraction)) (i v : ℕ) → v < length columns → get (row_of columns i) v ≡ get (slice_index_or columns v []) i
member_of columns i v l = get_or-map (λ c. get c i) columns v [] (of_int (pos 0)) l

pub length_row : (columns : List (List Fraction)) (i : ℕ) → length (row_of columns i) ≡ length columns
length_row columns i = length-map columns (λ c. get c i)

-- each row is as long as there are columns
pub rows_long : (height : ℕ) (columns : List (List Fraction)) → AreLong (length columns) (rows_from height 0 columns)
rows_long height columns i l =
    let n = length_rows height 0 columns in
    ap length (row_at height 0 i columns (omega arith)) ∙ length_row columns (0 + i)

-- what is turned twice
pub turned_back : (height : ℕ) (columns : List (List Fraction)) → ((v : ℕ) → v < length columns → length (slice_index_or columns v []) ≡ height) → turned (length columns) (rows_from height 0 columns) ≡ columns
turned_back height columns h =
    let rows = rows_from height 0 columns in
    let count : length (rows_from (length columns) 0 rows) ≡ length columns = length_rows (length columns) 0 rows in
    let tall : length rows ≡ height = length_rows height 0 columns in
    same_rows (turned (length columns) rows) columns count
    (λ v l. let low : v < length columns = omega arith in
    row_at (length columns) 0 v rows low
    ∙ same_members (row_of rows (0 + v)) (slice_index_or columns v []) (length_row rows (0 + v) ∙ tall ∙ sym (h v low))
    (λ i m. let k : i < length rows = (let z = length_row rows (0 + v) in omega arith) in
    let zv : 0 + v ≡ v = omega arith in
    let zi : 0 + i ≡ i = omega arith in
    member_of rows (0 + v) i k
    ∙ ap (λ r. get r (0 + v)) (row_at height 0 i columns (omega arith))
    ∙ ap (λ j. get (row_of columns (0 + i)) j) zv
    ∙ member_of columns (0 + i) v low ∙ ap (get (slice_index_or columns v [])) zi))

-- ---- one row that is read
pub row_of_turned : (count : ℕ) (rows : List (List Fraction)) (i : ℕ) (row : List Fraction) (es : List Entry) → AreLong count rows → i < length rows → row ≡ get_or rows i row → AreEntriesOf row es → AreRowOf (turned count rows) i es
row_of_turned count rows i row es a l q e =
    let same : slice_index_or rows i [] ≡ row = get_or_default rows i [] row l ∙ sym q in
    let long : length row ≡ count = ap length (sym same) ∙ a i l in
    let many : length (turned count rows) ≡ count = length_rows count 0 rows in
    record {
      rising = subst (λ n. Rising 0 n es) (long ∙ sym many) e.rising;
      value = λ v h. let low : v < count = omega arith in
          sym (get_at row es v e (omega arith)) ∙ ap (λ r. get r v) (sym same)
          ∙ sym (ap (λ c. get c i) (row_at count 0 v rows low) ∙ member_of rows (0 + v) i l ∙ (let z : 0 + v ≡ v = omega arith in ap (get (slice_index_or rows i [])) z));
    }

pub no_row : (count : ℕ) (rows : List (List Fraction)) (i : ℕ) → length rows ≤ i → AreRowOf (turned count rows) i []
no_row count rows i l =
    let many : length (turned count rows) ≡ count = length_rows count 0 rows in
    record {
      rising = (let z : 0 ≤ length (turned count rows) = omega arith in z);
      value = λ v h. let low : v < count = omega arith in
          sym (ap (λ c. get c i) (row_at count 0 v rows low) ∙ past (row_of rows (0 + v)) i (let n = length_row rows (0 + v) in omega arith));
    }
  where
    past : (xs : List Fraction) (i : ℕ) → length xs ≤ i → get xs i ≡ of_int (pos 0)
    past [] i h = refl
    past (x ∷ xs) zero h = absurd (omega arith)
    past (x ∷ xs) (suc i) h = past xs i (omega arith)

-- ---- the head that names all columns in their order
pub all_ascending : (columns : List (List Fraction)) → columns_at columns (range_with_len 0 (length columns)) ≡ columns
all_ascending columns = sym (fill_by_all (λ j. slice_index_or columns j []) columns (length columns) [] refl (λ k l. refl))

pub all_known : (n : ℕ) → All (λ j. j < n) (range_with_len 0 n)
all_known n = λ k d l.
    let m = length-range_with_len 0 n in
    let e = get_or-range_with_len 0 n k d (omega arith) in
    omega arith

pub length_range : (n : ℕ) (xs : List ℕ) → xs ≡ range_with_len 0 n → length xs ≡ n
length_range n xs e = ap length e ∙ length-range_with_len 0 n

pub ascending_next : (n : ℕ) (old new : List ℕ) → old ≡ range_with_len 0 n → new ≡ old ++ n ∷ [] → new ≡ range_with_len 0 (n + 1)
ascending_next n old new e h =
    let none : (xs : List ℕ) → map (λ (j : ℕ). j) xs ≡ xs = λ xs. map_same xs in
    h ∙ ap (λ xs. xs ++ n ∷ []) (e ∙ sym (none (range_with_len 0 n))) ∙ sym (map-range_with_len_more (λ (j : ℕ). j) 0 n n (omega arith)) ∙ none (range_with_len 0 (n + 1))
  where
    map_same : (xs : List ℕ) → map (λ (j : ℕ). j) xs ≡ xs
    map_same [] = refl
    map_same (x ∷ xs) = ap (λ ys. x ∷ ys) (map_same xs)
