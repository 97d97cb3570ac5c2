-- What the rows and the columns of every model keep, kept by those of a trial.
use Rattle.std.proofs.Common.{◌≡◌, ◌≢◌, ℕ, zero, suc, ◌+◌, ◌*◌, ◌/◌, ◌%◌, ◌<◌, ◌≤◌, List, [], ◌∷◌, ◌++◌, length, map, refl, sym, ap, ◌∙◌, subst, arith, length-append}
use lib.IntN.{pos}
use Rattle.std.specs.List.{All}
use Rattle.std.proofs.lemmas.Int.{ints}
use Rattle.std.proofs.lemmas.List.{map-append}
use Rattle.std.proofs.lemmas.List.Elements.{All-append}
use Rattle.std.proofs.lemmas.List.Sums.{sum_by-append}
use Rattle.std.proofs.Math.Nat.{mul-le-mul_left, mul-le-mul_right}
use Rattle.pami_algebra.specs.Operations.{of_int, ◌≤ᶠ◌}
use Rattle.pami_algebra.proofs.Whole.{of_int_le}
use Rattle.pami_algebra.proofs.Field.{one_not_zero}
use Rattle.pami_frac.specs.declared.list.Entry.{Entry}
use Rattle.pami_model.specs.declared.list.Row.{Row}
use Rattle.pami_model.specs.declared.list.Column.{Column}
use Rattle.pami_model.specs.Rules.{IsDistinct, IsUncrossed, IsRising, AreEntries, AreRows, AreColumns, names_of_rows, names_of_columns, stored_count}
use Rattle.pami_trial.specs.Transport.{IsSide, below, source_row, sink_row, one_at, way_column, whole}
use Rattle.pami_trial.proofs.Below.{below_more, below_length, below_all, map_below, distinct_below, distinct_both}
use Rattle.pami_trial.proofs.Names.{source_name, sink_name, way_name, sources_once, sinks_once, source_no_sink, ways_once, source_below, sink_below, source_short, sink_short, way_short}

-- ---- rows

module _ (supply : ℕ) (d : ℕ → ℕ) (m n : ℕ) (a : IsSide m) (b : IsSide n) where
  abbrev sink_at : ℕ → Row
  sink_at t = sink_row (d t) t

  abbrev all_rows : List Row
  all_rows = map (source_row supply) (below m) ++ map sink_at (below n)

  names : names_of_rows all_rows ≡ map source_name (below m) ++ map sink_name (below n)
  names =
      map-append (λ (r : Row). r.name) (map (source_row supply) (below m)) (map sink_at (below n))
      ∙ ap (λ xs. xs ++ map (λ (r : Row). r.name) (map sink_at (below n))) (map_below (λ (r : Row). r.name) (source_row supply) m)
      ∙ ap (λ xs. map source_name (below m) ++ xs) (map_below (λ (r : Row). r.name) sink_at n)

  all_of : (P : Row → Type 0) → ((k : ℕ) → k < m → P (source_row supply k)) → ((k : ℕ) → k < n → P (sink_at k)) → All P all_rows
  all_of P h g = All-append P (map (source_row supply) (below m)) (map sink_at (below n)) (below_all P (source_row supply) m h) (below_all P sink_at n g)

  pub rows_length : length all_rows ≡ m + n
  rows_length =
      length-append (map (source_row supply) (below m)) (map sink_at (below n))
      ∙ ap (λ k. k + length (map sink_at (below n))) (below_length (source_row supply) m)
      ∙ ap (λ k. m + k) (below_length sink_at n)

  pub rows_kept : AreRows all_rows
  rows_kept =
      let most = a.most in
      let other = b.most in
      record {
        distinct = subst IsDistinct (sym names)
            (distinct_both source_name sink_name m n (sources_once m (omega arith)) (sinks_once n (omega arith)) (λ i j l k. source_no_sink i j));
        uncrossed = all_of (λ (r : Row). IsUncrossed r.bounds) (λ k l low high e f. absurd cc) (λ k l low high e f. absurd cc);
        short_names = all_of (λ (r : Row). length r.name ≤ 255) (λ k l. source_short k (omega arith)) (λ k l. sink_short k (omega arith));
        limited = let e = rows_length in omega arith;
      }

-- ---- columns

no_less : (s : ℕ) → whole 0 ≤ᶠ whole s
no_less s = (of_int_le (pos 0) (pos s)).1 (omega (arith, ints))

module _ (rows m : ℕ) (i t : ℕ) (inside : i < m) (fits : m + t < rows) where
  two_rise : IsRising (one_at i ∷ one_at (m + t) ∷ [])
  two_rise zero zero e f p q l = absurd (omega arith)
  two_rise zero (suc zero) e f p q l =
      let x : one_at i ≡ e = cc in
      let y : one_at (m + t) ≡ f = cc in
      subst (λ (g : Entry). g.place < f.place) x (subst (λ (g : Entry). i < g.place) y (omega arith))
  two_rise zero (suc (suc j)) e f p q l = absurd cc
  two_rise (suc zero) zero e f p q l = absurd (omega arith)
  two_rise (suc zero) (suc zero) e f p q l = absurd (omega arith)
  two_rise (suc zero) (suc (suc j)) e f p q l = absurd cc
  two_rise (suc (suc k)) j e f p q l = absurd cc

  two_of : (P : Entry → Type 0) → P (one_at i) → P (one_at (m + t)) → All P (one_at i ∷ one_at (m + t) ∷ [])
  two_of P h g zero d l = h
  two_of P h g (suc zero) d l = g
  two_of P h g (suc (suc k)) d l = absurd (omega arith)

  pub two_kept : AreEntries rows (one_at i ∷ one_at (m + t) ∷ [])
  two_kept = record {
    rising = two_rise;
    within = two_of (λ (e : Entry). e.place < rows) (omega arith) (omega arith);
    stored = two_of (λ (e : Entry). e.value ≢ of_int (pos 0)) (λ e. one_not_zero (sym e)) (λ e. one_not_zero (sym e));
  }

module _ (cost : ℕ → ℕ) (supply m n : ℕ) (a : IsSide m) (b : IsSide n) where
  abbrev way_at : ℕ → Column
  way_at w = way_column (cost w) supply m (w / n) (w % n)

  names_once : IsDistinct (names_of_columns (map way_at (below (m * n))))
  names_once =
      subst IsDistinct (sym (map_below (λ (c : Column). c.name) way_at (m * n)))
      (distinct_below (λ w. way_name (w / n) (w % n)) (m * n) (ways_once m n a b))

  all_ways : (P : Column → Type 0) → ((i t w : ℕ) → i < m → t < n → P (way_column (cost w) supply m i t)) → All P (map way_at (below (m * n)))
  all_ways P h = below_all P way_at (m * n) (λ w l. h (w / n) (w % n) w (source_below m n w l) (sink_below n w b.some))

  stored_ways : (k : ℕ) → stored_count (map way_at (below k)) ≡ 2 * k
  stored_ways zero = refl
  stored_ways (suc k) =
      let h = stored_ways k in
      let more : stored_count (map way_at (below (k + 1))) ≡ stored_count (map way_at (below k)) + 2 =
      ap stored_count (below_more way_at k) ∙ sum_by-append (λ (c : Column). length c.entries) (map way_at (below k)) (way_at k ∷ []) ∙ omega arith in
      let one : suc k ≡ k + 1 = omega arith in
      let e : stored_count (map way_at (below (suc k))) ≡ stored_count (map way_at (below (k + 1))) = ap (λ j. stored_count (map way_at (below j))) one in
      omega arith

  pub count_most : m * n ≤ 4096
  count_most =
      let p = mul-le-mul_right {m = m} {n = 64} n a.most in
      let q = mul-le-mul_left {m = n} {n = 64} 64 b.most in
      omega arith

  pub columns_kept : AreColumns (m + n) (map way_at (below (m * n)))
  columns_kept =
      let most = a.most in
      let other = b.most in
      record {
        distinct = names_once;
        uncrossed = all_ways (λ (c : Column). IsUncrossed c.bounds) (λ i t w l k low high e f.
            let x : whole 0 ≡ low = cc in let y : whole supply ≡ high = cc in subst (λ z. z ≤ᶠ high) x (subst (λ z. whole 0 ≤ᶠ z) y (no_less supply)));
        entries = all_ways (λ (c : Column). AreEntries (m + n) c.entries) (λ i t w l k. two_kept (m + n) m i t l (omega arith));
        short_names = all_ways (λ (c : Column). length c.name ≤ 255) (λ i t w l k. way_short i t (omega arith) (omega arith));
        limited = let e = below_length way_at (m * n) in let h = count_most in omega arith;
        stored = let e = stored_ways (m * n) in let h = count_most in omega arith;
      }
