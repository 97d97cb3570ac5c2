-- The rows and the columns of a trial are those of its definition.
use Rattle.std.proofs.Common.{◌≡◌, ℕ, ◌+◌, ◌*◌, ◌/◌, ◌%◌, List, ◌++◌, length, map, sum, get_or, sym, ap, ◌∙◌, subst}
use Rattle.std.specs.Int.{div_ceil}
use Rattle.pami_model.specs.declared.list.Row.{Row}
use Rattle.pami_model.specs.declared.list.Column.{Column}
use Rattle.pami_trial.specs.Draws.{state_after, draw}
use Rattle.pami_model.specs.Rules.{AreRows, AreColumns}
use Rattle.pami_trial.specs.Transport.{IsSide, below, demand, cost, supply, source_row, sink_row, way_column, rows_from, columns_from}
use Rattle.pami_trial.proofs.Below.{below_length, below_at, below_same}
use Rattle.pami_trial.proofs.Sequences.{draw_more}
use Rattle.pami_trial.proofs.Kept.{rows_kept, rows_length, columns_kept}

module _ (s m n : ℕ) where
  supply_is : (demands : List ℕ) (shared : ℕ) → demands ≡ map (demand s) (below n) → shared ≡ div_ceil (sum demands) m → shared ≡ supply s m n
  supply_is demands shared d e = e ∙ ap (λ xs. div_ceil (sum xs) m) d

  sinks_are : map (λ t. sink_row (get_or (map (demand s) (below n)) t 0) t) (below (length (map (demand s) (below n))))
      ≡ map (λ t. sink_row (demand s t) t) (below n)
  sinks_are =
      ap (λ k. map (λ t. sink_row (get_or (map (demand s) (below n)) t 0) t) (below k)) (below_length (demand s) n)
      ∙ below_same (λ t. sink_row (get_or (map (demand s) (below n)) t 0) t) (λ t. sink_row (demand s t) t) n
      (λ t l. ap (λ d. sink_row d t) (below_at (demand s) n t 0 l))

  rows_are : (demands : List ℕ) (shared : ℕ) (rows : List Row) → demands ≡ map (demand s) (below n) → shared ≡ supply s m n
      → rows ≡ map (source_row shared) (below m) ++ map (λ t. sink_row (get_or demands t 0) t) (below (length demands)) → rows ≡ rows_from s m n
  rows_are demands shared rows d e h =
      h
      ∙ ap (λ (xs : List ℕ). map (source_row shared) (below m) ++ map (λ t. sink_row (get_or xs t 0) t) (below (length xs))) d
      ∙ ap (λ xs. map (source_row shared) (below m) ++ xs) sinks_are
      ∙ ap (λ u. map (source_row u) (below m) ++ map (λ t. sink_row (demand s t) t) (below n)) e

  columns_are : (behind shared : ℕ) (columns : List Column) → behind ≡ state_after s n → shared ≡ supply s m n
      → columns ≡ map (λ w. way_column (1 + draw behind w 100) shared m (w / n) (w % n)) (below (m * n)) → columns ≡ columns_from s m n
  columns_are behind shared columns b e h =
      h
      ∙ ap (λ t. map (λ w. way_column (1 + draw t w 100) shared m (w / n) (w % n)) (below (m * n))) b
      ∙ ap (λ u. map (λ w. way_column (1 + draw (state_after s n) w 100) u m (w / n) (w % n)) (below (m * n))) e
      ∙ below_same (λ w. way_column (1 + draw (state_after s n) w 100) (supply s m n) m (w / n) (w % n))
      (λ w. way_column (1 + draw s (n + w) 100) (supply s m n) m (w / n) (w % n)) (m * n)
      (λ w l. ap (λ d. way_column (1 + d) (supply s m n) m (w / n) (w % n)) (draw_more s n w 100))

-- what the program makes, piece by piece
module _ (s m n total shared behind : ℕ) (first second : List ℕ) (rows : List Row) (columns : List Column) (d : first ≡ map (demand s) (below n))
    (e : second ≡ map (demand s) (below n)) (t : total ≡ sum first) (q : shared ≡ div_ceil total m) (b : behind ≡ state_after s n)
    (r : rows ≡ map (source_row shared) (below m) ++ map (λ t. sink_row (get_or second t 0) t) (below (length second)))
    (k : columns ≡ map (λ w. way_column (1 + draw behind w 100) shared m (w / n) (w % n)) (below (m * n))) where
  shared_is : shared ≡ supply s m n
  shared_is = supply_is s m n first shared d (q ∙ ap (λ x. div_ceil x m) t)

  pub made_rows : rows ≡ rows_from s m n
  made_rows = rows_are s m n second shared rows e shared_is r

  pub made_columns : columns ≡ columns_from s m n
  made_columns = columns_are s m n behind shared columns b shared_is k

  pub made_kept : IsSide m → IsSide n → AreRows rows × AreColumns (length rows) columns
  made_kept a z =
      let sinks : List Row = map (λ t. sink_row (demand s t) t) (below n) in
      let kept : AreColumns (m + n) columns = subst (AreColumns (m + n)) (sym made_columns) (columns_kept (cost s n) (supply s m n) m n a z) in (
        subst AreRows (sym made_rows) (rows_kept (supply s m n) (demand s) m n a z),
        subst (λ (xs : List Row). AreColumns (length xs) columns) (sym made_rows)
            (subst (λ c. AreColumns c columns) (sym (rows_length (supply s m n) (demand s) m n a z)) kept),
      )
