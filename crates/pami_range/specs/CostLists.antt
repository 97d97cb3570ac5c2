-- Lists that the spans of costs are read from, and that fit together.
use Rattle.std.specs.Prelude.{◌≡◌, ◌<◌, ◌≤◌, ◌^◌, ℕ, List, length, Ok, false}
use Rattle.pami_algebra.specs.Fraction.{Fraction}
use Rattle.pami_frac.specs.declared.list.Entry.{Entry}
use Rattle.pami_script.specs.Dense.{Rising}
use Rattle.pami_method.specs.Scripts.{is_nonbasic}
use Rattle.pami_price.specs.Slices.{column_at, row_script}
use Rattle.pami_range.specs.declared.lists.CostLists.{CostLists}
use Rattle.pami_range.specs.Scripts.{place_of}
use Rattle.pami_range.specs.Lists.{stand_at}

pub record AreCostLists (x : CostLists) : Type 0 where
  pub rows : length x.head.now ≤ length x.columns.now
  pub few : length x.columns.now < 2 ^ 32
  pub turned : x.by_row.now ≡ x.columns.now
  pub by_bounds : length x.columns.now ≡ length x.bounds.now
  pub by_costs : length x.costs.now ≡ length x.bounds.now
  pub by_stands : length x.stands.now ≡ length x.bounds.now
  pub by_reduced : length x.reduced.now ≡ length x.bounds.now
  pub tall : (v : ℕ) → v < length x.columns.now → length (column_at x.columns.now v) ≡ length x.head.now
  -- a basic variable has a place
  pub placed : (j : ℕ) → j < length x.columns.now → is_nonbasic (stand_at x.stands.now j) ≡ false → place_of x.head.now j < length x.head.now
  -- what is priced rises by variable
  pub rising : (rho : List Fraction) (es : List Entry) → length rho ≡ length x.head.now → row_script x.columns.now x.stands.now rho ≡ Ok es → Rising 0 (length x.bounds.now) es
