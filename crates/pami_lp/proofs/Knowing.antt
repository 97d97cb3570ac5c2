-- What a reader knows of its columns stays known where columns are added.
use Rattle.std.proofs.Common.{ℕ, ◌<◌, ◌≤◌, List, length, Option, arith}
use Rattle.std.specs.Option.{ForSome}
use Rattle.std.proofs.lemmas.List.Elements.{All-weaker}
use Rattle.pami_frac.specs.declared.list.Entry.{Entry}
use Rattle.pami_model.specs.Draft.{Draft}
use Rattle.pami_lp.specs.Known.{AreBelow, IsKnown}

below_more : (m n : ℕ) → m ≤ n → (sums : List Entry) → AreBelow m sums → AreBelow n sums
below_more m n le sums all = All-weaker (λ (e : Entry). e.place < m) (λ (e : Entry). e.place < n) (λ e lt. omega (arith, le, lt)) sums all

column_more : (m n : ℕ) → m ≤ n → (o : Option ℕ) → ForSome o (λ j. j < m) → ForSome o (λ j. j < n)
column_more m n le o h = λ j e. omega (arith, le, h j e)

-- a term of a column that stands
pub known_more : (d e : Draft) (old new : List Entry) (column : ℕ) (bounded : Option ℕ) → length d.columns ≤ length e.columns
    → ((count : ℕ) → column < count → AreBelow count old → AreBelow count new) → column < length e.columns → IsKnown d old bounded → IsKnown e new bounded
known_more d e old new column bounded le below lt k = record {
  sums = below (length e.columns) lt (below_more (length d.columns) (length e.columns) le old k.sums);
  column = column_more (length d.columns) (length e.columns) le bounded k.column;
}
