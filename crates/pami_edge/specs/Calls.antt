-- What the shelf and what the sink did in one call of a function that they are lent to.
--
-- A clause makes the two records of a shelf `S` and a sink `K` by `shelf_call S.Shelf shelf.old shelf.new` and
-- `sink_call K.Sink sink.old sink.new`, and the facts below speak of them.
use Rattle.std.specs.Prelude.{ℕ, ◌<◌, List, Option}
use Rattle.pami_edge.specs.Outside.{Files, Rose, Grows, GrowsInPart, Keeps}
use Rattle.pami_edge.specs.declared.outside.Shelf.{Ghosts as ShelfMembers}
use Rattle.pami_edge.specs.declared.outside.Sink.{Ghosts as SinkMembers}

-- the bytes under each name, where the shelf tells them; the names that it was asked for by the end of the call; its
-- count of faults at the call's beginning and end
pub record ShelfCall : Type 0 where
  pub files : Option Files
  pub asked : List (List ℕ)
  pub faults_before : ℕ
  pub faults_after : ℕ

-- the bytes written, where the sink tells them, and its count of faults, each at the call's beginning and end
pub record SinkCall : Type 0 where
  pub told_before : Option (List ℕ)
  pub told_after : Option (List ℕ)
  pub faults_before : ℕ
  pub faults_after : ℕ

-- what a shelf did between these two moments
abbrev pub shelf_call : {A : Type 0} → ShelfMembers A → A → A → ShelfCall
shelf_call shelf before after = record {
  files = shelf.files before;
  asked = shelf.asked after;
  faults_before = shelf.faults before;
  faults_after = shelf.faults after;
}

-- what a sink did between these two moments
abbrev pub sink_call : {A : Type 0} → SinkMembers A → A → A → SinkCall
sink_call sink before after = record {
  told_before = sink.told before;
  told_after = sink.told after;
  faults_before = sink.faults before;
  faults_after = sink.faults after;
}

-- a fault was counted: the count rose, or stands at its last value
abbrev pub ShelfFailed : ShelfCall → Type 0
ShelfFailed shelf = Rose shelf.faults_before shelf.faults_after

abbrev pub SinkFailed : SinkCall → Type 0
SinkFailed sink = Rose sink.faults_before sink.faults_after

-- the count is greater than before
abbrev pub ShelfCounted : ShelfCall → Type 0
ShelfCounted shelf = shelf.faults_before < shelf.faults_after

abbrev pub SinkCounted : SinkCall → Type 0
SinkCounted sink = sink.faults_before < sink.faults_after

-- where the sink tells its bytes, the text was appended; some front of it was; nothing was
abbrev pub Wrote : SinkCall → List ℕ → Type 0
Wrote sink text = Grows sink.told_before sink.told_after text

abbrev pub WrotePart : SinkCall → List ℕ → Type 0
WrotePart sink text = GrowsInPart sink.told_before sink.told_after text

abbrev pub WroteNothing : SinkCall → Type 0
WroteNothing sink = Keeps sink.told_before sink.told_after
