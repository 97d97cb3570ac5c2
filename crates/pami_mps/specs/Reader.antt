-- What the reader's state says of the lines before it.
use Rattle.std.specs.Prelude.{◌≡◌, ℕ, ◌+◌, ◌<◌, ◌≤◌, false, List, [], length, map, slice_index_or, take, None}
use Rattle.pami_frac.specs.declared.fault.Fault.{Fault}
use Rattle.pami_frac.specs.declared.fault.Fault.TheVariants as faults
use Rattle.pami_model.specs.declared.fault.FileFault.{FileFault}
use Rattle.pami_model.specs.declared.fault.FileKind.{FileKind}
use Rattle.pami_model.specs.Draft.{empty_draft}
use Rattle.pami_model.specs.FirstFault.{AreGood}
use Rattle.pami_model.specs.Rules.{byte_limit}
use Rattle.pami_mps.specs.declared.reader.Reader.{Reader}
use Rattle.pami_mps.specs.declared.kind.RowRole.{RowRole}
use Rattle.pami_mps.specs.declared.kind.RowRole.TheVariants as roles
use Rattle.pami_mps.specs.declared.kind.Section.TheVariants.{Start, End}
use Rattle.pami_mps.specs.Line.{text_lines, is_end}
use Rattle.pami_mps.specs.Gather.{Role, Kept, Objective, Dropped}
use Rattle.pami_mps.specs.Seen.{Seen, seen}
use Rattle.pami_mps.specs.Judge.{judge}
use Rattle.pami_mps.specs.Mps.{fault_at, blank}

-- what a reader has seen
abbrev pub seen_by_reader : Reader → Seen
seen_by_reader r = record {
  section = r.section;
  free = map (λ name. name.items) r.free.keys;
  told = r.told.items;
  sides = r.sides.items;
  draft = r.builder;
  has_cost = r.has_cost;
  has_constant = r.has_constant;
}

-- what no line has given
abbrev pub nothing_seen : Seen
nothing_seen = record { section = Start; free = []; told = []; sides = []; draft = empty_draft; has_cost = false; has_constant = false }

-- something is told of each row of the model, and each column has bounds
pub record IsEven (s : Seen) : Type 0 where
  pub told : length s.told ≡ length s.draft.rows
  pub sides : length s.sides ≡ length s.draft.columns

abbrev pub role_told : RowRole → Role
role_told (roles.Kept i) = Kept i
role_told roles.Objective = Objective
role_told roles.Dropped = Dropped

-- a fault in the line of this number
abbrev pub placed_at : ℕ → Fault FileKind → Fault FileFault
placed_at line (faults.Named kind) = faults.Named (record { line = line; kind = kind })
placed_at line faults.OutOfMemory = faults.OutOfMemory

-- the line of this number is the ENDATA line of the text, the lines before it are good, and it is too but for bounds that
-- are crossed; this is what all these lines give
pub record IsRead (bytes : List ℕ) (s : Seen) (number : ℕ) : Type 0 where
  pub place : ℕ
  pub counted : number ≡ place + 1
  pub fits : length bytes ≤ byte_limit
  pub within : place < length (text_lines bytes)
  pub before : AreGood (fault_at (text_lines bytes)) place
  pub open_still : is_end (seen (take place (text_lines bytes))).section ≡ false
  pub line : judge (seen (take place (text_lines bytes))) (slice_index_or (text_lines bytes) place blank) ≡ None
  pub state : s ≡ seen (take (place + 1) (text_lines bytes))
  pub ended : s.section ≡ End
