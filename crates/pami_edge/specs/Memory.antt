-- What the shelf and the sink in memory are seen as, and what they tell.
use Rattle.std.specs.Prelude.{ℕ, ◌≡◌, ◌<◌, List, [], length, Option, Some, None, drop, bytes_eq, fold, if◌then◌else◌, slice_get}
use Rattle.std.specs.Option.{option_map, unwrap_or}
use Rattle.pami_edge.specs.Outside.{Files, since_open}
use Rattle.pami_edge.specs.Plan.{CallPlan}

-- a file with its name
pub record NamedFile : Type 0 where
  pub name : List ℕ
  pub bytes : List ℕ

-- a shelf in memory: its files, the newest last; the names that it was asked for; what wasn't taken of the open file,
-- and how much was; its faults, and how it serves its calls
pub record MemoryFiles : Type 0 where
  pub files : List NamedFile
  pub asked : List (List ℕ)
  pub left : List ℕ
  pub taken : ℕ
  pub faults : ℕ
  pub plan : CallPlan

-- a sink in memory: the bytes written, how many may be, its faults, and how it serves its calls
pub record MemoryBytes : Type 0 where
  pub bytes : List ℕ
  pub room : ℕ
  pub faults : ℕ
  pub plan : CallPlan

-- the bytes of the newest file of this name
abbrev pub bytes_under : List NamedFile → List ℕ → Option (List ℕ)
bytes_under files name = fold (λ found file. if bytes_eq file.name name then Some file.bytes else found) None files

-- the bytes of the file at this place, none past the end
abbrev pub bytes_at : List NamedFile → ℕ → List ℕ
bytes_at files place = unwrap_or (option_map (λ file. file.bytes) (slice_get files place)) []

-- what wasn't taken of the open file
abbrev pub left_of : List NamedFile → Option ℕ → ℕ → List ℕ
left_of files None at = []
left_of files (Some place) at = drop at (bytes_at files place)

-- what the shelf tells of its files, of the rest of the open one, and of the count of bytes taken from it
abbrev pub files_told : MemoryFiles → Option Files
files_told shelf = Some (bytes_under shelf.files)

abbrev pub rest_told : MemoryFiles → Option (List ℕ)
rest_told shelf = Some (since_open shelf.asked [] shelf.left)

abbrev pub taken_told : MemoryFiles → ℕ
taken_told shelf = since_open shelf.asked 0 shelf.taken

-- the new files are the old ones, with these bytes under the name
abbrev pub AddsFile : Option Files → Option Files → List ℕ → List ℕ → Type 0
AddsFile (Some old) (Some new) name bytes =
    (other : List ℕ) → new other ≡ (if bytes_eq name other then Some bytes else old other)
AddsFile old new name bytes = ⊥

-- the files are told, and there are none
abbrev pub HasNoFiles : Option Files → Type 0
HasNoFiles None = ⊥
HasNoFiles (Some files) = (name : List ℕ) → files name ≡ None

-- the piece has bytes, and no room is left for any
abbrev pub FindsNoRoom : MemoryBytes → List ℕ → Type 0
FindsNoRoom sink piece = (0 < length piece) × (length sink.bytes ≡ sink.room)
