-- The first fault of a text that is judged piece by piece, line by line or token by token: a judge says of the piece at
-- each place what is wrong with it after the pieces before it.
use Rattle.std.specs.Prelude.{◌≡◌, ℕ, ◌<◌, Option, None, Some}
use Rattle.pami_model.specs.declared.fault.FileFault.{FileFault}
use Rattle.pami_model.specs.declared.fault.FileKind.{FileKind}

-- nothing is wrong before this place
abbrev pub AreGood : (ℕ → Option FileKind) → ℕ → Type 0
AreGood judged place = (i : ℕ) → i < place → judged i ≡ None

-- something is wrong at a place and nothing before it; the fault is what is wrong there, in the line of that piece
pub record IsFirstFault (judged : ℕ → Option FileKind) (line_of : ℕ → ℕ) (fault : FileFault) : Type 0 where
  pub place : ℕ
  pub before : AreGood judged place
  pub there : judged place ≡ Some fault.kind
  pub line : fault.line ≡ line_of place

-- two first faults are one
abbrev pub HasOneFault : (ℕ → Option FileKind) → (ℕ → ℕ) → Type 0
HasOneFault judged line_of = (f g : FileFault) → IsFirstFault judged line_of f → IsFirstFault judged line_of g → f ≡ g
