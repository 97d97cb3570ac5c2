-- How bytes are cut into lines.
use Rattle.std.specs.Prelude.{ℕ, ◌≤◌, Bool, false, List, [], ◌∷◌, length, slice_range, if◌then◌else◌, nat_eq, ◌&&◌}
use Rattle.pami_edge.specs.declared.line.Line.{Line}

-- the byte in front of the first line
abbrev pub hang : ℕ → List (List ℕ) → List (List ℕ)
hang byte [] = (byte ∷ []) ∷ []
hang byte (line ∷ lines) = (byte ∷ line) ∷ lines

-- these bytes begin with a line feed
abbrev pub begins_with_feed : List ℕ → Bool
begins_with_feed [] = false
begins_with_feed (byte ∷ bytes) = nat_eq byte 10

-- cut at each line feed, a carriage return right before it left out; a last line without a line feed only where it
-- isn't empty
abbrev pub lines_of : List ℕ → List (List ℕ)
lines_of [] = []
lines_of (byte ∷ bytes) =
    if nat_eq byte 10 then [] ∷ lines_of bytes
    else if nat_eq byte 13 && begins_with_feed bytes then lines_of bytes
    else hang byte (lines_of bytes)

-- the bytes of a line
abbrev pub piece : List ℕ → Line → List ℕ
piece bytes line = slice_range bytes line.start line.end

-- the line stands within the bytes
pub record IsWithin (bytes : List ℕ) (line : Line) : Type 0 where
  pub start : line.start ≤ line.end
  pub end : line.end ≤ length bytes
