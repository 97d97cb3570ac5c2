-- What a line of an MPS file is, and the section in which it stands.
use Rattle.std.specs.Prelude.{ℕ, ◌||◌, ◌&&◌, Bool, true, false, not, List, [], ◌∷◌, map, filter, fold, Option, None, Some, if◌then◌else◌, nat_eq, nat_lt, codes}
use Rattle.std.specs.List.{flat_map, list_any}
use Rattle.std.specs.Str.{bytes_eq}
use Rattle.pami_mps.specs.declared.kind.Section.{Section}
use Rattle.pami_mps.specs.declared.kind.Section.TheVariants.{Start, Name, SenseDue, SenseGiven, Rows, Columns, Rhs, Ranges, Limits, End}
use Rattle.pami_edge.specs.Lines.{lines_of}

-- words

-- a space or a tab
abbrev pub is_blank : ℕ → Bool
is_blank b = nat_eq b 32 || nat_eq b 9

-- a byte below the space other than a tab, or the byte 127
abbrev pub is_control : ℕ → Bool
is_control b = (nat_lt b 32 && not (nat_eq b 9)) || nat_eq b 127

-- no word goes on with these bytes
abbrev pub stops : List ℕ → Bool
stops [] = true
stops (b ∷ bs) = is_blank b

-- `b` in front of the first of the words
abbrev pub hang : ℕ → List (List ℕ) → List (List ℕ)
hang b [] = (b ∷ []) ∷ []
hang b (x ∷ xs) = (b ∷ x) ∷ xs

-- the pieces between blanks; no word is empty
abbrev pub words_of : List ℕ → List (List ℕ)
words_of [] = []
words_of (b ∷ bs) = if is_blank b then words_of bs else if stops bs then (b ∷ []) ∷ words_of bs else hang b (words_of bs)

-- lines

-- a section line (its first byte isn't a blank) or a data line; what is skipped is a data line of no words
pub record Line : Type 0 where
  pub head : Bool
  pub words : List (List ℕ)
  pub control : Bool

abbrev pub is_comment : List ℕ → Bool
is_comment [] = false
is_comment (b ∷ bs) = nat_eq b 42

-- a comment is skipped, but for its control bytes
abbrev pub line_of : List ℕ → Line
line_of bytes = record {
  head = not (is_comment bytes) && not (stops bytes);
  words = if is_comment bytes then [] else words_of bytes;
  control = list_any is_control bytes;
}

abbrev pub text_lines : List ℕ → List Line
text_lines bytes = map line_of (lines_of bytes)

-- sections

-- the section that a word begins; OBJSENSE has its sense behind it, on its line or the next data line
abbrev pub section_of : List ℕ → Option Section
section_of word =
    if bytes_eq word (codes "NAME") then Some Name else
    if bytes_eq word (codes "OBJSENSE") then Some SenseDue else
    if bytes_eq word (codes "ROWS") then Some Rows else
    if bytes_eq word (codes "COLUMNS") then Some Columns else
    if bytes_eq word (codes "RHS") then Some Rhs else
    if bytes_eq word (codes "RANGES") then Some Ranges else
    if bytes_eq word (codes "BOUNDS") then Some Limits else
    if bytes_eq word (codes "ENDATA") then Some End else None

-- the place of a section in the order of sections
abbrev pub rank : Section → ℕ
rank Start = 0
rank Name = 1
rank SenseDue = 2
rank SenseGiven = 3
rank Rows = 4
rank Columns = 5
rank Rhs = 6
rank Ranges = 7
rank Limits = 8
rank End = 9

-- as far as this the next section may stand: no further than the sense where it is due, then ROWS, COLUMNS and ENDATA
abbrev pub due : Section → ℕ
due Start = 4
due Name = 4
due SenseDue = 2
due SenseGiven = 4
due Rows = 5
due Columns = 9
due Rhs = 9
due Ranges = 9
due Limits = 9
due End = 9

-- each section once, in their order, and none that must stand left out
abbrev pub follows : Section → Section → Bool
follows s t = nat_lt (rank s) (rank t) && not (nat_lt (due s) (rank t))

abbrev pub is_end : Section → Bool
is_end Start = false
is_end Name = false
is_end SenseDue = false
is_end SenseGiven = false
is_end Rows = false
is_end Columns = false
is_end Rhs = false
is_end Ranges = false
is_end Limits = false
is_end End = true

-- a word behind OBJSENSE is the sense
abbrev pub settled : Section → List (List ℕ) → Section
settled Start others = Start
settled Name others = Name
settled SenseDue [] = SenseDue
settled SenseDue (word ∷ words) = SenseGiven
settled SenseGiven others = SenseGiven
settled Rows others = Rows
settled Columns others = Columns
settled Rhs others = Rhs
settled Ranges others = Ranges
settled Limits others = Limits
settled End others = End

-- the section behind a section line of these words
abbrev pub begun : Section → Option Section → List (List ℕ) → Section
begun s None others = s
begun s (Some t) others = settled t others

abbrev pub named : Section → List (List ℕ) → Section
named s [] = s
named s (word ∷ others) = begun s (section_of word) others

-- the section behind a line; a data line gives the sense where it is due, and what follows ENDATA isn't read
abbrev pub next : Section → Line → Section
next s l = if is_end s then s else if l.head then named s l.words else settled s l.words

-- the section behind these lines
abbrev pub section_at : List Line → Section
section_at ls = fold next Start ls

-- each line with the section in which it stands
abbrev pub placed : Section → List Line → List (Section × Line)
placed s [] = []
placed s (l ∷ ls) = (s, l) ∷ placed (next s l) ls

-- the line is a data line of this section
abbrev pub is_in : Section → Section × Line → Bool
is_in section p = nat_eq (rank section) (rank p.0) && not p.1.head

-- what the lines that pass a test give, one after another
abbrev pub given_by : {A : Type 0} → (Section × Line → Bool) → (Line → List A) → List Line → List A
given_by is_one gives ls = flat_map (λ p. gives p.1) (filter is_one (placed Start ls))
