-- What a shelf and a sink tell of their bytes, and their counts.
use Rattle.std.specs.Prelude.{ℕ, ◌≡◌, ◌<◌, ◌+◌, ◌^◌, ◌-◌, ◌⊎◌, List, [], ◌∷◌, ◌++◌, Option, Some, None, length, take, min, refl}

-- the last value of a count
abbrev pub last_count : ℕ
last_count = 2 ^ 64 - 1

-- the count rose, or stands at its last value
abbrev pub Rose : ℕ → ℕ → Type 0
Rose before after = (before < after) ⊎ (after ≡ last_count)

-- a count with n more, which stands still at its last value
abbrev pub counted : ℕ → ℕ → ℕ
counted count n = min (count + n) last_count

-- what stands since the last `open`: before the first one, what an unopened shelf has
abbrev pub since_open : {A : Type 0} → List (List ℕ) → A → A → A
since_open [] unopened now = unopened
since_open (name ∷ names) unopened now = now

pub since_open_none : {A : Type 0} (asked : List (List ℕ)) (unopened now : A) → asked ≡ [] → since_open asked unopened now ≡ unopened
since_open_none [] unopened now none = refl
since_open_none (name ∷ names) unopened now none = absurd (cc)

-- the bytes under each name; None where there is no such name
abbrev pub Files : Type 0
Files = List ℕ → Option (List ℕ)

-- where the files are told, these bytes stand under the name
abbrev pub HasFile : Option Files → List ℕ → List ℕ → Type 0
HasFile None name bytes = Unit {0}
HasFile (Some files) name bytes = files name ≡ Some bytes

-- the files are told, and none stands under the name
abbrev pub LacksFile : Option Files → List ℕ → Type 0
LacksFile None name = ⊥
LacksFile (Some files) name = files name ≡ None

-- where the files are told, the one under the name has more than so many bytes
abbrev pub HasLongFile : Option Files → List ℕ → ℕ → Type 0
HasLongFile None name most = Unit {0}
HasLongFile (Some files) name most = (bytes : List ℕ) × (files name ≡ Some bytes) × (most < length bytes)

-- where the files are told, one stands under the name and the rest is all its bytes
abbrev pub Opens : Option Files → List ℕ → Option (List ℕ) → Type 0
Opens None name rest = Unit {0}
Opens (Some files) name rest = (bytes : List ℕ) × (files name ≡ Some bytes) × (rest ≡ Some bytes)

-- where it is told, the rest is empty
abbrev pub IsAtEnd : Option (List ℕ) → Type 0
IsAtEnd None = Unit {0}
IsAtEnd (Some rest) = rest ≡ []

-- a rest that was told began with the piece, and is told without it
abbrev pub Gives : Option (List ℕ) → Option (List ℕ) → List ℕ → Type 0
Gives None new piece = Unit {0}
Gives (Some old) new piece = (rest : List ℕ) × (new ≡ Some rest) × (old ≡ piece ++ rest)

-- what was told is told as it was
abbrev pub Keeps : Option (List ℕ) → Option (List ℕ) → Type 0
Keeps None new = Unit {0}
Keeps (Some old) new = new ≡ Some old

-- a sink that told its bytes tells them with these behind
abbrev pub Grows : Option (List ℕ) → Option (List ℕ) → List ℕ → Type 0
Grows None new piece = Unit {0}
Grows (Some xs) new piece = new ≡ Some (xs ++ piece)

-- some front of the piece was appended
abbrev pub GrowsInPart : Option (List ℕ) → Option (List ℕ) → List ℕ → Type 0
GrowsInPart old new piece = (n : ℕ) × Grows old new (take n piece)

-- what a shelf of the machine's own files is seen as, which tells none of their bytes
pub record OpenedFiles : Type 0 where
  pub asked : List (List ℕ)
  pub taken : ℕ
  pub faults : ℕ
