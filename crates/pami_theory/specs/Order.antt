-- Lists put in order by a test that says which of two members comes first.
use Rattle.std.specs.Prelude.{Bool, List, [], ◌∷◌, if◌then◌else◌}

-- x before the first member that it comes before
abbrev pub put_in : {A : Type 0} → (A → A → Bool) → A → List A → List A
put_in before x [] = x ∷ []
put_in before x (y ∷ ys) = if before x y then x ∷ y ∷ ys else y ∷ put_in before x ys

-- the members in order
abbrev pub ordered : {A : Type 0} → (A → A → Bool) → List A → List A
ordered before [] = []
ordered before (x ∷ xs) = put_in before x (ordered before xs)
