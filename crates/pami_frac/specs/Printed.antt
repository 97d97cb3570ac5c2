-- The text of a fraction.
use Rattle.std.specs.Prelude.{ℕ, Bool, ◌==◌, List, [], ◌∷◌, ◌++◌, cond, decimal}
use Rattle.std.specs.Fmt.{signed_decimal}
use lib.Dec.{eqb}
use Rattle.pami_algebra.specs.Fraction.{Fraction}

-- nothing for 1, else a slash and the number
abbrev pub printed_below : ℕ → List ℕ
printed_below d = cond (eqb d 1) [] (47 ∷ decimal d)

-- the numerator with a `-` where it is below 0, then the denominator unless it is 1
unfoldable pub printed : Fraction → List ℕ
printed p = signed_decimal p.num ++ printed_below p.den

-- '/'
abbrev pub is_slash : ℕ → Bool
is_slash c = c == 47

-- without the '-' that it may begin with
abbrev pub without_minus : List ℕ → List ℕ
without_minus [] = []
without_minus (c ∷ cs) = cond (c == 45) cs (c ∷ cs)
