-- The text of a fraction, by its denominator.
use Rattle.std.proofs.Common.{◌≡◌, ℕ, Bool, true, false, cond, List, [], ◌∷◌, ◌++◌, refl, sym, ap, ◌∙◌, decimal, eqb, append-nil, append_assoc}
use Rattle.std.specs.Fmt.{signed_decimal}
use lib.Dec.{T, eqb→eq}
use Rattle.pami_algebra.specs.Fraction.{Fraction}
use Rattle.pami_frac.specs.Printed.{printed, printed_below}

below_one : (d : ℕ) → d ≡ 1 → printed_below d ≡ []
below_one d e = ap printed_below e

chosen : (b : Bool) (xs : List ℕ) → (T b → ⊥) → cond b [] xs ≡ xs
chosen true xs h = absurd (h tt)
chosen false xs h = refl

below_more : (d : ℕ) → (d ≡ 1 → ⊥) → printed_below d ≡ 47 ∷ decimal d
below_more d h = chosen (eqb d 1) (47 ∷ decimal d) (λ t. h (eqb→eq d 1 t))

pub printed_whole : (p : Fraction) (d : ℕ) → d ≡ p.den → d ≡ 1 → printed p ≡ signed_decimal p.num
unfolding printed
printed_whole p d e f = ap (λ t. signed_decimal p.num ++ t) (below_one p.den (sym e ∙ f)) ∙ append-nil (signed_decimal p.num)

pub printed_parts : (p : Fraction) (d : ℕ) → d ≡ p.den → (d ≡ 1 → ⊥) → printed p ≡ signed_decimal p.num ++ (47 ∷ decimal d)
unfolding printed
printed_parts p d e h = ap (λ t. signed_decimal p.num ++ t) (below_more p.den (λ f. h (e ∙ f)) ∙ ap (λ n. 47 ∷ decimal n) (sym e))

-- three pieces put behind one another
pub three_pieces : (old one two three n d p : List ℕ) → one ≡ old ++ n → two ≡ one ++ (47 ∷ []) → three ≡ two ++ d → p ≡ n ++ (47 ∷ d) → three ≡ old ++ p
three_pieces old one two three n d p e1 e2 e3 h =
    e3 ∙ ap (λ t. t ++ d) (e2 ∙ ap (λ t. t ++ (47 ∷ [])) e1) ∙ append_assoc (old ++ n) (47 ∷ []) d ∙ append_assoc old n (47 ∷ d) ∙ ap (λ t. old ++ t) (sym h)

-- the text in the pieces' own words
pub in_pieces : (p : Fraction) (b : ℕ) (n d : List ℕ) → b ≡ p.den → (b ≡ 1 → ⊥) → n ≡ signed_decimal p.num → d ≡ decimal b → printed p ≡ n ++ (47 ∷ d)
in_pieces p b n d e h f g = printed_parts p b e h ∙ ap (λ t. t ++ (47 ∷ decimal b)) (sym f) ∙ ap (λ t. n ++ (47 ∷ t)) (sym g)
