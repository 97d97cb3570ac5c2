-- The words of a run's text have no blank and no end of a line in them, where the names of its model have none.
use Rattle.std.proofs.Common.{◌≡◌, ℕ, zero, suc, ◌+◌, ◌-◌, ◌/◌, ◌%◌, ◌≤◌, Bool, true, false, cond, List, [], ◌∷◌, ◌++◌, length, map, codes, decimal, eqb, refl, sym, arith, nat_lt, nat_le, leb→le, true≢false, subst, ◌==◌, slice_index_or}
use lib.Dec.{T}
use lib.IntN.{ℤ, pos, negsuc}
use Rattle.std.specs.List.{flat_map}
use Rattle.std.specs.Fmt.{signed_decimal, digits, digits_onto, digit_glyph}
use Rattle.std.proofs.lemmas.Bool.{ne_eqb}
use Rattle.pami_algebra.specs.Fraction.{Fraction}
use Rattle.pami_frac.specs.Printed.{printed, printed_below}
use Rattle.pami_frac.specs.declared.arithmetic.Op.{Op}
use Rattle.pami_frac.specs.declared.arithmetic.Op.TheVariants.{Add, Sub, Mul, Div}
use Rattle.pami_theory.specs.declared.words.Stand.{Stand}
use Rattle.pami_theory.specs.declared.words.Stand.TheVariants.{Basic, Lower, Upper, Zero}
use Rattle.pami_method.specs.declared.words.Place.{Place}
use Rattle.pami_method.specs.declared.words.Mode.{Mode}
use Rattle.pami_method.specs.declared.words.Mode.TheVariants.{Full, Single}
use Rattle.pami_method.specs.declared.words.Spot.{Spot}
use Rattle.pami_method.specs.declared.words.Spot.TheVariants.{Start, Choose, Factor, Backward, Row, Price, Ratio, Step, Reach, Shift, Column, Flips, Transform, Values, Switch}
use Rattle.pami_lines.specs.Words.{dashed, operation_word}
use Rattle.pami_lines.specs.Names.{Names, variable_word}
use Rattle.pami_lines.specs.Letters.{letter_word}
use Rattle.pami_text.specs.Record.{spot_word, refused_words, mode_word}
use Rattle.pami_cert.specs.Plain.{IsPlainByte, IsPlain, ArePlain}

pub plain_more : (xs ys : List ℕ) → IsPlain xs → IsPlain ys → IsPlain (xs ++ ys)
plain_more [] ys h k = k
plain_more (x ∷ xs) ys h k = (h.0, plain_more xs ys h.1 k)

high_byte : (c : ℕ) → 33 ≤ c → IsPlainByte c
high_byte c l = record { feed = ne_eqb c 10 (λ e. omega (arith, l, e)); return = ne_eqb c 13 (λ e. omega (arith, l, e)); blank = ne_eqb c 32 (λ e. omega (arith, l, e)) }

-- ---- numbers

glyph_high : (d : ℕ) → 33 ≤ digit_glyph false d
glyph_high d = go (nat_lt d 10)
  where
    go : (b : Bool) → 33 ≤ cond b (48 + d) (87 + d)
    go true = omega arith
    go false = omega arith

either_plain : (b : Bool) (xs ys : List ℕ) → IsPlain xs → IsPlain ys → IsPlain (cond b xs ys)
either_plain true xs ys h k = h
either_plain false xs ys h k = k

digits_plain : (k n : ℕ) (acc : List ℕ) → IsPlain acc → IsPlain (digits_onto k 10 false n acc)
digits_plain zero n acc h = h
digits_plain (suc k) n acc h =
    let glyph : IsPlain (digit_glyph false (n % 10) ∷ acc) = (high_byte (digit_glyph false (n % 10)) (glyph_high (n % 10)), h) in
    either_plain (n / 10 == 0) (digit_glyph false (n % 10) ∷ acc) (digits_onto k 10 false (n / 10) (digit_glyph false (n % 10) ∷ acc)) glyph
    (digits_plain k (n / 10) (digit_glyph false (n % 10) ∷ acc) glyph)

pub decimal_plain : (n : ℕ) → IsPlain (decimal n)
unfolding digits
decimal_plain n = digits_plain 64 n [] tt

signed_plain : (z : ℤ) → IsPlain (signed_decimal z)
signed_plain (pos n) = decimal_plain n
signed_plain (negsuc n) = (high_byte 45 (omega arith), decimal_plain (suc n))

below_plain : (d : ℕ) → IsPlain (printed_below d)
below_plain d = go (eqb d 1)
  where
    go : (b : Bool) → IsPlain (cond b [] (47 ∷ decimal d))
    go true = tt
    go false = (high_byte 47 (omega arith), decimal_plain d)

pub printed_plain : (p : Fraction) → IsPlain (printed p)
unfolding printed
printed_plain p = plain_more (signed_decimal p.num) (printed_below p.den) (signed_plain p.num) (below_plain p.den)

-- ---- words that are always the same

abbrev high_word : List ℕ → Bool
high_word [] = true
high_word (c ∷ cs) = cond (nat_le 33 c) (high_word cs) false

pub word_plain : (w : List ℕ) → high_word w ≡ true → IsPlain w
word_plain [] e = tt
word_plain (c ∷ cs) e = go (nat_le 33 c) refl (word_plain cs) e
  where
    go : (b : Bool) → nat_le 33 c ≡ b → (high_word cs ≡ true → IsPlain cs) → cond b (high_word cs) false ≡ true → IsPlain (c ∷ cs)
    go true h r k = (high_byte c (leb→le 33 c (subst T (sym h) tt)), r k)
    go false h r k = absurd (true≢false (sym k))

-- ---- words of the method

pub letter_plain : (s : Stand) → IsPlain (letter_word s)
letter_plain Basic = word_plain (letter_word Basic) refl
letter_plain Lower = word_plain (letter_word Lower) refl
letter_plain Upper = word_plain (letter_word Upper) refl
letter_plain Zero = word_plain (letter_word Zero) refl

pub mode_plain : (m : Mode) → IsPlain (mode_word m)
mode_plain Full = word_plain (codes "full") refl
mode_plain Single = word_plain (codes "single") refl

operation_plain : (o : Op) → IsPlain (operation_word o)
operation_plain Add = word_plain (codes "add") refl
operation_plain Sub = word_plain (codes "sub") refl
operation_plain Mul = word_plain (codes "mul") refl
operation_plain Div = word_plain (codes "div") refl

numbers_plain : (ns : List ℕ) → IsPlain (flat_map (λ n. codes "-" ++ decimal n) ns)
numbers_plain [] = tt
numbers_plain (n ∷ ns) =
    plain_more (codes "-" ++ decimal n) (flat_map (λ n. codes "-" ++ decimal n) ns) (high_byte 45 (omega arith), decimal_plain n) (numbers_plain ns)

dashed_plain : (w : List ℕ) (ns : List ℕ) → high_word w ≡ true → IsPlain (dashed w ns)
dashed_plain w ns e = plain_more w (flat_map (λ n. codes "-" ++ decimal n) ns) (word_plain w e) (numbers_plain ns)

spot_plain : (s : Spot) → IsPlain (spot_word s)
spot_plain Start = word_plain (codes "start") refl
spot_plain Choose = word_plain (codes "choose") refl
spot_plain Factor = word_plain (codes "factor") refl
spot_plain (Backward p) = dashed_plain (codes "backward") (p ∷ []) refl
spot_plain (Row k) = dashed_plain (codes "row") (k ∷ []) refl
spot_plain (Price k t) = dashed_plain (codes "price") (k ∷ t ∷ []) refl
spot_plain (Ratio k) = dashed_plain (codes "ratio") (k ∷ []) refl
spot_plain (Step k) = dashed_plain (codes "step") (k ∷ []) refl
spot_plain (Reach k p) = dashed_plain (codes "reach") (k ∷ p ∷ []) refl
spot_plain (Shift k t) = dashed_plain (codes "shift") (k ∷ t ∷ []) refl
spot_plain (Column k) = dashed_plain (codes "column") (k ∷ []) refl
spot_plain Flips = word_plain (codes "flips") refl
spot_plain (Transform k) = dashed_plain (codes "transform") (k ∷ []) refl
spot_plain Values = word_plain (codes "values") refl
spot_plain Switch = word_plain (codes "switch") refl

pub refused_plain : (r : Place) → ArePlain (refused_words r)
refused_plain r = (spot_plain r.task, (operation_plain r.refused.op, (printed_plain r.refused.left, (printed_plain r.refused.right, tt))))

pub decimals_plain : (ns : List ℕ) → ArePlain (map decimal ns)
decimals_plain [] = tt
decimals_plain (n ∷ ns) = (decimal_plain n, decimals_plain ns)

-- ---- names

name_plain : (names : List (List ℕ)) (v : ℕ) → ArePlain names → IsPlain (slice_index_or names v [])
name_plain [] v h = tt
name_plain (w ∷ ws) zero h = h.0
name_plain (w ∷ ws) (suc v) h = name_plain ws v h.1

pub variable_plain : (n : Names) (v : ℕ) → ArePlain n.columns → ArePlain n.rows → IsPlain (variable_word n v)
variable_plain n v h k = go (nat_lt v (length n.columns)) (nat_lt (v - length n.columns) (length n.rows))
  where
    go : (b d : Bool) → IsPlain (cond b (codes "x:" ++ slice_index_or n.columns v []) (cond d (codes "r:" ++ slice_index_or n.rows (v - length n.columns) []) (codes "-")))
    go true d = plain_more (codes "x:") (slice_index_or n.columns v []) (word_plain (codes "x:") refl) (name_plain n.columns v h)
    go false true = plain_more (codes "r:") (slice_index_or n.rows (v - length n.columns) []) (word_plain (codes "r:") refl) (name_plain n.rows (v - length n.columns) k)
    go false false = word_plain (codes "-") refl
