-- The printed text of a fraction, cut at its slash.
use Rattle.std.proofs.Common.{◌≡◌, ℕ, zero, suc, ◌+◌, ◌%◌, ◌<◌, ◌≤◌, ◌^◌, Bool, true, false, cond, List, [], ◌∷◌, ◌++◌, length, take, drop, get_or, refl, sym, ap, ◌∙◌, subst, arith, decimal, eqb, IsTrue, true≢false, append-nil, ⊎_elim, None, Some, Result, Ok, Err, ◌&&◌, ◌==◌, eqb-true}
use Rattle.std.specs.List.{position_or_len}
use Rattle.std.specs.Cmp.Lexicographic.{pointwise}
use Rattle.std.specs.Fmt.{signed_decimal}
use Rattle.std.proofs.lemmas.Bool.{ne_eqb, eq-eqb, cases_lt, le-ltb}
use Rattle.std.proofs.lemmas.Str.{IsUtf8-from_ascii}
use Rattle.std.proofs.lemmas.Fmt.{IsAscii-decimal_wide, parse-decimal_wide}
use Rattle.std.specs.Str.{IsUtf8}
use Rattle.std.specs.Str.Parse.{ParsesUnsigned}
use Rattle.std.proofs.lemmas.List.Sums.{position_or_len_is}
use Rattle.std.proofs.lemmas.Fmt.{decimal_by_steps_wide}
use lib.IntN.{ℤ, pos, negsuc, nat_abs}
use Rattle.pami_algebra.specs.Fraction.{Fraction}
use Rattle.pami_algebra.specs.Reduced.{over_itself}
use Rattle.pami_frac.specs.Range.{fits, small, signed_of, quotient}
use Rattle.pami_frac.specs.Decimal.{is_negative}
use Rattle.pami_frac.specs.Printed.{printed, printed_below, is_slash, without_minus}

wide : (n : ℕ) → n < 2 ^ 127 → n < 10 ^ 64
wide n l = omega (arith, l)

abbrev pub NoSlash : List ℕ → Type 0
NoSlash [] = Unit {0}
NoSlash (c ∷ cs) = (is_slash c ≡ false) × NoSlash cs

no_slash_more : (xs : List ℕ) (c : ℕ) → NoSlash xs → is_slash c ≡ false → NoSlash (xs ++ c ∷ [])
no_slash_more [] c h e = (e, tt)
no_slash_more (x ∷ xs) c h e = (h.0, no_slash_more xs c h.1 e)

digit_no_slash : (n : ℕ) → is_slash (48 + n) ≡ false
digit_no_slash n = ne_eqb (48 + n) 47 (λ e. omega arith)

decimal_no_slash : (n : ℕ) → n < 10 ^ 64 → NoSlash (decimal n)
decimal_no_slash = decimal_by_steps_wide (λ n ds. NoSlash ds) (λ n l. (digit_no_slash n, tt)) (λ n ds l h. no_slash_more ds (48 + n % 10) h (digit_no_slash (n % 10)))

signed_no_slash : (z : ℤ) → nat_abs z < 10 ^ 64 → NoSlash (signed_decimal z)
signed_no_slash (pos n) l = decimal_no_slash n l
signed_no_slash (negsuc n) l = (refl, decimal_no_slash (suc n) l)

-- ---- the place of the slash
before_seam : (xs ys : List ℕ) (k : ℕ) → NoSlash xs → k < length xs → is_slash (get_or (xs ++ ys) k 0) ≡ false
before_seam [] ys k h l = absurd (omega arith)
before_seam (x ∷ xs) ys zero h l = h.0
before_seam (x ∷ xs) ys (suc k) h l = before_seam xs ys k h.1 (omega arith)

at_seam : (xs ys : List ℕ) (y : ℕ) → get_or (xs ++ y ∷ ys) (length xs) 0 ≡ y
at_seam [] ys y = refl
at_seam (x ∷ xs) ys y = at_seam xs ys y

take_seam : (xs ys : List ℕ) → take (length xs) (xs ++ ys) ≡ xs
take_seam [] ys = refl
take_seam (x ∷ xs) ys = ap (λ zs. x ∷ zs) (take_seam xs ys)

drop_seam : (xs ys : List ℕ) → drop (length xs) (xs ++ ys) ≡ ys
drop_seam [] ys = refl
drop_seam (x ∷ xs) ys = drop_seam xs ys

within_seam : (xs ys : List ℕ) → length xs ≤ length (xs ++ ys)
within_seam [] ys = omega arith
within_seam (x ∷ xs) ys = let h = within_seam xs ys in omega (arith, h)

-- nothing, or a slash and more
abbrev Cut : List ℕ → Type 0
Cut [] = Unit {0}
Cut (c ∷ cs) = is_slash c ≡ true

below_cut : (d : ℕ) → Cut (printed_below d)
below_cut d = go (eqb d 1)
  where
    go : (b : Bool) → Cut (cond b [] (47 ∷ decimal d))
    go true = tt
    go false = refl

slash_at : (xs ys : List ℕ) → NoSlash xs → Cut ys → position_or_len is_slash (xs ++ ys) ≡ length xs
slash_at xs [] h c = position_or_len_is is_slash (xs ++ []) (length xs) 0 (within_seam xs []) (λ k l. before_seam xs [] k h l) (λ l. let e : length (xs ++ []) ≡ length xs = ap length (append-nil xs) in absurd (omega (arith, l, e)))
slash_at xs (y ∷ ys) h c = position_or_len_is is_slash (xs ++ y ∷ ys) (length xs) 0 (within_seam xs (y ∷ ys)) (λ k l. before_seam xs (y ∷ ys) k h l) (λ l. ap is_slash (at_seam xs ys y) ∙ c)

-- ---- what fits
both : (a b : Bool) → IsTrue (cond a b false) → IsTrue a × IsTrue b
both true b e = (refl, e)
both false b e = absurd (true≢false (sym e))

below_of : (n : ℕ) → IsTrue (small n) → n < 2 ^ 127
below_of n e = ⊎_elim (λ (l : n < 2 ^ 127). l) (λ (l : 2 ^ 127 ≤ n). absurd (true≢false (sym e ∙ le-ltb n (2 ^ 127) l))) (cases_lt n (2 ^ 127))

pub above_small : (p : Fraction) → IsTrue (fits p) → nat_abs p.num < 2 ^ 127
above_small p e = below_of (nat_abs p.num) (both (small (nat_abs p.num)) (small p.den) e).0

pub below_small : (p : Fraction) → IsTrue (fits p) → p.den < 2 ^ 127
below_small p e = below_of p.den (both (small (nat_abs p.num)) (small p.den) e).1

-- ---- the two parts
slash_of : (p : Fraction) → IsTrue (fits p) → position_or_len is_slash (printed p) ≡ length (signed_decimal p.num)
unfolding printed
slash_of p e = slash_at (signed_decimal p.num) (printed_below p.den) (signed_no_slash p.num (wide (nat_abs p.num) (above_small p e))) (below_cut p.den)

pub first_part : (p : Fraction) (text : List ℕ) (k : ℕ) → IsTrue (fits p) → text ≡ printed p → k ≡ position_or_len is_slash text → take k text ≡ signed_decimal p.num
unfolding printed
first_part p text k e h q =
    ap (λ i. take i text) (q ∙ ap (position_or_len is_slash) h ∙ slash_of p e) ∙ ap (take (length (signed_decimal p.num))) h ∙ take_seam (signed_decimal p.num) (printed_below p.den)

pub second_part : (p : Fraction) (text : List ℕ) (k : ℕ) → IsTrue (fits p) → text ≡ printed p → k ≡ position_or_len is_slash text → drop k text ≡ printed_below p.den
unfolding printed
second_part p text k e h q =
    ap (λ i. drop i text) (q ∙ ap (position_or_len is_slash) h ∙ slash_of p e) ∙ ap (drop (length (signed_decimal p.num))) h ∙ drop_seam (signed_decimal p.num) (printed_below p.den)

-- ---- a number's text
pub decimal_utf8 : (n : ℕ) (bytes : List ℕ) → n < 2 ^ 127 → bytes ≡ decimal n → IsUtf8 bytes
decimal_utf8 n bytes l e = subst IsUtf8 (sym e) (IsUtf8-from_ascii (decimal n) (IsAscii-decimal_wide n (wide n l)))

pub decimal_parsed : {E : Type 0} (n : ℕ) (bytes lent : List ℕ) (r : Result ℕ E) → n < 2 ^ 127 → bytes ≡ decimal n → lent ≡ bytes → ParsesUnsigned 128 10 lent r → r ≡ Ok n
decimal_parsed n bytes lent r l e f h = parse-decimal_wide 128 n lent r (omega arith) (wide n l) (f ∙ e) h

pub no_fault : {E : Type 0} {n : ℕ} {e : E} {A : Type 0} (r : Result ℕ E) → r ≡ Ok n → r ≡ Err e → A
no_fault r h k = absurd cc

pub one_value : {E : Type 0} {n m : ℕ} (r : Result ℕ E) → r ≡ Ok n → r ≡ Ok m → m ≡ n
one_value r h k = cc

-- ---- signs
record Headed (ds : List ℕ) : Type 0 where
  first : ℕ
  rest : List ℕ
  is : ds ≡ first ∷ rest
  high : 48 ≤ first

headed_more : (ds : List ℕ) (c : ℕ) → Headed ds → Headed (ds ++ c ∷ [])
headed_more ds c h = record { first = h.first; rest = h.rest ++ c ∷ []; is = ap (λ xs. xs ++ c ∷ []) h.is; high = h.high }

decimal_headed : (n : ℕ) → n < 10 ^ 64 → Headed (decimal n)
decimal_headed = decimal_by_steps_wide (λ n ds. Headed ds) (λ n l. record { first = 48 + n; rest = []; is = refl; high = omega arith }) (λ n ds l h. headed_more ds (48 + n % 10) h)

no_minus : (ds : List ℕ) → Headed ds → (is_negative ds ≡ false) × (without_minus ds ≡ ds)
no_minus ds h =
    let n : (h.first == 45) ≡ false = ne_eqb h.first 45 (λ e. let l = h.high in omega (arith, l, e)) in
    (ap is_negative h.is ∙ n, ap without_minus h.is ∙ ap (λ b. cond b h.rest (h.first ∷ h.rest)) n ∙ sym h.is)

abbrev pub is_minus : ℤ → Bool
is_minus (pos n) = false
is_minus (negsuc n) = true

pub sign_of_text : (z : ℤ) (bytes : List ℕ) → nat_abs z < 2 ^ 127 → bytes ≡ signed_decimal z → is_negative bytes ≡ is_minus z
sign_of_text (pos n) bytes l e = ap is_negative e ∙ (no_minus (decimal n) (decimal_headed n (wide n l))).0
sign_of_text (negsuc n) bytes l e = ap is_negative e

pub rest_of_text : (z : ℤ) (bytes : List ℕ) → nat_abs z < 2 ^ 127 → bytes ≡ signed_decimal z → without_minus bytes ≡ decimal (nat_abs z)
rest_of_text (pos n) bytes l e = ap without_minus e ∙ (no_minus (decimal n) (decimal_headed n (wide n l))).1
rest_of_text (negsuc n) bytes l e = ap without_minus e

pub signed_back : (z : ℤ) → signed_of (is_minus z) (nat_abs z) ≡ z
signed_back (pos n) = refl
signed_back (negsuc n) = refl

pub minus_not_zero : (z : ℤ) → is_minus z ≡ true → nat_abs z ≡ 0 → ⊥
minus_not_zero (pos n) e h = true≢false (sym e)
minus_not_zero (negsuc n) e h = omega (arith, h)

text_by : (c : ℕ) (cs : List ℕ) (n : ℕ) (b : Bool) → (b ≡ true → c ≡ 45) → (b ≡ true → ¬ (n ≡ 0)) → cond b cs (c ∷ cs) ≡ decimal n → c ∷ cs ≡ signed_decimal (signed_of b n)
text_by c cs zero true f g h = absurd (g refl refl)
text_by c cs (suc n) true f g h = ap (λ d. d ∷ cs) (f refl) ∙ ap (λ ds. 45 ∷ ds) h
text_by c cs n false f g h = h

eqb_is : (c : ℕ) → (c == 45) ≡ true → c ≡ 45
eqb_is c e = eqb-true c 45 e

pub text_of_sign : (bytes : List ℕ) (n : ℕ) → without_minus bytes ≡ decimal n → (is_negative bytes ≡ true → ¬ (n ≡ 0)) → bytes ≡ signed_decimal (signed_of (is_negative bytes) n)
text_of_sign [] n h g = h
text_of_sign (c ∷ cs) n h g = text_by c cs n (c == 45) (eqb_is c) g h

-- ---- the whole text
pub text_joined : (p : Fraction) (above rest : List ℕ) → above ≡ signed_decimal p.num → rest ≡ printed_below p.den → above ++ rest ≡ printed p
unfolding printed
text_joined p above rest e h = ap (λ xs. xs ++ rest) e ∙ ap (λ ys. signed_decimal p.num ++ ys) h

pub joined_by : (p : Fraction) (n d a b : ℤ) (k : ℕ) (above rest : List ℕ) → above ≡ signed_decimal n → a ≡ p.num → a ≡ n → d ≡ pos k → rest ≡ printed_below k → b ≡ pos p.den → b ≡ d → above ++ rest ≡ printed p
joined_by p n d a b k above rest e f g h i j l =
    let same : k ≡ p.den = ap nat_abs (sym h ∙ sym l ∙ j) in
    text_joined p above rest (e ∙ ap signed_decimal (sym g ∙ f)) (i ∙ ap printed_below same)

pub value_is : (v value : Fraction) (n d : ℤ) → n ≡ v.num → d ≡ pos v.den → value ≡ quotient n d → value ≡ v
value_is v value n d e f h = h ∙ ap (λ z. quotient z d) e ∙ ap (quotient v.num) f ∙ over_itself v

pub fits_back : (v : Fraction) (n d : ℤ) → n ≡ v.num → d ≡ pos v.den → IsTrue (fits v) → IsTrue (fits (quotient n d))
fits_back v n d e f h = subst (λ x. IsTrue (fits x)) (sym (value_is v (quotient n d) n d e f refl)) h

pub no_value : {A B : Type 0} {x : B} → None ≡ Some x → A
no_value e = absurd cc

pub same_value : {B : Type 0} {x y : B} → Some x ≡ Some y → x ≡ y
same_value e = cc

-- equal lists are equal member by member
pointwise_itself : (xs : List ℕ) → pointwise eqb xs xs ≡ true
pointwise_itself [] = refl
pointwise_itself (x ∷ xs) = ap (λ b. b && pointwise eqb xs xs) (eq-eqb x x refl) ∙ pointwise_itself xs

pub not_same : (xs ys : List ℕ) → xs ≡ ys → pointwise eqb xs ys ≡ false → ⊥
not_same xs ys e h = true≢false (sym (ap (pointwise eqb xs) (sym e) ∙ pointwise_itself xs) ∙ h)
