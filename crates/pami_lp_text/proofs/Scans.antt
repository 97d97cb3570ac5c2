-- A lexeme byte by byte is a lexeme.
use Rattle.std.proofs.Common.{◌≡◌, ◌+◌, ℕ, suc, Bool, true, false, true≢false, cond, ◌&&◌, ◌||◌, nat_le, nat_eq, List, [], ◌∷◌, ◌++◌, drop, refl, sym, ap, subst, ◌∙◌, arith}
use Rattle.std.specs.List.{list_all, position_or_len}
use Rattle.std.proofs.lemmas.List.Folds.{list_all-append}
use Rattle.std.proofs.lemmas.Bool.{eqb-true}
use Rattle.pami_frac.specs.Decimal.{is_digit, is_point, is_sign, is_mark, before, onward, unsigned, are_digits, is_exponent}
use Rattle.pami_lp_text.specs.declared.kind.Scan.{Scan}
use Rattle.pami_lp_text.specs.declared.kind.Scan.TheVariants.{Start, Digits, Point, Fraction, Mark, MarkSign, Power, Name, Less, Equals, Greater, Closed, Dead}
use Rattle.pami_lp_text.specs.Lexeme.{starts_name, is_name_byte, is_name, is_number, is_signs, is_blank, is_lexeme, is_letter, is_symbol}
use Rattle.pami_lp_text.specs.Scanning.{begun, scanned, is_whole, through, digit_to, in_number, is_number_scan}

none : (a b : Bool) → a ≡ false → b ≡ false → (a || b) ≡ false
none false b e f = f
none true b e f = absurd (true≢false e)

-- the bytes that begin lexemes of different kinds are apart

digit_no_symbol : (b : ℕ) → is_digit b ≡ true → is_symbol b ≡ false
digit_no_symbol b h =
    let e1 : (nat_le 33 b && nat_le b 41) ≡ false = grind arith in
    let e2 : nat_eq b 44 ≡ false = grind arith in
    let e3 : nat_eq b 47 ≡ false = grind arith in
    let e4 : nat_eq b 59 ≡ false = grind arith in
    let e5 : nat_eq b 63 ≡ false = grind arith in
    let e6 : nat_eq b 64 ≡ false = grind arith in
    let e7 : nat_eq b 95 ≡ false = grind arith in
    let e8 : nat_eq b 96 ≡ false = grind arith in
    let e9 : (nat_le 123 b && nat_le b 126) ≡ false = grind arith in
    rw (e1, e2, e3, e4, e5, e6, e7, e8, e9) refl

pub digit_alone : (b : ℕ) → is_digit b ≡ true → starts_name b ≡ false
digit_alone b h = none (is_letter b) (is_symbol b) (grind arith) (digit_no_symbol b h)

pub name_no_digit : (b : ℕ) → starts_name b ≡ true → is_digit b ≡ false
name_no_digit b h = go (is_digit b) refl
  where
    go : (c : Bool) → is_digit b ≡ c → c ≡ false
    go true e = absurd (true≢false (sym h ∙ digit_alone b e))
    go false e = refl

pub name_apart : (b v : ℕ) → starts_name v ≡ false → starts_name b ≡ true → nat_eq b v ≡ false
name_apart b v n h = go (nat_eq b v) refl
  where
    go : (c : Bool) → nat_eq b v ≡ c → c ≡ false
    go true e = absurd (true≢false (sym h ∙ ap starts_name (eqb-true b v e) ∙ n))
    go false e = refl

pub digit_apart : (b v : ℕ) → is_digit v ≡ false → is_digit b ≡ true → nat_eq b v ≡ false
digit_apart b v n h = go (nat_eq b v) refl
  where
    go : (c : Bool) → nat_eq b v ≡ c → c ≡ false
    go true e = absurd (true≢false (sym h ∙ ap is_digit (eqb-true b v e) ∙ n))
    go false e = refl

pub digit_unsigned : (b : ℕ) → is_digit b ≡ true → is_sign b ≡ false
digit_unsigned b h = grind arith

pub digit_unmarked : (b : ℕ) → is_digit b ≡ true → is_mark b ≡ false
digit_unmarked b h = grind arith

pub digit_pointless : (b : ℕ) → is_digit b ≡ true → is_point b ≡ false
digit_pointless b h = grind arith

pub point_unmarked : (b : ℕ) → is_point b ≡ true → is_mark b ≡ false
point_unmarked b h = grind arith

before-cons : (p : ℕ → Bool) (b : ℕ) (bs : List ℕ) (c : Bool) → p b ≡ c → before p (b ∷ bs) ≡ cond c [] (b ∷ before p bs)
before-cons p b bs true e = rw e refl
before-cons p b bs false e = let s : 1 + position_or_len p bs ≡ suc (position_or_len p bs) = omega arith in rw (e, s) refl

onward-cons : (p : ℕ → Bool) (b : ℕ) (bs : List ℕ) (c : Bool) → p b ≡ c → onward p (b ∷ bs) ≡ cond c (b ∷ bs) (onward p bs)
onward-cons p b bs true e = rw e refl
onward-cons p b bs false e = let s : 1 + position_or_len p bs ≡ suc (position_or_len p bs) = omega arith in rw (e, s) refl

-- ---- numbers

dead : (bs : List ℕ) → is_whole (through Dead bs) ≡ false
dead [] = refl
dead (b ∷ bs) = dead bs

power : (bs : List ℕ) → is_whole (through Power bs) ≡ list_all is_digit bs
power [] = refl
power (b ∷ bs) = go (is_digit b) (power bs)
  where
    go : (c : Bool) → is_whole (through Power bs) ≡ list_all is_digit bs → is_whole (through (cond c Power Dead) bs) ≡ (c && list_all is_digit bs)
    go true h = h
    go false h = dead bs

mark_sign : (bs : List ℕ) → is_whole (through MarkSign bs) ≡ are_digits bs
mark_sign [] = refl
mark_sign (b ∷ bs) = go (is_digit b)
  where
    go : (c : Bool) → is_whole (through (cond c Power Dead) bs) ≡ (c && list_all is_digit bs)
    go true = power bs
    go false = dead bs

mark : (bs : List ℕ) → is_whole (through Mark bs) ≡ are_digits (unsigned bs)
mark [] = refl
mark (b ∷ bs) = go (is_sign b)
  where
    go : (c : Bool) → is_whole (through (cond c MarkSign (digit_to b Power)) bs) ≡ are_digits (cond c bs (b ∷ bs))
    go true = mark_sign bs
    go false = mark_sign (b ∷ bs)

-- digits and then an exponent that may be missing
abbrev pub fraction_rest : List ℕ → Bool
fraction_rest bs = list_all is_digit (before is_mark bs) && is_exponent (onward is_mark bs)

fraction : (bs : List ℕ) → is_whole (through Fraction bs) ≡ fraction_rest bs
fraction [] = refl
fraction (b ∷ bs) = go (is_digit b) (is_mark b) (fraction bs) refl refl
  where
    go : (c m : Bool) → is_whole (through Fraction bs) ≡ fraction_rest bs → is_digit b ≡ c → is_mark b ≡ m
        → is_whole (through (cond c Fraction (cond m Mark Dead)) bs) ≡ fraction_rest (b ∷ bs)
    go c true h e f = rw (before-cons is_mark b bs true f, onward-cons is_mark b bs true f) (marked c e)
      where
        marked : (c : Bool) → is_digit b ≡ c → is_whole (through (cond c Fraction Mark) bs) ≡ are_digits (unsigned bs)
        marked true e = absurd (true≢false (sym f ∙ digit_unmarked b e))
        marked false e = mark bs
    go true false h e f = rw (before-cons is_mark b bs false f, onward-cons is_mark b bs false f, e) h
    go false false h e f = rw (before-cons is_mark b bs false f, onward-cons is_mark b bs false f, e) (dead bs)

-- digits and a point that may be missing, before an exponent that may be missing
abbrev pub digits_rest : List ℕ → Bool
digits_rest bs =
    list_all is_digit (before is_point (before is_mark bs)) &&
    (list_all is_digit (drop 1 (onward is_point (before is_mark bs))) && is_exponent (onward is_mark bs))

digits : (bs : List ℕ) → is_whole (through Digits bs) ≡ digits_rest bs
digits [] = refl
digits (b ∷ bs) = go (is_point b) (is_digit b) (is_mark b) (digits bs) refl refl refl
  where
    go : (p c m : Bool) → is_whole (through Digits bs) ≡ digits_rest bs → is_point b ≡ p → is_digit b ≡ c → is_mark b ≡ m
        → is_whole (through (cond p Fraction (cond c Digits (cond m Mark Dead))) bs) ≡ digits_rest (b ∷ bs)
    go true c true h e f g = absurd (true≢false (sym g ∙ point_unmarked b e))
    go true c false h e f g =
        rw (
          before-cons is_mark b bs false g,
          onward-cons is_mark b bs false g,
          before-cons is_point b (before is_mark bs) true e,
          onward-cons is_point b
              (before is_mark bs) true e,
        ) (fraction bs)
    go false true true h e f g = absurd (true≢false (sym g ∙ digit_unmarked b f))
    go false true false h e f g =
        rw (
          before-cons is_mark b bs false g,
          onward-cons is_mark b bs false g,
          before-cons is_point b (before is_mark bs) false e,
          onward-cons is_point b
              (before is_mark bs) false e,
          f,
        ) h
    go false false true h e f g = rw (before-cons is_mark b bs true g, onward-cons is_mark b bs true g) (mark bs)
    go false false false h e f g =
        rw (
          before-cons is_mark b bs false g,
          onward-cons is_mark b bs false g,
          before-cons is_point b (before is_mark bs) false e,
          onward-cons is_point b
              (before is_mark bs) false e,
          f,
        ) (dead bs)

point : (bs : List ℕ) → is_whole (through Point bs) ≡ (are_digits (before is_mark bs) && is_exponent (onward is_mark bs))
point [] = refl
point (b ∷ bs) = go (is_digit b) (is_mark b) refl refl
  where
    go : (c m : Bool) → is_digit b ≡ c → is_mark b ≡ m
        → is_whole (through (cond c Fraction Dead) bs) ≡ (are_digits (before is_mark (b ∷ bs)) && is_exponent (onward is_mark (b ∷ bs)))
    go true true f g = absurd (true≢false (sym g ∙ digit_unmarked b f))
    go true false f g = rw (before-cons is_mark b bs false g, onward-cons is_mark b bs false g, f) (fraction bs)
    go false true f g = rw (before-cons is_mark b bs true g) (dead bs)
    go false false f g = rw (before-cons is_mark b bs false g, f) (dead bs)

names : (bs : List ℕ) → is_whole (through Name bs) ≡ list_all is_name_byte bs
names [] = refl
names (b ∷ bs) = go (is_name_byte b) (names bs)
  where
    go : (c : Bool) → is_whole (through Name bs) ≡ list_all is_name_byte bs → is_whole (through (cond c Name Dead) bs) ≡ (c && list_all is_name_byte bs)
    go true h = h
    go false h = dead bs

and_assoc : (a b c : Bool) → ((a && b) && c) ≡ (a && (b && c))
and_assoc true b c = refl
and_assoc false b c = refl

number_digit : (b : ℕ) (bs : List ℕ) → is_digit b ≡ true → is_number (b ∷ bs) ≡ digits_rest bs
number_digit b bs h =
    rw (
      digit_unsigned b h,
      before-cons is_mark b bs false (digit_unmarked b h),
      onward-cons is_mark b bs false (digit_unmarked b h),
      before-cons is_point b
          (before is_mark bs) false (digit_pointless b h),
      onward-cons is_point b (before is_mark bs) false (digit_pointless b h),
      h,
    )
    (ap (λ d. d && is_exponent (onward is_mark bs))
    (list_all-append is_digit (before is_point (before is_mark bs)) (drop 1 (onward is_point (before is_mark bs))))
    ∙ and_assoc (list_all is_digit (before is_point (before is_mark bs))) (list_all is_digit (drop 1 (onward is_point (before is_mark bs))))
    (is_exponent (onward is_mark bs)))

number_point : (bs : List ℕ) → is_number (46 ∷ bs) ≡ (are_digits (before is_mark bs) && is_exponent (onward is_mark bs))
number_point bs =
    ap (λ s. are_digits (before is_point s ++ drop 1 (onward is_point s)) && is_exponent (onward is_mark (46 ∷ bs))) (before-cons is_mark 46 bs false refl)
    ∙ ap (λ e. are_digits (before is_mark bs) && is_exponent e) (onward-cons is_mark 46 bs false refl)

pub number_none : (b : ℕ) (bs : List ℕ) → is_digit b ≡ false → is_point b ≡ false → is_number (b ∷ bs) ≡ false
number_none b bs d p = go (is_sign b) (is_mark b) refl refl
  where
    go : (s m : Bool) → is_sign b ≡ s → is_mark b ≡ m → is_number (b ∷ bs) ≡ false
    go true m e f = rw e refl
    go false true e f = rw (e, before-cons is_mark b bs true f) refl
    go false false e f = rw (e, before-cons is_mark b bs false f, before-cons is_point b (before is_mark bs) false p, d) refl

only4 : (a b c d : Bool) → b ≡ false → c ≡ false → d ≡ false → (a || b || c || d) ≡ a
only4 true b c d e f g = refl
only4 false b c d e f g = rw (e, f, g) refl

second4 : (a b c d : Bool) → a ≡ false → c ≡ false → d ≡ false → (a || b || c || d) ≡ b
second4 true b c d e f g = absurd (true≢false e)
second4 false true c d e f g = refl
second4 false false c d e f g = rw (f, g) refl

signs_none : (b : ℕ) (bs : List ℕ) → nat_eq b 60 ≡ false → nat_eq b 61 ≡ false → nat_eq b 62 ≡ false → nat_eq b 43 ≡ false → nat_eq b 45 ≡ false
    → nat_eq b 58 ≡ false → is_signs (b ∷ bs) ≡ false
signs_none b [] e f g h i j = rw (e, f, g, h, i, j) refl
signs_none b (c ∷ []) e f g h i j = rw (e, f, g) refl
signs_none b (c ∷ d ∷ ds) e f g h i j = refl

blank_none : (b : ℕ) (bs : List ℕ) → nat_eq b 32 ≡ false → nat_eq b 9 ≡ false → is_blank (b ∷ bs) ≡ false
blank_none b [] e f = rw (e, f) refl
blank_none b (c ∷ bs) e f = refl

-- a lexeme that begins with this byte
abbrev Begins : List ℕ → ℕ → Type 0
Begins bs b = is_lexeme (b ∷ bs) ≡ is_whole (through (begun b) bs)

begins_digit : (b : ℕ) (bs : List ℕ) → is_digit b ≡ true → Begins bs b
begins_digit b bs h =
    only4 (is_number (b ∷ bs)) (is_name (b ∷ bs)) (is_signs (b ∷ bs)) (is_blank (b ∷ bs)) (rw (digit_alone b h) refl)
    (signs_none b bs (digit_apart b 60 refl h) (digit_apart b 61 refl h) (digit_apart b 62 refl h) (digit_apart b 43 refl h) (digit_apart b 45 refl h)
    (digit_apart b 58 refl h))
    (blank_none b bs (digit_apart b 32 refl h) (digit_apart b 9 refl h))
    ∙ number_digit b bs h ∙ sym (digits bs) ∙ rw h refl

begins_name : (b : ℕ) (bs : List ℕ) → starts_name b ≡ true → Begins bs b
begins_name b bs h =
    let m : is_name (b ∷ bs) ≡ is_whole (through Name bs) = rw h (sym (names bs)) in
    let k : is_whole (through Name bs) ≡ is_whole (through (begun b) bs) = rw (name_no_digit b h, h) refl in
    second4 (is_number (b ∷ bs)) (is_name (b ∷ bs)) (is_signs (b ∷ bs)) (is_blank (b ∷ bs)) (number_none b bs (name_no_digit b h) (name_apart b 46 refl h))
    (signs_none b bs (name_apart b 60 refl h) (name_apart b 61 refl h) (name_apart b 62 refl h) (name_apart b 43 refl h) (name_apart b 45 refl h)
    (name_apart b 58 refl h))
    (blank_none b bs (name_apart b 32 refl h) (name_apart b 9 refl h))
    ∙ m ∙ k

begins_point : (bs : List ℕ) → Begins bs 46
begins_point bs =
    only4 (is_number (46 ∷ bs)) (is_name (46 ∷ bs)) (is_signs (46 ∷ bs)) (is_blank (46 ∷ bs)) refl (signs_none 46 bs refl refl refl refl refl refl)
    (blank_none 46 bs refl refl)
    ∙ number_point bs ∙ sym (point bs)

begins_less : (bs : List ℕ) → Begins bs 60
begins_less [] = refl
begins_less (c ∷ []) = rw (number_none 60 (c ∷ []) refl refl) (go (nat_eq c 61) (nat_eq c 60) (nat_eq c 62))
  where
    go : (p q r : Bool) → ((p || false || false || false) || false) ≡ is_whole (cond p Closed Dead)
    go true q r = refl
    go false q r = refl
begins_less (c ∷ d ∷ ds) = rw (number_none 60 (c ∷ d ∷ ds) refl refl) (go (nat_eq c 61))
  where
    go : (p : Bool) → false ≡ is_whole (through (scanned (cond p Closed Dead) d) ds)
    go true = sym (dead ds)
    go false = sym (dead ds)

begins_greater : (bs : List ℕ) → Begins bs 62
begins_greater [] = refl
begins_greater (c ∷ []) = rw (number_none 62 (c ∷ []) refl refl) (go (nat_eq c 61))
  where
    go : (p : Bool) → ((p || false) || false) ≡ is_whole (cond p Closed Dead)
    go true = refl
    go false = refl
begins_greater (c ∷ d ∷ ds) = rw (number_none 62 (c ∷ d ∷ ds) refl refl) (go (nat_eq c 61))
  where
    go : (p : Bool) → false ≡ is_whole (through (scanned (cond p Closed Dead) d) ds)
    go true = sym (dead ds)
    go false = sym (dead ds)

begins_equals : (bs : List ℕ) → Begins bs 61
begins_equals [] = refl
begins_equals (c ∷ []) = rw (number_none 61 (c ∷ []) refl refl) (go (nat_eq c 60) (nat_eq c 62))
  where
    go : (p q : Bool) → (((p || false) || q) || false) ≡ is_whole (cond (p || q) Closed Dead)
    go true q = refl
    go false true = refl
    go false false = refl
begins_equals (c ∷ d ∷ ds) = rw (number_none 61 (c ∷ d ∷ ds) refl refl) (go (nat_eq c 60 || nat_eq c 62))
  where
    go : (p : Bool) → false ≡ is_whole (through (scanned (cond p Closed Dead) d) ds)
    go true = sym (dead ds)
    go false = sym (dead ds)

begins_closed : (b : ℕ) (bs : List ℕ) → begun b ≡ Closed → is_digit b ≡ false → starts_name b ≡ false → is_point b ≡ false → nat_eq b 60 ≡ false
    → nat_eq b 61 ≡ false → nat_eq b 62 ≡ false → (nat_eq b 43 || nat_eq b 45 || nat_eq b 58 || nat_eq b 32 || nat_eq b 9) ≡ true → Begins bs b
begins_closed b [] e d n p l q g h =
    let i : is_lexeme (b ∷ []) ≡ true = rw (number_none b [] d p, n, l, q, g) (go (nat_eq b 43) (nat_eq b 45) (nat_eq b 58) (nat_eq b 32) (nat_eq b 9) h) in
    i ∙ sym (ap is_whole e)
  where
    go : (x y z u v : Bool) → (x || y || z || u || v) ≡ true → ((x || y || z) || (u || v)) ≡ true
    go true y z u v h = refl
    go false true z u v h = refl
    go false false true u v h = refl
    go false false false true v h = refl
    go false false false false v h = h
begins_closed b (c ∷ bs) e d n p l q g h =
    let i : is_lexeme (b ∷ c ∷ bs) ≡ false = rw (number_none b (c ∷ bs) d p, n, longer bs) refl in
    i ∙ sym (ap (λ (s : Scan). is_whole (through s (c ∷ bs))) e ∙ dead bs)
  where
    longer : (ds : List ℕ) → is_signs (b ∷ c ∷ ds) ≡ false
    longer [] = rw (l, q, g) refl
    longer (x ∷ ds) = refl

begins_dead : (b : ℕ) (bs : List ℕ) → begun b ≡ Dead → is_digit b ≡ false → starts_name b ≡ false → is_point b ≡ false → nat_eq b 60 ≡ false
    → nat_eq b 61 ≡ false → nat_eq b 62 ≡ false → (nat_eq b 43 || nat_eq b 45 || nat_eq b 58 || nat_eq b 32 || nat_eq b 9) ≡ false → Begins bs b
begins_dead b bs e d n p l q g h = go (nat_eq b 43) (nat_eq b 45) (nat_eq b 58) (nat_eq b 32) (nat_eq b 9) refl refl refl refl refl h
  where
    go : (x y z u v : Bool) → nat_eq b 43 ≡ x → nat_eq b 45 ≡ y → nat_eq b 58 ≡ z → nat_eq b 32 ≡ u → nat_eq b 9 ≡ v → (x || y || z || u || v) ≡ false
        → Begins bs b
    go true y z u v e1 e2 e3 e4 e5 k = absurd (true≢false k)
    go false true z u v e1 e2 e3 e4 e5 k = absurd (true≢false k)
    go false false true u v e1 e2 e3 e4 e5 k = absurd (true≢false k)
    go false false false true v e1 e2 e3 e4 e5 k = absurd (true≢false k)
    go false false false false true e1 e2 e3 e4 e5 k = absurd (true≢false k)
    go false false false false false e1 e2 e3 e4 e5 k =
        only4 (is_number (b ∷ bs)) (is_name (b ∷ bs)) (is_signs (b ∷ bs)) (is_blank (b ∷ bs)) (rw n refl) (signs_none b bs l q g e1 e2 e3)
        (blank_none b bs e4 e5)
        ∙ number_none b bs d p ∙ sym (ap (λ (s : Scan). is_whole (through s bs)) e ∙ dead bs)

pub lexeme_is : (bs : List ℕ) → is_lexeme bs ≡ is_whole (through Start bs)
lexeme_is [] = refl
lexeme_is (b ∷ bs) = digit (is_digit b) refl
  where
    closed : (c : Bool) → (nat_eq b 43 || nat_eq b 45 || nat_eq b 58 || nat_eq b 32 || nat_eq b 9) ≡ c → is_digit b ≡ false → starts_name b ≡ false
        → nat_eq b 46 ≡ false → nat_eq b 60 ≡ false → nat_eq b 61 ≡ false → nat_eq b 62 ≡ false → Begins bs b
    closed true h d n p l q g = begins_closed b bs (rw (d, n, p, l, q, g, h) refl) d n p l q g h
    closed false h d n p l q g = begins_dead b bs (rw (d, n, p, l, q, g, h) refl) d n p l q g h

    greater : (c : Bool) → nat_eq b 62 ≡ c → is_digit b ≡ false → starts_name b ≡ false → nat_eq b 46 ≡ false → nat_eq b 60 ≡ false → nat_eq b 61 ≡ false
        → Begins bs b
    greater true h d n p l q = subst (Begins bs) (sym (eqb-true b 62 h)) (begins_greater bs)
    greater false h d n p l q = closed (nat_eq b 43 || nat_eq b 45 || nat_eq b 58 || nat_eq b 32 || nat_eq b 9) refl d n p l q h

    equals : (c : Bool) → nat_eq b 61 ≡ c → is_digit b ≡ false → starts_name b ≡ false → nat_eq b 46 ≡ false → nat_eq b 60 ≡ false → Begins bs b
    equals true h d n p l = subst (Begins bs) (sym (eqb-true b 61 h)) (begins_equals bs)
    equals false h d n p l = greater (nat_eq b 62) refl d n p l h

    less : (c : Bool) → nat_eq b 60 ≡ c → is_digit b ≡ false → starts_name b ≡ false → nat_eq b 46 ≡ false → Begins bs b
    less true h d n p = subst (Begins bs) (sym (eqb-true b 60 h)) (begins_less bs)
    less false h d n p = equals (nat_eq b 61) refl d n p h

    pointed : (c : Bool) → nat_eq b 46 ≡ c → is_digit b ≡ false → starts_name b ≡ false → Begins bs b
    pointed true h d n = subst (Begins bs) (sym (eqb-true b 46 h)) (begins_point bs)
    pointed false h d n = less (nat_eq b 60) refl d n h

    name : (c : Bool) → starts_name b ≡ c → is_digit b ≡ false → Begins bs b
    name true h d = begins_name b bs h
    name false h d = pointed (nat_eq b 46) refl d h

    digit : (c : Bool) → is_digit b ≡ c → Begins bs b
    digit true h = begins_digit b bs h
    digit false h = name (starts_name b) refl h

-- ---- numbers by the scan at their end

abbrev numeric : Scan → Bool
numeric Digits = true
numeric Point = true
numeric Fraction = true
numeric Mark = true
numeric MarkSign = true
numeric Power = true
numeric Dead = true
numeric s = false

abbrev other : Scan → Bool
other Name = true
other Less = true
other Equals = true
other Greater = true
other Closed = true
other Dead = true
other s = false

pick : (P : Scan → Bool) (c : Bool) (s t : Scan) → P s ≡ true → P t ≡ true → P (cond c s t) ≡ true
pick P true s t h k = h
pick P false s t h k = k

numeric_stays : (s : Scan) (b : ℕ) → numeric s ≡ true → numeric (scanned s b) ≡ true
numeric_stays Start b h = absurd (true≢false (sym h))
numeric_stays Digits b h =
    pick numeric (is_point b) Fraction (in_number b Digits) refl
    (pick numeric (is_digit b) Digits (cond (is_mark b) Mark Dead) refl (pick numeric (is_mark b) Mark Dead refl refl))
numeric_stays Point b h = pick numeric (is_digit b) Fraction Dead refl refl
numeric_stays Fraction b h = pick numeric (is_digit b) Fraction (cond (is_mark b) Mark Dead) refl (pick numeric (is_mark b) Mark Dead refl refl)
numeric_stays Mark b h = pick numeric (is_sign b) MarkSign (digit_to b Power) refl (pick numeric (is_digit b) Power Dead refl refl)
numeric_stays MarkSign b h = pick numeric (is_digit b) Power Dead refl refl
numeric_stays Power b h = pick numeric (is_digit b) Power Dead refl refl
numeric_stays Name b h = absurd (true≢false (sym h))
numeric_stays Less b h = absurd (true≢false (sym h))
numeric_stays Equals b h = absurd (true≢false (sym h))
numeric_stays Greater b h = absurd (true≢false (sym h))
numeric_stays Closed b h = absurd (true≢false (sym h))
numeric_stays Dead b h = refl

other_stays : (s : Scan) (b : ℕ) → other s ≡ true → other (scanned s b) ≡ true
other_stays Start b h = absurd (true≢false (sym h))
other_stays Digits b h = absurd (true≢false (sym h))
other_stays Point b h = absurd (true≢false (sym h))
other_stays Fraction b h = absurd (true≢false (sym h))
other_stays Mark b h = absurd (true≢false (sym h))
other_stays MarkSign b h = absurd (true≢false (sym h))
other_stays Power b h = absurd (true≢false (sym h))
other_stays Name b h = pick other (is_name_byte b) Name Dead refl refl
other_stays Less b h = pick other (nat_eq b 61) Closed Dead refl refl
other_stays Equals b h = pick other (nat_eq b 60 || nat_eq b 62) Closed Dead refl refl
other_stays Greater b h = pick other (nat_eq b 61) Closed Dead refl refl
other_stays Closed b h = refl
other_stays Dead b h = refl

whole_number : (s : Scan) (bs : List ℕ) → numeric s ≡ true → is_whole (through s bs) ≡ is_number_scan (through s bs)
whole_number s (b ∷ bs) h = whole_number (scanned s b) bs (numeric_stays s b h)
whole_number Digits [] h = refl
whole_number Point [] h = refl
whole_number Fraction [] h = refl
whole_number Mark [] h = refl
whole_number MarkSign [] h = refl
whole_number Power [] h = refl
whole_number Dead [] h = refl
whole_number Start [] h = absurd (true≢false (sym h))
whole_number Name [] h = absurd (true≢false (sym h))
whole_number Less [] h = absurd (true≢false (sym h))
whole_number Equals [] h = absurd (true≢false (sym h))
whole_number Greater [] h = absurd (true≢false (sym h))
whole_number Closed [] h = absurd (true≢false (sym h))

no_number : (s : Scan) (bs : List ℕ) → other s ≡ true → is_number_scan (through s bs) ≡ false
no_number s (b ∷ bs) h = no_number (scanned s b) bs (other_stays s b h)
no_number Name [] h = refl
no_number Less [] h = refl
no_number Equals [] h = refl
no_number Greater [] h = refl
no_number Closed [] h = refl
no_number Dead [] h = refl
no_number Start [] h = absurd (true≢false (sym h))
no_number Digits [] h = absurd (true≢false (sym h))
no_number Point [] h = absurd (true≢false (sym h))
no_number Fraction [] h = absurd (true≢false (sym h))
no_number Mark [] h = absurd (true≢false (sym h))
no_number MarkSign [] h = absurd (true≢false (sym h))
no_number Power [] h = absurd (true≢false (sym h))

pub number_is : (text : List ℕ) → is_number text ≡ is_number_scan (through Start text)
number_is [] = refl
number_is (b ∷ bs) = digit (is_digit b) refl
  where
    begun_other : is_digit b ≡ false → nat_eq b 46 ≡ false → other (begun b) ≡ true
    begun_other d p =
        rw (d, p)
        (pick other (starts_name b) Name _ refl (pick other (nat_eq b 60) Less _ refl (pick other (nat_eq b 61) Equals _ refl
        (pick other (nat_eq b 62) Greater _ refl (pick other (nat_eq b 43 || nat_eq b 45 || nat_eq b 58 || nat_eq b 32 || nat_eq b 9) Closed Dead refl refl)))))

    pointed : (c : Bool) → nat_eq b 46 ≡ c → is_digit b ≡ false → is_number (b ∷ bs) ≡ is_number_scan (through (begun b) bs)
    pointed true h d =
        subst (λ (a : ℕ). is_number (a ∷ bs) ≡ is_number_scan (through (begun a) bs)) (sym (eqb-true b 46 h))
        (number_point bs ∙ sym (point bs) ∙ whole_number Point bs refl)
    pointed false h d = number_none b bs d h ∙ sym (no_number (begun b) bs (begun_other d h))

    digit : (c : Bool) → is_digit b ≡ c → is_number (b ∷ bs) ≡ is_number_scan (through (begun b) bs)
    digit true h = number_digit b bs h ∙ sym (digits bs) ∙ whole_number Digits bs refl ∙ sym (ap (λ (s : Scan). is_number_scan (through s bs)) (begun_digit h))
      where
        begun_digit : is_digit b ≡ true → begun b ≡ Digits
        begun_digit h = rw h refl
    digit false h = pointed (nat_eq b 46) refl h
