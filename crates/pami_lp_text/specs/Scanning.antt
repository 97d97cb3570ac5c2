-- A lexeme byte by byte.
use Rattle.std.specs.Prelude.{ℕ, ◌||◌, Bool, true, false, List, [], ◌∷◌, if◌then◌else◌, nat_eq}
use Rattle.pami_frac.specs.Decimal.{is_digit, is_point, is_sign, is_mark}
use Rattle.pami_lp_text.specs.Lexeme.{starts_name, is_name_byte}
use Rattle.pami_lp_text.specs.declared.kind.Scan.{Scan}
use Rattle.pami_lp_text.specs.declared.kind.Scan.TheVariants.{Start, Digits, Point, Fraction, Mark, MarkSign, Power, Name, Less, Equals, Greater, Closed, Dead}

abbrev pub begun : ℕ → Scan
begun b =
    if is_digit b then Digits else
    if starts_name b then Name else
    if nat_eq b 46 then Point else
    if nat_eq b 60 then Less else
    if nat_eq b 61 then Equals else
    if nat_eq b 62 then Greater else
    if nat_eq b 43 || nat_eq b 45 || nat_eq b 58 || nat_eq b 32 || nat_eq b 9 then Closed else Dead

abbrev pub digit_to : ℕ → Scan → Scan
digit_to b next = if is_digit b then next else Dead

abbrev pub in_number : ℕ → Scan → Scan
in_number b more = if is_digit b then more else if is_mark b then Mark else Dead

abbrev pub scanned : Scan → ℕ → Scan
scanned Start b = begun b
scanned Digits b = if is_point b then Fraction else in_number b Digits
scanned Point b = digit_to b Fraction
scanned Fraction b = in_number b Fraction
scanned Mark b = if is_sign b then MarkSign else digit_to b Power
scanned MarkSign b = digit_to b Power
scanned Power b = digit_to b Power
scanned Name b = if is_name_byte b then Name else Dead
scanned Less b = if nat_eq b 61 then Closed else Dead
scanned Equals b = if nat_eq b 60 || nat_eq b 62 then Closed else Dead
scanned Greater b = if nat_eq b 61 then Closed else Dead
scanned Closed b = Dead
scanned Dead b = Dead

abbrev pub is_whole : Scan → Bool
is_whole Start = false
is_whole Digits = true
is_whole Point = false
is_whole Fraction = true
is_whole Mark = false
is_whole MarkSign = false
is_whole Power = true
is_whole Name = true
is_whole Less = true
is_whole Equals = true
is_whole Greater = true
is_whole Closed = true
is_whole Dead = false

-- from a scan through bytes
abbrev pub through : Scan → List ℕ → Scan
through s [] = s
through s (b ∷ bs) = through (scanned s b) bs

abbrev pub is_number_scan : Scan → Bool
is_number_scan Digits = true
is_number_scan Fraction = true
is_number_scan Power = true
is_number_scan s = false
