-- Numbers, names and classes of texts.
use Rattle.std.proofs.Common.{◌≡◌, ◌<◌, ◌+◌, ℕ, zero, suc, Bool, true, false, true≢false, not, ◌&&◌, List, [], ◌∷◌, codes, get_or, length, take, refl, sym, ap, ◌∙◌, arith}
use Rattle.std.specs.List.{list_all}
use Rattle.std.proofs.lemmas.List.{take_more}
use Rattle.std.proofs.lemmas.List.Folds.{list_all-append}
use Rattle.pami_frac.specs.Decimal.{is_digit, is_point}
use Rattle.pami_lp_text.specs.declared.kind.Class.TheVariants as classes
use Rattle.pami_lp_text.specs.declared.kind.Scan.{Scan}
use Rattle.pami_lp_text.specs.declared.kind.Scan.TheVariants.{Start}
use Rattle.pami_lp_text.specs.Lexeme.{is_name, is_name_byte, is_number, starts_name}
use Rattle.pami_lp_text.specs.Scanning.{is_number_scan, through}
use Rattle.pami_lp_text.specs.Classes.{is_word, class_by, head_class, plain_class, sign_class}
use Rattle.pami_lp_text.proofs.Scans.{number_is, number_none}

-- ---- numbers and names

pub no_number_first : (text : List ℕ) → 0 < length text → is_digit (get_or text 0 0) ≡ false → is_point (get_or text 0 0) ≡ false → false ≡ is_number text
no_number_first [] lt d p = absurd (omega arith)
no_number_first (b ∷ bs) lt d p = sym (number_none b bs d p)

pub number_scanned : (text : List ℕ) (s : Scan) → s ≡ through Start text → is_number_scan s ≡ is_number text
number_scanned text s e = ap is_number_scan e ∙ sym (number_is text)

-- what begins a name may stand in it
begins : (b : ℕ) → starts_name b ≡ true → is_name_byte b ≡ true
begins b n = rw n refl

pub name_whole : (text : List ℕ) (b : Bool) → 0 < length text → starts_name (get_or text 0 0) ≡ true → list_all is_name_byte text ≡ b → b ≡ is_name text
name_whole [] b lt n h = absurd (omega arith)
name_whole (x ∷ xs) b lt n h = sym h ∙ rw (begins x n, n) refl

-- a byte that may not stand in a name
broken : (p : ℕ → Bool) (xs : List ℕ) (i d : ℕ) → i < length xs → p (get_or xs i d) ≡ false → list_all p xs ≡ false
broken p [] i d lt e = absurd (omega arith)
broken p (x ∷ xs) zero d lt e = rw e refl
broken p (x ∷ xs) (suc i) d lt e = by (p x) (broken p xs i d (omega arith) e)
  where
    by : (b : Bool) → list_all p xs ≡ false → (b && list_all p xs) ≡ false
    by true h = h
    by false h = refl

pub name_broken : (text : List ℕ) (i d : ℕ) → i < length text → starts_name (get_or text 0 0) ≡ true → is_name_byte (get_or text i d) ≡ false →
    false ≡ is_name text
name_broken [] i d lt n e = absurd (omega arith)
name_broken (x ∷ xs) zero d lt n e = absurd (true≢false (sym (begins x n) ∙ e))
name_broken (x ∷ xs) (suc i) d lt n e = sym (rw n (broken is_name_byte xs i d (omega arith) e))

-- the bytes so far, and one more
pub names_more : (text : List ℕ) (i d : ℕ) (c : Bool) → i < length text → list_all is_name_byte (take i text) ≡ true → is_name_byte (get_or text i d) ≡ c →
    list_all is_name_byte (take (i + 1) text) ≡ c
names_more text i d c lt h e =
    ap (list_all is_name_byte) (take_more text i d lt) ∙ list_all-append is_name_byte (take i text) (get_or text i d ∷ []) ∙ rw (h, e) (last c)
  where
    last : (c : Bool) → (c && true) ≡ c
    last true = refl
    last false = refl

-- ---- classes

module _ (text : List ℕ) (first : Bool) (after : List ℕ) where
  pub class-number : is_number text ≡ true → classes.Number ≡ class_by text first after
  class-number h = rw h refl

  pub class-signs : is_number text ≡ false → is_name text ≡ false → sign_class text ≡ class_by text first after
  class-signs h k = rw (h, k) refl

  pub class-head : is_number text ≡ false → is_name text ≡ true → (first && not (is_word after (codes ":"))) ≡ true →
      head_class text after ≡ class_by text first after
  class-head h k l = rw (h, k, l) refl

  pub class-plain : is_number text ≡ false → is_name text ≡ true → (first && not (is_word after (codes ":"))) ≡ false →
      plain_class text ≡ class_by text first after
  class-plain h k l = rw (h, k, l) refl
