-- Words without regard to case, letter by letter.
use Rattle.std.proofs.Common.{◌≡◌, ◌≢◌, ◌<◌, ℕ, Bool, true, false, List, length, map, get_or, refl, sym, ap, ◌∙◌, arith}
use Rattle.std.proofs.lemmas.List.{same_lists, get_or_default, get_or-map, length-map}
use Rattle.std.proofs.lemmas.Slice.Eq.{bytes_eq-Decides}
use Rattle.std.specs.Str.{bytes_eq}
use Rattle.std.specs.Char.{to_ascii_lowercase}
use Rattle.pami_lp_text.specs.Classes.{is_word}

differs : (xs ys : List ℕ) → ¬ (xs ≡ ys) → false ≡ bytes_eq xs ys
differs xs ys h = go (bytes_eq xs ys) refl
  where
    go : (b : Bool) → bytes_eq xs ys ≡ b → false ≡ b
    go true e = absurd (h ((bytes_eq-Decides xs ys).0 e))
    go false e = refl

pub other_length : (text w : List ℕ) → length text ≢ length w → false ≡ is_word text w
other_length text w h = differs (map to_ascii_lowercase text) w (λ e. h (sym (length-map text to_ascii_lowercase) ∙ ap length e))

lower : (text : List ℕ) (i : ℕ) → i < length text → get_or (map to_ascii_lowercase text) i 0 ≡ to_ascii_lowercase (get_or text i 0)
lower text i lt = get_or-map to_ascii_lowercase text i 0 0 lt

pub other_letter : (text w : List ℕ) (i : ℕ) (a : ℕ) → i < length text → a ≡ to_ascii_lowercase (get_or text i 0) → a ≢ get_or w i 0 → false ≡ is_word text w
other_letter text w i a lt e h = differs (map to_ascii_lowercase text) w (λ s. h (e ∙ sym (lower text i lt) ∙ ap (λ (xs : List ℕ). get_or xs i 0) s))

pub same_letters : (text w : List ℕ) (i : ℕ) → length text ≡ length w → i ≡ length text → ((k : ℕ) → k < i → to_ascii_lowercase (get_or text k 0) ≡ get_or w k 0) → true ≡ is_word text w
same_letters text w i n e h = sym ((bytes_eq-Decides (map to_ascii_lowercase text) w).1 (same_lists (map to_ascii_lowercase text) w (length-map text to_ascii_lowercase ∙ n) at))
  where
    at : (k : ℕ) (d : ℕ) → k < length (map to_ascii_lowercase text) → get_or (map to_ascii_lowercase text) k d ≡ get_or w k d
    at k d lt = let m : length (map to_ascii_lowercase text) ≡ length text = length-map text to_ascii_lowercase in get_or-map to_ascii_lowercase text k 0 d (omega arith) ∙ h k (omega arith) ∙ get_or_default w k 0 d (omega arith)
