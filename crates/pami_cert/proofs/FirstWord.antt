-- One word off the front of a line.
use Rattle.std.proofs.Common.{◌≡◌, ◌≢◌, ℕ, zero, suc, ◌+◌, ◌<◌, Bool, true, false, List, [], ◌∷◌, length, take, drop, get_or, refl, ap, sym, ◌∙◌, arith, if◌then◌else◌, nat_eq, codes}
use Rattle.pami_edge.specs.Lines.{hang}
use Rattle.std.specs.Str.{bytes_eq}
use Rattle.pami_cert.specs.CertText.{is_head, words_of}

chosen : (c : ℕ) (cs : List ℕ) (b : Bool) → nat_eq c 32 ≡ b → words_of (c ∷ cs) ≡ (if b then [] ∷ words_of cs else hang c (words_of cs))
chosen c cs b e = ap (λ t. if t then [] ∷ words_of cs else hang c (words_of cs)) e

pub word_cut : (xs : List ℕ) (p : ℕ) → p < length xs → ((k : ℕ) → k < p → nat_eq (get_or xs k 0) 32 ≡ false) → nat_eq (get_or xs p 0) 32 ≡ true →
    words_of xs ≡ take p xs ∷ words_of (drop (p + 1) xs)
word_cut [] p l b f = absurd (omega arith)
word_cut (x ∷ xs) zero l b f = chosen x xs true f
word_cut (x ∷ xs) (suc p) l b f = let e : suc (p + 1) ≡ suc p + 1 = omega arith in
    chosen x xs false (b 0 (omega arith)) ∙ ap (hang x) (word_cut xs p (omega arith) (λ k m. b (suc k) (omega arith)) f)
    ∙ ap (λ n. (x ∷ take p xs) ∷ words_of (drop n (x ∷ xs))) e

pub word_alone : (xs : List ℕ) → ((k : ℕ) → k < length xs → nat_eq (get_or xs k 0) 32 ≡ false) → words_of xs ≡ xs ∷ []
word_alone [] b = refl
word_alone (x ∷ xs) b = chosen x xs false (b 0 (omega arith)) ∙ ap (hang x) (word_alone xs (λ k m. b (suc k) (omega arith)))

-- a line has a word
hung : (c : ℕ) (lines : List (List ℕ)) → 0 < length (hang c lines)
hung c [] = omega arith
hung c (l ∷ ls) = omega arith

pub some_word : (xs : List ℕ) → 0 < length (words_of xs)
some_word [] = omega arith
some_word (x ∷ xs) = go (nat_eq x 32)
  where
    go : (b : Bool) → 0 < length (if b then [] ∷ words_of xs else hang x (words_of xs))
    go true = omega arith
    go false = hung x (words_of xs)

pub two_at_least : (line word rest : List ℕ) → words_of line ≡ word ∷ words_of rest → length (words_of line) ≢ 1
two_at_least line word rest e l = let some = some_word rest in let n = ap length e in omega (arith, some, n, l)

-- a line of at least three words begins a certificate by its first two
pub head_by : (line a rest b more : List ℕ) → words_of line ≡ a ∷ words_of rest → words_of rest ≡ b ∷ words_of more →
    is_head (words_of line) ≡ (if bytes_eq a (codes "certificate") then bytes_eq b (codes "1") else false)
head_by line a rest b more e f = ap is_head (e ∙ ap (λ ws. a ∷ ws) f) ∙ go (words_of more) (some_word more)
  where
    go : (ws : List (List ℕ)) → 0 < length ws → is_head (a ∷ b ∷ ws) ≡ (if bytes_eq a (codes "certificate") then bytes_eq b (codes "1") else false)
    go [] l = absurd (omega (arith, l))
    go (w ∷ ws) l = refl

pub head_known : (line a rest b more first second : List ℕ) (t r : Bool) → words_of line ≡ a ∷ words_of rest → words_of rest ≡ b ∷ words_of more →
    first ≡ codes "certificate" → second ≡ codes "1" → t ≡ bytes_eq a first → t ≡ true → r ≡ bytes_eq b second → r ≡ is_head (words_of line)
head_known line a rest b more first second t r e f g h i j k =
    let first_so : bytes_eq a (codes "certificate") ≡ true = ap (bytes_eq a) (sym g) ∙ sym i ∙ j in
    k ∙ ap (bytes_eq b) h ∙ sym (head_by line a rest b more e f ∙ ap (λ u. if u then bytes_eq b (codes "1") else false) first_so)
