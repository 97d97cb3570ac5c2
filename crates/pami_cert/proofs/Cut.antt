-- Lines of plain words are read as these words, whatever stands behind.
use Rattle.std.proofs.Common.{◌≡◌, ℕ, false, List, [], ◌∷◌, ◌++◌, map, refl, sym, ap, ◌∙◌, append_assoc, if◌then◌else◌, nat_eq, ◌&&◌}
use Rattle.pami_edge.specs.Lines.{hang, begins_with_feed, lines_of}
use Rattle.pami_lines.specs.Line.{line, text}
use Rattle.pami_cert.specs.CertText.{words_of, lines_in}
use Rattle.std.specs.List.{All}
use Rattle.pami_cert.specs.Read.{BeginsNone}
use Rattle.pami_cert.proofs.Lists.{all_nil, all_more}
use Rattle.pami_cert.specs.Plain.{IsPlain, ArePlain, HasPlainWords, AreOtherLines}

-- words with one blank between them
abbrev pub joined : List (List ℕ) → List ℕ
joined [] = []
joined (w ∷ []) = w
joined (w ∷ v ∷ ws) = w ++ 32 ∷ joined (v ∷ ws)

pub line_is : (ws : List (List ℕ)) → line ws ≡ joined ws ++ 10 ∷ []
line_is [] = refl
line_is (w ∷ []) = refl
line_is (w ∷ v ∷ ws) = ap (λ z. w ++ 32 ∷ z) (line_is (v ∷ ws)) ∙ sym (append_assoc w (32 ∷ joined (v ∷ ws)) (10 ∷ []))

-- ---- cut at blanks
hang_by : (c : ℕ) (rest : List (List ℕ)) (cs : List ℕ) → nat_eq c 32 ≡ false → words_of cs ≡ rest → words_of (c ∷ cs) ≡ hang c rest
hang_by c rest cs e h = ap (λ b. if b then [] ∷ words_of cs else hang c (words_of cs)) e ∙ ap (hang c) h

cut_one : (w : List ℕ) → IsPlain w → words_of w ≡ w ∷ []
cut_one [] h = refl
cut_one (c ∷ cs) h = hang_by c (cs ∷ []) cs h.0.blank (cut_one cs h.1)

cut_more : (w rest : List ℕ) → IsPlain w → words_of (w ++ 32 ∷ rest) ≡ w ∷ words_of rest
cut_more [] rest h = refl
cut_more (c ∷ cs) rest h = hang_by c (cs ∷ words_of rest) (cs ++ 32 ∷ rest) h.0.blank (cut_more cs rest h.1)

pub cut_joined : (w : List ℕ) (ws : List (List ℕ)) → ArePlain (w ∷ ws) → words_of (joined (w ∷ ws)) ≡ w ∷ ws
cut_joined w [] h = cut_one w h.0
cut_joined w (v ∷ ws) h = cut_more w (joined (v ∷ ws)) h.0 ∙ ap (λ z. w ∷ z) (cut_joined v ws h.1)

-- ---- cut at line feeds
-- no line feed and no carriage return
abbrev pub IsLine : List ℕ → Type 0
IsLine [] = Unit {0}
IsLine (c ∷ cs) = ((nat_eq c 10 ≡ false) × (nat_eq c 13 ≡ false)) × IsLine cs

line_more : (xs ys : List ℕ) → IsLine xs → IsLine ys → IsLine (xs ++ ys)
line_more [] ys h k = k
line_more (x ∷ xs) ys h k = (h.0, line_more xs ys h.1 k)

plain_line : (w : List ℕ) → IsPlain w → IsLine w
plain_line [] h = tt
plain_line (c ∷ cs) h = ((h.0.feed, h.0.return), plain_line cs h.1)

joined_line : (ws : List (List ℕ)) → ArePlain ws → IsLine (joined ws)
joined_line [] h = tt
joined_line (w ∷ []) h = plain_line w h.0
joined_line (w ∷ v ∷ ws) h = line_more w (32 ∷ joined (v ∷ ws)) (plain_line w h.0) ((refl, refl), joined_line (v ∷ ws) h.1)

byte_hangs : (c : ℕ) (cs : List ℕ) → nat_eq c 10 ≡ false → nat_eq c 13 ≡ false → lines_of (c ∷ cs) ≡ hang c (lines_of cs)
byte_hangs c cs e h =
    ap (λ b. if b then [] ∷ lines_of cs else if nat_eq c 13 && begins_with_feed cs then lines_of cs else hang c (lines_of cs)) e
    ∙ ap (λ b. if b && begins_with_feed cs then lines_of cs else hang c (lines_of cs)) h

first_line : (xs more : List ℕ) → IsLine xs → lines_of (xs ++ 10 ∷ more) ≡ xs ∷ lines_of more
first_line [] more h = refl
first_line (x ∷ xs) more h = byte_hangs x (xs ++ 10 ∷ more) h.0.0 h.0.1 ∙ ap (hang x) (first_line xs more h.1)

one_line : (ws : List (List ℕ)) (more : List ℕ) → ArePlain ws → lines_of (line ws ++ more) ≡ joined ws ∷ lines_of more
one_line ws more h = ap (λ z. lines_of (z ++ more)) (line_is ws) ∙ ap lines_of (append_assoc (joined ws) (10 ∷ []) more)
    ∙ first_line (joined ws) more (joined_line ws h)

-- ---- whole texts
abbrev pub Lines : List (List (List ℕ)) → Type 0
Lines [] = Unit {0}
Lines (ws ∷ rest) = HasPlainWords ws × Lines rest

pub lines_more : (xs ys : List (List (List ℕ))) → Lines xs → Lines ys → Lines (xs ++ ys)
lines_more [] ys h k = k
lines_more (x ∷ xs) ys h k = (h.0, lines_more xs ys h.1 k)

pub text_cut : (ls : List (List (List ℕ))) (more : List ℕ) → Lines ls → lines_in (text ls ++ more) ≡ ls ++ lines_in more
text_cut [] more h = refl
text_cut ([] ∷ ls) more h = absurd h.0
text_cut ((w ∷ ws) ∷ ls) more h =
    ap lines_in (append_assoc (line (w ∷ ws)) (text ls) more)
    ∙ ap (map words_of) (one_line (w ∷ ws) (text ls ++ more) h.0)
    ∙ ap (λ z. z ∷ lines_in (text ls ++ more)) (cut_joined w ws h.0)
    ∙ ap (λ z. (w ∷ ws) ∷ z) (text_cut ls more h.1)

-- ---- lines in front

pub front_lines : (ls : List (List (List ℕ))) → AreOtherLines ls → Lines ls
front_lines [] h = tt
front_lines (l ∷ ls) h = (h.0.0, front_lines ls h.1)

pub front_skipped : (ls : List (List (List ℕ))) → AreOtherLines ls → All BeginsNone ls
front_skipped [] h = all_nil BeginsNone
front_skipped (l ∷ ls) h = all_more BeginsNone l ls h.0.1 (front_skipped ls h.1)
