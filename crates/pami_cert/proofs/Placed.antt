-- The lines of a text where they stand.
use Rattle.std.proofs.Common.{◌≡◌, ℕ, suc, ◌+◌, ◌<◌, ◌≤◌, Bool, true, false, cond, List, [], ◌∷◌, ◌++◌, length, map, drop, take, get_or, sym, ap, ◌∙◌, subst, arith, nat_eq, ◌&&◌, ◌-◌, inl}
use Rattle.std.specs.List.{All}
use Rattle.std.proofs.lemmas.List.{get_or-map, get_or-drop, length-map, length-drop, length-take-le, drop_more, take_all, take-append-drop}
use Rattle.std.proofs.lemmas.List.Elements.{All-push}
use Rattle.std.proofs.Math.Seq.{take-suc}
use Rattle.pami_edge.specs.declared.line.Line.{Line as Piece}
use Rattle.pami_edge.specs.Lines.{hang, lines_of, piece, begins_with_feed}
use Rattle.pami_model.specs.Rules.{byte_limit}
use Rattle.pami_cert.specs.CertText.{words_of, lines_in, is_head}
use Rattle.pami_model.specs.Contents.{Contents}
use Rattle.pami_cert.specs.declared.cert.CertFault.{CertFault}
use Rattle.pami_cert.specs.declared.cert.CertKind.{CertKind}
use Rattle.pami_cert.specs.declared.cert.CertKind.TheVariants as kinds
use Rattle.pami_cert.specs.declared.cert.Claim.{Claim}
use Rattle.pami_cert.specs.CertLines.{head_line}
use Rattle.pami_cert.specs.FirstFault.{claim_word, fault_at, FaultFrom}
use Rattle.pami_cert.specs.Read.{Line, left_at, HasLine, BeginsNone, HasHead, HasHeadAt}
use Rattle.pami_cert.proofs.Heads.{fault_at_head, absent}

-- there are no more lines than bytes
hang_count : (b : ℕ) (xs : List (List ℕ)) → length (hang b xs) ≤ length xs + 1
hang_count b [] = omega arith
hang_count b (x ∷ xs) = omega arith

lines_few : (bytes : List ℕ) → length (lines_of bytes) ≤ length bytes
lines_few [] = omega arith
lines_few (b ∷ bytes) = by (lines_few bytes) (nat_eq b 10) (nat_eq b 13 && begins_with_feed bytes)
  where
    by : length (lines_of bytes) ≤ length bytes → (p q : Bool) →
        length (cond p ([] ∷ lines_of bytes) (cond q (lines_of bytes) (hang b (lines_of bytes)))) ≤ length (b ∷ bytes)
    by few true q = omega arith
    by few false true = omega arith
    by few false false = let h : length (hang b (lines_of bytes)) ≤ length (lines_of bytes) + 1 = hang_count b (lines_of bytes) in omega arith

pub few_lines : (items : List Piece) (bytes : List ℕ) → map (piece bytes) items ≡ lines_of bytes → length bytes ≤ byte_limit → length items ≤ byte_limit
few_lines items bytes e fits =
    let n : length items ≡ length (lines_of bytes) = sym (length-map items (piece bytes)) ∙ ap length e in
    let few : length (lines_of bytes) ≤ length bytes = lines_few bytes in
    omega arith

pub lines_count : (items : List Piece) (bytes : List ℕ) → map (piece bytes) items ≡ lines_of bytes → length (lines_in bytes) ≡ length items
lines_count items bytes e = length-map (lines_of bytes) words_of ∙ ap length (sym e) ∙ length-map items (piece bytes)

pub line_at : (items : List Piece) (bytes : List ℕ) (at : ℕ) (d : Piece) (text : List ℕ) → map (piece bytes) items ≡ lines_of bytes → at < length items →
    text ≡ piece bytes (get_or items at d) → HasLine bytes at (words_of text)
line_at items bytes at d text e l k =
    let all : List Line = map words_of (map (piece bytes) items) in
    let same : lines_in bytes ≡ all = ap (map words_of) (sym e) in
    let within : at < length (map (piece bytes) items) = rw (length-map items (piece bytes)) l in
    let inside : at < length all = rw (length-map (map (piece bytes) items) words_of) within in
    let here : get_or all at (words_of (piece bytes d)) ≡ words_of text =
    get_or-map words_of (map (piece bytes) items) at (piece bytes d) (words_of (piece bytes d)) within
    ∙ ap words_of (get_or-map (piece bytes) items at d (piece bytes d) l ∙ sym k) in
    subst (λ w. drop at w ≡ words_of text ∷ drop (at + 1) w) (sym same)
    (drop_more all at (words_of (piece bytes d)) inside ∙ ap (λ w. w ∷ drop (at + 1) all) here)

pub line_there : (items : List Piece) (bytes : List ℕ) (at : ℕ) (p : Piece) (text : List ℕ) → map (piece bytes) items ≡ lines_of bytes → at < length items →
    p ≡ get_or items at p → text ≡ piece bytes p → HasLine bytes at (words_of text)
line_there items bytes at p text e l h k = line_at items bytes at p text e l (k ∙ ap (piece bytes) h)

-- ---- what a line's place says

pub line_within : (bytes : List ℕ) (at : ℕ) (words : Line) → HasLine bytes at words → at < length (lines_in bytes)
line_within bytes at words h =
    let n : length (left_at bytes at) ≡ length (lines_in bytes) - at = length-drop at (lines_in bytes) in
    let m : length (left_at bytes at) ≡ suc (length (left_at bytes (at + 1))) = ap length h in
    omega (arith, n, m)

pub line_read : (bytes : List ℕ) (at : ℕ) (words : Line) → HasLine bytes at words → get_or (lines_in bytes) at words ≡ words
line_read bytes at words h = let e : at + 0 ≡ at = omega arith in
    ap (λ n. get_or (lines_in bytes) n words) (sym e) ∙ sym (get_or-drop at (lines_in bytes) 0 words) ∙ ap (λ l. get_or l 0 words) h

pub line_taken : (bytes : List ℕ) (at : ℕ) (words : Line) → HasLine bytes at words → take (at + 1) (lines_in bytes) ≡ take at (lines_in bytes) ++ words ∷ []
line_taken bytes at words h = let e : at + 1 ≡ suc at = omega arith in
    ap (λ n. take n (lines_in bytes)) e ∙ take-suc (lines_in bytes) at words (line_within bytes at words h)
    ∙ ap (λ w. take at (lines_in bytes) ++ w ∷ []) (line_read bytes at words h)

pub taken_length : (bytes : List ℕ) (at : ℕ) (words : Line) → HasLine bytes at words → length (take at (lines_in bytes)) ≡ at
taken_length bytes at words h = let l = line_within bytes at words h in length-take-le at (lines_in bytes) (omega (arith, l))

-- ---- lines that begin no certificate, and the first that does

pub plain_more : (bytes : List ℕ) (at : ℕ) (words : Line) → All BeginsNone (take at (lines_in bytes)) → HasLine bytes at words → is_head words ≡ false →
    All BeginsNone (take (at + 1) (lines_in bytes))
plain_more bytes at words h l e = subst (All BeginsNone) (sym (line_taken bytes at words l)) (All-push BeginsNone (take at (lines_in bytes)) words h e)

pub head_here : (bytes : List ℕ) (at : ℕ) (words : Line) → All BeginsNone (take at (lines_in bytes)) → HasLine bytes at words → is_head words ≡ true →
    HasHead (lines_in bytes) (take at (lines_in bytes)) words (left_at bytes (at + 1))
head_here bytes at words h l e = record {
  lines_are = sym (take-append-drop at (lines_in bytes)) ∙ ap (λ ls. take at (lines_in bytes) ++ ls) l;
  skipped = h;
  head = e;
}

pub head_claims : (bytes : List ℕ) (at : ℕ) (words : Line) (claim : Claim) → All BeginsNone (take at (lines_in bytes)) → HasLine bytes at words →
    is_head words ≡ true →
    words ≡ head_line (claim_word claim) → HasHeadAt bytes at claim
head_claims bytes at words claim h l e f = (
  line_within bytes at words l,
  subst (λ w. HasHead (lines_in bytes) (take at (lines_in bytes)) w (left_at bytes (at + 1))) f
      (head_here bytes at words h l e),
)

pub claim_unknown : (c : Contents) (bytes : List ℕ) (at : ℕ) (words : Line) (kind : CertKind) (f : CertFault) → All BeginsNone (take at (lines_in bytes)) →
    HasLine bytes at words → is_head words ≡ true → (kind ≡ kinds.Word) × ((claim : Claim) → ¬ (words ≡ head_line (claim_word claim))) →
    f ≡ fault_at (at + 1) kind → FaultFrom c 1 (lines_in bytes) f
claim_unknown c bytes at words kind f h l e none g =
    let n : at + 1 ≡ 1 + length (take at (lines_in bytes)) = let m = taken_length bytes at words l in omega (arith, m) in
    fault_at_head c 1 (lines_in bytes) (take at (lines_in bytes)) words (left_at bytes (at + 1)) f (head_here bytes at words h l e)
    (inl (none.1, g ∙ ap (fault_at (at + 1)) none.0 ∙ ap (λ m. fault_at m kinds.Word) n))

pub none_begins : (c : Contents) (bytes : List ℕ) (at count : ℕ) → All BeginsNone (take at (lines_in bytes)) → count ≡ length (lines_in bytes) → count ≤ at →
    FaultFrom c 1 (lines_in bytes) (fault_at (count + 1) kinds.Absent)
none_begins c bytes at count h e l =
    let n : 1 + length (lines_in bytes) ≡ count + 1 = omega (arith, e) in
    let all : take at (lines_in bytes) ≡ lines_in bytes = take_all at (lines_in bytes) (omega (arith, e, l)) in
    subst (λ m. FaultFrom c 1 (lines_in bytes) (fault_at m kinds.Absent)) n (absent c 1 (lines_in bytes) (subst (All BeginsNone) all h))
