-- A part read line by line.
use Rattle.std.proofs.Common.{◌≡◌, ℕ, suc, ◌+◌, ◌<◌, ◌≤◌, List, [], ◌∷◌, ◌++◌, length, map, drop, take, get_or, sym, ap, ◌∙◌, subst, arith}
use Rattle.std.proofs.lemmas.List.{length-map, length-take-le, take_all, take-append-drop, map-append}
use Rattle.std.proofs.Math.Seq.{take-suc}
use Rattle.pami_algebra.specs.Fraction.{Fraction}
use Rattle.pami_model.specs.Contents.{Contents}
use Rattle.pami_cert.specs.declared.cert.CertFault.{CertFault}
use Rattle.pami_cert.specs.declared.part.Part.{Part}
use Rattle.pami_cert.specs.Part.{tag, names}
use Rattle.pami_cert.specs.CertText.{lines_in, Fit}
use Rattle.pami_cert.specs.Due.{Due, Variable, part_due}
use Rattle.pami_cert.specs.FirstFault.{FirstWrong}
use Rattle.pami_cert.specs.Read.{left_at, HasLine, IsWrongAt, IsWrongFrom, pair_line, member_line, HasPairs, HasMembers}
use Rattle.pami_cert.proofs.Dues.{Passed, wrong_front, wrong_behind}
use Rattle.pami_cert.proofs.Pairs.{IsPairs, pairs_valued, pairs_passed, one_pair_more}
use Rattle.pami_cert.proofs.Members.{IsMembers, members_named, members_passed, one_member_more}
use Rattle.pami_cert.proofs.Placed.{line_within}

names_split : (ns : List (List ℕ)) (i : ℕ) (name : List ℕ) → i < length ns → name ≡ get_or ns i [] → take (i + 1) ns ≡ take i ns ++ name ∷ []
names_split ns i name l e = let n : i + 1 ≡ suc i = omega arith in
    ap (λ k. take k ns) n ∙ take-suc ns i [] l ∙ ap (λ z. take i ns ++ z ∷ []) (sym e)

-- the lines before were what is due, and this one isn't
part_wrong : (part : Part) (n : ℕ) (ns : List (List ℕ)) (bytes : List ℕ) (at i : ℕ) (name : List ℕ) (f : CertFault) →
    Passed (map (λ m. Variable part m n) (take i ns)) (left_at bytes at) (left_at bytes (at + i)) → i < length ns → name ≡ get_or ns i [] →
    IsWrongAt (Variable part name n) bytes (at + i) f → IsWrongFrom (map (λ m. Variable part m n) ns) bytes at f
part_wrong part n ns bytes at i name f h l e w =
    let due : List ℕ → Due = λ m. Variable part m n in
    let before : length (map due (take i ns)) ≡ i = length-map (take i ns) due ∙ length-take-le i ns (omega (arith, l)) in
    let number : at + i + 1 ≡ at + 1 + length (map due (take i ns)) = omega (arith, before) in
    let here = wrong_behind (map due (take i ns)) (due name ∷ []) (at + 1) (at + i + 1) (left_at bytes at) (left_at bytes (at + i)) f number h w in
    let all = wrong_front (map due (take i ns) ++ due name ∷ []) (map due (drop (i + 1) ns)) (at + 1) (left_at bytes at) f here in
    let whole : (map due (take i ns) ++ due name ∷ []) ++ map due (drop (i + 1) ns) ≡ map due ns =
    ap (λ z. z ++ map due (drop (i + 1) ns)) (sym (map-append due (take i ns) (name ∷ [])) ∙ ap (map due) (sym (names_split ns i name l e)))
    ∙ sym (map-append due (take (i + 1) ns) (drop (i + 1) ns)) ∙ ap (map due) (take-append-drop (i + 1) ns) in
    subst (λ ds. FirstWrong ds (at + 1) (left_at bytes at) f) whole all

-- ---- two numbers a line

-- the first lines of the part are read
pub record PairsSoFar (c : Contents) (part : Part) (bytes : List ℕ) (at i : ℕ) (xs ds : List Fraction) : Type 0 where
  pub within : at + i ≤ length (lines_in bytes)
  pub lines : IsPairs (tag part) (take i (names c part)) (left_at bytes at) (left_at bytes (at + i)) xs ds

pub pairs_step : (c : Contents) (part : Part) (bytes : List ℕ) (at i : ℕ) (xs ds ys es : List Fraction) (name : List ℕ) (x d : Fraction) →
    PairsSoFar c part bytes at i xs ds → i < length (names c part) → name ≡ get_or (names c part) i [] →
    HasLine bytes (at + i) (pair_line part name x d) → Fit x × Fit d → ys ≡ xs ++ x ∷ [] → es ≡ ds ++ d ∷ [] → PairsSoFar c part bytes at (i + 1) ys es
pairs_step c part bytes at i xs ds ys es name x d h l e line f p q =
    let within = line_within bytes (at + i) (pair_line part name x d) line in
    let n : at + i + 1 ≡ at + (i + 1) = omega arith in
    let more = one_pair_more (tag part) (take i (names c part)) name (left_at bytes at) (left_at bytes (at + i)) (left_at bytes (at + i + 1)) xs ds x d
    h.lines f.0 f.1 line in
    let named = subst (λ ns. IsPairs (tag part) ns (left_at bytes at) (left_at bytes (at + i + 1)) (xs ++ x ∷ []) (ds ++ d ∷ []))
    (sym (names_split (names c part) i name l e)) more in
    let moved = subst (λ m. IsPairs (tag part) (take (i + 1) (names c part)) (left_at bytes at) (left_at bytes m) (xs ++ x ∷ []) (ds ++ d ∷ [])) n named in
    let one : PairsSoFar c part bytes at (i + 1) (xs ++ x ∷ []) (ds ++ d ∷ []) = record { within = omega (arith, within); lines = moved } in
    subst (λ zs. PairsSoFar c part bytes at (i + 1) zs es) (sym p) (subst (λ zs. PairsSoFar c part bytes at (i + 1) (xs ++ x ∷ []) zs) (sym q) one)

pub pairs_wrong : (c : Contents) (part : Part) (bytes : List ℕ) (at i : ℕ) (xs ds : List Fraction) (name : List ℕ) (f : CertFault) →
    PairsSoFar c part bytes at i xs ds → i < length (names c part) → name ≡ get_or (names c part) i [] →
    IsWrongAt (Variable part name 2) bytes (at + i) f → IsWrongFrom (part_due c part 2) bytes at f
pairs_wrong c part bytes at i xs ds name f h l e w =
    part_wrong part 2 (names c part) bytes at i name f (pairs_passed part (take i (names c part)) (left_at bytes at) (left_at bytes (at + i)) xs ds h.lines) l
    e w

pub pairs_read : (c : Contents) (part : Part) (bytes : List ℕ) (at i : ℕ) (xs ds : List Fraction) → PairsSoFar c part bytes at i xs ds →
    i ≡ length (names c part) →
    HasPairs c part bytes at xs ds
pairs_read c part bytes at i xs ds h e =
    let all : take i (names c part) ≡ names c part = take_all i (names c part) (omega (arith, e)) in
    let named = subst (λ ns. IsPairs (tag part) ns (left_at bytes at) (left_at bytes (at + i)) xs ds) all h.lines in
    let moved = subst (λ m. IsPairs (tag part) (names c part) (left_at bytes at) (left_at bytes (at + m)) xs ds) e named in
    let within = h.within in
    record {
      within = omega (arith, within, e);
      lines = record {
        numbers = moved.numbers;
        lines_are = moved.lines_are
            ∙ ap (λ ls. ls ++ left_at bytes (at + length (names c part)))
            (sym (pairs_valued (tag part) (names c part) xs ds moved.numbers.firsts moved.numbers.seconds));
      };
    }

-- ---- one number a line

pub record MembersSoFar (c : Contents) (part : Part) (bytes : List ℕ) (at i : ℕ) (xs : List Fraction) : Type 0 where
  pub within : at + i ≤ length (lines_in bytes)
  pub lines : IsMembers (tag part) (take i (names c part)) (left_at bytes at) (left_at bytes (at + i)) xs

pub members_step : (c : Contents) (part : Part) (bytes : List ℕ) (at i : ℕ) (xs ys : List Fraction) (name : List ℕ) (x : Fraction) →
    MembersSoFar c part bytes at i xs → i < length (names c part) → name ≡ get_or (names c part) i [] →
    HasLine bytes (at + i) (member_line part name x) → Fit x → ys ≡ xs ++ x ∷ [] → MembersSoFar c part bytes at (i + 1) ys
members_step c part bytes at i xs ys name x h l e line f p =
    let within = line_within bytes (at + i) (member_line part name x) line in
    let n : at + i + 1 ≡ at + (i + 1) = omega arith in
    let more = one_member_more (tag part) (take i (names c part)) name (left_at bytes at) (left_at bytes (at + i)) (left_at bytes (at + i + 1)) xs x h.lines f
    line in
    let named = subst (λ ns. IsMembers (tag part) ns (left_at bytes at) (left_at bytes (at + i + 1)) (xs ++ x ∷ []))
    (sym (names_split (names c part) i name l e)) more in
    let moved = subst (λ m. IsMembers (tag part) (take (i + 1) (names c part)) (left_at bytes at) (left_at bytes m) (xs ++ x ∷ [])) n named in
    let one : MembersSoFar c part bytes at (i + 1) (xs ++ x ∷ []) = record { within = omega (arith, within); lines = moved } in
    subst (λ zs. MembersSoFar c part bytes at (i + 1) zs) (sym p) one

pub members_wrong : (c : Contents) (part : Part) (bytes : List ℕ) (at i : ℕ) (xs : List Fraction) (name : List ℕ) (f : CertFault) →
    MembersSoFar c part bytes at i xs → i < length (names c part) → name ≡ get_or (names c part) i [] →
    IsWrongAt (Variable part name 1) bytes (at + i) f → IsWrongFrom (part_due c part 1) bytes at f
members_wrong c part bytes at i xs name f h l e w =
    part_wrong part 1 (names c part) bytes at i name f (members_passed part (take i (names c part)) (left_at bytes at) (left_at bytes (at + i)) xs h.lines) l
    e w

pub members_read : (c : Contents) (part : Part) (bytes : List ℕ) (at i : ℕ) (xs : List Fraction) → MembersSoFar c part bytes at i xs →
    i ≡ length (names c part) →
    HasMembers c part bytes at xs
members_read c part bytes at i xs h e =
    let all : take i (names c part) ≡ names c part = take_all i (names c part) (omega (arith, e)) in
    let named = subst (λ ns. IsMembers (tag part) ns (left_at bytes at) (left_at bytes (at + i)) xs) all h.lines in
    let moved = subst (λ m. IsMembers (tag part) (names c part) (left_at bytes at) (left_at bytes (at + m)) xs) e named in
    let within = h.within in
    record {
      within = omega (arith, within, e);
      lines = record {
        numbers = moved.numbers;
        lines_are = moved.lines_are ∙ ap (λ ls. ls ++ left_at bytes (at + length (names c part)))
            (sym (members_named (tag part) (names c part) xs moved.numbers.numbers));
      };
    }
