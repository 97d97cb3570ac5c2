-- Lines of one number each, taken apart and put together line by line.
use Rattle.std.proofs.Common.{◌≡◌, ℕ, suc, ◌+◌, List, [], ◌∷◌, ◌++◌, length, map, refl, sym, ap, ◌∙◌, subst, arith, append_assoc}
use Rattle.std.specs.List.{All}
use Rattle.std.proofs.lemmas.List.{length_push}
use Rattle.std.proofs.lemmas.List.Elements.{All-push}
use Rattle.pami_algebra.specs.Fraction.{Fraction}
use Rattle.pami_linear.specs.Lists.{get}
use Rattle.pami_frac.specs.Printed.{printed}
use Rattle.pami_lines.specs.Certificate.{named_lines}
use Rattle.pami_cert.specs.declared.part.Part.{Part}
use Rattle.pami_cert.specs.Part.{tag}
use Rattle.pami_cert.specs.CertText.{Fit}
use Rattle.pami_cert.specs.Due.{Variable, IsNumber}
use Rattle.pami_cert.specs.Read.{Line, AreMembers}
use Rattle.pami_cert.proofs.Lists.{head_same, tail_same, all_nil, all_head, all_tail, all_more}
use Rattle.pami_cert.proofs.Numbers.{printed_of_one}
use Rattle.pami_cert.proofs.Dues.{Passed}

-- the lines of these names with these numbers, list beside list
abbrev pub members : List ℕ → List (List ℕ) → List Fraction → List Line
members t [] xs = []
members t (n ∷ ns) [] = []
members t (n ∷ ns) (x ∷ xs) = (t ∷ n ∷ printed x ∷ []) ∷ members t ns xs

-- the lines begin with those of these numbers, and these are left
pub record IsMembers (t : List ℕ) (ns : List (List ℕ)) (lines rest : List Line) (xs : List Fraction) : Type 0 where
  pub numbers : AreMembers (length ns) xs
  pub lines_are : lines ≡ members t ns xs ++ rest

-- ---- the lines of the definition

named_on : (t : List ℕ) (ns : List (List ℕ)) (x : Fraction) (xs : List Fraction) (v : ℕ) → named_lines t (suc v) ns (get (x ∷ xs)) ≡ named_lines t v ns (get xs)
named_on t [] x xs v = refl
named_on t (n ∷ ns) x xs v = ap (λ ls. (t ∷ n ∷ printed (get xs v) ∷ []) ∷ ls) (named_on t ns x xs (suc v))

pub members_named : (t : List ℕ) (ns : List (List ℕ)) (xs : List Fraction) → length xs ≡ length ns → named_lines t 0 ns (get xs) ≡ members t ns xs
members_named t [] xs h = refl
members_named t (n ∷ ns) [] h = absurd (omega arith)
members_named t (n ∷ ns) (x ∷ xs) h = ap (λ ls. (t ∷ n ∷ printed x ∷ []) ∷ ls) (named_on t ns x xs 0 ∙ members_named t ns xs (omega (arith, h)))

-- ---- front to back

fewer : (n : ℕ) (x : Fraction) (xs : List Fraction) → AreMembers (suc n) (x ∷ xs) → AreMembers n xs
fewer n x xs h = record { numbers = omega (arith, h.numbers); fit = all_tail Fit x xs h.fit }

pub members_passed : (part : Part) (ns : List (List ℕ)) (lines rest : List Line) (xs : List Fraction) → IsMembers (tag part) ns lines rest xs →
    Passed (map (λ name. Variable part name 1) ns) lines rest
members_passed part ns lines rest xs h = subst (λ ls. Passed (map (λ name. Variable part name 1) ns) ls rest) (sym h.lines_are) (go ns xs h.numbers)
  where
    go : (ns : List (List ℕ)) (xs : List Fraction) → AreMembers (length ns) xs →
        Passed (map (λ name. Variable part name 1) ns) (members (tag part) ns xs ++ rest) rest
    go [] xs h = refl
    go (n ∷ ns) [] h = let e = h.numbers in absurd (omega (arith, e))
    go (n ∷ ns) (x ∷ xs) h = (
      (printed x ∷ [], ((refl, refl), all_more IsNumber (printed x) [] (x, (all_head Fit x xs h.fit, refl)) (all_nil IsNumber))),
      go ns xs (fewer (length ns) x xs h),
    )

one_of : (ws : Line) → length ws ≡ 1 → (a : List ℕ) × (ws ≡ a ∷ [])
one_of [] e = absurd (omega (arith, e))
one_of (a ∷ []) e = (a, refl)
one_of (a ∷ b ∷ ws) e = absurd (omega (arith, e))

pub passed_members : (part : Part) (ns : List (List ℕ)) (lines rest : List Line) → Passed (map (λ name. Variable part name 1) ns) lines rest →
    (xs : List Fraction) × IsMembers (tag part) ns lines rest xs
passed_members part [] lines rest h = ([], record { numbers = record { numbers = refl; fit = all_nil Fit }; lines_are = h })
passed_members part (n ∷ ns) [] rest h = absurd h
passed_members part (n ∷ ns) (w ∷ lines) rest h =
    let one = one_of h.0.0 h.0.1.0.0 in
    let numbers : All IsNumber (one.0 ∷ []) = subst (All IsNumber) one.1 h.0.1.1 in
    let words : w ≡ tag part ∷ n ∷ one.0 ∷ [] = h.0.1.0.1 ∙ ap (λ ws. tag part ∷ n ∷ ws) one.1 in
    let first = all_head IsNumber one.0 [] numbers in
    let more = passed_members part ns lines rest h.1 in
    let line : w ≡ tag part ∷ n ∷ printed first.0 ∷ [] = words ∙ ap (λ a. tag part ∷ n ∷ a ∷ []) first.1.1 in (
      first.0 ∷ more.0,
      record {
        numbers = record { numbers = ap suc more.1.numbers.numbers; fit = all_more Fit first.0 more.0 first.1.0 more.1.numbers.fit };
        lines_are = ap (λ ls. w ∷ ls) more.1.lines_are ∙ ap (λ l. l ∷ (members (tag part) ns more.0 ++ rest)) line;
      },
    )

-- ---- the numbers of lines are one

pub members_of_one : (t : List ℕ) (ns : List (List ℕ)) (rest other : List Line) (xs ys : List Fraction) → AreMembers (length ns) xs →
    AreMembers (length ns) ys →
    members t ns xs ++ rest ≡ members t ns ys ++ other → (xs ≡ ys) × (rest ≡ other)
members_of_one t [] rest other [] [] h k e = (refl, e)
members_of_one t [] rest other (x ∷ xs) ys h k e = let l = h.numbers in absurd (omega (arith, l))
members_of_one t [] rest other [] (y ∷ ys) h k e = let l = k.numbers in absurd (omega (arith, l))
members_of_one t (n ∷ ns) rest other [] ys h k e = let l = h.numbers in absurd (omega (arith, l))
members_of_one t (n ∷ ns) rest other (x ∷ xs) [] h k e = let l = k.numbers in absurd (omega (arith, l))
members_of_one t (n ∷ ns) rest other (x ∷ xs) (y ∷ ys) h k e =
    let first = printed_of_one x y (all_head Fit x xs h.fit) (all_head Fit y ys k.fit) (head_same (tail_same (tail_same (head_same e)))) in
    let more = members_of_one t ns rest other xs ys (fewer (length ns) x xs h) (fewer (length ns) y ys k) (tail_same e) in
    (ap (λ v. v ∷ xs) first ∙ ap (λ vs. y ∷ vs) more.0, more.1)

-- ---- one line more at the end

members_push : (t : List ℕ) (ns : List (List ℕ)) (n : List ℕ) (xs : List Fraction) (x : Fraction) → length xs ≡ length ns →
    members t (ns ++ n ∷ []) (xs ++ x ∷ []) ≡ members t ns xs ++ (t ∷ n ∷ printed x ∷ []) ∷ []
members_push t [] n [] x h = refl
members_push t [] n (y ∷ xs) x h = absurd (omega (arith, h))
members_push t (m ∷ ns) n [] x h = absurd (omega (arith, h))
members_push t (m ∷ ns) n (y ∷ xs) x h = ap (λ ls. (t ∷ m ∷ printed y ∷ []) ∷ ls) (members_push t ns n xs x (omega (arith, h)))

pub one_member_more : (t : List ℕ) (ns : List (List ℕ)) (n : List ℕ) (lines rest more : List Line) (xs : List Fraction) (x : Fraction) →
    IsMembers t ns lines rest xs → Fit x → rest ≡ (t ∷ n ∷ printed x ∷ []) ∷ more → IsMembers t (ns ++ n ∷ []) lines more (xs ++ x ∷ [])
one_member_more t ns n lines rest more xs x h f e = record {
  numbers = record { numbers = length_push xs x ∙ ap (λ k. k + 1) h.numbers.numbers ∙ sym (length_push ns n); fit = All-push Fit xs x h.numbers.fit f };
  lines_are = h.lines_are ∙ ap (λ ls. members t ns xs ++ ls) e
      ∙ sym (append_assoc (members t ns xs) ((t ∷ n ∷ printed x ∷ []) ∷ []) more)
      ∙ ap (λ ls. ls ++ more) (sym (members_push t ns n xs x h.numbers.numbers));
}
