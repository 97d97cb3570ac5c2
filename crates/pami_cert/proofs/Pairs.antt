-- Lines of two numbers each, taken apart and put together line by line.
use Rattle.std.proofs.Common.{◌≡◌, ℕ, suc, ◌+◌, List, [], ◌∷◌, ◌++◌, length, map, refl, sym, ap, ◌∙◌, subst, arith, append_assoc}
use Rattle.std.specs.List.{All}
use Rattle.std.proofs.lemmas.List.{length_push}
use Rattle.std.proofs.lemmas.List.Elements.{All-push}
use Rattle.pami_algebra.specs.Fraction.{Fraction}
use Rattle.pami_linear.specs.Lists.{get}
use Rattle.pami_frac.specs.Printed.{printed}
use Rattle.pami_lines.specs.Certificate.{valued_from, valued_line}
use Rattle.pami_cert.specs.declared.part.Part.{Part}
use Rattle.pami_cert.specs.Part.{tag}
use Rattle.pami_cert.specs.CertText.{Fit}
use Rattle.pami_cert.specs.Due.{Variable, IsNumber}
use Rattle.pami_cert.specs.Read.{Line, ArePairs}
use Rattle.pami_cert.proofs.Lists.{head_same, tail_same, all_nil, all_head, all_tail, all_more}
use Rattle.pami_cert.proofs.Numbers.{printed_of_one}
use Rattle.pami_cert.proofs.Dues.{Passed}

-- the lines of these names with these numbers, list beside list
abbrev pub pairs : List ℕ → List (List ℕ) → List Fraction → List Fraction → List Line
pairs t [] xs ds = []
pairs t (n ∷ ns) [] ds = []
pairs t (n ∷ ns) (x ∷ xs) [] = []
pairs t (n ∷ ns) (x ∷ xs) (d ∷ ds) = (t ∷ n ∷ printed x ∷ printed d ∷ []) ∷ pairs t ns xs ds

-- the lines begin with those of these numbers, and these are left
pub record IsPairs (t : List ℕ) (ns : List (List ℕ)) (lines rest : List Line) (xs ds : List Fraction) : Type 0 where
  pub numbers : ArePairs (length ns) xs ds
  pub lines_are : lines ≡ pairs t ns xs ds ++ rest

-- ---- the lines of the definition

valued_on : (t : List ℕ) (ns : List (List ℕ)) (x : Fraction) (xs : List Fraction) (d : Fraction) (ds : List Fraction) (v : ℕ) →
    map (valued_line t) (valued_from (suc v) ns (get (x ∷ xs)) (get (d ∷ ds))) ≡ map (valued_line t) (valued_from v ns (get xs) (get ds))
valued_on t [] x xs d ds v = refl
valued_on t (n ∷ ns) x xs d ds v = let e : suc v + 1 ≡ suc (v + 1) = omega arith in
    let line : Line = t ∷ n ∷ printed (get xs v) ∷ printed (get ds v) ∷ [] in
    ap (λ m. line ∷ map (valued_line t) (valued_from m ns (get (x ∷ xs)) (get (d ∷ ds)))) e ∙ ap (λ ls. line ∷ ls) (valued_on t ns x xs d ds (v + 1))

pub pairs_valued : (t : List ℕ) (ns : List (List ℕ)) (xs ds : List Fraction) → length xs ≡ length ns → length ds ≡ length ns →
    map (valued_line t) (valued_from 0 ns (get xs) (get ds)) ≡ pairs t ns xs ds
pairs_valued t [] xs ds h k = refl
pairs_valued t (n ∷ ns) [] ds h k = absurd (omega arith)
pairs_valued t (n ∷ ns) (x ∷ xs) [] h k = absurd (omega arith)
pairs_valued t (n ∷ ns) (x ∷ xs) (d ∷ ds) h k =
    ap (λ ls. (t ∷ n ∷ printed x ∷ printed d ∷ []) ∷ ls) (valued_on t ns x xs d ds 0 ∙ pairs_valued t ns xs ds (omega (arith, h)) (omega (arith, k)))

-- ---- front to back

fewer : (n : ℕ) (x d : Fraction) (xs ds : List Fraction) → ArePairs (suc n) (x ∷ xs) (d ∷ ds) → ArePairs n xs ds
fewer n x d xs ds h = record {
  firsts = omega (arith, h.firsts);
  seconds = omega (arith, h.seconds);
  firsts_fit = all_tail Fit x xs h.firsts_fit;
  seconds_fit = all_tail Fit d ds h.seconds_fit;
}

pub pairs_passed : (part : Part) (ns : List (List ℕ)) (lines rest : List Line) (xs ds : List Fraction) → IsPairs (tag part) ns lines rest xs ds →
    Passed (map (λ name. Variable part name 2) ns) lines rest
pairs_passed part ns lines rest xs ds h = subst (λ ls. Passed (map (λ name. Variable part name 2) ns) ls rest) (sym h.lines_are) (go ns xs ds h.numbers)
  where
    go : (ns : List (List ℕ)) (xs ds : List Fraction) → ArePairs (length ns) xs ds →
        Passed (map (λ name. Variable part name 2) ns) (pairs (tag part) ns xs ds ++ rest) rest
    go [] xs ds h = refl
    go (n ∷ ns) [] ds h = let e = h.firsts in absurd (omega (arith, e))
    go (n ∷ ns) (x ∷ xs) [] h = let e = h.seconds in absurd (omega (arith, e))
    go (n ∷ ns) (x ∷ xs) (d ∷ ds) h = (
      (
        printed x ∷ printed d ∷ [],
        (
          (refl, refl),
          all_more IsNumber (printed x) (printed d ∷ []) (x, (all_head Fit x xs h.firsts_fit, refl))
              (all_more IsNumber (printed d) [] (d, (all_head Fit d ds h.seconds_fit, refl)) (all_nil IsNumber)),
        ),
      ),
      go ns xs ds (fewer (length ns) x d xs ds h),
    )

two_of : (ws : Line) → length ws ≡ 2 → (a : List ℕ) × ((b : List ℕ) × (ws ≡ a ∷ b ∷ []))
two_of [] e = absurd (omega (arith, e))
two_of (a ∷ []) e = absurd (omega (arith, e))
two_of (a ∷ b ∷ []) e = (a, (b, refl))
two_of (a ∷ b ∷ c ∷ ws) e = absurd (omega (arith, e))

pub passed_pairs : (part : Part) (ns : List (List ℕ)) (lines rest : List Line) → Passed (map (λ name. Variable part name 2) ns) lines rest →
    (xs : List Fraction) × ((ds : List Fraction) × IsPairs (tag part) ns lines rest xs ds)
passed_pairs part [] lines rest h =
    ([], ([], record { numbers = record { firsts = refl; seconds = refl; firsts_fit = all_nil Fit; seconds_fit = all_nil Fit }; lines_are = h }))
passed_pairs part (n ∷ ns) [] rest h = absurd h
passed_pairs part (n ∷ ns) (w ∷ lines) rest h =
    let two = two_of h.0.0 h.0.1.0.0 in
    let numbers : All IsNumber (two.0 ∷ two.1.0 ∷ []) = subst (All IsNumber) two.1.1 h.0.1.1 in
    let words : w ≡ tag part ∷ n ∷ two.0 ∷ two.1.0 ∷ [] = h.0.1.0.1 ∙ ap (λ ws. tag part ∷ n ∷ ws) two.1.1 in
    let first = all_head IsNumber two.0 (two.1.0 ∷ []) numbers in
    let second = all_head IsNumber two.1.0 [] (all_tail IsNumber two.0 (two.1.0 ∷ []) numbers) in
    let more = passed_pairs part ns lines rest h.1 in
    let line : w ≡ tag part ∷ n ∷ printed first.0 ∷ printed second.0 ∷ [] =
    words ∙ ap (λ a. tag part ∷ n ∷ a ∷ two.1.0 ∷ []) first.1.1 ∙ ap (λ b. tag part ∷ n ∷ printed first.0 ∷ b ∷ []) second.1.1 in (
      first.0 ∷ more.0,
      (
        second.0 ∷ more.1.0,
        record {
          numbers = record {
            firsts = ap suc more.1.1.numbers.firsts;
            seconds = ap suc more.1.1.numbers.seconds;
            firsts_fit = all_more Fit first.0 more.0 first.1.0 more.1.1.numbers.firsts_fit;
            seconds_fit = all_more Fit second.0 more.1.0 second.1.0 more.1.1.numbers.seconds_fit;
          };
          lines_are = ap (λ ls. w ∷ ls) more.1.1.lines_are ∙ ap (λ l. l ∷ (pairs (tag part) ns more.0 more.1.0 ++ rest)) line;
        },
      ),
    )

-- ---- the numbers of lines are one

pub pairs_of_one : (t : List ℕ) (ns : List (List ℕ)) (rest other : List Line) (xs ds ys es : List Fraction) → ArePairs (length ns) xs ds →
    ArePairs (length ns) ys es →
    pairs t ns xs ds ++ rest ≡ pairs t ns ys es ++ other → (xs ≡ ys) × ((ds ≡ es) × (rest ≡ other))
pairs_of_one t [] rest other [] [] [] [] h k e = (refl, (refl, e))
pairs_of_one t [] rest other (x ∷ xs) ds ys es h k e = let l = h.firsts in absurd (omega (arith, l))
pairs_of_one t [] rest other [] (d ∷ ds) ys es h k e = let l = h.seconds in absurd (omega (arith, l))
pairs_of_one t [] rest other [] [] (y ∷ ys) es h k e = let l = k.firsts in absurd (omega (arith, l))
pairs_of_one t [] rest other [] [] [] (z ∷ es) h k e = let l = k.seconds in absurd (omega (arith, l))
pairs_of_one t (n ∷ ns) rest other [] ds ys es h k e = let l = h.firsts in absurd (omega (arith, l))
pairs_of_one t (n ∷ ns) rest other (x ∷ xs) [] ys es h k e = let l = h.seconds in absurd (omega (arith, l))
pairs_of_one t (n ∷ ns) rest other (x ∷ xs) (d ∷ ds) [] es h k e = let l = k.firsts in absurd (omega (arith, l))
pairs_of_one t (n ∷ ns) rest other (x ∷ xs) (d ∷ ds) (y ∷ ys) [] h k e = let l = k.seconds in absurd (omega (arith, l))
pairs_of_one t (n ∷ ns) rest other (x ∷ xs) (d ∷ ds) (y ∷ ys) (z ∷ es) h k e =
    let numbers = tail_same (tail_same (head_same e)) in
    let first = printed_of_one x y (all_head Fit x xs h.firsts_fit) (all_head Fit y ys k.firsts_fit) (head_same numbers) in
    let second = printed_of_one d z (all_head Fit d ds h.seconds_fit) (all_head Fit z es k.seconds_fit) (head_same (tail_same numbers)) in
    let more = pairs_of_one t ns rest other xs ds ys es (fewer (length ns) x d xs ds h) (fewer (length ns) y z ys es k) (tail_same e) in
    (ap (λ v. v ∷ xs) first ∙ ap (λ vs. y ∷ vs) more.0, (ap (λ v. v ∷ ds) second ∙ ap (λ vs. z ∷ vs) more.1.0, more.1.1))

-- ---- one line more at the end

pairs_push : (t : List ℕ) (ns : List (List ℕ)) (n : List ℕ) (xs ds : List Fraction) (x d : Fraction) → length xs ≡ length ns → length ds ≡ length ns →
    pairs t (ns ++ n ∷ []) (xs ++ x ∷ []) (ds ++ d ∷ []) ≡ pairs t ns xs ds ++ (t ∷ n ∷ printed x ∷ printed d ∷ []) ∷ []
pairs_push t [] n [] [] x d h k = refl
pairs_push t [] n (y ∷ xs) ds x d h k = absurd (omega (arith, h))
pairs_push t [] n [] (y ∷ ds) x d h k = absurd (omega (arith, k))
pairs_push t (m ∷ ns) n [] ds x d h k = absurd (omega (arith, h))
pairs_push t (m ∷ ns) n (y ∷ xs) [] x d h k = absurd (omega (arith, k))
pairs_push t (m ∷ ns) n (y ∷ xs) (z ∷ ds) x d h k =
    ap (λ ls. (t ∷ m ∷ printed y ∷ printed z ∷ []) ∷ ls) (pairs_push t ns n xs ds x d (omega (arith, h)) (omega (arith, k)))

pub one_pair_more : (t : List ℕ) (ns : List (List ℕ)) (n : List ℕ) (lines rest more : List Line) (xs ds : List Fraction) (x d : Fraction) →
    IsPairs t ns lines rest xs ds → Fit x → Fit d → rest ≡ (t ∷ n ∷ printed x ∷ printed d ∷ []) ∷ more →
    IsPairs t (ns ++ n ∷ []) lines more (xs ++ x ∷ []) (ds ++ d ∷ [])
one_pair_more t ns n lines rest more xs ds x d h f g e = record {
  numbers = record {
    firsts = length_push xs x ∙ ap (λ k. k + 1) h.numbers.firsts ∙ sym (length_push ns n);
    seconds = length_push ds d ∙ ap (λ k. k + 1) h.numbers.seconds ∙ sym (length_push ns n);
    firsts_fit = All-push Fit xs x h.numbers.firsts_fit f;
    seconds_fit = All-push Fit ds d h.numbers.seconds_fit g;
  };
  lines_are = h.lines_are ∙ ap (λ ls. pairs t ns xs ds ++ ls) e
      ∙ sym (append_assoc (pairs t ns xs ds) ((t ∷ n ∷ printed x ∷ printed d ∷ []) ∷ []) more)
      ∙ ap (λ ls. ls ++ more) (sym (pairs_push t ns n xs ds x d h.numbers.firsts h.numbers.seconds));
}
