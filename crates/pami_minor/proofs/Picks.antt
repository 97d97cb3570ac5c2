-- Rows that are dropped from a list, from its end on.
use Rattle.std.proofs.Common.{◌≡◌, ℕ, zero, suc, ◌+◌, ◌<◌, Bool, true, false, not, cond, List, [], ◌∷◌, ◌++◌, take, drop, length, get_or, Option, refl, sym, ap, ◌∙◌, subst, arith}
use Rattle.std.specs.Option.{option_map}
use Rattle.std.proofs.lemmas.List.{drop_more}
use Rattle.pami_deferral.specs.Inside.{keeps}
use Rattle.pami_minor.specs.declared.row.RowNow.{RowNow}
use Rattle.pami_minor.specs.declared.kept.Kept.{Kept}
use Rattle.pami_minor.specs.Rows.{row_seen}
use Rattle.pami_minor.specs.Picks.{staying_by}

removed : {A : Type 0} (i : ℕ) (old s : List A) → i < length old
    → take i (take (suc i) old ++ s) ++ drop (suc i) (take (suc i) old ++ s) ≡ take i old ++ s
removed i [] s l = absurd (omega arith)
removed zero (x ∷ old) s l = refl
removed (suc i) (x ∷ old) s l = ap (λ ys. x ∷ ys) (removed i old s (omega arith))

get_taken : {A : Type 0} (i : ℕ) (old s : List A) (d : A) → i < length old → get_or (take (suc i) old ++ s) i d ≡ get_or old i d
get_taken i [] s d l = absurd (omega arith)
get_taken zero (x ∷ old) s d l = refl
get_taken (suc i) (x ∷ old) s d l = get_taken i old s d (omega arith)

staying_one : (i : ℕ) (old : List Kept) (nows : List (Option RowNow)) (k : Kept) (now : Option RowNow) → i < length old → length nows ≡ length old
    → k ≡ get_or old i k → now ≡ get_or nows i now → keeps k.merit (option_map row_seen now) ≡ false
    → staying_by (drop (suc i) old) (drop (suc i) nows) ≡ staying_by (drop i old) (drop i nows)
staying_one i old nows k now l n e h s =
    let z : i + 1 ≡ suc i = omega arith in
    let here : drop i old ≡ k ∷ drop (suc i) old =
    subst (λ j. drop i old ≡ k ∷ drop j old) z (drop_more old i k l ∙ ap (λ x. x ∷ drop (i + 1) old) (sym e)) in
    let there : drop i nows ≡ now ∷ drop (suc i) nows =
    subst (λ j. drop i nows ≡ now ∷ drop j nows) z (drop_more nows i now (omega arith) ∙ ap (λ x. x ∷ drop (i + 1) nows) (sym h)) in
    sym (ap (λ ks. staying_by ks (drop i nows)) here ∙ ap (staying_by (k ∷ drop (suc i) old)) there
    ∙ ap (λ b. cond b (k ∷ staying_by (drop (suc i) old) (drop (suc i) nows)) (staying_by (drop (suc i) old) (drop (suc i) nows))) s)

pub drop_one : (i n : ℕ) (old rows : List Kept) (nows : List (Option RowNow)) (k : Kept) (now : Option RowNow) → n ≡ suc i → i < length old
    → length nows ≡ length old → rows ≡ take n old ++ staying_by (drop n old) (drop n nows) → k ≡ get_or rows i k → now ≡ get_or nows i now
    → keeps k.merit (option_map row_seen now) ≡ false → take i rows ++ drop (i + 1) rows ≡ take i old ++ staying_by (drop i old) (drop i nows)
drop_one i n old rows nows k now m l c h e o s =
    let z : i + 1 ≡ suc i = omega arith in
    let rest : List Kept = staying_by (drop (suc i) old) (drop (suc i) nows) in
    let here : rows ≡ take (suc i) old ++ rest =
    subst (λ j. rows ≡ take j old ++ staying_by (drop j old) (drop j nows)) m h in
    ap (λ j. take i rows ++ drop j rows) z
    ∙ ap (λ xs. take i xs ++ drop (suc i) xs) here
    ∙ removed i old rest l
    ∙ ap (λ xs. take i old ++ xs) (staying_one i old nows k now l c
    (e ∙ ap (λ xs. get_or xs i k) here ∙ get_taken i old rest k l) o s)

pub not_true : (b : Bool) → not b ≡ true → b ≡ false
not_true true e = sym e
not_true false e = refl
