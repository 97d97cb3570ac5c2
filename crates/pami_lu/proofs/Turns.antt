-- The rows below a pivot in turn: their lengths, the multipliers that were put down, and the sets.
use Rattle.std.proofs.Common.{◌≡◌, ℕ, suc, ◌<◌, ◌≤◌, List, [], ◌∷◌, length, set, refl, sym, ap, ◌∙◌, arith, Bool, true, false, cond, not, ⊎_elim}
use Rattle.std.specs.Prelude.{All}
use Rattle.std.proofs.lemmas.Bool.{cases_eq, true≢false}
use Rattle.std.proofs.lemmas.List.{get_or-set_same, get_or-set_other, length-set}
use lib.IntN.{pos}
use lib.Dec.{eqb}
use Rattle.pami_algebra.specs.Fraction.{Fraction}
use Rattle.pami_algebra.specs.Operations.{of_int, is_zero}
use Rattle.pami_frac.specs.declared.list.Entry.{Entry}
use Rattle.pami_linear.specs.Lists.{get}
use Rattle.pami_script.specs.Dense.{at, Rising}
use Rattle.pami_vec.specs.Entries.{NoZeros, AreEntriesOf}
use Rattle.pami_vec.proofs.Scripted.{get_at}
use Rattle.pami_factoring.specs.Factor.{row_at}
use Rattle.pami_lu.specs.Members.{those, stands_at, with_row, without_row, Ascends, AreOthers}
use Rattle.pami_lu.specs.Plain.{set_of, change_all, noted}
use Rattle.pami_lu.proofs.Those.{eqb_yes, eqb_no, those_with, those_without, those_same}

-- the rows that are left have the length m, and come behind those whose multipliers were put down
pub record InTurn (m : ℕ) (rows : List (List Fraction)) (done : List Entry) (left : List ℕ) : Type 0 where
  pub low : ℕ
  pub rising : Rising 0 low done
  pub ascends : Ascends low m left
  pub same : All (λ h. length (row_at rows h) ≡ m) left

-- ---- the sets at the places of some entries
-- is there an entry at the place?
abbrev pub has : List Entry → ℕ → Bool
has [] g = false
has (e ∷ es) g = cond (eqb e.place g) true (has es g)

has_low : (es : List Entry) (low high g : ℕ) → Rising low high es → g < low → has es g ≡ false
has_low [] low high g r l = refl
has_low (e ∷ es) low high g r l = let a : low ≤ e.place = r.0 in ap (λ t. cond t true (has es g)) (eqb_no e.place g (λ q. omega arith)) ∙ has_low es (suc e.place) high g r.2 (omega arith)

pub change_at : (es : List Entry) (f : ℕ → List ℕ → List ℕ) (members : List (List ℕ)) (low high g : ℕ) → Rising low high es → high ≤ length members →
    set_of (change_all es f members) g ≡ cond (has es g) (f g (set_of members g)) (set_of members g)
change_at [] f members low high g r l = refl
change_at (e ∷ es) f members low high g r l =
    let b : e.place < high = r.1 in
    let next = set members e.place (f e.place (set_of members e.place)) in
    let k : high ≤ length next = let z = length-set members e.place (f e.place (set_of members e.place)) in omega arith in
    change_at es f next (suc e.place) high g r.2 k
    ∙ ⊎_elim
    (λ (q : e.place ≡ g).
    ap (λ t. cond t (f g (set_of next g)) (set_of next g)) (has_low es (suc e.place) high g r.2 (omega arith))
    ∙ ap (λ j. set_of next j) (sym q) ∙ get_or-set_same members e.place (f e.place (set_of members e.place)) [] (omega arith)
    ∙ ap (λ j. f j (set_of members j)) q
    ∙ sym (ap (λ t. cond (cond t true (has es g)) (f g (set_of members g)) (set_of members g)) (eqb_yes e.place g q)))
    (λ (q : ¬ (e.place ≡ g)).
    ap (λ s. cond (has es g) (f g s) s) (get_or-set_other members e.place g (f e.place (set_of members e.place)) [] (λ d. q (sym d)))
    ∙ sym (ap (λ t. cond (cond t true (has es g)) (f g (set_of members g)) (set_of members g)) (eqb_no e.place g q)))
    (cases_eq e.place g)

pub change_length : (es : List Entry) (f : ℕ → List ℕ → List ℕ) (members : List (List ℕ)) → length (change_all es f members) ≡ length members
change_length [] f members = refl
change_length (e ∷ es) f members = change_length es f (set members e.place (f e.place (set_of members e.place))) ∙ length-set members e.place (f e.place (set_of members e.place))

-- where there is none, the value is 0, and else not
pub has_not : (es : List Entry) (g : ℕ) → has es g ≡ false → at es g ≡ of_int (pos 0)
has_not [] g e = refl
has_not (x ∷ es) g e = go (eqb x.place g) refl (λ f. has_not es g f)
  where
    go : (t : Bool) → eqb x.place g ≡ t → (has es g ≡ false → at es g ≡ of_int (pos 0)) → at (x ∷ es) g ≡ of_int (pos 0)
    go true f ih = absurd (true≢false (sym (ap (λ t. cond t true (has es g)) f) ∙ e))
    go false f ih = ap (λ t. cond t x.value (at es g)) f ∙ ih (sym (ap (λ t. cond t true (has es g)) f) ∙ e)

pub has_some : (es : List Entry) (g : ℕ) → NoZeros es → has es g ≡ true → is_zero (at es g) ≡ false
has_some [] g z e = absurd (true≢false (sym e))
has_some (x ∷ es) g z e = go (eqb x.place g) refl (λ f. has_some es g z.1 f)
  where
    go : (t : Bool) → eqb x.place g ≡ t → (has es g ≡ true → is_zero (at es g) ≡ false) → is_zero (at (x ∷ es) g) ≡ false
    go true f ih = ap (λ t. is_zero (cond t x.value (at es g))) f ∙ z.0
    go false f ih = ap (λ t. is_zero (cond t x.value (at es g))) f ∙ ih (sym (ap (λ t. cond t true (has es g)) f) ∙ e)

-- ---- a row changes
pub stands_other : (rows : List (List Fraction)) (h j g : ℕ) (row : List Fraction) → ¬ (j ≡ h) → stands_at (set rows h row) j g ≡ stands_at rows j g
stands_other rows h j g row n = ap (λ xs. not (is_zero (get xs g))) (get_or-set_other rows h j row [] n)

pub stands_here : (rows : List (List Fraction)) (h g : ℕ) (row : List Fraction) → h < length rows → stands_at (set rows h row) h g ≡ not (is_zero (get row g))
stands_here rows h g row l = ap (λ xs. not (is_zero (get xs g))) (get_or-set_same rows h row [] l)

pub noted_keeps : (p h m : ℕ) (rows : List (List Fraction)) (members : List (List ℕ)) (es : List Entry) (rest row : List Fraction) → h < length rows → length members ≡ m → length rest ≡ m →
    AreEntriesOf rest es → ((g : ℕ) → g < m → ¬ (g ≡ p) → get rest g ≡ of_int (pos 0) → get row g ≡ get (row_at rows h) g) →
    AreOthers p rows members → AreOthers p (set rows h row) (change_all es (noted h row) members)
noted_keeps p h m rows members es rest row l e f a same o g k n =
    let z : length (change_all es (noted h row) members) ≡ length members = change_length es (noted h row) members in
    let gm : g < length members = omega arith in
    let rl : Rising 0 (length rest) es = a.rising in
    change_at es (noted h row) members 0 (length rest) g rl (omega arith)
    ∙ go (has es g) refl gm
    ∙ ap (λ i. those i 0 (λ j. stands_at (set rows h row) j g)) (sym (length-set rows h row))
  where
    others : (j : ℕ) → ¬ (j ≡ h) → stands_at (set rows h row) j g ≡ stands_at rows j g
    others j q = stands_other rows h j g row q

    by : (t : Bool) → is_zero (get row g) ≡ t → g < length members → noted h row g (set_of members g) ≡ those (length rows) 0 (λ j. stands_at (set rows h row) j g)
    by true q gm = ap (λ t. cond t (without_row h (set_of members g)) (with_row h (set_of members g))) q
        ∙ ap (without_row h) (o g gm n)
        ∙ those_without (length rows) 0 h (λ j. stands_at rows j g) (λ j. stands_at (set rows h row) j g) (omega arith) (omega arith) (stands_here rows h g row l ∙ ap not q) others
    by false q gm = ap (λ t. cond t (without_row h (set_of members g)) (with_row h (set_of members g))) q
        ∙ ap (with_row h) (o g gm n)
        ∙ those_with (length rows) 0 h (λ j. stands_at rows j g) (λ j. stands_at (set rows h row) j g) (omega arith) (omega arith) (stands_here rows h g row l ∙ ap not q) others

    go : (t : Bool) → has es g ≡ t → g < length members → cond t (noted h row g (set_of members g)) (set_of members g) ≡ those (length rows) 0 (λ j. stands_at (set rows h row) j g)
    go true q gm = by (is_zero (get row g)) refl gm
    go false q gm =
        let gr : g < length rest = omega arith in
        let unchanged : get row g ≡ get (row_at rows h) g = same g (omega arith) n (get_at rest es g a gr ∙ has_not es g q) in
        o g gm n
        ∙ those_same (length rows) 0 (λ j. stands_at rows j g) (λ j. stands_at (set rows h row) j g)
        (λ j u v. ⊎_elim
        (λ (w : j ≡ h). ap (λ i. stands_at rows i g) w ∙ ap (λ x. not (is_zero x)) (sym unchanged) ∙ sym (stands_here rows h g row l) ∙ ap (λ i. stands_at (set rows h row) i g) (sym w))
        (λ (w : ¬ (j ≡ h)). sym (others j w))
        (cases_eq j h))
