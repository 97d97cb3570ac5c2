-- The step by entries alone is the script's, where nothing stands beside the active part.
use Rattle.std.proofs.Common.{◌≡◌, ℕ, suc, ◌+◌, ◌<◌, List, [], ◌∷◌, ◌++◌, length, set, replicate, refl, sym, ap, ◌∙◌, arith, append_assoc, Bool, true, false, cond, not, ⊎_elim, Result, Ok}
use Rattle.std.proofs.lemmas.Bool.{cases_eq, true≢false}
use Rattle.std.proofs.lemmas.List.{get_or-set_same, get_or-set_other, length-set}
use lib.IntN.{pos}
use Rattle.pami_algebra.specs.Fraction.{Fraction}
use Rattle.pami_algebra.specs.Operations.{of_int, is_zero}
use Rattle.pami_algebra.proofs.Tests.{is_zero_iff}
use Rattle.pami_frac.specs.Arithmetic.{div_outcome}
use Rattle.pami_frac.proofs.Outcomes.{zero_div_fits}
use Rattle.pami_frac.specs.declared.arithmetic.Refused.{Refused}
use Rattle.pami_linear.specs.Lists.{get}
use Rattle.pami_script.specs.Script.{then, sub_product, each_member}
use Rattle.pami_script.proofs.Scripts.{then_go, then_same, then_assoc, then_unit}
use Rattle.pami_script.proofs.Skipped.{sub_zero_left, sub_zero_right}
use Rattle.pami_vec.specs.Scripts.{take_times_script}
use Rattle.pami_factoring.specs.Factor.{flag, row_at}
use Rattle.pami_lu.specs.Clear.{sub_or_zero, clear_row, clear_reduce, clear_rows}
use Rattle.pami_lu.specs.Members.{those, stands_at}
use Rattle.pami_lu.specs.Plain.{plain_row, plain_rows}
use Rattle.pami_lu.proofs.Those.{those_yes, those_no}

-- ---- one row
one_is : (t : Bool) (x y x' y' l : Fraction) → (t ≡ true → (x' ≡ x) × (y' ≡ y)) → (t ≡ false → (x' ≡ of_int (pos 0)) × (y' ≡ of_int (pos 0))) → sub_or_zero t x l y ≡ sub_product x' l y'
one_is true x y x' y' l h k = let a = h refl in ap (λ z. sub_product z l y) (sym a.0) ∙ ap (sub_product x' l) (sym a.1)
one_is false x y x' y' l h k = let a = k refl in sym (ap (λ z. sub_product z l y') a.0 ∙ ap (sub_product (of_int (pos 0)) l) a.1 ∙ sub_zero_right (of_int (pos 0)) l)

row_is : (k : ℕ) (cs : List Bool) (xs xs' ys : List Fraction) (l : Fraction) (y' : ℕ → Fraction) → length cs ≡ length xs → length ys ≡ length xs → length xs' ≡ length xs →
    ((g : ℕ) → g < length xs → flag cs g ≡ true → (get xs' g ≡ get xs g) × (y' (k + g) ≡ get ys g)) →
    ((g : ℕ) → g < length xs → flag cs g ≡ false → (get xs' g ≡ of_int (pos 0)) × (y' (k + g) ≡ of_int (pos 0))) →
    clear_row cs xs l ys ≡ each_member (λ i x. sub_product x l (y' i)) k xs'
row_is k [] [] [] ys l y' a b c h n = refl
row_is k [] [] (x' ∷ xs') ys l y' a b c h n = absurd (omega arith)
row_is k [] (x ∷ xs) xs' ys l y' a b c h n = absurd (omega arith)
row_is k (t ∷ cs) [] xs' ys l y' a b c h n = absurd (omega arith)
row_is k (t ∷ cs) (x ∷ xs) [] ys l y' a b c h n = absurd (omega arith)
row_is k (t ∷ cs) (x ∷ xs) (x' ∷ xs') [] l y' a b c h n = absurd (omega arith)
row_is k (t ∷ cs) (x ∷ xs) (x' ∷ xs') (y ∷ ys) l y' a b c h n =
    let z : k + 0 ≡ k = omega arith in
    ap (λ r. then r (λ z. then (clear_row cs xs l ys) (λ zs. Ok (z ∷ zs))))
    (one_is t x y x' (y' k) l (λ e. let q = h 0 (omega arith) e in (q.0, ap y' (sym z) ∙ q.1)) (λ e. let q = n 0 (omega arith) e in (q.0, ap y' (sym z) ∙ q.1)))
    ∙ ap (λ r. then (sub_product x' l (y' k)) (λ z. then r (λ zs. Ok (z ∷ zs))))
    (row_is (suc k) cs xs xs' ys l y' (omega arith) (omega arith) (omega arith)
    (λ g j e. let q = h (suc g) (omega arith) e in let s : suc k + g ≡ k + suc g = omega arith in (q.0, ap y' s ∙ q.1))
    (λ g j e. let q = n (suc g) (omega arith) e in let s : suc k + g ≡ k + suc g = omega arith in (q.0, ap y' s ∙ q.1)))

-- a row with 0 wherever nothing is active
row_same : (cs : List Bool) (xs ys : List Fraction) → ((g : ℕ) → flag cs g ≡ false → get xs g ≡ of_int (pos 0)) → clear_row cs xs (of_int (pos 0)) ys ≡ Ok xs
row_same [] xs ys h = refl
row_same (t ∷ cs) [] ys h = refl
row_same (t ∷ cs) (x ∷ xs) [] h = refl
row_same (t ∷ cs) (x ∷ xs) (y ∷ ys) h =
    then_go (sub_or_zero t x (of_int (pos 0)) y) (λ z. then (clear_row cs xs (of_int (pos 0)) ys) (λ zs. Ok (z ∷ zs))) x (one t (h 0))
    ∙ then_go (clear_row cs xs (of_int (pos 0)) ys) (λ zs. Ok (x ∷ zs)) xs (row_same cs xs ys (λ g e. h (suc g) e))
  where
    one : (t : Bool) → (t ≡ false → x ≡ of_int (pos 0)) → sub_or_zero t x (of_int (pos 0)) y ≡ Ok x
    one true k = sub_zero_left x y
    one false k = ap Ok (sym (k refl))

-- ---- each row, where those with 0 at the pivot's place are left as they are
abbrev pub skip_row : ℕ → Fraction → List Fraction → List Fraction → Result (List Fraction × Fraction) Refused
skip_row p pivot rest row = cond (not (is_zero (get row p))) (plain_row p pivot rest row) (Ok (row, of_int (pos 0)))

abbrev pub skip_rows : ℕ → Fraction → List Fraction → List (List Fraction) → Result (List (List Fraction) × List Fraction) Refused
skip_rows p pivot rest [] = Ok ([], [])
skip_rows p pivot rest (row ∷ rows) = then (skip_row p pivot rest row) (λ one. then (skip_rows p pivot rest rows) (λ r. Ok (one.0 ∷ r.0, one.1 ∷ r.1)))

zero_yes : (x : Fraction) → x ≡ of_int (pos 0) → is_zero x ≡ true
zero_yes x e = (is_zero_iff x).1 e

-- a row fits: empty where it isn't active, and else as long as it should be, with 0 wherever nothing was active
pub record Fits (m p : ℕ) (t : Bool) (cs : List Bool) (row : List Fraction) : Type 0 where
  pub none : t ≡ false → row ≡ []
  pub long : t ≡ true → length row ≡ m
  pub zeros : (g : ℕ) → ¬ (g ≡ p) → flag cs g ≡ false → get row g ≡ of_int (pos 0)

skip_is : (m p : ℕ) (t : Bool) (cs : List Bool) (row kept : List Fraction) → Fits m p t cs row → length cs ≡ m → length kept ≡ m → p < m → flag cs p ≡ false →
    ((g : ℕ) → ¬ (g ≡ p) → flag cs g ≡ false → get kept g ≡ of_int (pos 0)) →
    clear_reduce t cs p row kept ≡ skip_row p (get kept p) (set kept p (of_int (pos 0))) row
unfolding take_times_script
skip_is m p false cs row kept f c k l out zk =
    let e = f.none refl in
    sym (ap (λ xs. cond (not (is_zero (get xs p))) (plain_row p (get kept p) (set kept p (of_int (pos 0))) xs) (Ok (xs, of_int (pos 0)))) e
    ∙ ap (λ b. cond (not b) (plain_row p (get kept p) (set kept p (of_int (pos 0))) []) (Ok ([], of_int (pos 0)))) (zero_yes (of_int (pos 0)) refl))
skip_is m p true cs row kept f c k l out zk = go (is_zero (get row p)) refl
  where
    flags : (g : ℕ) → flag cs g ≡ false → is_zero (get row p) ≡ true → get row g ≡ of_int (pos 0)
    flags g e z = ⊎_elim (λ (q : g ≡ p). ap (get row) q ∙ (is_zero_iff (get row p)).0 z) (λ (q : ¬ (g ≡ p)). f.zeros g q e) (cases_eq g p)

    go : (b : Bool) → is_zero (get row p) ≡ b → clear_reduce true cs p row kept ≡ skip_row p (get kept p) (set kept p (of_int (pos 0))) row
    go true z =
        ap (λ r. then {B = List Fraction × Fraction} r (λ l. then (clear_row cs row l kept) (λ zs. Ok (zs, l)))) (ap (λ x. div_outcome x (get kept p)) ((is_zero_iff (get row p)).0 z) ∙ zero_div_fits (get kept p))
        ∙ ap (λ r. then {B = List Fraction × Fraction} r (λ zs. Ok (zs, of_int (pos 0)))) (row_same cs row kept (λ g e. flags g e z))
        ∙ sym (ap (λ b. cond (not b) (plain_row p (get kept p) (set kept p (of_int (pos 0))) row) (Ok (row, of_int (pos 0)))) z)
    go false z =
        let lr : length row ≡ m = f.long refl in
        then_same (div_outcome (get row p) (get kept p)) (λ q. then (clear_row cs row q kept) (λ zs. Ok (zs, q))) (λ q. then (take_times_script (set row p (of_int (pos 0))) q (set kept p (of_int (pos 0)))) (λ zs. Ok (zs, q)))
        (λ q. ap (λ r. then {B = List Fraction × Fraction} r (λ zs. Ok (zs, q)))
        (row_is 0 cs row (set row p (of_int (pos 0))) kept q (get (set kept p (of_int (pos 0)))) (omega arith) (omega arith) (length-set row p (of_int (pos 0)))
        (λ g j e.
        let z0 : 0 + g ≡ g = omega arith in
        let ne : ¬ (g ≡ p) = λ w. true≢false (sym e ∙ ap (flag cs) w ∙ out) in
        (get_or-set_other row p g (of_int (pos 0)) (of_int (pos 0)) ne, ap (get (set kept p (of_int (pos 0)))) z0 ∙ get_or-set_other kept p g (of_int (pos 0)) (of_int (pos 0)) ne))
        (λ g j e.
        let z0 : 0 + g ≡ g = omega arith in
        ⊎_elim
        (λ (w : g ≡ p). (
          ap (get (set row p (of_int (pos 0)))) w ∙ get_or-set_same row p (of_int (pos 0)) (of_int (pos 0)) (omega arith),
          ap (get (set kept p (of_int (pos 0)))) (z0 ∙ w) ∙ get_or-set_same kept p (of_int (pos 0)) (of_int (pos 0)) (omega arith),
        ))
        (λ (w : ¬ (g ≡ p)). (get_or-set_other row p g (of_int (pos 0)) (of_int (pos 0)) w ∙ f.zeros g w e, ap (get (set kept p (of_int (pos 0)))) z0 ∙ get_or-set_other kept p g (of_int (pos 0)) (of_int (pos 0)) w ∙ zk g w e))
        (cases_eq g p))))
        ∙ sym (ap (λ b. cond (not b) (plain_row p (get kept p) (set kept p (of_int (pos 0))) row) (Ok (row, of_int (pos 0)))) z)

pub skips_are : (m p : ℕ) (ts cs : List Bool) (rows : List (List Fraction)) (kept : List Fraction) → length ts ≡ length rows → ((h : ℕ) → h < length rows → Fits m p (flag ts h) cs (row_at rows h)) →
    length cs ≡ m → length kept ≡ m → p < m → flag cs p ≡ false → ((g : ℕ) → ¬ (g ≡ p) → flag cs g ≡ false → get kept g ≡ of_int (pos 0)) →
    clear_rows ts cs p rows kept ≡ skip_rows p (get kept p) (set kept p (of_int (pos 0))) rows
skips_are m p [] cs [] kept e f c k l out zk = refl
skips_are m p [] cs (row ∷ rows) kept e f c k l out zk = absurd (omega arith)
skips_are m p (t ∷ ts) cs [] kept e f c k l out zk = absurd (omega arith)
skips_are m p (t ∷ ts) cs (row ∷ rows) kept e f c k l out zk =
    ap (λ r. then r (λ one. then (clear_rows ts cs p rows kept) (λ rest. Ok (one.0 ∷ rest.0, one.1 ∷ rest.1)))) (skip_is m p t cs row kept (f 0 (omega arith)) c k l out zk)
    ∙ ap (λ s. then (skip_row p (get kept p) (set kept p (of_int (pos 0))) row) (λ one. then s (λ rest. Ok (one.0 ∷ rest.0, one.1 ∷ rest.1))))
    (skips_are m p ts cs rows kept (omega arith) (λ h j. f (suc h) (omega arith)) c k l out zk)

-- ---- those with an entry at the place, in turn
abbrev pub behind : List (List Fraction) → List Fraction → List (List Fraction) × List Fraction → Result (List (List Fraction) × List Fraction) Refused
behind done ls r = Ok (done ++ r.0, ls ++ r.1)

row_middle : (done : List (List Fraction)) (row : List Fraction) (rows : List (List Fraction)) → row_at (done ++ row ∷ rows) (length done) ≡ row
row_middle [] row rows = refl
row_middle (d ∷ done) row rows = row_middle done row rows

set_middle : {A : Type 0} (done : List A) (x y : A) (xs : List A) → set (done ++ x ∷ xs) (length done) y ≡ done ++ y ∷ xs
set_middle [] x y xs = refl
set_middle (d ∷ done) x y xs = ap (λ z. d ∷ z) (set_middle done x y xs)

one_after : {A : Type 0} (done : List A) (x : A) (xs : List A) → done ++ x ∷ xs ≡ (done ++ x ∷ []) ++ xs
one_after done x xs = sym (append_assoc done (x ∷ []) xs)

length_more : {A : Type 0} (done : List A) (x : A) → length (done ++ x ∷ []) ≡ suc (length done)
length_more [] x = refl
length_more (d ∷ done) x = ap suc (length_more done x)

turn_on : (p : ℕ) (pivot : Fraction) (rest : List Fraction) (rows done : List (List Fraction)) (ls : List Fraction) (b : ℕ → Bool) (x : List Fraction) (l : Fraction) →
    plain_rows (those (length rows) (length (done ++ x ∷ [])) b) p pivot rest ((done ++ x ∷ []) ++ rows) ((ls ++ l ∷ []) ++ replicate (length rows) (of_int (pos 0))) ≡ then (skip_rows p pivot rest rows) (behind (done ++ x ∷ []) (ls ++ l ∷ [])) →
    plain_rows (those (length rows) (suc (length done)) b) p pivot rest (done ++ x ∷ rows) (ls ++ l ∷ replicate (length rows) (of_int (pos 0))) ≡ then (skip_rows p pivot rest rows) (λ r. Ok (done ++ x ∷ r.0, ls ++ l ∷ r.1))
turn_on p pivot rest rows done ls b x l ih =
    let zs : List Fraction = replicate (length rows) (of_int (pos 0)) in
    ap (λ k. plain_rows (those (length rows) k b) p pivot rest (done ++ x ∷ rows) (ls ++ l ∷ zs)) (sym (length_more done x))
    ∙ ap (λ rs. plain_rows (those (length rows) (length (done ++ x ∷ [])) b) p pivot rest rs (ls ++ l ∷ zs)) (one_after done x rows)
    ∙ ap (plain_rows (those (length rows) (length (done ++ x ∷ [])) b) p pivot rest ((done ++ x ∷ []) ++ rows)) (one_after ls l zs)
    ∙ ih
    ∙ then_same (skip_rows p pivot rest rows) (behind (done ++ x ∷ []) (ls ++ l ∷ [])) (λ r. Ok (done ++ x ∷ r.0, ls ++ l ∷ r.1))
    (λ r. ap (λ u. Ok (u, (ls ++ l ∷ []) ++ r.1)) (sym (one_after done x r.0)) ∙ ap (λ u. Ok (done ++ x ∷ r.0, u)) (sym (one_after ls l r.1)))

abbrev pub Turned : ℕ → Fraction → List Fraction → List (List Fraction) → List (List Fraction) → List Fraction → (ℕ → Bool) → List Fraction → Fraction → Type 0
Turned p pivot rest rows done ls b x l =
    plain_rows (those (length rows) (suc (length done)) b) p pivot rest (done ++ x ∷ rows) (ls ++ l ∷ replicate (length rows) (of_int (pos 0))) ≡ then (skip_rows p pivot rest rows) (λ r. Ok (done ++ x ∷ r.0, ls ++ l ∷ r.1))

turn_by : (t : Bool) (p : ℕ) (pivot : Fraction) (rest row : List Fraction) (rows done : List (List Fraction)) (ls : List Fraction) (b : ℕ → Bool) → length ls ≡ length done → b (length done) ≡ t → not (is_zero (get row p)) ≡ t →
    ((x : List Fraction) (l : Fraction) → Turned p pivot rest rows done ls b x l) →
    plain_rows (those (suc (length rows)) (length done) b) p pivot rest (done ++ row ∷ rows) (ls ++ of_int (pos 0) ∷ replicate (length rows) (of_int (pos 0))) ≡ then (skip_rows p pivot rest (row ∷ rows)) (behind done ls)
turn_by false p pivot rest row rows done ls b e f g ih =
    let zs : List Fraction = replicate (length rows) (of_int (pos 0)) in
    ap (λ hs. plain_rows hs p pivot rest (done ++ row ∷ rows) (ls ++ of_int (pos 0) ∷ zs)) (those_no (length rows) (length done) b f)
    ∙ ih row (of_int (pos 0))
    ∙ sym (ap (λ t. then (then (cond t (plain_row p pivot rest row) (Ok (row, of_int (pos 0)))) (λ one. then (skip_rows p pivot rest rows) (λ r. Ok (one.0 ∷ r.0, one.1 ∷ r.1)))) (behind done ls)) g
    ∙ then_assoc (skip_rows p pivot rest rows) (λ r. Ok (row ∷ r.0, of_int (pos 0) ∷ r.1)) (behind done ls))
turn_by true p pivot rest row rows done ls b e f g ih =
    let zs : List Fraction = replicate (length rows) (of_int (pos 0)) in
    let k = length done in
    ap (λ hs. plain_rows hs p pivot rest (done ++ row ∷ rows) (ls ++ of_int (pos 0) ∷ zs)) (those_yes (length rows) (length done) b f)
    ∙ ap (λ xs. then (plain_row p pivot rest xs) (λ one. plain_rows (those (length rows) (suc k) b) p pivot rest (set (done ++ row ∷ rows) k one.0) (set (ls ++ of_int (pos 0) ∷ zs) k one.1))) (row_middle done row rows)
    ∙ then_same (plain_row p pivot rest row) (λ one. plain_rows (those (length rows) (suc k) b) p pivot rest (set (done ++ row ∷ rows) k one.0) (set (ls ++ of_int (pos 0) ∷ zs) k one.1))
    (λ one. then (skip_rows p pivot rest rows) (λ r. Ok (done ++ one.0 ∷ r.0, ls ++ one.1 ∷ r.1)))
    (λ one. ap (λ u. plain_rows (those (length rows) (suc k) b) p pivot rest u (set (ls ++ of_int (pos 0) ∷ zs) k one.1)) (set_middle done row one.0 rows)
    ∙ ap (plain_rows (those (length rows) (suc k) b) p pivot rest (done ++ one.0 ∷ rows)) (ap (λ n. set (ls ++ of_int (pos 0) ∷ zs) n one.1) (sym e) ∙ set_middle ls (of_int (pos 0)) one.1 zs)
    ∙ ih one.0 one.1)
    ∙ sym (ap (λ t. then (then (cond t (plain_row p pivot rest row) (Ok (row, of_int (pos 0)))) (λ one. then (skip_rows p pivot rest rows) (λ r. Ok (one.0 ∷ r.0, one.1 ∷ r.1)))) (behind done ls)) g
    ∙ then_assoc (plain_row p pivot rest row) (λ one. then (skip_rows p pivot rest rows) (λ r. Ok (one.0 ∷ r.0, one.1 ∷ r.1))) (behind done ls)
    ∙ then_same (plain_row p pivot rest row) (λ one. then (then (skip_rows p pivot rest rows) (λ r. Ok (one.0 ∷ r.0, one.1 ∷ r.1))) (behind done ls)) (λ one. then (skip_rows p pivot rest rows) (λ r. Ok (done ++ one.0 ∷ r.0, ls ++ one.1 ∷ r.1)))
    (λ one. then_assoc (skip_rows p pivot rest rows) (λ r. Ok (one.0 ∷ r.0, one.1 ∷ r.1)) (behind done ls)))

pub turns_are : (p : ℕ) (pivot : Fraction) (rest : List Fraction) (rows done : List (List Fraction)) (ls : List Fraction) (b : ℕ → Bool) → length ls ≡ length done →
    ((j : ℕ) → j < length rows → b (length done + j) ≡ stands_at rows j p) →
    plain_rows (those (length rows) (length done) b) p pivot rest (done ++ rows) (ls ++ replicate (length rows) (of_int (pos 0))) ≡ then (skip_rows p pivot rest rows) (behind done ls)
turns_are p pivot rest [] done ls b e h = refl
turns_are p pivot rest (row ∷ rows) done ls b e h =
    let z0 : length done + 0 ≡ length done = omega arith in
    turn_by (not (is_zero (get row p))) p pivot rest row rows done ls b e (ap b (sym z0) ∙ h 0 (omega arith)) refl
    (λ x l. turn_on p pivot rest rows done ls b x l
    (turns_are p pivot rest rows (done ++ x ∷ []) (ls ++ l ∷ []) b (length_more ls l ∙ ap suc e ∙ sym (length_more done x))
    (λ j k. let s : suc (length done) + j ≡ length done + suc j = omega arith in ap (λ n. b (n + j)) (length_more done x) ∙ ap b s ∙ h (suc j) (omega arith))))

-- the whole step
pub whole_turn : (p : ℕ) (pivot : Fraction) (rest : List Fraction) (rows : List (List Fraction)) → plain_rows (those (length rows) 0 (λ h. stands_at rows h p)) p pivot rest rows (replicate (length rows) (of_int (pos 0))) ≡ skip_rows p pivot rest rows
whole_turn p pivot rest rows =
    turns_are p pivot rest rows [] [] (λ h. stands_at rows h p) refl (λ j l. let z : 0 + j ≡ j = omega arith in ap (λ n. stands_at rows n p) z)
    ∙ then_unit (skip_rows p pivot rest rows)
