-- One row more of those below a pivot.
use Rattle.std.proofs.Common.{◌≡◌, ℕ, zero, suc, ◌+◌, ◌<◌, ◌≤◌, List, [], ◌∷◌, ◌++◌, length, drop, set, replicate, get_or, refl, sym, ap, ◌∙◌, arith, cond, ⊎_elim, Result, Ok, Err}
use Rattle.std.specs.Prelude.{All}
use Rattle.std.proofs.lemmas.Bool.{cases_eq}
use Rattle.std.proofs.lemmas.List.{get_or-set_same, get_or-set_other, length-set, drop_more, drop_all, length-replicate, get_or-replicate}
use lib.IntN.{pos}
use Rattle.pami_algebra.specs.Fraction.{Fraction}
use Rattle.pami_algebra.specs.Operations.{of_int}
use Rattle.pami_frac.specs.Arithmetic.{div_outcome}
use Rattle.pami_frac.specs.declared.arithmetic.Refused.{Refused}
use Rattle.pami_frac.specs.declared.list.Entry.{Entry}
use Rattle.pami_linear.specs.Lists.{get}
use Rattle.pami_script.specs.Dense.{at, dense, Rising}
use Rattle.pami_script.specs.Script.{then, sub_product}
use Rattle.pami_script.proofs.Scripts.{then_ok}
use Rattle.pami_script.proofs.Members.{length_members, member_is}
use Rattle.pami_script.proofs.Skipped.{at_here, at_other, sub_zero_right, length_dense, get_dense}
use Rattle.pami_vec.specs.Scripts.{take_times_script}
use Rattle.pami_vec.proofs.Turned.{dense_is}
use Rattle.pami_factoring.specs.Factor.{row_at}
use Rattle.pami_lu.specs.Members.{Ascends}
use Rattle.pami_lu.specs.Plain.{plain_row, plain_rows}
use Rattle.pami_lu.proofs.Turns.{InTurn}

-- ---- the script
pub rows_step : (start : Result (List (List Fraction) × List Fraction) Refused) (below : List ℕ) (i h p : ℕ) (pivot : Fraction) (rest : List Fraction) (rows : List (List Fraction)) (ls row : List Fraction) (l : Fraction) →
    start ≡ plain_rows (drop i below) p pivot rest rows ls → drop i below ≡ h ∷ drop (i + 1) below → plain_row p pivot rest (row_at rows h) ≡ Ok (row, l) →
    start ≡ plain_rows (drop (i + 1) below) p pivot rest (set rows h row) (set ls h l)
rows_step start below i h p pivot rest rows ls row l s d e =
    s ∙ ap (λ hs. plain_rows hs p pivot rest rows ls) d
    ∙ ap (λ (r : Result (List Fraction × Fraction) Refused). then r (λ one. plain_rows (drop (i + 1) below) p pivot rest (set rows h one.0) (set ls h one.1))) e

pub rows_stop : (start : Result (List (List Fraction) × List Fraction) Refused) (below : List ℕ) (i h p : ℕ) (pivot : Fraction) (rest : List Fraction) (rows : List (List Fraction)) (ls : List Fraction) (r : Refused) →
    start ≡ plain_rows (drop i below) p pivot rest rows ls → drop i below ≡ h ∷ drop (i + 1) below → plain_row p pivot rest (row_at rows h) ≡ Err r → start ≡ Err r
rows_stop start below i h p pivot rest rows ls r s d e =
    s ∙ ap (λ hs. plain_rows hs p pivot rest rows ls) d
    ∙ ap (λ (r : Result (List Fraction × Fraction) Refused). then r (λ one. plain_rows (drop (i + 1) below) p pivot rest (set rows h one.0) (set ls h one.1))) e

pub rows_end : (start : Result (List (List Fraction) × List Fraction) Refused) (below : List ℕ) (i p : ℕ) (pivot : Fraction) (rest : List Fraction) (rows : List (List Fraction)) (ls vs : List Fraction) →
    start ≡ plain_rows (drop i below) p pivot rest rows ls → length below ≤ i → vs ≡ ls → start ≡ Ok (rows, vs)
rows_end start below i p pivot rest rows ls vs s l v = s ∙ ap (λ hs. plain_rows hs p pivot rest rows ls) (drop_all i below l) ∙ ap (λ z. Ok (rows, z)) (sym v)

pub head_left : (below : List ℕ) (i h : ℕ) → i < length below → h ≡ get_or below i h → drop i below ≡ h ∷ drop (i + 1) below
head_left below i h l q = drop_more below i h l ∙ ap (λ x. x ∷ drop (i + 1) below) (sym q)

-- ---- one row
pair_first : (xs ys : List Fraction) (a b : Fraction) → ◌≡◌ {A = Result (List Fraction × Fraction) Refused} (Ok (xs, a)) (Ok (ys, b)) → xs ≡ ys
pair_first xs ys a b e = ap (λ (r : List Fraction × Fraction). r.0) (inner (xs, a) (ys, b) e)
  where
    inner : (u v : List Fraction × Fraction) → ◌≡◌ {A = Result (List Fraction × Fraction) Refused} (Ok u) (Ok v) → u ≡ v
    inner u v e = cc

ok_same : (x y : Fraction) → ◌≡◌ {A = Result Fraction Refused} (Ok x) (Ok y) → x ≡ y
ok_same x y e = cc

pub row_parts : (p : ℕ) (pivot : Fraction) (rest old row : List Fraction) (l : Fraction) → plain_row p pivot rest old ≡ Ok (row, l) → (k : Fraction) × (take_times_script (set old p (of_int (pos 0))) k rest ≡ Ok row)
row_parts p pivot rest old row l e =
    let a = then_ok (div_outcome (get old p) pivot) (λ l. then (take_times_script (set old p (of_int (pos 0))) l rest) (λ zs. Ok (zs, l))) (row, l) e in
    let b = then_ok (take_times_script (set old p (of_int (pos 0))) a.0 rest) (λ zs. Ok (zs, a.0)) (row, l) a.1.1 in
    (a.0, b.1.0 ∙ ap Ok (pair_first b.0 row a.0 l b.1.1))

pub row_long : (p : ℕ) (pivot : Fraction) (rest old row : List Fraction) (l : Fraction) → plain_row p pivot rest old ≡ Ok (row, l) → length row ≡ length old
unfolding take_times_script
row_long p pivot rest old row l e =
    let a = row_parts p pivot rest old row l e in
    length_members (λ i x. sub_product x a.0 (get rest i)) 0 (set old p (of_int (pos 0))) row a.1 ∙ length-set old p (of_int (pos 0))

pub row_unchanged : (m p : ℕ) (pivot : Fraction) (rest old row : List Fraction) (l : Fraction) → length old ≡ m → plain_row p pivot rest old ≡ Ok (row, l) →
    (g : ℕ) → g < m → ¬ (g ≡ p) → get rest g ≡ of_int (pos 0) → get row g ≡ get old g
unfolding take_times_script
row_unchanged m p pivot rest old row l len e g lg n z =
    let a = row_parts p pivot rest old row l e in
    let lz = length-set old p (of_int (pos 0)) in
    let zero_plus : 0 + g ≡ g = omega arith in
    let step : sub_product (get (set old p (of_int (pos 0))) g) a.0 (get rest (0 + g)) ≡ Ok (get row g) =
    member_is (λ i x. sub_product x a.0 (get rest i)) 0 (set old p (of_int (pos 0))) row g (of_int (pos 0)) (of_int (pos 0)) a.1 (omega arith) in
    sym (ok_same (get (set old p (of_int (pos 0))) g) (get row g)
    (sym (sub_zero_right (get (set old p (of_int (pos 0))) g) a.0) ∙ ap (sub_product (get (set old p (of_int (pos 0))) g) a.0) (sym (ap (get rest) zero_plus ∙ z)) ∙ step))
    ∙ get_or-set_other old p g (of_int (pos 0)) (of_int (pos 0)) n

-- ---- the multipliers
at_snoc_here : (es : List Entry) (low high : ℕ) (e : Entry) → Rising low high es → high ≤ e.place → at (es ++ e ∷ []) e.place ≡ e.value
at_snoc_here [] low high e r h = at_here e [] e.place refl
at_snoc_here (x ∷ es) low high e r h = at_other x (es ++ e ∷ []) e.place (λ k. let a = r.1 in omega arith) ∙ at_snoc_here es (suc x.place) high e r.2 h

at_snoc_other : (es : List Entry) (e : Entry) (q : ℕ) → ¬ (e.place ≡ q) → at (es ++ e ∷ []) q ≡ at es q
at_snoc_other [] e q n = at_other e [] q n
at_snoc_other (x ∷ es) e q n = ap (cond (lib.Dec.eqb x.place q) x.value) (at_snoc_other es e q n)

pub rising_snoc : (es : List Entry) (low high : ℕ) (e : Entry) → Rising low high es → high ≤ e.place → Rising low (suc e.place) (es ++ e ∷ [])
rising_snoc [] low high e r h = (omega arith, omega arith, omega arith)
rising_snoc (x ∷ es) low high e r h = (r.0, (let a = r.1 in omega arith), rising_snoc es (suc x.place) high e r.2 h)

pub dense_snoc : (m low : ℕ) (es : List Entry) (e : Entry) → Rising 0 low es → low ≤ e.place → e.place < m → dense m (es ++ e ∷ []) ≡ set (dense m es) e.place e.value
dense_snoc m low es e r h l =
    let n = length_dense m es in
    dense_is m (set (dense m es) e.place e.value) (es ++ e ∷ []) (length-set (dense m es) e.place e.value ∙ length_dense m es)
    (λ q lq. ⊎_elim
    (λ (w : e.place ≡ q). ap (at (es ++ e ∷ [])) (sym w) ∙ at_snoc_here es 0 low e r h ∙ sym (get_or-set_same (dense m es) e.place e.value (of_int (pos 0)) (omega arith)) ∙ ap (get (set (dense m es) e.place e.value)) w)
    (λ (w : ¬ (e.place ≡ q)). at_snoc_other es e q w ∙ sym (get_dense m es q lq) ∙ sym (get_or-set_other (dense m es) e.place q e.value (of_int (pos 0)) (λ d. w (sym d))))
    (cases_eq e.place q))

pub dense_none : (m : ℕ) → dense m [] ≡ replicate m (of_int (pos 0))
dense_none m = dense_is m (replicate m (of_int (pos 0))) [] (length-replicate m (of_int (pos 0))) (λ q l. sym (get_or-replicate m q (of_int (pos 0)) (of_int (pos 0)) l))

-- ---- the turn
pub ascends_at : (ks : List ℕ) (low high i d : ℕ) → Ascends low high ks → i < length ks → (low ≤ get_or ks i d) × (get_or ks i d < high)
ascends_at [] low high i d a l = absurd (omega arith)
ascends_at (k ∷ ks) low high zero d a l = (a.0, a.1)
ascends_at (k ∷ ks) low high (suc i) d a l = let r = ascends_at ks (suc k) high i d a.2 (omega arith) in let x = r.0 in let y = a.0 in (omega arith, r.1)

pub rising_high : (es : List Entry) (low high higher : ℕ) → Rising low high es → high ≤ higher → Rising low higher es
rising_high [] low high higher r h = omega arith
rising_high (e ∷ es) low high higher r h = (r.0, (let a = r.1 in omega arith), rising_high es (suc e.place) high higher r.2 h)

pub turn_next : (m : ℕ) (rows : List (List Fraction)) (es : List Entry) (h : ℕ) (hs : List ℕ) (row : List Fraction) (v : Fraction) → InTurn m rows es (h ∷ hs) → InTurn m (set rows h row) (es ++ record { place = h; value = v } ∷ []) hs
turn_next m rows es h hs row v t = record {
  low = suc h;
  rising = rising_snoc es 0 t.low (record { place = h; value = v }) t.rising t.ascends.0;
  ascends = t.ascends.2;
  same = λ i d l.
      let a : suc h ≤ get_or hs i d = (ascends_at hs (suc h) m i d t.ascends.2 l).0 in
      ap length (get_or-set_other rows h (get_or hs i d) row [] (λ q. omega arith)) ∙ t.same (suc i) d (omega arith);
}

pub turn_rising : (m : ℕ) (rows : List (List Fraction)) (es : List Entry) (left : List ℕ) → InTurn m rows es left → Rising 0 m es
turn_rising m rows es [] t = rising_high es 0 t.low m t.rising t.ascends
turn_rising m rows es (h ∷ hs) t = rising_high es 0 t.low m t.rising (let a = t.ascends.0 in let b = t.ascends.1 in omega arith)

pub turn_head : (m : ℕ) (rows : List (List Fraction)) (es : List Entry) (h : ℕ) (hs : List ℕ) → InTurn m rows es (h ∷ hs) → length (row_at rows h) ≡ m
turn_head m rows es h hs t = t.same 0 0 (omega arith)

pub entries_low : (es : List Entry) (low high : ℕ) → Rising low high es → All (λ (e : Entry). e.place < high) es
entries_low [] low high r = λ k d l. absurd (omega arith)
entries_low (e ∷ es) low high r = all_more e es (λ (e : Entry). e.place < high) r.1 (entries_low es (suc e.place) high r.2)
  where
    all_more : (e : Entry) (es : List Entry) (P : Entry → Type 0) → P e → All P es → All P (e ∷ es)
    all_more e es P p a zero d l = p
    all_more e es P p a (suc k) d l = a k d (omega arith)
