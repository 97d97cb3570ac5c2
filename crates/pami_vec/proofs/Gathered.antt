-- The entries of each row of a matrix, put down column by column.
use Rattle.std.proofs.Common.{◌≡◌, ℕ, zero, suc, ◌+◌, ◌<◌, ◌≤◌, List, [], ◌∷◌, ◌++◌, length, map, set, drop, get_or, replicate, refl, sym, ap, ◌∙◌, subst, arith, append-nil, cond, Result, Ok, ⊎_elim}
use Rattle.std.specs.Prelude.{All, slice_index_or}
use Rattle.std.proofs.lemmas.Bool.{cases_eq}
use Rattle.std.proofs.lemmas.List.{get_or-set_same, get_or-set_other, get_or-replicate, get_or-map, get_or_default, drop_all, length-set, length-map, length-replicate}
use lib.IntN.{pos}
use Rattle.pami_algebra.specs.Fraction.{Fraction}
use Rattle.pami_algebra.specs.Operations.{of_int, is_zero}
use Rattle.pami_algebra.proofs.Tests.{is_zero_iff}
use Rattle.pami_frac.specs.declared.arithmetic.Refused.{Refused}
use Rattle.pami_frac.specs.declared.list.Entry.{Entry}
use Rattle.pami_linear.specs.Lists.{get}
use Rattle.pami_script.specs.Dense.{at, dense, Rising}
use Rattle.pami_script.proofs.Skipped.{at_here, at_other, at_below}
use Rattle.pami_factoring.specs.Factor.{columns_at, row_of, rows_from}
use Rattle.pami_vec.specs.Entries.{NoZeros, AreEntriesOf}
use Rattle.pami_vec.specs.Reads.{with_entry}
use Rattle.pami_vec.proofs.Built.{Building, placed, from_index}
use Rattle.pami_vec.proofs.Scripted.{get_at}
use Rattle.pami_vec.specs.Gathered.{entries_at, AddsColumn, AreGathered}
use Rattle.pami_vec.proofs.Turned.{dense_is}

-- ---- one column
-- an entry of the column at this place goes to the end of its row
abbrev pub moved : ℕ → Entry → Entry
moved place e = record { place = place; value = e.value }

-- the entries of a column in turn, each at the end of its row
abbrev pub spread : ℕ → List Entry → List (List Entry) → List (List Entry)
spread place [] lists = lists
spread place (e ∷ es) lists = spread place es (set lists e.place (entries_at lists e.place ++ moved place e ∷ []))

pub spread_step : (place : ℕ) (es : List Entry) (i : ℕ) (e : Entry) (start lists : List (List Entry)) (old new : List Entry) → start ≡ spread place (drop i es) lists → i < length es → e ≡ get_or es i e →
    e.place < length lists → old ≡ get_or lists e.place old → new ≡ old ++ moved place e ∷ [] → start ≡ spread place (drop (i + 1) es) (set lists e.place new)
spread_step place es i e start lists old new s l q b o n =
    s ∙ ap (λ z. spread place z lists) (from_index es i e l q)
    ∙ ap (λ y. spread place (drop (i + 1) es) (set lists e.place y)) (ap (λ z. z ++ moved place e ∷ []) (get_or_default lists e.place [] old b ∙ sym o) ∙ sym n)

pub spread_length : (place : ℕ) (es : List Entry) (lists : List (List Entry)) → length (spread place es lists) ≡ length lists
spread_length place [] lists = refl
spread_length place (e ∷ es) lists =
    spread_length place es (set lists e.place (entries_at lists e.place ++ moved place e ∷ [])) ∙ length-set lists e.place (entries_at lists e.place ++ moved place e ∷ [])

spread_at : (place : ℕ) (es : List Entry) (low high h : ℕ) (lists : List (List Entry)) → Rising low high es → NoZeros es → high ≤ length lists → entries_at (spread place es lists) h ≡ with_entry (entries_at lists h) place (at es h)
spread_at place [] low high h lists r z l = sym (ap (λ t. cond t (entries_at lists h) (entries_at lists h ++ record { place = place; value = of_int (pos 0) } ∷ [])) ((is_zero_iff (of_int (pos 0))).1 refl))
spread_at place (e ∷ es) low high h lists r z l =
    let x = entries_at lists e.place ++ moved place e ∷ [] in
    let next = set lists e.place x in
    let b : e.place < high = r.1 in
    let k : high ≤ length next = let s = length-set lists e.place x in omega arith in
    spread_at place es (suc e.place) high h next r.2 z.1 k
    ∙ ⊎_elim
    (λ (q : e.place ≡ h).
    ap (with_entry (entries_at next h) place) (at_below es (suc e.place) high h r.2 (omega arith))
    ∙ ap (λ t. cond t (entries_at next h) (entries_at next h ++ record { place = place; value = of_int (pos 0) } ∷ [])) ((is_zero_iff (of_int (pos 0))).1 refl)
    ∙ ap (entries_at next) (sym q) ∙ get_or-set_same lists e.place x [] (omega arith)
    ∙ ap (λ j. entries_at lists j ++ moved place e ∷ []) q
    ∙ sym (ap (with_entry (entries_at lists h) place) (at_here e es h q) ∙ ap (λ t. cond t (entries_at lists h) (entries_at lists h ++ moved place e ∷ [])) z.0))
    (λ (q : ¬ (e.place ≡ h)).
    ap (λ ys. with_entry ys place (at es h)) (get_or-set_other lists e.place h x [] (λ d. q (sym d)))
    ∙ ap (with_entry (entries_at lists h) place) (sym (at_other e es h q)))
    (cases_eq e.place h)

pub spread_adds : (place : ℕ) (column : List Fraction) (es : List Entry) (i : ℕ) (old new : List (List Entry)) → AreEntriesOf column es → length column ≡ length old → length es ≤ i → spread place es old ≡ spread place (drop i es) new → AddsColumn place column old new
spread_adds place column es i old new a n l s =
    let same : new ≡ spread place es old = sym (s ∙ ap (λ z. spread place z new) (drop_all i es l)) in
    record {
      as_many = ap length same ∙ spread_length place es old;
      each = λ h m.
          ap (λ z. entries_at z h) same ∙ spread_at place es 0 (length column) h old a.rising a.nonzero (omega arith)
          ∙ ap (with_entry (entries_at old h) place) (sym (get_at column es h a (omega arith)));
    }

-- ---- all columns
pub gathered_start : (columns : List (List Fraction)) (m : ℕ) (lists : List (List Entry)) → lists ≡ replicate m [] → AreGathered columns m 0 lists
gathered_start columns m lists e =
    let none : (h : ℕ) → h < m → entries_at lists h ≡ [] = λ h l. ap (λ z. entries_at z h) e ∙ get_or-replicate m h [] [] l in
    record {
      as_many = ap length e ∙ length-replicate m [];
      rising = λ h l. subst (λ (es : List Entry). Rising 0 0 es) (sym (none h l)) (omega arith);
      nonzero = λ h l. subst NoZeros (sym (none h l)) tt;
      values = λ h g l q. absurd (omega arith);
    }

ok_same : (x y : Fraction) → ◌≡◌ {A = Result Fraction Refused} (Ok x) (Ok y) → x ≡ y
ok_same x y h = cc

pub gathered_next : (columns : List (List Fraction)) (m n : ℕ) (column : List Fraction) (old new : List (List Entry)) → AreGathered columns m n old → AddsColumn n column old new → column ≡ slice_index_or columns n [] → AreGathered columns m (n + 1) new
gathered_next columns m n column old new g a e =
    let count : length old ≡ m = g.as_many in
    let next : suc n ≡ n + 1 = omega arith in
    let member : (h q : ℕ) → Result Fraction Refused = λ h q. Ok (get (slice_index_or columns q []) h) in
    let before : (h : ℕ) → h < m → Building (member h) (entries_at old h) n =
    λ h l. record { done = λ q k. ap Ok (sym (g.values h q l k)); rising = g.rising h l; nonzero = g.nonzero h l } in
    let now : (h : ℕ) → h < m → Building (member h) (with_entry (entries_at old h) n (get column h)) (suc n) =
    λ h l. placed (member h) (entries_at old h) n n (get column h) (before h l) (omega arith) (λ q i j. absurd (omega arith)) (ap (λ c. Ok (get c h)) (sym e)) in
    let after : (h : ℕ) → h < m → Building (member h) (entries_at new h) (n + 1) =
    λ h l. subst (λ i. Building (member h) (entries_at new h) i) next (subst (λ (es : List Entry). Building (member h) es (suc n)) (sym (a.each h (omega arith))) (now h l)) in
    record {
      as_many = a.as_many ∙ count;
      rising = λ h l. (after h l).rising;
      nonzero = λ h l. (after h l).nonzero;
      values = λ h q l k. sym (ok_same (get (slice_index_or columns q []) h) (at (entries_at new h) q) ((after h l).done q k));
    }

-- a column that the head names
pub named_column : (columns : List (List Fraction)) (head : List ℕ) (place d : ℕ) (column : List Fraction) → place < length head → get_or head place d < length columns → column ≡ get_or columns (get_or head place d) column →
    column ≡ slice_index_or (columns_at columns head) place []
named_column columns head place d column l h e =
    e ∙ get_or_default columns (get_or head place d) column [] h ∙ sym (get_or-map (λ k. slice_index_or columns k []) head place d [] l)

-- ---- the rows
row_is : (columns : List (List Fraction)) (m n h : ℕ) (lists : List (List Entry)) → AreGathered columns m n lists → length columns ≡ n → h < m → dense n (entries_at lists h) ≡ row_of columns h
row_is columns m n h lists g e l =
    dense_is n (row_of columns h) (entries_at lists h) (length-map columns (λ c. get c h) ∙ e)
    (λ q k. g.values h q l k ∙ sym (get_or-map (λ c. get c h) columns q [] (of_int (pos 0)) (omega arith)))

rows_are : (n k m : ℕ) (columns : List (List Fraction)) (lists : List (List Entry)) → length lists ≡ n → ((q : ℕ) → q < n → dense m (entries_at lists q) ≡ row_of columns (k + q)) → map (dense m) lists ≡ rows_from n k columns
rows_are zero k m columns [] e h = refl
rows_are zero k m columns (es ∷ lists) e h = absurd (omega arith)
rows_are (suc n) k m columns [] e h = absurd (omega arith)
rows_are (suc n) k m columns (es ∷ lists) e h =
    let z : k + 0 ≡ k = omega arith in
    ap (λ r. r ∷ map (dense m) lists) (h 0 (omega arith) ∙ ap (row_of columns) z)
    ∙ ap (λ rs. row_of columns k ∷ rs) (rows_are n (suc k) m columns lists (omega arith) (λ q l. let s : k + suc q ≡ suc k + q = omega arith in h (suc q) (omega arith) ∙ ap (row_of columns) s))

pub rows_end : (columns : List (List Fraction)) (m n i : ℕ) (lists : List (List Entry)) (out : List (List Fraction)) → AreGathered columns m n lists → length columns ≡ n → length lists ≤ i →
    map (dense n) lists ≡ out ++ map (dense n) (drop i lists) → out ≡ rows_from m 0 columns
rows_end columns m n i lists out g c l e =
    sym (e ∙ ap (λ z. out ++ map (dense n) z) (drop_all i lists l) ∙ append-nil out)
    ∙ rows_are m 0 n columns lists g.as_many
    (λ q k. let z : q ≡ 0 + q = omega arith in row_is columns m n q lists g c k ∙ ap (row_of columns) z)

-- a list that is read rises
pub row_rises : (columns : List (List Fraction)) (m n i : ℕ) (lists : List (List Entry)) (es : List Entry) → AreGathered columns m n lists → i < length lists → es ≡ get_or lists i es → Rising 0 n es
row_rises columns m n i lists es g l e =
    let count : length lists ≡ m = g.as_many in
    subst (λ (ys : List Entry). Rising 0 n ys) (get_or_default lists i [] es l ∙ sym e) (g.rising i (omega arith))
