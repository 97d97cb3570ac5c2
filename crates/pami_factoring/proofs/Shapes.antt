-- The lengths of the rows along the script.
use Rattle.std.proofs.Common.{◌≡◌, ℕ, zero, suc, ◌<◌, List, [], ◌∷◌, length, get_or, set, refl, sym, ap, ◌∙◌, subst, arith, Bool, true, false, cond, Some, Result, Ok, Err, slice_index_or}
use Rattle.std.proofs.lemmas.Bool.{true≢false}
use Rattle.std.proofs.lemmas.List.{get_or-set_same, get_or-set_other, length-set}
use lib.Dec.{T, eqb, eqb→eq, eqb_refl}
use Rattle.pami_algebra.specs.Fraction.{Fraction}
use Rattle.pami_frac.specs.Arithmetic.{div_outcome}
use Rattle.pami_frac.specs.Signs.{is_zero}
use Rattle.pami_frac.specs.declared.arithmetic.Refused.{Refused}
use Rattle.pami_linear.specs.Lists.{get}
use Rattle.pami_script.specs.Script.{then}
use Rattle.pami_linear.specs.Pivoting.{Pivot, pivot}
use Rattle.pami_factoring.specs.declared.kept.Kept.{Kept}
use Rattle.pami_linear.specs.Active.{but}
use Rattle.pami_factoring.specs.Factor.{sub_if, sub_row, reduce_row, reduce_rows, flag, entry, step_at}
use Rattle.pami_linear.proofs.Pivots.{pivot_some}
use Rattle.pami_frac.proofs.Outcomes.{not_zero_by_test}

-- ---- what each answer that isn't refused has
abbrev pub Each : {A : Type 0} → (A → Type 0) → Result A Refused → Type 0
Each P (Ok x) = P x
Each P (Err e) = Unit {0}

pub each_ok : {A : Type 0} (P : A → Type 0) (r : Result A Refused) (x : A) → Each P r → r ≡ Ok x → P x
each_ok P r x h e = subst (Each P) e h

pub each_then : {A B : Type 0} (P : A → Type 0) (Q : B → Type 0) (r : Result A Refused) (f : A → Result B Refused) → Each P r → ((x : A) → P x → Each Q (f x)) → Each Q (then r f)
each_then P Q (Ok x) f h g = g x h
each_then P Q (Err e) f h g = tt

any : {A : Type 0} (r : Result A Refused) → Each (λ (x : A). Unit {0}) r
any (Ok x) = tt
any (Err e) = tt

pub row_length : (ts : List Bool) (xs : List Fraction) (l : Fraction) (ys : List Fraction) → Each (λ (zs : List Fraction). length zs ≡ length xs) (sub_row ts xs l ys)
row_length [] xs l ys = refl
row_length (t ∷ ts) [] l ys = refl
row_length (t ∷ ts) (x ∷ xs) l [] = refl
row_length (t ∷ ts) (x ∷ xs) l (y ∷ ys) =
    each_then (λ (z : Fraction). Unit {0}) (λ (zs : List Fraction). length zs ≡ suc (length xs)) (sub_if t x l y) (λ z. then (sub_row ts xs l ys) (λ zs. Ok (z ∷ zs))) (any (sub_if t x l y))
    (λ z u. each_then (λ (zs : List Fraction). length zs ≡ length xs) (λ (zs : List Fraction). length zs ≡ suc (length xs)) (sub_row ts xs l ys) (λ zs. Ok (z ∷ zs)) (row_length ts xs l ys)
    (λ zs h. ap suc h))

-- ---- one pivot
pub record Shape (m : ℕ) (ts cs : List Bool) (rows : List (List Fraction)) : Type 0 where
  pub tall : length rows ≡ m
  pub down : length ts ≡ m
  pub across : length cs ≡ m
  pub same : (h : ℕ) → h < m → flag ts h ≡ true → length (slice_index_or rows h []) ≡ m

pub flag_but : (ts : List Bool) (i h : ℕ) → i < length ts → flag (set ts i false) h ≡ but i (flag ts) h
flag_but ts i h l = go (eqb i h) (eqb→eq i h) (λ (e : i ≡ h). subst (λ n. T (eqb i n)) e (eqb_refl i))
  where
    go : (t : Bool) → (T t → i ≡ h) → (i ≡ h → T t) → flag (set ts i false) h ≡ cond t false (flag ts h)
    go true to back = ap (λ n. get_or (set ts i false) n false) (sym (to tt)) ∙ get_or-set_same ts i false false l
    go false to back = get_or-set_other ts i h false false (λ (e : h ≡ i). back (sym e))

pub record Pivoted (m : ℕ) (r c : ℕ → Bool) (w : ℕ → ℕ → Fraction) (i p : ℕ) : Type 0 where
  pub row_low : i < m
  pub place_low : p < m
  pub row_in : r i ≡ true
  pub place_in : c p ≡ true
  pub nonzero : is_zero (w i p) ≡ false

pub true_of : (t : Bool) → T t → t ≡ true
true_of true h = refl
true_of false h = absurd h

pub pivoted : (m : ℕ) (r c : ℕ → Bool) (w : ℕ → ℕ → Fraction) (q : Pivot) → Some q ≡ pivot m r c w → Pivoted m r c w q.row q.place
pivoted m r c w q e =
    let k = pivot_some m r c w q (sym e) in
    record {
      row_low = k.row_low;
      place_low = k.place_low;
      row_in = true_of (r q.row) k.row_in;
      place_in = true_of (c q.place) k.place_in;
      nonzero = not_zero_by_test (w q.row q.place) k.nonzero;
    }

one_length : (t : Bool) (cs : List Bool) (p n : ℕ) (row kept : List Fraction) → (t ≡ true → length row ≡ n) → length cs ≡ n → length kept ≡ n →
    Each (λ (one : List Fraction × Fraction). t ≡ true → length one.0 ≡ n) (reduce_row t cs p row kept)
one_length false cs p n row kept e f g = λ h. absurd (true≢false (sym h))
one_length true cs p n row kept e f g =
    let d : length row ≡ n = e refl in
    each_then (λ (z : Fraction). Unit {0}) (λ (one : List Fraction × Fraction). true ≡ true → length one.0 ≡ n) (div_outcome (get row p) (get kept p)) (λ l. then (sub_row cs row l kept) (λ zs. Ok (zs, l))) (any (div_outcome (get row p) (get kept p)))
    (λ l u. each_then (λ (zs : List Fraction). length zs ≡ length row) (λ (one : List Fraction × Fraction). true ≡ true → length one.0 ≡ n) (sub_row cs row l kept) (λ zs. Ok (zs, l)) (row_length cs row l kept)
    (λ zs h k. h ∙ d))

pub record Rowed (ts : List Bool) (n m : ℕ) (rest : List (List Fraction) × List Fraction) : Type 0 where
  pub tall : length rest.0 ≡ m
  pub same : (h : ℕ) → h < m → flag ts h ≡ true → length (slice_index_or rest.0 h []) ≡ n

rowed_more : (t : Bool) (ts : List Bool) (n m : ℕ) (one : List Fraction × Fraction) (rest : List (List Fraction) × List Fraction) → (t ≡ true → length one.0 ≡ n) → Rowed ts n m rest → Rowed (t ∷ ts) n (suc m) (one.0 ∷ rest.0, one.1 ∷ rest.1)
rowed_more t ts n m one rest e r = record { tall = ap suc r.tall; same = at }
  where
    at : (h : ℕ) → h < suc m → flag (t ∷ ts) h ≡ true → length (slice_index_or (one.0 ∷ rest.0) h []) ≡ n
    at zero l f = e f
    at (suc h) l f = r.same h (omega arith) f

pub rows_rowed : (ts cs : List Bool) (p n : ℕ) (rows : List (List Fraction)) (kept : List Fraction) → length ts ≡ length rows →
    ((h : ℕ) → h < length rows → flag ts h ≡ true → length (slice_index_or rows h []) ≡ n) → length cs ≡ n → length kept ≡ n →
    Each (Rowed ts n (length rows)) (reduce_rows ts cs p rows kept)
rows_rowed [] cs p n [] kept e s f g = record { tall = refl; same = λ h l k. absurd (omega arith) }
rows_rowed [] cs p n (row ∷ rows) kept e s f g = absurd (omega arith)
rows_rowed (t ∷ ts) cs p n [] kept e s f g = absurd (omega arith)
rows_rowed (t ∷ ts) cs p n (row ∷ rows) kept e s f g =
    each_then (λ (one : List Fraction × Fraction). t ≡ true → length one.0 ≡ n) (Rowed (t ∷ ts) n (suc (length rows))) (reduce_row t cs p row kept)
    (λ one. then (reduce_rows ts cs p rows kept) (λ rest. Ok (one.0 ∷ rest.0, one.1 ∷ rest.1)))
    (one_length t cs p n row kept (λ h. s zero (omega arith) h) f g)
    (λ one a. each_then (Rowed ts n (length rows)) (Rowed (t ∷ ts) n (suc (length rows))) (reduce_rows ts cs p rows kept) (λ rest. Ok (one.0 ∷ rest.0, one.1 ∷ rest.1))
    (rows_rowed ts cs p n rows kept (omega arith) (λ h l k. s (suc h) (omega arith) k) f g)
    (λ rest r. rowed_more t ts n (length rows) one rest a r))

-- the flags after a pivot are among those before it
pub flag_in : (ts : List Bool) (i h : ℕ) → i < length ts → flag (set ts i false) h ≡ true → flag ts h ≡ true
flag_in ts i h l e = go (eqb i h) (sym (flag_but ts i h l) ∙ e)
  where
    go : (t : Bool) → cond t false (flag ts h) ≡ true → flag ts h ≡ true
    go true e = absurd (true≢false (sym e))
    go false e = e

pub shape_next : (m i p : ℕ) (ts cs : List Bool) (rows next : List (List Fraction)) (step : Kept) → Shape m ts cs rows → i < m → flag ts i ≡ true →
    step_at (set ts i false) (set cs p false) rows i p ≡ Ok (step, next) → Shape m (set ts i false) (set cs p false) next
shape_next m i p ts cs rows next step s l f e =
    let t : length rows ≡ m = s.tall in
    let d : length ts ≡ m = s.down in
    let r : Rowed (set ts i false) m (length rows) (next, step.multipliers) = each_ok (λ (u : Kept × List (List Fraction)). Rowed (set ts i false) m (length rows) (u.1, u.0.multipliers)) (step_at (set ts i false) (set cs p false) rows i p) (step, next)
    (each_then (Rowed (set ts i false) m (length rows)) (λ (u : Kept × List (List Fraction)). Rowed (set ts i false) m (length rows) (u.1, u.0.multipliers))
    (reduce_rows (set ts i false) (set cs p false) p rows (slice_index_or rows i [])) (λ low. Ok (record { row = i; place = p; kept = slice_index_or rows i []; multipliers = low.1 }, low.0))
    (rows_rowed (set ts i false) (set cs p false) p m rows (slice_index_or rows i []) (length-set ts i false ∙ d ∙ sym t) (λ h k q. s.same h (omega arith) (flag_in ts i h (omega arith) q)) (length-set cs p false ∙ s.across) (s.same i l f))
    (λ low q. q)) e in
    record { tall = r.tall ∙ t; down = length-set ts i false ∙ d; across = length-set cs p false ∙ s.across; same = λ h k q. r.same h (omega arith) q }

-- the pivot that the rule finds in rows of this shape
pub at_pivoted : (m : ℕ) (ts cs : List Bool) (rows : List (List Fraction)) (q : Pivot) → Shape m ts cs rows → Some q ≡ pivot (length rows) (flag ts) (flag cs) (entry rows) →
    Pivoted m (flag ts) (flag cs) (entry rows) q.row q.place
at_pivoted m ts cs rows q s e = subst (λ n. Pivoted n (flag ts) (flag cs) (entry rows) q.row q.place) s.tall (pivoted (length rows) (flag ts) (flag cs) (entry rows) q e)
