-- One step of the dense script beside one whose rows are 0 beside the active part: the same operations, refused at the same
-- one, and rows that agree where they are active.
use Rattle.std.proofs.Common.{◌≡◌, ℕ, zero, suc, ◌<◌, List, [], ◌∷◌, length, refl, sym, ap, ◌∙◌, subst, arith, Bool, true, false, Result, Ok, Err}
use Rattle.std.proofs.lemmas.Bool.{true≢false}
use lib.IntN.{pos}
use Rattle.pami_algebra.specs.Fraction.{Fraction}
use Rattle.pami_algebra.specs.Operations.{of_int, ◌/ᶠ◌}
use Rattle.pami_frac.specs.Arithmetic.{div_outcome}
use Rattle.pami_frac.specs.declared.arithmetic.Refused.{Refused}
use Rattle.pami_linear.specs.Lists.{get}
use Rattle.pami_script.specs.Script.{then, sub_product}
use Rattle.pami_factoring.specs.Factor.{flag, row_at, sub_if, sub_row, reduce_row, reduce_rows}
use Rattle.pami_factoring.proofs.Shapes.{Each}
use Rattle.pami_factoring.proofs.Scripts.{div_each}
use Rattle.pami_lu.specs.Clear.{sub_or_zero, clear_row, clear_reduce, clear_rows}

-- ---- both are refused by the same operation, or neither is and their values are alike
abbrev pub Both : {A B : Type 0} → (A → B → Type 0) → Result A Refused → Result B Refused → Type 0
Both R (Ok x) (Ok y) = R x y
Both R (Err r) (Err s) = r ≡ s
Both R (Ok x) (Err s) = ⊥
Both R (Err r) (Ok y) = ⊥

pub both_then : {A B C D : Type 0} (R : A → B → Type 0) (S : C → D → Type 0) (x : Result A Refused) (y : Result B Refused) (f : A → Result C Refused) (g : B → Result D Refused) →
    Both R x y → ((a : A) (b : B) → R a b → Both S (f a) (g b)) → Both S (then x f) (then y g)
both_then R S (Ok a) (Ok b) f g h k = k a b h
both_then R S (Err r) (Err s) f g h k = h
both_then R S (Ok a) (Err s) f g h k = absurd h
both_then R S (Err r) (Ok b) f g h k = absurd h

pub both_each : {A B : Type 0} (R : A → B → Type 0) (P : B → Type 0) (x : Result A Refused) (y : Result B Refused) → Both R x y → Each P y → Both (λ a b. R a b × P b) x y
both_each R P (Ok a) (Ok b) h e = (h, e)
both_each R P (Err r) (Err s) h e = h
both_each R P (Ok a) (Err s) h e = absurd h
both_each R P (Err r) (Ok b) h e = absurd h

itself : {A : Type 0} (P : A → Type 0) (x : Result A Refused) → Each P x → Both (λ a b. (a ≡ b) × P a) x x
itself P (Ok a) e = (refl, e)
itself P (Err r) e = refl

anything : {A : Type 0} (x : Result A Refused) → Each (λ (a : A). Unit {0}) x
anything (Ok a) = tt
anything (Err r) = tt

-- ---- one entry
abbrev pub IsEntryAlike : Bool → Fraction → Fraction → Fraction → Type 0
IsEntryAlike t x z z' = (t ≡ true → z ≡ z') × (t ≡ false → z ≡ x)

entry_alike : (t : Bool) (x x' l y y' : Fraction) → (t ≡ true → (x ≡ x') × (y ≡ y')) → Both (IsEntryAlike t x) (sub_if t x l y) (sub_or_zero t x' l y')
entry_alike true x x' l y y' h =
    subst (λ a. Both (IsEntryAlike true x) (sub_product x l y) (sub_product a l y')) (h refl).0
    (subst (λ b. Both (IsEntryAlike true x) (sub_product x l y) (sub_product x l b)) (h refl).1
    (weaken (sub_product x l y) (sub_product x l y) (itself (λ (z : Fraction). Unit {0}) (sub_product x l y) (anything (sub_product x l y)))))
  where
    weaken : (r s : Result Fraction Refused) → Both (λ a b. (a ≡ b) × Unit {0}) r s → Both (IsEntryAlike true x) r s
    weaken (Ok a) (Ok b) k = (λ e. k.0, λ e. absurd (true≢false e))
    weaken (Err r) (Err s) k = k
    weaken (Ok a) (Err s) k = absurd k
    weaken (Err r) (Ok b) k = absurd k
entry_alike false x x' l y y' h = (λ e. absurd (true≢false (sym e)), λ e. refl)

-- ---- one row
pub record AreRowsAlike (cs : List Bool) (xs zs zs' : List Fraction) : Type 0 where
  pub long : length zs ≡ length xs
  pub clear_long : length zs' ≡ length xs
  pub active : (g : ℕ) → flag cs g ≡ true → get zs g ≡ get zs' g
  pub passive : (g : ℕ) → flag cs g ≡ false → get zs g ≡ get xs g

rows_more : (t : Bool) (cs : List Bool) (x : Fraction) (xs : List Fraction) (z z' : Fraction) (zs zs' : List Fraction) → IsEntryAlike t x z z' → AreRowsAlike cs xs zs zs' → AreRowsAlike (t ∷ cs) (x ∷ xs) (z ∷ zs) (z' ∷ zs')
rows_more t cs x xs z z' zs zs' e r = record { long = ap suc r.long; clear_long = ap suc r.clear_long; active = yes; passive = no }
  where
    yes : (g : ℕ) → flag (t ∷ cs) g ≡ true → get (z ∷ zs) g ≡ get (z' ∷ zs') g
    yes zero f = e.0 f
    yes (suc g) f = r.active g f

    no : (g : ℕ) → flag (t ∷ cs) g ≡ false → get (z ∷ zs) g ≡ get (x ∷ xs) g
    no zero f = e.1 f
    no (suc g) f = r.passive g f

row_alike : (cs : List Bool) (xs xs' : List Fraction) (l : Fraction) (ys ys' : List Fraction) → length cs ≡ length xs → length xs' ≡ length xs → length ys ≡ length xs → length ys' ≡ length xs →
    ((g : ℕ) → flag cs g ≡ true → (get xs g ≡ get xs' g) × (get ys g ≡ get ys' g)) → Both (AreRowsAlike cs xs) (sub_row cs xs l ys) (clear_row cs xs' l ys')
row_alike [] [] [] l ys ys' a b c d h = record { long = refl; clear_long = refl; active = λ g e. refl; passive = λ g e. refl }
row_alike [] [] (x' ∷ xs') l ys ys' a b c d h = absurd (omega arith)
row_alike [] (x ∷ xs) xs' l ys ys' a b c d h = absurd (omega arith)
row_alike (t ∷ cs) [] xs' l ys ys' a b c d h = absurd (omega arith)
row_alike (t ∷ cs) (x ∷ xs) [] l ys ys' a b c d h = absurd (omega arith)
row_alike (t ∷ cs) (x ∷ xs) (x' ∷ xs') l [] ys' a b c d h = absurd (omega arith)
row_alike (t ∷ cs) (x ∷ xs) (x' ∷ xs') l (y ∷ ys) [] a b c d h = absurd (omega arith)
row_alike (t ∷ cs) (x ∷ xs) (x' ∷ xs') l (y ∷ ys) (y' ∷ ys') a b c d h =
    both_then (IsEntryAlike t x) (AreRowsAlike (t ∷ cs) (x ∷ xs)) (sub_if t x l y) (sub_or_zero t x' l y') (λ z. then (sub_row cs xs l ys) (λ zs. Ok (z ∷ zs))) (λ z. then (clear_row cs xs' l ys') (λ zs. Ok (z ∷ zs)))
    (entry_alike t x x' l y y' (h zero))
    (λ z z' e. both_then (AreRowsAlike cs xs) (AreRowsAlike (t ∷ cs) (x ∷ xs)) (sub_row cs xs l ys) (clear_row cs xs' l ys') (λ zs. Ok (z ∷ zs)) (λ zs. Ok (z' ∷ zs))
    (row_alike cs xs xs' l ys ys' (omega arith) (omega arith) (omega arith) (omega arith) (λ g f. h (suc g) f))
    (λ zs zs' r. rows_more t cs x xs z z' zs zs' e r))

-- a row, and what is left of it beside the active part
pub record IsPair (n : ℕ) (cs : List Bool) (p : ℕ) (row row' : List Fraction) : Type 0 where
  pub long : length row ≡ n
  pub clear_long : length row' ≡ n
  pub active : (g : ℕ) → flag cs g ≡ true → get row g ≡ get row' g
  pub at_pivot : get row p ≡ get row' p

pub record IsReducedAlike (t : Bool) (cs : List Bool) (p : ℕ) (row kept : List Fraction) (one one' : List Fraction × Fraction) : Type 0 where
  pub multiplier : one.1 ≡ one'.1
  pub rows : t ≡ true → AreRowsAlike cs row one.0 one'.0
  pub quotient : t ≡ true → one.1 ≡ get row p /ᶠ get kept p
  pub none : t ≡ false → one'.1 ≡ of_int (pos 0)

reduced_alike : (t : Bool) (cs : List Bool) (p n : ℕ) (row row' kept kept' : List Fraction) → (t ≡ true → IsPair n cs p row row') → length cs ≡ n → IsPair n cs p kept kept' →
    Both (IsReducedAlike t cs p row kept) (reduce_row t cs p row kept) (clear_reduce t cs p row' kept')
reduced_alike false cs p n row row' kept kept' r l k = record { multiplier = refl; rows = λ e. absurd (true≢false (sym e)); quotient = λ e. absurd (true≢false (sym e)); none = λ e. refl }
reduced_alike true cs p n row row' kept kept' r l k =
    let q : IsPair n cs p row row' = r refl in
    let row_long : length row ≡ n = q.long in
    let clear_long : length row' ≡ n = q.clear_long in
    let kept_long : length kept ≡ n = k.long in
    let kept_clear : length kept' ≡ n = k.clear_long in
    let a = get row p in
    let b = get kept p in
    both_then (λ (u v : Fraction). (u ≡ v) × (u ≡ a /ᶠ b)) (IsReducedAlike true cs p row kept) (div_outcome a b) (div_outcome (get row' p) (get kept' p))
    (λ u. then (sub_row cs row u kept) (λ zs. Ok (zs, u))) (λ u. then (clear_row cs row' u kept') (λ zs. Ok (zs, u)))
    (subst (λ x. Both (λ (u v : Fraction). (u ≡ v) × (u ≡ a /ᶠ b)) (div_outcome a b) (div_outcome x (get kept' p))) q.at_pivot
    (subst (λ x. Both (λ (u v : Fraction). (u ≡ v) × (u ≡ a /ᶠ b)) (div_outcome a b) (div_outcome a x)) k.at_pivot
    (itself (λ (u : Fraction). u ≡ a /ᶠ b) (div_outcome a b) (div_each a b))))
    (λ u v e. both_then (AreRowsAlike cs row) (IsReducedAlike true cs p row kept) (sub_row cs row u kept) (clear_row cs row' v kept') (λ zs. Ok (zs, u)) (λ zs. Ok (zs, v))
    (subst (λ x. Both (AreRowsAlike cs row) (sub_row cs row u kept) (clear_row cs row' x kept')) e.0
    (row_alike cs row row' u kept kept' (omega arith) (omega arith) (omega arith) (omega arith) (λ g f. (q.active g f, k.active g f))))
    (λ zs zs' w. record { multiplier = e.0; rows = λ f. w; quotient = λ f. e.1; none = λ f. absurd (true≢false f) }))

-- ---- all rows
pub record AreLowAlike (ts cs : List Bool) (p : ℕ) (rows : List (List Fraction)) (kept : List Fraction) (low low' : List (List Fraction) × List Fraction) : Type 0 where
  pub multipliers : low.1 ≡ low'.1
  pub rows_alike : (h : ℕ) → h < length rows → flag ts h ≡ true → AreRowsAlike cs (row_at rows h) (row_at low.0 h) (row_at low'.0 h)
  pub quotients : (h : ℕ) → h < length rows → flag ts h ≡ true → get low.1 h ≡ get (row_at rows h) p /ᶠ get kept p
  pub none : (h : ℕ) → flag ts h ≡ false → get low'.1 h ≡ of_int (pos 0)
  pub tall : length low.0 ≡ length rows
  pub clear_tall : length low'.0 ≡ length rows
  pub as_many : length low'.1 ≡ length rows

low_more : (t : Bool) (ts cs : List Bool) (p : ℕ) (row : List Fraction) (rows : List (List Fraction)) (kept : List Fraction) (one one' : List Fraction × Fraction) (low low' : List (List Fraction) × List Fraction) →
    IsReducedAlike t cs p row kept one one' → AreLowAlike ts cs p rows kept low low' → AreLowAlike (t ∷ ts) cs p (row ∷ rows) kept (one.0 ∷ low.0, one.1 ∷ low.1) (one'.0 ∷ low'.0, one'.1 ∷ low'.1)
low_more t ts cs p row rows kept one one' low low' a b = record {
  multipliers = ap (λ z. z ∷ low.1) a.multiplier ∙ ap (λ zs. one'.1 ∷ zs) b.multipliers;
  rows_alike = each;
  quotients = quotient;
  none = nought;
  tall = ap suc b.tall;
  clear_tall = ap suc b.clear_tall;
  as_many = ap suc b.as_many;
}
  where
    each : (h : ℕ) → h < suc (length rows) → flag (t ∷ ts) h ≡ true → AreRowsAlike cs (row_at (row ∷ rows) h) (row_at (one.0 ∷ low.0) h) (row_at (one'.0 ∷ low'.0) h)
    each zero l f = a.rows f
    each (suc h) l f = b.rows_alike h (omega arith) f

    quotient : (h : ℕ) → h < suc (length rows) → flag (t ∷ ts) h ≡ true → get (one.1 ∷ low.1) h ≡ get (row_at (row ∷ rows) h) p /ᶠ get kept p
    quotient zero l f = a.quotient f
    quotient (suc h) l f = b.quotients h (omega arith) f

    nought : (h : ℕ) → flag (t ∷ ts) h ≡ false → get (one'.1 ∷ low'.1) h ≡ of_int (pos 0)
    nought zero f = a.none f
    nought (suc h) f = b.none h f

pub low_alike : (ts cs : List Bool) (p n : ℕ) (rows rows' : List (List Fraction)) (kept kept' : List Fraction) → length ts ≡ length rows → length rows' ≡ length rows →
    ((h : ℕ) → h < length rows → flag ts h ≡ true → IsPair n cs p (row_at rows h) (row_at rows' h)) → length cs ≡ n → IsPair n cs p kept kept' →
    Both (AreLowAlike ts cs p rows kept) (reduce_rows ts cs p rows kept) (clear_rows ts cs p rows' kept')
low_alike [] cs p n [] [] kept kept' a b r l k = record {
  multipliers = refl;
  rows_alike = λ h j f. absurd (omega arith);
  quotients = λ h j f. absurd (omega arith);
  none = λ h f. refl;
  tall = refl;
  clear_tall = refl;
  as_many = refl;
}
low_alike [] cs p n [] (row' ∷ rows') kept kept' a b r l k = absurd (omega arith)
low_alike [] cs p n (row ∷ rows) rows' kept kept' a b r l k = absurd (omega arith)
low_alike (t ∷ ts) cs p n [] rows' kept kept' a b r l k = absurd (omega arith)
low_alike (t ∷ ts) cs p n (row ∷ rows) [] kept kept' a b r l k = absurd (omega arith)
low_alike (t ∷ ts) cs p n (row ∷ rows) (row' ∷ rows') kept kept' a b r l k =
    both_then (IsReducedAlike t cs p row kept) (AreLowAlike (t ∷ ts) cs p (row ∷ rows) kept) (reduce_row t cs p row kept) (clear_reduce t cs p row' kept')
    (λ one. then (reduce_rows ts cs p rows kept) (λ rest. Ok (one.0 ∷ rest.0, one.1 ∷ rest.1))) (λ one. then (clear_rows ts cs p rows' kept') (λ rest. Ok (one.0 ∷ rest.0, one.1 ∷ rest.1)))
    (reduced_alike t cs p n row row' kept kept' (r zero (omega arith)) l k)
    (λ one one' w. both_then (AreLowAlike ts cs p rows kept) (AreLowAlike (t ∷ ts) cs p (row ∷ rows) kept) (reduce_rows ts cs p rows kept) (clear_rows ts cs p rows' kept')
    (λ rest. Ok (one.0 ∷ rest.0, one.1 ∷ rest.1)) (λ rest. Ok (one'.0 ∷ rest.0, one'.1 ∷ rest.1))
    (low_alike ts cs p n rows rows' kept kept' (omega arith) (omega arith) (λ h j f. r (suc h) (omega arith) f) l k)
    (λ low low' v. low_more t ts cs p row rows kept one one' low low' w v))
