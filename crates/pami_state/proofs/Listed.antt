-- Lists that are made variable by variable, and row by row.
use Rattle.std.proofs.Common.{◌≡◌, ℕ, ◌+◌, ◌<◌, ◌≤◌, List, [], ◌∷◌, ◌++◌, length, map, get_or, sym, ap, ◌∙◌, arith, nat_lt}
use Rattle.std.proofs.lemmas.Bool.{lt-ltb, le-ltb, cond-true, cond-false}
use Rattle.std.proofs.lemmas.List.FromFn.{map-range_with_len_more}
use Rattle.std.specs.List.{range_with_len}
use Rattle.pami_algebra.specs.Fraction.{Fraction}
use Rattle.pami_linear.specs.Lists.{get}
use Rattle.pami_frac.specs.declared.list.Bounds.{Bounds}
use Rattle.pami_script.proofs.Loops.{get_is}
use Rattle.pami_theory.specs.declared.words.Stand.{Stand}
use Rattle.pami_theory.specs.Form.{limits}
use Rattle.pami_theory.specs.declared.words.Stand.TheVariants.{Basic}
use Rattle.pami_theory.specs.Start.{stand_by}
use Rattle.pami_theory.specs.Fresh.{standing_value}
use Rattle.pami_state.specs.Columns.{bounds_form}
use Rattle.pami_state.specs.Sums.{stand_by_lists, standing_at}
use Rattle.pami_state.proofs.Bounds.{bounds_read}
use Rattle.pami_state.proofs.Signed.{stand_read}

-- one member more
pub table_more : {A : Type 0} (f : ℕ → A) (n : ℕ) (xs : List A) (x : A) → xs ≡ map f (range_with_len 0 n) → x ≡ f n → xs ++ x ∷ [] ≡ map f (range_with_len 0 (n + 1))
table_more f n xs x e h = ap (λ ys. ys ++ x ∷ []) e ∙ ap (λ y. map f (range_with_len 0 n) ++ y ∷ []) h ∙ sym (map-range_with_len_more f 0 n n (omega arith))

-- ---- where the variables stand
pub stands_more : (columns : ℕ) (bounds : List Bounds) (costs : List Fraction) (v : ℕ) (ss : List Stand) (s : Stand) → ss ≡ map (stand_by_lists columns bounds costs) (range_with_len 0 v) → s ≡ stand_by_lists columns bounds costs v →
    ss ++ s ∷ [] ≡ map (stand_by_lists columns bounds costs) (range_with_len 0 (v + 1))
stands_more columns bounds costs v ss s e h = table_more (stand_by_lists columns bounds costs) v ss s e h

pub column_stands : (columns : ℕ) (bounds : List Bounds) (costs : List Fraction) (v : ℕ) (b : Bounds) (cost : Fraction) (s : Stand) → v < columns → v < length bounds → length costs ≡ length bounds → b ≡ get_or bounds v b → cost ≡ get_or costs v cost →
    s ≡ stand_by b.low b.high cost → s ≡ stand_by_lists columns bounds costs v
column_stands columns bounds costs v b cost s l m n e h k =
    let lim : Bounds = limits (bounds_form 0 bounds) v in
    k
    ∙ ap (stand_by b.low b.high) (get_is costs v cost (omega arith) h)
    ∙ ap (λ (z : Bounds). stand_by z.low z.high (get costs v)) (sym (bounds_read bounds v b _ m e))
    ∙ sym (cond-true (nat_lt v columns) (stand_by lim.low lim.high (get costs v)) Basic (lt-ltb v columns l))

pub row_stands : (columns : ℕ) (bounds : List Bounds) (costs : List Fraction) (v : ℕ) → columns ≤ v → Basic ≡ stand_by_lists columns bounds costs v
row_stands columns bounds costs v l =
    let lim : Bounds = limits (bounds_form 0 bounds) v in
    sym (cond-false (nat_lt v columns) (stand_by lim.low lim.high (get costs v)) Basic (le-ltb v columns l))

-- ---- the value of a variable where it stands, as it is read
pub standing_read : (bounds : List Bounds) (ss : List Stand) (v : ℕ) (b : Bounds) (d : Stand) (x : Fraction) → v < length bounds → v < length ss → b ≡ get_or bounds v b → x ≡ standing_value b (get_or ss v d) → x ≡ standing_at bounds ss v
standing_read bounds ss v b d x l m e h =
    h
    ∙ ap (λ k. standing_value k (get_or ss v d)) (sym (bounds_read bounds v b _ l e))
    ∙ ap (standing_value (limits (bounds_form 0 bounds) v)) (sym (stand_read ss v d m))
