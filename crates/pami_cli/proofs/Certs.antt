-- The certificates of answers: their sizes, and their lines by the lists that they are cut from.
use Rattle.std.proofs.Common.{◌≡◌, ℕ, suc, ◌+◌, ◌-◌, ◌<◌, ◌≤◌, List, [], ◌∷◌, ◌++◌, length, take, drop, refl, sym, ap, ◌∙◌, arith, codes, Option}
use Rattle.std.proofs.lemmas.List.{get_or-take, get_or-drop, length-take-le, length-drop, length-map}
use Rattle.pami_algebra.specs.Fraction.{Fraction}
use Rattle.pami_algebra.specs.Operations.{of_int}
use lib.IntN.{pos}
use Rattle.pami_linear.specs.Lists.{get}
use Rattle.pami_frac.specs.Printed.{printed}
use Rattle.pami_model.specs.declared.list.Column.{Column}
use Rattle.pami_model.specs.Rules.{names_of_columns, names_of_rows}
use Rattle.pami_model.specs.Contents.{Contents}
use Rattle.pami_model_form.specs.Named.{named_of}
use Rattle.pami_script.specs.Script.{add_dot}
use Rattle.pami_theory.specs.Form.{zero_f}
use Rattle.pami_model_form.specs.ModelForm.{member}
use Rattle.pami_lines.specs.Certificate.{Valued, valued_from, named_lines, optimal_lines, dual_infeasible_lines, certificate_of, objective_in}
use Rattle.pami_lines.specs.Certificate.{kept_or_none}
use Rattle.pami_cert.specs.declared.cert.Cert.TheVariants.{Optimal}
use Rattle.pami_cert.specs.Sized.{AreSized, IsSized}
use Rattle.pami_cert.specs.CertLines.{cert_lines}
use Rattle.pami_cli.specs.CertOf.{best_cert, direction_cert}

-- ---- lists by variable, cut behind the columns

front_get : (xs : List Fraction) (n i k : ℕ) → i < n → i ≡ k → get (take n xs) i ≡ get xs k
front_get xs n i k l e = get_or-take n xs i (of_int (pos 0)) l ∙ ap (get xs) e

rest_get : (xs : List Fraction) (n i k : ℕ) → n + i ≡ k → get (drop n xs) i ≡ get xs k
rest_get xs n i k e = get_or-drop n xs i (of_int (pos 0)) ∙ ap (get xs) e

pub cut_sized : (c : Contents) (xs : List Fraction) → length c.columns + length c.rows ≡ length xs →
    AreSized c (take (length c.columns) xs) (drop (length c.columns) xs)
cut_sized c xs e = record {
  columns = length-take-le (length c.columns) xs (omega (arith, e));
  rows = length-drop (length c.columns) xs ∙ (let h : length xs - length c.columns ≡ length c.rows = omega (arith, e) in h);
}

pub best_sized : (c : Contents) (values reduced : List Fraction) → length c.columns + length c.rows ≡ length values → length reduced ≡ length values →
    IsSized c (best_cert c values reduced)
best_sized c values reduced e f = (cut_sized c values e, cut_sized c reduced (e ∙ sym f))

-- ---- lines

-- lines with the same names, from other numbers on, where the values and the reduced costs are the same
valued_moved : (names : List (List ℕ)) (u v : ℕ) (x d y e : ℕ → Fraction) →
    ((i k : ℕ) → u ≤ i → i < u + length names → i + v ≡ k + u → x i ≡ y k) →
    ((i k : ℕ) → u ≤ i → i < u + length names → i + v ≡ k + u → d i ≡ e k) →
    valued_from u names x d ≡ valued_from v names y e
valued_moved [] u v x d y e h k = refl
valued_moved (name ∷ names) u v x d y e h k =
    ap (λ z. record { name = name; value = z; reduced = d u } ∷ valued_from (u + 1) names x d) (h u v (omega arith) (omega arith) (omega arith))
    ∙ ap (λ z. record { name = name; value = y v; reduced = z } ∷ valued_from (u + 1) names x d) (k u v (omega arith) (omega arith) (omega arith))
    ∙ ap (λ (zs : List Valued). record { name = name; value = y v; reduced = e v } ∷ zs)
    (valued_moved names (u + 1) (v + 1) x d y e
    (λ i j l m p. h i j (omega arith) (omega arith) (omega (arith, p))) (λ i j l m p. k i j (omega arith) (omega arith) (omega (arith, p))))

named_moved : (tag : List ℕ) (names : List (List ℕ)) (u v : ℕ) (x y : ℕ → Fraction) →
    ((i k : ℕ) → u ≤ i → i < u + length names → i + v ≡ k + u → x i ≡ y k) →
    named_lines tag u names x ≡ named_lines tag v names y
named_moved tag [] u v x y h = refl
named_moved tag (name ∷ names) u v x y h =
    ap (λ z. (tag ∷ name ∷ printed z ∷ []) ∷ named_lines tag (suc u) names x) (h u v (omega arith) (omega arith) (omega arith))
    ∙ ap (λ (zs : List (List (List ℕ))). (tag ∷ name ∷ printed (y v) ∷ []) ∷ zs)
    (named_moved tag names (suc u) (suc v) x y (λ i j l m p. h i j (omega arith) (omega arith) (omega (arith, p))))

count_columns : (c : Contents) → length (names_of_columns c.columns) ≡ length c.columns
count_columns c = length-map c.columns (λ (column : Column). column.name)

pub best_lines : (c : Contents) (values reduced : List Fraction) →
    cert_lines c (best_cert c values reduced) ≡ optimal_lines (certificate_of (named_of c) (get values) (get reduced))
best_lines c values reduced =
    let n : ℕ = length c.columns in
    let cols = names_of_columns c.columns in
    let rows = names_of_rows c.rows in
    let count : length cols ≡ n = count_columns c in
    let first : valued_from 0 cols (get (take n values)) (get (take n reduced)) ≡ valued_from 0 cols (get values) (get reduced) =
    valued_moved cols 0 0 _ _ _ _ (λ i k l m p. front_get values n i k (omega (arith, m, count)) (omega (arith, p)))
    (λ i k l m p. front_get reduced n i k (omega (arith, m, count)) (omega (arith, p))) in
    let later : valued_from 0 rows (get (drop n values)) (get (drop n reduced)) ≡ valued_from (length cols) rows (get values) (get reduced) =
    valued_moved rows 0 (length cols) _ _ _ _ (λ i k l m p. rest_get values n i k (omega (arith, p, count)))
    (λ i k l m p. rest_get reduced n i k (omega (arith, p, count))) in
    ap (λ (z : List Valued). optimal_lines (record {
      objective = objective_in (named_of c) (get values);
      columns = z;
      rows = valued_from 0 rows (get (drop n values)) (get (drop n reduced));
    })) first
    ∙ ap (λ (z : List Valued). optimal_lines (record {
      objective = objective_in (named_of c) (get values);
      columns = valued_from 0 cols (get values) (get reduced);
      rows = z;
    })) later

pub direction_lines : (c : Contents) (z : List Fraction) → cert_lines c (direction_cert c z) ≡ dual_infeasible_lines (named_of c) z
direction_lines c z =
    let n : ℕ = length c.columns in
    let cols = names_of_columns c.columns in
    let rows = names_of_rows c.rows in
    let count : length cols ≡ n = count_columns c in
    let first : named_lines (codes "x") 0 cols (get (take n z)) ≡ named_lines (codes "x") 0 cols (get z) =
    named_moved (codes "x") cols 0 0 _ _ (λ i k l m p. front_get z n i k (omega (arith, m, count)) (omega (arith, p))) in
    let later : named_lines (codes "r") 0 rows (get (drop n z)) ≡ named_lines (codes "r") (length cols) rows (get z) =
    named_moved (codes "r") rows 0 (length cols) _ _ (λ i k l m p. rest_get z n i k (omega (arith, p, count))) in
    ap (λ (ls : List (List (List ℕ))). (codes "certificate" ∷ codes "1" ∷ codes "dual-infeasible" ∷ []) ∷
    (ls ++ (named_lines (codes "r") 0 rows (get (drop n z)) ++ (codes "end" ∷ []) ∷ []))) first
    ∙ ap (λ (ls : List (List (List ℕ))). (codes "certificate" ∷ codes "1" ∷ codes "dual-infeasible" ∷ []) ∷
    (named_lines (codes "x") 0 cols (get z) ++ (ls ++ (codes "end" ∷ []) ∷ []))) later

-- ---- how they are made

pub best_made : (c : Contents) (values reduced : List Fraction) (columns : List Column) (told : Option Fraction) (x d r y : List Fraction)
    → columns ≡ c.columns →
    told ≡ kept_or_none (add_dot (length columns) (λ j. member (λ (column : Column). column.cost) zero_f columns j) (get values) c.constant) →
    x ≡ take (length columns) values → d ≡ take (length columns) reduced → r ≡ drop (length columns) values → y ≡ drop (length columns) reduced →
    Optimal told x d r y ≡ best_cert c values reduced
best_made c values reduced columns told x d r y p t xs ds rs ys =
    let objective : told ≡ objective_in (named_of c) (get values) =
    t ∙ ap (λ (cs : List Column). kept_or_none (add_dot (length cs) (λ j. member (λ (column : Column). column.cost) zero_f cs j) (get values) c.constant)) p in
    let n : ℕ = length c.columns in
    ap (λ (z : Option Fraction). Optimal z x d r y) objective
    ∙ ap (λ (z : List Fraction). Optimal (objective_in (named_of c) (get values)) z d r y) (xs ∙ ap (λ (cs : List Column). take (length cs) values) p)
    ∙ ap (λ (z : List Fraction). Optimal (objective_in (named_of c) (get values)) (take n values) z r y)
    (ds ∙ ap (λ (cs : List Column). take (length cs) reduced) p)
    ∙ ap (λ (z : List Fraction). Optimal (objective_in (named_of c) (get values)) (take n values) (take n reduced) z y)
    (rs ∙ ap (λ (cs : List Column). drop (length cs) values) p)
    ∙ ap (λ (z : List Fraction). Optimal (objective_in (named_of c) (get values)) (take n values) (take n reduced) (drop n values) z)
    (ys ∙ ap (λ (cs : List Column). drop (length cs) reduced) p)
