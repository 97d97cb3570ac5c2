-- A file gives each column the sum of its coefficients in the objective, in their order, and the objective the sum of its
-- constants.
use Rattle.std.proofs.Common.{◌≡◌, ℕ, Bool, true, false, cond, List, [], ◌∷◌, ◌++◌, filter, fold, Option, Result, Ok, Err, refl, sym, ap, subst, ◌∙◌}
use Rattle.std.specs.List.{flat_map}
use Rattle.std.specs.Str.{bytes_eq}
use Rattle.std.proofs.lemmas.List.Elements.{filter-append}
use Rattle.std.proofs.lemmas.List.Sums.{fold-append}
use Rattle.pami_algebra.specs.Fraction.{Fraction}
use Rattle.pami_algebra.specs.Operations.{◌+ᶠ◌}
use Rattle.pami_frac.proofs.Outcomes.{add_value}
use Rattle.pami_frac.specs.Answers.{then as chain}
use Rattle.pami_frac.specs.Arithmetic.{add_outcome}
use Rattle.pami_frac.specs.declared.arithmetic.Refused.{Refused}
use Rattle.pami_frac.specs.Decimal.{decimal_value}
use Rattle.pami_model.specs.declared.list.Column.{Column}
use Rattle.pami_model.specs.Draft.{Draft, changed, column_at, column_with_cost}
use Rattle.pami_lp.specs.Gather.{column_named, goal_constants, goal_prices, part_constants, part_prices, plus_all, plus_for}
use Rattle.pami_lp.specs.Grammar.{Goal, Nothing, Parts, Later, Part, Named, Alone}
use Rattle.pami_lp.specs.Meaning.{is_minus, negated, number_in, take_goal, take_later, take_part}
use Rattle.pami_lp.specs.Rules.{add_constant, add_cost, stand}
use Rattle.pami_lp.specs.Values.{coefficient_of, number_of, signed, sum_by, sum_of}
use Rattle.pami_lp.proofs.Chains.{judged_on, number_value, on}
use Rattle.pami_lp.proofs.Columns.{column_here, look_changed, stood}
use Rattle.pami_lp.proofs.Names.{same}
use Rattle.pami_lp.proofs.Stepped.{not_ok, ok_same}

-- ---- the objective

pub sum_value : (p q t : Fraction) → sum_of p q ≡ Ok t → t ≡ p +ᶠ q
sum_value p q t h = by (add_outcome p q) refl h
  where
    by : (r : Result Fraction Refused) → add_outcome p q ≡ r → sum_by r ≡ Ok t → t ≡ p +ᶠ q
    by (Ok v) e g = sym (ok_same g) ∙ add_value p q v e
    by (Err k) e g = not_ok g

-- what parts of the objective add: these coefficients, and these constants
pub record Prices (d e : Draft) (ps : List (List ℕ × Fraction)) (ks : List Fraction) : Type 0 where
  pub costs : (m : List ℕ) → (column_named e.columns m).cost ≡ plus_for m (column_named d.columns m).cost ps
  pub constant : e.constant ≡ plus_all d.constant ks

abbrev plus : Fraction → List ℕ × Fraction → Fraction
plus t p = t +ᶠ p.1

pub plus_append : (m : List ℕ) (t : Fraction) (xs ys : List (List ℕ × Fraction)) → plus_for m t (xs ++ ys) ≡ plus_for m (plus_for m t xs) ys
plus_append m t xs ys =
    ap (λ (zs : List (List ℕ × Fraction)). fold plus t zs) (filter-append (λ p. bytes_eq m p.0) xs ys)
    ∙ fold-append plus t (filter (λ p. bytes_eq m p.0) xs) (filter (λ p. bytes_eq m p.0) ys)

both : (d e g : Draft) (ps qs : List (List ℕ × Fraction)) (ks ls : List Fraction) → Prices d e ps ks → Prices e g qs ls → Prices d g (ps ++ qs) (ks ++ ls)
both d e g ps qs ks ls a b = record {
  costs = λ m. b.costs m ∙ ap (λ (t : Fraction). plus_for m t qs) (a.costs m) ∙ sym (plus_append m (column_named d.columns m).cost ps qs);
  constant = b.constant ∙ ap (λ (t : Fraction). plus_all t ls) a.constant ∙ sym (fold-append ◌+ᶠ◌ d.constant ks ls);
}

cost_priced : (d : Draft) (name : List ℕ) (p : Draft × ℕ) (v : Fraction) (e : Draft) → stand d name ≡ Ok p → add_cost p.0 p.1 v ≡ Ok e
    → Prices d e ((name, v) ∷ []) []
cost_priced d name p v e h g =
    let s = stood d name p h in
    let o = on (sum_of (column_at p.0.columns p.1).cost v) (λ t. Ok (record p.0 { columns = changed p.1 (column_with_cost t) p.0.columns })) e g in
    let sum : o.value ≡ (column_named p.0.columns name).cost +ᶠ v =
    sum_value (column_at p.0.columns p.1).cost v o.value o.is ∙ ap (λ (c : Column). c.cost +ᶠ v) (column_here p.0.columns name p.1 s.place) in
    let change : (m : List ℕ) → (column_named e.columns m).cost
    ≡ (cond (bytes_eq m name) (column_with_cost o.value (column_named p.0.columns m)) (column_named p.0.columns m)).cost =
    λ m. ap (λ (x : Draft). (column_named x.columns m).cost) (sym (ok_same o.then))
    ∙ ap (λ (c : Column). c.cost) (look_changed p.0.columns name p.1 (column_with_cost o.value) (λ c. refl) s.place m) in
    record {
      costs = λ m. change m ∙ by m (bytes_eq m name) refl o.value sum ∙ ap (λ (c : Column). plus_for m c.cost ((name, v) ∷ [])) (s.looks m);
      constant = ap (λ (x : Draft). x.constant) (sym (ok_same o.then)) ∙ s.constant;
    }
  where
    by : (m : List ℕ) (b : Bool) → bytes_eq m name ≡ b → (t : Fraction) → t ≡ (column_named p.0.columns name).cost +ᶠ v
        → (cond b (column_with_cost t (column_named p.0.columns m)) (column_named p.0.columns m)).cost
        ≡ fold (λ (t : Fraction) (q : List ℕ × Fraction). t +ᶠ q.1) (column_named p.0.columns m).cost (cond b ((name, v) ∷ []) [])
    by m true f t sum = sum ∙ ap (λ (n : List ℕ). (column_named p.0.columns n).cost +ᶠ v) (sym (same m name f))
    by m false f t sum = refl

part_priced : (p : Part) (n : Bool) (d e : Draft) → take_part n p d ≡ Ok e → Prices d e (part_prices n p) (part_constants n p)
part_priced (Named t) n d e h =
    let a = on (number_in t.number) (λ k. chain (stand d t.name) (λ p. add_cost p.0 p.1 (coefficient_of (negated n t.turns) k))) e h in
    let b = on (stand d t.name) (λ p. add_cost p.0 p.1 (coefficient_of (negated n t.turns) a.value)) e a.then in
    subst (λ (k : Option Fraction). Prices d e ((t.name, coefficient_of (negated n t.turns) k) ∷ []) []) (number_value t.number a.value a.is)
    (cost_priced d t.name b.value (coefficient_of (negated n t.turns) a.value) e b.is b.then)
part_priced (Alone ts text) n d e h =
    let a = on (number_of text) (λ v. add_constant d (signed (negated n ts) v)) e h in
    let o = on (sum_of d.constant (signed (negated n ts) a.value)) (λ t. Ok (record d { constant = t })) e a.then in
    let v : decimal_value text ≡ a.value = judged_on _ (decimal_value text) a.value a.is in
    record {
      costs = λ m. ap (λ (x : Draft). (column_named x.columns m).cost) (sym (ok_same o.then));
      constant =
          ap (λ (x : Draft). x.constant) (sym (ok_same o.then)) ∙ sum_value d.constant (signed (negated n ts) a.value) o.value o.is
          ∙ ap (λ (x : Fraction). d.constant +ᶠ signed (negated n ts) x) (sym v);
    }

later_priced : (ls : List Later) (d e : Draft) → take_later ls d ≡ Ok e
    → Prices d e (flat_map (λ (l : Later). part_prices (is_minus l.turn) l.part) ls) (flat_map (λ (l : Later). part_constants (is_minus l.turn) l.part) ls)
later_priced [] d e h = subst (λ (x : Draft). Prices d x [] []) (ok_same h) (record { costs = λ m. refl; constant = refl })
later_priced (l ∷ ls) d e h =
    let a = on (take_part (is_minus l.turn) l.part d) (λ d. take_later ls d) e h in
    both d a.value e (part_prices (is_minus l.turn) l.part) _ (part_constants (is_minus l.turn) l.part) _
    (part_priced l.part (is_minus l.turn) d a.value a.is) (later_priced ls a.value e a.then)

pub goal_priced : (g : Goal) (d e : Draft) → take_goal g d ≡ Ok e → Prices d e (goal_prices g) (goal_constants g)
goal_priced Nothing d e h = subst (λ (x : Draft). Prices d x [] []) (ok_same h) (record { costs = λ m. refl; constant = refl })
goal_priced (Parts p ls) d e h =
    let a = on (take_part false p d) (λ d. take_later ls d) e h in
    both d a.value e (part_prices false p) _ (part_constants false p) _ (part_priced p false d a.value a.is) (later_priced ls a.value e a.then)
