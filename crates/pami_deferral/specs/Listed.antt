-- The scripts of the collective update over plain lists, as a program has them.
use Rattle.std.specs.Prelude.{◌≡◌, ℕ, ◌<◌, List, [], ◌∷◌, Result, Ok}
use Rattle.pami_algebra.specs.Fraction.{Fraction}
use Rattle.pami_frac.specs.Arithmetic.{add_outcome, sub_outcome}
use Rattle.pami_frac.specs.declared.arithmetic.Refused.{Refused}
use Rattle.pami_linear.specs.Lists.{get}
use Rattle.pami_script.specs.Script.{then, each_member, add_product}
use Rattle.pami_factoring.specs.Solve.{ColumnPivot, transform_script}
use Rattle.pami_theory.specs.Form.{Form}
use Rattle.pami_theory.specs.Fresh.{column_at}
use Rattle.pami_theory.specs.Step.{flips_change}
use Rattle.pami_method.specs.Batch.{Reached, Minor}
use Rattle.pami_method.specs.Work.{entering_value, leaving_bound, sub_at}

-- what each pivot's flips change in each row, pivot by pivot, added to the rows
abbrev pub total_script : List (List Fraction) → List Fraction → Result (List Fraction) Refused
total_script [] rows = Ok rows
total_script (c ∷ cs) rows = then (each_member (λ i t. add_outcome t (get c i)) 0 rows) (λ next. total_script cs next)

-- each list has what its minor's flips change in each row
abbrev pub AreChanges : Form → List Minor → List (List Fraction) → Type 0
AreChanges f [] [] = Unit {0}
AreChanges f [] (c ∷ cs) = ⊥
AreChanges f (m ∷ ms) [] = ⊥
AreChanges f (m ∷ ms) (c ∷ cs) = ((i : ℕ) → i < f.rows → get c i ≡ flips_change f m.reached.basis m.step.flips i) × AreChanges f ms cs

-- a pivot as the values read it: the entering variable's value and its column by the first basis, the place, the bound to
-- which its variable leaves
pub record Exchange : Type 0 where
  pub place : ℕ
  pub value : Fraction
  pub bound : Fraction
  pub column : List Fraction

abbrev pub exchange_at : Form → Reached → Minor → Exchange
exchange_at f first m = record {
  place = m.step.place;
  value = entering_value m;
  bound = leaving_bound f m;
  column = column_at first.fresh m.step.entering;
}

abbrev pub exchanges_script : List Exchange → List Fraction → Result (List Fraction) Refused
exchanges_script [] v = Ok v
exchanges_script (e ∷ es) v =
    then (each_member (λ i x. add_product x e.value (get e.column i)) 0 v) (λ w.
    then (sub_at e.place e.bound w) (λ next. exchanges_script es next))

-- the values by place: `flips` has what all flips change at each place
abbrev pub collect_script : List Fraction → List Fraction → List Exchange → List ColumnPivot → Result (List Fraction) Refused
collect_script values flips es pivots =
    then (each_member (λ i x. sub_outcome x (get flips i)) 0 values) (λ v.
    then (exchanges_script es v) (λ w. transform_script pivots w))
