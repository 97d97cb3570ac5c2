-- What the tests of a model read, by the lists of its columns and of a certificate; and the tests in the parts in which
-- those lists are gone through.
use Rattle.std.specs.Prelude.{ℕ, List, [], ◌∷◌, Option, Some, Result, Ok}
use Rattle.pami_algebra.specs.Fraction.{Fraction}
use Rattle.pami_script.specs.Dense.{at}
use Rattle.pami_frac.specs.declared.arithmetic.Refused.{Refused}
use Rattle.pami_frac.specs.declared.list.Bounds.{Bounds}
use Rattle.pami_theory.specs.Form.{Form, limits, row_variable, zero_f}
use Rattle.pami_model.specs.declared.list.Column.{Column}
use Rattle.pami_model.specs.declared.model.Sense.{Sense}
use Rattle.pami_model_form.specs.ModelForm.{member, minimised}
use Rattle.pami_check.specs.declared.point.Reach.{Reach}
use Rattle.pami_check.specs.declared.point.Reach.TheVariants as reaches
use Rattle.pami_check.specs.declared.verdict.Condition.TheVariants.{Finite}
use Rattle.pami_check.specs.declared.verdict.Verdict.{Verdict}
use Rattle.pami_check.specs.Tests.{Test, behind, each_of}
use Rattle.pami_check.specs.Verdict.{cone, sign_test}

-- the entry of a row in a column
abbrev pub entry_by : List Column → ℕ → ℕ → Fraction
entry_by columns i j = member (λ (c : Column). at c.entries i) zero_f columns j

-- the cost of a column that is to be made small
abbrev pub cost_by : Sense → List Column → ℕ → Fraction
cost_by sense columns j = member (λ (c : Column). minimised sense c.cost) zero_f columns j

-- what the values of points, and those of directions, are within
abbrev pub reached : Reach → Bounds → Bounds
reached reaches.Point l = l
reached reaches.Direction l = cone l

-- the signs of the columns, by values and reduced costs; and those of the rows, by values and dual values
abbrev pub column_signs : Form → (ℕ → Fraction) → (ℕ → Fraction) → List (Test (Unit {0}))
column_signs f x d = each_of 0 f.columns (λ j. sign_test (limits f j) j (x j) (d j) ∷ [])

abbrev pub row_sign : Form → (ℕ → Fraction) → (ℕ → Fraction) → ℕ → Test (Unit {0})
row_sign f r y i = sign_test (limits f (row_variable f i)) (row_variable f i) (r i) (y i)

abbrev pub row_signs : Form → (ℕ → Fraction) → (ℕ → Fraction) → List (Test (Unit {0}))
row_signs f r y = each_of 0 f.rows (λ i. row_sign f r y i ∷ [])

-- what the test of a finite bound comes to
abbrev pub finite : ℕ → Result (Option Fraction) Refused → Result Fraction Verdict
finite v outcome = behind Finite (Some v) outcome (λ s. Ok s)
