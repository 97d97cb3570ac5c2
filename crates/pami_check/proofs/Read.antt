-- The form of a model, read from the lists of the model and of a certificate.
use Rattle.std.proofs.Common.{◌≡◌, ℕ, zero, suc, ◌+◌, ◌-◌, ◌<◌, List, [], ◌∷◌, ◌++◌, length, get_or, slice_get, Some, refl, sym, ap, ◌∙◌, subst, arith}
use Rattle.std.specs.List.{All}
use Rattle.std.proofs.lemmas.List.{get_or_append_left, get_or-append_right}
use Rattle.std.proofs.lemmas.Option.{slice_get-get_or, slice_get_within, get_or_from_slice_get}
use Rattle.std.proofs.lemmas.List.Elements.{All-get_or}
use Rattle.pami_algebra.specs.Fraction.{Fraction}
use Rattle.pami_linear.specs.Lists.{get}
use Rattle.pami_script.specs.Dense.{at, Rising}
use Rattle.pami_theory.specs.Form.{entry, cost, zero_f}
use Rattle.pami_model.specs.declared.list.Column.{Column}
use Rattle.pami_model.specs.Contents.{Contents}
use Rattle.pami_model.specs.Rules.{IsRising, AreColumns, AreEntries}
use Rattle.pami_model_form.specs.ModelForm.{minimised, model_form}
use Rattle.pami_model_form.proofs.Members.{member_is, cost_of_column, entry_of_column}
use Rattle.pami_model_form.proofs.Rises.{entries_rise}
use Rattle.pami_check.specs.Lists.{entry_by, cost_by}

-- ---- a member that was read, of a list that is the same
pub at_place : {X : Type 0} (xs ys : List X) (i : ℕ) (x : X) → xs ≡ ys → i < length xs → x ≡ get_or xs i x → slice_get ys i ≡ Some x
at_place xs ys i x s l e = subst (λ (zs : List _). slice_get zs i ≡ Some x) s (slice_get-get_or xs i x l ∙ ap Some (sym e))

-- some member stands at each place
pub some_member : {X : Type 0} (xs : List X) (i : ℕ) → i < length xs → (x : X) × (slice_get xs i ≡ Some x)
some_member [] i l = absurd (omega arith)
some_member (x ∷ xs) zero l = (x, refl)
some_member (x ∷ xs) (suc i) l = some_member xs i (omega arith)

-- ---- lists that are put behind one another
pub first_get : (x r : List Fraction) (j : ℕ) → j < length x → get x j ≡ get (x ++ r) j
first_get x r j l = sym (get_or_append_left x r zero_f j l)

pub second_get : (x r : List Fraction) (n i : ℕ) → length x ≡ n → get r i ≡ get (x ++ r) (n + i)
second_get x r n i e =
    let k : n + i - n ≡ i = omega arith in
    sym (get_or-append_right x r n (n + i) zero_f e (omega arith) ∙ ap (get r) k)

-- ---- entries and costs, by the list of columns
pub entry_member : (c : Contents) (i j : ℕ) → j < length c.columns → i < length c.rows → entry (model_form c) i j ≡ entry_by c.columns i j
entry_member c i j l h =
    let m = some_member c.columns j l in
    entry_of_column c j m.0 i m.1 h ∙ sym (member_is (λ (column : Column). at column.entries i) zero_f c.columns j m.0 m.1)

pub cost_member : (c : Contents) (j : ℕ) → j < length c.columns → cost (model_form c) j ≡ cost_by c.sense c.columns j
cost_member c j l =
    let m = some_member c.columns j l in
    cost_of_column c j m.0 m.1 ∙ sym (member_is (λ (column : Column). minimised c.sense column.cost) zero_f c.columns j m.0 m.1)

-- ---- what the columns of a model keep
pub columns_rise : (rows : ℕ) (columns : List Column) → AreColumns rows columns → All (λ (c : Column). IsRising c.entries) columns
columns_rise rows columns h = λ j d l. (h.entries j d l).rising

pub column_rises : (rows n j : ℕ) (columns : List Column) (d : Column) → AreColumns rows columns → slice_get columns j ≡ Some d → n ≡ rows →
    Rising 0 n d.entries
column_rises rows n j columns d h e m =
    let Good = λ (c : Column). AreEntries rows c.entries in
    let good = subst Good (get_or_from_slice_get columns j d d e) (All-get_or Good columns j d (slice_get_within columns j d e) h.entries) in
    subst (λ i. Rising 0 i d.entries) (sym m) (entries_rise rows d.entries good)
