-- Flips change as many rows as there are.
use Rattle.std.proofs.Common.{◌≡◌, ℕ, List, [], ◌∷◌, length, sym, ap, ◌∙◌, Ok}
use Rattle.std.proofs.lemmas.List.{length-replicate}
use Rattle.pami_algebra.specs.Fraction.{Fraction}
use Rattle.pami_linear.specs.Lists.{get}
use Rattle.pami_script.specs.Script.{each_member, add_product}
use Rattle.pami_script.proofs.Scripts.{then_ok}
use Rattle.pami_script.proofs.Members.{length_members}
use Rattle.pami_theory.specs.Form.{zero_f}
use Rattle.pami_method.specs.Scripts.{zeros}
use Rattle.pami_state.specs.Columns.{column_of}
use Rattle.pami_minor.specs.Flips.{flips_by}

flips_by_length : (columns : List (List Fraction)) (change : ℕ → Fraction) (vs : List ℕ) (rows next : List Fraction) → flips_by columns change vs rows ≡ Ok next → length next ≡ length rows
flips_by_length columns change [] rows next e = let same : rows ≡ next = cc in ap length (sym same)
flips_by_length columns change (v ∷ vs) rows next e =
    let a = then_ok (each_member (λ i t. add_product t (change v) (get (column_of columns v) i)) 0 rows) (λ more. flips_by columns change vs more) next e in
    flips_by_length columns change vs a.0 next a.1.1 ∙ length_members (λ i t. add_product t (change v) (get (column_of columns v) i)) 0 rows a.0 a.1.0

-- flips change as many rows as there are
pub changes_length : (columns : List (List Fraction)) (change : ℕ → Fraction) (vs : List ℕ) (n m : ℕ) (next : List Fraction) → n ≡ m → flips_by columns change vs (zeros n) ≡ Ok next → length next ≡ m
changes_length columns change vs n m next h e = flips_by_length columns change vs (zeros n) next e ∙ length-replicate n zero_f ∙ h
