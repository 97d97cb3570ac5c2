-- The entries of a row at the nonbasic variables: they rise, none is 0, and each has its variable's value.
use Rattle.std.proofs.Common.{◌≡◌, ℕ, zero, suc, ◌+◌, ◌<◌, ◌≤◌, Bool, true, false, cond, List, [], ◌∷◌, length, refl, sym, ◌∙◌, subst, arith, ⊎_elim}
use Rattle.std.specs.List.{filter, range_with_len}
use Rattle.std.proofs.lemmas.Bool.{cases_eq}
use lib.IntN.{pos}
use Rattle.pami_algebra.specs.Fraction.{Fraction}
use Rattle.pami_algebra.specs.Operations.{of_int}
use Rattle.pami_frac.specs.Signs.{is_zero}
use Rattle.pami_frac.specs.declared.list.Entry.{Entry}
use Rattle.pami_script.specs.Dense.{at, Rising}
use Rattle.pami_script.proofs.Skipped.{at_here, at_other, at_below}
use Rattle.pami_vec.specs.Entries.{NoZeros}
use Rattle.pami_vec.proofs.Built.{rising_from, zero_is}
use Rattle.pami_vec.specs.Turned.{AreEven}
use Rattle.pami_price.specs.Slices.{column_at, with_first}
use Rattle.pami_price.specs.Agreement.{nonzero_entries}

first_rises : (v high : ℕ) (alpha : Fraction) (es : List Entry) → v < high → Rising (v + 1) high es → Rising v high (with_first v alpha es)
first_rises v high alpha es h r = go (is_zero alpha)
  where
    go : (t : Bool) → Rising v high (cond t es (record { place = v; value = alpha } ∷ es))
    go true = rising_from es (v + 1) v high (omega arith) r
    go false = let e : v + 1 ≡ suc v = omega arith in (omega arith, h, subst (λ low. Rising low high es) e r)

rise_by : (t : Bool) (v high : ℕ) (row : ℕ → Fraction) (vs : List ℕ) → v < high → Rising (v + 1) high (nonzero_entries row vs) → Rising v high (nonzero_entries row (cond t (v ∷ vs) vs))
rise_by true v high row vs h r = first_rises v high (row v) (nonzero_entries row vs) h r
rise_by false v high row vs h r = rising_from (nonzero_entries row vs) (v + 1) v high (omega arith) r

pub kept_rise : (p : ℕ → Bool) (row : ℕ → Fraction) (v n : ℕ) → Rising v (v + n) (nonzero_entries row (filter p (range_with_len v n)))
kept_rise p row v zero = let h : v ≤ v + 0 = omega arith in h
kept_rise p row v (suc n) =
    let e : (v + 1) + n ≡ v + suc n = omega arith in
    rise_by (p v) v (v + suc n) row (filter p (range_with_len (v + 1) n)) (omega arith)
    (subst (λ h. Rising (v + 1) h (nonzero_entries row (filter p (range_with_len (v + 1) n)))) e (kept_rise p row (v + 1) n))

first_nonzero : (v : ℕ) (alpha : Fraction) (es : List Entry) → NoZeros es → NoZeros (with_first v alpha es)
first_nonzero v alpha es z = go (is_zero alpha) refl
  where
    go : (t : Bool) → is_zero alpha ≡ t → NoZeros (cond t es (record { place = v; value = alpha } ∷ es))
    go true e = z
    go false e = (e, z)

pub entries_nonzero : (row : ℕ → Fraction) (vs : List ℕ) → NoZeros (nonzero_entries row vs)
entries_nonzero row [] = tt
entries_nonzero row (v ∷ vs) = first_nonzero v (row v) (nonzero_entries row vs) (entries_nonzero row vs)

-- ---- values
first_here : (v high : ℕ) (alpha : Fraction) (es : List Entry) → Rising (v + 1) high es → at (with_first v alpha es) v ≡ alpha
first_here v high alpha es r = go (is_zero alpha) refl
  where
    go : (t : Bool) → is_zero alpha ≡ t → at (cond t es (record { place = v; value = alpha } ∷ es)) v ≡ alpha
    go true e = at_below es (v + 1) high v r (omega arith) ∙ sym (zero_is alpha e)
    go false e = at_here (record { place = v; value = alpha }) es v refl

first_other : (v u : ℕ) (alpha : Fraction) (es : List Entry) → ¬ (v ≡ u) → at (with_first v alpha es) u ≡ at es u
first_other v u alpha es h = go (is_zero alpha)
  where
    go : (t : Bool) → at (cond t es (record { place = v; value = alpha } ∷ es)) u ≡ at es u
    go true = refl
    go false = at_other (record { place = v; value = alpha }) es u h

kept_here : (p : ℕ → Bool) (row : ℕ → Fraction) (v n : ℕ) → at (nonzero_entries row (filter p (range_with_len v (suc n)))) v ≡ cond (p v) (row v) (of_int (pos 0))
kept_here p row v n = go (p v)
  where
    rest : Rising (v + 1) ((v + 1) + n) (nonzero_entries row (filter p (range_with_len (v + 1) n)))
    rest = kept_rise p row (v + 1) n

    go : (t : Bool) → at (nonzero_entries row (cond t (v ∷ filter p (range_with_len (v + 1) n)) (filter p (range_with_len (v + 1) n)))) v ≡ cond t (row v) (of_int (pos 0))
    go true = first_here v ((v + 1) + n) (row v) (nonzero_entries row (filter p (range_with_len (v + 1) n))) rest
    go false = at_below (nonzero_entries row (filter p (range_with_len (v + 1) n))) (v + 1) ((v + 1) + n) v rest (omega arith)

kept_later : (p : ℕ → Bool) (row : ℕ → Fraction) (v n u : ℕ) → ¬ (v ≡ u) → at (nonzero_entries row (filter p (range_with_len v (suc n)))) u ≡ at (nonzero_entries row (filter p (range_with_len (v + 1) n))) u
kept_later p row v n u h = go (p v)
  where
    go : (t : Bool) → at (nonzero_entries row (cond t (v ∷ filter p (range_with_len (v + 1) n)) (filter p (range_with_len (v + 1) n)))) u ≡ at (nonzero_entries row (filter p (range_with_len (v + 1) n))) u
    go true = first_other v u (row v) (nonzero_entries row (filter p (range_with_len (v + 1) n))) h
    go false = refl

pub kept_value : (p : ℕ → Bool) (row : ℕ → Fraction) (v n u : ℕ) → v ≤ u → u < v + n → at (nonzero_entries row (filter p (range_with_len v n))) u ≡ cond (p u) (row u) (of_int (pos 0))
kept_value p row v zero u l h = absurd (omega arith)
kept_value p row v (suc n) u l h = ⊎_elim
    (λ (e : v ≡ u). subst (λ w. at (nonzero_entries row (filter p (range_with_len v (suc n)))) w ≡ cond (p w) (row w) (of_int (pos 0))) e (kept_here p row v n))
    (λ (k : ¬ (v ≡ u)). kept_later p row v n u k ∙ kept_value p row (v + 1) n u (omega arith) (omega arith))
    (cases_eq v u)

-- columns of one length, each by its variable
pub four_columns : (a b c d rho : List Fraction) → length a ≡ length rho → length b ≡ length rho → length c ≡ length rho → length d ≡ length rho → (v : ℕ) → v < 4 → length (column_at (a ∷ b ∷ c ∷ d ∷ []) v) ≡ length rho
four_columns a b c d rho h k l m zero n = h
four_columns a b c d rho h k l m (suc zero) n = k
four_columns a b c d rho h k l m (suc (suc zero)) n = l
four_columns a b c d rho h k l m (suc (suc (suc zero))) n = m
four_columns a b c d rho h k l m (suc (suc (suc (suc v)))) n = absurd (omega arith)

pub four_even : (a b c d rho : List Fraction) → length a ≡ length rho → length b ≡ length rho → length c ≡ length rho → length d ≡ length rho → AreEven (a ∷ b ∷ c ∷ d ∷ [])
four_even a b c d rho h k l m = λ v n. four_columns a b c d rho h k l m v n ∙ sym h

pub two_columns : (a b rho : List Fraction) → length a ≡ length rho → length b ≡ length rho → (v : ℕ) → v < 2 → length (column_at (a ∷ b ∷ []) v) ≡ length rho
two_columns a b rho h k zero n = h
two_columns a b rho h k (suc zero) n = k
two_columns a b rho h k (suc (suc v)) n = absurd (omega arith)

pub two_even : (a b rho : List Fraction) → length a ≡ length rho → length b ≡ length rho → AreEven (a ∷ b ∷ [])
two_even a b rho h k = λ v n. two_columns a b rho h k v n ∙ sym h
