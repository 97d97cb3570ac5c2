-- The entries of a list: its members that aren't 0, by rising place.
use Rattle.std.proofs.Common.{◌≡◌, ℕ, zero, suc, ◌+◌, ◌<◌, ◌≤◌, List, [], ◌∷◌, ◌++◌, length, drop, refl, sym, ap, ◌∙◌, subst, arith, append-nil, Bool, true, false, cond}
use Rattle.std.proofs.lemmas.List.{drop_all}
use Rattle.pami_algebra.specs.Fraction.{Fraction}
use Rattle.pami_frac.specs.Signs.{is_zero}
use Rattle.pami_frac.specs.declared.list.Entry.{Entry}
use Rattle.pami_script.specs.Dense.{at, dense_from, dense, Rising}
use Rattle.pami_script.proofs.Skipped.{at_here, at_other, at_below}
use Rattle.pami_vec.proofs.Built.{zero_is, rising_from}

-- from place k on
abbrev pub nonzeros : ℕ → List Fraction → List Entry
nonzeros k [] = []
nonzeros k (x ∷ xs) = cond (is_zero x) (nonzeros (suc k) xs) (record { place = k; value = x } ∷ nonzeros (suc k) xs)

nonzeros_rise : (k : ℕ) (xs : List Fraction) → Rising k (k + length xs) (nonzeros k xs)
nonzeros_rise k [] = let l : k ≤ k + 0 = omega arith in l
nonzeros_rise k (x ∷ xs) =
    let e : suc k + length xs ≡ k + suc (length xs) = omega arith in
    split (is_zero x) (subst (λ n. Rising (suc k) n (nonzeros (suc k) xs)) e (nonzeros_rise (suc k) xs))
  where
    split : (b : Bool) → Rising (suc k) (k + suc (length xs)) (nonzeros (suc k) xs) → Rising k (k + suc (length xs)) (cond b (nonzeros (suc k) xs) (record { place = k; value = x } ∷ nonzeros (suc k) xs))
    split true r = rising_from (nonzeros (suc k) xs) (suc k) k (k + suc (length xs)) (omega arith) r
    split false r = (omega arith, omega arith, r)

pub nonzeros_fit : (xs : List Fraction) → Rising 0 (length xs) (nonzeros 0 xs)
nonzeros_fit xs = let e : 0 + length xs ≡ length xs = omega arith in subst (λ n. Rising 0 n (nonzeros 0 xs)) e (nonzeros_rise 0 xs)

dense_skip : (n k : ℕ) (e : Entry) (es : List Entry) → e.place < k → dense_from n k (e ∷ es) ≡ dense_from n k es
dense_skip zero k e es l = refl
dense_skip (suc n) k e es l = ap (λ z. z ∷ dense_from n (suc k) (e ∷ es)) (at_other e es k (λ d. omega arith)) ∙ ap (λ z. at es k ∷ z) (dense_skip n (suc k) e es (omega arith))

nonzeros_from : (k : ℕ) (xs : List Fraction) → dense_from (length xs) k (nonzeros k xs) ≡ xs
nonzeros_from k [] = refl
nonzeros_from k (x ∷ xs) = split (is_zero x) refl (nonzeros_from (suc k) xs)
  where
    split : (b : Bool) → is_zero x ≡ b → dense_from (length xs) (suc k) (nonzeros (suc k) xs) ≡ xs → dense_from (suc (length xs)) k (cond b (nonzeros (suc k) xs) (record { place = k; value = x } ∷ nonzeros (suc k) xs)) ≡ x ∷ xs
    split true e rest =
        ap (λ v. v ∷ dense_from (length xs) (suc k) (nonzeros (suc k) xs)) (at_below (nonzeros (suc k) xs) (suc k) (suc k + length xs) k (nonzeros_rise (suc k) xs) (omega arith) ∙ sym (zero_is x e))
        ∙ ap (λ vs. x ∷ vs) rest
    split false e rest =
        ap (λ v. v ∷ dense_from (length xs) (suc k) (record { place = k; value = x } ∷ nonzeros (suc k) xs)) (at_here (record { place = k; value = x }) (nonzeros (suc k) xs) k refl)
        ∙ ap (λ vs. x ∷ vs) (dense_skip (length xs) (suc k) (record { place = k; value = x }) (nonzeros (suc k) xs) (omega arith) ∙ rest)

pub nonzeros_dense : (xs : List Fraction) → dense (length xs) (nonzeros 0 xs) ≡ xs
unfolding dense
nonzeros_dense xs = nonzeros_from 0 xs

-- the loop that lists them, at its end
pub nonzeros_listed : (xs : List Fraction) (k : ℕ) (es : List Entry) → length xs ≤ k → nonzeros 0 xs ≡ es ++ nonzeros k (drop k xs) → es ≡ nonzeros 0 xs
nonzeros_listed xs k es l e = sym (e ∙ ap (λ z. es ++ nonzeros k z) (drop_all k xs l) ∙ append-nil es)
