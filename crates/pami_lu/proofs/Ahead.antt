-- An index that goes along the entries of a vector while those of another one are gone through.
use Rattle.std.proofs.Common.{◌≡◌, ℕ, suc, ◌+◌, ◌<◌, ◌≤◌, List, [], ◌∷◌, length, drop, get_or, refl, sym, ap, ◌∙◌, subst, arith, Bool, true, false, cond, ltb, not}
use Rattle.std.proofs.lemmas.Bool.{ltb-true, ltb-false}
use lib.IntN.{pos}
use lib.Dec.{eqb, eqb→eq, T}
use Rattle.pami_algebra.specs.Fraction.{Fraction}
use Rattle.pami_algebra.specs.Operations.{of_int, is_zero}
use Rattle.pami_algebra.proofs.Tests.{is_zero_iff}
use Rattle.pami_frac.specs.declared.list.Entry.{Entry}
use Rattle.pami_linear.specs.Lists.{get}
use Rattle.pami_script.specs.Dense.{at, Rising}
use Rattle.pami_script.proofs.Skipped.{at_here, at_below}
use Rattle.pami_vec.specs.Entries.{NoZeros, AreEntriesOf}
use Rattle.pami_vec.proofs.Built.{Reading, read_on, rising_from, from_index}
use Rattle.pami_vec.proofs.Scripted.{get_at}
use Rattle.pami_lu.specs.Ahead.{from_place, is_first}
use Rattle.pami_lu.proofs.Those.{ltb_no}

-- ---- past the entries below a place
ahead_reads : (all rest : List Entry) (low p n : ℕ) → low ≤ p → p < n → Reading all rest low n → Reading all (from_place p rest) p n
ahead_reads all [] low p n l m r = record { same = λ q k. r.same q (omega arith); rising = omega arith }
ahead_reads all (x ∷ xs) low p n l m r = go (ltb x.place p) refl (λ k. ahead_reads all xs (suc x.place) p n (omega arith) m (read_on all x xs low n r))
  where
    go : (t : Bool) → ltb x.place p ≡ t → (x.place < p → Reading all (from_place p xs) p n) → Reading all (from_place p (x ∷ xs)) p n
    go true e ih = subst (λ t. Reading all (cond t (from_place p xs) (x ∷ xs)) p n) (sym e) (ih (ltb-true x.place p e))
    go false e ih =
        let k : p ≤ x.place = ltb-false x.place p e in
        subst (λ t. Reading all (cond t (from_place p xs) (x ∷ xs)) p n) (sym e) (record { same = λ q j. r.same q (omega arith); rising = (k, r.rising.1, r.rising.2) })

ahead_nonzero : (rest : List Entry) (p : ℕ) → NoZeros rest → NoZeros (from_place p rest)
ahead_nonzero [] p z = tt
ahead_nonzero (x ∷ xs) p z = go (ltb x.place p) refl (ahead_nonzero xs p z.1)
  where
    go : (t : Bool) → ltb x.place p ≡ t → NoZeros (from_place p xs) → NoZeros (from_place p (x ∷ xs))
    go true e ih = subst (λ t. NoZeros (cond t (from_place p xs) (x ∷ xs))) (sym e) ih
    go false e ih = subst (λ t. NoZeros (cond t (from_place p xs) (x ∷ xs))) (sym e) z

-- the member at the place is 0 exactly where no entry at it comes first
first_is : (all rest : List Entry) (p n : ℕ) → Reading all rest p n → NoZeros rest → is_zero (at all p) ≡ not (is_first p rest)
first_is all [] p n r z = (is_zero_iff (at all p)).1 (r.same p (omega arith))
first_is all (x ∷ xs) p n r z = go (eqb x.place p) refl (eqb→eq x.place p)
  where
    low : ¬ (x.place ≡ p) → p < x.place
    low q = let a = r.rising.0 in omega arith

    go : (t : Bool) → eqb x.place p ≡ t → (T t → x.place ≡ p) → is_zero (at all p) ≡ not (is_first p (x ∷ xs))
    go true e f = ap is_zero (r.same p (omega arith) ∙ at_here x xs p (f tt)) ∙ z.0 ∙ sym (ap not e)
    go false e f = (is_zero_iff (at all p)).1 (r.same p (omega arith) ∙ ap (λ t. cond t x.value (at xs p)) e ∙ at_below xs (suc x.place) n p r.rising.2 (let a = r.rising.0 in omega arith)) ∙ sym (ap not e)

-- ---- one vector beside another
pub record Beside (all rest changed : List Entry) (n : ℕ) : Type 0 where
  pub low : ℕ
  pub reading : Reading all rest low n
  pub nonzero : NoZeros rest
  pub rising : Rising low n changed

pub beside_start : (xs : List Fraction) (all changed : List Entry) → AreEntriesOf xs all → Rising 0 (length xs) changed → Beside all all changed (length xs)
beside_start xs all changed a r = record { low = 0; reading = record { same = λ q l. refl; rising = a.rising }; nonzero = a.nonzero; rising = r }

pub beside_next : (all rest next changed : List Entry) (i : ℕ) (e : Entry) (n : ℕ) → Beside all rest (drop i changed) n → i < length changed → e ≡ get_or changed i e → next ≡ from_place e.place rest →
    Beside all next (drop (i + 1) changed) n × (is_zero (at all e.place) ≡ not (is_first e.place next)) × (e.place < n)
beside_next all rest next changed i e n b l q f =
    let here : Rising b.low n (e ∷ drop (i + 1) changed) = subst (Rising b.low n) (from_index changed i e l q) b.rising in
    let reading : Reading all next e.place n = subst (λ ys. Reading all ys e.place n) (sym f) (ahead_reads all rest b.low e.place n here.0 here.1 b.reading) in
    let nonzero : NoZeros next = subst NoZeros (sym f) (ahead_nonzero rest e.place b.nonzero) in (
      record { low = e.place; reading = reading; nonzero = nonzero; rising = rising_from (drop (i + 1) changed) (suc e.place) e.place n (omega arith) here.2 },
      first_is all next e.place n reading nonzero,
      here.1,
    )
