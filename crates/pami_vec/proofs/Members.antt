-- A vector that is written member by member while its entries are read.
use Rattle.std.proofs.Common.{◌≡◌, ℕ, suc, ◌+◌, ◌-◌, ◌<◌, ◌≤◌, List, [], ◌∷◌, ◌++◌, length, drop, get_or, refl, sym, ap, ◌∙◌, subst, arith}
use Rattle.std.proofs.lemmas.List.{append_assoc, drop_all, get_or_default}
use lib.IntN.{pos}
use Rattle.pami_algebra.specs.Fraction.{Fraction}
use Rattle.pami_algebra.specs.Operations.{of_int}
use Rattle.pami_frac.specs.declared.list.Entry.{Entry}
use Rattle.pami_script.specs.Dense.{at, dense_from, dense, Rising}
use Rattle.pami_script.proofs.Skipped.{at_here, at_other, at_below}
use Rattle.pami_vec.specs.Entries.{AreEntriesOf}
use Rattle.pami_vec.proofs.Built.{dense_same, from_index}

-- the members below k are written, and the rest of the entries has those from k on
pub record Writing (xs : List Fraction) (rest : List Entry) (k : ℕ) (out : List Fraction) : Type 0 where
  pub rising : Rising k (length xs) rest
  pub members : xs ≡ out ++ dense_from (length xs - k) k rest

pub writing_start : (xs : List Fraction) (es : List Entry) → AreEntriesOf xs es → Writing xs es 0 []
unfolding dense
writing_start xs es a =
    let e : length xs ≡ length xs - 0 = omega arith in
    record { rising = a.rising; members = sym a.values ∙ ap (λ n. dense_from n 0 es) e }

next_member : (n k : ℕ) (rest : List Entry) → k < n → dense_from (n - k) k rest ≡ at rest k ∷ dense_from (n - (k + 1)) (k + 1) rest
next_member n k rest h =
    let e : n - k ≡ suc (n - (k + 1)) = omega arith in
    let f : suc k ≡ k + 1 = omega arith in
    ap (λ m. dense_from m k rest) e ∙ ap (λ j. at rest k ∷ dense_from (n - (k + 1)) j rest) f

written : (xs out : List Fraction) (x y : Fraction) (ys zs : List Fraction) → xs ≡ out ++ x ∷ ys → x ≡ y → ys ≡ zs → xs ≡ (out ++ y ∷ []) ++ zs
written xs out x y ys zs h e f = h ∙ ap (λ z. out ++ z ∷ ys) e ∙ ap (λ l. out ++ y ∷ l) f ∙ sym (append_assoc out (y ∷ []) zs)

-- an entry at this place
writing_entry : (xs : List Fraction) (es : List Entry) (i k : ℕ) (e : Entry) (out : List Fraction) → Writing xs (drop i es) k out → k < length xs → i < length es → e ≡ get_or es i e → e.place ≡ k →
    Writing xs (drop (i + 1) es) (k + 1) (out ++ e.value ∷ [])
writing_entry xs es i k e out w h l q p =
    let rest : List Entry = drop (i + 1) es in
    let here : drop i es ≡ e ∷ rest = from_index es i e l q in
    let r : Rising k (length xs) (e ∷ rest) = subst (Rising k (length xs)) here w.rising in
    let f : suc e.place ≡ k + 1 = omega arith in
    record {
      rising = subst (λ j. Rising j (length xs) rest) f r.2;
      members = written xs out (at (e ∷ rest) k) e.value (dense_from (length xs - (k + 1)) (k + 1) (e ∷ rest)) (dense_from (length xs - (k + 1)) (k + 1) rest)
          (w.members ∙ ap (λ ds. out ++ dense_from (length xs - k) k ds) here ∙ ap (λ l. out ++ l) (next_member (length xs) k (e ∷ rest) h))
          (at_here e rest k p)
          (dense_same (length xs - (k + 1)) (k + 1) (e ∷ rest) rest (λ j a b. at_other e rest j (λ c. omega arith)));
    }

-- the next entry is at a later place
none_here : (rest : List Entry) (k n : ℕ) → Rising (k + 1) n rest → at rest k ≡ of_int (pos 0)
none_here rest k n r = at_below rest (k + 1) n k r (omega arith)

zero_by : (xs : List Fraction) (rest : List Entry) (k : ℕ) (out : List Fraction) → Writing xs rest k out → k < length xs → Rising (k + 1) (length xs) rest → Writing xs rest (k + 1) (out ++ of_int (pos 0) ∷ [])
zero_by xs rest k out w h r = record {
  rising = r;
  members = written xs out (at rest k) (of_int (pos 0)) (dense_from (length xs - (k + 1)) (k + 1) rest) (dense_from (length xs - (k + 1)) (k + 1) rest)
      (w.members ∙ ap (λ l. out ++ l) (next_member (length xs) k rest h)) (none_here rest k (length xs) r) refl;
}

writing_zero : (xs : List Fraction) (es : List Entry) (i k : ℕ) (e : Entry) (out : List Fraction) → Writing xs (drop i es) k out → k < length xs → i < length es → e ≡ get_or es i e → ¬ (e.place ≡ k) →
    Writing xs (drop i es) (k + 1) (out ++ of_int (pos 0) ∷ [])
writing_zero xs es i k e out w h l q p =
    let here : drop i es ≡ e ∷ drop (i + 1) es = from_index es i e l q in
    let r : Rising k (length xs) (e ∷ drop (i + 1) es) = subst (Rising k (length xs)) here w.rising in
    zero_by xs (drop i es) k out w h (subst (Rising (k + 1) (length xs)) (sym here) ((let a = r.0 in omega arith), r.1, r.2))

writing_past : (xs : List Fraction) (es : List Entry) (i k : ℕ) (out : List Fraction) → Writing xs (drop i es) k out → k < length xs → length es ≤ i → Writing xs (drop i es) (k + 1) (out ++ of_int (pos 0) ∷ [])
writing_past xs es i k out w h l =
    let none : drop i es ≡ [] = drop_all i es l in
    let r : k + 1 ≤ length xs = omega arith in
    zero_by xs (drop i es) k out w h (subst (Rising (k + 1) (length xs)) (sym none) r)

-- ---- as the loop reads an entry: each member of it on its own
pub entry_read : (xs : List Fraction) (es : List Entry) (i j k : ℕ) (d c : Entry) (out new : List Fraction) → Writing xs (drop i es) k out → k < length xs → i < length es → (get_or es i d).place ≡ k → j ≡ i + 1 → new ≡ out ++ (get_or es i c).value ∷ [] →
    Writing xs (drop j es) (k + 1) new
entry_read xs es i j k d c out new w h l p q m =
    let e : Entry = get_or es i d in
    let same : e ≡ get_or es i c = get_or_default es i d c l in
    subst (λ n. Writing xs (drop n es) (k + 1) new) (sym q)
    (subst (Writing xs (drop (i + 1) es) (k + 1)) (ap (λ (z : Entry). out ++ z.value ∷ []) same ∙ sym m)
    (writing_entry xs es i k e out w h l (get_or_default es i d e l) p))

pub later_read : (xs : List Fraction) (es : List Entry) (i j k : ℕ) (d : Entry) (z : Fraction) (out new : List Fraction) → Writing xs (drop i es) k out → k < length xs → i < length es → ¬ ((get_or es i d).place ≡ k) → j ≡ i → z ≡ of_int (pos 0) → new ≡ out ++ z ∷ [] →
    Writing xs (drop j es) (k + 1) new
later_read xs es i j k d z out new w h l p q n m =
    let e : Entry = get_or es i d in
    subst (λ n. Writing xs (drop n es) (k + 1) new) (sym q)
    (subst (Writing xs (drop i es) (k + 1)) (ap (λ z. out ++ z ∷ []) (sym n) ∙ sym m)
    (writing_zero xs es i k e out w h l (get_or_default es i d e l) p))

pub none_read : (xs : List Fraction) (es : List Entry) (i j k : ℕ) (z : Fraction) (out new : List Fraction) → Writing xs (drop i es) k out → k < length xs → length es ≤ i → j ≡ i → z ≡ of_int (pos 0) → new ≡ out ++ z ∷ [] → Writing xs (drop j es) (k + 1) new
none_read xs es i j k z out new w h l q n m =
    subst (λ n. Writing xs (drop n es) (k + 1) new) (sym q)
    (subst (Writing xs (drop i es) (k + 1)) (ap (λ z. out ++ z ∷ []) (sym n) ∙ sym m) (writing_past xs es i k out w h l))
