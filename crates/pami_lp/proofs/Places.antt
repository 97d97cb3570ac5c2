-- Where a column's sum stands, found by the place that is kept for the column.
use Rattle.std.proofs.Common.{◌≡◌, ◌≢◌, ◌<◌, ◌≤◌, ◌+◌, ℕ, zero, suc, Bool, true, false, true≢false, cond, nat_eq, List, [], ◌∷◌, ◌++◌, length, get_or, set, take, replicate, ◌-◌, Option, None, Some, is_some, Result, Ok, Err, ◌⊎◌, inl, inr, refl, sym, ap, subst, ◌∙◌, arith}
use Rattle.std.proofs.lemmas.Bool.{cases_lt, eqb-true, eqb-false}
use Rattle.std.proofs.Math.ListN.{get_or-append}
use Rattle.std.proofs.Math.Seq.{get_or-append_seam}
use Rattle.std.proofs.lemmas.List.{length-append, length-map, length-replicate, take_all, get_or-map, get_or_default, get_or-set_same, get_or-set_other, length-set}
use Rattle.pami_algebra.specs.Fraction.{Fraction}
use Rattle.pami_frac.specs.declared.list.Entry.{Entry}
use Rattle.pami_frac.specs.Answers.{then as chain}
use Rattle.pami_model.specs.declared.fault.FileKind.{FileKind}
use Rattle.pami_lp.specs.Values.{sum_of}
use Rattle.pami_lp.specs.Rules.{add_term, entry}
use Rattle.pami_lp.specs.Sums.{next_place, place_in}
use Rattle.pami_lp.specs.Placed.{ArePlaced, columns_in}

abbrev found_or : ℕ → Option ℕ → ℕ
found_or d None = d
found_or d (Some i) = i

same : {i j : ℕ} → Some i ≡ Some j → i ≡ j
same e = ap (found_or 0) e

none : {i : ℕ} {A : Type 0} → None ≡ Some i → A
none e = absurd (true≢false (sym (ap is_some e)))

-- what is found is a sum of the column
record Hit (es : List Entry) (column j : ℕ) : Type 0 where
  within : j < length es
  there : get_or (columns_in es) j 0 ≡ column

hit-later : (e : Entry) (es : List Entry) (column j : ℕ) (o : Option ℕ) → place_in es column ≡ o → next_place o ≡ Some j → ((i : ℕ) → place_in es column ≡ Some i → Hit es column i) → Hit (e ∷ es) column j
hit-later e es column j None f g ih = none g
hit-later e es column j (Some i) f g ih =
    let s = ih i f in
    let w : i < length es = s.within in
    subst (λ (k : ℕ). Hit (e ∷ es) column k) (same g) (record { within = omega arith; there = s.there })

hit-by : (e : Entry) (es : List Entry) (column j : ℕ) (b : Bool) → nat_eq e.place column ≡ b → cond b (Some 0) (next_place (place_in es column)) ≡ Some j → ((i : ℕ) → place_in es column ≡ Some i → Hit es column i) → Hit (e ∷ es) column j
hit-by e es column j true f g ih = subst (λ (k : ℕ). Hit (e ∷ es) column k) (same g) (record { within = omega arith; there = eqb-true e.place column f })
hit-by e es column j false f g ih = hit-later e es column j (place_in es column) refl g ih

hit : (es : List Entry) (column j : ℕ) → place_in es column ≡ Some j → Hit es column j
hit [] column j h = none h
hit (e ∷ es) column j h = hit-by e es column j (nat_eq e.place column) refl h (λ i k. hit es column i k)

-- and where there is one, it is found
held : (es : List Entry) (column i : ℕ) → i < length es → get_or (columns_in es) i 0 ≡ column → (j : ℕ) × (place_in es column ≡ Some j)
held [] column i lt e = absurd (omega arith)
held (x ∷ es) column zero lt e = (0, by (nat_eq x.place column) refl)
  where
    by : (b : Bool) → nat_eq x.place column ≡ b → cond b (Some 0) (next_place (place_in es column)) ≡ Some 0
    by true f = refl
    by false f = absurd (eqb-false x.place column f e)
held (x ∷ es) column (suc i) lt e = by (nat_eq x.place column) (held es column i (omega arith) e)
  where
    by : (b : Bool) → (j : ℕ) × (place_in es column ≡ Some j) → (j : ℕ) × (cond b (Some 0) (next_place (place_in es column)) ≡ Some j)
    by true h = (0, refl)
    by false h = (suc h.0, ap next_place h.1)

module _ (es : List Entry) (places : List ℕ) (is : ArePlaced es places) (column : ℕ) where
  -- the place that is kept for the column of a sum is the sum's
  kept_at : (j : ℕ) → Hit es column j → get_or places column (length es) ≡ j
  kept_at j h = ap (λ (k : ℕ). get_or places k (length es)) (sym h.there) ∙ is.at j h.within

  pub placed-found : (i : ℕ) → i < length es → get_or (columns_in es) i 0 ≡ column → Some i ≡ place_in es column
  placed-found i lt e =
      let f = held es column i lt e in
      let j : i ≡ f.0 = sym (kept_at i (record { within = lt; there = e })) ∙ kept_at f.0 (hit es column f.0 f.1) in
      ap (λ (k : ℕ). Some k) j ∙ sym f.1

  -- no sum, where no place is kept, or one behind the sums, or that of another column
  pub placed-none : ((j : ℕ) → get_or places column (length es) ≡ j → j < length es → get_or (columns_in es) j 0 ≢ column) → None ≡ place_in es column
  placed-none other = by (place_in es column) refl
    where
      by : (o : Option ℕ) → place_in es column ≡ o → None ≡ o
      by None e = refl
      by (Some j) e = let h = hit es column j e in absurd (other j (kept_at j h) h.within h.there)

-- a term of a column without a sum, and of one with a sum

pub add_term-new : (es : List Entry) (column : ℕ) (value : Fraction) → place_in es column ≡ None → add_term es column value ≡ Ok (es ++ entry column value ∷ [])
add_term-new [] column value h = refl
add_term-new (e ∷ es) column value h = by (nat_eq e.place column) h (λ k. add_term-new es column value k)
  where
    onward : (o : Option ℕ) → next_place o ≡ None → o ≡ None
    onward None g = refl
    onward (Some i) g = none (sym g)

    by : (b : Bool) → cond b (Some 0) (next_place (place_in es column)) ≡ None → (place_in es column ≡ None → add_term es column value ≡ Ok (es ++ entry column value ∷ []))
        → cond b (chain (sum_of e.value value) (λ t. Ok (entry column t ∷ es))) (chain (add_term es column value) (λ xs. Ok (e ∷ xs))) ≡ Ok (e ∷ (es ++ entry column value ∷ []))
    by true g ih = none (sym g)
    by false g ih = ap (λ (r : Result (List Entry) FileKind). chain r (λ xs. Ok (e ∷ xs))) (ih (onward (place_in es column) g))

chain_map : (r : Result Fraction FileKind) (f : Fraction → List Entry) (e : Entry) → chain (chain r (λ t. Ok (f t))) (λ xs. Ok (e ∷ xs)) ≡ chain r (λ t. Ok (e ∷ f t))
chain_map (Ok x) f e = refl
chain_map (Err k) f e = refl

pub add_term-old : (es : List Entry) (column i : ℕ) (value : Fraction) (d : Entry) → place_in es column ≡ Some i → add_term es column value ≡ chain (sum_of (get_or es i d).value value) (λ t. Ok (set es i (entry column t)))
add_term-old [] column i value d h = none h
add_term-old (e ∷ es) column i value d h = by (nat_eq e.place column) h (λ j k. add_term-old es column j value d k)
  where
    onward : (o : Option ℕ) → next_place o ≡ Some i → (j : ℕ) × (o ≡ Some j) × (suc j ≡ i)
    onward None g = none g
    onward (Some j) g = (j, refl, same g)

    at : (j : ℕ) → suc j ≡ i → add_term es column value ≡ chain (sum_of (get_or es j d).value value) (λ t. Ok (set es j (entry column t)))
        → chain (add_term es column value) (λ xs. Ok (e ∷ xs)) ≡ chain (sum_of (get_or (e ∷ es) i d).value value) (λ t. Ok (set (e ∷ es) i (entry column t)))
    at j s f =
        ap (λ (r : Result (List Entry) FileKind). chain r (λ xs. Ok (e ∷ xs))) f ∙ chain_map (sum_of (get_or es j d).value value) (λ t. set es j (entry column t)) e
        ∙ ap (λ (k : ℕ). chain (sum_of (get_or (e ∷ es) k d).value value) (λ t. Ok (set (e ∷ es) k (entry column t)))) s

    by : (b : Bool) → cond b (Some 0) (next_place (place_in es column)) ≡ Some i
        → ((j : ℕ) → place_in es column ≡ Some j → add_term es column value ≡ chain (sum_of (get_or es j d).value value) (λ t. Ok (set es j (entry column t))))
        → cond b (chain (sum_of e.value value) (λ t. Ok (entry column t ∷ es))) (chain (add_term es column value) (λ xs. Ok (e ∷ xs))) ≡ chain (sum_of (get_or (e ∷ es) i d).value value) (λ t. Ok (set (e ∷ es) i (entry column t)))
    by true g ih = ap (λ (k : ℕ). chain (sum_of (get_or (e ∷ es) k d).value value) (λ t. Ok (set (e ∷ es) k (entry column t)))) (same g)
    by false g ih = let f = onward (place_in es column) g in at f.0 f.2 (ih f.0 f.1)

-- ---- lists of places

pub past_places : (places : List ℕ) (column d : ℕ) → length places ≤ column → get_or places column d ≡ d
past_places [] column d le = refl
past_places (p ∷ ps) zero d le = absurd (omega arith)
past_places (p ∷ ps) (suc i) d le = past_places ps i d (omega arith)

pub at_place : (places : List ℕ) (column d : ℕ) → column < length places → get_or places column 0 ≡ get_or places column d
at_place places column d lt = get_or_default places column 0 d lt

pub column_here : (es : List Entry) (i : ℕ) (d : Entry) → i < length es → (get_or es i d).place ≡ get_or (columns_in es) i 0
column_here es i d lt = sym (get_or-map (λ (y : Entry). y.place) es i d 0 lt)

-- ---- places stay kept

placed-same : (es fs : List Entry) (places : List ℕ) → columns_in fs ≡ columns_in es → length fs ≡ length es → ArePlaced es places → ArePlaced fs places
placed-same es fs places e n is = record {
  at = λ i lt. ap (λ (k : ℕ). get_or places (get_or (columns_in fs) i 0) k) n ∙ ap (λ (xs : List ℕ). get_or places (get_or xs i 0) (length es)) e ∙ is.at i (omega (arith, n, lt));
}

columns-set : (es : List Entry) (i : ℕ) (x : Entry) → get_or (columns_in es) i 0 ≡ x.place → columns_in (set es i x) ≡ columns_in es
columns-set [] i x e = refl
columns-set (y ∷ es) zero x e = ap (λ (k : ℕ). k ∷ columns_in es) (sym e)
columns-set (y ∷ es) (suc i) x e = ap (λ (ks : List ℕ). y.place ∷ ks) (columns-set es i x e)

-- another sum of a column
pub placed-set : (es : List Entry) (places : List ℕ) (column i : ℕ) (value : Fraction) → ArePlaced es places → place_in es column ≡ Some i → ArePlaced (set es i (entry column value)) places
placed-set es places column i value is e = placed-same es (set es i (entry column value)) places (columns-set es i (entry column value) (hit es column i e).there) (length-set es i (entry column value)) is

columns-push : (es : List Entry) (x : Entry) → columns_in (es ++ x ∷ []) ≡ columns_in es ++ x.place ∷ []
columns-push [] x = refl
columns-push (e ∷ es) x = ap (λ (ks : List ℕ). e.place ∷ ks) (columns-push es x)

length-push : (es : List Entry) (x : Entry) → length (es ++ x ∷ []) ≡ length es + 1
length-push [] x = refl
length-push (e ∷ es) x = let h : length (es ++ x ∷ []) ≡ length es + 1 = length-push es x in omega arith

module _ (es : List Entry) (old places : List ℕ) (column : ℕ) (value : Fraction) (is : ArePlaced es old) (new : place_in es column ≡ None) (lt : column < length places) (kept : (k d : ℕ) → k < length old → get_or places k d ≡ get_or old k d) where
  begun-before : (i n : ℕ) → i < length es → get_or (set places column (length es)) (get_or (columns_in es) i 0) n ≡ i
  begun-before i n low = by (cases_lt (get_or (columns_in es) i 0) (length old))
    where
      there : get_or old (get_or (columns_in es) i 0) (length es) ≡ i
      there = is.at i low

      other : get_or (columns_in es) i 0 ≢ column
      other e = let h = held es column i low e in none (sym new ∙ h.1)

      by : (get_or (columns_in es) i 0 < length old) ⊎ (length old ≤ get_or (columns_in es) i 0) → get_or (set places column (length es)) (get_or (columns_in es) i 0) n ≡ i
      by (inl within) = get_or-set_other places column (get_or (columns_in es) i 0) (length es) n other ∙ kept (get_or (columns_in es) i 0) n within ∙ get_or_default old (get_or (columns_in es) i 0) n (length es) within ∙ there
      by (inr over) = let e : length es ≡ i = sym (past_places old (get_or (columns_in es) i 0) (length es) over) ∙ there in absurd (omega (arith, e, low))

  begun-at : (i n : ℕ) → i < length es + 1 → get_or (set places column (length es)) (get_or (columns_in es ++ column ∷ []) i 0) n ≡ i
  begun-at i n h = by (cases_lt i (length es))
    where
      m : length (columns_in es) ≡ length es
      m = length-map es (λ (e : Entry). e.place)

      by : (i < length es) ⊎ (length es ≤ i) → get_or (set places column (length es)) (get_or (columns_in es ++ column ∷ []) i 0) n ≡ i
      by (inl low) = ap (λ (k : ℕ). get_or (set places column (length es)) k n) (get_or-append (columns_in es) (column ∷ []) 0 i (omega (arith, m, low))) ∙ begun-before i n low
      by (inr over) =
          let e : i ≡ length (columns_in es) = omega (arith, m, over, h) in
          ap (λ (j : ℕ). get_or (set places column (length es)) (get_or (columns_in es ++ column ∷ []) j 0) n) e
          ∙ ap (λ (k : ℕ). get_or (set places column (length es)) k n) (get_or-append_seam (columns_in es) column [] 0) ∙ get_or-set_same places column (length es) n lt ∙ omega (arith, m, over, h)

  -- a column's first sum, behind the others
  pub placed-begun : ArePlaced (es ++ entry column value ∷ []) (set places column (length es))
  placed-begun = record {
    at = λ i h. ap (λ (ks : List ℕ). get_or (set places column (length es)) (get_or ks i 0) (length (es ++ entry column value ∷ []))) (columns-push es (entry column value))
        ∙ begun-at i (length (es ++ entry column value ∷ [])) (omega (arith, h, length-push es (entry column value)));
  }

-- places are kept where fillers are put behind them
pub resized : (old new : List ℕ) (n m : ℕ) → new ≡ take n old ++ replicate (n - m) 0 → length old ≤ n → (k d : ℕ) → k < length old → get_or new k d ≡ get_or old k d
resized old new n m e le k d lt = ap (λ (xs : List ℕ). get_or xs k d) (e ∙ ap (λ (xs : List ℕ). xs ++ replicate (n - m) 0) (take_all n old le)) ∙ get_or-append old (replicate (n - m) 0) d k lt

pub length-resized : (old new : List ℕ) (n m : ℕ) → new ≡ take n old ++ replicate (n - m) 0 → length old ≤ n → m ≡ length old → length new ≡ n
length-resized old new n m e le f =
    let fill : List ℕ = replicate (n - m) 0 in
    let a : length (old ++ fill) ≡ length old + length fill = length-append old fill in
    let b : length fill ≡ n - m = length-replicate (n - m) 0 in
    ap length (e ∙ ap (λ (xs : List ℕ). xs ++ replicate (n - m) 0) (take_all n old le)) ∙ a ∙ omega (arith, b, f, le)
