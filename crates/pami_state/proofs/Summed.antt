-- The sums of the rows: one product more, one column more, and all of them as one script.
use Rattle.std.proofs.Common.{◌≡◌, ℕ, zero, suc, ◌+◌, ◌<◌, ◌≤◌, List, [], ◌∷◌, ◌++◌, length, take, drop, get_or, set, refl, sym, ap, ◌∙◌, subst, arith, Result, Ok, ⊎_elim}
use Rattle.std.proofs.lemmas.Bool.{cases_eq}
use Rattle.std.proofs.lemmas.List.{length-set, get_or-set_same, get_or-set_other, get_or_default, drop_all, append-nil, take_all}
use Rattle.pami_algebra.specs.Fraction.{Fraction}
use Rattle.pami_linear.specs.Lists.{get}
use Rattle.pami_frac.specs.declared.arithmetic.Refused.{Refused}
use Rattle.pami_frac.specs.declared.list.Entry.{Entry}
use Rattle.pami_script.specs.Script.{then, each, add_product, add_dot}
use Rattle.pami_script.specs.Dense.{at, Rising}
use Rattle.pami_script.proofs.Scripts.{then_same, then_unit, then_assoc}
use Rattle.pami_script.proofs.Skipped.{at_here, at_other, at_below, add_zero_left, add_zero_right}
use Rattle.pami_vec.specs.Entries.{AreEntriesOf}
use Rattle.pami_vec.proofs.Built.{from_index}
use Rattle.pami_vec.proofs.Scripted.{get_at}
use Rattle.pami_theory.specs.Form.{zero_f}
use Rattle.pami_state.specs.Columns.{column_of}
use Rattle.pami_state.specs.Sums.{sum_at, sum_more, AddsColumn, AreSums}

-- ---- one product more
-- a zero adds nothing
more_zero : (s : Result Fraction Refused) (x : Fraction) → sum_more s zero_f x ≡ s
more_zero s x = then_same s (λ t. add_product t zero_f x) (λ t. Ok t) (λ t. add_zero_left t x) ∙ then_unit s

more_times_zero : (s : Result Fraction Refused) (a : Fraction) → sum_more s a zero_f ≡ s
more_times_zero s a = then_same s (λ t. add_product t a zero_f) (λ t. Ok t) (λ t. add_zero_right t a) ∙ then_unit s

-- ---- one column more: what the entries that are left still add leads to what all entries add
pub record Adding (old : List (Result Fraction Refused)) (es rest : List Entry) (x : Fraction) (now : List (Result Fraction Refused)) : Type 0 where
  pub low : ℕ
  pub rising : Rising low (length old) rest
  pub as_many : length now ≡ length old
  pub at : (i : ℕ) → i < length old → sum_more (sum_at now i) (at rest i) x ≡ sum_more (sum_at old i) (at es i) x

pub adding_row : (old : List (Result Fraction Refused)) (es : List Entry) (i : ℕ) (x : Fraction) (now : List (Result Fraction Refused)) (e : Entry) → Adding old es (drop i es) x now → i < length es → e ≡ get_or es i e → e.place < length now
adding_row old es i x now e h l q =
    let r : Rising h.low (length old) (e ∷ drop (i + 1) es) = subst (Rising h.low (length old)) (from_index es i e l q) h.rising in
    let k : e.place < length old = r.1 in
    let n : length now ≡ length old = h.as_many in
    omega arith

-- the row of the entry goes on, and no other
added_here : (now : List (Result Fraction Refused)) (e : Entry) (rest : List Entry) (x : Fraction) (high : ℕ) → Rising (suc e.place) high rest → e.place < length now →
    sum_more (sum_at (set now e.place (sum_more (sum_at now e.place) e.value x)) e.place) (at rest e.place) x ≡ sum_more (sum_at now e.place) (at (e ∷ rest) e.place) x
added_here now e rest x high r l =
    ap (λ s. sum_more s (at rest e.place) x) (get_or-set_same now e.place (sum_more (sum_at now e.place) e.value x) (Ok zero_f) l)
    ∙ ap (λ a. sum_more (sum_more (sum_at now e.place) e.value x) a x) (at_below rest (suc e.place) high e.place r (omega arith))
    ∙ more_zero (sum_more (sum_at now e.place) e.value x) x
    ∙ ap (λ a. sum_more (sum_at now e.place) a x) (sym (at_here e rest e.place refl))

added_elsewhere : (now : List (Result Fraction Refused)) (e : Entry) (rest : List Entry) (x : Fraction) (s : Result Fraction Refused) (i : ℕ) → ¬ (e.place ≡ i) →
    sum_more (sum_at (set now e.place s) i) (at rest i) x ≡ sum_more (sum_at now i) (at (e ∷ rest) i) x
added_elsewhere now e rest x s i n =
    ap (λ t. sum_more t (at rest i) x) (get_or-set_other now e.place i s (Ok zero_f) (λ h. n (sym h)))
    ∙ ap (λ a. sum_more (sum_at now i) a x) (sym (at_other e rest i n))

added : (now : List (Result Fraction Refused)) (e : Entry) (rest : List Entry) (x : Fraction) (high i : ℕ) → Rising (suc e.place) high rest → e.place < length now →
    sum_more (sum_at (set now e.place (sum_more (sum_at now e.place) e.value x)) i) (at rest i) x ≡ sum_more (sum_at now i) (at (e ∷ rest) i) x
added now e rest x high i r l = ⊎_elim
    (λ (h : e.place ≡ i). subst (λ k. sum_more (sum_at (set now e.place (sum_more (sum_at now e.place) e.value x)) k) (at rest k) x ≡ sum_more (sum_at now k) (at (e ∷ rest) k) x) h (added_here now e rest x high r l))
    (λ (h : ¬ (e.place ≡ i)). added_elsewhere now e rest x (sum_more (sum_at now e.place) e.value x) i h)
    (cases_eq e.place i)

pub adding_more : (old : List (Result Fraction Refused)) (es : List Entry) (i : ℕ) (x : Fraction) (now : List (Result Fraction Refused)) (e : Entry) (s t : Result Fraction Refused) → Adding old es (drop i es) x now → i < length es → e ≡ get_or es i e →
    s ≡ sum_at now e.place → t ≡ sum_more s e.value x → Adding old es (drop (i + 1) es) x (set now e.place t)
adding_more old es i x now e s t h l q f g =
    let rest : List Entry = drop (i + 1) es in
    let here : drop i es ≡ e ∷ rest = from_index es i e l q in
    let r : Rising h.low (length old) (e ∷ rest) = subst (Rising h.low (length old)) here h.rising in
    let k : e.place < length now = adding_row old es i x now e h l q in
    let same : t ≡ sum_more (sum_at now e.place) e.value x = g ∙ ap (λ z. sum_more z e.value x) f in
    record {
      low = suc e.place;
      rising = r.2;
      as_many = length-set now e.place t ∙ h.as_many;
      at = λ j m. ap (λ z. sum_more (sum_at (set now e.place z) j) (at rest j) x) same
          ∙ added now e rest x (length old) j r.2 k
          ∙ ap (λ ds. sum_more (sum_at now j) (at ds j) x) (sym here)
          ∙ h.at j m;
    }

pub adding_end : (old : List (Result Fraction Refused)) (column : List Fraction) (es : List Entry) (i : ℕ) (x : Fraction) (now : List (Result Fraction Refused)) → length old ≡ length column → AreEntriesOf column es → Adding old es (drop i es) x now → length es ≤ i → AddsColumn old column x now
adding_end old column es i x now n a h l =
    let here : drop i es ≡ [] = drop_all i es l in
    record {
      as_many = h.as_many;
      at = λ j m. sym (more_zero (sum_at now j) x)
          ∙ ap (λ ds. sum_more (sum_at now j) (at ds j) x) (sym here)
          ∙ h.at j m
          ∙ ap (λ z. sum_more (sum_at old j) z x) (sym (get_at column es j a (omega arith)));
    }

-- ---- the sums over the first columns
-- the last step of a script over places
pub each_last : {A : Type 0} (n k : ℕ) (step : ℕ → A → Result A Refused) (a : A) → each (suc n) k step a ≡ then (each n k step a) (λ b. step (k + n) b)
each_last zero k step a = then_unit (step k a) ∙ (let e : k ≡ k + 0 = omega arith in ap (λ j. step j a) e)
each_last (suc n) k step a =
    then_same (step k a) (λ b. each (suc n) (suc k) step b) (λ b. then (each n (suc k) step b) (λ c. step (suc k + n) c)) (λ b. each_last n (suc k) step b)
    ∙ sym (then_assoc (step k a) (λ b. each n (suc k) step b) (λ c. step (suc k + n) c))
    ∙ (let e : suc k + n ≡ k + suc n = omega arith in ap (λ j. then (each (suc n) k step a) (λ c. step j c)) e)

pub dot_last : (n : ℕ) (u v : ℕ → Fraction) (t : Fraction) → add_dot (n + 1) u v t ≡ sum_more (add_dot n u v t) (u n) (v n)
dot_last n u v t =
    let e : n + 1 ≡ suc n = omega arith in
    ap (λ m. add_dot m u v t) e ∙ each_last n 0 (λ i t. add_product t (u i) (v i)) t
    ∙ (let g : 0 + n ≡ n = omega arith in ap (λ j. sum_more (add_dot n u v t) (u j) (v j)) g)

pub sums_more : (columns : List (List Fraction)) (rows j : ℕ) (x : ℕ → Fraction) (column : List Fraction) (value : Fraction) (old new : List (Result Fraction Refused)) → AreSums columns rows j x old → column ≡ column_of columns j → value ≡ x j →
    AddsColumn old column value new → AreSums columns rows (j + 1) x new
sums_more columns rows j x column value old new s e h a =
    let n : length old ≡ rows = s.by_row in
    record {
      by_row = a.as_many ∙ s.by_row;
      at = λ i l. a.at i (omega arith)
          ∙ ap (λ t. sum_more t (get column i) value) (s.at i l)
          ∙ ap (λ c. sum_more (add_dot j (λ k. get (column_of columns k) i) x zero_f) (get c i) value) e
          ∙ ap (λ z. sum_more (add_dot j (λ k. get (column_of columns k) i) x zero_f) (get (column_of columns j) i) z) h
          ∙ sym (dot_last j (λ k. get (column_of columns k) i) x zero_f);
    }

-- a column of value 0 may be left out
pub sums_skip : (columns : List (List Fraction)) (rows j : ℕ) (x : ℕ → Fraction) (sums : List (Result Fraction Refused)) → AreSums columns rows j x sums → zero_f ≡ x j → AreSums columns rows (j + 1) x sums
sums_skip columns rows j x sums s h = record {
  by_row = s.by_row;
  at = λ i l. s.at i l
      ∙ sym (more_times_zero (add_dot j (λ k. get (column_of columns k) i) x zero_f) (get (column_of columns j) i))
      ∙ ap (λ z. sum_more (add_dot j (λ k. get (column_of columns k) i) x zero_f) (get (column_of columns j) i) z) h
      ∙ sym (dot_last j (λ k. get (column_of columns k) i) x zero_f);
}

-- ---- as code reads and writes them
pub column_read : (columns : List (List Fraction)) (j : ℕ) (column : List Fraction) → j < length columns → column ≡ get_or columns j column → column ≡ column_of columns j
column_read columns j column l e = e ∙ get_or_default columns j column [] l

-- a list that was written whole through a slice of it
pub written : {A : Type 0} (n : ℕ) (old new : List A) → n ≡ length old → length new ≡ length old → take n (new ++ drop (length new) old) ≡ new
written n old new e h =
    let r : drop (length new) old ≡ [] = drop_all (length new) old (omega arith) in
    let m : length new ≤ n = omega arith in
    ap (λ xs. take n (new ++ xs)) r ∙ ap (take n) (append-nil new) ∙ take_all n new m
