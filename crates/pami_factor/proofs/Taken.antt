-- The rests of all places, when the entries of a kept row are gone through.
use Rattle.std.proofs.Common.{◌≡◌, ℕ, suc, ◌+◌, ◌<◌, ◌≤◌, List, [], ◌∷◌, ◌++◌, length, take, drop, append-nil, set, get_or, refl, sym, ap, ◌∙◌, subst, arith, ⊎_elim, Result, Ok, Err}
use Rattle.std.proofs.lemmas.Bool.{cases_eq, cases_lt}
use Rattle.std.proofs.lemmas.List.{get_or-set_same, get_or-set_other, drop_all, take_all, length-set}
use lib.IntN.{pos}
use Rattle.pami_algebra.specs.Fraction.{Fraction}
use Rattle.pami_algebra.specs.Operations.{of_int}
use Rattle.pami_frac.specs.declared.arithmetic.Refused.{Refused}
use Rattle.pami_frac.specs.declared.list.Entry.{Entry}
use Rattle.pami_script.specs.Dense.{at, Rising}
use Rattle.pami_script.specs.Script.{then, sub_product}
use Rattle.pami_script.proofs.Skipped.{at_here, at_other, at_below, sub_zero_left, sub_zero_right}
use Rattle.pami_vec.proofs.Built.{from_index}
use Rattle.pami_factor.specs.Reads.{rest_at}

-- what becomes of a rest
abbrev pub taken : Fraction → Fraction → Result Fraction Refused → Result Fraction Refused
taken factor value rest = then rest (λ t. sub_product t factor value)

pub taken_none : (factor : Fraction) (r : Result Fraction Refused) → taken factor (of_int (pos 0)) r ≡ r
taken_none factor (Ok t) = sub_zero_right t factor
taken_none factor (Err r) = refl

-- a factor 0 takes nothing
pub zero_takes : (factor value : Fraction) (r : Result Fraction Refused) → factor ≡ of_int (pos 0) → r ≡ taken factor value r
zero_takes factor value (Ok t) e = sym (ap (λ f. sub_product t f value) e ∙ sub_zero_left t value)
zero_takes factor value (Err r) e = refl

-- places below `low` are done, those from there on stand as they were
pub record IsTaking (factor : Fraction) (own : ℕ) (old : List (Result Fraction Refused)) (es left : List Entry) (now : List (Result Fraction Refused)) : Type 0 where
  pub low : ℕ
  pub rising : Rising low (length old) left
  pub as_many : length now ≡ length old
  pub done : (g : ℕ) → g < low → ¬ (g ≡ own) → rest_at now g ≡ taken factor (at es g) (rest_at old g)
  pub ahead : (g : ℕ) → low ≤ g → rest_at now g ≡ rest_at old g
  pub same : (g : ℕ) → low ≤ g → at left g ≡ at es g

pub taking_start : (factor : Fraction) (own : ℕ) (old : List (Result Fraction Refused)) (es : List Entry) → Rising 0 (length old) es → IsTaking factor own old es es old
taking_start factor own old es r = record { low = 0; rising = r; as_many = refl; done = λ g l n. absurd (omega arith); ahead = λ g l. refl; same = λ g l. refl }

-- places before the next entry
passed_by : (factor : Fraction) (own : ℕ) (old : List (Result Fraction Refused)) (es left : List Entry) (now : List (Result Fraction Refused)) (low high g : ℕ) → IsTaking factor own old es left now → Rising low high left → g < low → ¬ (g ≡ own) →
    rest_at now g ≡ taken factor (at es g) (rest_at old g)
passed_by factor own old es left now low high g h r l n = ⊎_elim
    (λ (m : g < h.low). h.done g m n)
    (λ (m : h.low ≤ g).
    h.ahead g m ∙ sym (ap (λ v. taken factor v (rest_at old g)) (sym (h.same g m) ∙ at_below left low high g r l) ∙ taken_none factor (rest_at old g)))
    (cases_lt g h.low)

pub taking_place : (factor : Fraction) (own : ℕ) (old : List (Result Fraction Refused)) (es : List Entry) (i : ℕ) (e : Entry) (now : List (Result Fraction Refused)) → IsTaking factor own old es (drop i es) now → i < length es → e ≡ get_or es i e → e.place < length now
taking_place factor own old es i e now h l q =
    let r : Rising h.low (length old) (e ∷ drop (i + 1) es) = subst (Rising h.low (length old)) (from_index es i e l q) h.rising in
    let k : e.place < length old = r.1 in
    let n : length now ≡ length old = h.as_many in
    omega arith

-- the entry at the pivot's own place
pub taking_own : (factor : Fraction) (own : ℕ) (old : List (Result Fraction Refused)) (es : List Entry) (i : ℕ) (e : Entry) (now : List (Result Fraction Refused)) → IsTaking factor own old es (drop i es) now → i < length es → e ≡ get_or es i e → e.place ≡ own →
    IsTaking factor own old es (drop (i + 1) es) now
taking_own factor own old es i e now h l q o =
    let rest : List Entry = drop (i + 1) es in
    let here : drop i es ≡ e ∷ rest = from_index es i e l q in
    let r : Rising h.low (length old) (e ∷ rest) = subst (Rising h.low (length old)) here h.rising in
    let from : IsTaking factor own old es (e ∷ rest) now = subst (λ ds. IsTaking factor own old es ds now) here h in
    let low : h.low ≤ e.place = r.0 in
    record {
      low = suc e.place;
      rising = r.2;
      as_many = h.as_many;
      done = λ g m n. passed_by factor own old es (e ∷ rest) now e.place (length old) g from (let z : e.place ≤ e.place = omega arith in (z, r.1, r.2)) (let d : ¬ (g ≡ e.place) = λ w. n (w ∙ o) in omega arith) n;
      ahead = λ g m. h.ahead g (omega arith);
      same = λ g m. sym (at_other e rest g (λ s. omega arith)) ∙ ap (λ ds. at ds g) (sym here) ∙ h.same g (omega arith);
    }

-- an entry at another place
pub taking_next : (factor : Fraction) (own : ℕ) (old : List (Result Fraction Refused)) (es : List Entry) (i : ℕ) (e : Entry) (now : List (Result Fraction Refused)) (x y : Result Fraction Refused) → IsTaking factor own old es (drop i es) now → i < length es → e ≡ get_or es i e →
    x ≡ rest_at now e.place → y ≡ taken factor e.value x → IsTaking factor own old es (drop (i + 1) es) (set now e.place y)
taking_next factor own old es i e now x y h l q f g =
    let rest : List Entry = drop (i + 1) es in
    let p : ℕ = e.place in
    let here : drop i es ≡ e ∷ rest = from_index es i e l q in
    let r : Rising h.low (length old) (e ∷ rest) = subst (Rising h.low (length old)) here h.rising in
    let from : IsTaking factor own old es (e ∷ rest) now = subst (λ ds. IsTaking factor own old es ds now) here h in
    let low : h.low ≤ p = r.0 in
    let k : p < length now = taking_place factor own old es i e now h l q in
    let value : at es p ≡ e.value = sym (h.same p low) ∙ ap (λ ds. at ds p) here ∙ at_here e rest p refl in
    record {
      low = suc p;
      rising = r.2;
      as_many = length-set now p y ∙ h.as_many;
      done = λ j m n. ⊎_elim
          (λ (s : j ≡ p). ap (rest_at (set now p y)) s ∙ get_or-set_same now p y (Ok (of_int (pos 0))) k ∙ g ∙ ap (taken factor e.value) (f ∙ h.ahead p low)
          ∙ ap (λ v. taken factor v (rest_at old p)) (sym value) ∙ ap (λ i. taken factor (at es i) (rest_at old i)) (sym s))
          (λ (s : ¬ (j ≡ p)). get_or-set_other now p j y (Ok (of_int (pos 0))) s
          ∙ passed_by factor own old es (e ∷ rest) now p (length old) j from (let z : p ≤ p = omega arith in (z, r.1, r.2)) (omega arith) n)
          (cases_eq j p);
      ahead = λ j m. get_or-set_other now p j y (Ok (of_int (pos 0))) (λ s. omega arith) ∙ h.ahead j (omega arith);
      same = λ j m. sym (at_other e rest j (λ s. omega arith)) ∙ ap (λ ds. at ds j) (sym here) ∙ h.same j (omega arith);
    }

pub taking_end : (factor : Fraction) (own : ℕ) (old : List (Result Fraction Refused)) (es : List Entry) (i : ℕ) (now : List (Result Fraction Refused)) → IsTaking factor own old es (drop i es) now → length es ≤ i → (g : ℕ) → ¬ (g ≡ own) →
    rest_at now g ≡ taken factor (at es g) (rest_at old g)
taking_end factor own old es i now h l g n =
    let here : drop i es ≡ [] = drop_all i es l in
    let from : IsTaking factor own old es [] now = subst (λ ds. IsTaking factor own old es ds now) here h in
    passed_by factor own old es [] now (suc g) (suc g) g from (let z : suc g ≤ suc g = omega arith in z) (omega arith) n

-- a list that is written back whole into one of the same length
pub written : {A : Type 0} (n : ℕ) (new old : List A) → length new ≡ length old → n ≡ length old → take n (new ++ drop (length new) old) ≡ new
written n new old e l =
    ap (λ zs. take n (new ++ zs)) (drop_all (length new) old (omega arith)) ∙ ap (take n) (append-nil new) ∙ take_all n new (omega arith)
