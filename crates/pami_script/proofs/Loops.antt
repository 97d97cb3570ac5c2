-- What a loop that follows a script knows: one step on, at a refusal and at its end. Equations stand as code gives them.
use Rattle.std.proofs.Common.{◌≡◌, ℕ, zero, suc, ◌+◌, ◌-◌, ◌<◌, ◌≤◌, List, [], ◌∷◌, length, drop, get_or, sym, ap, ◌∙◌, subst, arith, Result, Ok, Err}
use Rattle.std.proofs.lemmas.List.{at_drop_more, at_drop_all, get_or_default}
use lib.IntN.{pos}
use Rattle.pami_algebra.specs.Fraction.{Fraction}
use Rattle.pami_algebra.specs.Operations.{of_int}
use Rattle.pami_frac.specs.Arithmetic.{add_outcome, sub_outcome, mul_outcome}
use Rattle.pami_frac.specs.declared.arithmetic.Refused.{Refused}
use Rattle.pami_frac.specs.declared.list.Entry.{Entry}
use Rattle.pami_script.specs.Script.{then, each, each_entry, add_product, sub_product}
use Rattle.pami_linear.specs.Lists.{get}
use Rattle.pami_script.specs.Dense.{Rising}
use Rattle.pami_script.proofs.Scripts.{then_go, then_stop}

-- ---- one step of a sum of products
pub add_done : (t x y p s : Fraction) → Ok p ≡ mul_outcome x y → Ok s ≡ add_outcome t p → add_product t x y ≡ Ok s
add_done t x y p s e f = then_go (mul_outcome x y) (λ p. add_outcome t p) p (sym e) ∙ sym f

pub add_stops_first : (t x y : Fraction) (r : Refused) → Err r ≡ mul_outcome x y → add_product t x y ≡ Err r
add_stops_first t x y r e = then_stop (mul_outcome x y) (λ p. add_outcome t p) r (sym e)

pub add_stops_last : (t x y p : Fraction) (r : Refused) → Ok p ≡ mul_outcome x y → Err r ≡ add_outcome t p → add_product t x y ≡ Err r
add_stops_last t x y p r e f = then_go (mul_outcome x y) (λ p. add_outcome t p) p (sym e) ∙ sym f

pub sub_done : (t x y p s : Fraction) → Ok p ≡ mul_outcome x y → Ok s ≡ sub_outcome t p → sub_product t x y ≡ Ok s
sub_done t x y p s e f = then_go (mul_outcome x y) (λ p. sub_outcome t p) p (sym e) ∙ sym f

pub sub_stops_first : (t x y : Fraction) (r : Refused) → Err r ≡ mul_outcome x y → sub_product t x y ≡ Err r
sub_stops_first t x y r e = then_stop (mul_outcome x y) (λ p. sub_outcome t p) r (sym e)

pub sub_stops_last : (t x y p : Fraction) (r : Refused) → Ok p ≡ mul_outcome x y → Err r ≡ sub_outcome t p → sub_product t x y ≡ Err r
sub_stops_last t x y p r e f = then_go (mul_outcome x y) (λ p. sub_outcome t p) p (sym e) ∙ sym f

-- ---- a loop over n places that has come to i
pub each_one : {A : Type 0} (n i : ℕ) (step : ℕ → A → Result A Refused) (a : A) → i < n → each (n - i) i step a ≡ then (step i a) (λ b. each (n - (i + 1)) (i + 1) step b)
each_one n i step a h =
    let e : n - i ≡ suc (n - (i + 1)) = omega arith in
    let f : suc i ≡ i + 1 = omega arith in
    subst (λ m. each m i step a ≡ then (step i a) (λ b. each (n - (i + 1)) (i + 1) step b)) (sym e)
    (ap (λ j. then (step i a) (λ b. each (n - (i + 1)) j step b)) f)

pub each_goes : {A : Type 0} (s : Result A Refused) (n i : ℕ) (step : ℕ → A → Result A Refused) (a b : A) → s ≡ each (n - i) i step a → i < n → step i a ≡ Ok b → s ≡ each (n - (i + 1)) (i + 1) step b
each_goes s n i step a b e h f = e ∙ each_one n i step a h ∙ then_go (step i a) (λ b. each (n - (i + 1)) (i + 1) step b) b f

pub each_stops : {A : Type 0} (s : Result A Refused) (n i : ℕ) (step : ℕ → A → Result A Refused) (a : A) (r : Refused) → s ≡ each (n - i) i step a → i < n → step i a ≡ Err r → Err r ≡ s
each_stops s n i step a r e h f = sym (e ∙ each_one n i step a h ∙ then_stop (step i a) (λ b. each (n - (i + 1)) (i + 1) step b) r f)

-- ---- a loop over entries that has come to the entry of index i
pub entry_one : {A : Type 0} (es : List Entry) (i : ℕ) (x : Entry) (step : Entry → A → Result A Refused) (a : A) → i < length es → x ≡ get_or es i x →
    each_entry (drop i es) step a ≡ then (step x a) (λ b. each_entry (drop (i + 1) es) step b)
entry_one es i x step a h q =
    at_drop_more (λ es. each_entry es step a) es i x h ∙ ap (λ y. then (step y a) (λ b. each_entry (drop (i + 1) es) step b)) (sym q)

pub entry_goes : {A : Type 0} (s : Result A Refused) (es : List Entry) (i : ℕ) (x : Entry) (step : Entry → A → Result A Refused) (a b : A) → s ≡ each_entry (drop i es) step a → i < length es → x ≡ get_or es i x → step x a ≡ Ok b →
    s ≡ each_entry (drop (i + 1) es) step b
entry_goes s es i x step a b e h q f = e ∙ entry_one es i x step a h q ∙ then_go (step x a) (λ b. each_entry (drop (i + 1) es) step b) b f

pub entry_stops : {A : Type 0} (s : Result A Refused) (es : List Entry) (i : ℕ) (x : Entry) (step : Entry → A → Result A Refused) (a : A) (r : Refused) → s ≡ each_entry (drop i es) step a → i < length es → x ≡ get_or es i x → step x a ≡ Err r →
    Err r ≡ s
entry_stops s es i x step a r e h q f = sym (e ∙ entry_one es i x step a h q ∙ then_stop (step x a) (λ b. each_entry (drop (i + 1) es) step b) r f)

pub entry_ends : {A : Type 0} (s : Result A Refused) (es : List Entry) (i : ℕ) (step : Entry → A → Result A Refused) (a : A) → s ≡ each_entry (drop i es) step a → length es ≤ i → Ok a ≡ s
entry_ends s es i step a e h = sym (e ∙ at_drop_all (λ es. each_entry es step a) es i h)

-- ---- what is read
-- a member of a list that was read
pub get_is : (xs : List Fraction) (i : ℕ) (x : Fraction) → i < length xs → x ≡ get_or xs i x → x ≡ get xs i
get_is xs i x h e = e ∙ get_or_default xs i x (of_int (pos 0)) h

-- the place of an entry is one of the vector's
pub place_below : (es : List Entry) (low high i : ℕ) (x : Entry) → Rising low high es → i < length es → x ≡ get_or es i x → x.place < high
place_below [] low high i x r h q = absurd (omega arith)
place_below (y ∷ es) low high zero x r h q = subst (λ (z : Entry). z.place < high) (sym q) r.1
place_below (y ∷ es) low high (suc i) x r h q = place_below es (suc y.place) high i x r.2 (omega arith) q
