-- A script is a list of single operations. Its outcome is its value, or its first operation that doesn't fit.
use Rattle.std.specs.Prelude.{ℕ, zero, suc, List, [], ◌∷◌, Result, Ok}
use Rattle.pami_algebra.specs.Fraction.{Fraction}
pub use Rattle.pami_frac.specs.Answers.{then}
use Rattle.pami_frac.specs.Arithmetic.{add_outcome, sub_outcome, mul_outcome}
use Rattle.pami_frac.specs.declared.arithmetic.Refused.{Refused}
use Rattle.pami_frac.specs.declared.list.Entry.{Entry}

-- t := t + x y, the product first
abbrev pub add_product : Fraction → Fraction → Fraction → Result Fraction Refused
add_product t x y = then (mul_outcome x y) (λ p. add_outcome t p)

-- t := t - x y
abbrev pub sub_product : Fraction → Fraction → Fraction → Result Fraction Refused
sub_product t x y = then (mul_outcome x y) (λ p. sub_outcome t p)

-- a step for each of `n` places from `k` on, ascending; what a step gives goes into the next
abbrev pub each : {A : Type 0} → ℕ → ℕ → (ℕ → A → Result A Refused) → A → Result A Refused
each zero k step a = Ok a
each (suc n) k step a = then (step k a) (λ b. each n (suc k) step b)

-- a step for each entry of a list
abbrev pub each_entry : {A : Type 0} → List Entry → (Entry → A → Result A Refused) → A → Result A Refused
each_entry [] step a = Ok a
each_entry (e ∷ es) step a = then (step e a) (λ b. each_entry es step b)

-- a step for each member of a list, by its place from `k` on; the results make a list
abbrev pub each_member : {A B : Type 0} → (ℕ → A → Result B Refused) → ℕ → List A → Result (List B) Refused
each_member step k [] = Ok []
each_member step k (x ∷ xs) = then (step k x) (λ y. then (each_member step (suc k) xs) (λ ys. Ok (y ∷ ys)))

-- t + u 0 v 0 + .. over the first n places, each product with u left
abbrev pub add_dot : ℕ → (ℕ → Fraction) → (ℕ → Fraction) → Fraction → Result Fraction Refused
add_dot n u v t = each n 0 (λ i t. add_product t (u i) (v i)) t

-- t - u 0 v 0 - ..
abbrev pub sub_dot : ℕ → (ℕ → Fraction) → (ℕ → Fraction) → Fraction → Result Fraction Refused
sub_dot n u v t = each n 0 (λ i t. sub_product t (u i) (v i)) t

-- the same sums over entries alone: the entry's value left, or right
abbrev pub add_entries : List Entry → (ℕ → Fraction) → Fraction → Result Fraction Refused
add_entries es v t = each_entry es (λ e t. add_product t e.value (v e.place)) t

abbrev pub add_entries_right : (ℕ → Fraction) → List Entry → Fraction → Result Fraction Refused
add_entries_right u es t = each_entry es (λ e t. add_product t (u e.place) e.value) t

abbrev pub sub_entries : List Entry → (ℕ → Fraction) → Fraction → Result Fraction Refused
sub_entries es v t = each_entry es (λ e t. sub_product t e.value (v e.place)) t

abbrev pub sub_entries_right : (ℕ → Fraction) → List Entry → Fraction → Result Fraction Refused
sub_entries_right u es t = each_entry es (λ e t. sub_product t (u e.place) e.value) t
