-- Where nothing stands beside the active part, the rule finds the same pivot among all pairs.
use Rattle.std.proofs.Common.{◌≡◌, ℕ, zero, suc, ◌-◌, ◌*◌, List, refl, sym, ap, ◌∙◌, Bool, true, false, cond, not, ltb, Option, Some, None}
use lib.IntN.{pos}
use Rattle.pami_algebra.specs.Fraction.{Fraction}
use Rattle.pami_algebra.specs.Operations.{of_int, is_zero}
use Rattle.pami_algebra.proofs.Tests.{is_zero_iff}
use Rattle.pami_linear.specs.Pivoting.{Pivot, better, in_column, least, allowed_in, cost_in, pivot, row_count, place_count}
use Rattle.pami_linear.proofs.Parts.{count_same}
use Rattle.pami_linear.specs.Lists.{get}
use Rattle.pami_factoring.specs.Factor.{flag, entry}
use Rattle.pami_lu.specs.Cleaned.{IsCleaned}

better_same : (t : Bool) (f g : ℕ → ℕ → ℕ) (o : Option Pivot) (i p : ℕ) → ((i p : ℕ) → f i p ≡ g i p) → better t f o i p ≡ better t g o i p
better_same false f g o i p h = refl
better_same true f g None i p h = refl
better_same true f g (Some q) i p h = ap (λ n. cond (ltb n (f q.row q.place)) (Some (record { row = i; place = p })) (Some q)) (h i p) ∙ ap (λ n. cond (ltb (g i p) n) (Some (record { row = i; place = p })) (Some q)) (h q.row q.place)

column_same : (a b : ℕ → ℕ → Bool) (f g : ℕ → ℕ → ℕ) (n p : ℕ) (o : Option Pivot) → ((i p : ℕ) → a i p ≡ b i p) → ((i p : ℕ) → f i p ≡ g i p) → in_column a f n p o ≡ in_column b g n p o
column_same a b f g zero p o h k = refl
column_same a b f g (suc i) p o h k =
    ap (λ t. better t f (in_column a f i p o) i p) (h i p) ∙ better_same (b i p) f g (in_column a f i p o) i p k ∙ ap (λ z. better (b i p) g z i p) (column_same a b f g i p o h k)

least_same : (a b : ℕ → ℕ → Bool) (f g : ℕ → ℕ → ℕ) (m n : ℕ) → ((i p : ℕ) → a i p ≡ b i p) → ((i p : ℕ) → f i p ≡ g i p) → least a f m n ≡ least b g m n
least_same a b f g m zero h k = refl
least_same a b f g m (suc p) h k = column_same a b f g m p (least a f m p) h k ∙ ap (in_column b g m p) (least_same a b f g m p h k)

zero_by : (t : Bool) (x : Fraction) → (t ≡ false → x ≡ of_int (pos 0)) → cond t (not (is_zero x)) false ≡ not (is_zero x)
zero_by true x h = refl
zero_by false x h = sym (ap not ((is_zero_iff x).1 (h refl)))

row_zero : (ts cs : List Bool) (rows : List (List Fraction)) (i g : ℕ) → IsCleaned ts cs rows → flag ts i ≡ false → entry rows i g ≡ of_int (pos 0)
row_zero ts cs rows i g c e = ap (λ xs. get xs g) (c.empty i e)

pub pivot_beside : (m : ℕ) (ts cs : List Bool) (rows : List (List Fraction)) → IsCleaned ts cs rows → pivot m (flag ts) (flag cs) (entry rows) ≡ pivot m (λ h. true) (λ g. true) (entry rows)
unfolding pivot
pivot_beside m ts cs rows c =
    least_same (allowed_in (flag ts) (flag cs) (entry rows)) (allowed_in (λ h. true) (λ g. true) (entry rows)) (cost_in m (flag ts) (flag cs) (entry rows)) (cost_in m (λ h. true) (λ g. true) (entry rows)) m m
    (λ i p. ap (λ t. cond (flag ts i) t false) (zero_by (flag cs p) (entry rows i p) (c.zero i p)) ∙ zero_by (flag ts i) (entry rows i p) (row_zero ts cs rows i p c))
    (λ i p.
    ap (λ n. (n - 1) * (place_count m (flag ts) (entry rows) p - 1))
    (count_same m (λ g. cond (flag cs g) (not (is_zero (entry rows i g))) false) (λ g. not (is_zero (entry rows i g))) (λ g l. zero_by (flag cs g) (entry rows i g) (c.zero i g)))
    ∙ ap (λ n. (row_count m (λ g. true) (entry rows) i - 1) * (n - 1))
    (count_same m (λ h. cond (flag ts h) (not (is_zero (entry rows h p))) false) (λ h. not (is_zero (entry rows h p))) (λ h l. zero_by (flag ts h) (entry rows h p) (row_zero ts cs rows h p c))))
