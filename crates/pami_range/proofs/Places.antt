-- The place of a variable in a head, found from the front.
use Rattle.std.proofs.Common.{◌≡◌, ⊎_elim, ℕ, zero, suc, ◌+◌, ◌<◌, ◌≤◌, List, [], ◌∷◌, length, get_or, nat_eq, sym, ap, ◌∙◌, subst, arith}
use Rattle.std.proofs.lemmas.Bool.{cases_eq, cond-true, cond-false, eq-eqb, ne_eqb}
use Rattle.pami_range.specs.Scripts.{place_of}

-- it isn't among the first p
abbrev pub IsPast : List ℕ → ℕ → ℕ → Type 0
IsPast head v p = (p ≤ length head) × ((q : ℕ) → q < p → ¬ (get_or head q 0 ≡ v))

pub past_none : (head : List ℕ) (v : ℕ) → IsPast head v 0
past_none head v = (omega arith, λ q l. absurd (omega arith))

pub past_more : (head : List ℕ) (v p : ℕ) → p < length head → ¬ (get_or head p 0 ≡ v) → IsPast head v p → IsPast head v (p + 1)
past_more head v p l n h = (
  omega arith,
  λ q m. ⊎_elim
      (λ (e : q ≡ p). subst (λ k. ¬ (get_or head k 0 ≡ v)) (sym e) n)
      (λ (k : ¬ (q ≡ p)). h.1 q (omega arith))
      (cases_eq q p),
)

pub found_here : (head : List ℕ) (v p : ℕ) → p < length head → get_or head p 0 ≡ v → ((q : ℕ) → q < p → ¬ (get_or head q 0 ≡ v)) → p ≡ place_of head v
found_here [] v p l e h = absurd (omega arith)
found_here (w ∷ ws) v zero l e h = sym (cond-true (nat_eq w v) 0 (suc (place_of ws v)) (eq-eqb w v e))
found_here (w ∷ ws) v (suc p) l e h =
    ap suc (found_here ws v p (omega arith) e (λ q m. h (suc q) (omega arith)))
    ∙ sym (cond-false (nat_eq w v) 0 (suc (place_of ws v)) (ne_eqb w v (h 0 (omega arith))))

found_none : (head : List ℕ) (v p : ℕ) → p ≡ length head → ((q : ℕ) → q < p → ¬ (get_or head q 0 ≡ v)) → p ≡ place_of head v
found_none [] v p e h = e
found_none (w ∷ ws) v zero e h = absurd (omega arith)
found_none (w ∷ ws) v (suc p) e h =
    ap suc (found_none ws v p (omega arith) (λ q m. h (suc q) (omega arith)))
    ∙ sym (cond-false (nat_eq w v) 0 (suc (place_of ws v)) (ne_eqb w v (h 0 (omega arith))))

pub found_past : (head : List ℕ) (v p : ℕ) → length head ≤ p → IsPast head v p → p ≡ place_of head v
found_past head v p n h = let k : p ≤ length head = h.0 in found_none head v p (omega arith) h.1
