-- One step of the elimination, on systems over the active rows and places.
use Rattle.std.proofs.Common.{◌≡◌, ℕ, ◌<◌, [], ◌∷◌, refl, sym, ap, ◌∙◌, subst, Bool, ⊎_elim}
use Rattle.std.proofs.lemmas.Bool.{cases_eq}
use lib.IntN.{pos}
use lib.Dec.{T}
use Rattle.pami_algebra.specs.Fraction.{Fraction}
use Rattle.pami_algebra.specs.Ring.{var, t0, t1, ◌⊕◌, ◌⊗◌, ⊖}
use Rattle.pami_algebra.specs.Operations.{◌+ᶠ◌, ◌-ᶠ◌, ◌*ᶠ◌, ◌/ᶠ◌, neg_f, of_int, inv_f}
use Rattle.pami_algebra.proofs.Laws.{by_ring_f, mul_inv_f}
use Rattle.pami_algebra.proofs.Field.{div_mul_f}
use Rattle.pami_linear.specs.Active.{part, minus_to, but}
use Rattle.pami_linear.specs.Elimination.{step_of, multiplier_of, reduced, below, placed, head_of, beside, raised}
use Rattle.pami_linear.specs.Chains.{Solved, Across, IsPivot}
use Rattle.pami_linear.proofs.Parts.{but_in, but_ne, but_from, set_same, set_other, part_same, part_none, part_but, part_combine, part_across, minus_is}

pub quotient_is : (x y z : Fraction) → ¬ (y ≡ of_int (pos 0)) → y *ᶠ x ≡ z → z /ᶠ y ≡ x
quotient_is x y z n e =
    ap (λ t. t /ᶠ y) (sym e)
    ∙ by_ring_f (x ∷ inv_f y ∷ y ∷ []) (var 2 ⊗ var 0 ⊗ var 1) (var 0 ⊗ (var 2 ⊗ var 1)) refl
    ∙ ap (λ z. x *ᶠ z) (mul_inv_f y n) ∙ by_ring_f (x ∷ []) (var 0 ⊗ t1) (var 0) refl

-- the pivot's place is 0 in the other rows
pub gone : (m : ℕ) (r c : ℕ → Bool) (w : ℕ → ℕ → Fraction) (i p h : ℕ) → IsPivot m r c w i p → reduced w i p h p ≡ of_int (pos 0)
gone m r c w i p h s = ap (λ z. w h p +ᶠ neg_f z) (div_mul_f (w h p) (w i p) s.nonzero) ∙ by_ring_f (w h p ∷ []) (var 0 ⊕ ⊖ (var 0)) t0 refl

pub row_reduced : (m : ℕ) (r c : ℕ → Bool) (w : ℕ → ℕ → Fraction) (i p h : ℕ) (x : ℕ → Fraction) → IsPivot m r c w i p →
    part m (but p c) (λ g. reduced w i p h g *ᶠ x g) ≡ part m c (λ g. w h g *ᶠ x g) -ᶠ multiplier_of w i p h *ᶠ part m c (λ g. w i g *ᶠ x g)
row_reduced m r c w i p h x s =
    by_ring_f (part m (but p c) (λ g. reduced w i p h g *ᶠ x g) ∷ x p ∷ []) (var 0) (t0 ⊗ var 1 ⊕ var 0) refl
    ∙ ap (λ z. z *ᶠ x p +ᶠ part m (but p c) (λ g. reduced w i p h g *ᶠ x g)) (sym (gone m r c w i p h s))
    ∙ sym (part_but m p c (λ g. reduced w i p h g *ᶠ x g) s.place_low s.place_in)
    ∙ part_combine m c (w h) (w i) x (multiplier_of w i p h)

pub solved_below : (m : ℕ) (r c : ℕ → Bool) (w : ℕ → ℕ → Fraction) (i p : ℕ) (x b : ℕ → Fraction) → IsPivot m r c w i p →
    Solved m r c w x b → Solved m (but i r) (but p c) (reduced w i p) x (below (step_of r c w i p) b)
solved_below m r c w i p x b s e = record {
  at = λ h l t.
      row_reduced m r c w i p h x s
      ∙ ap (λ z. z -ᶠ multiplier_of w i p h *ᶠ part m c (λ g. w i g *ᶠ x g)) (e.at h l (but_in i h r t))
      ∙ ap (λ z. b h -ᶠ multiplier_of w i p h *ᶠ z) (e.at i s.row_low s.row_in);
}

pub solved_above : (m : ℕ) (r c : ℕ → Bool) (w : ℕ → ℕ → Fraction) (i p : ℕ) (x b : ℕ → Fraction) → IsPivot m r c w i p →
    part m c (λ g. w i g *ᶠ x g) ≡ b i → Solved m (but i r) (but p c) (reduced w i p) x (below (step_of r c w i p) b) → Solved m r c w x b
solved_above m r c w i p x b s f e = record {
  at = λ h l t. ⊎_elim
      (λ (q : i ≡ h). subst (λ k. part m c (λ g. w k g *ᶠ x g) ≡ b k) q f)
      (λ (q : ¬ (i ≡ h)).
      by_ring_f (part m c (λ g. w h g *ᶠ x g) ∷ multiplier_of w i p h ∷ part m c (λ g. w i g *ᶠ x g) ∷ []) (var 0) ((var 0 ⊕ ⊖ (var 1 ⊗ var 2)) ⊕ var 1 ⊗ var 2) refl
      ∙ ap (λ z. z +ᶠ multiplier_of w i p h *ᶠ part m c (λ g. w i g *ᶠ x g)) (sym (row_reduced m r c w i p h x s) ∙ e.at h l (but_from i h r t q))
      ∙ ap (λ z. (b h -ᶠ multiplier_of w i p h *ᶠ b i) +ᶠ multiplier_of w i p h *ᶠ z) f
      ∙ by_ring_f (b h ∷ multiplier_of w i p h ∷ b i ∷ []) ((var 0 ⊕ ⊖ (var 1 ⊗ var 2)) ⊕ var 1 ⊗ var 2) (var 0) refl)
      (cases_eq i h);
}

-- only the members at active places count
pub solved_same : (m : ℕ) (r c : ℕ → Bool) (w : ℕ → ℕ → Fraction) (x y b : ℕ → Fraction) → ((g : ℕ) → g < m → T (c g) → y g ≡ x g) → Solved m r c w x b → Solved m r c w y b
solved_same m r c w x y b h e = record {
  at = λ k l t. part_same m c (λ g. w k g *ᶠ y g) (λ g. w k g *ᶠ x g) (λ g j u. ap (λ z. w k g *ᶠ z) (h g j u)) ∙ e.at k l t;
}

-- the value at the pivot's place, from those at the later places
pub placed_row : (m : ℕ) (r c : ℕ → Bool) (w : ℕ → ℕ → Fraction) (i p : ℕ) (x : ℕ → Fraction) (t : Fraction) → IsPivot m r c w i p →
    part m c (λ g. w i g *ᶠ placed m (step_of r c w i p) t x g) ≡ t
placed_row m r c w i p x t s =
    let y : ℕ → Fraction = placed m (step_of r c w i p) t x in
    let rest : Fraction = part m (but p c) (λ g. w i g *ᶠ x g) in
    part_but m p c (λ g. w i g *ᶠ y g) s.place_low s.place_in
    ∙ ap (λ z. w i p *ᶠ z +ᶠ part m (but p c) (λ g. w i g *ᶠ y g)) (set_same p (minus_to m (but p c) (λ g. w i g *ᶠ x g) t /ᶠ w i p) x ∙ ap (λ z. z /ᶠ w i p) (minus_is m (but p c) (λ g. w i g *ᶠ x g) t))
    ∙ ap (λ z. w i p *ᶠ ((t -ᶠ rest) /ᶠ w i p) +ᶠ z) (part_same m (but p c) (λ g. w i g *ᶠ y g) (λ g. w i g *ᶠ x g) (λ g l u. ap (λ z. w i g *ᶠ z) (set_other p g (minus_to m (but p c) (λ g. w i g *ᶠ x g) t /ᶠ w i p) x (but_ne p g c u))))
    ∙ by_ring_f (w i p ∷ ((t -ᶠ rest) /ᶠ w i p) ∷ rest ∷ []) (var 0 ⊗ var 1 ⊕ var 2) (var 1 ⊗ var 0 ⊕ var 2) refl
    ∙ ap (λ z. z +ᶠ rest) (div_mul_f (t -ᶠ rest) (w i p) s.nonzero)
    ∙ by_ring_f (t ∷ rest ∷ []) (var 0 ⊕ ⊖ (var 1) ⊕ var 1) (var 0) refl

pub placed_solves : (m : ℕ) (r c : ℕ → Bool) (w : ℕ → ℕ → Fraction) (i p : ℕ) (x b : ℕ → Fraction) → IsPivot m r c w i p →
    Solved m (but i r) (but p c) (reduced w i p) x (below (step_of r c w i p) b) → Solved m r c w (placed m (step_of r c w i p) (b i) x) b
placed_solves m r c w i p x b s e =
    solved_above m r c w i p (placed m (step_of r c w i p) (b i) x) b s (placed_row m r c w i p x (b i) s)
    (solved_same m (but i r) (but p c) (reduced w i p) x (placed m (step_of r c w i p) (b i) x) (below (step_of r c w i p) b)
    (λ g l u. set_other p g (minus_to m (but p c) (λ g. w i g *ᶠ x g) (b i) /ᶠ w i p) x (but_ne p g c u)) e)

-- a solution has that value at the pivot's place
pub placed_only : (m : ℕ) (r c : ℕ → Bool) (w : ℕ → ℕ → Fraction) (i p : ℕ) (x y b : ℕ → Fraction) → IsPivot m r c w i p →
    Solved m r c w y b → ((g : ℕ) → g < m → T (but p c g) → x g ≡ y g) → (g : ℕ) → g < m → T (c g) → placed m (step_of r c w i p) (b i) x g ≡ y g
placed_only m r c w i p x y b s e h g l t = ⊎_elim
    (λ (q : p ≡ g). subst (λ k. placed m (step_of r c w i p) (b i) x k ≡ y k) q
    (set_same p (minus_to m (but p c) (λ k. w i k *ᶠ x k) (b i) /ᶠ w i p) x
    ∙ quotient_is (y p) (w i p) (minus_to m (but p c) (λ k. w i k *ᶠ x k) (b i)) s.nonzero
    (by_ring_f ((w i p *ᶠ y p) ∷ part m (but p c) (λ k. w i k *ᶠ y k) ∷ []) (var 0) ((var 0 ⊕ var 1) ⊕ ⊖ (var 1)) refl
    ∙ ap (λ z. z -ᶠ part m (but p c) (λ k. w i k *ᶠ y k)) (sym (part_but m p c (λ k. w i k *ᶠ y k) s.place_low s.place_in) ∙ e.at i s.row_low s.row_in)
    ∙ ap (λ z. b i -ᶠ z) (part_same m (but p c) (λ k. w i k *ᶠ y k) (λ k. w i k *ᶠ x k) (λ k j u. ap (λ z. w i k *ᶠ z) (sym (h k j u))))
    ∙ sym (minus_is m (but p c) (λ k. w i k *ᶠ x k) (b i)))))
    (λ (q : ¬ (p ≡ g)). set_other p g (minus_to m (but p c) (λ k. w i k *ᶠ x k) (b i) /ᶠ w i p) x q ∙ h g l (but_from p g c t q))
    (cases_eq p g)

-- ---- the same by places
across_total : (m : ℕ) (r c : ℕ → Bool) (w : ℕ → ℕ → Fraction) (i p g : ℕ) (v : ℕ → Fraction) (t : Fraction) → IsPivot m r c w i p →
    part m r (λ h. raised m (step_of r c w i p) t v h *ᶠ w h g) ≡ t *ᶠ w i g +ᶠ part m (but i r) (λ h. v h *ᶠ reduced w i p h g)
across_total m r c w i p g v t s =
    let l_of : ℕ → Fraction = multiplier_of w i p in
    let y : ℕ → Fraction = raised m (step_of r c w i p) t v in
    let all : Fraction = part m (but i r) (λ h. v h *ᶠ w h g) in
    let shift : Fraction = part m (but i r) (λ h. l_of h *ᶠ v h) in
    part_but m i r (λ h. y h *ᶠ w h g) s.row_low s.row_in
    ∙ ap (λ z. z *ᶠ w i g +ᶠ part m (but i r) (λ h. y h *ᶠ w h g)) (set_same i (minus_to m (but i r) (λ h. l_of h *ᶠ v h) t) v ∙ minus_is m (but i r) (λ h. l_of h *ᶠ v h) t)
    ∙ ap (λ z. (t -ᶠ shift) *ᶠ w i g +ᶠ z) (part_same m (but i r) (λ h. y h *ᶠ w h g) (λ h. v h *ᶠ w h g) (λ h l u. ap (λ z. z *ᶠ w h g) (set_other i h (minus_to m (but i r) (λ h. l_of h *ᶠ v h) t) v (but_ne i h r u))))
    ∙ by_ring_f (t ∷ shift ∷ w i g ∷ all ∷ []) ((var 0 ⊕ ⊖ (var 1)) ⊗ var 2 ⊕ var 3) (var 0 ⊗ var 2 ⊕ (var 3 ⊕ ⊖ (var 1 ⊗ var 2))) refl
    ∙ ap (λ z. t *ᶠ w i g +ᶠ z) (sym (part_across m (but i r) v (λ h. w h g) l_of (w i g)))

pub raised_solves : (m : ℕ) (r c : ℕ → Bool) (w : ℕ → ℕ → Fraction) (i p : ℕ) (v d : ℕ → Fraction) → IsPivot m r c w i p →
    Across m (but i r) (but p c) (reduced w i p) v (beside (step_of r c w i p) d) → Across m r c w (raised m (step_of r c w i p) (head_of (step_of r c w i p) d) v) d
raised_solves m r c w i p v d s e =
    let k : Fraction = d p /ᶠ w i p in
    record {
      at = λ g l t. across_total m r c w i p g v k s ∙ ⊎_elim
          (λ (q : p ≡ g). subst (λ n. k *ᶠ w i n +ᶠ part m (but i r) (λ h. v h *ᶠ reduced w i p h n) ≡ d n) q
          (ap (λ z. k *ᶠ w i p +ᶠ z) (part_none m (but i r) (λ h. v h *ᶠ reduced w i p h p) (λ h j u. ap (λ z. v h *ᶠ z) (gone m r c w i p h s) ∙ by_ring_f (v h ∷ []) (var 0 ⊗ t0) t0 refl))
          ∙ ap (λ z. z +ᶠ of_int (pos 0)) (div_mul_f (d p) (w i p) s.nonzero)
          ∙ by_ring_f (d p ∷ []) (var 0 ⊕ t0) (var 0) refl))
          (λ (q : ¬ (p ≡ g)). ap (λ z. k *ᶠ w i g +ᶠ z) (e.at g l (but_from p g c t q)) ∙ by_ring_f (k ∷ w i g ∷ d g ∷ []) (var 0 ⊗ var 1 ⊕ (var 2 ⊕ ⊖ (var 0 ⊗ var 1))) (var 2) refl)
          (cases_eq p g);
    }
