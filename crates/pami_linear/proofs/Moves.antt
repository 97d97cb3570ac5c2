-- What depends on the active entries alone, and a step against the step of its pivot.
use Rattle.std.proofs.Common.{◌≡◌, ℕ, ◌<◌, refl, sym, ap, ◌∙◌, subst, Bool, true, false, cond}
use lib.IntN.{pos}
use lib.Dec.{T}
use Rattle.pami_algebra.specs.Fraction.{Fraction}
use Rattle.pami_algebra.specs.Operations.{◌-ᶠ◌, ◌*ᶠ◌, ◌/ᶠ◌, of_int}
use Rattle.pami_linear.proofs.Sums.{sum_same}
use Rattle.pami_linear.specs.Active.{part, minus_to, but, set_at}
use Rattle.pami_linear.specs.Elimination.{EliminationStep, step_of, multiplier_of, below, placed, head_of, beside, raised}
use Rattle.pami_linear.specs.Chains.{Solved, Across, IsPivot, IsStep}
use Rattle.pami_linear.proofs.Parts.{minus_is}

cond_moved : (s t : Bool) (x y : Fraction) → s ≡ t → (T t → x ≡ y) → cond s x (of_int (pos 0)) ≡ cond t y (of_int (pos 0))
cond_moved s true x y e h = ap (λ z. cond z x (of_int (pos 0))) e ∙ h tt
cond_moved s false x y e h = ap (λ z. cond z x (of_int (pos 0))) e

pub part_moved : (m : ℕ) (a b : ℕ → Bool) (f g : ℕ → Fraction) → ((k : ℕ) → k < m → a k ≡ b k) → ((k : ℕ) → k < m → T (b k) → f k ≡ g k) → part m a f ≡ part m b g
part_moved m a b f g e h = sum_same m (λ k. cond (a k) (f k) (of_int (pos 0))) (λ k. cond (b k) (g k) (of_int (pos 0))) (λ k l. cond_moved (a k) (b k) (f k) (g k) (e k l) (h k l))

pub minus_moved : (m : ℕ) (a b : ℕ → Bool) (f g : ℕ → Fraction) (t : Fraction) → ((k : ℕ) → k < m → a k ≡ b k) → ((k : ℕ) → k < m → T (b k) → f k ≡ g k) → minus_to m a f t ≡ minus_to m b g t
minus_moved m a b f g t e h = minus_is m a f t ∙ ap (λ z. t -ᶠ z) (part_moved m a b f g e h) ∙ sym (minus_is m b g t)

pub solved_moved : (m : ℕ) (r c r' c' : ℕ → Bool) (w w' : ℕ → ℕ → Fraction) (x b b' : ℕ → Fraction) → ((h : ℕ) → h < m → r' h ≡ r h) → ((g : ℕ) → g < m → c' g ≡ c g) →
    ((h g : ℕ) → h < m → g < m → T (r h) → T (c g) → w' h g ≡ w h g) → ((h : ℕ) → h < m → T (r h) → b' h ≡ b h) → Solved m r c w x b → Solved m r' c' w' x b'
solved_moved m r c r' c' w w' x b b' er ec ew eb e = record {
  at = λ h l t. let u : T (r h) = subst T (er h l) t in
      part_moved m c' c (λ g. w' h g *ᶠ x g) (λ g. w h g *ᶠ x g) ec (λ g j v. ap (λ z. z *ᶠ x g) (ew h g l j u v)) ∙ e.at h l u ∙ sym (eb h l u);
}

pub across_moved : (m : ℕ) (r c r' c' : ℕ → Bool) (w w' : ℕ → ℕ → Fraction) (v d d' : ℕ → Fraction) → ((h : ℕ) → h < m → r' h ≡ r h) → ((g : ℕ) → g < m → c' g ≡ c g) →
    ((h g : ℕ) → h < m → g < m → T (r h) → T (c g) → w' h g ≡ w h g) → ((g : ℕ) → g < m → T (c g) → d' g ≡ d g) → Across m r c w v d → Across m r' c' w' v d'
across_moved m r c r' c' w w' v d d' er ec ew ed e = record {
  at = λ g l t. let u : T (c g) = subst T (ec g l) t in
      part_moved m r' r (λ h. v h *ᶠ w' h g) (λ h. v h *ᶠ w h g) er (λ h j k. ap (λ z. v h *ᶠ z) (ew h g j l k u)) ∙ e.at g l u ∙ sym (ed g l u);
}

pub across_same : (m : ℕ) (r c : ℕ → Bool) (w : ℕ → ℕ → Fraction) (u v d : ℕ → Fraction) → ((h : ℕ) → h < m → T (r h) → v h ≡ u h) → Across m r c w u d → Across m r c w v d
across_same m r c w u v d h e = record {
  at = λ g l t. part_moved m r r (λ k. v k *ᶠ w k g) (λ k. u k *ᶠ w k g) (λ k j. refl) (λ k j q. ap (λ z. z *ᶠ w k g) (h k j q)) ∙ e.at g l t;
}

-- ---- one step
pub pivot_kept : (m : ℕ) (r c : ℕ → Bool) (w : ℕ → ℕ → Fraction) (s : EliminationStep) → IsPivot m r c w s.row s.place → IsStep m r c w s → s.kept s.place ≡ w s.row s.place
pivot_kept m r c w s q e = e.kept s.place q.place_low q.place_in

pub below_is : (m : ℕ) (r c : ℕ → Bool) (w : ℕ → ℕ → Fraction) (s : EliminationStep) (b : ℕ → Fraction) → IsStep m r c w s → (h : ℕ) → h < m → T (but s.row r h) → below (step_of r c w s.row s.place) b h ≡ below s b h
below_is m r c w s b e h l t = ap (λ z. b h -ᶠ z *ᶠ b s.row) (sym (e.multiplier h l t))

pub placed_is : (m : ℕ) (r c : ℕ → Bool) (w : ℕ → ℕ → Fraction) (s : EliminationStep) (t : Fraction) (x : ℕ → Fraction) → IsPivot m r c w s.row s.place → IsStep m r c w s → ((g : ℕ) → T (but s.place c g) → T (c g)) → (g : ℕ) →
    placed m s t x g ≡ placed m (step_of r c w s.row s.place) t x g
placed_is m r c w s t x q e i g =
    ap (λ z. set_at s.place (z /ᶠ s.kept s.place) x g) (minus_moved m s.places (but s.place c) (λ k. s.kept k *ᶠ x k) (λ k. w s.row k *ᶠ x k) t e.places (λ k l u. ap (λ z. z *ᶠ x k) (e.kept k l (i k u))))
    ∙ ap (λ z. set_at s.place (minus_to m (but s.place c) (λ k. w s.row k *ᶠ x k) t /ᶠ z) x g) (pivot_kept m r c w s q e)

pub head_is : (m : ℕ) (r c : ℕ → Bool) (w : ℕ → ℕ → Fraction) (s : EliminationStep) (d : ℕ → Fraction) → IsPivot m r c w s.row s.place → IsStep m r c w s → head_of s d ≡ head_of (step_of r c w s.row s.place) d
head_is m r c w s d q e = ap (λ z. d s.place /ᶠ z) (pivot_kept m r c w s q e)

pub beside_is : (m : ℕ) (r c : ℕ → Bool) (w : ℕ → ℕ → Fraction) (s : EliminationStep) (d : ℕ → Fraction) → IsPivot m r c w s.row s.place → IsStep m r c w s → (g : ℕ) → g < m → T (c g) →
    beside (step_of r c w s.row s.place) d g ≡ beside s d g
beside_is m r c w s d q e g l t = sym (ap (λ z. d g -ᶠ z *ᶠ s.kept g) (head_is m r c w s d q e) ∙ ap (λ z. d g -ᶠ head_of (step_of r c w s.row s.place) d *ᶠ z) (e.kept g l t))

pub raised_is : (m : ℕ) (r c : ℕ → Bool) (w : ℕ → ℕ → Fraction) (s : EliminationStep) (d v : ℕ → Fraction) → IsPivot m r c w s.row s.place → IsStep m r c w s → (h : ℕ) →
    raised m s (head_of s d) v h ≡ raised m (step_of r c w s.row s.place) (head_of (step_of r c w s.row s.place) d) v h
raised_is m r c w s d v q e h =
    ap (λ z. set_at s.row z v h)
    (minus_moved m s.rows (but s.row r) (λ k. s.multiplier k *ᶠ v k) (λ k. multiplier_of w s.row s.place k *ᶠ v k) (head_of s d) e.rows (λ k l u. ap (λ z. z *ᶠ v k) (e.multiplier k l u))
    ∙ ap (λ z. minus_to m (but s.row r) (λ k. multiplier_of w s.row s.place k *ᶠ v k) z) (head_is m r c w s d q e))
