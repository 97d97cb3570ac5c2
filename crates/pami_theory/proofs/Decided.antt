-- That a basis is dual feasible, and that it can be made so, is decided by what is solved there.
use Rattle.std.proofs.Common.{◌≡◌, ◌↔◌, ℕ, zero, suc, ◌<◌, ◌⊎◌, inl, inr, ⊎_elim, refl, sym, subst, arith}
use Rattle.std.proofs.lemmas.Bool.{cases_eq}
use Rattle.pami_algebra.specs.Fraction.{Fraction}
use Rattle.pami_algebra.specs.Operations.{neg_f, ◌≤ᶠ◌, ◌<ᶠ◌}
use Rattle.pami_algebra.proofs.Field.{zero_or_not}
use Rattle.pami_algebra.proofs.Strict.{lt_or_le_f, not_le_f}
use Rattle.pami_linear.specs.Lists.{get}
use Rattle.pami_linear.proofs.Sums.{dot_same}
use Rattle.pami_theory.specs.Form.{Form, variables, limits, coefficient, zero_f}
use Rattle.pami_theory.specs.declared.words.Stand.{Stand}
use Rattle.pami_theory.specs.declared.words.Stand.TheVariants.{Basic, Lower, Upper, Zero}
use Rattle.pami_theory.specs.Basis.{Basis, stand_at, IsBasis}
use Rattle.pami_theory.specs.Fresh.{IsFixed, IsSignedFor, IsDualFeasible, Fresh, IsFresh}
use Rattle.pami_theory.specs.Boxes.{boxes_of, CanBeDualFeasible, switched_basis}
use Rattle.pami_theory.specs.Certificate.{IsLeastProduct, HoldsInfeasible}
use Rattle.pami_theory.proofs.Signs.{fixed_or_not}
use Rattle.pami_theory.proofs.Solved.{has_fresh, fresh_regular}
use Rattle.pami_theory.proofs.NextCosts.{SignedAt, signed_at}
use Rattle.pami_theory.proofs.Switched.{switch_is_basis, switch_regular}
use Rattle.pami_theory.proofs.Boxed.{reduced_in, can_iff}

abbrev OrNot : Type 0 → Type 0
OrNot P = P ⊎ (¬ P)

le_or_not : (p q : Fraction) → OrNot (p ≤ᶠ q)
le_or_not p q = ⊎_elim (λ (h : q <ᶠ p). inr (not_le_f q p h)) (λ (h : p ≤ᶠ q). inl h) (lt_or_le_f q p)

signed_or_not : (st : Stand) (d : Fraction) → OrNot (IsSignedFor st d)
signed_or_not Basic d = inl tt
signed_or_not Lower d = le_or_not zero_f d
signed_or_not Upper d = le_or_not d zero_f
signed_or_not Zero d = zero_or_not d

unless_or_not : (P Q : Type 0) → OrNot P → OrNot Q → OrNot (¬ P → Q)
unless_or_not P Q (inl p) q = inl (λ n. absurd (n p))
unless_or_not P Q (inr n) (inl q) = inl (λ k. q)
unless_or_not P Q (inr n) (inr m) = inr (λ h. m (h n))

each_or_not : (n : ℕ) (P : ℕ → Type 0) → ((v : ℕ) → OrNot (P v)) → OrNot ((v : ℕ) → v < n → P v)
each_or_not zero P h = inl (λ v l. absurd (omega arith))
each_or_not (suc n) P h = ⊎_elim
    (λ (rest : (v : ℕ) → v < n → P v). ⊎_elim
    (λ (last : P n). inl (λ v l. ⊎_elim (λ (e : v ≡ n). subst P (sym e) last) (λ (k : ¬ (v ≡ n)). rest v (omega arith)) (cases_eq v n)))
    (λ (k : ¬ P n). inr (λ all. k (all n (omega arith))))
    (h n))
    (λ (k : ¬ ((v : ℕ) → v < n → P v)). inr (λ all. k (λ v l. all v (omega arith))))
    (each_or_not n P h)

pub feasible_iff : (f : Form) (b : Basis) (s : Fresh) → IsFresh f b s → IsDualFeasible f b ↔ SignedAt f b s
feasible_iff f b s h = (λ dual. signed_at f b s h dual, λ g. record { y = reduced_in f s; d = get s.reduced; costs = h.reduced; signed = g })

pub feasible_or_not : (f : Form) (b : Basis) (s : Fresh) → IsFresh f b s → IsDualFeasible f b ⊎ (¬ IsDualFeasible f b)
feasible_or_not f b s h = ⊎_elim
    (λ (g : SignedAt f b s). inl ((feasible_iff f b s h).1 g))
    (λ (n : ¬ SignedAt f b s). inr (λ dual. n ((feasible_iff f b s h).0 dual)))
    (each_or_not (variables f) (λ v. ¬ IsFixed (limits f v) → IsSignedFor (stand_at b v) (get s.reduced v))
    (λ v. unless_or_not (IsFixed (limits f v)) (IsSignedFor (stand_at b v) (get s.reduced v)) (fixed_or_not (limits f v)) (signed_or_not (stand_at b v) (get s.reduced v))))

pub can_or_not : (f : Form) (b : Basis) (s : Fresh) → IsBasis (boxes_of f) b → IsFresh (boxes_of f) b s → CanBeDualFeasible f b ⊎ (¬ CanBeDualFeasible f b)
can_or_not f b s is h =
    let t = has_fresh f (switched_basis f b s.reduced) (switch_is_basis f b s.reduced is) (switch_regular f b s.reduced (fresh_regular (boxes_of f) b s h)) in
    let same = can_iff f b s is h in
    ⊎_elim
    (λ (d : IsDualFeasible f (switched_basis f b s.reduced)). inl (same.1 d))
    (λ (n : ¬ IsDualFeasible f (switched_basis f b s.reduced)). inr (λ c. n (same.0 c)))
    (feasible_or_not f (switched_basis f b s.reduced) t.0 t.1)

-- a certificate of infeasibility depends on the rows alone
pub infeasible_same : (f : Form) (y z : ℕ → Fraction) → ((i : ℕ) → i < f.rows → y i ≡ z i) → HoldsInfeasible f y → HoldsInfeasible f z
infeasible_same f y z e h = record {
  least = h.least;
  finite = λ v l. subst (λ k. IsLeastProduct (limits f v) (neg_f k) (h.least v)) (dot_same f.rows y (coefficient f v) z (coefficient f v) e (λ i m. refl)) (h.finite v l);
  positive = h.positive;
}
