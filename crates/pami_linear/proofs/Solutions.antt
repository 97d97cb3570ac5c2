-- The elimination completes exactly where the matrix is regular, and its solves give the one solution.
use Rattle.std.proofs.Common.{Bool, T, ◌≡◌, ◌↔◌, ℕ, ◌<◌, List, refl, sym, ◌∙◌, subst, true, Result, Ok, Err}
use Rattle.pami_algebra.specs.Fraction.{Fraction}
use Rattle.pami_algebra.specs.Operations.{◌*ᶠ◌}
use Rattle.pami_linear.specs.Sums.{sum_to, unit}
use Rattle.pami_linear.specs.Systems.{Solves, IsInverse, by_rows, IsRegular, Combines}
use Rattle.pami_linear.specs.Elimination.{EliminationStep, eliminate, forward, backward}
use Rattle.pami_linear.specs.Chains.{Solved, Across, Outcome, Unsolved, Completes, Eliminates}
use Rattle.pami_linear.proofs.Systems.{combined_is, solves_by}
use Rattle.pami_linear.proofs.Chains.{forward_solves, forward_only, backward_solves}
use Rattle.pami_linear.proofs.Moves.{solved_moved, across_moved}
use Rattle.pami_linear.proofs.Ends.{outcome}

-- ---- where all flags are set, a system over the active part is the whole one
AllSet : ℕ → (ℕ → Bool) → Type 0
AllSet m a = (k : ℕ) → k < m → a k ≡ true

solves_from : (m : ℕ) (b : ℕ → ℕ → Fraction) (r c : ℕ → Bool) (x d : ℕ → Fraction) → AllSet m r → AllSet m c → Solved m r c (by_rows b) x d → Solves m b x d
unfolding AllSet
solves_from m b r c x d er ec e =
    let whole = solved_moved m r c (λ h. true) (λ g. true) (by_rows b) (by_rows b) x d d (λ h l. sym (er h l)) (λ g l. sym (ec g l)) (λ h g lh lg th tg. refl) (λ h l t. refl) e in
    record { at = λ i l. whole.at i l tt }

solves_to : (m : ℕ) (b : ℕ → ℕ → Fraction) (r c : ℕ → Bool) (x d : ℕ → Fraction) → AllSet m r → AllSet m c → Solves m b x d → Solved m r c (by_rows b) x d
unfolding AllSet
solves_to m b r c x d er ec e =
    solved_moved m (λ h. true) (λ g. true) r c (by_rows b) (by_rows b) x d d er ec (λ h g lh lg th tg. refl) (λ h l t. refl) (record { at = λ h l t. e.at h l })

combines_from : (m : ℕ) (b : ℕ → ℕ → Fraction) (r c : ℕ → Bool) (y d : ℕ → Fraction) → AllSet m r → AllSet m c → Across m r c (by_rows b) y d → Combines m b y d
unfolding AllSet
combines_from m b r c y d er ec e =
    let whole = across_moved m r c (λ h. true) (λ g. true) (by_rows b) (by_rows b) y d d (λ h l. sym (er h l)) (λ g l. sym (ec g l)) (λ h g lh lg th tg. refl) (λ g l t. refl) e in
    record { at = λ k l. whole.at k l tt }

-- the steps of the elimination itself
pub chain_of : (m : ℕ) (b : ℕ → ℕ → Fraction) (ss : List EliminationStep) → eliminate m (by_rows b) ≡ Ok ss → Eliminates m b ss
chain_of m b ss e = record {
  rows = λ h. true;
  places = λ g. true;
  all_rows = λ h l. refl;
  all_places = λ g l. refl;
  chain = subst (Outcome m (λ h. true) (λ g. true) (by_rows b)) e (outcome m (by_rows b));
}

-- ---- B x = r
pub forward_is : (m : ℕ) (b : ℕ → ℕ → Fraction) (ss : List EliminationStep) (r : ℕ → Fraction) → Eliminates m b ss → Solves m b (forward m ss r) r
unfolding AllSet
forward_is m b ss r q = solves_from m b q.rows q.places (forward m ss r) r q.all_rows q.all_places (forward_solves m q.rows q.places (by_rows b) ss r q.chain)

pub forward_one : (m : ℕ) (b : ℕ → ℕ → Fraction) (ss : List EliminationStep) (x r : ℕ → Fraction) → Eliminates m b ss → Solves m b x r → (k : ℕ) → k < m → forward m ss r k ≡ x k
unfolding AllSet
forward_one m b ss x r q e k l =
    forward_only m q.rows q.places (by_rows b) ss x r q.chain (solves_to m b q.rows q.places x r q.all_rows q.all_places e) k l (subst T (sym (q.all_places k l)) tt)

pub right_inverse : (m : ℕ) (b : ℕ → ℕ → Fraction) (ss : List EliminationStep) → Eliminates m b ss → IsInverse m b (λ j. forward m ss (unit j))
right_inverse m b ss q = record { at = λ j l. forward_is m b ss (unit j) q }

pub eliminated_regular : (m : ℕ) (b : ℕ → ℕ → Fraction) (ss : List EliminationStep) → Eliminates m b ss → IsRegular m b
eliminated_regular m b ss q = (λ j. forward m ss (unit j), right_inverse m b ss q)

-- ---- y B = d
pub backward_is : (m : ℕ) (b : ℕ → ℕ → Fraction) (ss : List EliminationStep) (d : ℕ → Fraction) → Eliminates m b ss → Combines m b (backward m ss d) d
unfolding AllSet
backward_is m b ss d q = combines_from m b q.rows q.places (backward m ss d) d q.all_rows q.all_places (backward_solves m q.rows q.places (by_rows b) ss d q.chain)

pub backward_one : (m : ℕ) (b : ℕ → ℕ → Fraction) (ss : List EliminationStep) (y d : ℕ → Fraction) → Eliminates m b ss → Combines m b y d → (i : ℕ) → i < m → backward m ss d i ≡ y i
backward_one m b ss y d q e i l =
    combined_is m i b (λ j. forward m ss (unit j)) (backward m ss d) d l (backward_is m b ss d q) (right_inverse m b ss q)
    ∙ sym (combined_is m i b (λ j. forward m ss (unit j)) y d l e (right_inverse m b ss q))

-- ---- where it completes
-- a regular matrix has no right side without a solution
pub not_regular : (m : ℕ) (b : ℕ → ℕ → Fraction) (r c : ℕ → Bool) → ((h : ℕ) → h < m → r h ≡ true) → ((g : ℕ) → g < m → c g ≡ true) → Unsolved m r c (by_rows b) → IsRegular m b → ⊥
unfolding AllSet
not_regular m b r c er ec u g =
    let x : ℕ → Fraction = λ k. sum_to m (λ j. g.0 j k *ᶠ u.0 j) in
    u.1 x (solves_to m b r c x u.0 er ec (solves_by m b g.0 u.0 g.1))

not_unsolved : (m : ℕ) (b : ℕ → ℕ → Fraction) → Unsolved m (λ h. true) (λ g. true) (by_rows b) → ¬ (IsRegular m b)
not_unsolved m b = not_regular m b (λ h. true) (λ g. true) (λ h l. refl) (λ g l. refl)

completes_by : (m : ℕ) (b : ℕ → ℕ → Fraction) (o : Result (List EliminationStep) ℕ) → eliminate m (by_rows b) ≡ o → Outcome m (λ h. true) (λ g. true) (by_rows b) o → IsRegular m b → Completes m b
completes_by m b (Ok ss) e q g = (ss, e)
completes_by m b (Err k) e q g = absurd (not_unsolved m b q g)

pub completes_if : (m : ℕ) (b : ℕ → ℕ → Fraction) → IsRegular m b → Completes m b
completes_if m b = completes_by m b (eliminate m (by_rows b)) refl (outcome m (by_rows b))

pub regular_if : (m : ℕ) (b : ℕ → ℕ → Fraction) → Completes m b → IsRegular m b
regular_if m b c = eliminated_regular m b c.0 (chain_of m b c.0 c.1)

pub completes_iff : (m : ℕ) (b : ℕ → ℕ → Fraction) → Completes m b ↔ IsRegular m b
completes_iff m b = (regular_if m b, completes_if m b)

-- ---- and where it doesn't
pub singular_if : (m : ℕ) (b : ℕ → ℕ → Fraction) (p : ℕ) → eliminate m (by_rows b) ≡ Err p → ¬ (IsRegular m b)
singular_if m b p e = not_unsolved m b (subst (Outcome m (λ h. true) (λ g. true) (by_rows b)) e (outcome m (by_rows b)))

singular_by : (m : ℕ) (b : ℕ → ℕ → Fraction) (o : Result (List EliminationStep) ℕ) → eliminate m (by_rows b) ≡ o → ¬ (IsRegular m b) → (p : ℕ) × (eliminate m (by_rows b) ≡ Err p)
singular_by m b (Ok ss) e n = absurd (n (regular_if m b (ss, e)))
singular_by m b (Err p) e n = (p, e)

pub singular_iff : (m : ℕ) (b : ℕ → ℕ → Fraction) → ((p : ℕ) × (eliminate m (by_rows b) ≡ Err p)) ↔ (¬ (IsRegular m b))
singular_iff m b = (λ e. singular_if m b e.0 e.1, singular_by m b (eliminate m (by_rows b)) refl)
