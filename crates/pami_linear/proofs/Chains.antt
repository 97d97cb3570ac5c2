-- What holds along a chain of steps.
use Rattle.std.proofs.Common.{◌≡◌, ℕ, ◌<◌, List, Bool, refl, sym, ◌∙◌, subst}
use lib.Dec.{T}
use Rattle.pami_algebra.specs.Fraction.{Fraction}
use Rattle.pami_linear.specs.Active.{but}
use Rattle.pami_linear.specs.Elimination.{EliminationStep, step_of, reduced, below, placed, head_of, beside, raised, forward, backward}
use Rattle.pami_linear.specs.Chains.{Solved, Across, Chain, ended, goes_on, Unsolved}
use Rattle.pami_linear.proofs.Parts.{but_in}
use Rattle.pami_linear.proofs.Moves.{solved_moved, across_moved, across_same, below_is, placed_is, beside_is, raised_is}
use Rattle.pami_linear.proofs.Steps.{solved_below, solved_same, placed_solves, placed_only, raised_solves}

pub forward_solves : (m : ℕ) (r c : ℕ → Bool) (w : ℕ → ℕ → Fraction) (ss : List EliminationStep) (b : ℕ → Fraction) → Chain m r c w ss → Solved m r c w (forward m ss b) b
forward_solves m _ _ _ _ b (ended r c w nr nc) = record { at = λ h l t. absurd (nr h l t) }
forward_solves m _ _ _ _ b (goes_on r c w next s ss q e a rest) =
    let i : ℕ = s.row in
    let p : ℕ = s.place in
    let x : ℕ → Fraction = forward m ss (below s b) in
    solved_same m r c w (placed m (step_of r c w i p) (b i) x) (placed m s (b i) x) b (λ g l t. placed_is m r c w s (b i) x q e (λ g. but_in p g c) g)
    (placed_solves m r c w i p x b q
    (solved_moved m s.rows s.places (but i r) (but p c) next (reduced w i p) x (below s b) (below (step_of r c w i p) b)
    (λ h l. sym (e.rows h l)) (λ g l. sym (e.places g l)) (λ h g lh lg th tg. sym (a h g lh lg th tg)) (λ h l t. below_is m r c w s b e h l (subst T (e.rows h l) t))
    (forward_solves m s.rows s.places next ss (below s b) rest)))

pub forward_only : (m : ℕ) (r c : ℕ → Bool) (w : ℕ → ℕ → Fraction) (ss : List EliminationStep) (y b : ℕ → Fraction) → Chain m r c w ss → Solved m r c w y b →
    (g : ℕ) → g < m → T (c g) → forward m ss b g ≡ y g
forward_only m _ _ _ _ y b (ended r c w nr nc) f g l t = absurd (nc g l t)
forward_only m _ _ _ _ y b (goes_on r c w next s ss q e a rest) f g l t =
    let i : ℕ = s.row in
    let p : ℕ = s.place in
    let x : ℕ → Fraction = forward m ss (below s b) in
    placed_is m r c w s (b i) x q e (λ g. but_in p g c) g
    ∙ placed_only m r c w i p x y b q f
    (λ k j u. forward_only m s.rows s.places next ss y (below s b) rest
    (solved_moved m (but i r) (but p c) s.rows s.places (reduced w i p) next y (below (step_of r c w i p) b) (below s b)
    e.rows e.places (λ h g lh lg th tg. a h g lh lg (subst T (sym (e.rows h lh)) th) (subst T (sym (e.places g lg)) tg)) (λ h l t. sym (below_is m r c w s b e h l t))
    (solved_below m r c w i p y b q f)) k j (subst T (sym (e.places k j)) u)) g l t

pub backward_solves : (m : ℕ) (r c : ℕ → Bool) (w : ℕ → ℕ → Fraction) (ss : List EliminationStep) (d : ℕ → Fraction) → Chain m r c w ss → Across m r c w (backward m ss d) d
backward_solves m _ _ _ _ d (ended r c w nr nc) = record { at = λ g l t. absurd (nc g l t) }
backward_solves m _ _ _ _ d (goes_on r c w next s ss q e a rest) =
    let i : ℕ = s.row in
    let p : ℕ = s.place in
    let v : ℕ → Fraction = backward m ss (beside s d) in
    across_same m r c w (raised m (step_of r c w i p) (head_of (step_of r c w i p) d) v) (raised m s (head_of s d) v) d (λ h l t. raised_is m r c w s d v q e h)
    (raised_solves m r c w i p v d q
    (across_moved m s.rows s.places (but i r) (but p c) next (reduced w i p) v (beside s d) (beside (step_of r c w i p) d)
    (λ h l. sym (e.rows h l)) (λ g l. sym (e.places g l)) (λ h g lh lg th tg. sym (a h g lh lg th tg)) (λ g l t. beside_is m r c w s d q e g l (but_in p g c (subst T (e.places g l) t)))
    (backward_solves m s.rows s.places next ss (beside s d) rest)))

-- a right side with no solution, at equal flags and entries
pub unsolved_moved : (m : ℕ) (r c r' c' : ℕ → Bool) (w w' : ℕ → ℕ → Fraction) → ((h : ℕ) → h < m → r' h ≡ r h) → ((g : ℕ) → g < m → c' g ≡ c g) →
    ((h g : ℕ) → h < m → g < m → T (r' h) → T (c' g) → w' h g ≡ w h g) → Unsolved m r' c' w' → Unsolved m r c w
unsolved_moved m r c r' c' w w' er ec ew u =
    (u.0, λ x k. u.1 x (solved_moved m r c r' c' w w' x u.0 u.0 er ec (λ h g lh lg th tg. ew h g lh lg (subst T (sym (er h lh)) th) (subst T (sym (ec g lg)) tg)) (λ h l t. refl) k))
