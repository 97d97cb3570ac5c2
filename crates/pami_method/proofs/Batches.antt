-- Two batches, two majors and two walks from the same beginning are the same.
use Rattle.std.proofs.Common.{◌≡◌, ℕ, List, [], ◌∷◌, refl, sym, ap, ◌∙◌, subst}
use Rattle.pami_theory.specs.Form.{Form}
use Rattle.pami_theory.specs.Basis.{IsBasis}
use Rattle.pami_theory.specs.Fresh.{IsFresh}
use Rattle.pami_theory.specs.Step.{Step, basis_after}
use Rattle.pami_theory.specs.Choice.{InfeasibleRow}
use Rattle.pami_theory.proofs.Solved.{only_fresh}
use Rattle.pami_theory.proofs.Steps.{step_is_basis}
use Rattle.pami_method.specs.Batch.{Reached, Minor, Turn, AtLimit, NoRow, Stuck, Pivots, turn, IsNext, EndsBatch, IsBatch}
use Rattle.pami_method.proofs.Turns.{pivot_takes_step}

pub reached_same : (r s : Reached) → r.basis ≡ s.basis → r.fresh ≡ s.fresh → r.weights ≡ s.weights → r.count ≡ s.count → r.rows ≡ s.rows → r ≡ s
reached_same r s b x w c i =
    ap (λ z. record r { basis = z }) b
    ∙ ap (λ z. record r { basis = s.basis; fresh = z }) x
    ∙ ap (λ z. record r { basis = s.basis; fresh = s.fresh; weights = z }) w
    ∙ ap (λ z. record r { basis = s.basis; fresh = s.fresh; weights = s.weights; count = z }) c
    ∙ ap (λ z. record s { rows = z }) i

minor_same : (m n : Minor) → m.reached ≡ n.reached → m.dropped ≡ n.dropped → m.row ≡ n.row → m.step ≡ n.step → m ≡ n
minor_same m n r d i t =
    ap (λ z. record m { reached = z }) r
    ∙ ap (λ z. record m { reached = n.reached; dropped = z }) d
    ∙ ap (λ z. record n { row = z; step = m.step }) i
    ∙ ap (λ z. record n { step = z }) t

-- the pivot of a turn
minor_only : (f : Form) (limit : ℕ) (first : Reached) (m n : Minor) → m.reached ≡ first → n.reached ≡ first
    → turn f limit first ≡ Pivots m.dropped m.row m.step → turn f limit first ≡ Pivots n.dropped n.row n.step → m ≡ n
minor_only f limit first m n r s t u =
    let d : m.dropped ≡ n.dropped = cc in let i : m.row ≡ n.row = cc in let k : m.step ≡ n.step = cc in
    minor_same m n (r ∙ sym s) d i k

-- what is reached behind a pivot is a basis
pub next_is_basis : (f : Form) (limit : ℕ) (first : Reached) (m : Minor) (next : Reached) → IsBasis f first.basis → IsFresh f first.basis first.fresh
    → m.reached ≡ first → turn f limit first ≡ Pivots m.dropped m.row m.step → IsNext f m next → IsBasis f next.basis
next_is_basis f limit first m next b s r t n =
    subst (IsBasis f) (ap (λ (x : Reached). basis_after x.basis m.step) (sym r) ∙ sym n.basis) (step_is_basis f first.basis first.fresh m.row.place m.row.violation m.step (pivot_takes_step f limit first m.dropped m.row m.step b s t))

next_only : (f : Form) (m n : Minor) (x y : Reached) → m ≡ n → IsBasis f x.basis → IsNext f m x → IsNext f n y → x ≡ y
next_only f m n x y e b h k =
    let same : x.basis ≡ y.basis = h.basis ∙ ap (λ (i : Minor). basis_after i.reached.basis i.step) e ∙ sym k.basis in
    let fresh : x.fresh ≡ y.fresh = only_fresh f x.basis x.fresh y.fresh b h.fresh (subst (λ c. IsFresh f c y.fresh) (sym same) k.fresh) in
    let l : IsNext f m y = subst (λ (i : Minor). IsNext f i y) (sym e) k in
    reached_same x y same fresh (h.weights ∙ sym l.weights) (h.count ∙ sym l.count) (h.rows ∙ sym l.rows)

ends_not : (t : Turn) (dropped : List ℕ) (row : InfeasibleRow) (step : Step) → EndsBatch t → t ≡ Pivots dropped row step → ⊥
ends_not AtLimit d r s h e = cc
ends_not (NoRow i) d r s h e = cc
ends_not (Stuck i j) d r s h e = cc
ends_not (Pivots i j k) d r s h e = h

pub batch_only : (f : Form) (limit : ℕ) (first : Reached) (ms ns : List Minor) (last end : Reached) → IsBasis f first.basis → IsFresh f first.basis first.fresh
    → IsBatch f limit first ms last → IsBatch f limit first ns end → (ms ≡ ns) × (last ≡ end)
batch_only f limit first [] [] last end b s h k = (refl, h.0 ∙ sym k.0)
batch_only f limit first [] (n ∷ ns) last end b s h k = absurd (ends_not (turn f limit first) n.dropped n.row n.step h.1 k.1)
batch_only f limit first (m ∷ ms) [] last end b s h k = absurd (ends_not (turn f limit first) m.dropped m.row m.step k.1 h.1)
batch_only f limit first (m ∷ ms) (n ∷ ns) last end b s h k =
    let e = minor_only f limit first m n h.0 k.0 h.1 k.1 in
    let d = next_is_basis f limit first m h.2 b s h.0 h.1 h.3 in
    let x = next_only f m n h.2 k.2 e d h.3 k.3 in
    let rest = batch_only f limit h.2 ms ns last end d h.3.fresh h.4 (subst (λ (r : Reached). IsBatch f limit r ns end) (sym x) k.4) in
    (ap (λ i. i ∷ ms) e ∙ ap (λ is. n ∷ is) rest.0, rest.1)

-- a batch ends at a basis with what is solved there
pub batch_ends_fresh : (f : Form) (limit : ℕ) (first : Reached) (ms : List Minor) (last : Reached) → IsBasis f first.basis → IsFresh f first.basis first.fresh
    → IsBatch f limit first ms last → IsBasis f last.basis × IsFresh f last.basis last.fresh
batch_ends_fresh f limit first [] last b s h =
    (subst (λ (r : Reached). IsBasis f r.basis) (sym h.0) b, subst (λ (r : Reached). IsFresh f r.basis r.fresh) (sym h.0) s)
batch_ends_fresh f limit first (m ∷ ms) last b s h =
    batch_ends_fresh f limit h.2 ms last (next_is_basis f limit first m h.2 b s h.0 h.1 h.3) h.3.fresh h.4
