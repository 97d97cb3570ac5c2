-- A batch as a chain of steps: each is taken at the basis reached before it, at the place of a row that was left there.
use Rattle.std.proofs.Common.{◌≡◌, ℕ, ◌<◌, Bool, true, false, not, nat_eq, List, [], ◌∷◌, refl, sym, ap, ◌∙◌, subst, true≢false}
use Rattle.std.specs.List.{filter}
use Rattle.std.proofs.lemmas.Bool.{eq-eqb}
use Rattle.pami_theory.specs.Form.{Form, variables}
use Rattle.pami_theory.specs.Basis.{head_at, IsBasis}
use Rattle.pami_theory.specs.Fresh.{IsFresh}
use Rattle.pami_theory.specs.Step.{TakesStep, basis_after}
use Rattle.pami_theory.specs.Choice.{InfeasibleRow}
use Rattle.pami_theory.proofs.Members.{Has, filter_has}
use Rattle.pami_theory.proofs.Steps.{IsExchange, step_exchanges, step_is_basis, head_elsewhere}
use Rattle.pami_method.specs.Batch.{Reached, Minor, Pivots, turn, is_attractive, staying, IsNext, IsBatch}
use Rattle.pami_deferral.specs.SolvedBatch.{IsSolvedBatch, IsSolvedPivot}
use Rattle.pami_method.proofs.Turns.{pivot_takes_step, pivot_place, pivot_row}

-- a remaining row has this place
abbrev pub HasPlace : List InfeasibleRow → ℕ → Type 0
HasPlace rows p = (row : InfeasibleRow) × Has rows row × (row.place ≡ p)

-- the step of a minor, and what is reached behind it
pub record Links (f : Form) (m : Minor) (next : Reached) : Type 0 where
  pub step : TakesStep f m.reached.basis m.reached.fresh m.row.place m.row.violation m.step
  pub place : HasPlace m.reached.rows m.step.place
  pub reaches : IsNext f m next

pub data IsChain (f : Form) : Reached → List Minor → Reached → Type 0 where
  ended : (r : Reached) → IsChain f r [] r
  linked : (m : Minor) (next : Reached) (ms : List Minor) (last : Reached) → Links f m next → IsChain f next ms last
      → IsChain f m.reached (m ∷ ms) last

pub links : (f : Form) (limit : ℕ) (m : Minor) (next : Reached) → IsBasis f m.reached.basis → IsFresh f m.reached.basis m.reached.fresh
    → turn f limit m.reached ≡ Pivots m.dropped m.row m.step → IsNext f m next → Links f m next
links f limit m next b s t n =
    let x = pivot_row f limit m.reached m.dropped m.row m.step t in
    let same : m.step.place ≡ m.row.place = pivot_place f limit m.reached m.dropped m.row m.step t in
    record {
      step = pivot_takes_step f limit m.reached m.dropped m.row m.step b s t;
      place = (x.0, (filter_has (is_attractive f m.reached) m.reached.rows x.0 x.1).0, x.2 ∙ sym same);
      reaches = n;
    }

-- the basis behind it, and what is solved there
pub next_basis : (f : Form) (m : Minor) (next : Reached) → Links f m next → IsBasis f next.basis
next_basis f m next k =
    subst (IsBasis f) (sym k.reaches.basis) (step_is_basis f m.reached.basis m.reached.fresh m.row.place m.row.violation m.step k.step)

pub next_fresh : (f : Form) (m : Minor) (next : Reached) → Links f m next → IsFresh f (basis_after m.reached.basis m.step) next.fresh
next_fresh f m next k = subst (λ b. IsFresh f b next.fresh) k.reaches.basis k.reaches.fresh

pub batch_chain : (f : Form) (limit : ℕ) (first : Reached) (ms : List Minor) (last : Reached) → IsBasis f first.basis
    → IsFresh f first.basis first.fresh
    → IsBatch f limit first ms last → IsChain f first ms last
batch_chain f limit first [] last b s h = subst (λ r. IsChain f first [] r) (sym h.0) (ended first)
batch_chain f limit first (m ∷ ms) last b s h =
    let mb : IsBasis f m.reached.basis = subst (λ (r : Reached). IsBasis f r.basis) (sym h.0) b in
    let mf : IsFresh f m.reached.basis m.reached.fresh = subst (λ (r : Reached). IsFresh f r.basis r.fresh) (sym h.0) s in
    let mt : turn f limit m.reached ≡ Pivots m.dropped m.row m.step = ap (turn f limit) h.0 ∙ h.1 in
    let k = links f limit m h.2 mb mf mt h.3 in
    subst (λ r. IsChain f r (m ∷ ms) last) h.0
    (linked m h.2 ms last k (batch_chain f limit h.2 ms last (next_basis f m h.2 k) h.3.fresh h.4))

pub exchange_of : (f : Form) (m : Minor) (next : Reached) → Links f m next → IsExchange f m.reached.basis m.step
exchange_of f m next k = step_exchanges f m.reached.basis m.reached.fresh m.row.place m.row.violation m.step k.step

-- by the records of the laws
pub pivot_links : (f : Form) (limit : ℕ) (m : Minor) (next : Reached) → IsSolvedPivot f limit m next → Links f m next
pivot_links f limit m next h = links f limit m next h.basis h.fresh h.pivots h.behind

pub solved_chain : (f : Form) (limit : ℕ) (first : Reached) (ms : List Minor) (last : Reached) → IsSolvedBatch f limit first ms last
    → IsChain f first ms last
solved_chain f limit first ms last h = batch_chain f limit first ms last h.basis h.fresh h.batch

-- ---- each place leaves once
-- a row that remains behind a pivot is at another place, and remained before
not_false : (b : Bool) → not b ≡ true → b ≡ true → ⊥
not_false true h k = true≢false (sym h)
not_false false h k = true≢false (sym k)

pub remained : (f : Form) (m : Minor) (next : Reached) (p : ℕ) → IsNext f m next → HasPlace next.rows p → HasPlace m.reached.rows p
    × ¬ (p ≡ m.step.place)
remained f m next p n h =
    let behind : Has (filter (λ (row : InfeasibleRow). not (nat_eq row.place m.step.place)) (staying f m.reached)) h.0 =
    subst (λ rows. Has rows h.0) n.rows h.1 in
    let kept = filter_has (λ (row : InfeasibleRow). not (nat_eq row.place m.step.place)) (staying f m.reached) h.0 behind in (
      (h.0, (filter_has (is_attractive f m.reached) m.reached.rows h.0 kept.0).0, h.2),
      λ e. not_false (nat_eq h.0.place m.step.place) kept.1 (eq-eqb h.0.place m.step.place (h.2 ∙ e)),
    )

-- so it has the variable that it had when the batch began
abbrev pub KeepsHeads : Reached → Reached → Type 0
KeepsHeads first r = (p : ℕ) → HasPlace r.rows p → head_at r.basis p ≡ head_at first.basis p

pub keeps_heads : (f : Form) (first : Reached) (m : Minor) (next : Reached) → Links f m next → KeepsHeads first m.reached
    → KeepsHeads first next
keeps_heads f first m next k h p q =
    let r = remained f m next p k.reaches q in
    ap (λ b. head_at b p) k.reaches.basis ∙ head_elsewhere m.reached.basis m.step p r.1 ∙ h p r.0

-- by the first basis
pub record Leaves (f : Form) (first : Reached) (m : Minor) : Type 0 where
  pub place : m.step.place < f.rows
  pub within : m.step.entering < variables f
  pub leaving : m.step.leaving ≡ head_at first.basis m.step.place

abbrev pub AllLeave : Form → Reached → List Minor → Type 0
AllLeave f first [] = Unit {0}
AllLeave f first (m ∷ ms) = Leaves f first m × AllLeave f first ms

leaves_from : (f : Form) (first r : Reached) (ms : List Minor) (last : Reached) → IsChain f r ms last → KeepsHeads first r
    → AllLeave f first ms
leaves_from f first _ _ _ (ended r) h = tt
leaves_from f first _ _ _ (linked m next ms last k rest) h =
    let x = exchange_of f m next k in (
      record { place = x.place; within = x.within; leaving = x.leaves ∙ h m.step.place k.place },
      leaves_from f first next ms last rest
          (keeps_heads f first m next k h),
    )

pub all_leave : (f : Form) (first : Reached) (ms : List Minor) (last : Reached) → IsChain f first ms last → AllLeave f first ms
all_leave f first ms last h = leaves_from f first first ms last h (λ p q. refl)
