-- A batch whose turns are taken by what is kept: the same turns, and what is kept is fresh at each.
use Rattle.std.proofs.Common.{◌≡◌, ℕ, ◌<◌, inl, inr, List, [], ◌∷◌, ◌++◌, map, take, zero, suc, refl, sym, ap, ◌∙◌, subst}
use Rattle.std.specs.List.{Contains}
use Rattle.pami_theory.specs.Form.{Form}
use Rattle.pami_theory.specs.Basis.{Basis, IsBasis}
use Rattle.pami_theory.specs.Fresh.{Fresh, IsFresh}
use Rattle.pami_theory.specs.Step.{Step}
use Rattle.pami_theory.specs.Choice.{InfeasibleRow, is_chosen_before, infeasible_rows, chosen}
use Rattle.pami_theory.specs.Order.{ordered}
use Rattle.pami_theory.proofs.Members.{Has, contains_from, has_from}
use Rattle.pami_theory.proofs.Orders.{ordered_has}
use Rattle.pami_theory.proofs.Chosen.{rows_are}
use Rattle.pami_method.specs.Batch.{Reached, Minor, Turn, AtLimit, NoRow, Stuck, Pivots, turn, EndsBatch, IsBatch}
use Rattle.pami_method.proofs.BatchExists.{has_batch}
use Rattle.pami_deferral.specs.Inside.{Inside, fresh_inside, step_of, kept_turn, inside_behind, insides_behind, IsPlaced, IsDeferred}
use Rattle.pami_deferral.proofs.KeptTurns.{turn_is}
use Rattle.pami_deferral.proofs.Chains.{links, IsChain, ended, linked, next_basis, batch_chain}
use Rattle.pami_deferral.proofs.Minors.{batch_parts}
use Rattle.pami_deferral.proofs.Pivots.{next_placed, inside_is}

-- ---- before each turn
chain_inside : (f : Form) (first : Reached) (ms : List Minor) (last : Reached) → IsChain f first ms last → IsPlaced f first
    → insides_behind f (fresh_inside first) (map step_of ms) ≡ fresh_inside last
chain_inside f _ _ _ (ended r) p = refl
chain_inside f _ _ _ (linked m next ms last k rest) p =
    ap (λ d. insides_behind f d (map step_of ms)) (inside_is f m next k p) ∙ chain_inside f next ms last rest (next_placed f m next k p)

pub inside_in : (f : Form) (limit : ℕ) (first : Reached) (es : List Minor) (m : Minor) (ms : List Minor) (last : Reached)
    → IsBasis f first.basis → IsFresh f first.basis first.fresh → IsPlaced f first
    → IsBatch f limit first (es ++ m ∷ ms) last → insides_behind f (fresh_inside first) (map step_of es) ≡ fresh_inside m.reached
inside_in f limit first es m ms last b s p h = chain_inside f first es m.reached (batch_parts f limit first es m ms last b s h).before p

pub inside_at_end : (f : Form) (limit : ℕ) (first : Reached) (ms : List Minor) (last : Reached) → IsBasis f first.basis
    → IsFresh f first.basis first.fresh → IsPlaced f first
    → IsBatch f limit first ms last → insides_behind f (fresh_inside first) (map step_of ms) ≡ fresh_inside last
inside_at_end f limit first ms last b s p h = chain_inside f first ms last (batch_chain f limit first ms last b s h) p

-- ---- the batch
pub batch_deferred : (f : Form) (limit : ℕ) (first : Reached) (ms : List Minor) (last : Reached) → IsBasis f first.basis
    → IsFresh f first.basis first.fresh → IsPlaced f first
    → IsBatch f limit first ms last → IsDeferred f limit (fresh_inside first) (map step_of ms) (fresh_inside last)
batch_deferred f limit first [] last b s p h = (ap fresh_inside h.0, subst EndsBatch (sym (turn_is f limit first)) h.1)
batch_deferred f limit first (m ∷ ms) last b s p h =
    let mb : IsBasis f m.reached.basis = subst (λ (r : Reached). IsBasis f r.basis) (sym h.0) b in
    let mf : IsFresh f m.reached.basis m.reached.fresh = subst (λ (r : Reached). IsFresh f r.basis r.fresh) (sym h.0) s in
    let mp : IsPlaced f m.reached = subst (IsPlaced f) (sym h.0) p in
    let mt : turn f limit m.reached ≡ Pivots m.dropped m.row m.step = ap (turn f limit) h.0 ∙ h.1 in
    let k = links f limit m h.2 mb mf mt h.3 in
    let behind : inside_behind f (fresh_inside first) m.step ≡ fresh_inside h.2 =
    ap (λ r. inside_behind f (fresh_inside r) m.step) (sym h.0) ∙ inside_is f m h.2 k mp in (
      m.dropped,
      m.row,
      turn_is f limit first ∙ h.1,
      subst (λ d. IsDeferred f limit d (map step_of ms) (fresh_inside last)) (sym behind)
          (batch_deferred f limit h.2 ms last (next_basis f m h.2 k) h.3.fresh (next_placed f m h.2 k mp) h.4),
    )

-- ---- there is one
ends_not : (t : Turn) (dropped : List ℕ) (row : InfeasibleRow) (step : Step) → EndsBatch t → t ≡ Pivots dropped row step → ⊥
ends_not AtLimit d r s h e = cc
ends_not (NoRow i) d r s h e = cc
ends_not (Stuck i j) d r s h e = cc
ends_not (Pivots i j k) d r s h e = h

pub deferred_only : (f : Form) (limit : ℕ) (d : Inside) (ts us : List Step) (x y : Inside) → IsDeferred f limit d ts x
    → IsDeferred f limit d us y → (ts ≡ us) × (x ≡ y)
deferred_only f limit d [] [] x y h k = (refl, h.0 ∙ sym k.0)
deferred_only f limit d [] (u ∷ us) x y h k = absurd (ends_not (kept_turn f limit d) k.0 k.1 u h.1 k.2)
deferred_only f limit d (t ∷ ts) [] x y h k = absurd (ends_not (kept_turn f limit d) h.0 h.1 t k.1 h.2)
deferred_only f limit d (t ∷ ts) (u ∷ us) x y h k =
    let a : kept_turn f limit d ≡ Pivots h.0 h.1 t = h.2 in
    let c : kept_turn f limit d ≡ Pivots k.0 k.1 u = k.2 in
    let same : t ≡ u = cc in
    let rest = deferred_only f limit (inside_behind f d t) ts us x y h.3
    (subst (λ z. IsDeferred f limit (inside_behind f d z) us y) (sym same) k.3) in
    (ap (λ z. z ∷ ts) same ∙ ap (λ zs. u ∷ zs) rest.0, rest.1)

-- so it is the batch
pub deferred_is : (f : Form) (limit : ℕ) (first : Reached) (ts : List Step) (end : Inside) → IsBasis f first.basis
    → IsFresh f first.basis first.fresh → IsPlaced f first
    → IsDeferred f limit (fresh_inside first) ts end → (ms : List Minor) × (last : Reached) × IsBatch f limit first ms last
    × (ts ≡ map step_of ms) × (end ≡ fresh_inside last)
deferred_is f limit first ts end b s p h =
    let x = has_batch f limit first b s in
    let same = deferred_only f limit (fresh_inside first) ts (map step_of x.0) end (fresh_inside x.1) h
    (batch_deferred f limit first x.0 x.1 b s p x.2) in
    (x.0, x.1, x.2, same.0, same.1)

-- ---- chosen rows are placed
take_has : {A : Type 0} (n : ℕ) (xs : List A) (z : A) → Has (take n xs) z → Has xs z
take_has zero xs z h = absurd h
take_has (suc n) [] z h = absurd h
take_has (suc n) (x ∷ xs) z (inl e) = inl e
take_has (suc n) (x ∷ xs) z (inr k) = inr (take_has n xs z k)

pub chosen_place : (f : Form) (b : Basis) (s : Fresh) (weights : List ℕ) (most : ℕ) (row : InfeasibleRow)
    → Contains (chosen f b s weights most) row → row.place < f.rows
chosen_place f b s weights most row h =
    let rows = infeasible_rows f b s weights in
    let k = ordered_has is_chosen_before rows row
    (take_has most (ordered is_chosen_before rows) row (has_from (chosen f b s weights most) row h)) in
    ((rows_are f b s weights row).0 (contains_from rows row k)).0
