-- A minor of a batch, with what comes before it and behind it.
use Rattle.std.proofs.Common.{◌≡◌, ℕ, List, [], ◌∷◌, ◌++◌, ap, ◌∙◌}
use Rattle.pami_theory.specs.Form.{Form, limits}
use Rattle.pami_theory.specs.Basis.{head_at, stand_at, IsBasis}
use Rattle.pami_theory.specs.Fresh.{IsFresh, column_at, standing_value}
use Rattle.pami_method.specs.Batch.{Reached, Minor, IsBatch}
use Rattle.pami_method.specs.Work.{entering_value}
use Rattle.pami_deferral.specs.Collected.{through_all, deferred_pivots}
use Rattle.pami_deferral.proofs.Chains.{Links, IsChain, ended, linked, batch_chain, AllLeave, all_leave}
use Rattle.pami_deferral.proofs.CollectedValues.{deferred_column, deferred_are, entering_stands}

pub record Parts (f : Form) (first : Reached) (es : List Minor) (m : Minor) (ms : List Minor) (last : Reached) : Type 0 where
  pub before : IsChain f first es m.reached
  pub next : Reached
  pub link : Links f m next
  pub behind : IsChain f next ms last

parts_from : (f : Form) (first : Reached) (es : List Minor) (m : Minor) (ms : List Minor) (last : Reached)
    → IsChain f first (es ++ m ∷ ms) last → Parts f first es m ms last
parts_from f _ [] _ _ _ (linked m next ms last k rest) = record { before = ended m.reached; next = next; link = k; behind = rest }
parts_from f _ (e ∷ es) m ms _ (linked _ then _ last k rest) =
    let p = parts_from f then es m ms last rest in
    record { before = linked e then es m.reached k p.before; next = p.next; link = p.link; behind = p.behind }

pub batch_parts : (f : Form) (limit : ℕ) (first : Reached) (es : List Minor) (m : Minor) (ms : List Minor) (last : Reached)
    → IsBasis f first.basis → IsFresh f first.basis first.fresh
    → IsBatch f limit first (es ++ m ∷ ms) last → Parts f first es m ms last
batch_parts f limit first es m ms last b s h = parts_from f first es m ms last (batch_chain f limit first (es ++ m ∷ ms) last b s h)

pub column_in : (f : Form) (limit : ℕ) (first : Reached) (es : List Minor) (m : Minor) (ms : List Minor) (last : Reached)
    → IsBasis f first.basis → IsFresh f first.basis first.fresh
    → IsBatch f limit first (es ++ m ∷ ms) last → through_all (deferred_pivots first [] es) (column_at first.fresh m.step.entering)
    ≡ column_at m.reached.fresh m.step.entering
column_in f limit first es m ms last b s h =
    let p = batch_parts f limit first es m ms last b s h in
    ap (λ ps. through_all ps (column_at first.fresh m.step.entering)) (deferred_are f first es m.reached s p.before)
    ∙ deferred_column f first es m p.next s p.before p.link

pub entering_in : (f : Form) (limit : ℕ) (first : Reached) (es : List Minor) (m : Minor) (ms : List Minor) (last : Reached)
    → IsBasis f first.basis → IsFresh f first.basis first.fresh
    → IsBatch f limit first (es ++ m ∷ ms) last
    → entering_value m ≡ standing_value (limits f m.step.entering) (stand_at m.reached.basis m.step.entering)
entering_in f limit first es m ms last b s h = let p = batch_parts f limit first es m ms last b s h in entering_stands f m p.next p.link

leaves_at : (f : Form) (first : Reached) (es : List Minor) (m : Minor) (ms : List Minor) → AllLeave f first (es ++ m ∷ ms)
    → m.step.leaving ≡ head_at first.basis m.step.place
leaves_at f first [] m ms h = h.0.leaving
leaves_at f first (e ∷ es) m ms h = leaves_at f first es m ms h.1

pub leaving_in : (f : Form) (limit : ℕ) (first : Reached) (es : List Minor) (m : Minor) (ms : List Minor) (last : Reached)
    → IsBasis f first.basis → IsFresh f first.basis first.fresh
    → IsBatch f limit first (es ++ m ∷ ms) last → m.step.leaving ≡ head_at first.basis m.step.place
leaving_in f limit first es m ms last b s h = leaves_at f first es m ms
    (all_leave f first (es ++ m ∷ ms) last (batch_chain f limit first (es ++ m ∷ ms) last b s h))
