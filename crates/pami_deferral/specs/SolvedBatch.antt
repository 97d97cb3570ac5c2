-- A batch from a basis with what is solved there, and one of its pivots.
use Rattle.std.specs.Prelude.{◌≡◌, ℕ, List}
use Rattle.pami_theory.specs.Form.{Form}
use Rattle.pami_theory.specs.Basis.{IsBasis}
use Rattle.pami_theory.specs.Fresh.{IsFresh}
use Rattle.pami_method.specs.Batch.{Reached, Minor, Pivots, turn, IsNext, IsBatch}

-- the batch begins at a basis that is solved afresh
pub record IsSolvedBatch (f : Form) (limit : ℕ) (first : Reached) (ms : List Minor) (last : Reached) : Type 0 where
  pub basis : IsBasis f first.basis
  pub fresh : IsFresh f first.basis first.fresh
  pub batch : IsBatch f limit first ms last

-- the minor's turn pivots at a basis that is solved afresh, and `next` is what is reached behind it
pub record IsSolvedPivot (f : Form) (limit : ℕ) (m : Minor) (next : Reached) : Type 0 where
  pub basis : IsBasis f m.reached.basis
  pub fresh : IsFresh f m.reached.basis m.reached.fresh
  pub pivots : turn f limit m.reached ≡ Pivots m.dropped m.row m.step
  pub behind : IsNext f m next
