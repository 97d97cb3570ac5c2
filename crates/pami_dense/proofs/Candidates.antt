-- The search for a pivot, one pair further.
use Rattle.std.proofs.Common.{◌≡◌, ℕ, suc, subst, Bool, Option}
use Rattle.pami_linear.specs.Pivoting.{Pivot, better, in_column}
use Rattle.pami_dense.specs.declared.search.Found.{Found}
use Rattle.pami_dense.specs.Search.{Cached}

pub cached_row : (may : ℕ → ℕ → Bool) (f : ℕ → ℕ → ℕ) (i p : ℕ) (t : Bool) (b : Option Found) (o : Option Pivot) → t ≡ may i p →
    Cached f b (better t f (in_column may f i p o) i p) → Cached f b (in_column may f (suc i) p o)
cached_row may f i p t b o e h = subst (λ t. Cached f b (better t f (in_column may f i p o) i p)) e h
