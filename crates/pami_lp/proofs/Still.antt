-- Rows and bounds leave costs and the constant of the objective as they are, and so a file gives each column the cost that
-- its name's coefficients sum to.
use Rattle.std.proofs.Common.{◌≡◌, ℕ, List, [], Ok, refl, ◌∙◌}
use Rattle.pami_algebra.specs.Fraction.{Fraction}
use Rattle.pami_model.specs.declared.list.Column.{Column}
use Rattle.pami_model.specs.Draft.{Draft, column_with_bounds}
use Rattle.pami_lp.specs.Gather.{IsPriced}
use Rattle.pami_lp.specs.Grammar.{File}
use Rattle.pami_lp.specs.Meaning.{draft_of}
use Rattle.pami_lp.proofs.Chains.{file_on}
use Rattle.pami_lp.proofs.Columns.{Same, entries_kept, same_carried, same_changed, stood}
use Rattle.pami_lp.proofs.Parts.{IsCarried, KeptByBounds, rows_carried, section_carried}
use Rattle.pami_lp.proofs.Prices.{goal_priced}

abbrev cost_of : Column → Fraction
cost_of c = c.cost

-- the same constant
abbrev Constant : Draft → Draft → List (List ℕ) → Type 0
Constant d e names = e.constant ≡ d.constant

constants : IsCarried Constant
constants = record { none = λ d. refl; both = λ d e g names more a b. b ∙ a; stood = λ d name p h. (stood d name p h).constant }

bounds_leave : KeptByBounds (Same cost_of)
bounds_leave d j b = same_changed cost_of d j (column_with_bounds b) d.pairs (λ c. refl) (λ c. refl) []

pub priced : (f : File) (d : Draft) → draft_of f ≡ Ok d → IsPriced f d
priced f d h =
    let o = file_on f d h in
    let g = goal_priced f.goal _ o.priced o.goal in
    record {
      constant =
          section_carried Constant constants (λ d j b. refl) f.bounds o.rowed d o.section
          ∙ rows_carried Constant constants (λ d row x. refl) (λ d name sides. refl) f.rows o.priced o.rowed o.rows ∙ g.constant;
      costs = λ m.
          section_carried (Same cost_of) (same_carried cost_of) bounds_leave f.bounds o.rowed d o.section m
          ∙ rows_carried (Same cost_of) (same_carried cost_of) (entries_kept cost_of (λ c es. refl))
          (λ d name sides m. refl) f.rows o.priced o.rowed o.rows m ∙ g.costs m;
    }
