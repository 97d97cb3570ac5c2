-- The objective and the rows leave bounds as they are, and so a file gives each column what the bounds of its name set.
use Rattle.std.proofs.Common.{◌≡◌, ℕ, false, List, [], Option, None, Some, Ok, refl, sym, ap, ◌∙◌}
use Rattle.pami_frac.specs.declared.list.Bounds.{Bounds}
use Rattle.pami_model.specs.declared.list.Column.{Column}
use Rattle.pami_model.specs.Draft.{Draft, column_with_cost, nonnegative}
use Rattle.pami_lp.specs.Gather.{IsBounded, bounds_in, column_named, span_of}
use Rattle.pami_lp.specs.Grammar.{Bound, File}
use Rattle.pami_lp.specs.Meaning.{draft_of, take_bounds, take_section}
use Rattle.pami_lp.specs.Rules.{bounded}
use Rattle.pami_lp.proofs.Chains.{file_on, on}
use Rattle.pami_lp.proofs.Columns.{Same, entries_kept, same_carried, same_changed}
use Rattle.pami_lp.proofs.Parts.{KeptByCosts, goal_carried, rows_carried}
use Rattle.pami_lp.proofs.Spans.{Low, SpanIs, among, bounds_move}
use Rattle.pami_lp.proofs.Stepped.{ok_same}

abbrev bounds_of : Column → Bounds
bounds_of c = c.bounds

costs_leave : KeptByCosts (Same bounds_of)
costs_leave = record { cost = λ d j v. same_changed bounds_of d j (column_with_cost v) d.pairs (λ c. refl) (λ c. refl) []; constant = λ d v m. refl }

among_none : (o : Option ℕ) → among [] o ≡ false
among_none None = refl
among_none (Some j) = refl

section_bounds : (bs : Option (List Bound)) (d e : Draft) → ((m : List ℕ) → (column_named d.columns m).bounds ≡ nonnegative) → take_section bs d ≡ Ok e
    → (m : List ℕ) → (column_named e.columns m).bounds ≡ (span_of m (record { bounds = nonnegative; stated = false }) (bounds_in bs)).bounds
section_bounds None d e k h m = ap (λ (x : Draft). (column_named x.columns m).bounds) (sym (ok_same h)) ∙ k m
section_bounds (Some bs) d e k h m =
    let a = on (take_bounds bs (bounded d [])) (λ s. Ok s.draft) e h in
    let low : Low (bounded d []) = record { at = λ k le. refl } in
    let from : SpanIs (bounded d []) m (record { bounds = nonnegative; stated = false }) = record { bounds = k m; stated = among_none _ } in
    ap (λ (x : Draft). (column_named x.columns m).bounds) (sym (ok_same a.then))
    ∙ (bounds_move bs (bounded d []) a.value low a.is m (record { bounds = nonnegative; stated = false }) from).bounds

pub spanned : (f : File) (d : Draft) → draft_of f ≡ Ok d → IsBounded f d
spanned f d h =
    let o = file_on f d h in
    record {
      bounds = λ m. section_bounds f.bounds o.rowed d
          (λ m. rows_carried (Same bounds_of) (same_carried bounds_of) (entries_kept bounds_of (λ c es. refl))
          (λ d name sides m. refl) f.rows o.priced o.rowed o.rows m
          ∙ goal_carried (Same bounds_of) (same_carried bounds_of) costs_leave f.goal _ o.priced o.goal m)
          o.section m;
    }
