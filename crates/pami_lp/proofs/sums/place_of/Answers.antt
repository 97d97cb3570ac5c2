use Rattle.std.proofs.Common.{◌≡◌, ℕ, length, get_or, sym, ap, ◌∙◌, arith}
use Rattle.pami_lp.specs.Placed.{columns_in}
use Rattle.pami_lp.proofs.Places.{placed-found, placed-none, column_here, past_places, at_place}
use Rattle.pami_lp.proofs.sums.place_of.Goals as goal

pub returns-then-index-places-clause-found : goal.returns-then-index-places-clause-found
returns-then-index-places-clause-found c =
    placed-none c.args.entries.now c.args.places.now c.requires c.args.column (λ j e lt h. let f : length c.args.entries.now ≡ j = sym (past_places c.args.places.now c.args.column (length c.args.entries.now) c.if-index-places.true) ∙ e in absurd (omega (arith, f, lt)))

pub returns-then-place-entries-clause-found : goal.returns-then-place-entries-clause-found
returns-then-place-entries-clause-found c =
    placed-none c.args.entries.now c.args.places.now c.requires c.args.column (λ j e lt h. let f : get_or c.args.places.now c.args.column 0 ≡ j = at_place c.args.places.now c.args.column (length c.args.entries.now) c.if-index-places.false ∙ e in absurd (omega (arith, f, lt, c.if-place-entries.true)))

pub returns-then-entries-place-clause-found : goal.returns-then-entries-place-clause-found
returns-then-entries-place-clause-found c =
    placed-none c.args.entries.now c.args.places.now c.requires c.args.column (λ j e lt h.
    c.if-entries-place.true (column_here c.args.entries.now _ c.index-entries-place.result c.if-place-entries.false
    ∙ ap (λ (k : ℕ). get_or (columns_in c.args.entries.now) k 0) (at_place c.args.places.now c.args.column (length c.args.entries.now) c.if-index-places.false ∙ e) ∙ h))

pub returns-clause-found : goal.returns-clause-found
returns-clause-found c =
    placed-found c.args.entries.now c.args.places.now c.requires c.args.column _ c.if-place-entries.false
    (sym (column_here c.args.entries.now _ c.index-entries-place.result c.if-place-entries.false) ∙ c.if-entries-place.false)
