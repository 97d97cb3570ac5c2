use Rattle.std.proofs.Common.{List, refl, sym, subst}
use Rattle.pami_minor.specs.declared.kept.Kept.{Kept}
use Rattle.pami_minor.specs.Picks.{HasRowAt}
use Rattle.pami_minor.proofs.Nth.{has_nth}
use Rattle.pami_minor.proofs.RowsBehind.{reached_more}
use Rattle.pami_minor.proofs.minor.Minor.commit_reach.Goals as goal

pub index_of-i-requires : goal.index_of-i-requires
index_of-i-requires c =
    let t = c.requires.turn in
    subst (λ (ks : List Kept). HasRowAt c.args.reached.place ks) (sym c.as_slice.ensures.value)
    (has_nth t.0 t.1 t.2 t.3 t.4 t.5 c.args.reached.place c.args.self.now t.6 t.7)

pub returns : goal.returns
returns c = record {
  reached = λ f limit m next i j h o w.
      reached_more f limit m next i j c.args.self.now _ c.as_slice.result.now c.index_of-i.result c.index_mut.result.now c.args.reached h o w
      c.as_slice.ensures.value c.index_of-i.ensures c.index_mut.ensures.value
      (record {
        head = refl;
        stands = refl;
        reduced = refl;
        count = refl;
        limit = refl;
        alpha = refl;
        steps = refl;
        nows = refl;
        dropped = refl;
        remaining = refl;
      })
      refl refl refl;
  steps = refl;
  dropped = refl;
}
