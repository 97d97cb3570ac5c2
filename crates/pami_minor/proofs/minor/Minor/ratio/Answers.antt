use Rattle.std.proofs.Common.{length, sym, ap, ◌∙◌, subst}
use Rattle.pami_script.specs.Dense.{Rising}
use Rattle.pami_minor.specs.declared.kept.Picked.{Picked}
use Rattle.pami_minor.specs.Joined.{joined}
use Rattle.pami_minor.proofs.Ratios.{bounds_long, widths_long, reduced_long, ratio_rises, ratio_at}
use Rattle.pami_minor.proofs.minor.Minor.ratio.Goals as goal

pub picked_row-picked-requires : goal.picked_row-picked-requires
picked_row-picked-requires c = let p = c.requires.turn.3.picked in (p.0, p.1)

pub ratio_walk-requires : goal.ratio_walk-requires
ratio_walk-requires c =
    let t = c.requires.turn in
    let form = c.args.form.now in
    let stands = ap length c.as_slice-2.ensures.value in
    record {
      bound = ap length c.as_slice-3.ensures ∙ bounds_long form t.0 t.1 t.2 _ c.args.self.now form.kept t.3 ∙ sym stands;
      width = ap length c.as_slice-4.ensures ∙ widths_long form t.0 t.1 t.2 _ c.args.self.now form.kept t.3 ∙ sym stands;
      cost = ap length c.as_slice-5.ensures.value ∙ reduced_long form t.0 t.1 t.2 _ c.args.self.now form.kept t.3 ∙ sym stands;
      rising = subst (λ n. Rising 0 n c.as_slice-6.result.now) (sym stands)
          (ratio_rises form t.0 t.1 t.2 c.args.self.now t.3.picked.0 c.as_slice-6.result.now form.kept t.3 t.3.picked.1
          (c.as_slice-6.ensures.value ∙ c.in_ok-alpha.ensures ∙ ap joined c.as_slice.ensures.value));
    }

pub returns : goal.returns
returns c = record {
  ratio = λ limit r row h.
      ratio_at c.args.form.now limit r row c.args.self.now h.picked.0 c.as_slice-2.result.now c.as_slice-3.result.now c.as_slice-4.result.now
      c.as_slice-5.result.now c.as_slice-6.result.now c.picked_row-picked.result.now.violation c.ratio_walk.result c.args.form.now.kept h h.picked.1
      c.as_slice-2.ensures.value c.as_slice-3.ensures c.as_slice-4.ensures c.as_slice-5.ensures.value
      (c.as_slice-6.ensures.value ∙ c.in_ok-alpha.ensures ∙ ap joined c.as_slice.ensures.value)
      (ap (λ (k : Picked). k.violation) (c.picked_row-picked.ensures h.picked.0 h.picked.1)) c.ratio_walk.ensures.script;
}
