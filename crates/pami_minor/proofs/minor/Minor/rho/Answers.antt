use Rattle.std.proofs.Common.{ℕ, Option, ap, ◌∙◌, subst, arith}
use Rattle.pami_theory.specs.Fresh.{row_at}
use Rattle.pami_minor.specs.declared.kept.Picked.{Picked}
use Rattle.pami_minor.specs.Lent.{FindsRow}
use Rattle.pami_minor.proofs.LentRows.{first_within, none_picked, row_found, row_missed, picked_apart, opening_found, opening_missed, stopped_found, stopped_missed, reached_found, reached_missed, others_found, others_missed, left_apart}
use Rattle.pami_minor.proofs.minor.Minor.rho.Goals as goal

pub index-requires : goal.index-requires
index-requires c =
    let l = first_within c.args.place c.in-Some.i c.as_slice.result.now c.args.self.now.rows.items c.as_slice.ensures.value
    (subst (λ (o : Option ℕ). FindsRow c.args.place c.as_slice.result.now o) c.in-Some.is c.find_row.ensures) in
    let n = c.args.self.now.rows.ok.0 in
    omega (arith, l, n)

pub picked_row-requires : goal.picked_row-requires
picked_row-requires c =
    none_picked c.args.place c.args.self.now c.as_slice.result.now c.requires.place c.as_slice.ensures.value
    (subst (λ (o : Option ℕ). FindsRow c.args.place c.as_slice.result.now o) c.in-None.is c.find_row.ensures)

pub returns-in-Some : goal.returns-in-Some
returns-in-Some c =
    let a = subst (λ (o : Option ℕ). FindsRow c.args.place c.as_slice.result.now o) c.in-Some.is c.find_row.ensures in
    record {
      picked = λ f limit r row n h e.
          absurd (picked_apart f r row c.args.self.now.rows.items c.as_slice.result.now c.in-Some.i c.args.place h.rows c.as_slice.ensures.value a e
          c.index.result.now c.index.ensures);
      beside = λ f limit r row n h k.
          row_found f r c.args.self.now.rows.items c.as_slice.result.now _ c.in-Some.i c.args.place c.index.result.now h.rows c.as_slice.ensures.value a c.index.ensures;
      remaining = λ f limit r h k.
          row_found f r c.args.self.now.rows.items c.as_slice.result.now _ c.in-Some.i c.args.place c.index.result.now h.rows c.as_slice.ensures.value a c.index.ensures;
      opening = λ f limit r n h k.
          opening_found f limit r n c.args.place c.in-Some.i c.args.self.now c.as_slice.result.now c.index.result.now h k c.as_slice.ensures.value a c.index.ensures;
      stopped = λ f limit r h k.
          stopped_found f limit r c.args.place c.in-Some.i c.args.self.now c.as_slice.result.now c.index.result.now h k c.as_slice.ensures.value a c.index.ensures;
      reached = λ f limit m next i j h k.
          reached_found f limit m next i j c.args.place c.in-Some.i c.args.self.now c.as_slice.result.now c.index.result.now h k c.as_slice.ensures.value a
          c.index.ensures;
      others = λ f limit m next i j h k.
          others_found f limit m next i j c.args.place c.in-Some.i c.args.self.now c.as_slice.result.now c.index.result.now h k c.as_slice.ensures.value a
          c.index.ensures;
      left = λ f limit m next i j h e.
          absurd (left_apart f limit m next i j c.args.place c.in-Some.i c.args.self.now c.as_slice.result.now c.index.result.now h e c.as_slice.ensures.value a
          c.index.ensures);
    }

pub returns-in-None : goal.returns-in-None
returns-in-None c =
    let a = subst (λ (o : Option ℕ). FindsRow c.args.place c.as_slice.result.now o) c.in-None.is c.find_row.ensures in
    record {
      picked = λ f limit r row n h e.
          ap (λ (k : Picked). k.at.rho) (c.picked_row.ensures h.picked.0 h.picked.1) ∙ h.picked.2.rho ∙ ap (row_at r.fresh) e;
      beside = λ f limit r row n h k. absurd (row_missed f r c.args.self.now.rows.items c.as_slice.result.now _ c.args.place h.rows c.as_slice.ensures.value a k);
      remaining = λ f limit r h k. absurd (row_missed f r c.args.self.now.rows.items c.as_slice.result.now _ c.args.place h.rows c.as_slice.ensures.value a k);
      opening = λ f limit r n h k. absurd (opening_missed f limit r n c.args.place c.args.self.now c.as_slice.result.now h k c.as_slice.ensures.value a);
      stopped = λ f limit r h k. absurd (stopped_missed f limit r c.args.place c.args.self.now c.as_slice.result.now h k c.as_slice.ensures.value a);
      reached = λ f limit m next i j h k.
          absurd (reached_missed f limit m next i j c.args.place c.args.self.now c.as_slice.result.now h k c.as_slice.ensures.value a);
      others = λ f limit m next i j h k.
          absurd (others_missed f limit m next i j c.args.place c.args.self.now c.as_slice.result.now h k c.as_slice.ensures.value a);
      left = λ f limit m next i j h e.
          ap (λ (k : Picked). k.at.rho) (c.picked_row.ensures h.picked.0 h.picked.1) ∙ h.picked.2.rho ∙ ap (row_at m.reached.fresh) e;
    }
