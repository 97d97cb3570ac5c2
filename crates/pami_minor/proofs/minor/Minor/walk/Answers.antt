use Rattle.std.proofs.Common.{Some, sym, ap, ◌∙◌, arith}
use Rattle.pami_minor.specs.Joined.{joined}
use Rattle.pami_form.specs.FormOf.{form_of}
use Rattle.pami_minor.proofs.Walking.{kept_low, walked_lists, walked_at}
use Rattle.pami_minor.proofs.WalkedRow.{walked_rises, walked_row, walked_variable}
use Rattle.pami_minor.proofs.minor.Minor.walk.Goals as goal

pub picked_row-picked-requires : goal.picked_row-picked-requires
picked_row-picked-requires c = let p = c.requires.turn.3.picked in (p.0, p.1)

pub index-requires : goal.index-requires
index-requires c =
    let t = c.requires.turn in
    let s = t.3.picked.1 ∙ ap Some (sym (c.picked_row-picked.ensures t.3.picked.0 t.3.picked.1)) in
    let l = (kept_low (form_of c.args.form.now) t.0 t.1 t.2 _ c.args.self.now c.picked_row-picked.result.now t.3 s).1 in
    let n = c.args.self.now.head.ok.0 in
    omega (arith, l, n)

pub walk_at-requires-clause-rising : goal.walk_at-requires-clause-rising
walk_at-requires-clause-rising c =
    let t = c.requires.turn in
    let s = t.3.picked.1 ∙ ap Some (sym (c.picked_row-picked.ensures t.3.picked.0 t.3.picked.1)) in
    walked_rises c.args.form.now t.1.basis t.1.fresh _ _ _ _ _ c.args.form.now.kept
    (walked_lists (form_of c.args.form.now) t.0 t.1 t.2 c.args.self.now c.picked_row-picked.result.now c.index.result.now c.as_slice-stands.result.now
    c.as_slice-reduced.result.now c.as_slice-2.result.now t.3 s c.index.ensures c.as_slice-stands.ensures.value
    c.as_slice-reduced.ensures.value (c.as_slice-2.ensures.value ∙ c.in_ok-alpha.ensures ∙ ap joined c.as_slice.ensures.value))

pub walk_at-requires-clause-rows : goal.walk_at-requires-clause-rows
walk_at-requires-clause-rows c =
    let t = c.requires.turn in
    let s = t.3.picked.1 ∙ ap Some (sym (c.picked_row-picked.ensures t.3.picked.0 t.3.picked.1)) in
    walked_row c.args.form.now t.1.basis t.1.fresh _ _ _ _ _ c.args.form.now.kept
    (walked_lists (form_of c.args.form.now) t.0 t.1 t.2 c.args.self.now c.picked_row-picked.result.now c.index.result.now c.as_slice-stands.result.now
    c.as_slice-reduced.result.now c.as_slice-2.result.now t.3 s c.index.ensures c.as_slice-stands.ensures.value
    c.as_slice-reduced.ensures.value (c.as_slice-2.ensures.value ∙ c.in_ok-alpha.ensures ∙ ap joined c.as_slice.ensures.value))

pub walk_at-requires-clause-variable : goal.walk_at-requires-clause-variable
walk_at-requires-clause-variable c =
    let t = c.requires.turn in
    let s = t.3.picked.1 ∙ ap Some (sym (c.picked_row-picked.ensures t.3.picked.0 t.3.picked.1)) in
    walked_variable c.args.form.now t.1.basis t.1.fresh _ _ _ _ _ c.args.form.now.kept
    (walked_lists (form_of c.args.form.now) t.0 t.1 t.2 c.args.self.now c.picked_row-picked.result.now c.index.result.now c.as_slice-stands.result.now
    c.as_slice-reduced.result.now c.as_slice-2.result.now t.3 s c.index.ensures c.as_slice-stands.ensures.value
    c.as_slice-reduced.ensures.value (c.as_slice-2.ensures.value ∙ c.in_ok-alpha.ensures ∙ ap joined c.as_slice.ensures.value))

pub returns : goal.returns
returns c = record {
  walk = λ limit r row h.
      walked_at (form_of c.args.form.now) limit r row c.args.self.now c.picked_row-picked.result.now c.walk_at.result h (h.picked.1 ∙ ap Some (sym (c.picked_row-picked.ensures h.picked.0 h.picked.1)))
      (c.walk_at.ensures.fresh r.basis r.fresh
      (walked_lists (form_of c.args.form.now) limit r row c.args.self.now c.picked_row-picked.result.now c.index.result.now c.as_slice-stands.result.now
      c.as_slice-reduced.result.now c.as_slice-2.result.now h (h.picked.1 ∙ ap Some (sym (c.picked_row-picked.ensures h.picked.0 h.picked.1))) c.index.ensures c.as_slice-stands.ensures.value
      c.as_slice-reduced.ensures.value (c.as_slice-2.ensures.value ∙ c.in_ok-alpha.ensures ∙ ap joined c.as_slice.ensures.value)));
}
