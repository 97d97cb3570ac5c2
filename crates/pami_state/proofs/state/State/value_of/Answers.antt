use Rattle.std.proofs.Common.{get_or, ◌∙◌, arith}
use Rattle.pami_theory.specs.declared.words.Stand.TheVariants as stands
use Rattle.pami_state.proofs.Bounds.{bounds_read}
use Rattle.pami_state.proofs.Placed.{basic_if, basic_only, stand_lent, place_is, value_at, stands_so, standing_at}
use Rattle.pami_state.proofs.state.State.value_of.Goals as goal

pub place_of-requires : goal.place_of-requires
place_of-requires c =
    let st = c.args.self.now in
    let s = get_or c.as_slice.result.now c.args.variable stands.Basic in
    place_is c.args.bounds.now st c.as_slice-then-eq-2.result.now c.args.variable c.as_slice-then-eq-2.ensures c.requires.basis c.requires.variable
    (stand_lent st c.as_slice.result.now c.args.variable stands.Basic c.as_slice.ensures (let n = c.requires.stands in let l = c.requires.variable in omega arith)
    ∙ basic_if s c.eq.result c.eq.ensures c.if-eq.true)

pub returns-then-eq-clause-solved : goal.returns-then-eq-clause-solved
returns-then-eq-clause-solved c = λ f h a.
    value_at f c.args.self.now a c.as_slice-then-eq-2.result.now c.as_slice-then-eq.result.now c.place_of.result c.args.variable c.index-as_slice-place_of.result
    c.as_slice-then-eq-2.ensures c.as_slice-then-eq.ensures c.requires.values c.place_of.ensures.within c.place_of.ensures.found c.index-as_slice-place_of.is

pub returns-clause-nonbasic : goal.returns-clause-nonbasic
returns-clause-nonbasic c =
    let st = c.args.self.now in
    let v = c.args.variable in
    stands_so c.args.bounds.now st v c.index-bounds-variable.result (get_or c.as_slice.result.now v stands.Basic) c.value_at.result
    c.requires.basis c.requires.variable
    (bounds_read c.args.bounds.now v c.index-bounds-variable.result _ c.requires.variable c.index-bounds-variable.is)
    (stand_lent st c.as_slice.result.now v stands.Basic c.as_slice.ensures (let n = c.requires.stands in let l = c.requires.variable in omega arith))
    c.value_at.ensures

pub returns-clause-solved : goal.returns-clause-solved
returns-clause-solved c = λ f h a.
    let st = c.args.self.now in
    let v = c.args.variable in
    let s = get_or c.as_slice.result.now v stands.Basic in
    standing_at f c.args.bounds.now st v c.index-bounds-variable.result s c.value_at.result h a c.requires.variable
    (bounds_read c.args.bounds.now v c.index-bounds-variable.result _ c.requires.variable c.index-bounds-variable.is)
    (stand_lent st c.as_slice.result.now v stands.Basic c.as_slice.ensures (let n = c.requires.stands in let l = c.requires.variable in omega arith))
    (basic_only s c.eq.result c.eq.ensures c.if-eq.false)
    c.value_at.ensures
