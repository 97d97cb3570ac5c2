use Rattle.std.proofs.Common.{◌≡◌, ◌↔◌, ◌+◌, ℕ, false, get_or, length, refl, sym, arith, IsTrue, ap}
use borrow.Author.Count.{below_more}
use Rattle.pami_theory.specs.declared.words.Stand.TheVariants as stands
use Rattle.pami_state.specs.State.{IsSignedAt}
use Rattle.pami_state.proofs.Signed.{signed_read, some_unsigned, feasible_by_signs}
use Rattle.pami_state.proofs.state.State.dual_feasible.Goals as goal

pub returns-then-not-is_signed-clause-signs : goal.returns-then-not-is_signed-clause-signs
returns-then-not-is_signed-clause-signs c =
    let st = c.args.self.now in
    let bounds = c.args.bounds.now in
    some_unsigned bounds st c.loop-v.v c.is_signed.result _ c.loop-v-test.true c.if-not-is_signed.true c.is_signed.ensures
    (signed_read bounds st c.as_slice-stands.result.now c.as_slice-reduced.result.now c.loop-v.v c.index-bounds-v.result stands.Basic c.index-reduced-v.result
    c.as_slice-stands.ensures c.as_slice-reduced.ensures c.requires.stands c.requires.reduced c.loop-v-test.true c.index-bounds-v.is c.index-reduced-v.is)

pub returns-then-not-is_signed-clause-feasible : goal.returns-then-not-is_signed-clause-feasible
returns-then-not-is_signed-clause-feasible c =
    let st = c.args.self.now in
    let bounds = c.args.bounds.now in
    feasible_by_signs false bounds st c.requires.reduced
    (some_unsigned bounds st c.loop-v.v c.is_signed.result _ c.loop-v-test.true c.if-not-is_signed.true c.is_signed.ensures
    (signed_read bounds st c.as_slice-stands.result.now c.as_slice-reduced.result.now c.loop-v.v c.index-bounds-v.result stands.Basic c.index-reduced-v.result
    c.as_slice-stands.ensures c.as_slice-reduced.ensures c.requires.stands c.requires.reduced c.loop-v-test.true c.index-bounds-v.is c.index-reduced-v.is))

pub loop-v-preserved : goal.loop-v-preserved
loop-v-preserved c =
    let st = c.args.self.now in
    let bounds = c.args.bounds.now in
    below_more (IsSignedAt bounds st) c.loop-v.v c.loop-v.invariant
    ((signed_read bounds st c.as_slice-stands.result.now c.as_slice-reduced.result.now c.loop-v.v c.index-bounds-v.result stands.Basic c.index-reduced-v.result
    c.as_slice-stands.ensures c.as_slice-reduced.ensures c.requires.stands c.requires.reduced c.loop-v-test.true c.index-bounds-v.is c.index-reduced-v.is).1
    (c.is_signed.ensures.0 c.if-not-is_signed.false))

pub returns-clause-feasible : goal.returns-clause-feasible
returns-clause-feasible c =
    feasible_by_signs Rattle.std.proofs.Common.true c.args.bounds.now c.args.self.now c.requires.reduced
    (λ t. record { at = λ v l. c.loop-v.invariant v (let m = c.loop-v-test.false in omega arith) }, λ h. refl)
