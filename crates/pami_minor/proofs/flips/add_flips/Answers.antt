use Rattle.std.proofs.Common.{◌≡◌, ℕ, ◌+◌, length, false, get_or, ◌∙◌, ap, sym, Option, None, List, subst, arith, ◌<◌, Bool}
use Rattle.std.specs.List.{filter, range_with_len}
use Rattle.std.proofs.lemmas.List.{get_or_default}
use Rattle.pami_algebra.specs.Fraction.{Fraction}
use Rattle.pami_theory.specs.Step.{change_by}
use Rattle.pami_theory.specs.Violation.{value_or_zero}
use Rattle.pami_theory.specs.declared.words.Stand.{Stand}
use Rattle.pami_theory.specs.declared.words.Stand.TheVariants.{Basic}
use Rattle.pami_state.proofs.Summed.{column_read}
use Rattle.pami_minor.specs.Flips.{flip_at, flips_by}
use Rattle.pami_minor.proofs.FlipSums.{flips_left, unmarked, marked_goes, marked_stops}
use Rattle.pami_minor.proofs.flips.add_flips.Goals as goal
use Rattle.pami_minor.proofs.flips.add_flips.Goals.{then-marks-v+in-Ok, else-marks-v}

-- the change that was read
change_is : (stands : List Stand) (widths : List (Option Fraction)) (v : ℕ) (width : Option Fraction) (factor : Fraction) → v < length widths
    → width ≡ get_or widths v width → factor ≡ change_by (get_or stands v Basic) (value_or_zero width) → factor ≡ flip_at stands widths v
change_is stands widths v width factor l e h =
    h ∙ ap (λ w. change_by (get_or stands v Basic) (value_or_zero w)) (e ∙ get_or_default widths v width None l)

pub returns-in-Err : goal.returns-in-Err
returns-in-Err c =
    let l = c.loop-v-test.true in
    let column = column_read c.args.columns.now c.loop-v.v c.index-columns-v.result l c.index-columns-v.is in
    let tall = c.requires.tall c.loop-v.v l in
    marked_stops _ c.args.columns.now (flip_at c.args.stands.now c.args.widths.now) (λ v. get_or c.args.marks.now v false) c.loop-v.v c.loop-v.rows c.index-columns-v.result c.entries.result.now c.flip_change-factor.result
    c.in-Err.stop.place c.in-Err.stop.refused
    c.loop-v.invariant.0 l c.if-marks-v.true column
    (change_is c.args.stands.now c.args.widths.now c.loop-v.v c.index-widths-v.result c.flip_change-factor.result (omega (arith, c.requires.widths)) c.index-widths-v.is c.flip_change-factor.ensures)
    c.entries.ensures (ap length column ∙ tall ∙ sym c.loop-v.invariant.1) c.in-Err.ensures

pub loop-v-preserved : goal.loop-v-preserved
loop-v-preserved c =
    let l = c.loop-v-test.true in
    let change = flip_at c.args.stands.now c.args.widths.now in
    let marked : ℕ → Bool = λ v. get_or c.args.marks.now v false in
    let all = flips_by c.args.columns.now change (filter marked (range_with_len 0 (length c.args.columns.now))) c.args.rows.now in
    elim c.if-marks-v.branch [
      | then-marks-v+in-Ok w ↦ (
          let column = column_read c.args.columns.now c.loop-v.v c.index-columns-v.result l c.index-columns-v.is in
          let tall = c.requires.tall c.loop-v.v l in (
            subst (λ (rows : List Fraction). all ≡ flips_left c.args.columns.now change marked (c.loop-v.v + 1) rows) (sym w.rows-is)
                (marked_goes all c.args.columns.now change marked c.loop-v.v c.loop-v.rows w.change_members.new.members c.index-columns-v.result w.entries.result.now w.flip_change-factor.result
                c.loop-v.invariant.0 l w.if-marks-v.true column
                (change_is c.args.stands.now c.args.widths.now c.loop-v.v w.index-widths-v.result w.flip_change-factor.result (omega (arith, c.requires.widths)) w.index-widths-v.is w.flip_change-factor.ensures)
                w.entries.ensures (ap length column ∙ tall ∙ sym c.loop-v.invariant.1) w.in-Ok.ensures),
            ap length w.rows-is ∙ w.in-Ok.ensures.as_many ∙ c.loop-v.invariant.1,
          ))
      | else-marks-v w ↦ ((
        subst (λ (rows : List Fraction). all ≡ flips_left c.args.columns.now change marked (c.loop-v.v + 1) rows) (sym w.rows-is)
            (unmarked all c.args.columns.now change marked c.loop-v.v c.loop-v.rows c.loop-v.invariant.0 l w.if-marks-v.false),
        ap length w.rows-is ∙ c.loop-v.invariant.1,
      ))
    ]
