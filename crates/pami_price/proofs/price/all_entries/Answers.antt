use Rattle.std.proofs.Common.{◌∙◌, ◌≡◌, ◌<◌, ℕ, List, sym, subst, Err, Ok}
use Rattle.std.specs.Global.{Vec}
use Rattle.pami_frac.specs.declared.list.Entry.{Entry}
use Rattle.pami_algebra.specs.Fraction.{Fraction}
use Rattle.pami_price.specs.Slices.{row_script, slice_script, slices}
use Rattle.pami_frac.specs.Answers.{FollowsBy}
use Rattle.pami_price.specs.Follow.{FollowsOnto, onto}
use Rattle.pami_price.proofs.Walked.{slice_goes, fault_follows}
use Rattle.pami_price.proofs.price.all_entries.Goals as goal

pub returns-in-Err : goal.returns-in-Err
returns-in-Err c =
    subst (λ e. FollowsBy {B = Vec Entry} (λ (es : Vec Entry). es.items) (row_script c.args.by_row.now c.args.stands.now c.args.rho.now) (Err e)) (sym c.in_slice.ensures)
    (fault_follows c.args.by_row.now c.args.stands.now c.args.rho.now c.loop-slice.slice c.loop-slice.out.items c.price_onto.new.out.items c.in-Err.fault (row_script c.args.by_row.now c.args.stands.now c.args.rho.now)
    c.loop-slice.invariant (subst (λ (n : ℕ). c.loop-slice.slice < slices n) c.count.ensures c.loop-slice-test.true)
    c.in-Err.ensures)

pub loop-slice-preserved : goal.loop-slice-preserved
loop-slice-preserved c =
    slice_goes c.args.by_row.now c.args.stands.now c.args.rho.now c.loop-slice.slice c.loop-slice.out.items c.price_onto.new.out.items (row_script c.args.by_row.now c.args.stands.now c.args.rho.now)
    c.loop-slice.invariant (subst (λ (n : ℕ). c.loop-slice.slice < slices n) c.count.ensures c.loop-slice-test.true)
    c.in-Ok.ensures
