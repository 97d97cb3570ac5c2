use Rattle.std.proofs.Common.{◌∙◌, sym, ap, Ok, length, false, get_or, replicate, List, Bool}
use Rattle.std.specs.List.{filter, range_with_len}
use Rattle.std.proofs.lemmas.Bool.{eqb-true}
use Rattle.pami_theory.specs.Step.{is_among}
use Rattle.pami_minor.specs.Flips.{flip_at, flips_by}
use Rattle.pami_minor.proofs.FlipSums.{no_flips, flips_same}
use Rattle.pami_minor.proofs.flips.flip_changes.Goals as goal

pub returns-then-is_empty : goal.returns-then-is_empty
returns-then-is_empty c =
    no_flips c.args.columns.now (flip_at c.args.stands.now c.args.widths.now) c.args.flips.now (range_with_len 0 (length c.args.columns.now)) _ (eqb-true (length c.args.flips.now) 0 (sym c.if-is_empty.ensures))
    ∙ ap Ok (sym (c.from_vec.ensures ∙ c.in_ok-sums.ensures.items_if_clones_equal (λ y e. e) ∙ ap (replicate c.args.rows) c.zero.ensures))

pub returns-in-Err-add_flips : goal.returns-in-Err-add_flips
returns-in-Err-add_flips c =
    flips_same c.args.columns.now (flip_at c.args.stands.now c.args.widths.now) (λ v. is_among v c.args.flips.now) (λ v. get_or c.deref.result.now v false) (range_with_len 0 (length c.args.columns.now)) _
    (λ v. sym (ap (λ (ts : List Bool). get_or ts v false) c.deref.ensures.value ∙ c.in-Ok.ensures.marks v))
    ∙ ap (flips_by c.args.columns.now (flip_at c.args.stands.now c.args.widths.now) (filter (λ v. get_or c.deref.result.now v false) (range_with_len 0 (length c.args.columns.now))))
    (sym (c.as_mut_slice.ensures.value ∙ c.in_ok-sums.ensures.items_if_clones_equal (λ y e. e) ∙ ap (replicate c.args.rows) c.zero.ensures))
    ∙ c.in-Err-add_flips.ensures
