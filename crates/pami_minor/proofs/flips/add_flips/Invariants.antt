use Rattle.std.proofs.Common.{◌≡◌, length, get_or, false}
use Rattle.std.specs.List.{filter, range_with_len}
use Rattle.pami_minor.specs.Flips.{flip_at, flips_by}
use Rattle.pami_minor.proofs.FlipSums.{flips_left}
use Rattle.pami_minor.proofs.flips.add_flips.Given as goal

abbrev pub invariant-loop-v : goal.invariant-loop-v
invariant-loop-v l =
    (flips_by l.columns (flip_at l.stands l.widths) (filter (λ v. get_or l.marks v false) (range_with_len 0 (length l.columns))) l.fn.rows
    ≡ flips_left l.columns (flip_at l.stands l.widths) (λ v. get_or l.marks v false) l.v l.rows)
    × (length l.rows ≡ length l.fn.rows)
