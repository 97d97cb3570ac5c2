use Rattle.pami_cli.proofs.Summed.{counts_joined}
use Rattle.pami_cli.proofs.summary.push_counts.Goals as goal

pub returns : goal.returns
returns c = λ names counts.
    counts_joined c.args.out.now.items _ _ _ _ c.push.new.self.items _ _ _ _
    (c.in_ok-push_counted.ensures names counts) (c.in_ok-push_counted-2.ensures names counts) (c.in_ok-push_counted-3.ensures names counts) (c.in_ok-push_counted-4.ensures names counts)
    c.in_ok-push.ensures.items
