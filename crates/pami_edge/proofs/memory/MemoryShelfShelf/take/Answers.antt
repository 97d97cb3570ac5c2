use Rattle.std.proofs.Common.{rules, drop, ◌≤◌, length}
use Rattle.pami_edge.proofs.Named.{given_since}
use Rattle.pami_edge.proofs.memory.MemoryShelfShelf.take.Goals as goal

pub returns-clause-copied : goal.returns-clause-copied
returns-clause-copied c =
    let within : c.min-count.result ≤ length c.left_of-left.result.now = search rules in
    rw (← c.self.view_is) (
    given_since c.self.inside.asked c.self.inside.files.items c.self.inside.current c.self.inside.at c.min-count.result c.left_of-left.result.now
    c.copy_from_slice.new.self (drop c.min-count.result c.args.room.now) (λ none. (c.self.invariant.1 none).0)
    (search rules) within (search rules))
