use Rattle.std.proofs.Common.{sym, rules}
use Rattle.memory.specs.Ages.{waits}
use Rattle.memory.proofs.Queued.{apart-push}
use Rattle.memory.proofs.queue.Queue.push.Goals as goal

pub invariant_of-self : goal.invariant_of-self
invariant_of-self c =
    let other = rw (sym c.self.view_is) at c.requires.other in
    let apart = apart-push c.self.inside.lines.items (waits c.args.line c.args.words) c.self.invariant.1 other in
    (search rules, rw c.push.ensures.items apart)
