use Rattle.std.proofs.Common.{rules}
use Rattle.memory.proofs.Queued.{Passed, newest-found}
use Rattle.memory.proofs.queue.Queue.find.Goals as goal

pub returns-clause-place : goal.returns-clause-place
returns-clause-place c =
    let passed : Passed c.args.line c.args.self.now c.rposition.result = search rules in
    newest-found c.args.line c.args.self.now c.rposition.result passed
