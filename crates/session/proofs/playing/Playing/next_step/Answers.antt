use Rattle.std.proofs.Common.{refl}
use Rattle.memory.specs.Words.{plain_lines}
use Rattle.run.specs.Views.{system_of}
use Rattle.std.proofs.lemmas.Result.{err_from_is_err_and}
use Rattle.session.proofs.Performing.{faulted, next_of}
use Rattle.session.proofs.playing.Playing.next_step.Goals as goal

pub returns-clause-next : goal.returns-clause-next
returns-clause-next g c =
    next_of c.args.reader.now.text.now c.args.reader.now.at (system_of g.P.Protocol.cells plain_lines c.args.self.now.run) (system_of g.P.Protocol.cells plain_lines c.perform_next.new.self.run)
    c.next_access.new.self.at c.at-byte.result c.in_ok-next.next c.perform_next.result c.at-byte.ensures c.in_ok-next.ensures.reads c.perform_next.ensures

pub returns-in_err-next-clause-next : goal.returns-in_err-next-clause-next
returns-in_err-next-clause-next g c =
    let p = err_from_is_err_and c.from_residual.result c.from_residual.ensures.1 in
    rw (p.1, p.2)
    (faulted c.args.reader.now.text.now c.args.reader.now.at (system_of g.P.Protocol.cells plain_lines c.args.self.now.run) (system_of g.P.Protocol.cells plain_lines c.args.self.now.run)
    c.in_err-next.field-0.0 c.in_err-next.ensures.reads.1.0 c.in_err-next.ensures.reads.0 c.in_err-next.ensures.reads.1.1 c.in_err-next.ensures.reads.1.2 refl)
