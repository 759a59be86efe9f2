use Rattle.std.proofs.Common.{rules}
use Rattle.memory.specs.Buffers.{buffer}
use Rattle.memory.specs.Buffered.{read_below}
use Rattle.memory.specs.Covers.{length_over, over-newest}
use Rattle.memory.proofs.write_buffer.WriteBufferMemory.read_line.Goals as goal

pub returns-in-Some : goal.returns-in-Some
returns-in-Some g c =
    let b = c.args.self.now in
    let m = length_over b.queue (g.M.Memory.lines b.below) in
    search (rules, over-newest)

pub returns-in-None : goal.returns-in-None
returns-in-None g c =
    read_below (buffer g.M.Memory.lines c.args.self.now) c.args.line c.read_line.result c.in-None.ensures.place c.read_line.ensures
