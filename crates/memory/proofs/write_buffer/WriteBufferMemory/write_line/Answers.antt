use Rattle.std.proofs.Common.{ap, ◌∙◌}
use Rattle.memory.specs.Buffers.{buffer, seen}
use Rattle.memory.specs.Covers.{seen-line}
use Rattle.memory.proofs.write_buffer.WriteBufferMemory.write_line.Goals as goal

pub returns-clause-lines : goal.returns-clause-lines
returns-clause-lines g c =
    ap seen c.take_line.ensures.made ∙ seen-line c.args.line (buffer g.M.Memory.lines c.args.self.now) c.args.words
