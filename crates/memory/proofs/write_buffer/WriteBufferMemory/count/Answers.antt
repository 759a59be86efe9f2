use Rattle.std.proofs.Common.{sym, ◌∙◌}
use Rattle.memory.specs.Covers.{length_over}
use Rattle.memory.proofs.write_buffer.WriteBufferMemory.count.Goals as goal

pub returns : goal.returns
returns g c =
    let b = c.args.self.now in
    c.count.ensures ∙ sym (length_over b.queue (g.M.Memory.lines b.below))
