use Rattle.std.proofs.Common.{refl}
use Rattle.memory.specs.Buffers.{buffer}
use Rattle.memory.specs.Covers.{held_at}
use Rattle.memory.proofs.write_buffer.WriteBuffer.take_line.Goals as goal

pub returns-in-Some : goal.returns-in-Some
returns-in-Some g c = record {
  made = held_at c.args.line (buffer g.M.Memory.lines c.args.self.now) c.in-Some.place c.find.ensures.apart c.in-Some.ensures.place c.replace.new.self _ _ c.replace.ensures;
  kept = refl;
}
