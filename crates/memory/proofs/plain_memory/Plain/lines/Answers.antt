use Rattle.std.proofs.Common.{rules}
use Rattle.memory.specs.Cuts.{lines_are}
use Rattle.memory.proofs.plain_memory.Plain.lines.Goals as goal

pub returns : goal.returns
returns c =
    rw (c.as_chunks.ensures.front, c.deref.ensures.value) (lines_are c.args.self.now.words.items c.min.result (search rules))
