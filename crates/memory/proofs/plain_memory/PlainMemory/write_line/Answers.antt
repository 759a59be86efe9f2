use Rattle.std.proofs.Common.{rules}
use Rattle.memory.specs.Cuts.{length-lines}
use Rattle.memory.proofs.plain_memory.PlainMemory.write_line.Goals as goal

pub put_line-requires : goal.put_line-requires
put_line-requires c = search (rules, length-lines)
