use Rattle.std.proofs.Common.{rules}
use Rattle.memory.specs.Cuts.{lines-set, spare-same}
use Rattle.memory.proofs.plain_memory.Plain.put.Goals as goal

pub returns : goal.returns
returns c = search (rules, lines-set, spare-same)
