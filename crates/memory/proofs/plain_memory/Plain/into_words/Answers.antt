use Rattle.memory.specs.Cuts.{words_are}
use Rattle.memory.proofs.plain_memory.Plain.into_words.Goals as goal

pub returns-clause-items : goal.returns-clause-items
returns-clause-items c = words_are c.args.self.words.items
