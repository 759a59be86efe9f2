use Rattle.std.proofs.Common.{rules}
use Rattle.memory.specs.Cuts.{length-lines, line-long}
use Rattle.memory.proofs.Dues.{word_kept}
use Rattle.memory.proofs.plain_memory.PlainMemory.write_word.Goals as goal

pub returns-in_err-check_word-clause-lines : goal.returns-in_err-check_word-clause-lines
returns-in_err-check_word-clause-lines c = search (rules, word_kept, line-long)

pub put-requires-clause-within : goal.put-requires-clause-within
put-requires-clause-within c = search (rules, length-lines)
