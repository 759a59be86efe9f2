use Rattle.std.proofs.Common.{ap, ◌∙◌, rules}
use Rattle.memory.specs.Buffers.{buffer, seen}
use Rattle.memory.specs.Buffered.{lawful-buffer}
use Rattle.memory.specs.Covers.{seen-word}
use Rattle.memory.proofs.Dues.{word_kept}
use Rattle.memory.proofs.write_buffer.WriteBufferMemory.write_word.Goals as goal

pub returns-in_err-check_word-clause-lines : goal.returns-in_err-check_word-clause-lines
returns-in_err-check_word-clause-lines g c =
    let law = lawful-buffer g.M.Memory.lines g.M.Memory.settled g.met.M.Memory.lawful c.args.self.now in
    search (rules, word_kept, law.shaped)

pub returns-clause-lines : goal.returns-clause-lines
returns-clause-lines g c =
    ap seen c.take_word.ensures.made
    ∙ seen-word c.args.line (buffer g.M.Memory.lines c.args.self.now) c.args.word c.args.value
