-- Bytes that are no text are no name.
use Rattle.std.proofs.Common.{IsUtf8, rules}
use Rattle.trace.proofs.Naming.{no_text, refused-name}
use Rattle.trace.proofs.choice.by_name.Goals as goal

pub returns-in_err-name : goal.returns-in_err-name
returns-in_err-name c =
    let no : IsUtf8 c.args.word.now → ⊥ = search rules in
    let due = refused-name c.args.word.now c.requires (no_text c.args.word.now no) in search rules

pub returns : goal.returns
returns c = search rules
