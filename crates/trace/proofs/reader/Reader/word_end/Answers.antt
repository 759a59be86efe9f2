use Rattle.std.proofs.Common.{◌+◌, ap, ℕ, drop, rules, tests}
use Rattle.std.proofs.lemmas.Iterator.{YieldsList-from_slice}
use Rattle.std.proofs.lemmas.Iterator.Consumers.{count_from_yields_List}
use Rattle.std.proofs.lemmas.Iterator.Search.{YieldsList-from_take_while}
use Rattle.trace.specs.Runs.{in_word}
use Rattle.trace.proofs.reader.Reader.word_end.Goals as goal

pub returns-clause-value : goal.returns-clause-value
returns-clause-value c =
    ap (λ (n : ℕ). c.args.self.now.at + n)
    (count_from_yields_List c.take_while-word.result _ c.count.ensures.ran
    (YieldsList-from_take_while _ in_word (YieldsList-from_slice (drop c.args.self.now.at c.args.self.now.text.now) (cc)) c.take_while-word.ensures.closure c.take_while-word.ensures.done
    (λ x b q k. search (rules, tests))))
