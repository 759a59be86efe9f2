use Rattle.std.proofs.Common.{◌≡◌, ◌*◌, replicate, vec_items, ap, ◌∙◌, rules}
use Rattle.memory.specs.Words.{lines_of}
use Rattle.session.proofs.Zeros.{zero-lines}
use Rattle.session.proofs.memory_words.zero_memory.Goals as goal

pub returns : goal.returns
returns c =
    let e : vec_items c.in_ok-words.words ≡ replicate (c.args.lines * 4) 0 = c.in_ok-words.ensures.items_if_clones_equal (search rules) in
    c.new.ensures.lines ∙ (ap lines_of e ∙ zero-lines c.args.lines c.requires)
