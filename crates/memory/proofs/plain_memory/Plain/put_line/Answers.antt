use Rattle.std.proofs.Common.{◌≡◌, ◌+◌, ◌-◌, ◌*◌, length, sym, ◌∙◌, arith, rules}
use Rattle.std.proofs.lemmas.List.{with_items_is}
use Rattle.memory.specs.Cuts.{length-put, lines-put, spare-put}
use Rattle.memory.proofs.plain_memory.Plain.put_line.Goals as goal

pub returns : goal.returns
returns c =
    let v = c.args.self.now.words in
    let long : length c.args.words ≡ 4 = search rules in
    let four : 4 * c.args.line + 4 - 4 * c.args.line ≡ 4 = omega arith in
    let same = length-put v.items c.args.line c.args.words c.requires long in
    let held = with_items_is v _ (same ∙ sym v.ok.0) in
    rw (four, c.put_words.ensures, c.deref_mut.ensures.value, held) (record {
      lines = lines-put v.items c.args.line c.args.words c.requires long;
      spare = spare-put v.items c.args.line c.args.words c.requires long;
    })
