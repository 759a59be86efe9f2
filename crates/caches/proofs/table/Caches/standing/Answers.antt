-- A set has one way, and the line stands there or none does.
use Rattle.std.proofs.Common.{Bool, [], get_or, ap, ◌∙◌}
use Rattle.std.specs.Bool.{then_some}
use Rattle.std.specs.Option.{option_to_list}
use Rattle.caches.specs.Lines.{blank}
use Rattle.caches.proofs.Finds.{lines-told}
use Rattle.caches.proofs.table.Caches.standing.Goals as goal

pub returns : goal.returns
returns c =
    let s = c.args.self.now in
    let p = get_or (get_or s.table c.args.seat []) c.args.at blank in
    ap option_to_list (c.then_some.ensures ∙ ap (λ (b : Bool). then_some b p.tag) c.is_valid.ensures)
    ∙ lines-told s c.args.seat c.requires.on c.args.at c.requires.within
