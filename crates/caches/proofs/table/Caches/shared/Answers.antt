-- The seats are asked one after the other, up to one that holds the line.
use Rattle.std.proofs.Common.{rules, tests, refl, ◌∙◌, arith}
use Rattle.std.proofs.lemmas.Iterator.{YieldsList-from_range}
use Rattle.std.proofs.lemmas.Iterator.Search.{any_from_yields_List}
use Rattle.protocol.specs.States.{valid}
use Rattle.caches.proofs.Searches.{test, some-other}
use Rattle.caches.proofs.table.Caches.shared.Goals as goal

pub returns : goal.returns
returns c =
    let s = c.args.self.now in
    any_from_yields_List (test s c.args.seat c.args.line valid) _ _ c.any.result c.any.ensures.ran (YieldsList-from_range 0 s.agreed.seats s.agreed.seats refl (omega arith))
    (λ x b q k. search (rules, tests))
    ∙ some-other s c.args.seat c.args.line
