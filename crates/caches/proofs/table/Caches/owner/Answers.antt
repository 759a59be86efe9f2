-- The seats are asked one after the other, and the first that owns the line is the owner.
use Rattle.std.proofs.Common.{◌≡◌, ℕ, Some, None, Option, rules, tests, refl, ◌∙◌, arith}
use Rattle.std.specs.Option.{option_map}
use Rattle.std.proofs.lemmas.Iterator.{YieldsList-from_range}
use Rattle.std.proofs.lemmas.Iterator.Search.{find_from_yields_List}
use Rattle.protocol.specs.States.{owned}
use Rattle.caches.proofs.Searches.{test, first-owner}
use Rattle.caches.proofs.table.Caches.owner.Goals as goal

same : (o : Option ℕ) → o ≡ option_map (λ x. x) o
same None = refl
same (Some k) = refl

pub returns : goal.returns
returns c =
    let s = c.args.self.now in
    same c.find.result
    ∙ find_from_yields_List (test s c.args.requester c.args.line owned) _ _ c.find.result c.find.ensures.ran (YieldsList-from_range 0 s.agreed.seats s.agreed.seats refl (omega arith))
    (λ x b q k. search (rules, tests))
    ∙ first-owner s c.args.requester c.args.line
