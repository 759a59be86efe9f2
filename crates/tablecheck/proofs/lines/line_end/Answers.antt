use Rattle.std.proofs.Common.{◌≡◌, rules, tests}
use Rattle.std.proofs.lemmas.Iterator.{IsFirst-from_position, YieldsList-from_slice}
use Rattle.tablecheck.proofs.Ends.{none-before}
use Rattle.tablecheck.proofs.lines.line_end.Goals as goal

pub returns-clause-before : goal.returns-clause-before
returns-clause-before c =
    let rest = c.iter.result.rest.now in
    let first = IsFirst-from_position _ _ c.position.result (λ b. b ≡ 10) (λ b. b ≡ 10 → ⊥) c.position.ensures.ran (YieldsList-from_slice rest cc) (λ x q k. search (rules, tests)) (λ x q k. search (rules, tests)) in
    none-before c.args.text.now rest c.args.from c.map_or.result c.position.result (λ b. b ≡ 10) c.iter.ensures.rest c.requires first (λ q. search rules) (λ i q. search rules)
