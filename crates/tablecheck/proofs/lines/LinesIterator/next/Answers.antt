use Rattle.std.proofs.Common.{rules, tests}
use Rattle.tablecheck.proofs.Behind.{cut-line}
use Rattle.tablecheck.proofs.lines.LinesIterator.next.Goals as goal

pub returns-clause-steps : goal.returns-clause-steps
returns-clause-steps c =
    ((λ q. search (rules, tests)), cut-line c.args.self.now.text.now c.split_at.result.0.now c.split_at.result.1.now c.line_end.result c.min.result c.split_at.ensures.front c.split_at.ensures.back c.line_end.ensures.within.1 c.line_end.ensures.before c.line_end.ensures.ends c.min.ensures)
