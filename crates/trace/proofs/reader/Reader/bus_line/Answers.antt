use Rattle.std.proofs.Common.{rules}
use Rattle.trace.proofs.Bussing.{bus-grammar}
use Rattle.trace.proofs.Keeping.{keeps-faith}
use Rattle.trace.proofs.reader.Reader.bus_line.Goals as goal

pub returns-in_err-line-clause-faithful : goal.returns-in_err-line-clause-faithful
returns-in_err-line-clause-faithful c = keeps-faith bus-grammar _ _ c.args.self.now.within _ _ (search rules)

pub returns-clause-faithful : goal.returns-clause-faithful
returns-clause-faithful c = keeps-faith bus-grammar _ _ c.args.self.now.within _ _ c.in_ok-line.ensures.comes
