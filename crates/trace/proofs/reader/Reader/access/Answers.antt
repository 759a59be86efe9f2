use Rattle.std.proofs.Common.{rules}
use Rattle.trace.proofs.Accessing.{access-grammar}
use Rattle.trace.proofs.Keeping.{keeps-faith}
use Rattle.trace.proofs.reader.Reader.access.Goals as goal

pub returns-in_err-access-clause-faithful : goal.returns-in_err-access-clause-faithful
returns-in_err-access-clause-faithful c = keeps-faith access-grammar _ _ c.args.self.now.within _ _ (search rules)

pub returns-clause-faithful : goal.returns-clause-faithful
returns-clause-faithful c = keeps-faith access-grammar _ _ c.args.self.now.within _ _ c.in_ok-access.ensures.comes
