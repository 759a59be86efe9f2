use Rattle.session.proofs.Existing.{one-outcome}
use Rattle.session.proofs.one_outcome.Goals as goal

pub returns : goal.returns
returns c = one-outcome
