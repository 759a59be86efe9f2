use Rattle.rules.proofs.coherence.Goals as goal
use Rattle.rules.proofs.Promises.{coherence-holds}

pub returns : goal.returns
returns c = coherence-holds
