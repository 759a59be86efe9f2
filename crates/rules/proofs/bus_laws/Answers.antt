use Rattle.rules.proofs.bus_laws.Goals as goal
use Rattle.rules.proofs.Laws.{laws_hold}

pub returns : goal.returns
returns c = laws_hold
