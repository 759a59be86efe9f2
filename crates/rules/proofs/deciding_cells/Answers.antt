use Rattle.rules.proofs.deciding_cells.Goals as goal
use Rattle.rules.proofs.Sessions.{deciding}

pub returns : goal.returns
returns c = deciding
