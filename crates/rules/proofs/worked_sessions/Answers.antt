use Rattle.rules.proofs.worked_sessions.Goals as goal
use Rattle.rules.proofs.Sessions.{sessions}

pub returns : goal.returns
returns c = sessions
