-- The seats of the table are as many as the caches that it stands for.
use Rattle.std.proofs.Common.{sym, ◌∙◌}
use Rattle.caches.proofs.Places.{caches-long}
use Rattle.run.proofs.run.Run.seats.Goals as goal

pub returns : goal.returns
returns g c = c.seats.ensures ∙ sym (caches-long c.args.self.now.bus.caches)
