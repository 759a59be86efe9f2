use Rattle.std.proofs.Common.{refl}
use Rattle.rules.specs.Transactions.{silent}
use Rattle.bus.proofs.Obeying.{changes}
use Rattle.bus.proofs.bus.Bus.write_silently.Goals as goal

pub returns : goal.returns
unfolding silent
returns g c =
    changes g.M.Memory.lines g.M.Memory.aside c.args.line (silent c.args.seat c.args.store.word c.args.store.value) c.args.self.now
    c.write.new.self c.write.ensures.caches refl c.write.ensures.agreed
