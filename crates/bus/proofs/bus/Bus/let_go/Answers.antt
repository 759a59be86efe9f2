use Rattle.std.proofs.Common.{refl, arith}
use Rattle.std.proofs.lemmas.List.{append-nil}
use Rattle.rules.specs.Transactions.{dropped}
use Rattle.rules.specs.Accesses.{let_go}
use Rattle.bus.specs.Logs.{listed}
use Rattle.bus.proofs.Obeying.{after, changes, named}
use Rattle.bus.proofs.bus.Bus.let_go.Goals as goal

pub returns-clause-obeys : goal.returns-clause-obeys
unfolding let_go dropped
returns-clause-obeys g c =
    let lines = g.M.Memory.lines in
    let aside = g.M.Memory.aside in
    named lines aside
    (after lines aside c.save-event.ensures.obeys
    (changes lines aside c.args.line (dropped c.args.seat) c.save-event.new.self c.discard.new.self c.discard.ensures.caches refl c.discard.ensures.agreed))
    (λ es. refl) (append-nil (listed c.save-event.result)) (omega arith)
