use Rattle.std.proofs.Common.{◌≡◌, true, false, sym, refl, arith, rules}
use Rattle.std.proofs.lemmas.List.{append-nil}
use Rattle.protocol.specs.States.{valid}
use Rattle.rules.specs.Columns.{state_at}
use Rattle.rules.specs.Machines.{copies_of}
use Rattle.rules.specs.Tallies.{one_flushed}
use Rattle.caches.specs.Views.{caches_of}
use Rattle.bus.specs.Logs.{listed}
use Rattle.bus.specs.Machines.{machine_of}
use Rattle.bus.proofs.Cases.{flushed-held, flushed-absent}
use Rattle.bus.proofs.Obeying.{after, counts, named, nothing}
use Rattle.bus.proofs.bus.Bus.flush_line.Goals as goal

pub returns-then-not-is_valid : goal.returns-then-not-is_valid
returns-then-not-is_valid g c =
    let lines = g.M.Memory.lines in
    let aside = g.M.Memory.aside in
    let b = c.args.self.now in
    let absent : valid (state_at (copies_of c.args.line (caches_of b.caches)) c.args.seat) ≡ false = search rules in
    named lines aside (nothing lines aside b) (λ es. sym (flushed-absent c.args.seat c.args.line (machine_of lines es b) absent)) refl (omega arith)

pub returns : goal.returns
returns g c =
    let lines = g.M.Memory.lines in
    let aside = g.M.Memory.aside in
    let b = c.args.self.now in
    let held : valid (state_at (copies_of c.args.line (caches_of b.caches)) c.args.seat) ≡ true = search rules in
    named lines aside
    (after lines aside c.let_go-event.ensures.obeys (counts lines aside one_flushed 1 c.let_go-event.new.self (one_flushed c.let_go-event.new.self.tally) refl (omega arith)))
    (λ es. sym (flushed-held c.args.seat c.args.line (machine_of lines es b) held))
    (append-nil (listed c.let_go-event.result)) (omega arith)
