-- The place tells the state: that of the copy, where its tag is the line's.
use Rattle.caches.proofs.Finds.{state-here, state-elsewhere}
use Rattle.caches.proofs.table.Caches.state_in.Goals as goal

pub returns-then-copy-line : goal.returns-then-copy-line
returns-then-copy-line c =
    let t =
    state-here c.args.self.now c.args.seat c.requires.on c.args.line c.args.at c.requires.place c.if-copy-line.true
    in
    record { value = t.value; seat = t.seat }

pub returns-else-copy-line : goal.returns-else-copy-line
returns-else-copy-line c =
    let t =
    state-elsewhere c.args.self.now c.args.seat c.requires.on c.args.line c.args.at c.requires.place c.if-copy-line.false
    in
    record { value = t.value; seat = t.seat }
