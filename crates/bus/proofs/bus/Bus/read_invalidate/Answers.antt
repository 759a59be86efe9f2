use Rattle.std.proofs.Common.{[], false, get_or, set, refl}
use Rattle.protocol.specs.declared.state.State.TheVariants.{Modified}
use Rattle.protocol.specs.declared.transaction.Transaction.TheVariants.{ReadInvalidate}
use Rattle.rules.specs.Columns.{kept}
use Rattle.rules.specs.Transactions.{read_invalidate}
use Rattle.caches.specs.declared.heard.Heard.TheVariants as heard
use Rattle.bus.proofs.Parts.{home_stays}
use Rattle.bus.proofs.Telling.{Reacts, free, taken, obeyed, supplied-by, supplied-words}
use Rattle.bus.proofs.bus.Bus.read_invalidate.Goals as goal

pub place-requires-clause-free : goal.place-requires-clause-free
place-requires-clause-free g c =
    let b = c.args.self.now in
    let a = c.react-heeded in
    let p : Reacts b.caches c.args.line c.args.seat (g.P.Protocol.cells b.protocol) heard.ReadInvalidate a.new.self a.result = record { on = c.requires.on; moved = a.ensures.caches; copies = a.ensures.copies; told = a.ensures.answer; same = a.ensures.agreed } in
    free p c.requires.free

pub returns : goal.returns
unfolding read_invalidate
returns g c =
    let b = c.args.self.now in
    let lines = g.M.Memory.lines in
    let aside = g.M.Memory.aside in
    let cell = g.P.Protocol.cells b.protocol in
    let seat = c.args.seat in
    let line = c.args.line in
    let store = c.args.store in
    let home = get_or (lines b.memory) line [] in
    let a = c.react-heeded in
    let p : Reacts b.caches line seat cell heard.ReadInvalidate a.new.self a.result = record { on = c.requires.on; moved = a.ensures.caches; copies = a.ensures.copies; told = a.ensures.answer; same = a.ensures.agreed } in
    let words = supplied-words p c.requires.absent home c.supply-words.result c.supply-words.ensures in
    let x = kept Modified (set c.supply-words.result store.word store.value) in
    obeyed lines aside b p
    ReadInvalidate (read_invalidate seat store.word store.value) x home (rw words refl)
    c.supplied-event.result c.tell.result c.place.new.self b.memory c.tell.new.tally
    c.tell.ensures.event
    (supplied-by p c.requires.absent ReadInvalidate false false c.supplied-event.result refl c.supplied-event.ensures)
    (taken p x c.place.new.self c.place.ensures.caches)
    c.place.ensures.agreed (home_stays (lines b.memory) line) refl c.tell.ensures.value c.tell.ensures.most
