use Rattle.std.proofs.Common.{refl, set}
use Rattle.protocol.specs.declared.transaction.Transaction.TheVariants.{ThroughInvalidate}
use Rattle.rules.specs.Columns.{kept, state_at, words_at}
use Rattle.rules.specs.Transactions.{through_invalidate, after_ti}
use Rattle.rules.specs.Machines.{copies_of}
use Rattle.caches.specs.declared.heard.Heard.TheVariants as heard
use Rattle.caches.specs.Views.{caches_of}
use Rattle.bus.proofs.Telling.{Reacts, worded, obeyed}
use Rattle.bus.proofs.bus.Bus.through_invalidate.Goals as goal

pub returns : goal.returns
unfolding through_invalidate
returns g c =
    let b = c.args.self.now in
    let lines = g.M.Memory.lines in
    let aside = g.M.Memory.aside in
    let cell = g.P.Protocol.cells b.protocol in
    let seat = c.args.seat in
    let line = c.args.line in
    let store = c.args.store in
    let a = c.react-heeded in
    let p : Reacts b.caches line seat cell heard.ThroughInvalidate a.new.self a.result = record { on = c.requires.on; moved = a.ensures.caches; copies = a.ensures.copies; told = a.ensures.answer; same = a.ensures.agreed } in
    obeyed lines aside b p
    ThroughInvalidate (through_invalidate cell seat store.word store.value) (kept (after_ti (cell seat) (state_at (copies_of line (caches_of b.caches)) seat)) (set (words_at (copies_of line (caches_of b.caches)) seat) store.word store.value)) _ refl
    c.unsupplied-event.result c.tell.result c.keep_through.new.caches c.write_word.new.self c.tell.new.tally
    c.tell.ensures.event c.unsupplied-event.ensures
    (worded p (after_ti (cell seat)) store.word store.value c.keep_through.new.caches c.keep_through.ensures.caches)
    c.keep_through.ensures.agreed c.write_word.ensures.lines c.write_word.ensures.aside c.tell.ensures.value c.tell.ensures.most
