use Rattle.std.proofs.Common.{refl, set}
use Rattle.protocol.specs.declared.transaction.Transaction.TheVariants.{Update}
use Rattle.rules.specs.Columns.{kept, words_at}
use Rattle.rules.specs.Transactions.{update, after_up}
use Rattle.rules.specs.Machines.{copies_of}
use Rattle.caches.specs.declared.heard.Heard.TheVariants as heard
use Rattle.caches.specs.Views.{caches_of}
use Rattle.bus.proofs.Parts.{home_stays}
use Rattle.bus.proofs.Telling.{Reacts, by_lone, holds, written, obeyed}
use Rattle.bus.proofs.bus.Bus.update.Goals as goal

pub write-requires-clause-held : goal.write-requires-clause-held
write-requires-clause-held g c =
    let b = c.args.self.now in
    let a = c.react-heeded in
    let p : Reacts b.caches c.args.line c.args.seat (g.P.Protocol.cells b.protocol) (heard.Update c.args.store) a.new.self a.result = record { on = c.requires.on; moved = a.ensures.caches; copies = a.ensures.copies; told = a.ensures.answer; same = a.ensures.agreed } in
    holds p c.requires.held

pub returns : goal.returns
unfolding update
returns g c =
    let b = c.args.self.now in
    let lines = g.M.Memory.lines in
    let aside = g.M.Memory.aside in
    let cell = g.P.Protocol.cells b.protocol in
    let seat = c.args.seat in
    let line = c.args.line in
    let store = c.args.store in
    let a = c.react-heeded in
    let p : Reacts b.caches line seat cell (heard.Update store) a.new.self a.result = record { on = c.requires.on; moved = a.ensures.caches; copies = a.ensures.copies; told = a.ensures.answer; same = a.ensures.agreed } in
    let words = set (words_at (copies_of line (caches_of b.caches)) seat) store.word store.value in
    let state = by_lone p (after_up (cell seat)) c.after_update-state.result c.after_update-state.ensures in
    obeyed lines aside b p
    Update (update cell seat store.word store.value) (kept c.after_update-state.result words) _ (rw state refl)
    c.unsupplied-event.result c.tell.result c.write.new.self b.memory c.tell.new.tally
    c.tell.ensures.event c.unsupplied-event.ensures
    (written p c.after_update-state.result store.word store.value c.write.new.self c.write.ensures.caches)
    c.write.ensures.agreed (home_stays (lines b.memory) line) refl c.tell.ensures.value c.tell.ensures.most
