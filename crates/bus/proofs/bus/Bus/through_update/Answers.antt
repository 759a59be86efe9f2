use Rattle.std.proofs.Common.{[], get_or, set, refl}
use Rattle.protocol.specs.declared.transaction.Transaction.TheVariants.{ThroughUpdate}
use Rattle.rules.specs.Columns.{kept, words_at}
use Rattle.rules.specs.Transactions.{through_update, after_tu}
use Rattle.rules.specs.Machines.{copies_of}
use Rattle.caches.specs.declared.heard.Heard.TheVariants as heard
use Rattle.caches.specs.Views.{caches_of}
use Rattle.bus.proofs.Telling.{Reacts, by_lone, holds, written, obeyed}
use Rattle.bus.proofs.bus.Bus.through_update.Goals as goal

pub write-requires-clause-held : goal.write-requires-clause-held
write-requires-clause-held g c =
    let b = c.args.self.now in
    let a = c.react-heeded in
    let p : Reacts b.caches c.args.line c.args.seat (g.P.Protocol.cells b.protocol) (heard.ThroughUpdate c.args.store) a.new.self a.result = record { on = c.requires.on; moved = a.ensures.caches; copies = a.ensures.copies; told = a.ensures.answer; same = a.ensures.agreed } in
    holds p c.requires.held

pub returns : goal.returns
unfolding through_update
returns g c =
    let b = c.args.self.now in
    let lines = g.M.Memory.lines in
    let aside = g.M.Memory.aside in
    let cell = g.P.Protocol.cells b.protocol in
    let seat = c.args.seat in
    let line = c.args.line in
    let store = c.args.store in
    let a = c.react-heeded in
    let p : Reacts b.caches line seat cell (heard.ThroughUpdate store) a.new.self a.result = record { on = c.requires.on; moved = a.ensures.caches; copies = a.ensures.copies; told = a.ensures.answer; same = a.ensures.agreed } in
    let words = set (words_at (copies_of line (caches_of b.caches)) seat) store.word store.value in
    let state = by_lone p (λ l. after_tu (cell seat) l c.state-old.result) c.after_through_update-state.result c.after_through_update-state.ensures in
    obeyed lines aside b p
    ThroughUpdate (through_update cell seat store.word store.value) (kept c.after_through_update-state.result words) (set (get_or (lines b.memory) line []) store.word store.value) (rw (state, c.state-old.ensures.value) refl)
    c.unsupplied-event.result c.tell.result c.write.new.self c.write_word.new.self c.tell.new.tally
    c.tell.ensures.event c.unsupplied-event.ensures
    (written p c.after_through_update-state.result store.word store.value c.write.new.self c.write.ensures.caches)
    c.write.ensures.agreed c.write_word.ensures.lines c.write_word.ensures.aside c.tell.ensures.value c.tell.ensures.most
