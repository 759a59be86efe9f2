use Rattle.std.proofs.Common.{◌≡◌, [], false, get_or, cond, refl, rules}
use Rattle.std.specs.Option.{option_map_or}
use Rattle.protocol.specs.declared.transaction.Transaction.TheVariants.{ReadShared}
use Rattle.rules.specs.declared.record.Record.{Record}
use Rattle.rules.specs.Columns.{kept}
use Rattle.rules.specs.Transactions.{read_shared, after_rs}
use Rattle.caches.specs.declared.heard.Heard.TheVariants as heard
use Rattle.caches.specs.declared.heeded.Owner.{Owner}
use Rattle.bus.proofs.Reacted.{reflected-home}
use Rattle.bus.proofs.Telling.{Reacts, free, placed, by_lone, taken, obeyed, supplied-by, supplied-back, supplied-words}
use Rattle.bus.proofs.bus.Bus.read_shared.Goals as goal

pub place-requires-clause-free : goal.place-requires-clause-free
place-requires-clause-free g c =
    let b = c.args.self.now in
    let a = c.react-heeded in
    let p : Reacts b.caches c.args.line c.args.seat (g.P.Protocol.cells b.protocol) heard.ReadShared a.new.self a.result = record { on = c.requires.on; moved = a.ensures.caches; copies = a.ensures.copies; told = a.ensures.answer; same = a.ensures.agreed } in
    free p c.requires.free

pub returns-clause-obeys : goal.returns-clause-obeys
unfolding read_shared
returns-clause-obeys g c =
    let b = c.args.self.now in
    let lines = g.M.Memory.lines in
    let aside = g.M.Memory.aside in
    let cell = g.P.Protocol.cells b.protocol in
    let seat = c.args.seat in
    let line = c.args.line in
    let home = get_or (lines b.memory) line [] in
    let a = c.react-heeded in
    let p : Reacts b.caches line seat cell heard.ReadShared a.new.self a.result = record { on = c.requires.on; moved = a.ensures.caches; copies = a.ensures.copies; told = a.ensures.answer; same = a.ensures.agreed } in
    let words = supplied-words p c.requires.absent home c.supply-words.result c.supply-words.ensures in
    let state = by_lone p (after_rs (cell seat)) c.after_read-state.result c.after_read-state.ensures.value in
    let x = kept c.after_read-state.result c.supply-words.result in
    let reflected = c.is_some_and-reflected.result in
    let met : reflected ≡ option_map_or (λ (o : Owner). o.reflected) a.result.owner false = search rules in
    let back = supplied-back p c.requires.absent x reflected met in
    let event = c.supplied.result in
    let made : Record = record { transaction = event.transaction; seat = event.seat; line = event.line; shared = event.shared; reflected = reflected; supplier = event.supplier } in
    obeyed lines aside b p
    ReadShared (read_shared cell seat) x (cond reflected c.supply-words.result home) (rw (back, state, words) refl)
    made c.tell.result c.place.new.self c.reflect.new.memory c.tell.new.tally
    c.tell.ensures.event
    (supplied-by p c.requires.absent ReadShared reflected _ made back (rw c.supplied.ensures refl))
    (taken p x c.place.new.self c.place.ensures.caches)
    c.place.ensures.agreed
    (reflected-home (lines b.memory) (lines c.reflect.new.memory) line reflected c.supply-words.result c.reflect.ensures.lines)
    c.reflect.ensures.aside c.tell.ensures.value c.tell.ensures.most

pub returns-clause-held : goal.returns-clause-held
returns-clause-held g c =
    let b = c.args.self.now in
    let a = c.react-heeded in
    let p : Reacts b.caches c.args.line c.args.seat (g.P.Protocol.cells b.protocol) heard.ReadShared a.new.self a.result = record { on = c.requires.on; moved = a.ensures.caches; copies = a.ensures.copies; told = a.ensures.answer; same = a.ensures.agreed } in
    placed p (kept c.after_read-state.result c.supply-words.result) c.place.new.self c.place.ensures.copies c.after_read-state.ensures.held
