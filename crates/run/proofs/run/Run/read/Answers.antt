-- A read: the checks passed, the bus fetched the line, and the word stands in the seat's copy.
use Rattle.std.proofs.Common.{◌≤◌, length, get_or, refl, ap, ◌∙◌, arith}
use Rattle.std.proofs.lemmas.Result.{err_from_is_err_and}
use Rattle.rules.specs.declared.call.Call.TheVariants.{Read}
use Rattle.rules.specs.Columns.{words_at}
use Rattle.rules.specs.Tallies.{one_read}
use Rattle.rules.specs.Machines.{holds, copies_of}
use Rattle.rules.specs.Accesses.{counting, fetched}
use Rattle.rules.specs.Systems.{at_work}
use Rattle.caches.specs.Views.{caches_of}
use Rattle.caches.proofs.Places.{caches-long}
use Rattle.run.specs.declared.place.Place.{Place}
use Rattle.run.specs.Views.{system_of}
use Rattle.run.proofs.Clearing.{seat-on, places-enough}
use Rattle.run.proofs.Answering.{refused-call, access-call}
use Rattle.run.proofs.run.Run.read.Goals as goal

pub returns-in_err-check : goal.returns-in_err-check
returns-in_err-check g c =
    let p = err_from_is_err_and c.from_residual.result c.from_residual.ensures.1 in
    rw (p.1, p.2)
    (refused-call g.P.Protocol.cells g.M.Memory.lines g.M.Memory.aside (Read c.args.seat c.args.address (length c.args.records.now))
    c.args.self.now c.args.records.now c.in_err-check.field-0.0 c.in_err-check.ensures)

pub read-reply-requires-clause-on : goal.read-reply-requires-clause-on
read-reply-requires-clause-on g c =
    let s = system_of g.P.Protocol.cells g.M.Memory.lines c.args.self.now in
    let on = seat-on s c.args.seat c.args.address (length c.args.records.now) c.in_ok-check.ensures.0 in
    omega (arith, on, caches-long c.args.self.now.bus.caches)

pub returns : goal.returns
returns g c =
    let s = system_of g.P.Protocol.cells g.M.Memory.lines c.args.self.now in
    let e = c.in_ok-check.ensures.0 in
    let enough = places-enough s c.args.seat c.args.address (length c.args.records.now) e in
    let few : c.read-reply.result.records ≤ length c.read-reply.new.records = omega (arith, enough, c.read-reply.ensures.reaches.few, c.read-reply.auto.records) in
    access-call g.P.Protocol.cells g.M.Memory.lines g.M.Memory.aside (Read c.args.seat c.args.address (length c.args.records.now)) c.args.self.now _
    c.read-reply.result.records c.args.records.now c.read-reply.new.records c.read-reply.result.value
    refl e (c.read-reply.ensures.reaches.machine ∙ ap (λ (p : Place). counting (one_read (holds c.args.seat p.line (at_work s))) (fetched s.cell c.args.seat p.line (at_work s))) c.from-at.ensures) c.read-reply.ensures.reaches.stays.protocol c.read-reply.ensures.reaches.stays.apart refl few c.read-reply.ensures.reaches.rest
    (c.read-reply.ensures.value ∙ ap (λ (p : Place). get_or (words_at (copies_of p.line (caches_of c.read-reply.new.self.caches)) c.args.seat) p.word 0) c.from-at.ensures)
