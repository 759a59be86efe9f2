-- A write: the checks passed, and the bus wrote.
use Rattle.std.proofs.Common.{◌≤◌, length, refl, ap, ◌∙◌, arith}
use Rattle.std.proofs.lemmas.Result.{err_from_is_err_and}
use Rattle.rules.specs.declared.call.Call.TheVariants.{Write}
use Rattle.rules.specs.Tallies.{one_write}
use Rattle.rules.specs.Machines.{holds}
use Rattle.rules.specs.Accesses.{counting, written}
use Rattle.rules.specs.Systems.{at_work}
use Rattle.caches.proofs.Places.{caches-long}
use Rattle.run.specs.declared.place.Place.{Place}
use Rattle.run.specs.Views.{system_of}
use Rattle.run.proofs.Clearing.{seat-on, places-enough}
use Rattle.run.proofs.Answering.{refused-call, access-call}
use Rattle.run.proofs.run.Run.write.Goals as goal

pub returns-in_err-check : goal.returns-in_err-check
returns-in_err-check g c =
    let p = err_from_is_err_and c.from_residual.result c.from_residual.ensures.1 in
    rw (p.1, p.2)
    (refused-call g.P.Protocol.cells g.M.Memory.lines g.M.Memory.aside (Write c.args.seat c.args.address c.args.value (length c.args.records.now))
    c.args.self.now c.args.records.now c.in_err-check.field-0.0 c.in_err-check.ensures)

pub write-reply-requires-clause-on : goal.write-reply-requires-clause-on
write-reply-requires-clause-on g c =
    let s = system_of g.P.Protocol.cells g.M.Memory.lines c.args.self.now in
    let on = seat-on s c.args.seat c.args.address (length c.args.records.now) c.in_ok-check.ensures.0 in
    omega (arith, on, caches-long c.args.self.now.bus.caches)

pub returns : goal.returns
returns g c =
    let s = system_of g.P.Protocol.cells g.M.Memory.lines c.args.self.now in
    let e = c.in_ok-check.ensures.0 in
    let enough = places-enough s c.args.seat c.args.address (length c.args.records.now) e in
    let few : c.write-reply.result.records ≤ length c.write-reply.new.records = omega (arith, enough, c.write-reply.ensures.reaches.few, c.write-reply.auto.records) in
    access-call g.P.Protocol.cells g.M.Memory.lines g.M.Memory.aside (Write c.args.seat c.args.address c.args.value (length c.args.records.now)) c.args.self.now _
    c.write-reply.result.records c.args.records.now c.write-reply.new.records c.write-reply.result.value
    refl e (c.write-reply.ensures.reaches.machine ∙ ap (λ (p : Place). counting (one_write (holds c.args.seat p.line (at_work s))) (written s.cell c.args.seat p.line p.word c.args.value (at_work s))) c.from-at.ensures) c.write-reply.ensures.reaches.stays.protocol c.write-reply.ensures.reaches.stays.apart refl few c.write-reply.ensures.reaches.rest
    c.write-reply.ensures.value
