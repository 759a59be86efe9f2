-- A flush: the checks passed, and the lines written are as many as the records.
use Rattle.std.proofs.Common.{◌≤◌, length, sym, refl, ap, ◌∙◌, arith}
use Rattle.std.proofs.lemmas.Result.{err_from_is_err_and}
use Rattle.rules.specs.declared.call.Call.TheVariants.{Flush}
use Rattle.rules.specs.Accesses.{flushed}
use Rattle.rules.specs.Systems.{at_work}
use Rattle.caches.proofs.Places.{caches-long}
use Rattle.run.specs.declared.place.Place.{Place}
use Rattle.run.specs.Views.{system_of}
use Rattle.run.proofs.Clearing.{seat-on, places-enough}
use Rattle.run.proofs.Filling.{made-long}
use Rattle.run.proofs.Answering.{refused-call, access-call}
use Rattle.run.proofs.run.Run.flush.Goals as goal

pub returns-in_err-check : goal.returns-in_err-check
returns-in_err-check g c =
    let p = err_from_is_err_and c.from_residual.result c.from_residual.ensures.1 in
    rw (p.1, p.2)
    (refused-call g.P.Protocol.cells g.M.Memory.lines g.M.Memory.aside (Flush c.args.seat c.args.address (length c.args.records.now))
    c.args.self.now c.args.records.now c.in_err-check.field-0.0 c.in_err-check.ensures)

pub flush-reply-requires-clause-on : goal.flush-reply-requires-clause-on
flush-reply-requires-clause-on g c =
    let s = system_of g.P.Protocol.cells g.M.Memory.lines c.args.self.now in
    let on = seat-on s c.args.seat c.args.address (length c.args.records.now) c.in_ok-check.ensures.0 in
    omega (arith, on, caches-long c.args.self.now.bus.caches)

pub returns : goal.returns
returns g c =
    let s = system_of g.P.Protocol.cells g.M.Memory.lines c.args.self.now in
    let e = c.in_ok-check.ensures.0 in
    let enough = places-enough s c.args.seat c.args.address (length c.args.records.now) e in
    let few : c.flush-reply.result.records ≤ length c.flush-reply.new.records = omega (arith, enough, c.flush-reply.ensures.reaches.few, c.flush-reply.auto.records) in
    access-call g.P.Protocol.cells g.M.Memory.lines g.M.Memory.aside (Flush c.args.seat c.args.address (length c.args.records.now)) c.args.self.now _
    c.flush-reply.result.records c.args.records.now c.flush-reply.new.records c.flush-reply.result.value
    refl e (c.flush-reply.ensures.reaches.machine ∙ ap (λ (p : Place). flushed c.args.seat p.line (at_work s)) c.from-at.ensures) c.flush-reply.ensures.reaches.stays.protocol c.flush-reply.ensures.reaches.stays.apart refl few c.flush-reply.ensures.reaches.rest
    (c.flush-reply.ensures.value ∙ sym (made-long c.flush-reply.result.records c.args.records.now c.flush-reply.new.records few))
