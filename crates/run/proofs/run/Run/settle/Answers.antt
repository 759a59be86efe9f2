-- A settle: the limit is not reached, and the bus settled.
use Rattle.std.proofs.Common.{ℕ, [], refl, ap}
use Rattle.std.proofs.lemmas.Result.{err_from_is_err_and}
use Rattle.rules.specs.declared.call.Call.TheVariants.{Settle}
use Rattle.run.proofs.Answering.{refused-call, answered-call}
use Rattle.run.proofs.run.Run.settle.Goals as goal

pub returns-in_err-check_calls : goal.returns-in_err-check_calls
returns-in_err-check_calls g c =
    let p = err_from_is_err_and c.from_residual.result c.from_residual.ensures.1 in
    rw (p.1, p.2)
    (refused-call g.P.Protocol.cells g.M.Memory.lines g.M.Memory.aside Settle
    c.args.self.now [] c.in_err-check_calls.field-0.0 c.in_err-check_calls.ensures)

pub returns : goal.returns
returns g c =
    let t = c.settle-written.ensures in
    answered-call g.P.Protocol.cells g.M.Memory.lines g.M.Memory.aside Settle c.args.self.now _
    t.told [] [] (record { value = c.settle-written.result; records = 0 })
    c.in_ok-check_calls.ensures.0 (t.obeys.machine []) t.obeys.stays.protocol t.obeys.stays.apart refl
    refl (ap (λ (n : ℕ). record { value = n; records = 0 }) t.wrote)
