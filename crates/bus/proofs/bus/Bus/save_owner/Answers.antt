use Rattle.std.proofs.Common.{◌≡◌, [], Some, None, sym, refl, arith, rules}
use Rattle.rules.specs.Machines.{copies_of}
use Rattle.caches.specs.Views.{caches_of}
use Rattle.bus.specs.Logs.{listed}
use Rattle.bus.specs.Machines.{machine_of}
use Rattle.bus.proofs.Absent.{owner-there}
use Rattle.bus.proofs.Cases.{saved_from-owner}
use Rattle.bus.proofs.Obeying.{named, nothing}
use Rattle.bus.proofs.Requests.{copies-long}
use Rattle.bus.proofs.bus.Bus.save_owner.Goals as goal

pub returns-in_err-owner : goal.returns-in_err-owner
returns-in_err-owner g c =
    let lines = g.M.Memory.lines in
    let b = c.args.self.now in
    let none : [] ≡ listed c.from_residual.result = search rules in
    named lines g.M.Memory.aside (nothing lines g.M.Memory.aside b)
    (λ es. sym (saved_from-owner c.args.seat c.args.line (machine_of lines es b) None (sym c.in_err-owner.ensures)))
    none (omega arith)

pub write_back-requires : goal.write_back-requires
write_back-requires g c =
    let b = c.args.self.now in
    let found = owner-there (copies_of c.args.line (caches_of b.caches)) c.args.seat c.in_ok-owner.owner c.in_ok-owner.ensures in
    record { on = omega (arith, found.0, copies-long b.caches c.args.line); held = found.1; room = c.requires }

pub returns : goal.returns
returns g c =
    let lines = g.M.Memory.lines in
    named lines g.M.Memory.aside c.write_back.ensures.obeys
    (λ es. sym (saved_from-owner c.args.seat c.args.line (machine_of lines es c.args.self.now) (Some c.in_ok-owner.owner) (sym c.in_ok-owner.ensures)))
    refl (omega arith)
