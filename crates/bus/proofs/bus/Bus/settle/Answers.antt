use Rattle.std.proofs.Common.{◌≡◌, ℕ, ◌≤◌, length, sym, ap, add-one, arith}
use Rattle.rules.specs.Accesses.{flushed_seats, settled}
use Rattle.caches.specs.Views.{caches_of}
use Rattle.caches.proofs.Places.{caches-long}
use Rattle.bus.specs.Machines.{machine_of}
use Rattle.bus.proofs.Obeying.{settles-after, settles-named}
use Rattle.bus.proofs.bus.Bus.settle.Goals as goal

pub loop-seat-preserved : goal.loop-seat-preserved
loop-seat-preserved g c =
    let lines = g.M.Memory.lines in
    let aside = g.M.Memory.aside in
    let seat = c.loop-seat.seat in (
      settles-named lines aside (settles-after lines aside c.loop-seat.invariant.0 c.settle_seat-written.ensures.settles)
          (λ es. ap (λ (n : ℕ). flushed_seats n (machine_of lines es c.args.self.now)) (sym (add-one seat)))
          (omega arith),
      omega (arith, c.loop-seat.invariant.1, c.settle_seat-written.ensures.few),
    )

pub returns : goal.returns
unfolding settled
returns g c =
    let lines = g.M.Memory.lines in
    let b = c.args.self.now in
    let few : b.caches.agreed.seats ≤ 8 = b.caches.agreed.few in
    let all : c.loop-seat.seat ≡ length (caches_of b.caches) =
    omega (arith, caches-long b.caches, c.seats-seat-end.ensures, c.loop-seat-test.false, c.loop-seat.auto.seat-end) in
    settles-named lines g.M.Memory.aside c.loop-seat.invariant.0
    (λ es. ap (λ (n : ℕ). flushed_seats n (machine_of lines es b)) all)
    (omega (arith, c.seats-seat-end.ensures, c.loop-seat.auto.seat-end))
