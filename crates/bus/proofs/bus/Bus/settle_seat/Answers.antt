use Rattle.std.proofs.Common.{◌≡◌, ℕ, ◌≤◌, [], length, get_or, sym, ap, add-one, arith}
use Rattle.rules.specs.Accesses.{flushed_sets}
use Rattle.caches.specs.Views.{caches_of}
use Rattle.caches.proofs.Places.{cache-sets}
use Rattle.bus.specs.Machines.{machine_of}
use Rattle.bus.proofs.Obeying.{settles-after, settles-named}
use Rattle.bus.proofs.bus.Bus.settle_seat.Goals as goal

pub loop-at-preserved : goal.loop-at-preserved
loop-at-preserved g c =
    let lines = g.M.Memory.lines in
    let aside = g.M.Memory.aside in
    let at = c.loop-at.at in (
      settles-named lines aside (settles-after lines aside c.loop-at.invariant.0 c.settle_set-written.ensures.settles)
          (λ es. ap (λ (n : ℕ). flushed_sets c.args.seat n (machine_of lines es c.args.self.now)) (sym (add-one at)))
          (omega arith),
      omega (arith, c.loop-at.invariant.1, c.settle_set-written.ensures.few),
    )

pub returns-clause-settles : goal.returns-clause-settles
returns-clause-settles g c =
    let lines = g.M.Memory.lines in
    let b = c.args.self.now in
    let seat = c.args.seat in
    let few : b.caches.agreed.sets ≤ 64 = b.caches.agreed.few_sets in
    let all : c.loop-at.at ≡ length (get_or (caches_of b.caches) seat []) =
    omega (arith, cache-sets b.caches seat c.requires.on, c.sets-at-end.ensures, c.loop-at-test.false, c.loop-at.auto.at-end) in
    settles-named lines g.M.Memory.aside c.loop-at.invariant.0
    (λ es. ap (λ (n : ℕ). flushed_sets seat n (machine_of lines es b)) all)
    (omega (arith, c.sets-at-end.ensures, c.loop-at.auto.at-end))
