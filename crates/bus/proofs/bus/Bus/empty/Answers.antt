use Rattle.std.proofs.Common.{◌≡◌, ℕ, [], get_or, sym, refl, ap, ◌∙◌, arith, rules}
use Rattle.std.proofs.lemmas.List.{append-nil}
use Rattle.rules.specs.Caches.{room, victim}
use Rattle.rules.specs.Tallies.{one_displaced}
use Rattle.rules.specs.Accesses.{counting, let_go}
use Rattle.caches.specs.Views.{caches_of}
use Rattle.bus.specs.Logs.{listed}
use Rattle.bus.specs.Machines.{machine_of}
use Rattle.bus.proofs.Absent.{stays-absent, occupied, vacant}
use Rattle.bus.proofs.Cases.{emptied-room, emptied-full}
use Rattle.bus.proofs.Obeying.{after, counts, named, nothing}
use Rattle.bus.proofs.bus.Bus.empty.Goals as goal

pub returns-in_err-other-clause-obeys : goal.returns-in_err-other-clause-obeys
returns-in_err-other-clause-obeys g c =
    let lines = g.M.Memory.lines in
    let aside = g.M.Memory.aside in
    let b = c.args.self.now in
    let cache = get_or (caches_of b.caches) c.args.seat [] in
    let none : [] ≡ listed c.from_residual.result = search rules in
    named lines aside (nothing lines aside b)
    (λ es. sym (emptied-room c.args.seat c.args.line (machine_of lines es b) (vacant (room cache c.args.line) (victim cache c.args.line) c.in_err-other.ensures.answer)))
    none (omega arith)

pub returns-clause-obeys : goal.returns-clause-obeys
returns-clause-obeys g c =
    let lines = g.M.Memory.lines in
    let aside = g.M.Memory.aside in
    let b = c.args.self.now in
    let seat = c.args.seat in
    let line = c.args.line in
    let cache = get_or (caches_of b.caches) seat [] in
    let full = occupied (room cache line) (victim cache line) c.in_ok-other.other c.in_ok-other.ensures.answer in
    let gone = c.let_go-event in
    named lines aside
    (after lines aside gone.ensures.obeys (counts lines aside one_displaced 1 gone.new.self (one_displaced gone.new.self.tally) refl (omega arith)))
    (λ es. ap (λ (v : ℕ). counting one_displaced (let_go seat v (machine_of lines es b))) (sym full.1) ∙ sym (emptied-full seat line (machine_of lines es b) full.0))
    (append-nil (listed gone.result)) (omega arith)

pub returns-clause-absent : goal.returns-clause-absent
returns-clause-absent g c =
    let b = c.args.self.now in
    let gone = c.let_go-event in
    stays-absent c.in_ok-other.other c.args.line c.args.seat (caches_of b.caches) (caches_of gone.new.self.caches) gone.ensures.gone c.in_ok-other.ensures.stands.1 c.requires.absent
