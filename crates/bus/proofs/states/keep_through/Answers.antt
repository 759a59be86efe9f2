use Rattle.std.proofs.Common.{◌≡◌, false, set, sym, ap, ◌∙◌, rules}
use Rattle.protocol.specs.declared.state.State.{State}
use Rattle.protocol.specs.States.{valid}
use Rattle.rules.specs.Columns.{kept, state_at, words_at}
use Rattle.rules.specs.Transactions.{after_ti}
use Rattle.rules.specs.Machines.{copies_of, put_each}
use Rattle.rules.proofs.Machines.{put_each-same}
use Rattle.rules.proofs.Tables.{unheld}
use Rattle.caches.specs.Views.{caches_of}
use Rattle.bus.proofs.Absent.{without}
use Rattle.bus.proofs.states.keep_through.Goals as goal

pub returns-else-is_valid-clause-caches : goal.returns-else-is_valid-clause-caches
returns-else-is_valid-clause-caches g c =
    let cell = g.P.Protocol.cells c.args.protocol.now in
    let seat = c.args.seat in
    let line = c.args.line in
    let cs = caches_of c.args.caches.now in
    let xs = copies_of line cs in
    let words = set (words_at xs seat) c.args.store.word c.args.store.value in
    let absent : valid (state_at xs seat) ≡ false = search rules in
    sym (put_each-same line cs)
    ∙ ap (put_each line cs) (sym (without line seat cs absent))
    ∙ ap (λ (s : State). put_each line cs (set xs seat (kept (after_ti (cell seat) s) words))) (sym (unheld (state_at xs seat) absent))
