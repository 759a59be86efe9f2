-- The bus is settled, and the memory drained: both lists are what the settle leaves.
use Rattle.std.proofs.Common.{[], length, sym, ap, ◌∙◌, rules}
use Rattle.rules.specs.Machines.{Machine}
use Rattle.run.specs.Views.{system_of}
use Rattle.run.proofs.Ending.{closed-memory, closed-tally, closed-lines, squares}
use Rattle.run.proofs.run.Run.close.Goals as goal

pub returns : goal.returns
returns g c =
    let s = system_of g.P.Protocol.cells g.M.Memory.lines c.args.self in
    let m = c.settle-written.ensures.obeys.machine [] in
    let left = ap (λ (x : Machine). x.memory) m ∙ sym (closed-memory s) in
    let tally = ap (λ (x : Machine). x.tally) m ∙ sym (closed-tally s) in
    record {
      reads = search rules;
      bottom = search rules;
      tally = tally;
      written = c.settle-written.ensures.wrote ∙ ap (λ (x : Machine). length x.records) m ∙ sym (closed-lines s);
      apart = search rules;
      squares = squares s _ _ _ (search rules) (search rules) tally;
    }
