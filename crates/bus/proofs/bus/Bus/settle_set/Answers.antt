use Rattle.std.proofs.Common.{[], ◌∷◌, sym, refl, arith}
use Rattle.bus.specs.Logs.{listed}
use Rattle.bus.specs.Machines.{machine_of}
use Rattle.bus.proofs.Cases.{flushed_set-lines}
use Rattle.bus.proofs.Obeying.{named, nothing}
use Rattle.bus.proofs.bus.Bus.settle_set.Goals as goal

pub returns-in-Some-clause-settles : goal.returns-in-Some-clause-settles
returns-in-Some-clause-settles g c =
    let lines = g.M.Memory.lines in
    record {
      told = listed c.flush_line.result;
      wrote = c.lines_written.ensures;
      obeys =
          named lines g.M.Memory.aside c.flush_line.ensures
          (λ es. sym (flushed_set-lines c.args.seat c.args.at (machine_of lines es c.args.self.now) (c.in-Some.line ∷ []) (sym c.in-Some.ensures)))
          refl (omega arith);
    }

pub returns-in-None-clause-settles : goal.returns-in-None-clause-settles
returns-in-None-clause-settles g c =
    let lines = g.M.Memory.lines in
    let b = c.args.self.now in
    record {
      told = [];
      wrote = refl;
      obeys =
          named lines g.M.Memory.aside (nothing lines g.M.Memory.aside b)
          (λ es. sym (flushed_set-lines c.args.seat c.args.at (machine_of lines es b) [] (sym c.in-None.ensures)))
          refl (omega arith);
    }
