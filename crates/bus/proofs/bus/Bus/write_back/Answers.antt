use Rattle.std.proofs.Common.{Bool, false, length, sym, refl, ap, ◌∙◌, arith, length-set}
use Rattle.protocol.specs.declared.transaction.Transaction.TheVariants.{WriteBack}
use Rattle.rules.specs.declared.record.Record.{Record}
use Rattle.rules.specs.declared.record.Supplier.TheVariants.{Nobody}
use Rattle.rules.specs.Transactions.{write_back}
use Rattle.rules.specs.Machines.{copies_of}
use Rattle.rules.proofs.Machines.{put_each-same}
use Rattle.caches.specs.Views.{caches_of}
use Rattle.bus.proofs.Counting.{lost-self}
use Rattle.bus.proofs.Parts.{transact-is, handed}
use Rattle.bus.proofs.bus.Bus.write_back.Goals as goal

pub returns-clause-obeys : goal.returns-clause-obeys
unfolding write_back
returns-clause-obeys g c =
    let b = c.args.self.now in
    let ls = g.M.Memory.lines b.memory in
    let seat = c.args.seat in
    let line = c.args.line in
    let cs = caches_of b.caches in
    let e = c.tell.result in
    let event : Bool → Record = λ shared. record { transaction = WriteBack; seat = seat; line = line; shared = shared; reflected = false; supplier = Nobody } in
    record {
      machine =
          transact-is cs ls b.tally line (write_back seat) WriteBack seat
          e cs (g.M.Memory.lines c.write_line.new.self) c.tell.new.tally
          (sym (put_each-same line cs))
          (rw (← c.words-words.ensures) c.write_line.ensures.lines)
          (handed event c.tell.ensures.event c.unsupplied-event.ensures c.shared-shared.ensures)
          (rw (lost-self seat (copies_of line cs)) c.tell.ensures.value);
      stays = record {
        grown = omega (arith, c.tell.ensures.most);
        protocol = refl;
        apart = c.write_line.ensures.aside;
        count = ap length c.write_line.ensures.lines ∙ length-set ls line c.words-words.result;
        agreed = refl;
      };
    }
