use Rattle.trace.proofs.Inside.{words_inside}
use Rattle.trace.proofs.reader.Reader.setup.Goals as goal

pub invariant_of-checks : goal.invariant_of-checks
invariant_of-checks c =
    let p = words_inside c.args.self.now.text.now c.args.self.now.at c.in_ok-line.line c.bus_line.new.self.at c.args.self.now.within c.in_ok-line.ensures.reads.reads in
    record { first = p.0; second = p.1 }
