use Rattle.std.proofs.Common.{◌∙◌, arith}
use Rattle.trace.proofs.Wholes.{goes_on, access-laws, followed_on, next-some, next-none, counted-all, counted-fault}
use Rattle.trace.proofs.reader.Reader.count_accesses.Goals as goal

pub returns-in_err-next_access : goal.returns-in_err-next_access
returns-in_err-next_access c =
    let t = c.args.self.now.text.now in
    let i = c.args.self.now.at in
    let a = c.loop-count.ahead in
    record {
      counted =
          counted-fault a.text.now t i a.at c.next_access.new.self.at c.loop-count.count c.from_residual.result c.in_err-next_access.field-0.0
          c.loop-count.invariant.0 c.from_residual.ensures.1 c.in_err-next_access.ensures.reads c.loop-count.invariant.2;
      laws = access-laws t i c.args.self.now.within;
    }

pub loop-count-smaller : goal.loop-count-smaller
loop-count-smaller c =
    let t = c.args.self.now.text.now in
    let a = c.loop-count.ahead in
    let x = next-some a.text.now t a.at c.next_access.new.self.at c.in_ok-next_access.field-0 c.in-Some.field-0 c.loop-count.invariant.0 c.in-Some.is c.in_ok-next_access.ensures.reads in
    let y = goes_on t a.at c.next_access.new.self.at c.in-Some.field-0 (omega (arith, x.0)) x.1 in
    omega (arith, x.0, y.0, y.1)

pub loop-count-preserved : goal.loop-count-preserved
loop-count-preserved c =
    let t = c.args.self.now.text.now in
    let a = c.loop-count.ahead in
    let x = next-some a.text.now t a.at c.next_access.new.self.at c.in_ok-next_access.field-0 c.in-Some.field-0 c.loop-count.invariant.0 c.in-Some.is c.in_ok-next_access.ensures.reads in
    let y = goes_on t a.at c.next_access.new.self.at c.in-Some.field-0 (omega (arith, x.0)) x.1 in (
      c.in_ok-next_access.ensures.text ∙ c.loop-count.invariant.0,
      omega (arith, y.0, c.loop-count.invariant.1),
      followed_on t c.args.self.now.at a.at c.next_access.new.self.at c.loop-count.count c.in-Some.field-0 x.0 x.1 c.loop-count.invariant.2,
    )

pub returns : goal.returns
returns c =
    let t = c.args.self.now.text.now in
    let i = c.args.self.now.at in
    let a = c.loop-count.ahead in
    let e = next-none a.text.now t a.at c.next_access.new.self.at c.in_ok-next_access.field-0 c.loop-count.invariant.0 c.in_default.is c.in_ok-next_access.ensures.reads in
    record { counted = counted-all t i a.at c.loop-count.count c.loop-count.invariant.2 e; laws = access-laws t i c.args.self.now.within }
