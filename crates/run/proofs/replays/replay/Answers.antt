-- Each turn makes one call more, and what closing gives squares with the ledger after them all.
use Rattle.std.proofs.Common.{◌≡◌, length, ap, ◌∙◌, arith}
use Rattle.rules.specs.Systems.{System, closed}
use Rattle.run.proofs.Replaying.{more-progress, last-system, all-replies}
use Rattle.run.proofs.Wholes.{whole}
use Rattle.run.proofs.replays.replay.Goals as goal

pub loop-step-preserved : goal.loop-step-preserved
loop-step-preserved g c =
    more-progress g.P.Protocol.cells g.M.Memory.lines g.M.Memory.aside c.open-run.result.0 c.loop-step.run c.args.steps.now c.loop-step.steps
    c.loop-step.step-index c.loop-step.invariant c.loop-step-test.true c.loop-step.auto.steps c.make.new.self c.make.result
    c.make.ensures.replies c.make.ensures.system c.make.ensures.aside

pub returns : goal.returns
returns g c =
    let all : c.loop-step.step-index ≡ length c.args.steps.now = omega arith in
    let inv = c.loop-step.invariant in
    let last =
    last-system g.P.Protocol.cells g.M.Memory.lines g.M.Memory.aside c.open-run.result.0 c.loop-step.run c.args.steps.now c.loop-step.steps
    c.loop-step.step-index inv all _ c.open-run.ensures.system
    in
    record {
      promise =
          whole (g.P.Protocol.cells c.args.protocol) (g.met.P.Protocol.lawful c.args.protocol) c.args.agreed (g.M.Memory.lines c.args.memory) (g.met.M.Memory.lawful c.args.memory).shaped
          c.args.steps.now c.loop-step.steps (g.M.Memory.lines c.close.result.memory) (g.M.Memory.settled c.close.result.memory) c.close.result.tally c.close.result.written
          inv.calls
          (all-replies g.P.Protocol.cells g.M.Memory.lines g.M.Memory.aside c.open-run.result.0 c.loop-step.run c.args.steps.now c.loop-step.steps
          c.loop-step.step-index inv all _ c.open-run.ensures.system)
          (c.close.ensures.reads ∙ ap (λ (s : System). (closed s).memory) last)
          (c.close.ensures.bottom ∙ ap (λ (s : System). (closed s).memory) last)
          (c.close.ensures.tally ∙ ap (λ (s : System). (closed s).tally) last)
          (c.close.ensures.written ∙ ap (λ (s : System). (closed s).lines) last);
      apart = c.close.ensures.apart ∙ inv.apart ∙ ap g.M.Memory.aside c.open-run.ensures.over;
    }
