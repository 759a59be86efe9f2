use Rattle.std.proofs.Common.{◌≡◌, ℕ, take, sym, refl, ap, ◌∙◌, arith, rules}
use lib.ListN.{length-map}
use Rattle.caches.specs.Views.{caches_of}
use Rattle.caches.proofs.Places.{caches-long}
use Rattle.rules.specs.Caches.{look}
use Rattle.rules.specs.Machines.{copies_of}
use Rattle.protocol.specs.declared.state.State.TheVariants.{Invalid}
use Rattle.memory.specs.Words.{plain_lines}
use Rattle.rules.specs.Systems.{state_on}
use Rattle.run.specs.Views.{system_of}
use Rattle.session.proofs.Looking.{states-are, made-at}
use Rattle.session.proofs.states.line_states.Goals as goal

pub returns : goal.returns
returns g c =
    let long = length-map (caches_of c.args.run.now.bus.caches) (λ x. look x c.args.line) in
    let few = c.args.run.now.bus.caches.agreed.few in
    let seats = caches-long c.args.run.now.bus.caches in
    let at = made-at _ (λ f. (f.0.now ≡ c.args.run.now) × (f.1.now ≡ c.args.line)) (state_on (system_of g.P.Protocol.cells plain_lines c.args.run.now) c.args.line)
    (λ f q i y h m. (search rules, search rules)) Invalid (refl, refl) c.from_fn.ensures.items in
    ap (λ (n : ℕ). take n c.from_fn.result) (c.seats.ensures ∙ sym long)
    ∙ states-are (copies_of c.args.line (caches_of c.args.run.now.bus.caches)) c.from_fn.result (omega (arith, c.from_fn.ensures.items.long, long, seats, few)) (λ k b. at k (omega (arith, b, long, seats, few)))
