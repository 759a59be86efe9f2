-- The held copy in the line's place has reacted, and what is told of it is noted.
use Rattle.std.proofs.Common.{eqb, [], get_or, sym, refl, ap, ◌∙◌}
use Rattle.std.proofs.lemmas.Bool.{and_parts}
use Rattle.protocol.specs.declared.state.State.{State}
use Rattle.protocol.specs.States.{valid}
use Rattle.rules.specs.Columns.{Copy}
use Rattle.caches.specs.Lines.{blank, copy_of}
use Rattle.caches.specs.Hearing.{reaction}
use Rattle.caches.specs.Heeding.{noted}
use Rattle.caches.specs.Views.{caches_of}
use Rattle.caches.proofs.Finds.{state-at, held-stands, held-look}
use Rattle.caches.proofs.Moves.{bounds, own_home, held-tag, heeding}
use Rattle.caches.proofs.table.Caches.turn.Goals as goal

pub invariant_of-self : goal.invariant_of-self
invariant_of-self g c =
    let s = c.args.self.now in
    let k = c.args.seat in
    let n = c.args.line in
    let i = c.place_of-at.result in
    let at = c.place_of-at.ensures in
    let q = c.snoop-after.new.self in
    let held = ap valid (state-at s k c.requires.on n) ∙ c.requires.held in
    let b =
    bounds s k c.requires.on i at.below q
    (λ _. own_home s k c.requires.on n i at.place q (c.snoop-after.ensures.tag ∙ held-tag s k c.requires.on n i at.place held))
    in
    record { rows = b.rows; wide = b.wide; homed = b.homed }

pub note-requires : goal.note-requires
note-requires g c =
    let s = c.args.self.now in
    let k = c.args.seat in
    let n = c.args.line in
    let i = c.place_of-at.result in
    let p = get_or (get_or s.table k []) i blank in
    let held = ap valid (state-at s k c.requires.on n) ∙ c.requires.held in
    let stands = held-stands s k c.requires.on n i c.place_of-at.ensures.place held in
    record { held = (and_parts (eqb p.tag n) (valid p.state) stands).1; few = c.requires.few }

pub returns : goal.returns
unfolding caches_of
returns g c =
    let s = c.args.self.now in
    let k = c.args.seat in
    let n = c.args.line in
    let i = c.place_of-at.result in
    let here = c.place_of-at.ensures.place in
    let p = get_or (get_or s.table k []) i blank in
    let q = c.snoop-after.new.self in
    let cell = g.P.Protocol.cells c.args.protocol.now k in
    let held = ap valid (state-at s k c.requires.on n) ∙ c.requires.held in
    let stands = held-stands s k c.requires.on n i here held in
    let same = held-look s k c.requires.on n i here stands in
    record {
      caches = heeding s k c.requires.on n i here q cell c.args.heard stands c.snoop-after.ensures.tag c.snoop-after.ensures.copy;
      noted = c.note.ensures
          ∙ ap (λ (t : State). noted k (copy_of p) t c.args.heeded.now) (c.snoop-after.ensures.state ∙ ap (λ (x : Copy). x.state) c.snoop-after.ensures.copy)
          ∙ ap (λ (x : Copy). noted k x (reaction cell c.args.heard x).state c.args.heeded.now) (sym same);
      agreed = refl;
    }
