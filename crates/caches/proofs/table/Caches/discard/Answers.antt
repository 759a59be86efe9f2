-- The copy in the line's place goes, if it is the line's.
use Rattle.std.proofs.Common.{[], get_or, refl}
use Rattle.protocol.specs.declared.state.State.TheVariants.{Invalid}
use Rattle.caches.specs.declared.line.CacheLine.{CacheLine}
use Rattle.caches.specs.Lines.{blank}
use Rattle.caches.specs.Views.{caches_of, table_view}
use Rattle.caches.proofs.Moves.{let_go, not_there, not-held, room-freed, with_place}
use Rattle.caches.proofs.table.Caches.discard.Goals as goal

pub returns-then-self-seat : goal.returns-then-self-seat
unfolding caches_of
returns-then-self-seat c =
    let s = c.args.self.now in
    let k = c.args.seat in
    let i = c.place_of-at.result in
    let here = c.place_of-at.ensures.place in
    let p = get_or (get_or s.table k []) i blank in
    let q : CacheLine = record { state = Invalid; tag = p.tag; words = p.words } in
    let t = let_go s k c.requires c.args.line i here c.if-self-seat.true in
    record {
      caches = t.caches;
      copies = t.copies;
      free = room-freed s k c.requires c.args.line i here (table_view s.agreed.seats s.agreed.sets (with_place s k i q)) t;
      agreed = refl;
    }

pub returns-else-self-seat : goal.returns-else-self-seat
returns-else-self-seat c =
    let s = c.args.self.now in
    let k = c.args.seat in
    let i = c.place_of-at.result in
    let here = c.place_of-at.ensures.place in
    let t = not_there s k c.requires c.args.line i here c.if-self-seat.false in
    record {
      caches = t.caches;
      copies = t.copies;
      free = λ v. absurd (not-held s k c.requires c.args.line i here c.if-self-seat.false v);
      agreed = refl;
    }
