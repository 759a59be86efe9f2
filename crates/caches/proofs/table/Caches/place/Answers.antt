-- The line takes its place, which had room.
use Rattle.std.proofs.Common.{refl}
use Rattle.caches.specs.Views.{caches_of}
use Rattle.caches.proofs.Moves.{placed}
use Rattle.caches.proofs.table.Caches.place.Goals as goal

pub returns : goal.returns
unfolding caches_of
returns c =
    let s = c.args.self.now in
    let p =
    placed s c.args.seat c.requires.on c.args.line c.place_of-at.result c.place_of-at.ensures.place c.args.state c.args.words c.requires.held
    c.requires.free
    in
    record { caches = p.caches; copies = p.copies; agreed = refl }
