-- The words of a held line stand in its place.
use Rattle.caches.proofs.Finds.{held-words}
use Rattle.caches.proofs.table.Caches.words.Goals as goal

pub returns : goal.returns
returns c =
    held-words c.args.self.now c.args.seat c.requires.on c.args.line c.place_of-at.result c.place_of-at.ensures.place c.requires.held
