-- The search goes through all cells in turn.
use Rattle.std.proofs.Common.{sym, ◌∙◌, rules, tests}
use Rattle.std.proofs.lemmas.Iterator.{YieldsList-from_slice}
use Rattle.std.proofs.lemmas.Iterator.Adapters.{option_map_id}
use Rattle.std.proofs.lemmas.Iterator.Consumers.{YieldsList-from_copied}
use Rattle.std.proofs.lemmas.Iterator.Search.{find_from_yields_List}
use Rattle.protocol.specs.CellNames.{cells}
use Rattle.protocol.proofs.Firsts.{outside_of, searched}
use Rattle.protocol.proofs.table.methods.first_outside.Goals as goal

pub returns : goal.returns
returns c =
    searched c.args.cells.now c.find.result c.told-cells
    (sym (option_map_id c.find.result) ∙ find_from_yields_List (outside_of c.args.cells.now) _ _ c.find.result c.find.ensures.ran (YieldsList-from_copied (YieldsList-from_slice cells (cc))) (λ x b q k. search (rules, tests)))
