-- Each row is the protocol's, so all eight answer as it does.
use Rattle.std.proofs.Common.{ℕ, ◌<◌, [], get_or, rules}
use Rattle.protocol.specs.Flattened.{RowOf}
use Rattle.protocol.proofs.Rows.{Written, written-alike, alike-lawful}
use Rattle.protocol.proofs.flattened.Flattened.of.Goals as goal

pub invariant_of-result : goal.invariant_of-result
invariant_of-result g c =
    let p = g.P.Protocol.cells c.args.protocol.now in
    let rows = c.from_fn-rows.result in
    let lawful = g.met.P.Protocol.lawful c.args.protocol.now in
    let each : (seat : ℕ) → seat < 8 → RowOf p seat (get_or rows seat []) = search rules in
    let so : Written p rows = record { seats = search rules; each = each } in
    record { seats = so.seats; wide = λ seat l. (each seat l).sixteen; lawful = alike-lawful p rows lawful (written-alike p rows lawful so) }

pub returns : goal.returns
returns g c =
    let p = g.P.Protocol.cells c.args.protocol.now in
    let rows = c.from_fn-rows.result in
    let each : (seat : ℕ) → seat < 8 → RowOf p seat (get_or rows seat []) = search rules in
    let so : Written p rows = record { seats = search rules; each = each } in
    written-alike p rows (g.met.P.Protocol.lawful c.args.protocol.now) so
