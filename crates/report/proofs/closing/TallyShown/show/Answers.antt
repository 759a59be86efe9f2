use Rattle.std.proofs.Common.{◌≡◌, ◌++◌, string_bytes}
use Rattle.std.proofs.lemmas.Result.{on_ok_weaker}
use Rattle.report.specs.Printed.{access_counts, fill_counts, through_counts, transaction_counts, copy_counts, tally_line}
use Rattle.report.proofs.Joins.{behind}
use Rattle.report.proofs.closing.TallyShown.show.Goals as goal

pub returns : goal.returns
returns c =
    let t = c.args.self.now in
    let out = string_bytes c.args.out.now in
    let accesses = string_bytes c.write.new.self in
    let fills = string_bytes c.write-2.new.self in
    on_ok_weaker {P = string_bytes c.write-4.new.self ≡ string_bytes c.write-3.new.self ++ copy_counts t} {Q = string_bytes c.write-4.new.self ≡ out ++ tally_line t} c.write-4.result
    (λ q. behind out (access_counts t) (transaction_counts t ++ copy_counts t) c.in_ok-write.ensures.bytes
    (behind accesses (transaction_counts t) (copy_counts t)
    (behind accesses (fill_counts t) (through_counts t) c.in_ok-write-2.ensures.bytes c.in_ok-write-3.ensures.bytes) q))
    c.write-4.ensures.bytes
