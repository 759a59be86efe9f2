use Rattle.std.proofs.Common.{◌≡◌, cond, count_by, arith, rules, tests}
use Rattle.std.proofs.lemmas.Iterator.{YieldsList-from_slice, YieldsList-from_map}
use Rattle.std.proofs.lemmas.Iterator.Consumers.{YieldsList-at, fits_by_from_yields_list}
use Rattle.std.proofs.lemmas.List.Sums.{count_by-le-length}
use Rattle.trace.specs.Faults.{is_line_end}
use Rattle.trace.proofs.line_number.line_of.Goals as goal

pub sum-requires-clause-fits : goal.sum-requires-clause-fits
sum-requires-clause-fits c =
    let front = c.iter.result.rest.now in
    let few = count_by-le-length is_line_end front in
    let bound = c.iter.ensures.bound in
    fits_by_from_yields_list (λ b. cond (is_line_end b) 1 0) front c.map.result _ (YieldsList-from_map _ (λ b. cond (is_line_end b) 1 0) (YieldsList-at c.map.ensures.source (YieldsList-from_slice front cc)) c.map.ensures.closure (λ x r q k. search (rules, tests))) (omega arith)

pub overflow_add-result : goal.overflow_add-result
overflow_add-result c =
    let front = c.iter.result.rest.now in
    let few = count_by-le-length is_line_end front in
    let bound = c.iter.ensures.bound in
    let all : c.sum.result ≡ count_by is_line_end front = search rules in
    omega arith
