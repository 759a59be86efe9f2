use Rattle.std.proofs.Common.{◌∙◌, rules}
use Rattle.std.proofs.lemmas.Iterator.{YieldsList-from_slice}
use Rattle.trace.proofs.Valuing.{pushed-fitting}
use Rattle.trace.proofs.value.value.Goals as goal

pub returns : goal.returns
returns c =
    c.ok_or.ensures.value
    ∙ pushed-fitting _ (λ x. x.now) _ (λ f n x r f' k. search rules) c.args.digits.now c.args.byte c.try_fold.result c.iter.result c.try_fold.new.self _
    (YieldsList-from_slice c.args.digits.now (cc)) c.try_fold.ensures.ran
