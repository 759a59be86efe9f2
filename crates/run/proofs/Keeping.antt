-- A call that does what the rules say joins every history of its run.
use Rattle.std.proofs.Common.{◌≡◌, ℕ, ◌*◌, Some, None, Ok, Err, Option, Result, sym, refl, ◌∙◌, subst, arith}
use Rattle.refusal.specs.declared.Refusal.{Refusal}
use Rattle.refusal.specs.Refusals.{Told, Answers, Answered}
use Rattle.rules.specs.declared.call.Call.{Call}
use Rattle.rules.specs.declared.call.Call.TheVariants.{Read, Write, Flush, Settle}
use Rattle.rules.specs.Systems.{System, due, due_in, outcome_if, outcome}
use Rattle.rules.specs.Ledgers.{Ledger, entered}
use Rattle.rules.specs.Coherence.{Since, calling, Equals, Promise}
use Rattle.rules.proofs.Promises.{since-promised}
use Rattle.bus.specs.declared.reply.Reply.{Reply}
use Rattle.run.specs.Views.{sizes}
use Rattle.run.specs.Histories.{Owed, Keeps}
use Rattle.run.specs.Calls.{reply_of}

-- an answered write gives its value
write-answer : (o : Option Told) (s : System) (seat address value places : ℕ) → o ≡ None → (outcome_if 4 o (Write seat address value places) s).answer ≡ value
write-answer None s seat address value places e = refl
write-answer (Some t) s seat address value places e = let q : ◌≡◌ {A = ℕ} 0 1 = cc in absurd (omega arith)

module _ (seats sets lines : ℕ) (before : System) (l : Ledger) (since : Since (sizes seats sets lines) before l) where
  promised : Promise (sizes seats sets lines) before l
  promised = since-promised (sizes seats sets lines) before l since

  -- the answer of each kind of call
  owed : (call : Call) (after : System) → due_in 4 before call ≡ None → after ≡ (outcome 4 call before).system
      → Owed (sizes seats sets lines) call l after.memory (outcome 4 call before).answer
  unfolding outcome
  owed (Read seat address places) after e s = promised.reads seat address places e
  owed (Write seat address value places) after e s = write-answer (due_in 4 before (Write seat address value places)) before seat address value places e
  owed (Flush seat address places) after e s = tt
  owed Settle after e s = subst (λ (t : System). Equals (sizes seats sets lines) t.memory l) (sym s) (promised.settles e)

  replies : (call : Call) (after : System) (r : Result Reply Refusal) → Answers (due_in 4 before call) (reply_of (outcome 4 call before)) r → after ≡ (outcome 4 call before).system
      → Answered (due l.count seats (lines * 4) call) (λ a. Owed (sizes seats sets lines) call l after.memory a.value) r
  replies call after (Ok b) (e, a) s =
      (sym (promised.refuses call) ∙ e, subst (λ (x : Reply). Owed (sizes seats sets lines) call l after.memory x.value) (sym a) (owed call after e s))
  replies call after (Err x) e s = sym (promised.refuses call) ∙ e

-- whatever calls came before
pub keeps : (call : Call) (before after : System) (r : Result Reply Refusal) → Answers (due_in 4 before call) (reply_of (outcome 4 call before)) r → after ≡ (outcome 4 call before).system
    → Keeps call before after r
keeps call before after r a s seats sets lines l since =
    let next : Since (sizes seats sets lines) after (entered seats (lines * 4) call l) = subst (λ (t : System). Since (sizes seats sets lines) t (entered seats (lines * 4) call l)) (sym s) (calling since call) in
    record {
      replies = replies seats sets lines before l since call after r a s;
      since = next;
      promise = since-promised (sizes seats sets lines) after (entered seats (lines * 4) call l) next;
    }
