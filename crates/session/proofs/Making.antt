-- An access makes its call: four places serve it whole.
use Rattle.std.proofs.Common.{◌≡◌, ℕ, List, ◌++◌, length, drop, Result, refl, ap, ◌∙◌, subst}
use Rattle.refusal.specs.declared.Refusal.{Refusal}
use Rattle.refusal.specs.Refusals.{Answers}
use Rattle.rules.specs.declared.call.Call.{Call}
use Rattle.rules.specs.declared.record.Record.{Record}
use Rattle.rules.specs.Systems.{System, due_in, outcome}
use Rattle.bus.specs.declared.reply.Reply.{Reply}
use Rattle.run.specs.declared.run.Run.{Run}
use Rattle.run.specs.Calls.{reply_of, lent, Called}
use Rattle.run.specs.Views.{system_of}
use Rattle.trace.specs.declared.access.Access.{Access}
use Rattle.trace.specs.declared.access.Access.TheVariants.{Read, Write, Flush, Settle}
use Rattle.session.specs.Plays.{call_of}

-- a call was made, by the system and the record places before and after it
pub record Makes (call : Call) (before after : System) (given left : List Record) (r : Result Reply Refusal) : Type 0 where
  pub replies : Answers (due_in 4 before call) (reply_of (outcome 4 call before)) r
  pub system : after ≡ (outcome 4 call before).system
  pub records : left ≡ (outcome 4 call before).records ++ drop (length (outcome 4 call before).records) given

lent-whole : (a : Access) → lent 4 (call_of a) ≡ call_of a
lent-whole (Read seat address) = refl
lent-whole (Write seat address value) = refl
lent-whole (Flush seat address) = refl
lent-whole Settle = refl

-- so the call on a run is the access's
pub access-makes :
    {P M A : Type 0} (cells : P → ℕ → ℕ → ℕ) (lines : M → List (List ℕ)) (aside : M → A) {before after : Run P M} {given left : List Record}
    (a : Access) (call : Call) {r : Result Reply Refusal} → call ≡ call_of a → Called cells lines aside (lent 4 call) before after given left r
    → Makes (call_of a) (system_of cells lines before) (system_of cells lines after) given left r
access-makes cells lines aside {before} {after} {given} {left} a call {r} e c =
    let d = subst (λ (x : Call). Called cells lines aside x before after given left r) (ap (lent 4) e ∙ lent-whole a) c in
    record { replies = d.replies; system = d.system; records = d.records }
