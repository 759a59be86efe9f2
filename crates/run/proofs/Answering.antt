-- What the bus did, or a refusal, makes a call.
use Rattle.std.proofs.Common.{◌≡◌, ℕ, ◌+◌, ◌≤◌, List, ◌++◌, length, take, drop, Some, None, Ok, Err, Option, sym, refl, ap, ◌∙◌}
use Rattle.refusal.specs.declared.Refusal.{Refusal}
use Rattle.refusal.specs.Refusals.{Told, told}
use Rattle.rules.specs.declared.call.Call.{Call}
use Rattle.rules.specs.declared.record.Record.{Record}
use Rattle.rules.specs.declared.tally.Tally.{Tally}
use Rattle.rules.specs.Caches.{Cache}
use Rattle.rules.specs.Transactions.{Protocol}
use Rattle.rules.specs.Machines.{Machine}
use Rattle.rules.specs.Systems.{System, Outcome, weight, due_in, reached, reported, answer_of, ended, outcome_if, outcome}
use Rattle.bus.specs.Machines.{machine_of}
use Rattle.bus.specs.declared.reply.Reply.{Reply}
use Rattle.run.specs.declared.run.Run.{Run}
use Rattle.run.specs.Views.{system_of}
use Rattle.run.specs.Calls.{reply_of, Called}
use Rattle.run.proofs.Keeping.{keeps}
use Rattle.run.proofs.Filling.{made-long, filled-places}

-- the outcome by the refusal that is due
outcome-is : (call : Call) (s : System) (o : Option Told) → due_in 4 s call ≡ o → outcome 4 call s ≡ outcome_if 4 o call s
unfolding outcome
outcome-is call s o e = ap (λ (d : Option Told). outcome_if 4 d call s) e

-- a run afterwards, by its parts
same-system : {cell cell' : Protocol} {caches : List Cache} {memory : List (List ℕ)} {tally : Tally} {n n' : ℕ} → cell ≡ cell' → n ≡ n'
    → ◌≡◌ {A = System} (record { cell = cell; caches = caches; memory = memory; tally = tally; answered = n })
    (record { cell = cell'; caches = caches; memory = memory; tally = tally; answered = n' })
same-system p q = cc

same-reply : {v v' n n' : ℕ} → v ≡ v' → n ≡ n' → ◌≡◌ {A = Reply} (record { value = v; records = n }) (record { value = v'; records = n' })
same-reply p q = cc

module _ {P M A : Type 0} (cells : P → ℕ → ℕ → ℕ) (lines : M → List (List ℕ)) (aside : M → A) (call : Call) (before : Run P M) where
  -- a refused call leaves the run and the records as they were
  pub refused-call : (given : List Record) (e : Refusal) → due_in 4 (system_of cells lines before) call ≡ Some (told e) → Called cells lines aside call before before given given (Err e)
  refused-call given e d =
      let o : outcome 4 call (system_of cells lines before) ≡ outcome_if 4 (Some (told e)) call (system_of cells lines before) = outcome-is call (system_of cells lines before) (Some (told e)) d in
      let s : system_of cells lines before ≡ (outcome 4 call (system_of cells lines before)).system = ap (λ (x : Outcome). x.system) (sym o) in
      record {
        replies = d;
        system = s;
        records = ap (λ (x : Outcome). x.records ++ drop (length x.records) given) (sym o);
        protocol = refl;
        apart = refl;
        refused = (refl, refl);
        keeps = keeps call (system_of cells lines before) (system_of cells lines before) (Err e) d s;
      }

  -- an answered call: the bus is where the rules take it, and one call more is answered
  module _ (after : Run P M) (told : List Record) (given left : List Record) (reply : Reply) where
    made : Outcome
    made = ended 4 call (system_of cells lines before) (machine_of lines told after.bus)

    pub answered-call :
        due_in 4 (system_of cells lines before) call ≡ None
        → machine_of lines told after.bus ≡ reached 4 call (system_of cells lines before)
        → after.bus.protocol ≡ before.bus.protocol
        → aside after.bus.memory ≡ aside before.bus.memory
        → after.calls ≡ before.calls + weight call
        → left ≡ reported call told ++ drop (length (reported call told)) given
        → reply ≡ record { value = answer_of 4 call (machine_of lines told after.bus); records = length (reported call told) }
        → Called cells lines aside call before after given left (Ok reply)
    unfolding made
    answered-call d m p a n r b =
        let o : outcome 4 call (system_of cells lines before) ≡ made = outcome-is call (system_of cells lines before) None d ∙ ap (λ (x : Machine). ended 4 call (system_of cells lines before) x) (sym m) in
        let s : system_of cells lines after ≡ (outcome 4 call (system_of cells lines before)).system = same-system (ap cells p) n ∙ ap (λ (x : Outcome). x.system) (sym o) in
        record {
          replies = (d, b ∙ ap reply_of (sym o));
          system = s;
          records = r ∙ ap (λ (x : Outcome). x.records ++ drop (length x.records) given) (sym o);
          protocol = p;
          apart = a;
          refused = tt;
          keeps = keeps call (system_of cells lines before) (system_of cells lines after) (Ok reply) (d, b ∙ ap reply_of (sym o)) s;
        }

  -- an answered read, write or flush: the records made stand in the first places
  module _ (after : Run P M) (made : ℕ) (given left : List Record) (value : ℕ) where
    pub access-call :
        reported call (take made left) ≡ take made left
        → due_in 4 (system_of cells lines before) call ≡ None
        → machine_of lines (take made left) after.bus ≡ reached 4 call (system_of cells lines before)
        → after.bus.protocol ≡ before.bus.protocol
        → aside after.bus.memory ≡ aside before.bus.memory
        → after.calls ≡ before.calls + weight call
        → made ≤ length left
        → drop made left ≡ drop made given
        → value ≡ answer_of 4 call (machine_of lines (take made left) after.bus)
        → Called cells lines aside call before after given left (Ok (record { value = value; records = made }))
    access-call t d m p a n few rest v =
        answered-call after (take made left) given left (record { value = value; records = made }) d m p a n
        (filled-places made given left few rest ∙ ap (λ (es : List Record). es ++ drop (length es) given) (sym t))
        (same-reply v (sym (ap length t ∙ made-long made given left few)))
