-- Every step of a replay keeps the promise, and its closing squares with the ledger.
use Rattle.std.proofs.Common.{◌≡◌, ℕ, ◌+◌, ◌*◌, ◌<◌, List, length, get_or, take, Some, None, Option, Result, refl, ap, ◌∙◌, add-one, arith}
use lib.ListN.{length-map}
use Rattle.refusal.specs.declared.Refusal.{Refusal}
use Rattle.refusal.specs.Refusals.{Answers, Answered}
use Rattle.protocol.specs.Cells.{Lawful}
use Rattle.memory.specs.Lines.{Shaped}
use Rattle.rules.specs.declared.tally.Tally.{Tally}
use Rattle.rules.specs.Transactions.{Protocol}
use Rattle.rules.specs.Systems.{System, opened, due, due_in, outcome, closed}
use Rattle.rules.specs.Ledgers.{Ledger, begun, entered}
use Rattle.rules.specs.Coherence.{Sizes, Since, Promise}
use Rattle.rules.proofs.Promises.{since-promised, since-calls}
use Rattle.caches.specs.declared.agreed.Agreed.{Agreed}
use Rattle.bus.specs.declared.reply.Reply.{Reply}
use Rattle.run.specs.declared.step.Step.{Step}
use Rattle.run.specs.Views.{sizes}
use Rattle.run.specs.Histories.{Owed}
use Rattle.run.specs.Calls.{reply_of}
use Rattle.run.specs.Replayed.{calls_of, call_at, replies_of, Replied, Replayed, stood, ledger_then}
use Rattle.run.proofs.Keeping.{keeps}
use Rattle.run.proofs.Beginning.{begins}
use Rattle.run.proofs.Ending.{squares}
use Rattle.run.proofs.Replaying.{after_next, ledger-next}

module _ (cell : Protocol) (law : Lawful cell) (agreed : Agreed) (memory : List (List ℕ)) (shaped : Shaped memory) (given : List Step) where
  abbrev z : Sizes
  z = sizes agreed.seats agreed.sets (length memory)

  abbrev history : ℕ → System
  history k = stood cell agreed.seats agreed.sets memory (calls_of given) k

  abbrev ledger : ℕ → Ledger
  ledger k = ledger_then agreed.seats memory (calls_of given) k

  since : (k : ℕ) → Since z (history k) (ledger k)
  since k = since-calls (take k (calls_of given)) (begins cell law agreed memory shaped)

  promised : (k : ℕ) → Promise z (history k) (ledger k)
  promised k = since-promised z (history k) (ledger k) (since k)

  as_many : length (calls_of given) ≡ length given
  as_many = length-map given (λ (x : Step). x.call)

  follows : (k : ℕ) → k < length given → history (k + 1) ≡ (outcome 4 (call_at given k) (history k)).system
  follows k h = ap history (add-one k) ∙ after_next (calls_of given) k (opened cell agreed.seats agreed.sets memory) (omega (arith, as_many))

  enters : (k : ℕ) → k < length given → ledger (k + 1) ≡ entered agreed.seats (length memory * 4) (call_at given k) (ledger k)
  enters k h = ap ledger (add-one k) ∙ ledger-next agreed.seats (length memory * 4) (calls_of given) k (begun 4 memory) (omega (arith, as_many))

  -- the rules' reply is the ledger's
  owes : (k : ℕ) → k < length given → (o : Option (Result Reply Refusal))
      → Replied (Answers (due_in 4 (history k) (call_at given k)) (reply_of (outcome 4 (call_at given k) (history k)))) o
      → Replied (Answered (due (ledger k).count agreed.seats (length memory * 4) (call_at given k)) (λ a. Owed z (call_at given k) (ledger k) (history (k + 1)).memory a.value)) o
  owes k h None a = a
  owes k h (Some r) a =
      (keeps (call_at given k) (history k) (history (k + 1)) r a (follows k h) agreed.seats agreed.sets (length memory) (ledger k) (since k)).replies

  pub whole : (left : List Step) (lines bottom : List (List ℕ)) (tally : Tally) (written : ℕ)
      → calls_of left ≡ calls_of given
      → ((k : ℕ) → k < length given → Replied (Answers (due_in 4 (history k) (call_at given k)) (reply_of (outcome 4 (call_at given k) (history k)))) (get_or (replies_of left) k None))
      → lines ≡ (closed (history (length given))).memory
      → bottom ≡ (closed (history (length given))).memory
      → tally ≡ (closed (history (length given))).tally
      → written ≡ (closed (history (length given))).lines
      → Replayed z cell memory history ledger given left lines bottom tally written
  whole left lines bottom tally written same replies a b t w = record {
    calls = same;
    opens = refl;
    follows = follows;
    begins = refl;
    enters = enters;
    replies = replies;
    owes = λ k h. owes k h (get_or (replies_of left) k None) (replies k h);
    owner = λ k. (promised k).owner;
    alone = λ k. (promised k).alone;
    accounts = λ k. (promised k).accounts;
    reads = a;
    bottom = b;
    counted = t;
    wrote = w;
    squares = squares (history (length given)) lines bottom tally a b t agreed.seats agreed.sets (length memory) (ledger (length given)) (since (length given));
  }
