-- One access performed, as the rules have it.
use Rattle.std.proofs.Common.{◌≡◌, ℕ, ◌*◌, ◌<◌, List, [], ◌∷◌, length, take, drop, Some, None, Ok, Err, Option, Result, sym, refl, ap, ◌∙◌, subst, arith, length-append, length-drop}
use lib.Seq.{take-append_seam}
use mathlib.Core.Logic.{∥∥₁_elim, ∥∥₁_map}
use Rattle.std.proofs.Props.{props}
use Rattle.refusal.specs.declared.Refusal.{Refusal}
use Rattle.refusal.specs.Refusals.{Told}
use Rattle.refusal.specs.Refusals as refusals
use Rattle.protocol.specs.declared.state.State.{State}
use Rattle.rules.specs.declared.record.Record.{Record}
use Rattle.rules.specs.Systems.{System, due_in, outcome, outcome_if}
use Rattle.rules.specs.Ledgers.{entered}
use Rattle.rules.specs.Coherence.{Since, calling, addresses}
use Rattle.rules.proofs.Calls.{access-fine}
use Rattle.rules.proofs.Promises.{since-promised}
use Rattle.bus.specs.declared.reply.Reply.{Reply}
use Rattle.run.specs.Views.{sizes}
use Rattle.trace.specs.declared.access.Access.{Access}
use Rattle.trace.specs.declared.access.Access.TheVariants.{Read, Write, Flush, Settle}
use Rattle.trace.specs.declared.fault.LineFault.{LineFault}
use Rattle.trace.specs.declared.fault.TraceFault.{TraceFault}
use Rattle.trace.specs.declared.fault.TraceFault.TheVariants.{Line, Refused}
use Rattle.trace.specs.Faults.{trace_stop}
use Rattle.trace.specs.Lines.{access_at}
use Rattle.trace.specs.Texts.{NextRead}
use Rattle.trace.specs.Written.{written}
use Rattle.trace.proofs.Accessing.{access-grammar}
use Rattle.account.specs.declared.step.Step.{Step}
use Rattle.account.specs.Accounts.{Performed, performed}
use Rattle.session.specs.Plays.{call_of, states_of, Plays, ends, unsound, refuses, performs, History}
use Rattle.session.proofs.Making.{Makes}
use Rattle.session.specs.Steps.{IsWithin, Made, MadeNext, Led, Next}

-- a history goes on with every call
pub history-on : (a : Access) {before after : System} → after ≡ (outcome 4 (call_of a) before).system → History before → History after
history-on a e h = record {
  seats = h.seats;
  sets = h.sets;
  lines = h.lines;
  ledger = entered h.seats (addresses (sizes h.seats h.sets h.lines)) (call_of a) h.ledger;
  since = subst (λ (s : System). Since (sizes h.seats h.sets h.lines) s (entered h.seats (addresses (sizes h.seats h.sets h.lines)) (call_of a) h.ledger)) (sym e) (calling h.since (call_of a));
}

pub history-kept : (a : Access) {before after : System} → after ≡ (outcome 4 (call_of a) before).system → ∥ History before ∥₁ → ∥ History after ∥₁
history-kept a e h = ∥∥₁_map h (history-on a e)

-- memory keeps its lines
lines-kept : {before after : System} → (h : History before) → (k : History after) → h.lines ≡ k.lines → length after.memory ≡ length before.memory
lines-kept {before} {after} h k e =
    (since-promised (sizes k.seats k.sets k.lines) after k.ledger k.since).sized.lines
    ∙ (sym e ∙ sym (since-promised (sizes h.seats h.sets h.lines) before h.ledger h.since).sized.lines)

-- the line of an answered access can be looked at afterwards
line-below : (a : Access) {before after : System} → History before → due_in 4 before (call_of a) ≡ None
    → after ≡ (outcome 4 (call_of a) before).system → IsWithin a after
unfolding history-on
line-below (Read seat b) {before} h d e =
    let k = lines-kept h (history-on (Read seat b) e h) refl in
    let f = access-fine before.answered 1 (length before.caches) (length before.memory * 4) seat b 4 d in
    omega (arith, f)
line-below (Write seat b value) {before} h d e =
    let k = lines-kept h (history-on (Write seat b value) e h) refl in
    let f = access-fine before.answered 1 (length before.caches) (length before.memory * 4) seat b 4 d in
    omega (arith, f)
line-below (Flush seat b) {before} h d e =
    let k = lines-kept h (history-on (Flush seat b) e h) refl in
    let f = access-fine before.answered 1 (length before.caches) (length before.memory * 4) seat b 4 d in
    omega (arith, f)
line-below Settle h d e = tt

-- there is one way for it to lie in memory
within-prop : (a : Access) (s : System) → IsProp (IsWithin a s)
within-prop (Read seat b) s = hlevel props
within-prop (Write seat b value) s = hlevel props
within-prop (Flush seat b) s = hlevel props
within-prop Settle s = hlevel props

pub within-after : (a : Access) {before after : System} → ∥ History before ∥₁ → due_in 4 before (call_of a) ≡ None
    → after ≡ (outcome 4 (call_of a) before).system → IsWithin a after
within-after a {before} {after} h d e = ∥∥₁_elim h (within-prop a after) (λ k. line-below a k d e)

-- an answered call as an access performed
module _ (a : Access) (before after : System) (given left : List Record) (reply : Reply) (m : Makes (call_of a) before after given left (Ok reply)) where
  records-are : take reply.records left ≡ (outcome 4 (call_of a) before).records
  records-are =
      ap (λ (r : Reply). take r.records left) m.replies.1
      ∙ (ap (λ (l : List Record). take (length (outcome 4 (call_of a) before).records) l) m.records
      ∙ take-append_seam (outcome 4 (call_of a) before).records (drop (length (outcome 4 (call_of a) before).records) given))

  pub made_by : (states : List State) → states ≡ states_of a after → (step : Step)
      → performed step ≡ record { access = a; answer = reply.value; states = states; records = take reply.records left } → Made a before after (Ok step)
  made_by states e step p = record {
    answers = (
      m.replies.0,
      p
          ∙ (ap (λ (n : ℕ). record { access = a; answer = n; states = states; records = take reply.records left }) (ap (λ (r : Reply). r.value) m.replies.1)
          ∙ (ap (λ (l : List State). record { access = a; answer = (outcome 4 (call_of a) before).answer; states = l; records = take reply.records left }) (e ∙ ap (λ (s : System). states_of a s) m.system)
          ∙ ap (λ (l : List Record). record { access = a; answer = (outcome 4 (call_of a) before).answer; states = states_of a (outcome 4 (call_of a) before).system; records = l }) records-are)),
    );
    system = m.system;
  }

-- a written line has at least one byte
some_byte : (a : Access) → 0 < length (written a)
some_byte (Read seat address) = omega arith
some_byte (Write seat address value) = omega arith
some_byte (Flush seat address) = omega arith
some_byte Settle = omega arith

-- behind an access line the text is further
pub line-further : (t : List ℕ) (i : ℕ) (a : Access) (j : ℕ) → access_at t i ≡ Ok (a, j) → i < j
line-further t i a j r =
    let g = access-grammar.passes t i (drop i t) a j refl r in
    let n = some_byte g.form in
    let l = g.place in
    omega arith

module _ (t : List ℕ) (i : ℕ) (before after : System) where
  pub led : (a : Access) (j : ℕ) (step : Step) → i < length t → access_at t i ≡ Ok (a, j) → Made a before after (Ok step) → Led t i before step j after
  led a j step h r m =
      let g = access-grammar.passes t i (drop i t) a j refl r in
      let n = some_byte g.form in
      let p = ap length g.cut ∙ length-append (written g.form) g.rest in
      let q = length-drop i t in
      let l = g.place in
      record {
        leads = λ ps stop last v.
            subst (λ (x : Performed). Plays t i before (x ∷ ps) stop last) (sym m.answers.1)
            (performs a j h r m.answers.0 (subst (λ (s : System). Plays t j s ps stop last) m.system v));
        further = omega arith;
        within = omega arith;
      }

  pub ended : i ≡ length t → after ≡ before → Plays t i before [] None after
  ended e s = subst (λ (x : System). Plays t i before [] None x) (sym s) (ends (omega arith))

  pub faulted : (f : TraceFault) (e : LineFault) → i < length t → f ≡ Line e → access_at t i ≡ Err e → after ≡ before → Plays t i before [] (Some (trace_stop f)) after
  faulted f e h p r s =
      subst (λ (x : System). Plays t i before [] (Some (trace_stop f)) x) (sym s)
      (subst (λ (x : TraceFault). Plays t i before [] (Some (trace_stop x)) before) (sym p) (unsound e h r))

  pub refused-at : (a : Access) (j : ℕ) (f : TraceFault) (e : Refusal) → i < length t → access_at t i ≡ Ok (a, j) → f ≡ Refused i e → Made a before after (Err e)
      → Plays t i before [] (Some (trace_stop f)) after
  unfolding outcome
  refused-at a j f e h r p m =
      let s : after ≡ before = m.system ∙ ap (λ (d : Option Told). (outcome_if 4 d (call_of a) before).system) m.answers in
      subst (λ (x : System). Plays t i before [] (Some (trace_stop f)) x) (sym s)
      (subst (λ (x : TraceFault). Plays t i before [] (Some (trace_stop x)) before) (sym p) (refuses a j (refusals.told e) h r m.answers))

module _ (t : List ℕ) (i : ℕ) (before after : System) (j byte : ℕ) where
  -- the next line, behind which the text goes on, ends or stops
  pub next_of : (next : Option Access) (r : Result (Option Step) TraceFault) → byte ≡ i → NextRead t i (Ok next) j → MadeNext next byte before after r → Next t i before r j after
  next_of None (Ok None) b e m = ended t i before after e.0 m
  next_of None (Ok (Some step)) b e m = absurd m
  next_of None (Err f) b e m = absurd m
  next_of (Some a) (Ok None) b e m = absurd m
  next_of (Some a) (Ok (Some step)) b e m = led t i before after a j step e.0 e.1 m
  next_of (Some a) (Err f) b e m = refused-at t i before after a j f m.0 e.0 e.1 (m.1 ∙ ap (λ (x : ℕ). Refused x m.0) b) m.2
