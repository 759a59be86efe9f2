-- A transaction that the other seats hear: they react, the seat's own copy is put, memory takes a line or none, and the record is told.
use Rattle.std.proofs.Common.{◌≡◌, ℕ, ◌+◌, ◌<◌, ◌≤◌, Bool, true, false, not, List, [], length, get_or, set, Option, sym, refl, ap, ◌∙◌, arith, length-set}
use Rattle.std.specs.Option.{option_map, option_map_or}
use Rattle.protocol.specs.declared.state.State.{State}
use Rattle.protocol.specs.declared.transaction.Transaction.{Transaction}
use Rattle.protocol.specs.States.{valid}
use Rattle.rules.specs.declared.record.Record.{Record}
use Rattle.rules.specs.declared.tally.Tally.{Tally}
use Rattle.rules.specs.Columns.{Copy, Column, kept, none, alone, owner_of, state_at, supplied, words_at}
use Rattle.rules.specs.Tallies.{tallied}
use Rattle.rules.specs.Transactions.{Protocol, hear, reflects}
use Rattle.rules.specs.Machines.{copies_of, put_each, lost, supplier_of, reflected_by, record_of, owner_or_memory, transact}
use Rattle.caches.specs.declared.agreed.Agreed.{Agreed}
use Rattle.caches.specs.declared.heard.Heard.{Heard}
use Rattle.caches.specs.declared.heeded.Heeded.{Heeded}
use Rattle.caches.specs.declared.heeded.Owner.{Owner}
use Rattle.caches.specs.declared.table.Caches.{Caches}
use Rattle.caches.specs.Hearing.{state_heard, words_heard, heard_by}
use Rattle.caches.specs.Heeding.{Heeds}
use Rattle.caches.specs.Views.{caches_of}
use Rattle.bus.specs.declared.bus.Bus.{Bus}
use Rattle.bus.specs.Totals.{total}
use Rattle.bus.specs.Logs.{single}
use Rattle.bus.specs.Machines.{Holds, Lacks, Free, Obeys}
use Rattle.bus.proofs.Counting.{alone-own, not-not}
use Rattle.bus.proofs.Parts.{transact-is}
use Rattle.bus.proofs.Reacted.{told-shared, told-lost, told-owner, told-words, told-reflected}
use Rattle.bus.proofs.Requests.{copies-long, room_after, own-there, own-after, copy-after}

-- every seat's copy of a line before
abbrev pub before : ℕ → Caches → List Copy
before n b = copies_of n (caches_of b)

-- as the seats have heard the transaction, the requester's among them
abbrev pub reacted : Protocol → Heard → ℕ → Caches → List Copy
reacted cell heard n b = hear (λ k. state_heard heard (cell k)) (words_heard heard) 0 (before n b)

-- the seats other than r have heard a transaction on line n, and r is told of it
pub record Reacts (b : Caches) (n r : ℕ) (cell : Protocol) (heard : Heard) (s : Caches) (a : Heeded) : Type 0 where
  pub on : r < b.agreed.seats
  pub moved : caches_of s ≡ put_each n (caches_of b) (heard_by cell heard r (before n b))
  pub copies : copies_of n (caches_of s) ≡ heard_by cell heard r (before n b)
  pub told : Heeds r (before n b) (heard_by cell heard r (before n b)) a
  pub same : s.agreed ≡ b.agreed

module _ {b : Caches} {n r : ℕ} {cell : Protocol} {heard : Heard} {s : Caches} {a : Heeded} (p : Reacts b n r cell heard s a) where
  -- the requester is alone
  lone : not a.shared ≡ alone r (reacted cell heard n b)
  lone = ap not p.told.shared ∙ not-not (alone r (heard_by cell heard r (before n b))) ∙ alone-own r (reacted cell heard n b) (get_or (before n b) r none)

  -- it has the room that it had
  pub free : Free r n b → Free r n s
  free h = room_after b n r p.on (λ k. state_heard heard (cell k)) (words_heard heard) (caches_of s) p.moved ∙ h

  -- what the owner supplies, of a requester that does not hold the line
  module _ (absent : Lacks r n b) where
    pub supplied-words : (home w : List ℕ) → w ≡ option_map_or (λ (o : Owner). o.words) a.owner home → w ≡ supplied (before n b) home
    supplied-words home w e = e ∙ told-words n r (caches_of b) (reacted cell heard n b) absent (get_or (before n b) r none) a p.told home

    pub supplied-back : (x : Copy) (f : Bool) → f ≡ option_map_or (λ (o : Owner). o.reflected) a.owner false → f ≡ reflects (before n b) (set (reacted cell heard n b) r x)
    supplied-back x f e = e ∙ told-reflected n r (caches_of b) (reacted cell heard n b) absent (get_or (before n b) r none) a p.told x

    pub supplied-by : (k : Transaction) (f f' : Bool) (e : Record) → f ≡ f' → e ≡ record { transaction = k; seat = r; line = n; shared = a.shared; reflected = f; supplier = owner_or_memory (option_map (λ (o : Owner). o.seat) a.owner) } → e ≡ record { transaction = k; seat = r; line = n; shared = a.shared; reflected = f'; supplier = owner_or_memory (owner_of (before n b)) }
    supplied-by k f f' e back made =
        made
        ∙ ap (λ (l : Bool). record { transaction = k; seat = r; line = n; shared = a.shared; reflected = l; supplier = owner_or_memory (option_map (λ (o : Owner). o.seat) a.owner) }) back
        ∙ ap (λ (o : Option ℕ). record { transaction = k; seat = r; line = n; shared = a.shared; reflected = f'; supplier = owner_or_memory o }) (told-owner n r (caches_of b) (reacted cell heard n b) absent (get_or (before n b) r none) a p.told)

  -- a state that it takes by whether it is alone
  pub by_lone : (f : Bool → State) (t : State) → t ≡ f (not a.shared) → t ≡ f (alone r (reacted cell heard n b))
  by_lone f t e = e ∙ ap f lone

  -- the requester's own copy is as it was
  pub still : get_or (copies_of n (caches_of s)) r none ≡ get_or (before n b) r none
  still = copy-after b n r p.on (λ k. state_heard heard (cell k)) (words_heard heard) (caches_of s) p.moved p.copies

  -- the requester still holds the line
  pub holds : Holds r n b → Holds r n s
  holds h = ap (λ (y : Copy). valid y.state) still ∙ h

  -- the requester's copy is put
  pub taken : (x : Copy) (s' : Caches) → caches_of s' ≡ put_each n (caches_of s) (set (copies_of n (caches_of s)) r x) → caches_of s' ≡ put_each n (caches_of b) (set (reacted cell heard n b) r x)
  taken x s' e = own-after b n r p.on (λ k. state_heard heard (cell k)) (words_heard heard) (caches_of s) p.moved (caches_of s') x e

  -- a copy that is put is held
  pub placed : (x : Copy) (s' : Caches) → copies_of n (caches_of s') ≡ set (copies_of n (caches_of s)) r x → valid x.state ≡ true → Holds r n s'
  placed x s' e v =
      ap (λ (ws : List Copy). valid (state_at ws r)) e
      ∙ ap (λ (y : Copy). valid y.state) (own-there b n r p.on (λ k. state_heard heard (cell k)) (words_heard heard) (copies_of n (caches_of s)) x (copies-long s n ∙ ap (λ (g : Agreed). g.seats) p.same))
      ∙ v

  -- it takes a word, and a state by its own state
  pub worded : (f : State → State) (o v : ℕ) (s' : Caches) → caches_of s' ≡ put_each n (caches_of s) (set (copies_of n (caches_of s)) r (kept (f (state_at (copies_of n (caches_of s)) r)) (set (words_at (copies_of n (caches_of s)) r) o v))) → caches_of s' ≡ put_each n (caches_of b) (set (reacted cell heard n b) r (kept (f (state_at (before n b) r)) (set (words_at (before n b) r) o v)))
  worded f o v s' e =
      taken (kept (f (state_at (before n b) r)) (set (words_at (before n b) r) o v)) s'
      (e ∙ ap (λ (y : Copy). put_each n (caches_of s) (set (copies_of n (caches_of s)) r (kept (f y.state) (set y.words o v)))) still)

  -- it takes a state and a word
  pub written : (t : State) (o v : ℕ) (s' : Caches) → caches_of s' ≡ put_each n (caches_of s) (set (copies_of n (caches_of s)) r (kept t (set (words_at (copies_of n (caches_of s)) r) o v))) → caches_of s' ≡ put_each n (caches_of b) (set (reacted cell heard n b) r (kept t (set (words_at (before n b) r) o v)))
  written t = worded (λ _. t)

module _ {P M A : Type 0} (lines : M → List (List ℕ)) (aside : M → A) (b : Bus P M) {n r : ℕ} {cell : Protocol} {heard : Heard} {s : Caches} {a : Heeded} (p : Reacts b.caches n r cell heard s a) where
  module _ (k : Transaction) (f : Column → Column) (x : Copy) (h : List ℕ) (is : f (record { copies = (before n b.caches); home = get_or (lines b.memory) n [] }) ≡ record { copies = set (reacted cell heard n b.caches) r x; home = h }) where
    -- what the record tells
    abbrev pub telling : Record
    telling = record { transaction = k; seat = r; line = n; shared = a.shared; reflected = reflected_by k (before n b.caches) (set (reacted cell heard n b.caches) r x); supplier = supplier_of k (before n b.caches) }

    told-record : (e : Record) → e ≡ telling → e ≡ record_of k r n (record { copies = (before n b.caches); home = get_or (lines b.memory) n [] }) (f (record { copies = (before n b.caches); home = get_or (lines b.memory) n [] }))
    told-record e is-told =
        is-told
        ∙ ap (λ (l : Bool). record { transaction = k; seat = r; line = n; shared = l; reflected = reflected_by k (before n b.caches) (set (reacted cell heard n b.caches) r x); supplier = supplier_of k (before n b.caches) }) (told-shared r (before n b.caches) (reacted cell heard n b.caches) (get_or (before n b.caches) r none) a p.told x)
        ∙ ap (record_of k r n (record { copies = (before n b.caches); home = get_or (lines b.memory) n [] })) (sym is)

    -- the bus then: its record was made and handed on, the caches, the memory and the tally p.moved
    pub obeyed : (made e : Record) (s' : Caches) (m' : M) (t' : Tally) → e ≡ made → made ≡ telling → caches_of s' ≡ put_each n (caches_of b.caches) (set (reacted cell heard n b.caches) r x) → s'.agreed ≡ s.agreed → lines m' ≡ set (lines b.memory) n h → aside m' ≡ aside b.memory → t' ≡ tallied e a.lost b.tally → total t' ≤ total b.tally + (3 + a.lost) → Obeys lines aside (transact k r n f) (single e) 11 b (record { protocol = b.protocol; memory = m'; caches = s'; tally = t' })
    obeyed made e s' m' t' handed is-told put agreed home apart counted most = record {
      machine =
          transact-is (caches_of b.caches) (lines b.memory) b.tally n f k r
          e (caches_of s') (lines m') t'
          (put ∙ ap (λ (c : Column). put_each n (caches_of b.caches) c.copies) (sym is))
          (home ∙ ap (λ (c : Column). set (lines b.memory) n c.home) (sym is))
          (told-record e (handed ∙ is-told))
          (counted ∙ ap (λ (l : ℕ). tallied e l b.tally) (told-lost r (before n b.caches) (reacted cell heard n b.caches) (get_or (before n b.caches) r none) a p.told x)
          ∙ ap (λ (c : Column). tallied e (lost r (before n b.caches) c.copies) b.tally) (sym is));
      stays = record {
        grown = omega (arith, most, p.told.few);
        protocol = refl;
        apart = apart;
        count = ap length home ∙ length-set (lines b.memory) n h;
        agreed = agreed ∙ p.same;
      };
    }
