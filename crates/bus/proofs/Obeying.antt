-- How what methods of the bus promise comes together: one rule after another, a count, a change of the caches alone.
use Rattle.std.proofs.Common.{◌≡◌, ℕ, ◌+◌, ◌-◌, ◌≤◌, List, [], ◌++◌, length, get_or, take, drop, set, Some, None, Option, sym, refl, ap, ◌∙◌, arith}
use Rattle.std.proofs.lemmas.List.{append-nil, append_assoc, drop-drop, length-append}
use Rattle.rules.specs.declared.record.Record.{Record}
use Rattle.rules.specs.declared.tally.Tally.{Tally}
use Rattle.rules.specs.Columns.{Column}
use Rattle.rules.specs.Machines.{Machine, copies_of, put_each, change}
use Rattle.rules.specs.Accesses.{counting}
use Rattle.caches.specs.declared.table.Caches.{Caches}
use Rattle.caches.specs.Views.{caches_of}
use Rattle.bus.specs.declared.bus.Bus.{Bus}
use Rattle.bus.specs.declared.log.Log.{Log}
use Rattle.bus.specs.Totals.{total}
use Rattle.bus.specs.Logs.{listed, Logged}
use Rattle.bus.specs.Machines.{machine_of, Stays, Obeys, Reaches, Tells, Settles}
use Rattle.bus.proofs.Parts.{change-is, home_stays}

-- places that stay from one place on stay from any later one on
drop-further : (j l : ℕ) (ys xs : List Record) → j ≤ l → drop j ys ≡ drop j xs → drop l ys ≡ drop l xs
drop-further j l ys xs h e =
    let k : l ≡ j + (l - j) = omega arith in
    rw k (sym (drop-drop (l - j) j ys) ∙ ap (drop (l - j)) e ∙ drop-drop (l - j) j xs)

module _ {P M A : Type 0} (lines : M → List (List ℕ)) (aside : M → A) where
  -- what stays over two steps, and under a bound no lower
  stays_after : {k k' : ℕ} {a b c : Bus P M} → Stays lines aside k a b → Stays lines aside k' b c → Stays lines aside (k + k') a c
  stays_after p q = record {
    grown = omega (arith, p.grown, q.grown);
    protocol = q.protocol ∙ p.protocol;
    apart = q.apart ∙ p.apart;
    count = q.count ∙ p.count;
    agreed = q.agreed ∙ p.agreed;
  }

  stays_within : {k k' : ℕ} {a b : Bus P M} → Stays lines aside k a b → k ≤ k' → Stays lines aside k' a b
  stays_within p l = record { grown = omega (arith, p.grown); protocol = p.protocol; apart = p.apart; count = p.count; agreed = p.agreed }

  -- nothing done
  pub nothing : (b : Bus P M) → Obeys lines aside (λ m. m) [] 0 b b
  nothing b = record {
    machine = λ es. ap (λ (x : List Record). machine_of lines x b) (append-nil es);
    stays = record { grown = omega arith; protocol = refl; apart = refl; count = refl; agreed = refl };
  }

  -- one rule after another
  pub after : {f h : Machine → Machine} {told told' : List Record} {k k' : ℕ} {a b c : Bus P M} → Obeys lines aside f told k a b → Obeys lines aside h told' k' b c → Obeys lines aside (λ m. h (f m)) (told ++ told') (k + k') a c
  after {h = h} {told = told} {told' = told'} {c = c} p q = record {
    machine = λ es.
        ap (λ (x : List Record). machine_of lines x c) (sym (append_assoc es told told'))
        ∙ q.machine (es ++ told)
        ∙ ap h (p.machine es);
    stays = stays_after p.stays q.stays;
  }

  -- the same under another name: a rule that gives the same here, the same records, a bound no lower
  pub named : {f h : Machine → Machine} {told told' : List Record} {k k' : ℕ} {a b : Bus P M} → Obeys lines aside f told k a b → ((es : List Record) → f (machine_of lines es a) ≡ h (machine_of lines es a)) → told ≡ told' → k ≤ k' → Obeys lines aside h told' k' a b
  named {b = b} p e s l = record {
    machine = λ es. ap (λ (x : List Record). machine_of lines (es ++ x) b) (sym s) ∙ p.machine es ∙ e es;
    stays = stays_within p.stays l;
  }

  -- the tally alone
  pub counts : (f : Tally → Tally) (k : ℕ) (b : Bus P M) (t : Tally) → t ≡ f b.tally → total t ≤ total b.tally + k → Obeys lines aside (counting f) [] k b (record { protocol = b.protocol; memory = b.memory; caches = b.caches; tally = t })
  counts f k b t e l = record {
    machine = λ es.
        ap (λ (x : List Record). machine_of lines x (record { protocol = b.protocol; memory = b.memory; caches = b.caches; tally = t })) (append-nil es)
        ∙ ap (λ (x : Tally). machine_of lines es (record { protocol = b.protocol; memory = b.memory; caches = b.caches; tally = x })) e;
    stays = record { grown = l; protocol = refl; apart = refl; count = refl; agreed = refl };
  }

  -- one line's copies alone
  pub changes : (n : ℕ) (f : Column → Column) (b : Bus P M) (cs : Caches) → caches_of cs ≡ put_each n (caches_of b.caches) (f (record { copies = copies_of n (caches_of b.caches); home = get_or (lines b.memory) n [] })).copies → (f (record { copies = copies_of n (caches_of b.caches); home = get_or (lines b.memory) n [] })).home ≡ get_or (lines b.memory) n [] → cs.agreed ≡ b.caches.agreed → Obeys lines aside (change n f) [] 0 b (record { protocol = b.protocol; memory = b.memory; caches = cs; tally = b.tally })
  changes n f b cs e h a = record {
    machine = λ es.
        ap (λ (x : List Record). machine_of lines x (record { protocol = b.protocol; memory = b.memory; caches = cs; tally = b.tally })) (append-nil es)
        ∙ change-is (caches_of b.caches) (lines b.memory) b.tally n f (caches_of cs) (lines b.memory) e
        (home_stays (lines b.memory) n ∙ ap (set (lines b.memory) n) (sym h)) es;
    stays = record { grown = omega arith; protocol = refl; apart = refl; count = refl; agreed = a };
  }

  -- the records told are put into the log
  pub logged : {rule : Machine → Machine} {told : List Record} {k : ℕ} {a b : Bus P M} {x y : Log} → Obeys lines aside rule told k a b → Logged told x y → Tells lines aside rule (length told) k x y a b
  logged {b = b} {x = x} p l = record {
    lent = l.lent;
    long = l.long;
    reaches = record {
      machine = ap (λ (es : List Record). machine_of lines es b) l.front ∙ p.machine (take x.made x.places.now);
      rest = l.rest;
      onward = omega (arith, l.count);
      few = omega (arith, l.count);
      stays = p.stays;
    };
  }

  -- one after another
  pub onward : {f h : Machine → Machine} {n n' k k' : ℕ} {a b c : Bus P M} {x y z : Log} → Tells lines aside f n k x y a b → Tells lines aside h n' k' y z b c → Tells lines aside (λ m. h (f m)) (n + n') (k + k') x z a c
  onward {h = h} {x = x} {y = y} {z = z} p q = record {
    lent = q.lent ∙ p.lent;
    long = q.long ∙ p.long;
    reaches = record {
      machine = q.reaches.machine ∙ ap h p.reaches.machine;
      rest = q.reaches.rest ∙ drop-further y.made z.made y.places.now x.places.now q.reaches.onward p.reaches.rest;
      onward = omega (arith, p.reaches.onward, q.reaches.onward);
      few = omega (arith, p.reaches.few, q.reaches.few);
      stays = stays_after p.reaches.stays q.reaches.stays;
    };
  }

  -- the same under another name
  pub renamed : {f h : Machine → Machine} {n n' k k' : ℕ} {a b : Bus P M} {x y : Log} → Tells lines aside f n k x y a b → f (machine_of lines (take x.made x.places.now) a) ≡ h (machine_of lines (take x.made x.places.now) a) → n ≤ n' → k ≤ k' → Tells lines aside h n' k' x y a b
  renamed p e l l' = record {
    lent = p.lent;
    long = p.long;
    reaches = record {
      machine = p.reaches.machine ∙ e;
      rest = p.reaches.rest;
      onward = p.reaches.onward;
      few = omega (arith, p.reaches.few);
      stays = stays_within p.reaches.stays l';
    };
  }

  -- nothing told
  pub unlogged : {rule : Machine → Machine} {k : ℕ} {a b : Bus P M} (x : Log) → Obeys lines aside rule [] k a b → Tells lines aside rule 0 k x x a b
  unlogged {b = b} x p = record {
    lent = refl;
    long = refl;
    reaches = record {
      machine = ap (λ (es : List Record). machine_of lines es b) (sym (append-nil (take x.made x.places.now))) ∙ p.machine (take x.made x.places.now);
      rest = refl;
      onward = omega arith;
      few = omega arith;
      stays = p.stays;
    };
  }

  -- nothing done, by a rule that does nothing here
  pub unmoved : {h : Machine → Machine} {n k : ℕ} (b : Bus P M) (made : ℕ) (es : List Record) → machine_of lines (take made es) b ≡ h (machine_of lines (take made es) b) → Reaches lines aside h n k made made es es b b
  unmoved b made es e = record {
    machine = e;
    rest = refl;
    onward = omega arith;
    few = omega arith;
    stays = record { grown = omega arith; protocol = refl; apart = refl; count = refl; agreed = refl };
  }

  -- a rule that writes back so many lines, after another
  pub settles-after : {f h : Machine → Machine} {w w' k k' : ℕ} {a b c : Bus P M} → Settles lines aside f w k a b → Settles lines aside h w' k' b c → Settles lines aside (λ m. h (f m)) (w + w') (k + k') a c
  settles-after p q = record {
    told = p.told ++ q.told;
    wrote = omega (arith, p.wrote, q.wrote, length-append p.told q.told);
    obeys = after p.obeys q.obeys;
  }

  -- the same under another name
  pub settles-named : {f h : Machine → Machine} {w k k' : ℕ} {a b : Bus P M} → Settles lines aside f w k a b → ((es : List Record) → f (machine_of lines es a) ≡ h (machine_of lines es a)) → k ≤ k' → Settles lines aside h w k' a b
  settles-named p e l = record { told = p.told; wrote = p.wrote; obeys = named p.obeys e refl l }

-- a record that may have been made is one at most
pub listed-few : (e : Option Record) → length (listed e) ≤ 1
listed-few None = omega arith
listed-few (Some e) = omega arith
