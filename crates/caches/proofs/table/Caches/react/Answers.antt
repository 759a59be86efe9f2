-- The seats react one after the other, and the requester's own copy stays.
use Rattle.std.proofs.Common.{◌<◌, refl, [], get_or, ◌+◌, ◌≤◌, sym, ap, ◌∙◌, subst, arith}
use Rattle.rules.specs.Caches.{look}
use Rattle.rules.specs.Machines.{copies_of}
use Rattle.protocol.specs.States.{valid}
use Rattle.caches.specs.declared.agreed.Agreed.{Agreed}
use Rattle.caches.specs.declared.table.Caches.{Caches}
use Rattle.caches.specs.declared.heeded.Heeded.{Heeded}
use Rattle.caches.specs.Hearing.{heard_by}
use Rattle.caches.specs.Views.{caches_of}
use Rattle.caches.proofs.Sweeps.{heeds}
use Rattle.caches.proofs.Hears.{Going, no_copy, still, not-noted, one_more_lem, itself, all-reacted, all_told, found-then, long_after}
use Rattle.caches.proofs.table.Caches.react.Goals as goal
use Rattle.caches.proofs.table.Caches.react.Goals.{then-seat-requester+then-is_valid, else-seat-requester-via-then-seat-requester+else-is_valid, else-seat-requester-via-else-seat-requester, else-seat-requester}

pub loop-seat-preserved : goal.loop-seat-preserved
loop-seat-preserved g c =
    let cell = g.P.Protocol.cells c.args.protocol.now in
    let h = c.args.heard in
    let r = c.args.requester in
    let n = c.args.line in
    let s = c.args.self.now in
    let t = c.loop-seat.self in
    let k = c.loop-seat.seat in
    let a = c.loop-seat.heeded in
    let x = look (get_or (caches_of t) k []) n in
    let go = c.loop-seat.invariant in
    let l = c.loop-seat-test.true in
    let on : k < t.agreed.seats = subst (λ (z : Agreed). k < z.seats) (sym go.agreed) l in
    elim c.if-seat-requester.branch [
      | then-seat-requester+then-is_valid w ↦
          subst (λ (u : Caches). Going cell h r n s u (k + 1) c.if-seat-requester.heeded) (sym w.self-is)
          (subst (λ (b : Heeded). Going cell h r n s w.turn.new.self (k + 1) b) (sym w.heeded-is)
          (one_more_lem cell h r n s t w.turn.new.self k a w.turn.new.heeded go l w.if-seat-requester.true
          w.turn.ensures.caches w.turn.ensures.noted w.turn.ensures.agreed))
      | else-seat-requester w ↦
          subst (λ (u : Caches). Going cell h r n s u (k + 1) c.if-seat-requester.heeded) (sym w.self-is)
          (subst (λ (b : Heeded). Going cell h r n s t (k + 1) b) (sym w.heeded-is)
          (elim w.else-seat-requester.branch [
            | else-seat-requester-via-then-seat-requester+else-is_valid v ↦
                let absent = no_copy t k n on (ap valid (sym v.state_in.ensures.seat) ∙ sym v.is_valid.ensures ∙ v.if-is_valid.false) in
                one_more_lem cell h r n s t t k a a go l v.if-seat-requester.true (still (cell k) h t k n absent) (not-noted (cell k) h k x a absent) refl
            | else-seat-requester-via-else-seat-requester v ↦ itself cell h r n s t k a go l v.if-seat-requester.false
          ]))
    ]

pub returns : goal.returns
returns g c =
    let cell = g.P.Protocol.cells c.args.protocol.now in
    let h = c.args.heard in
    let r = c.args.requester in
    let n = c.args.line in
    let s = c.args.self.now in
    let t = c.loop-seat.self in
    let k = c.loop-seat.seat in
    let a = c.loop-seat.heeded in
    let go = c.loop-seat.invariant in
    let after = all-reacted cell h r n s t k a go c.loop-seat-test.false in
    let end : k ≤ s.agreed.seats = c.loop-seat.auto.seat-end in
    let lost : a.lost ≤ k = go.few in
    let few : s.agreed.seats ≤ 8 = s.agreed.few in
    record {
      caches = after;
      copies = ap (copies_of n) after ∙ found-then cell h r n s c.requires.on;
      answer = heeds r (copies_of n (caches_of s)) (heard_by cell h r (copies_of n (caches_of s))) a (sym (long_after cell h r n s))
          (all_told cell h r n s t k a go c.loop-seat-test.false) (omega arith);
      agreed = go.agreed;
    }
