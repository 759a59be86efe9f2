-- The seven bus transactions as functions on one line seen across the bus.
--
-- cell        a protocol: the byte that it answers for a seat and a cell number
-- r           the seat that makes the transaction; o, v: the word of the line that is written, and its value
-- heard_x      what a copy in a state becomes by a transaction heard, by the cells of its own seat
-- after_x      what the requester's copy becomes
-- hear        every seat reacts by its own state and cells; a copy left valid may take the word
-- reflects    the owner before does not end in Owned, so that memory receives the line too
use Rattle.std.specs.Prelude.{ℕ, suc, Bool, true, false, cond, not, List, [], ◌∷◌, Some, None, Option, slice_set}
use Rattle.protocol.specs.declared.state.State.{State}
use Rattle.protocol.specs.declared.state.State.TheVariants.{Invalid, Shared, Exclusive, Owned, Modified}
use Rattle.protocol.specs.States.{state_of}
use Rattle.rules.specs.Columns.{Copy, kept, none, Column, state_at, words_at, alone, owner_of, supplied}

-- what a protocol answers for a seat and a cell number
abbrev pub Protocol : Type 0
Protocol = ℕ → ℕ → ℕ

-- read shared heard, by the seat's own cells 9 to 12
abbrev pub heard_rs : (ℕ → ℕ) → State → State
heard_rs c Invalid = Invalid
heard_rs c Shared = state_of (c 9)
heard_rs c Exclusive = state_of (c 10)
heard_rs c Owned = state_of (c 11)
heard_rs c Modified = state_of (c 12)

-- update heard, by cells 13 and 14; Exclusive counts as Shared, Modified as Owned
abbrev pub heard_up : (ℕ → ℕ) → State → State
heard_up c Invalid = Invalid
heard_up c Shared = state_of (c 13)
heard_up c Exclusive = state_of (c 13)
heard_up c Owned = state_of (c 14)
heard_up c Modified = state_of (c 14)

-- through with update heard: a shared copy goes by cell 15, an owner stays the owner
abbrev pub heard_tu : (ℕ → ℕ) → State → State
heard_tu c Invalid = Invalid
heard_tu c Shared = state_of (c 15)
heard_tu c Exclusive = state_of (c 15)
heard_tu c Owned = Owned
heard_tu c Modified = Owned

-- any transaction heard that invalidates
abbrev pub gone : State → State
gone s = Invalid

-- the requester after read shared: cell 3 when alone
abbrev pub after_rs : (ℕ → ℕ) → Bool → State
after_rs c true = state_of (c 3)
after_rs c false = Shared

-- the requester after update: cell 4 when alone
abbrev pub after_up : (ℕ → ℕ) → Bool → State
after_up c true = state_of (c 4)
after_up c false = Owned

-- the requester after through with update: from Shared cell 5, from Owned cell 6, when alone
abbrev pub after_tu : (ℕ → ℕ) → Bool → State → State
after_tu c lone Invalid = Invalid
after_tu c lone Shared = cond lone (state_of (c 5)) Shared
after_tu c lone Exclusive = cond lone (state_of (c 5)) Shared
after_tu c lone Owned = cond lone (state_of (c 6)) Owned
after_tu c lone Modified = cond lone (state_of (c 6)) Owned

-- the requester after through with invalidate: from Shared cell 7, from Owned cell 8, from Invalid none
abbrev pub after_ti : (ℕ → ℕ) → State → State
after_ti c Invalid = Invalid
after_ti c Shared = state_of (c 7)
after_ti c Exclusive = state_of (c 7)
after_ti c Owned = state_of (c 8)
after_ti c Modified = state_of (c 8)

-- each seat from k on goes to the state that it hears, and a copy left valid has its words changed so
abbrev pub hear : (ℕ → State → State) → (List ℕ → List ℕ) → ℕ → List Copy → List Copy
hear h w k [] = []
hear h w k (x ∷ xs) = kept (h k x.state) (w x.words) ∷ hear h w (suc k) xs

-- words that stay
abbrev pub same : List ℕ → List ℕ
same w = w

-- the state is Owned, and not Modified
abbrev pub is_o : State → Bool
is_o Invalid = false
is_o Shared = false
is_o Exclusive = false
is_o Owned = true
is_o Modified = false

-- an owner, if there was one, is not in Owned now
abbrev pub leaves_o : Option ℕ → List Copy → Bool
leaves_o None ys = false
leaves_o (Some k) ys = not (is_o (state_at ys k))

-- the first owner before does not end in Owned
abbrev pub reflects : List Copy → List Copy → Bool
reflects xs ys = leaves_o (owner_of xs) ys

-- RS: the others react, an owner or else memory supplies, the requester is filled
unfoldable pub read_shared : Protocol → ℕ → Column → Column
read_shared cell r c =
    let ys = hear (λ k. heard_rs (cell k)) same 0 c.copies in
    let zs = slice_set ys r (kept (after_rs (cell r) (alone r ys)) (supplied c.copies c.home)) in
    record { copies = zs; home = cond (reflects c.copies zs) (supplied c.copies c.home) c.home }

-- RX: the others become Invalid, an owner or else memory supplies, the requester is Modified with the new word
unfoldable pub read_invalidate : (r o v : ℕ) → Column → Column
read_invalidate r o v c = record {
  copies = slice_set (hear (λ k. gone) same 0 c.copies) r (kept Modified (slice_set (supplied c.copies c.home) o v));
  home = c.home;
}

-- IN: the others become Invalid, the requester is Modified with the new word
unfoldable pub invalidate : (r o v : ℕ) → Column → Column
invalidate r o v c = record {
  copies = slice_set (hear (λ k. gone) same 0 c.copies) r (kept Modified (slice_set (words_at c.copies r) o v));
  home = c.home;
}

-- UP: the others react, those left valid take the word, the requester owns the line
unfoldable pub update : Protocol → (r o v : ℕ) → Column → Column
update cell r o v c =
    let ys = hear (λ k. heard_up (cell k)) (λ w. slice_set w o v) 0 c.copies in
    record {
      copies = slice_set ys r (kept (after_up (cell r) (alone r ys)) (slice_set (words_at c.copies r) o v));
      home = c.home;
    }

-- TU: memory takes the word, the others react, those left valid take it too
unfoldable pub through_update : Protocol → (r o v : ℕ) → Column → Column
through_update cell r o v c =
    let ys = hear (λ k. heard_tu (cell k)) (λ w. slice_set w o v) 0 c.copies in
    record {
      copies = slice_set ys r (kept (after_tu (cell r) (alone r ys) (state_at c.copies r)) (slice_set (words_at c.copies r) o v));
      home = slice_set c.home o v;
    }

-- TI: memory takes the word, the others become Invalid; an owner among them has written back before
unfoldable pub through_invalidate : Protocol → (r o v : ℕ) → Column → Column
through_invalidate cell r o v c = record {
  copies = slice_set (hear (λ k. gone) same 0 c.copies) r (kept (after_ti (cell r) (state_at c.copies r)) (slice_set (words_at c.copies r) o v));
  home = slice_set c.home o v;
}

-- WB: memory takes the requester's whole line, and no copy changes
unfoldable pub write_back : ℕ → Column → Column
write_back r c = record { copies = c.copies; home = words_at c.copies r }

-- a write at an exclusive copy uses no bus and ends in Modified
unfoldable pub silent : (r o v : ℕ) → Column → Column
silent r o v c = record { copies = slice_set c.copies r (kept Modified (slice_set (words_at c.copies r) o v)); home = c.home }

-- the seat's copy is none
unfoldable pub dropped : ℕ → Column → Column
dropped r c = record { copies = slice_set c.copies r none; home = c.home }
