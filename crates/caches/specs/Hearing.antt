-- What a copy becomes by what it hears, in the rules' words; cited by `CacheLine::snoop` and `Caches::react`.
--
-- state_heard   the state that a copy in a state goes to, by the cells of its own seat
-- words_heard   its words then, if it is left valid
-- reaction     what one copy becomes
-- heard_by      what every seat's copy becomes: all but the requester's react
use Rattle.std.specs.Prelude.{ℕ, List, slice_index_or, slice_set}
use Rattle.protocol.specs.declared.state.State.{State}
use Rattle.rules.specs.Columns.{Copy, kept, none}
use Rattle.rules.specs.Transactions.{Protocol, heard_rs, heard_up, heard_tu, gone, same, hear}
use Rattle.caches.specs.declared.heard.Heard.{Heard}
use Rattle.caches.specs.declared.heard.Heard.TheVariants.{ReadShared, ReadInvalidate, Invalidate, Update, ThroughUpdate, ThroughInvalidate}

-- the state that a copy goes to
abbrev pub state_heard : Heard → (ℕ → ℕ) → State → State
state_heard ReadShared c s = heard_rs c s
state_heard ReadInvalidate c s = gone s
state_heard Invalidate c s = gone s
state_heard (Update st) c s = heard_up c s
state_heard (ThroughUpdate st) c s = heard_tu c s
state_heard ThroughInvalidate c s = gone s

-- the words that a copy left valid has then
abbrev pub words_heard : Heard → List ℕ → List ℕ
words_heard ReadShared w = same w
words_heard ReadInvalidate w = same w
words_heard Invalidate w = same w
words_heard (Update st) w = slice_set w st.word st.value
words_heard (ThroughUpdate st) w = slice_set w st.word st.value
words_heard ThroughInvalidate w = same w

-- what one copy becomes, by its own seat's cells
abbrev pub reaction : (ℕ → ℕ) → Heard → Copy → Copy
reaction c h x = kept (state_heard h c x.state) (words_heard h x.words)

-- what every seat's copy becomes by a transaction of seat r: the requester's own stays
abbrev pub heard_by : Protocol → Heard → ℕ → List Copy → List Copy
heard_by cell h r xs = slice_set (hear (λ k. state_heard h (cell k)) (words_heard h) 0 xs) r (slice_index_or xs r none)
