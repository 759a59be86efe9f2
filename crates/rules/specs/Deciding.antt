-- What each cell of a table decides: for every cell, a table with each byte that it may hold, and what that byte does.
-- Where two cells could be taken for one another, the tables hold them apart. Then two seats with different tables: each
-- goes by its own cells.
--
-- ends      the states in which line 0 ends, seat 0 first, after calls by two seats that follow one table
-- uses      the transactions of the last of the calls
-- ends_mixed, uses_mixed  the same, where seat 0 follows one table and seat 1 another
-- Deciding  the sixteen cells in turn; one set, two lines of zeros
use Rattle.std.specs.Prelude.{◌≡◌, ℕ, List, [], ◌∷◌, map, codes}
use Rattle.rules.specs.declared.call.Call.{Call}
use Rattle.rules.specs.declared.call.Call.TheVariants.{Flush}
use Rattle.rules.specs.Systems.{outcome, after}
use Rattle.rules.specs.Sessions.{table, split, letters_of, shown, small, r, w}

-- the states of line 0 after the calls
abbrev pub ends : List ℕ → List Call → List ℕ
ends cells calls = letters_of 0 (after 4 calls (small (table cells)))

-- the transactions of a call after others
abbrev pub uses : List ℕ → List Call → Call → List (List ℕ)
uses cells calls call = map shown (outcome 4 call (after 4 calls (small (table cells)))).records

-- the states of line 0 after the calls, seat 0 by the first table and seat 1 by the second
abbrev pub ends_mixed : (first second : List ℕ) → List Call → List ℕ
ends_mixed first second calls = letters_of 0 (after 4 calls (small (split (table first) 1 (table second))))

-- the transactions of a call after others, likewise
abbrev pub uses_mixed : (first second : List ℕ) → List Call → Call → List (List ℕ)
uses_mixed first second calls call = map shown (outcome 4 call (after 4 calls (small (split (table first) 1 (table second))))).records

-- a flush of line 0
abbrev pub f : ℕ → Call
f seat = Flush seat 0 4

-- the cells in turn
pub record Deciding : Type 0 where
  -- 0: a write at Invalid reads shared, reads and invalidates, or writes through
  pub cell0_1 : uses (codes "144EMEMEMSSOOSSS") [] (w 0 0 1) ≡ codes "RS0" ∷ []
  pub cell0_2 : uses (codes "244EMEMEMSSOOSSS") [] (w 0 0 1) ≡ codes "RX0" ∷ []
  pub cell0_6 : uses (codes "644EMEMEMSSOOSSS") [] (w 0 0 1) ≡ codes "TI0" ∷ []
  -- 1: a write at Shared
  pub cell1_3 : uses (codes "134EMEMEMSSOOSSS") (r 0 0 ∷ r 1 0 ∷ []) (w 1 0 4) ≡ codes "IN1" ∷ []
  pub cell1_4 : uses (codes "144EMEMEMSSOOSSS") (r 0 0 ∷ r 1 0 ∷ []) (w 1 0 4) ≡ codes "UP1" ∷ []
  pub cell1_5 : uses (codes "154EMEMEMSSOOSSS") (r 0 0 ∷ r 1 0 ∷ []) (w 1 0 4) ≡ codes "TU1" ∷ []
  pub cell1_6 : uses (codes "164EMEMEMSSOOSSS") (r 0 0 ∷ r 1 0 ∷ []) (w 1 0 4) ≡ codes "TI1" ∷ []
  -- 2: a write at Owned
  pub cell2_3 : uses (codes "143EMEMEMSSOOSSS") (r 0 0 ∷ r 1 0 ∷ w 1 0 4 ∷ []) (w 1 0 5) ≡ codes "IN1" ∷ []
  pub cell2_4 : uses (codes "144EMEMEMSSOOSSS") (r 0 0 ∷ r 1 0 ∷ w 1 0 4 ∷ []) (w 1 0 5) ≡ codes "UP1" ∷ []
  pub cell2_5 : uses (codes "145EMEMEMSSOOSSS") (r 0 0 ∷ r 1 0 ∷ w 1 0 4 ∷ []) (w 1 0 5) ≡ codes "TU1" ∷ []
  pub cell2_6 : uses (codes "146EMEMEMSSOOSSS") (r 0 0 ∷ r 1 0 ∷ w 1 0 4 ∷ []) (w 1 0 5) ≡ codes "TI1" ∷ []
  -- 3: filled alone
  pub cell3_s : ends (codes "144SMEMEMSSOOSSS") (r 0 0 ∷ []) ≡ codes "SI"
  pub cell3_e : ends (codes "144EMEMEMSSOOSSS") (r 0 0 ∷ []) ≡ codes "EI"
  -- 4: after an update, alone
  pub cell4_o : ends (codes "144EOEMEMSSOOISS") (r 0 0 ∷ r 1 0 ∷ w 1 0 4 ∷ []) ≡ codes "IO"
  pub cell4_m : ends (codes "144EMEMEMSSOOISS") (r 0 0 ∷ r 1 0 ∷ w 1 0 4 ∷ []) ≡ codes "IM"
  -- 5: after a write through with update, alone, from Shared
  pub cell5_s : ends (codes "155EMSMEMSSSSSSI") (r 0 0 ∷ r 1 0 ∷ w 1 0 4 ∷ []) ≡ codes "IS"
  pub cell5_e : ends (codes "155EMEMEMSSSSSSI") (r 0 0 ∷ r 1 0 ∷ w 1 0 4 ∷ []) ≡ codes "IE"
  -- 6: the same, from Owned
  pub cell6_o : ends (codes "235SMSOSMSSOOIII") (w 0 0 3 ∷ r 1 0 ∷ f 1 ∷ w 0 0 4 ∷ []) ≡ codes "OI"
  pub cell6_m : ends (codes "235SMSMSOSSOOIII") (w 0 0 3 ∷ r 1 0 ∷ f 1 ∷ w 0 0 4 ∷ []) ≡ codes "MI"
  -- 7: after a write through with invalidate, from Shared
  pub cell7_s : ends (codes "266SMEMSMSSSSIII") (r 0 0 ∷ w 0 0 1 ∷ []) ≡ codes "SI"
  pub cell7_e : ends (codes "266SMSMEMSSSSIII") (r 0 0 ∷ w 0 0 1 ∷ []) ≡ codes "EI"
  -- 8: the same, from Owned
  pub cell8_o : ends (codes "236SMSMSOSSOOIII") (w 0 0 3 ∷ r 1 0 ∷ w 0 0 4 ∷ []) ≡ codes "OI"
  pub cell8_m : ends (codes "236SMSOSMSSOOIII") (w 0 0 3 ∷ r 1 0 ∷ w 0 0 4 ∷ []) ≡ codes "MI"
  -- 9: read shared heard at Shared
  pub cell9_i : ends (codes "233SMSOSOISOOIII") (r 0 0 ∷ r 1 0 ∷ []) ≡ codes "IS"
  pub cell9_s : ends (codes "233SMSOSOSIOOIII") (r 0 0 ∷ r 1 0 ∷ []) ≡ codes "SS"
  -- 10: at Exclusive
  pub cell10_i : ends (codes "233EMSOSOSIOOIII") (r 0 0 ∷ r 1 0 ∷ []) ≡ codes "IE"
  pub cell10_s : ends (codes "233EMSOSOISIOIII") (r 0 0 ∷ r 1 0 ∷ []) ≡ codes "SS"
  -- 11: at Owned
  pub cell11_i : ends (codes "233SMSOSOSSIOIII") (w 0 0 3 ∷ r 1 0 ∷ f 1 ∷ r 1 0 ∷ []) ≡ codes "IS"
  pub cell11_s : ends (codes "233SMSOSOIISOIII") (w 0 0 3 ∷ r 1 0 ∷ f 1 ∷ r 1 0 ∷ []) ≡ codes "SS"
  pub cell11_o : ends (codes "233SMSOSOIIOOIII") (w 0 0 3 ∷ r 1 0 ∷ f 1 ∷ r 1 0 ∷ []) ≡ codes "OS"
  -- 12: at Modified
  pub cell12_i : ends (codes "233SMSOSOSSOIIII") (w 0 0 3 ∷ r 1 0 ∷ []) ≡ codes "IS"
  pub cell12_s : ends (codes "233SMSOSOIIOSIII") (w 0 0 3 ∷ r 1 0 ∷ []) ≡ codes "SS"
  pub cell12_o : ends (codes "233SMSOSOSSIOIII") (w 0 0 3 ∷ r 1 0 ∷ []) ≡ codes "OS"
  -- 13: update heard at Shared
  pub cell13_i : ends (codes "144EMEMEMSSOOISS") (r 0 0 ∷ r 1 0 ∷ w 1 0 4 ∷ []) ≡ codes "IM"
  pub cell13_s : ends (codes "144EMEMEMSSOOSII") (r 0 0 ∷ r 1 0 ∷ w 1 0 4 ∷ []) ≡ codes "SO"
  -- 14: at Owned
  pub cell14_i : ends (codes "144EMEMEMSSOOSIS") (r 0 0 ∷ r 1 0 ∷ w 1 0 4 ∷ w 0 0 5 ∷ []) ≡ codes "MI"
  pub cell14_s : ends (codes "144EMEMEMSSOOSSI") (r 0 0 ∷ r 1 0 ∷ w 1 0 4 ∷ w 0 0 5 ∷ []) ≡ codes "OS"
  -- 15: write through with update heard at Shared
  pub cell15_i : ends (codes "155EMEMEMSSSSSSI") (r 0 0 ∷ r 1 0 ∷ w 1 0 4 ∷ []) ≡ codes "IE"
  pub cell15_s : ends (codes "155EMEMEMSSSSIIS") (r 0 0 ∷ r 1 0 ∷ w 1 0 4 ∷ []) ≡ codes "SS"
  -- a writer goes by its own cells 0, 1 and 2
  pub own0 : uses_mixed (codes "244EMEMEMSSOOSSS") (codes "144EMEMEMSSOOSSS") [] (w 1 0 1) ≡ codes "RS1" ∷ []
  pub own1 : uses_mixed (codes "134EMEMEMSSOOSSS") (codes "144EMEMEMSSOOSSS") (r 0 0 ∷ r 1 0 ∷ []) (w 1 0 4) ≡ codes "UP1" ∷ []
  pub own2 : uses_mixed (codes "143EMEMEMSSOOSSS") (codes "145EMEMEMSSOOSSS") (r 0 0 ∷ r 1 0 ∷ w 1 0 4 ∷ []) (w 1 0 5) ≡ codes "TU1" ∷ []
  -- a requester by its own cells 3 to 8, and whoever hears it by its own 13 and 15
  pub own3 : ends_mixed (codes "144SMEMEMSSOOSSS") (codes "144EMEMEMSSOOSSS") (r 1 0 ∷ []) ≡ codes "IE"
  pub own4_13 : ends_mixed (codes "144EOEMEMSSOOISS") (codes "144EMEMEMSSOOSSS") (r 0 0 ∷ r 1 0 ∷ w 1 0 4 ∷ []) ≡ codes "IM"
  pub own5_15 : ends_mixed (codes "155EMSMEMSSSSSSI") (codes "155EMEMEMSSSSSSS") (r 0 0 ∷ r 1 0 ∷ w 1 0 4 ∷ []) ≡ codes "IE"
  pub own6 : ends_mixed (codes "235SMSOSOSSOOIII") (codes "235SMSMSOSSOOIII") (w 1 0 3 ∷ r 0 0 ∷ f 0 ∷ w 1 0 4 ∷ []) ≡ codes "IM"
  pub own7 : ends_mixed (codes "266SMSMSMSSSSIII") (codes "266SMSMEMSSSSIII") (r 1 0 ∷ w 1 0 1 ∷ []) ≡ codes "IE"
  pub own8 : ends_mixed (codes "236SMSMSOSSOOIII") (codes "236SMSOSMSSOOIII") (w 1 0 3 ∷ r 0 0 ∷ w 1 0 4 ∷ []) ≡ codes "IM"
  -- whoever hears a read by its own cells 9 to 12, and an owner that hears an update by its own 14
  pub own9 : ends_mixed (codes "233SMSOSOISOOIII") (codes "233SMSOSOSSOOIII") (r 0 0 ∷ r 1 0 ∷ []) ≡ codes "IS"
  pub own10 : ends_mixed (codes "233EMSOSOSIOOIII") (codes "233SMSOSOSSOOIII") (r 0 0 ∷ r 1 0 ∷ []) ≡ codes "IS"
  pub own11 : ends_mixed (codes "233SMSOSOSSIOIII") (codes "233SMSOSOSSSSIII") (w 0 0 3 ∷ r 1 0 ∷ f 1 ∷ r 1 0 ∷ []) ≡ codes "IS"
  pub own12 : ends_mixed (codes "233SMSOSOSSIOIII") (codes "233SMSOSOSSSSIII") (w 0 0 3 ∷ r 1 0 ∷ []) ≡ codes "OS"
  pub own14 : ends_mixed (codes "144EMEMEMSSOOSIS") (codes "144EMEMEMSSOOSSI") (r 0 0 ∷ r 1 0 ∷ w 0 0 4 ∷ w 1 0 5 ∷ []) ≡ codes "IM"
