-- The nine worked sessions and what each cell decides, by computation.
use Rattle.std.proofs.Common.{refl}
use Rattle.rules.specs.Sessions.{Sessions}
use Rattle.rules.specs.Deciding.{Deciding}
use Rattle.rules.specs.Transactions.{read_shared, read_invalidate, invalidate, update, through_update, through_invalidate, write_back, silent, dropped}
use Rattle.rules.specs.Caches.{look, room, victim, put, lines_at}
use Rattle.rules.specs.Machines.{change, transact}
use Rattle.rules.specs.Accesses.{let_go, emptied, flushed, fetched, saved_from, through, written_held, written, flushed_set, settled}
use Rattle.rules.specs.Systems.{outcome, closed}

pub sessions : Sessions
unfolding read_shared read_invalidate invalidate update through_update through_invalidate write_back silent dropped look room victim put lines_at change transact let_go emptied flushed fetched saved_from through written_held written flushed_set settled outcome closed
sessions = record {
  illinois = record { first = refl; second = refl; third = refl; behind = refl; fourth = refl; fifth = refl; supplied = refl; settle = refl; close = refl };
  writeonce = record { through = refl; written = refl; silent = refl; behind = refl };
  berkeley = record { supplied = refl; behind = refl; taken = refl; told = refl; taken_behind = refl };
  dragon = record { updated = refl; told = refl; behind = refl };
  firefly = record { updated = refl; through = refl };
  writethrough = record { through = refl; memory = refl; stays = refl };
  mixed = record { saved = refl; memory = refl };
  four = record { four = refl; told = refl };
  addresses = record { last = λ _. refl; beyond = λ _. refl };
  refusals = record { calls = refl; seat = refl; address = refl; places = refl; answered = refl; settle = refl; settle_over = refl };
}

pub deciding : Deciding
unfolding read_shared read_invalidate invalidate update through_update through_invalidate write_back silent dropped look room victim put lines_at change transact let_go emptied flushed fetched saved_from through written_held written flushed_set settled outcome closed
deciding = record { cell0_1 = refl; cell0_2 = refl; cell0_6 = refl; cell1_3 = refl; cell1_4 = refl; cell1_5 = refl; cell1_6 = refl; cell2_3 = refl; cell2_4 = refl; cell2_5 = refl; cell2_6 = refl; cell3_s = refl; cell3_e = refl; cell4_o = refl; cell4_m = refl; cell5_s = refl; cell5_e = refl; cell6_o = refl; cell6_m = refl; cell7_s = refl; cell7_e = refl; cell8_o = refl; cell8_m = refl; cell9_i = refl; cell9_s = refl; cell10_i = refl; cell10_s = refl; cell11_i = refl; cell11_s = refl; cell11_o = refl; cell12_i = refl; cell12_s = refl; cell12_o = refl; cell13_i = refl; cell13_s = refl; cell14_i = refl; cell14_s = refl; cell15_i = refl; cell15_s = refl; own0 = refl; own1 = refl; own2 = refl; own3 = refl; own4_13 = refl; own5_15 = refl; own6 = refl; own7 = refl; own8 = refl; own9 = refl; own10 = refl; own11 = refl; own12 = refl; own14 = refl }
