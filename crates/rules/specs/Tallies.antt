-- What a run counts: each event and the numbers that it moves.
--
-- blank       the tally of a run just opened
-- counted     a transaction was made; read shared, and read and invalidate, fill a copy
-- others      a read shared was reflected; so many copies became Invalid by a transaction heard;
--             a copy made room for another line; a copy was flushed; a read or write was answered, perhaps with a hit
use Rattle.std.specs.Prelude.{ℕ, ◌+◌, Bool, true, false}
use Rattle.protocol.specs.declared.transaction.Transaction.{Transaction}
use Rattle.protocol.specs.declared.transaction.Transaction.TheVariants.{ReadShared, ReadInvalidate, Invalidate, Update, ThroughUpdate, ThroughInvalidate, WriteBack}
use Rattle.rules.specs.declared.tally.Tally.{Tally}
use Rattle.rules.specs.declared.record.Record.{Record}

-- nothing counted
abbrev pub blank : Tally
blank = record {
  reads = 0;
  writes = 0;
  hits = 0;
  rs = 0;
  rx = 0;
  inv = 0;
  up = 0;
  tu = 0;
  ti = 0;
  wb = 0;
  reflected = 0;
  fills = 0;
  displaced = 0;
  flushed = 0;
  invalidated = 0;
}

-- a transaction was made; two of them fill a copy
abbrev pub counted : Transaction → Tally → Tally
counted ReadShared t = record {
  reads = t.reads;
  writes = t.writes;
  hits = t.hits;
  rs = t.rs + 1;
  rx = t.rx;
  inv = t.inv;
  up = t.up;
  tu = t.tu;
  ti = t.ti;
  wb = t.wb;
  reflected = t.reflected;
  fills = t.fills + 1;
  displaced = t.displaced;
  flushed = t.flushed;
  invalidated = t.invalidated;
}
counted ReadInvalidate t = record {
  reads = t.reads;
  writes = t.writes;
  hits = t.hits;
  rs = t.rs;
  rx = t.rx + 1;
  inv = t.inv;
  up = t.up;
  tu = t.tu;
  ti = t.ti;
  wb = t.wb;
  reflected = t.reflected;
  fills = t.fills + 1;
  displaced = t.displaced;
  flushed = t.flushed;
  invalidated = t.invalidated;
}
counted Invalidate t = record {
  reads = t.reads;
  writes = t.writes;
  hits = t.hits;
  rs = t.rs;
  rx = t.rx;
  inv = t.inv + 1;
  up = t.up;
  tu = t.tu;
  ti = t.ti;
  wb = t.wb;
  reflected = t.reflected;
  fills = t.fills;
  displaced = t.displaced;
  flushed = t.flushed;
  invalidated = t.invalidated;
}
counted Update t = record {
  reads = t.reads;
  writes = t.writes;
  hits = t.hits;
  rs = t.rs;
  rx = t.rx;
  inv = t.inv;
  up = t.up + 1;
  tu = t.tu;
  ti = t.ti;
  wb = t.wb;
  reflected = t.reflected;
  fills = t.fills;
  displaced = t.displaced;
  flushed = t.flushed;
  invalidated = t.invalidated;
}
counted ThroughUpdate t = record {
  reads = t.reads;
  writes = t.writes;
  hits = t.hits;
  rs = t.rs;
  rx = t.rx;
  inv = t.inv;
  up = t.up;
  tu = t.tu + 1;
  ti = t.ti;
  wb = t.wb;
  reflected = t.reflected;
  fills = t.fills;
  displaced = t.displaced;
  flushed = t.flushed;
  invalidated = t.invalidated;
}
counted ThroughInvalidate t = record {
  reads = t.reads;
  writes = t.writes;
  hits = t.hits;
  rs = t.rs;
  rx = t.rx;
  inv = t.inv;
  up = t.up;
  tu = t.tu;
  ti = t.ti + 1;
  wb = t.wb;
  reflected = t.reflected;
  fills = t.fills;
  displaced = t.displaced;
  flushed = t.flushed;
  invalidated = t.invalidated;
}
counted WriteBack t = record {
  reads = t.reads;
  writes = t.writes;
  hits = t.hits;
  rs = t.rs;
  rx = t.rx;
  inv = t.inv;
  up = t.up;
  tu = t.tu;
  ti = t.ti;
  wb = t.wb + 1;
  reflected = t.reflected;
  fills = t.fills;
  displaced = t.displaced;
  flushed = t.flushed;
  invalidated = t.invalidated;
}

-- memory received the owner's line too, or not
abbrev pub if_reflected : Bool → Tally → Tally
if_reflected true t = record {
  reads = t.reads;
  writes = t.writes;
  hits = t.hits;
  rs = t.rs;
  rx = t.rx;
  inv = t.inv;
  up = t.up;
  tu = t.tu;
  ti = t.ti;
  wb = t.wb;
  reflected = t.reflected + 1;
  fills = t.fills;
  displaced = t.displaced;
  flushed = t.flushed;
  invalidated = t.invalidated;
}
if_reflected false t = t

-- so many copies became Invalid by a transaction heard
abbrev pub more_invalidated : ℕ → Tally → Tally
more_invalidated k t = record {
  reads = t.reads;
  writes = t.writes;
  hits = t.hits;
  rs = t.rs;
  rx = t.rx;
  inv = t.inv;
  up = t.up;
  tu = t.tu;
  ti = t.ti;
  wb = t.wb;
  reflected = t.reflected;
  fills = t.fills;
  displaced = t.displaced;
  flushed = t.flushed;
  invalidated = t.invalidated + k;
}

-- what a transaction's record counts, with the copies that it made Invalid
abbrev pub tallied : Record → ℕ → Tally → Tally
tallied e k t = more_invalidated k (if_reflected e.reflected (counted e.transaction t))

-- a copy went to make room
abbrev pub one_displaced : Tally → Tally
one_displaced t = record {
  reads = t.reads;
  writes = t.writes;
  hits = t.hits;
  rs = t.rs;
  rx = t.rx;
  inv = t.inv;
  up = t.up;
  tu = t.tu;
  ti = t.ti;
  wb = t.wb;
  reflected = t.reflected;
  fills = t.fills;
  displaced = t.displaced + 1;
  flushed = t.flushed;
  invalidated = t.invalidated;
}

-- a copy was flushed
abbrev pub one_flushed : Tally → Tally
one_flushed t = record {
  reads = t.reads;
  writes = t.writes;
  hits = t.hits;
  rs = t.rs;
  rx = t.rx;
  inv = t.inv;
  up = t.up;
  tu = t.tu;
  ti = t.ti;
  wb = t.wb;
  reflected = t.reflected;
  fills = t.fills;
  displaced = t.displaced;
  flushed = t.flushed + 1;
  invalidated = t.invalidated;
}

-- a read was answered, whose line was held or not
abbrev pub one_read : Bool → Tally → Tally
one_read true t = record {
  reads = t.reads + 1;
  writes = t.writes;
  hits = t.hits + 1;
  rs = t.rs;
  rx = t.rx;
  inv = t.inv;
  up = t.up;
  tu = t.tu;
  ti = t.ti;
  wb = t.wb;
  reflected = t.reflected;
  fills = t.fills;
  displaced = t.displaced;
  flushed = t.flushed;
  invalidated = t.invalidated;
}
one_read false t = record {
  reads = t.reads + 1;
  writes = t.writes;
  hits = t.hits;
  rs = t.rs;
  rx = t.rx;
  inv = t.inv;
  up = t.up;
  tu = t.tu;
  ti = t.ti;
  wb = t.wb;
  reflected = t.reflected;
  fills = t.fills;
  displaced = t.displaced;
  flushed = t.flushed;
  invalidated = t.invalidated;
}

-- a write was answered, whose line was held or not
abbrev pub one_write : Bool → Tally → Tally
one_write true t = record {
  reads = t.reads;
  writes = t.writes + 1;
  hits = t.hits + 1;
  rs = t.rs;
  rx = t.rx;
  inv = t.inv;
  up = t.up;
  tu = t.tu;
  ti = t.ti;
  wb = t.wb;
  reflected = t.reflected;
  fills = t.fills;
  displaced = t.displaced;
  flushed = t.flushed;
  invalidated = t.invalidated;
}
one_write false t = record {
  reads = t.reads;
  writes = t.writes + 1;
  hits = t.hits;
  rs = t.rs;
  rx = t.rx;
  inv = t.inv;
  up = t.up;
  tu = t.tu;
  ti = t.ti;
  wb = t.wb;
  reflected = t.reflected;
  fills = t.fills;
  displaced = t.displaced;
  flushed = t.flushed;
  invalidated = t.invalidated;
}
