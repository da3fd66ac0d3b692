-- The order of telegrams.
use Rattle.std.specs.Prelude.{ℕ, Bool, nat_le}
use Rattle.std.proofs.Common.{lit<}
use Rattle.records.specs.Linear.{lex}
use Rattle.records.specs.declared.telegram.Telegram.{Telegram}

-- the fields, in the sequence in which they are compared
abbrev pub key : Telegram → ℕ × (ℕ × (ℕ × (ℕ × ℕ)))
key t = (t.release, (t.number, (t.row, (t.length, t.handle))))

-- by release, number, row, length and handle, in that sequence, the smaller first
abbrev pub stands : Telegram → Telegram → Bool
stands x y = lex nat_le (lex nat_le (lex nat_le (lex nat_le nat_le))) (key x) (key y)

-- every bit set
abbrev pub blank : Telegram
blank = record { release = 0xffff_ffff_ffff_ffff; number = 0xffff_ffff; row = 0xff; length = 0xffff; handle = 0xffff_ffff; fits = (lit< tt, lit< tt, lit< tt, lit< tt, lit< tt) }
