-- The order of readings.
use Rattle.std.specs.Prelude.{ℕ, Bool, ℤ, pos, ◌-ℤ◌, int_le, nat_le, unsigned_abs}
use Rattle.std.proofs.Common.{lit<}
use Rattle.std.specs.Int.Signed.{le_z_yes}
use Rattle.records.specs.Linear.{lex, flip}
use Rattle.records.specs.declared.reading.Reading.{Reading}

-- how far the position is from the target
unfoldable pub distance : Reading → ℕ
distance r = unsigned_abs (r.position -ℤ r.target)

-- what is compared where two distances are equal
abbrev pub fields : Reading → ℕ × (ℤ × ℤ)
fields r = (r.row, (r.position, r.target))

-- what is compared, the distance first
abbrev pub key : Reading → ℕ × (ℕ × (ℤ × ℤ))
key r = (distance r, fields r)

-- the larger distance first, then the smaller row, position and target
abbrev pub stands : Reading → Reading → Bool
stands x y = lex (flip nat_le) (lex nat_le (lex int_le int_le)) (key x) (key y)

-- row 255, position and target 2,147,483,647
abbrev pub blank : Reading
blank = record { row = 255; position = pos 2147483647; target = pos 2147483647; fits = (lit< tt, le_z_yes tt, le_z_yes tt, le_z_yes tt, le_z_yes tt) }
