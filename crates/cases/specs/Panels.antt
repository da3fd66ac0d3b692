-- Two readings.
use Rattle.std.proofs.Common.{lit<}
use Rattle.std.specs.Prelude.{pos, negsuc}
use Rattle.std.specs.Int.Signed.{le_z_yes}
use Rattle.records.specs.declared.reading.Reading.{Reading}

-- row 3 at -5 for 10, and row 1 at 12 for 0
abbrev pub far : Reading
far = record { row = 3; position = negsuc 4; target = pos 10; fits = (lit< tt, le_z_yes tt, le_z_yes tt, le_z_yes tt, le_z_yes tt) }

abbrev pub near : Reading
near = record { row = 1; position = pos 12; target = pos 0; fits = (lit< tt, le_z_yes tt, le_z_yes tt, le_z_yes tt, le_z_yes tt) }
