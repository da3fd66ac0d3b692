-- The queues of readings, as contracts name them.
use Rattle.records.specs.Readings.{stands, blank}
use Rattle.records.specs.declared.reading.Reading.{Reading}
use Rattle.grouped.specs.declared.Groups.{Groups}

-- a grouped queue in the order of readings
abbrev pub ReadingGroups : Type 0
ReadingGroups = Groups Reading record { order = stands; last = blank }
