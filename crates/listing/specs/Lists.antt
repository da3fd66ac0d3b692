-- The text of the release list of a stream.
use Rattle.std.specs.Prelude.{◌≡◌, ℕ, List, []}
use Rattle.std.specs.List.{flat_map}
use Rattle.records.specs.declared.telegram.Telegram.{Telegram}
use Rattle.records.specs.declared.reading.Reading.{Reading}
use Rattle.shows.specs.Calls.{Limits}
use Rattle.wire.specs.Lines.{text_of}
use Rattle.wire.specs.declared.lines.Line.{Line}
use Rattle.runs.specs.Lists.{Lists}
use Rattle.runs.specs.Readers.{Readable}

-- the limits of the show's queue and of the panel's
abbrev pub show_limits : Limits
show_limits = record { capacity = 33; slack = 9 }

abbrev pub panel_limits : Limits
panel_limits = record { capacity = 8; slack = 4 }

-- a text is that of the lines of the run of these bytes, over queues that hold nothing at first, and a reader can rely on the lines
pub record Tells (bytes text : List ℕ) : Type 0 where
  pub lines : List Line
  pub held : List Telegram
  pub readings : List Reading
  pub lists : Lists show_limits panel_limits bytes [] [] lines held readings
  pub readable : Readable lines held
  pub text_is : text ≡ flat_map text_of lines

-- a text is the list of some stream
pub record TellsSome (text : List ℕ) : Type 0 where
  pub bytes : List ℕ
  pub tells : Tells bytes text
