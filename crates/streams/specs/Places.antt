-- What stands at a place of a stream.
use Rattle.std.specs.Prelude.{◌≡◌, ℕ, ◌+◌, ◌<◌, ◌≤◌, List, length, drop, Some, None, Ok, Err, Option, Result}
use Rattle.wire.specs.Decoding.{read_of}
use Rattle.wire.specs.declared.commands.Found.{Found}
use Rattle.buffers.specs.declared.faults.WireFault.{WireFault}

-- what the reader answers there; a command takes some bytes, and none that are not there
abbrev pub StandsAt : List ℕ → ℕ → Result (Option Found) WireFault → Type 0
StandsAt bytes place (Ok (Some f)) = (read_of (drop place bytes) ≡ Ok (Some f)) × (1 ≤ f.taken) × (place + f.taken ≤ length bytes)
StandsAt bytes place (Ok None) = read_of (drop place bytes) ≡ Ok None
StandsAt bytes place (Err e) = (read_of (drop place bytes) ≡ Err e) × (place < length bytes)
