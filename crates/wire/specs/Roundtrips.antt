-- What it means that bytes and commands go into each other and back.
use Rattle.std.specs.Prelude.{◌≡◌, ℕ, ◌≤◌, List, ◌++◌, length, drop, Some, None, Ok, Err, Option, Result}
use Rattle.wire.specs.declared.commands.Found.{Found}
use Rattle.buffers.specs.declared.faults.WireFault.{WireFault}
use Rattle.wire.specs.Encoding.{encode, Fits}

-- a command read from bytes, written again, is what it was read from
pub record GivesBack (bs : List ℕ) (f : Found) : Type 0 where
  pub same : bs ≡ encode f.command ++ drop f.taken bs
  pub count : f.taken ≡ length (encode f.command)
  pub fits : Fits f.command

-- what a reader answered, written again, is what it was read from
abbrev pub ReadsBack : List ℕ → Result (Option Found) WireFault → Type 0
ReadsBack bs r = (f : Found) → r ≡ Ok (Some f) → GivesBack bs f

-- what was found takes some bytes, and no more than there are; nothing is found just at the end
abbrev pub Within : List ℕ → Result (Option Found) WireFault → Type 0
Within bs (Ok (Some f)) = (1 ≤ f.taken) × (f.taken ≤ length bs)
Within bs (Ok None) = length bs ≡ 0
Within bs (Err e) = 1 ≤ length bs
