-- What bytes say: the command at their front, and how many bytes it takes.
use Rattle.std.specs.Prelude.{ℕ, ◌+◌, Bool, false, cond, List, [], ◌∷◌, length, ℤ, Some, None, Ok, Err, Option, Result, ◌==◌, nat_le, slice_index}
use Rattle.std.specs.Int.{w32}
use Rattle.std.proofs.Common.{to_z}
use Rattle.wire.specs.declared.commands.Command.{Command}
use Rattle.wire.specs.declared.commands.Command.TheVariants.{SetRow, Start, Admit, Release, Exchange, Reading, Show, Close}
use Rattle.wire.specs.declared.commands.Found.{Found}
use Rattle.buffers.specs.declared.faults.WireFault.{WireFault}
use Rattle.buffers.specs.declared.faults.WireFault.TheVariants.{Unknown, CutOff}
use Rattle.wire.specs.Bytes.{field}

-- how many operand bytes follow a command byte; none where it is no command
abbrev pub width_of : ℕ → Option ℕ
width_of b =
    cond (b == 1) (Some 7) (cond (b == 2) (Some 0) (cond (b == 3) (Some 15) (cond (b == 4) (Some 8)
    (cond (b == 5) (Some 15) (cond (b == 6) (Some 9) (cond (b == 7) (Some 0) (cond (b == 8) (Some 0) None)))))))

-- the number that four bytes write from a place on, in two's complement
abbrev pub signed_field : List ℕ → ℕ → ℤ
signed_field bs i = to_z w32 (field bs i 4)

-- the command that a command byte says of the bytes that it begins
abbrev pub command_of : ℕ → List ℕ → Command
command_of b bs =
    cond (b == 1) (SetRow (field bs 1 1) (field bs 2 2) (field bs 4 4)) (cond (b == 2) Start
    (cond (b == 3) (Admit (field bs 1 8) (field bs 9 1) (field bs 10 2) (field bs 12 4)) (cond (b == 4) (Release (field bs 1 8))
    (cond (b == 5) (Exchange (field bs 1 8) (field bs 9 1) (field bs 10 2) (field bs 12 4))
    (cond (b == 6) (Reading (field bs 1 1) (signed_field bs 2) (signed_field bs 6)) (cond (b == 7) Show Close))))))

-- a command and how many bytes it takes
abbrev pub found : Command → ℕ → Found
found c n = record { command = c; taken = n }

-- the command of a command byte with so many operands, at the front of the bytes
abbrev pub found_by : ℕ → Option ℕ → List ℕ → Result (Option Found) WireFault
found_by b None bs = Err Unknown
found_by b (Some w) bs = cond (nat_le (1 + w) (length bs)) (Ok (Some (found (command_of b bs) (1 + w)))) (Err CutOff)

-- what a reader answers: nothing at the end of the bytes, else the command at their front
abbrev pub read_of : List ℕ → Result (Option Found) WireFault
read_of [] = Ok None
read_of (b ∷ bs) = found_by b (width_of b) (b ∷ bs)

-- so many operand bytes follow the command byte
abbrev pub operands_follow : Option ℕ → List ℕ → Bool
operands_follow None bs = false
operands_follow (Some w) bs = nat_le (1 + w) (length bs)

-- the bytes begin with a command and all its operands
abbrev pub whole : List ℕ → Bool
whole bs = operands_follow (width_of (slice_index bs 0)) bs
