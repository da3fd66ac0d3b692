-- The bytes of a command: its command byte, then its operands.
use Rattle.std.specs.Prelude.{ℕ, ◌^◌, ◌<◌, List, [], ◌∷◌, ◌++◌, ℤ, FitsSigned}
use Rattle.std.specs.Int.{w32}
use Rattle.std.proofs.Common.{of_z}
use Rattle.wire.specs.declared.commands.Command.{Command}
use Rattle.wire.specs.declared.commands.Command.TheVariants.{SetRow, Start, Admit, Release, Exchange, Reading, Show, Close}
use Rattle.wire.specs.Bytes.{bytes}

-- a signed number in four bytes, in two's complement
abbrev pub signed_bytes : ℤ → List ℕ
signed_bytes z = bytes 4 (of_z w32 z)

-- the operands of an admission, and of an exchange
abbrev pub admission : ℕ → ℕ → ℕ → ℕ → List ℕ
admission at row length handle = bytes 8 at ++ (bytes 1 row ++ (bytes 2 length ++ bytes 4 handle))

-- the bytes of a command
abbrev pub encode : Command → List ℕ
encode (SetRow row pace burst) = 1 ∷ (bytes 1 row ++ (bytes 2 pace ++ bytes 4 burst))
encode Start = 2 ∷ []
encode (Admit at row length handle) = 3 ∷ admission at row length handle
encode (Release at) = 4 ∷ bytes 8 at
encode (Exchange at row length handle) = 5 ∷ admission at row length handle
encode (Reading row position target) = 6 ∷ (bytes 1 row ++ (signed_bytes position ++ signed_bytes target))
encode Show = 7 ∷ []
encode Close = 8 ∷ []

-- each operand of a command fits its bytes
abbrev pub Fits : Command → Type 0
Fits (SetRow row pace burst) = (row < 2 ^ 8) × (pace < 2 ^ 16) × (burst < 2 ^ 32)
Fits Start = Unit {0}
Fits (Admit at row length handle) = (at < 2 ^ 64) × (row < 2 ^ 8) × (length < 2 ^ 16) × (handle < 2 ^ 32)
Fits (Release at) = at < 2 ^ 64
Fits (Exchange at row length handle) = (at < 2 ^ 64) × (row < 2 ^ 8) × (length < 2 ^ 16) × (handle < 2 ^ 32)
Fits (Reading row position target) = (row < 2 ^ 8) × FitsSigned w32 position × FitsSigned w32 target
Fits Show = Unit {0}
Fits Close = Unit {0}
