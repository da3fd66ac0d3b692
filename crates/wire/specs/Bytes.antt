-- Numbers as big-endian bytes.
use Rattle.std.specs.Prelude.{ℕ, zero, suc, ◌+◌, ◌*◌, ◌/◌, ◌%◌, ◌^◌, ◌<◌, List, [], ◌∷◌, length, take, drop, slice_index}

-- the number that bytes write, the first byte the highest
abbrev pub value : List ℕ → ℕ
value [] = 0
value (b ∷ bs) = b * 256 ^ length bs + value bs

-- a number in so many bytes, the highest first
abbrev pub bytes : ℕ → ℕ → List ℕ
bytes zero n = []
bytes (suc k) n = (n / 256 ^ k % 256) ∷ bytes k n

-- the number that k bytes write from a place on
abbrev pub field : List ℕ → ℕ → ℕ → ℕ
field bs i k = value (take k (drop i bs))

-- each number of the list is a byte
abbrev pub Bytes : List ℕ → Type 0
Bytes bs = (i : ℕ) → slice_index bs i < 256
