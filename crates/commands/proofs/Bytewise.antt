-- The words of 8, 16, 32 and 64 bits at a place, from their bytes.
use Rattle.std.proofs.Common.{◌≡◌, ℕ, ◌+◌, ◌*◌, ◌≤◌, List, length, get_or, arith}
use Rattle.wire.specs.Bytes.{field}
use Rattle.wire.proofs.Words.{field_more}

pub word8 : (bs : List ℕ) (i : ℕ) → i + 1 ≤ length bs → get_or bs i 0 ≡ field bs i 1
word8 bs i room = omega (arith, field_more bs i 0 room)

pub word16 : (bs : List ℕ) (i : ℕ) → i + 2 ≤ length bs → get_or bs i 0 * 256 + get_or bs (i + 1) 0 ≡ field bs i 2
word16 bs i room = omega (arith, field_more bs i 1 room, word8 bs (i + 1) (omega arith))

pub word32 : (bs : List ℕ) (i : ℕ) → i + 4 ≤ length bs → get_or bs i 0 * 16777216 + get_or bs (i + 1) 0 * 65536 + get_or bs (i + 1 + 1) 0 * 256 + get_or bs (i + 1 + 1 + 1) 0 ≡ field bs i 4
word32 bs i room = omega (arith, field_more bs i 3 room, field_more bs (i + 1) 2 (omega arith), word16 bs (i + 1 + 1) (omega arith))

pub word64 : (bs : List ℕ) (i : ℕ) → i + 8 ≤ length bs → get_or bs i 0 * 72057594037927936 + get_or bs (i + 1) 0 * 281474976710656 + get_or bs (i + 1 + 1) 0 * 1099511627776 + get_or bs (i + 1 + 1 + 1) 0 * 4294967296 + get_or bs (i + 1 + 1 + 1 + 1) 0 * 16777216 + get_or bs (i + 1 + 1 + 1 + 1 + 1) 0 * 65536 + get_or bs (i + 1 + 1 + 1 + 1 + 1 + 1) 0 * 256 + get_or bs (i + 1 + 1 + 1 + 1 + 1 + 1 + 1) 0 ≡ field bs i 8
word64 bs i room =
    omega
    (arith, field_more bs i 7 room, field_more bs (i + 1) 6 (omega arith), field_more bs (i + 1 + 1) 5 (omega arith), field_more bs (i + 1 + 1 + 1) 4 (omega arith), word32 bs (i + 1 + 1 + 1 + 1) (omega arith))
