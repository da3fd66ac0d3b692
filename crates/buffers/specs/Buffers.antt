-- What a writer answers, and what it leaves in its buffer.
use Rattle.std.specs.Prelude.{ℕ, cond, List, ◌++◌, length, drop, Ok, Err, Result, nat_le}
use Rattle.buffers.specs.declared.faults.WireFault.{WireFault}
use Rattle.buffers.specs.declared.faults.WireFault.TheVariants.{Buffer}

-- the count of the bytes put into a buffer, which has 96 bytes at least
abbrev pub count_in : List ℕ → List ℕ → Result ℕ WireFault
count_in out bs = cond (nat_le 96 (length out)) (Ok (length bs)) (Err Buffer)

-- bytes over the front of a list, of which the rest stays
abbrev pub put_over : List ℕ → List ℕ → List ℕ
put_over out bs = bs ++ drop (length bs) out

-- the buffer after bytes are put into it: a short one stays as it was
abbrev pub after : List ℕ → List ℕ → List ℕ
after out bs = cond (nat_le 96 (length out)) (put_over out bs) out
