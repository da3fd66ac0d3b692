-- What the writer of a command leaves, and what is read of it.
use Rattle.std.proofs.Common.{◌≡◌, ℕ, ◌≤◌, List, length, drop, Some, Ok, Result}
use Rattle.buffers.specs.declared.faults.WireFault.{WireFault}
use Rattle.wire.specs.declared.commands.Command.{Command}
use Rattle.buffers.specs.Buffers.{count_in, put_over, after}
use Rattle.wire.specs.Decoding.{found, read_of}
use Rattle.wire.specs.Encoding.{encode, Fits}
use Rattle.buffers.proofs.Room.{text_count, text_buffer}
use Rattle.wire.proofs.Trips.{read_again}

-- the buffer `old` had room, and `bs` are the bytes of the command c, which are put over its front
pub wrote : (c d : Command) → d ≡ c → (old bs : List ℕ) → 96 ≤ length old → bs ≡ encode c → Fits c → (n : ℕ) (out : List ℕ) → n ≡ length bs → out ≡ put_over old bs → (◌≡◌ {A = Result ℕ WireFault} (Ok n) (count_in old (encode d))) × (out ≡ after old (encode d)) × (read_of out ≡ Ok (Some (found d (length (encode d)))))
wrote c d is old bs room same fits n out count put =
    let r = read_again c (drop (length bs) old) fits in
    (text_count old (encode d) room n (cc), text_buffer old (encode d) room out (cc), cc)
