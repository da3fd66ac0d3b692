-- A buffer that has room takes a text.
use Rattle.std.proofs.Common.{◌≡◌, ℕ, ◌≤◌, List, length, Ok, Result}
use Rattle.std.proofs.lemmas.Bool.{le-leb}
use Rattle.buffers.specs.declared.faults.WireFault.{WireFault}
use Rattle.buffers.specs.Buffers.{put_over, count_in, after}

module _ (old text : List ℕ) (room : 96 ≤ length old) where
  pub text_count : (n : ℕ) → n ≡ length text → ◌≡◌ {A = Result ℕ WireFault} (Ok n) (count_in old text)
  text_count n e = let b = le-leb 96 (length old) room in simp (b, e)

  pub text_buffer : (out : List ℕ) → out ≡ put_over old text → out ≡ after old text
  text_buffer out e = let b = le-leb 96 (length old) room in simp (b, e)
