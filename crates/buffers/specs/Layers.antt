-- The letters of the layers.
use Rattle.std.specs.Prelude.{ℕ}
use Rattle.buffers.specs.declared.layers.Layer.{Layer}
use Rattle.buffers.specs.declared.layers.Layer.TheVariants.{Show, Queue, Stream, Panel}

-- the letter of a layer: U, Q, S or P
abbrev pub letter_of : Layer → ℕ
letter_of Show = 85
letter_of Queue = 81
letter_of Stream = 83
letter_of Panel = 80
