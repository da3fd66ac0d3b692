-- The numbers of a stream's refusals, and the layer that refuses.
use Rattle.std.specs.Prelude.{ℕ}
use Rattle.shows.specs.Faults as show
use Rattle.panels.specs.Panels as panel
use Rattle.buffers.specs.Faults as wire
use Rattle.buffers.specs.declared.layers.Layer.{Layer}
use Rattle.buffers.specs.declared.layers.Layer.TheVariants as layers
use Rattle.runs.specs.declared.fault.StreamFault.{StreamFault}
use Rattle.runs.specs.declared.fault.StreamFault.TheVariants.{Long, Stage, Wire, Show, Panel}

-- the number by which a refusal is reported
abbrev pub number : StreamFault → ℕ
number Long = 18
number Stage = 13
number (Wire e) = wire.number_of e
number (Show e) = show.number e
number (Panel e) = panel.number e

-- a lower layer's fault is reported as its own
abbrev pub layer : StreamFault → Layer
layer Long = layers.Stream
layer Stage = layers.Stream
layer (Wire e) = layers.Stream
layer (Show e) = show.layer e
layer (Panel e) = panel.layer e
