-- The numbers of a show's refusals, and the layer that refuses.
use Rattle.std.specs.Prelude.{ℕ}
use Rattle.queues.specs.Faults as queue
use Rattle.buffers.specs.declared.layers.Layer.{Layer}
use Rattle.buffers.specs.declared.layers.Layer.TheVariants as layers
use Rattle.shows.specs.declared.fault.ShowFault.{ShowFault}
use Rattle.shows.specs.declared.fault.ShowFault.TheVariants.{Time, Row, Length, Count, Overrun, Yellow, Red, Queue, Early, Card, Times}

-- the number by which a refusal is reported; a queue's fault keeps its own
abbrev pub number : ShowFault → ℕ
number Time = 1
number Row = 2
number Length = 3
number Count = 4
number Overrun = 5
number Yellow = 6
number Red = 7
number (Queue e) = queue.number e
number Early = 9
number Card = 10
number Times = 17

-- the layer that refuses: the queue, or the show
abbrev pub layer : ShowFault → Layer
layer Time = layers.Show
layer Row = layers.Show
layer Length = layers.Show
layer Count = layers.Show
layer Overrun = layers.Show
layer Yellow = layers.Show
layer Red = layers.Show
layer (Queue e) = layers.Queue
layer Early = layers.Show
layer Card = layers.Show
layer Times = layers.Show
