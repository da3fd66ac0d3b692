-- What a panel takes in and shows, from what its queue means.
use Rattle.std.specs.Prelude.{◌≡◌, ℕ, Bool, true, false, ◌&&◌, List, [], ℤ, pos, negsuc, Ok, Err, Option, Result, int_le, nat_le}
use Rattle.records.specs.Readings.{stands, blank}
use Rattle.records.specs.declared.reading.Reading.{Reading}
use Rattle.buffers.specs.declared.layers.Layer.{Layer}
use Rattle.buffers.specs.declared.layers.Layer.TheVariants as layers
use Rattle.queues.specs.Faults as queue
use Rattle.queues.specs.Queues.{Puts, Takes, put_of}
use Rattle.panels.specs.declared.panel.fault.PanelFault.{PanelFault}
use Rattle.panels.specs.declared.panel.fault.PanelFault.TheVariants.{Reading as Bad, Queue}

-- a queue's fault keeps its number
abbrev pub number : PanelFault → ℕ
number Bad = 16
number (Queue e) = queue.number e

-- the layer that refuses: the panel, or the queue
abbrev pub layer : PanelFault → Layer
layer Bad = layers.Panel
layer (Queue e) = layers.Queue

-- -20,000 to 20,000 millimetres
abbrev pub within_reach : ℤ → Bool
within_reach x = int_le (negsuc 19999) x && int_le x (pos 20000)

-- of one of the 64 rows, its position and target within reach
abbrev pub in_bounds : Reading → Bool
in_bounds r = nat_le r.row 63 && (within_reach r.position && within_reach r.target)

module _ {Q : Type 0} (held : Q → List Reading) (room slack : Q → ℕ) where
  -- offer: a reading in bounds is put, as the queue means it, and any other is refused by 16
  abbrev pub Offers : Q → Reading → Result (Option Reading) PanelFault → Q → Type 0
  Offers q x (Ok left) q' = (in_bounds x ≡ true) × Puts stands blank held room slack q x (Ok (put_of left)) q'
  Offers q x (Err e) q' = (in_bounds x ≡ false) × (number e ≡ 16) × (q' ≡ q)

  -- the first reading leaves, and its position is the figure
  pub record Shown (q : Q) (figure : ℤ) (q' : Q) : Type 0 where
    pub reading : Reading
    pub position : figure ≡ reading.position
    pub leaves : Takes held room slack q (Ok reading) q'

  -- show: a figure, or nothing is held
  abbrev pub Shows : Q → Result ℤ PanelFault → Q → Type 0
  Shows q (Ok figure) q' = Shown q figure q'
  Shows q (Err e) q' = (held q ≡ []) × (number e ≡ 8) × (q' ≡ q)
