-- Two groups of two cells, call by call.
use Rattle.std.specs.Prelude.{◌≡◌, ℕ, ◌^◌, ◌<◌, List, [], ◌∷◌, Some, None, Ok, Err, Option, Result, slice_index_or}
use Rattle.std.proofs.Common.{lit<}
use Rattle.records.specs.Telegrams.{stands, blank}
use Rattle.records.specs.declared.telegram.Telegram.{Telegram}
use Rattle.queues.specs.Cells.{put_answer, take_answer, exchange_answer}
use Rattle.queues.specs.declared.queue.Put.{Put}
use Rattle.queues.specs.declared.queue.Put.TheVariants.{Kept, Displaced}
use Rattle.queues.specs.declared.fault.QueueFault.{QueueFault}
use Rattle.standing.specs.Steps.{put_cells, take_cells, exchange_cells}

-- a telegram of which only the release matters
abbrev pub at : (n : ℕ) → n < 2 ^ 64 → Telegram
at n fits = record { release = n; number = 0; row = 0; length = 64; handle = 0; fits = (fits, lit< tt, lit< tt, lit< tt, lit< tt) }

pub data Call : Type 0 where
  put : Telegram → Call
  take : Call
  exchange : Telegram → Call

-- the cells after a call
abbrev pub after : Call → List Telegram → List Telegram
after (put x) cells = put_cells stands blank 2 2 x cells
after take cells = take_cells stands blank 2 2 cells
after (exchange x) cells = exchange_cells stands blank 2 2 x cells

-- the telegram that an answer bears
abbrev pub displaced : Result (Put Telegram) QueueFault → Option Telegram
displaced (Ok Kept) = None
displaced (Ok (Displaced d)) = Some d
displaced (Err e) = None

abbrev pub answered : Result Telegram QueueFault → Option Telegram
answered (Ok t) = Some t
answered (Err e) = None

abbrev pub leaving : Call → List Telegram → Option Telegram
leaving (put x) cells = displaced (put_answer stands blank x (slice_index_or cells 3 blank))
leaving take cells = answered (take_answer stands blank (slice_index_or cells 0 blank))
leaving (exchange x) cells = answered (exchange_answer stands blank x (slice_index_or cells 0 blank))

-- a call, what leaves, and the cells that it leaves behind
pub record Row : Type 0 where
  pub call : Call
  pub leaves : Option Telegram
  pub cells : List Telegram

-- each row of a table follows from the cells of the row before
abbrev pub Follows : List Telegram → List Row → Type 0
Follows cells [] = Unit {0}
Follows cells (row ∷ rows) = (after row.call cells ≡ row.cells) × (leaving row.call cells ≡ row.leaves) × Follows row.cells rows

abbrev pub free : List Telegram
free = blank ∷ blank ∷ blank ∷ blank ∷ []

abbrev t3 : Telegram
t3 = at 3 (lit< tt)

abbrev t4 : Telegram
t4 = at 4 (lit< tt)

abbrev t5 : Telegram
t5 = at 5 (lit< tt)

abbrev t6 : Telegram
t6 = at 6 (lit< tt)

abbrev t7 : Telegram
t7 = at 7 (lit< tt)

abbrev t8 : Telegram
t8 = at 8 (lit< tt)

abbrev t9 : Telegram
t9 = at 9 (lit< tt)

abbrev pub table : List Row
table =
    record { call = put t5; leaves = None; cells = t5 ∷ blank ∷ blank ∷ blank ∷ [] }
    ∷ record { call = put t7; leaves = None; cells = t5 ∷ t7 ∷ blank ∷ blank ∷ [] }
    ∷ record { call = put t3; leaves = None; cells = t3 ∷ t5 ∷ t7 ∷ blank ∷ [] }
    ∷ record { call = put t6; leaves = None; cells = t3 ∷ t6 ∷ t5 ∷ t7 ∷ [] }
    ∷ record { call = put t9; leaves = Some t7; cells = t3 ∷ t9 ∷ t5 ∷ t6 ∷ [] }
    ∷ record { call = put t4; leaves = Some t6; cells = t3 ∷ t4 ∷ t5 ∷ t9 ∷ [] }
    ∷ record { call = take; leaves = Some t3; cells = t4 ∷ t5 ∷ t9 ∷ blank ∷ [] }
    ∷ record { call = exchange t8; leaves = Some t4; cells = t5 ∷ t8 ∷ t9 ∷ blank ∷ [] }
    ∷ []
