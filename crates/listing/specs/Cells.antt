-- The queues of the cabinet, empty.
use Rattle.std.specs.Prelude.{◌≡◌, []}
use Rattle.records.specs.Telegrams.{stands}
use Rattle.records.specs.declared.record.Record.{Ghosts}
use Rattle.records.specs.declared.telegram.Telegram.{Telegram}
use Rattle.sides.specs.Sides.{side_held, side_room, side_slack}
use Rattle.sides.specs.declared.SideCell.{SideCell}
use Rattle.grouped.specs.Queues.{groups_held, groups_room, groups_slack}
use Rattle.telegram_queues.specs.Types.{TelegramGroups}
use Rattle.reading_queues.specs.Types.{ReadingGroups}

-- a side cell over 8 groups of 4: 33 telegrams at most, slack 9
pub record EmptyTelegrams {kind : Ghosts Telegram} (q : SideCell Telegram TelegramGroups kind) : Type 0 where
  pub none : side_held stands groups_held q ≡ []
  pub room : side_room groups_room q ≡ 33
  pub slack : side_slack groups_slack q ≡ 9

-- 4 groups of 2: 8 readings at most, slack 4
pub record EmptyReadings (q : ReadingGroups) : Type 0 where
  pub none : groups_held q ≡ []
  pub room : groups_room q ≡ 8
  pub slack : groups_slack q ≡ 4
