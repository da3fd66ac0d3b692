-- The queues of telegrams, as contracts name them.
use Rattle.records.specs.Telegrams.{stands, blank}
use Rattle.records.specs.declared.telegram.Telegram.{Telegram}
use Rattle.grouped.specs.declared.Groups.{Groups}

-- a grouped queue in the order of telegrams
abbrev pub TelegramGroups : Type 0
TelegramGroups = Groups Telegram record { order = stands; last = blank }
