-- The commands that suit no part of a stage.
use Rattle.std.proofs.Common.{◌≡◌, ℕ, false, List, ℤ, refl}
use Rattle.records.specs.declared.telegram.Telegram.{Telegram}
use Rattle.shows.specs.Calls.{State}
use Rattle.shows.specs.declared.row.Row.{Row}
use Rattle.wire.specs.declared.commands.Command.{Command}
use Rattle.wire.specs.declared.commands.Command.TheVariants.{SetRow, Start, Admit, Release, Exchange, Reading, Show, Close}
use Rattle.runs.specs.Runs.{rigging, running, closed, suits}

module _ (command : Command) where
  abbrev pub NoReading : Type 0
  NoReading = (row : ℕ) (position target : ℤ) → command ≡ Reading row position target → ⊥

  abbrev pub NoAdmission : (ℕ → ℕ → ℕ → ℕ → Command) → Type 0
  NoAdmission variant = (at row length handle : ℕ) → command ≡ variant at row length handle → ⊥

-- what is no command of a stage's own suits it where it suits a show that is closed
pub rigging_else : (rows : List Row) (held : List Telegram) (s : State) (command : Command)
    → ((row pace burst : ℕ) → command ≡ SetRow row pace burst → ⊥) → (command ≡ Start → ⊥)
    → suits (rigging rows held) command ≡ suits (closed s) command
rigging_else rows held s (SetRow row pace burst) a b = absurd (a row pace burst refl)
rigging_else rows held s Start a b = absurd (b refl)
rigging_else rows held s (Admit at row length handle) a b = refl
rigging_else rows held s (Release at) a b = refl
rigging_else rows held s (Exchange at row length handle) a b = refl
rigging_else rows held s (Reading row position target) a b = refl
rigging_else rows held s Show a b = refl
rigging_else rows held s Close a b = refl

pub running_else : (s s' : State) (command : Command)
    → NoAdmission command Admit → ((at : ℕ) → command ≡ Release at → ⊥) → NoAdmission command Exchange → (command ≡ Close → ⊥)
    → suits (running s) command ≡ suits (closed s') command
running_else s s' (SetRow row pace burst) a b c d = refl
running_else s s' Start a b c d = refl
running_else s s' (Admit at row length handle) a b c d = absurd (a at row length handle refl)
running_else s s' (Release at) a b c d = absurd (b at refl)
running_else s s' (Exchange at row length handle) a b c d = absurd (c at row length handle refl)
running_else s s' (Reading row position target) a b c d = refl
running_else s s' Show a b c d = refl
running_else s s' Close a b c d = absurd (d refl)

pub closed_unsuited : (s : State) (command : Command) → NoReading command → (command ≡ Show → ⊥) → suits (closed s) command ≡ false
closed_unsuited s (SetRow row pace burst) a b = refl
closed_unsuited s Start a b = refl
closed_unsuited s (Admit at row length handle) a b = refl
closed_unsuited s (Release at) a b = refl
closed_unsuited s (Exchange at row length handle) a b = refl
closed_unsuited s (Reading row position target) a b = absurd (a row position target refl)
closed_unsuited s Show a b = absurd (b refl)
closed_unsuited s Close a b = refl
