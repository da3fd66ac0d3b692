-- A stage that ends, by a command that leads on or with the stream.
use Rattle.std.proofs.Common.{◌≡◌, ℕ, ◌+◌, ◌≤◌, List, [], ◌∷◌, ◌++◌, length, Some, None, Ok, Err, Option, Result, sym, ap, ◌∙◌, subst, append-nil}
use Rattle.std.specs.List.{flat_map}
use Rattle.std.proofs.lemmas.List.{flat_map_more}
use Rattle.records.specs.declared.telegram.Telegram.{Telegram}
use Rattle.records.specs.declared.reading.Reading.{Reading}
use Rattle.shows.specs.Calls.{Limits, State}
use Rattle.shows.specs.Histories.{unset_rows}
use Rattle.wire.specs.declared.commands.Command.{Command}
use Rattle.wire.specs.declared.commands.Found.{Found}
use Rattle.buffers.specs.declared.faults.WireFault.{WireFault}
use Rattle.wire.specs.declared.lines.Line.TheVariants.{Heading}
use Rattle.runs.specs.Events.{Event, refuses, lines_of}
use Rattle.runs.specs.Runs.{Phase, rigging, held_in}
use Rattle.runs.specs.Lists.{longest, through, faulted, Played, Lists, played}
use Rattle.runs.specs.declared.fault.StreamFault.{StreamFault}
use Rattle.runs.specs.declared.fault.StreamFault.TheVariants.{Wire}
use Rattle.runs.proofs.Going.{ends}
use Rattle.streams.specs.Places.{StandsAt}
use Rattle.streams.specs.Printing.{lines_at}
use Rattle.streams.specs.Stages.{limits_at, Did}
use Rattle.streams.specs.Playing.{Halts, last_lines, Stands, PlayedOn, Leaves}
use Rattle.streams.specs.declared.playing.Playing.{Playing}
use Rattle.streams.specs.declared.printed.Printed.{Printed}
use Rattle.streams.specs.declared.run.Listed.{Listed}
use Rattle.streams.proofs.Going.{stands_first, goes_on}

module _ {Q P : Type 0} (held : Q → List Telegram) (room slack : Q → ℕ) (held-panel : P → List Reading) (room-panel slack-panel : P → ℕ) (l : Limits) (x : Playing P) (r : Listed Q P) where
  module _ (phase phase' : State → Phase) (y : Playing P) (on : PlayedOn held-panel room-panel slack-panel l x phase y phase') (s : State) where
    abbrev pl : Limits
    pl = limits_at room-panel slack-panel y.panel.queue

    -- no command leads on: the run is at its end
    module _ (ending : Option Command) (holds : held r.queue ≡ held_in (phase' s)) (readings : r.readings ≡ y.panel.queue) where
      ended_played : (fault : Option WireFault) → Halts ending y.bytes.now y.place (Err fault) → r.lines.items ≡ y.lines.items ++ last_lines y.place fault
          → (h : List Telegram) (rs : List Reading) → Stands held-panel room-panel slack-panel l y h rs (phase' s) → Played l pl y.bytes.now h rs r.lines.items (held r.queue) (held-panel y.panel.queue)
      ended_played None halts listed h rs at =
          ends l pl y.bytes.now h rs (phase' s) (held-panel y.panel.queue) y.lines.items r.lines.items (held r.queue) y.place at holds [] (through halts) (listed ∙ append-nil y.lines.items ∙ at.listed ∙ ap (λ v. Heading ∷ flat_map lines_of v) (sym (append-nil at.events)))
      ended_played (Some e) halts listed h rs at =
          let last : ℕ × Event = (y.place, refuses (Wire e)) in
          ends l pl y.bytes.now h rs (phase' s) (held-panel y.panel.queue) y.lines.items r.lines.items (held r.queue) y.place at holds (last ∷ []) (faulted halts.0) (listed ∙ ap (λ v. v ++ lines_of last) at.listed ∙ flat_map_more lines_of (Heading ∷ []) at.events last)

      pub ends_here : (fault : Option WireFault) → Halts ending y.bytes.now y.place (Err fault) → r.lines.items ≡ y.lines.items ++ last_lines y.place fault
          → limits_at room slack r.queue ≡ l → Leaves held room slack held-panel room-panel slack-panel l x (phase s) r
      ends_here fault halts listed limits = record {
        played = λ h rs at.
            subst (λ v. Played l v x.bytes.now h rs r.lines.items (held r.queue) (held-panel r.readings)) on.limits
            (subst (λ v. Played l pl v.now h rs r.lines.items (held r.queue) (held-panel r.readings)) on.bytes
            (subst (λ v. Played l pl y.bytes.now h rs r.lines.items (held r.queue) (held-panel v)) (sym readings) (ended_played fault halts listed h rs (on.leads s h rs at))));
        limits = limits;
        panel = ap (limits_at room-panel slack-panel) readings ∙ on.limits;
      }

    -- the command that ends the stage is done, and the run goes on
    pub leads_over : (z : Playing P) (phase'' : Phase) (f : Found) (answer : Result Printed StreamFault) (command : Command)
        → StandsAt y.bytes.now y.place (Ok (Some f)) × (Some f.command ≡ Some command)
        → Did l pl (phase' s) (held-panel y.panel.queue) command answer phase'' (held-panel y.panel.queue)
        → z.bytes ≡ y.bytes → z.place ≡ y.place + f.taken → z.panel ≡ y.panel → z.lines.items ≡ y.lines.items ++ lines_at y.place answer
        → Leaves held room slack held-panel room-panel slack-panel l z phase'' r
        → Leaves held room slack held-panel room-panel slack-panel l x (phase s) r
    leads_over z phase'' f answer command halts did bytes place panel lines later =
        let is : Some f.command ≡ Some command = halts.1 in
        let same : f.command ≡ command = cc in
        let limits : limits_at room-panel slack-panel z.panel.queue ≡ pl = ap (λ v. limits_at room-panel slack-panel v.queue) panel in
        let done : Did l pl (phase' s) (held-panel y.panel.queue) f.command answer phase'' (held-panel z.panel.queue)
        = subst (λ v. Did l pl (phase' s) (held-panel y.panel.queue) v answer phase'' (held-panel z.panel.queue)) (sym same) (subst (λ v. Did l pl (phase' s) (held-panel y.panel.queue) command answer phase'' (held-panel v.queue)) (sym panel) did) in
        record {
          played = λ h rs at.
              let there = goes_on held-panel room-panel slack-panel l y z f answer halts.0 bytes place lines (phase' s) phase'' done limits h rs (on.leads s h rs at) in
              subst (λ v. Played l v x.bytes.now h rs r.lines.items (held r.queue) (held-panel r.readings)) (limits ∙ on.limits)
              (subst (λ v. Played l (limits_at room-panel slack-panel z.panel.queue) v.now h rs r.lines.items (held r.queue) (held-panel r.readings)) (bytes ∙ on.bytes) (later.played h rs there));
          limits = later.limits;
          panel = later.panel ∙ limits ∙ on.limits;
        }

  -- a stream that was played from its first byte on
  pub lists_all : (bytes : List ℕ) (readings : P) (h : List Telegram) → x.bytes.now ≡ bytes → x.place ≡ 0 → x.panel.queue ≡ readings → x.lines.items ≡ Heading ∷ [] → length bytes ≤ longest
      → Leaves held room slack held-panel room-panel slack-panel l x (rigging unset_rows h) r
      → Lists l (limits_at room-panel slack-panel readings) bytes h (held-panel readings) r.lines.items (held r.queue) (held-panel r.readings)
  lists_all bytes readings h is place panel lines short leaves =
      let p = leaves.played h (held-panel x.panel.queue) (stands_first held-panel room-panel slack-panel l x h place lines) in
      played short
      (subst (λ v. Played l (limits_at room-panel slack-panel v) bytes h (held-panel v) r.lines.items (held r.queue) (held-panel r.readings)) panel
      (subst (λ v. Played l (limits_at room-panel slack-panel x.panel.queue) v h (held-panel x.panel.queue) r.lines.items (held r.queue) (held-panel r.readings)) is p))
