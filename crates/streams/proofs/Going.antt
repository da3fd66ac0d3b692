-- A stream that is played goes on by one command.
use Rattle.std.proofs.Common.{◌≡◌, ℕ, ◌+◌, List, [], ◌∷◌, ◌++◌, Some, Ok, Result, sym, refl, ap, ◌∙◌, subst}
use Rattle.records.specs.declared.telegram.Telegram.{Telegram}
use Rattle.records.specs.declared.reading.Reading.{Reading}
use Rattle.shows.specs.Calls.{Limits, State}
use Rattle.shows.specs.Histories.{unset_rows}
use Rattle.panels.specs.declared.panel.Panel.{Panel}
use Rattle.wire.specs.declared.commands.Found.{Found}
use Rattle.wire.specs.declared.lines.Line.TheVariants.{Heading}
use Rattle.runs.specs.Runs.{Phase, rigging}
use Rattle.runs.specs.Lists.{Reached}
use Rattle.runs.specs.declared.fault.StreamFault.{StreamFault}
use Rattle.runs.proofs.Going.{event_more, first_reached}
use Rattle.streams.specs.Places.{StandsAt}
use Rattle.streams.specs.Printing.{lines_at}
use Rattle.streams.specs.Stages.{limits_at, Did}
use Rattle.streams.specs.Playing.{Stands, PlayedOn}
use Rattle.streams.specs.declared.playing.Playing.{Playing}
use Rattle.streams.specs.declared.printed.Printed.{Printed}

module _ {P : Type 0} (held : P → List Reading) (room slack : P → ℕ) where
  -- before the first byte
  pub stands_first : (l : Limits) (x : Playing P) (h : List Telegram) → x.place ≡ 0 → x.lines.items ≡ Heading ∷ [] → Stands held room slack l x h (held x.panel.queue) (rigging unset_rows h)
  stands_first l x h place lines =
      let pl = limits_at room slack x.panel.queue in
      let rs = held x.panel.queue in
      subst (λ v. Reached l pl x.bytes.now h rs v (rigging unset_rows h) rs x.lines.items) (sym place) (first_reached l pl x.bytes.now h rs (rigging unset_rows h) x.lines.items refl lines)

  module _ (l : Limits) (x y : Playing P) (f : Found) (answer : Result Printed StreamFault) (there : StandsAt x.bytes.now x.place (Ok (Some f))) (same : y.bytes ≡ x.bytes) (at : y.place ≡ x.place + f.taken) (grows : y.lines.items ≡ x.lines.items ++ lines_at x.place answer) where
    -- the command that stands there was done, and its lines are printed
    pub goes_on : (phase phase' : Phase) → Did l (limits_at room slack x.panel.queue) phase (held x.panel.queue) f.command answer phase' (held y.panel.queue)
        → limits_at room slack y.panel.queue ≡ limits_at room slack x.panel.queue
        → (h : List Telegram) (rs : List Reading) → Stands held room slack l x h rs phase → Stands held room slack l y h rs phase'
    goes_on phase phase' did limits h rs r =
        let pl = limits_at room slack x.panel.queue in
        let now' = held y.panel.queue in
        let more = event_more l pl x.bytes.now h rs x.place phase (held x.panel.queue) x.lines.items f phase' now' y.lines.items did.event r there.0 did.does (grows ∙ ap (λ v. x.lines.items ++ v) (did.prints x.place)) in
        subst (λ v. Reached l v y.bytes.now h rs y.place phase' now' y.lines.items) (sym limits)
        (subst (λ v. Reached l pl v.now h rs y.place phase' now' y.lines.items) (sym same)
        (subst (λ v. Reached l pl x.bytes.now h rs v phase' now' y.lines.items) (sym at) more))

    -- so was one of a stage, by limits that are still the same
    pub stage_goes_on : (x0 : Playing P) (phase0 phase phase' : State → Phase) (l₁ : Limits) (panel : Panel P) → PlayedOn held room slack l x0 phase0 x phase → l₁ ≡ l
        → ((s : State) → Did l₁ (limits_at room slack x.panel.queue) (phase s) (held x.panel.queue) f.command answer (phase' s) (held panel.queue))
        → limits_at room slack panel.queue ≡ limits_at room slack x.panel.queue → y.panel ≡ panel
        → PlayedOn held room slack l x0 phase0 y phase'
    stage_goes_on x0 phase0 phase phase' l₁ panel on same-limits did stays is =
        let limits : limits_at room slack y.panel.queue ≡ limits_at room slack x.panel.queue = ap (λ v. limits_at room slack v.queue) is ∙ stays in
        let done : (s : State) → Did l (limits_at room slack x.panel.queue) (phase s) (held x.panel.queue) f.command answer (phase' s) (held y.panel.queue)
        = λ s. subst (λ v. Did l (limits_at room slack x.panel.queue) (phase s) (held x.panel.queue) f.command answer (phase' s) (held v.queue)) (sym is) (subst (λ v. Did v (limits_at room slack x.panel.queue) (phase s) (held x.panel.queue) f.command answer (phase' s) (held panel.queue)) same-limits (did s)) in
        record {
          bytes = same ∙ on.bytes;
          limits = limits ∙ on.limits;
          leads = λ s h rs r. goes_on (phase s) (phase' s) (done s) limits h rs (on.leads s h rs r);
        }
