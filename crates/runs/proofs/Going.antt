-- A run goes on by one command, and stops.
use Rattle.std.proofs.Common.{◌≡◌, ℕ, ◌+◌, List, [], ◌∷◌, ◌++◌, drop, Some, Ok, sym, ap, ◌∙◌, subst}
use Rattle.std.specs.List.{flat_map}
use Rattle.std.proofs.lemmas.List.{flat_map_more}
use Rattle.records.specs.declared.telegram.Telegram.{Telegram}
use Rattle.records.specs.declared.reading.Reading.{Reading}
use Rattle.shows.specs.Calls.{Limits}
use Rattle.shows.specs.Histories.{unset_rows}
use Rattle.wire.specs.Decoding.{read_of}
use Rattle.wire.specs.declared.commands.Found.{Found}
use Rattle.wire.specs.declared.lines.Line.{Line}
use Rattle.wire.specs.declared.lines.Line.TheVariants.{Heading}
use Rattle.runs.specs.Events.{Event, lines_of}
use Rattle.runs.specs.Lists.{Reached, Stops, Played}
use Rattle.runs.specs.Readers.{Readable}
use Rattle.runs.specs.Runs.{Phase, rigging, held_in, Does, at_first, and_then}
use Rattle.runs.proofs.Leading.{ran_led, ran_reports, led_accounts}
use Rattle.runs.proofs.Relying.{readable}

module _ (l pl : Limits) (bytes : List ℕ) (held : List Telegram) (readings : List Reading) (place : ℕ) (phase : Phase) (now : List Reading) (lines : List Line) (f : Found) (phase' : Phase) (now' : List Reading) (lines' : List Line) where
  -- an event that was done, with its lines
  pub event_more : (event : Event) → Reached l pl bytes held readings place phase now lines → read_of (drop place bytes) ≡ Ok (Some f) → Does l pl phase now f.command event phase' now' → lines' ≡ lines ++ lines_of (place, event)
      → Reached l pl bytes held readings (place + f.taken) phase' now' lines'
  event_more event r read does grows = record {
    events = r.events ++ ((place, event) ∷ []);
    ran = and_then r.ran read does;
    listed = grows ∙ ap (λ v. v ++ lines_of (place, event)) r.listed ∙ flat_map_more lines_of (Heading ∷ []) r.events (place, event);
  }

-- a run that stops has told its history
module _ (l pl : Limits) (bytes : List ℕ) (held : List Telegram) (readings : List Reading) (phase : Phase) (now : List Reading) (lines lines' : List Line) (held' : List Telegram) (place : ℕ) (r : Reached l pl bytes held readings place phase now lines) (holds : held' ≡ held_in phase) where
  pub ends : (last : List (ℕ × Event)) → Stops bytes place last → lines' ≡ Heading ∷ flat_map lines_of (r.events ++ last) → Played l pl bytes held readings lines' held' now
  ends last stops listed = record {
    place = place;
    phase = phase;
    events = r.events;
    last = last;
    ran = r.ran;
    stops = stops;
    listed = listed;
    holds = holds;
    reports = ran_reports l pl r.ran;
    history = λ none. ran_led l pl none r.ran;
    accounts = λ none. led_accounts l phase _ _ (ran_led l pl none r.ran);
    readable = λ none. subst (λ v. Readable v held') (sym listed) (subst (Readable (Heading ∷ flat_map lines_of (r.events ++ last))) (sym holds) (readable l pl none r.ran last stops));
  }

-- before the first byte
pub first_reached : (l pl : Limits) (bytes : List ℕ) (held : List Telegram) (readings : List Reading) (phase : Phase) (lines : List Line) → phase ≡ rigging unset_rows held → lines ≡ Heading ∷ []
    → Reached l pl bytes held readings 0 phase readings lines
first_reached l pl bytes held readings phase lines is listed =
    subst (λ v. Reached l pl bytes held readings 0 v readings lines) (sym is) (record { events = []; ran = at_first; listed = listed })
