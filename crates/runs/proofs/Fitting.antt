-- A command prints no more lines than it has bytes.
use Rattle.std.proofs.Common.{◌≡◌, ℕ, ◌+◌, ◌≤◌, Bool, true, false, cond, eqb, leb, List, [], ◌∷◌, length, drop, ℤ, Some, None, Ok, Err, Option, Result, sym, refl, ◌∙◌, subst, arith, lit≤}
use Rattle.records.specs.declared.telegram.Telegram.{Telegram}
use Rattle.records.specs.declared.reading.Reading.{Reading}
use Rattle.shows.specs.Calls.{Limits}
use Rattle.shows.specs.declared.answer.Admission.{Admission}
use Rattle.shows.specs.declared.answer.Exchange.{Exchange}
use Rattle.shows.specs.declared.fault.ShowFault.{ShowFault}
use Rattle.panels.specs.declared.panel.fault.PanelFault.{PanelFault}
use Rattle.wire.specs.Bytes.{field}
use Rattle.wire.specs.Decoding.{read_of, found_by, found, width_of, command_of, signed_field}
use Rattle.wire.specs.declared.commands.Command.{Command}
use Rattle.wire.specs.declared.commands.Command.TheVariants as commands
use Rattle.wire.specs.declared.commands.Found.{Found}
use Rattle.buffers.specs.declared.faults.WireFault.{WireFault}
use Rattle.buffers.specs.declared.faults.WireFault.TheVariants.{Unknown, CutOff}
use Rattle.shows.specs.Histories.{admit, release, exchange}
use Rattle.runs.specs.Events.{Event, displaced_line, entry_lines, lines_of}
use Rattle.runs.specs.Runs.{Phase, offered, shown, Does, row_set, setting_refused, show_started, admit_called, release_called, exchange_called, show_closed, wrong_stage, reading_offered, figure_asked}

-- the lines that a command prints at most
abbrev most_lines : Command → ℕ
most_lines (commands.SetRow row pace burst) = 1
most_lines commands.Start = 1
most_lines (commands.Admit at row length handle) = 2
most_lines (commands.Release at) = 1
most_lines (commands.Exchange at row length handle) = 2
most_lines (commands.Reading row position target) = 1
most_lines commands.Show = 1
most_lines commands.Close = 1

-- ---- in bytes

-- the command that was found is the one of its command byte
found_is : (p : Bool) (g f : Found) → cond p (Ok (Some g)) (Err CutOff) ≡ Ok (Some f) → g ≡ f
found_is true g f e = cc
found_is false g f e = let z : ◌≡◌ {A = ℕ} 0 1 = cc in absurd (omega arith)

fits : (p : Bool) (g f : Found) → most_lines g.command ≤ g.taken → cond p (Ok (Some g)) (Err CutOff) ≡ Ok (Some f) → most_lines f.command ≤ f.taken
fits p g f h e = subst (λ v. most_lines v.command ≤ v.taken) (found_is p g f e) h

-- so many operand bytes after the command byte of a command
abbrev as_found : Command → Option ℕ → List ℕ → Result (Option Found) WireFault
as_found c None bs = Err Unknown
as_found c (Some w) bs = cond (leb (1 + w) (length bs)) (Ok (Some (found c (1 + w)))) (Err CutOff)

is_found : (b : ℕ) (w : Option ℕ) (bs : List ℕ) → found_by b w bs ≡ as_found (command_of b bs) w bs
is_found b None bs = refl
is_found b (Some w) bs = refl

by_tests : (p₁ p₂ p₃ p₄ p₅ p₆ p₇ p₈ : Bool) (bs : List ℕ) (f : Found)
    → as_found
    (cond p₁ (commands.SetRow (field bs 1 1) (field bs 2 2) (field bs 4 4)) (cond p₂ commands.Start
    (cond p₃ (commands.Admit (field bs 1 8) (field bs 9 1) (field bs 10 2) (field bs 12 4)) (cond p₄ (commands.Release (field bs 1 8))
    (cond p₅ (commands.Exchange (field bs 1 8) (field bs 9 1) (field bs 10 2) (field bs 12 4))
    (cond p₆ (commands.Reading (field bs 1 1) (signed_field bs 2) (signed_field bs 6)) (cond p₇ commands.Show commands.Close)))))))
    (cond p₁ (Some 7) (cond p₂ (Some 0) (cond p₃ (Some 15) (cond p₄ (Some 8) (cond p₅ (Some 15) (cond p₆ (Some 9) (cond p₇ (Some 0) (cond p₈ (Some 0) None))))))))
    bs ≡ Ok (Some f)
    → most_lines f.command ≤ f.taken
by_tests true p₂ p₃ p₄ p₅ p₆ p₇ p₈ bs f e = fits (leb 8 (length bs)) _ f (lit≤ tt) e
by_tests false true p₃ p₄ p₅ p₆ p₇ p₈ bs f e = fits (leb 1 (length bs)) _ f (lit≤ tt) e
by_tests false false true p₄ p₅ p₆ p₇ p₈ bs f e = fits (leb 16 (length bs)) _ f (lit≤ tt) e
by_tests false false false true p₅ p₆ p₇ p₈ bs f e = fits (leb 9 (length bs)) _ f (lit≤ tt) e
by_tests false false false false true p₆ p₇ p₈ bs f e = fits (leb 16 (length bs)) _ f (lit≤ tt) e
by_tests false false false false false true p₇ p₈ bs f e = fits (leb 10 (length bs)) _ f (lit≤ tt) e
by_tests false false false false false false true p₈ bs f e = fits (leb 1 (length bs)) _ f (lit≤ tt) e
by_tests false false false false false false false true bs f e = fits (leb 1 (length bs)) _ f (lit≤ tt) e
by_tests false false false false false false false false bs f e = let z : ◌≡◌ {A = ℕ} 0 1 = cc in absurd (omega arith)

bytes_fit : (bs : List ℕ) (f : Found) → read_of bs ≡ Ok (Some f) → most_lines f.command ≤ f.taken
bytes_fit [] f e = let z : ◌≡◌ {A = ℕ} 0 1 = cc in absurd (omega arith)
bytes_fit (b ∷ bs) f e =
    by_tests (eqb b 1) (eqb b 2) (eqb b 3) (eqb b 4) (eqb b 5) (eqb b 6) (eqb b 7) (eqb b 8) (b ∷ bs) f (sym (is_found b (width_of b) (b ∷ bs)) ∙ e)

-- ---- in lines

one_displaced : (d : Option Telegram) → length (displaced_line d) ≤ 1
one_displaced None = lit≤ tt
one_displaced (Some d) = lit≤ tt

admit_fits : (place at row bytes handle : ℕ) (r : Result Admission ShowFault) → length (entry_lines place (admit at row bytes handle r)) ≤ 2
admit_fits place at row bytes handle (Ok a) = omega (arith, one_displaced a.displaced)
admit_fits place at row bytes handle (Err e) = lit≤ tt

release_fits : (place at : ℕ) (r : Result Telegram ShowFault) → length (entry_lines place (release at r)) ≤ 1
release_fits place at (Ok t) = lit≤ tt
release_fits place at (Err e) = lit≤ tt

exchange_fits : (place at row bytes handle : ℕ) (r : Result Exchange ShowFault) → length (entry_lines place (exchange at row bytes handle r)) ≤ 2
exchange_fits place at row bytes handle (Ok a) = lit≤ tt
exchange_fits place at row bytes handle (Err e) = lit≤ tt

offered_fits : (place : ℕ) (r : Result (Option Reading) PanelFault) → length (lines_of (place, offered r)) ≤ 1
offered_fits place (Ok x) = lit≤ tt
offered_fits place (Err e) = lit≤ tt

shown_fits : (place : ℕ) (r : Result ℤ PanelFault) → length (lines_of (place, shown r)) ≤ 1
shown_fits place (Ok x) = lit≤ tt
shown_fits place (Err e) = lit≤ tt

-- every command may print one line
one_line : (c : Command) → 1 ≤ most_lines c
one_line (commands.SetRow row pace burst) = lit≤ tt
one_line commands.Start = lit≤ tt
one_line (commands.Admit at row length handle) = lit≤ tt
one_line (commands.Release at) = lit≤ tt
one_line (commands.Exchange at row length handle) = lit≤ tt
one_line (commands.Reading row position target) = lit≤ tt
one_line commands.Show = lit≤ tt
one_line commands.Close = lit≤ tt

lines_fit : {l pl : Limits} {phase phase' : Phase} {now now' : List Reading} {command : Command} {event : Event} (place : ℕ)
    → Does l pl phase now command event phase' now' → length (lines_of (place, event)) ≤ most_lines command
lines_fit place (row_set none p b) = lit≤ tt
lines_fit place (setting_refused by) = lit≤ tt
lines_fit place show_started = lit≤ tt
lines_fit place (admit_called {at = at} {row = row} {length = bytes} {handle = handle} {r = r} step) = admit_fits place at row bytes handle r
lines_fit place (release_called {at = at} {r = r} step) = release_fits place at r
lines_fit place (exchange_called {at = at} {row = row} {length = bytes} {handle = handle} {r = r} step) = exchange_fits place at row bytes handle r
lines_fit place show_closed = lit≤ tt
lines_fit place (wrong_stage {command = command} unfit) = one_line command
lines_fit place (reading_offered x r p q t offers) = offered_fits place r
lines_fit place (figure_asked r shows) = shown_fits place r

-- the lines of a command that was read and done are no more than its bytes
pub does_fit : {l pl : Limits} {phase phase' : Phase} {now now' : List Reading} {event : Event} (bytes : List ℕ) (place : ℕ) (f : Found)
    → Does l pl phase now f.command event phase' now' → read_of (drop place bytes) ≡ Ok (Some f) → length (lines_of (place, event)) ≤ f.taken
does_fit bytes place f does read = omega (arith, lines_fit place does, bytes_fit (drop place bytes) f read)
