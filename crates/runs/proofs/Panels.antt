-- What a panel's calls are to the readings that it holds.
use Rattle.std.proofs.Common.{ℕ, List, ℤ, Some, None, Ok, Err, Option, Result, sym, refl, ap}
use Rattle.records.specs.Readings.{stands, blank}
use Rattle.records.specs.declared.reading.Reading.{Reading}
use Rattle.queues.specs.Queues.{SameLimits, put_of}
use Rattle.queues.proofs.Over.{Reads, puts_over, takes_over}
use Rattle.panels.specs.Panels.{Offers, Shows}
use Rattle.panels.specs.declared.panel.fault.PanelFault.{PanelFault}

module _ {Q : Type 0} (held : Q → List Reading) (room slack : Q → ℕ) (q q' : Q) where
  before : Reads (λ h. h) (λ _. room q) (λ _. slack q) held room slack (held q) q
  before = record { held_is = refl; room_is = refl; slack_is = refl }

  after : SameLimits held room slack q q' → Reads (λ h. h) (λ _. room q) (λ _. slack q) held room slack (held q') q'
  after s = record { held_is = refl; room_is = sym s.room_stays; slack_is = sym s.slack_stays }

  pub offer_limits : (x : Reading) (r : Result (Option Reading) PanelFault) → Offers held room slack q x r q' → SameLimits held room slack q q'
  offer_limits x (Ok None) t = t.1.3
  offer_limits x (Ok (Some d)) t = t.1.3
  offer_limits x (Err e) t = record { room_stays = ap room t.2; slack_stays = ap slack t.2 }

  pub show_limits : (r : Result ℤ PanelFault) → Shows held room slack q r q' → SameLimits held room slack q q'
  show_limits (Ok n) t = t.leaves.1
  show_limits (Err e) t = record { room_stays = ap room t.2; slack_stays = ap slack t.2 }

  pub offers_over : (x : Reading) (r : Result (Option Reading) PanelFault) → Offers held room slack q x r q' → Offers (λ h. h) (λ _. room q) (λ _. slack q) (held q) x r (held q')
  offers_over x (Ok left) t =
      let b = after (offer_limits x (Ok left) t) in
      (t.0, puts_over (λ h. h) (λ _. room q) (λ _. slack q) held room slack (held q) (held q') q q' before b stands blank x (Ok (put_of left)) (ap held) t.1)
  offers_over x (Err e) t = (t.0, t.1, ap held t.2)

  pub shows_over : (r : Result ℤ PanelFault) → Shows held room slack q r q' → Shows (λ h. h) (λ _. room q) (λ _. slack q) (held q) r (held q')
  shows_over (Ok n) t =
      let b = after (show_limits (Ok n) t) in
      record { reading = t.reading; position = t.position; leaves = takes_over (λ h. h) (λ _. room q) (λ _. slack q) held room slack (held q) (held q') q q' before b (Ok t.reading) (ap held) t.leaves }
  shows_over (Err e) t = (t.0, t.1, ap held t.2)
