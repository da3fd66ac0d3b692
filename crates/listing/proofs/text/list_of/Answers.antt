use Rattle.std.proofs.Common.{◌≡◌, ℕ, List, [], IfOk, Ok, Err, vec_items, Result, refl, ap, ◌∙◌, subst}
use Rattle.std.specs.List.{flat_map}
use Rattle.records.specs.Telegrams.{stands}
use Rattle.records.specs.declared.reading.Reading.{Reading}
use Rattle.records.specs.declared.telegram.Telegram.{Telegram}
use Rattle.sides.specs.Sides.{side_held}
use Rattle.grouped.specs.Queues.{groups_held}
use Rattle.shows.specs.Calls.{Limits}
use Rattle.wire.specs.Lines.{text_of}
use Rattle.wire.specs.declared.lines.Line.{Line}
use Rattle.runs.proofs.Relying.{lists_readable}
use Rattle.runs.specs.Lists.{Lists}
use Rattle.listing.specs.Lists.{show_limits, panel_limits, Tells}
use Rattle.listing.proofs.text.list_of.Goals as goal

-- the queues are the cabinet's, and they hold nothing
over_empty : {l pl : Limits} {h : List Telegram} {rs : List Reading} (bytes : List ℕ) (lines : List Line) (held : List Telegram) (readings : List Reading)
    → l ≡ show_limits → pl ≡ panel_limits → h ≡ [] → rs ≡ [] → Lists l pl bytes h rs lines held readings → Lists show_limits panel_limits bytes [] [] lines held readings
over_empty {pl = pl} {h = h} {rs = rs} bytes lines held readings a b c d lists =
    subst (λ v. Lists show_limits panel_limits bytes [] v lines held readings) d
    (subst (λ v. Lists show_limits panel_limits bytes v rs lines held readings) c
    (subst (λ v. Lists show_limits v bytes h rs lines held readings) b (subst (λ v. Lists v pl bytes h rs lines held readings) a lists)))

told : {V E : Type 0} (items : V → List ℕ) (r : Result V E) (bytes : List ℕ) (lines shown : List Line) (held : List Telegram) (readings : List Reading)
    → Lists show_limits panel_limits bytes [] [] lines held readings → shown ≡ lines → IfOk r (λ v. items v ≡ flat_map text_of shown) → IfOk r (λ v. Tells bytes (items v))
told items (Ok v) bytes lines shown held readings lists is text = record { lines = lines; held = held; readings = readings; lists = lists; readable = lists_readable refl lists; text_is = text ∙ ap (flat_map text_of) is }
told items (Err e) bytes lines shown held readings lists is text = tt

pub returns : goal.returns
returns c =
    let bytes = c.args.bytes.now in
    let listed = c.in_ok-listed.listed in
    let lines = vec_items listed.lines in
    let held = side_held stands groups_held listed.queue in
    let left = groups_held listed.readings in
    let queue = c.in_ok-queue.ensures in
    let panel = c.in_ok-panel.ensures in
    let lists = c.in_ok-listed.ensures.lists in
    let over = over_empty bytes lines held left (λ i. record { capacity = queue.room i; slack = queue.slack i }) (λ i. record { capacity = panel.room i; slack = panel.slack i }) queue.none panel.none lists in
    told vec_items c.list_text.result bytes lines c.deref.result.now held left over c.deref.ensures.value c.list_text.ensures
