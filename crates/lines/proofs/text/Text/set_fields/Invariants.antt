use Rattle.std.proofs.Common.{◌≡◌, ◌+◌, ◌*◌, ◌≤◌, ◌∷◌, length, map, take}
use Rattle.std.specs.List.{flat_map}
use Rattle.wire.specs.Lines.{spaced}
use Rattle.lines.specs.Fields.{field_text}
use Rattle.lines.proofs.text.Text.set_fields.Given as goal

abbrev pub invariant-loop-field : goal.invariant-loop-field
invariant-loop-field l = (l.self ≡ l.letter ∷ flat_map spaced (map field_text (take l.field-index l.fields))) × (length l.self ≤ 1 + 22 * l.field-index)
