use Rattle.std.proofs.Common.{◌≡◌, take, vec_items}
use Rattle.std.specs.List.{flat_map}
use Rattle.wire.specs.Lines.{text_of}
use Rattle.lines.proofs.list.list_text.Given as goal

abbrev pub invariant-loop-line : goal.invariant-loop-line
invariant-loop-line l = vec_items l.text ≡ flat_map text_of (take l.line-index l.lines)
