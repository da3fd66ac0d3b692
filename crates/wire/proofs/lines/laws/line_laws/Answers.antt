use Rattle.wire.proofs.Distinct.{short_texts, fed_texts, one_text}
use Rattle.wire.proofs.lines.laws.line_laws.Goals as goal

pub returns : goal.returns
returns c = record { short = short_texts; feed = fed_texts; apart = one_text }
