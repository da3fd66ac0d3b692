use Rattle.std.proofs.Common.{◌≡◌, get_or, refl, rules}
use Rattle.wire.specs.declared.commands.Command.TheVariants.{Admit, Exchange}
use Rattle.commands.proofs.Apart.{late_apart}
use Rattle.commands.proofs.reader.take_admission.Goals as goal

pub returns-then-byte-eq3-clause-answer : goal.returns-then-byte-eq3-clause-answer
returns-then-byte-eq3-clause-answer c =
    let op : get_or c.args.bytes.now 0 0 ≡ 3 = search rules in
    late_apart c.args.bytes.now 3 Admit c.from_be_bytes-at.result c.from_be_bytes-length.result c.from_be_bytes-handle.result refl refl c.requires.room op
    c.from_be_bytes-at.ensures c.from_be_bytes-length.ensures c.from_be_bytes-handle.ensures

pub returns-clause-answer : goal.returns-clause-answer
returns-clause-answer c =
    let op : get_or c.args.bytes.now 0 0 ≡ 5 = search rules in
    late_apart c.args.bytes.now 5 Exchange c.from_be_bytes-at.result c.from_be_bytes-length.result c.from_be_bytes-handle.result refl refl c.requires.room op
    c.from_be_bytes-at.ensures c.from_be_bytes-length.ensures c.from_be_bytes-handle.ensures
