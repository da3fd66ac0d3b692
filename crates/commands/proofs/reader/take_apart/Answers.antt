use Rattle.std.proofs.Common.{◌≡◌, ◌≤◌, length, get_or, refl, ap, arith, w32, to_z, of_z, rules, ltb-false}
use Rattle.wire.specs.declared.commands.Command.TheVariants.{Release, Reading}
use Rattle.commands.proofs.Apart.{apart, time_is, reading_is}
use Rattle.commands.proofs.reader.take_apart.Goals as goal

pub returns-in-4-clause-answer : goal.returns-in-4-clause-answer
returns-in-4-clause-answer c =
    let n : 9 ≤ length c.args.bytes.now = omega (arith, ltb-false) in
    let op : get_or c.args.bytes.now 0 0 ≡ 4 = search rules in
    apart c.args.bytes.now 4 8 (Release c.from_be_bytes-at.result) refl n op (ap Release (time_is c.args.bytes.now c.from_be_bytes-at.result n c.from_be_bytes-at.ensures))

pub returns-in-6-clause-answer : goal.returns-in-6-clause-answer
returns-in-6-clause-answer c =
    let n : 10 ≤ length c.args.bytes.now = omega (arith, ltb-false) in
    let op : get_or c.args.bytes.now 0 0 ≡ 6 = search rules in
    apart c.args.bytes.now 6 9 (Reading (get_or c.args.bytes.now 1 0) (to_z w32 (of_z w32 c.from_be_bytes-position.result)) (to_z w32 (of_z w32 c.from_be_bytes-target.result))) refl n op
    (reading_is c.args.bytes.now (λ i. (c.type_inv.bytes i).fits) c.from_be_bytes-position.result c.from_be_bytes-target.result n c.from_be_bytes-position.ensures c.from_be_bytes-target.ensures)
