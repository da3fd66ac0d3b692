use Rattle.std.proofs.Common.{◌≡◌, ◌+◌, ◌++◌, length, take, decimal, ap, arith}
use Rattle.std.proofs.lemmas.List.{length-take-le, length-append}
use Rattle.wire.proofs.Wording.{length_decimal}
use Rattle.lines.proofs.Digits.{digits_follow}
use Rattle.lines.proofs.text.Text.push_decimal.Goals as goal

pub overflow_add-end : goal.overflow_add-end
overflow_add-end c = let e = c.digits_of.ensures in omega (arith, c.self.invariant, length_decimal c.args.number (omega arith))

pub write_digits-requires : goal.write_digits-requires
write_digits-requires c =
    let e = c.digits_of.ensures in
    let n = length_decimal c.args.number (omega arith) in
    let l = ap length c.self.view_is in
    let k = length-take-le c.self.inside.len c.self.inside.bytes (omega (arith, c.self.invariant, c.self.told)) in
    let r = c.requires in
    let t = c.self.told in
    (omega arith, omega arith)

pub returns : goal.returns
returns c =
    let e = c.digits_of.ensures in
    let n = length_decimal c.args.number (omega arith) in
    let l = ap length c.self.view_is in
    let k = length-take-le c.self.inside.len c.self.inside.bytes (omega (arith, c.self.invariant, c.self.told)) in
    let r = c.requires in
    let t = c.self.told in
    let w = c.write_digits.ensures in
    let start : c.write_digits.result ≡ c.self.inside.len = omega (arith, w.start) in
    let f = digits_follow c.write_digits.result (c.self.inside.len + c.digits_of.result) c.self.inside.bytes c.write_digits.new.buf (decimal c.args.number) w.start (omega arith) w.written w.before in
    let v = c.self.view_is in
    let m = length-append c.args.self.now (decimal c.args.number) in
    let text : take (c.self.inside.len + c.digits_of.result) c.write_digits.new.buf ≡ c.args.self.now ++ decimal c.args.number = cc in
    record { text = text; short = omega (arith, ap length text) }
