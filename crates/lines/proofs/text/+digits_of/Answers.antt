use Rattle.std.proofs.Common.{◌/◌, length, ap, arith}
use Rattle.std.proofs.lemmas.Fmt.{decimal_digit}
use Rattle.wire.proofs.Wording.{length_decimal}
use Rattle.lines.proofs.Digits.{length_step}
use Rattle.lines.proofs.text.+digits_of.Goals as goal

pub returns-then-number-lt10 : goal.returns-then-number-lt10
returns-then-number-lt10 t c = omega (arith, ap length (decimal_digit c.args.number (omega arith)))

pub overflow_add-result : goal.overflow_add-result
overflow_add-result t c = let e = c.digits_of.ensures in omega (arith, length_decimal (c.args.number / 10) (omega arith))

pub returns : goal.returns
returns t c = let e = c.digits_of.ensures in omega (arith, length_step c.args.number (omega arith) (omega arith))
