-- Telegrams stand in a total order.
use Rattle.std.specs.Prelude.{◌≡◌, true}
use Rattle.std.proofs.Common.{rules}
use mathlib.Core.HLevel.{is_prop→PathP}
use denote.Struct.Props.{props}
use Rattle.records.specs.Linear.{Linear}
use Rattle.records.specs.Telegrams.{key, stands, blank}
use Rattle.records.specs.declared.telegram.Telegram.{Telegram, fits-type}
use Rattle.records.specs.Orders.{nat_linear, lex_linear, by_key}

fits_prop : (a b c d e : _) → IsProp (fits-type a b c d e)
fits_prop a b c d e = hlevel props

-- telegrams with equal fields are equal: that they fit has one proof
pub same : (x y : Telegram) → key x ≡ key y → x ≡ y
same x y e =
    λ i. record { release = (e i).0; number = (e i).1.0; row = (e i).1.1.0; length = (e i).1.1.1.0; handle = (e i).1.1.1.1; fits = is_prop→PathP (λ j. fits-type (e j).0 (e j).1.0 (e j).1.1.0 (e j).1.1.1.0 (e j).1.1.1.1) (λ j. fits_prop (e j).0 (e j).1.0 (e j).1.1.0 (e j).1.1.1.0 (e j).1.1.1.1) x.fits y.fits i }

pub linear : Linear stands
linear = by_key key same (lex_linear nat_linear (lex_linear nat_linear (lex_linear nat_linear (lex_linear nat_linear nat_linear))))

-- no telegram stands after the blank
pub ends : (x : Telegram) → stands x blank ≡ true
ends x = search rules
