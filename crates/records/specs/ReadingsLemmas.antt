-- Readings stand in a total order.
use Rattle.std.specs.Prelude.{◌≡◌, true}
use Rattle.std.proofs.Common.{rules}
use mathlib.Core.HLevel.{is_prop→PathP}
use denote.Struct.Props.{props}
use Rattle.records.specs.Linear.{Linear}
use Rattle.records.specs.Readings.{distance, fields, key, stands, blank}
use Rattle.records.specs.declared.reading.Reading.{Reading, fits-type}
use Rattle.records.specs.Orders.{nat_linear, int_linear, flip_linear, lex_linear, by_key}

fits_prop : (a b c : _) → IsProp (fits-type a b c)
fits_prop a b c = hlevel props

-- readings with equal fields are equal: that they fit has one proof
pub same : (x y : Reading) → fields x ≡ fields y → x ≡ y
same x y e =
    λ i. record { row = (e i).0; position = (e i).1.0; target = (e i).1.1; fits = is_prop→PathP (λ j. fits-type (e j).0 (e j).1.0 (e j).1.1) (λ j. fits_prop (e j).0 (e j).1.0 (e j).1.1) x.fits y.fits i }

pub linear : Linear stands
linear = by_key key (λ x y e. same x y (λ i. (e i).1)) (lex_linear (flip_linear nat_linear) (lex_linear nat_linear (lex_linear int_linear int_linear)))

-- no reading stands after the blank
pub ends : (x : Reading) → stands x blank ≡ true
unfolding distance
ends x = search rules
