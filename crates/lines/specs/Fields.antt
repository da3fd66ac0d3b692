-- The texts of the fields of a line.
use Rattle.std.specs.Prelude.{ℕ, List, [], ◌∷◌, decimal}
use Rattle.std.specs.Fmt.{signed_decimal}
use Rattle.lines.specs.declared.fields.Field.{Field}
use Rattle.lines.specs.declared.fields.Field.TheVariants.{Number, Signed, Letter}

-- a number in decimal digits, after a minus sign if it is negative, or a letter
abbrev pub field_text : Field → List ℕ
field_text (Number number) = decimal number
field_text (Signed number) = signed_decimal number
field_text (Letter letter) = letter ∷ []
