-- The text of a line of a release list.
use Rattle.std.specs.Prelude.{ℕ, List, [], ◌∷◌, ◌++◌, codes, decimal}
use Rattle.std.specs.List.{flat_map}
use Rattle.std.specs.Fmt.{signed_decimal}
use Rattle.wire.specs.declared.lines.Line.{Line}
use Rattle.wire.specs.declared.lines.Line.TheVariants.{Heading, Accepted, Displaced, Departed, Figure, Totals, Refused}
use Rattle.buffers.specs.Layers.{letter_of}

-- a field after one space
abbrev pub spaced : List ℕ → List ℕ
spaced field = 32 ∷ field

-- a letter, each field after one space, and a line feed
abbrev pub line_of : ℕ → List (List ℕ) → List ℕ
line_of letter fields = letter ∷ (flat_map spaced fields ++ (10 ∷ []))

-- the text of a line: a heading, or a line that begins with A, X, D, P, T or R
abbrev pub text_of : Line → List ℕ
text_of Heading = codes "hall list 1" ++ (10 ∷ [])
text_of (Accepted number row release) = line_of 65 (decimal number ∷ decimal row ∷ decimal release ∷ [])
text_of (Displaced number row) = line_of 88 (decimal number ∷ decimal row ∷ [])
text_of (Departed number row at) = line_of 68 (decimal number ∷ decimal row ∷ decimal at ∷ [])
text_of (Figure figure) = line_of 80 (signed_decimal figure ∷ [])
text_of (Totals accepted departed displaced held) = line_of 84 (decimal accepted ∷ decimal departed ∷ decimal displaced ∷ decimal held ∷ [])
text_of (Refused number layer place) = line_of 82 (decimal number ∷ (letter_of layer ∷ []) ∷ decimal place ∷ [])
