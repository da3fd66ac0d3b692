-- What the texts of lines are like.
use Rattle.std.specs.Prelude.{◌≡◌, ℕ, ◌^◌, ◌<◌, ◌≤◌, List, [], ◌∷◌, ◌++◌, length, FitsSigned, ◌≢◌}
use Rattle.std.specs.Int.{w32}
use Rattle.std.specs.List.{AllByRecursion}
use Rattle.wire.specs.declared.lines.Line.{Line}
use Rattle.wire.specs.declared.lines.Line.TheVariants.{Heading, Accepted, Displaced, Departed, Figure, Totals, Refused}
use Rattle.wire.specs.Lines.{text_of}

-- each number of a line fits its type
abbrev pub LineFits : Line → Type 0
LineFits Heading = Unit {0}
LineFits (Accepted number row release) = (number < 2 ^ 32) × (row < 2 ^ 8) × (release < 2 ^ 64)
LineFits (Displaced number row) = (number < 2 ^ 32) × (row < 2 ^ 8)
LineFits (Departed number row at) = (number < 2 ^ 32) × (row < 2 ^ 8) × (at < 2 ^ 64)
LineFits (Figure figure) = FitsSigned w32 figure
LineFits (Totals accepted departed displaced held) = (accepted < 2 ^ 32) × (departed < 2 ^ 32) × (displaced < 2 ^ 32) × (held < 2 ^ 32)
LineFits (Refused number layer place) = (number < 2 ^ 8) × (place < 2 ^ 32)

-- no text is longer than the least buffer
abbrev pub ShortTexts : Type 0
ShortTexts = (l : Line) → LineFits l → length (text_of l) ≤ 96

-- a text that has one line feed, at its end
abbrev pub OneFeed : List ℕ → Type 0
OneFeed text = (body : List ℕ) × (text ≡ body ++ (10 ∷ [])) × AllByRecursion (λ b. b ≢ 10) body

-- each text has one line feed, at its end
abbrev pub FedTexts : Type 0
FedTexts = (l : Line) → LineFits l → OneFeed (text_of l)

-- different lines have different texts
abbrev pub OneText : Type 0
OneText = (l m : Line) → LineFits l → LineFits m → text_of l ≡ text_of m → l ≡ m
