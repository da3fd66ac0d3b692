-- The words of each line, and the line that words tell: lines that differ have texts that differ.
use Rattle.std.proofs.Common.{◌≡◌, ℕ, suc, ◌+◌, ◌-◌, ◌*◌, ◌^◌, ◌<◌, ◌≤◌, false, cond, eqb, List, [], ◌∷◌, ◌++◌, length, get_or, drop, ℤ, pos, negsuc, codes, decimal, sym, refl, ap, ◌∙◌, subst, arith, w32, SFits}
use Rattle.std.specs.Str.Parse.{digits_value}
use Rattle.std.specs.Fmt.{signed_decimal}
use Rattle.std.specs.List.{AllByRecursion}
use Rattle.std.proofs.lemmas.Fmt.{decimal_is_IsNumeral, decimal_nonempty}
use Rattle.std.proofs.ByRecursion.{All-get_or, All-weaker}
use Rattle.std.proofs.lemmas.List.{length-append}
use Rattle.std.proofs.lemmas.Bool.{ne_eqb, cond-false}
use Rattle.wire.specs.declared.lines.Line.{Line}
use Rattle.wire.specs.declared.lines.Line.TheVariants.{Heading, Accepted, Displaced, Departed, Figure, Totals, Refused}
use Rattle.buffers.specs.declared.layers.Layer.{Layer}
use Rattle.buffers.specs.declared.layers.Layer.TheVariants.{Show, Queue, Stream, Panel}
use Rattle.buffers.specs.Layers.{letter_of}
use Rattle.wire.specs.Lines.{text_of}
use Rattle.wire.specs.Texts.{LineFits, OneFeed, ShortTexts, FedTexts, OneText}
use Rattle.wire.proofs.Wording.{length_decimal, Plain, tail, tail_low, word_ends, same_words, decimal_digits, decimal_plain, signed_plain, length_signed, tail_length, one_feed}

-- the first word of a line
abbrev word : Line → List ℕ
word Heading = codes "hall"
word (Accepted number row release) = 65 ∷ []
word (Displaced number row) = 88 ∷ []
word (Departed number row at) = 68 ∷ []
word (Figure figure) = 80 ∷ []
word (Totals accepted departed displaced held) = 84 ∷ []
word (Refused number layer place) = 82 ∷ []

-- the other words of a line
abbrev others : Line → List (List ℕ)
others Heading = codes "list" ∷ codes "1" ∷ []
others (Accepted number row release) = decimal number ∷ decimal row ∷ decimal release ∷ []
others (Displaced number row) = decimal number ∷ decimal row ∷ []
others (Departed number row at) = decimal number ∷ decimal row ∷ decimal at ∷ []
others (Figure figure) = signed_decimal figure ∷ []
others (Totals accepted departed displaced held) = decimal accepted ∷ decimal departed ∷ decimal displaced ∷ decimal held ∷ []
others (Refused number layer place) = decimal number ∷ (letter_of layer ∷ []) ∷ decimal place ∷ []

text_is : (l : Line) → text_of l ≡ word l ++ tail (others l)
text_is Heading = refl
text_is (Accepted number row release) = refl
text_is (Displaced number row) = refl
text_is (Departed number row at) = refl
text_is (Figure figure) = refl
text_is (Totals accepted departed displaced held) = refl
text_is (Refused number layer place) = refl

letter_high : (y : Layer) → 32 < letter_of y
letter_high Show = omega arith
letter_high Queue = omega arith
letter_high Stream = omega arith
letter_high Panel = omega arith

-- a word that is a number: no space in it, and short
pub record Good (f : List ℕ) : Type 0 where
  pub plain : Plain f
  pub short : length f ≤ 20

number : (n : ℕ) → n < 2 ^ 64 → Good (decimal n)
number n lt = record { plain = decimal_plain n lt; short = length_decimal n lt }

word_plain : (l : Line) → Plain (word l)
word_plain Heading = (omega arith, (omega arith, (omega arith, (omega arith, tt))))
word_plain (Accepted n row release) = (omega arith, tt)
word_plain (Displaced n row) = (omega arith, tt)
word_plain (Departed n row at) = (omega arith, tt)
word_plain (Figure figure) = (omega arith, tt)
word_plain (Totals accepted departed displaced held) = (omega arith, tt)
word_plain (Refused n layer place) = (omega arith, tt)

others_good : (l : Line) → LineFits l → AllByRecursion Good (others l)
others_good Heading f =
    (record { plain = (omega arith, (omega arith, (omega arith, (omega arith, tt)))); short = omega arith }, (record { plain = (omega arith, tt); short = omega arith }, tt))
others_good (Accepted n row release) f = (number n (omega (arith, f.0)), (number row (omega (arith, f.1)), (number release f.2, tt)))
others_good (Displaced n row) f = (number n (omega (arith, f.0)), (number row (omega (arith, f.1)), tt))
others_good (Departed n row at) f = (number n (omega (arith, f.0)), (number row (omega (arith, f.1)), (number at f.2, tt)))
others_good (Figure figure) f = (record { plain = signed_plain figure f; short = length_signed figure f }, tt)
others_good (Totals accepted departed displaced held) f = (number accepted (omega (arith, f.0)), (number departed (omega (arith, f.1)), (number displaced (omega (arith, f.2)), (number held (omega (arith, f.3)), tt))))
others_good (Refused n layer place) f = (number n (omega (arith, f.0)), (record { plain = (letter_high layer, tt); short = omega arith }, (number place (omega (arith, f.1)), tt)))

others_plain : (l : Line) → LineFits l → AllByRecursion Plain (others l)
others_plain l f = All-weaker Good Plain (λ w g. g.plain) (others l) (others_good l f)

word_short : (l : Line) → length (word l) + 21 * length (others l) ≤ 95
word_short Heading = omega arith
word_short (Accepted n row release) = omega arith
word_short (Displaced n row) = omega arith
word_short (Departed n row at) = omega arith
word_short (Figure figure) = omega arith
word_short (Totals accepted departed displaced held) = omega arith
word_short (Refused n layer place) = omega arith

pub short_texts : ShortTexts
short_texts l f =
    omega
    (arith, ap length (text_is l), length-append (word l) (tail (others l)), word_short l, tail_length (others l) (All-weaker Good (λ w. length w ≤ 20) (λ w g. g.short) (others l) (others_good l f)))

pub fed_texts : FedTexts
fed_texts l f = subst OneFeed (sym (text_is l)) (one_feed (word l) (others l) (word_plain l) (others_plain l f))

-- the number that a word writes
abbrev read : List (List ℕ) → ℕ → ℕ
read fs i = digits_value 10 (get_or fs i [])

-- the signed number that a word writes
abbrev read_signed : List ℕ → ℤ
read_signed ds = cond (eqb (get_or ds 0 0) 45) (negsuc (digits_value 10 (drop 1 ds) - 1)) (pos (digits_value 10 ds))

-- the layer that a letter names
abbrev layer_by : ℕ → Layer
layer_by b = cond (eqb b 85) Show (cond (eqb b 81) Queue (cond (eqb b 83) Stream Panel))

-- the line that a first letter and the other words tell
abbrev line_by : ℕ → List (List ℕ) → Line
line_by b fs =
    cond (eqb b 65) (Accepted (read fs 0) (read fs 1) (read fs 2)) (cond (eqb b 88) (Displaced (read fs 0) (read fs 1))
    (cond (eqb b 68) (Departed (read fs 0) (read fs 1) (read fs 2)) (cond (eqb b 80) (Figure (read_signed (get_or fs 0 [])))
    (cond (eqb b 84) (Totals (read fs 0) (read fs 1) (read fs 2) (read fs 3))
    (cond (eqb b 82) (Refused (read fs 0) (layer_by (get_or (get_or fs 1 []) 0 0)) (read fs 2)) Heading)))))

reads : (n : ℕ) → n < 2 ^ 64 → digits_value 10 (decimal n) ≡ n
reads n lt = (decimal_is_IsNumeral n lt).1

no_minus : (n : ℕ) → n < 2 ^ 64 → eqb (get_or (decimal n) 0 0) 45 ≡ false
no_minus n lt =
    let h = All-get_or (λ b. 47 < b) (decimal n) 0 0 (decimal_nonempty n lt) (decimal_digits n lt) in
    ne_eqb (get_or (decimal n) 0 0) 45 (λ e. omega arith)

reads_signed : (z : ℤ) → SFits w32 z → read_signed (signed_decimal z) ≡ z
reads_signed (pos n) f =
    let lt : n < 2 ^ 64 = omega (arith, f.sfits) in
    cond-false (eqb (get_or (decimal n) 0 0) 45) (negsuc (digits_value 10 (drop 1 (decimal n)) - 1)) (pos (digits_value 10 (decimal n))) (no_minus n lt) ∙ ap pos (reads n lt)
reads_signed (negsuc n) f =
    let r = reads (suc n) (omega (arith, f.sfits)) in
    ap negsuc (omega arith)

layer_is : (y : Layer) → layer_by (letter_of y) ≡ y
layer_is Show = refl
layer_is Queue = refl
layer_is Stream = refl
layer_is Panel = refl

line_is : (l : Line) → LineFits l → line_by (get_or (word l) 0 0) (others l) ≡ l
line_is Heading f = refl
line_is (Accepted n row release) f =
    let a = reads n (omega (arith, f.0)) in let b = reads row (omega (arith, f.1)) in let d = reads release f.2 in cc
line_is (Displaced n row) f = let a = reads n (omega (arith, f.0)) in let b = reads row (omega (arith, f.1)) in cc
line_is (Departed n row at) f =
    let a = reads n (omega (arith, f.0)) in let b = reads row (omega (arith, f.1)) in let d = reads at f.2 in cc
line_is (Figure figure) f = ap Figure (reads_signed figure f)
line_is (Totals accepted departed displaced held) f =
    let a = reads accepted (omega (arith, f.0)) in
    let b = reads departed (omega (arith, f.1)) in
    let d = reads displaced (omega (arith, f.2)) in
    let e = reads held (omega (arith, f.3)) in
    cc
line_is (Refused n layer place) f =
    let a = reads n (omega (arith, f.0)) in let y = layer_is layer in let b = reads place (omega (arith, f.1)) in cc

pub one_text : OneText
one_text l m f g e =
    let split = word_ends (word l) (word m) (tail (others l)) (tail (others m)) (word_plain l) (word_plain m) (tail_low (others l)) (tail_low (others m)) (sym (text_is l) ∙ e ∙ text_is m) in
    let w = split.0 in
    let s = same_words (others l) (others m) (others_plain l f) (others_plain m g) split.1 in
    let x = line_is l f in
    let y = line_is m g in
    cc
