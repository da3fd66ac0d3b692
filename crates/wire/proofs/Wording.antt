-- A text as words, each but the first after a space, and a line feed.
use Rattle.std.proofs.Common.{◌≡◌, ℕ, suc, ◌+◌, ◌*◌, ◌%◌, ◌^◌, ◌<◌, ◌≤◌, List, [], ◌∷◌, ◌++◌, length, ℤ, pos, negsuc, decimal, sym, refl, ap, arith, w32, SFits}
use Rattle.std.specs.List.{flat_map, AllByRecursion}
use Rattle.std.specs.Fmt.{signed_decimal}
use Rattle.std.proofs.lemmas.Fmt.{decimal_by_steps, length-decimal-le}
use Rattle.std.proofs.ByRecursion.{All-push, All-weaker, All-append}
use Rattle.std.proofs.lemmas.List.{length-append, append_assoc}
use Rattle.wire.specs.Lines.{spaced}
use Rattle.wire.specs.Texts.{OneFeed}

pub length_decimal : (n : ℕ) → n < 2 ^ 64 → length (decimal n) ≤ 20
length_decimal n lt = length-decimal-le 20 n (omega arith) (omega arith) lt

-- no space and no line feed is among the bytes
abbrev pub Plain : List ℕ → Type 0
Plain bs = AllByRecursion (λ b. 32 < b) bs

-- what follows the first word
abbrev pub tail : List (List ℕ) → List ℕ
tail fs = flat_map spaced fs ++ (10 ∷ [])

-- the bytes begin with a space or a line feed
abbrev pub Low : List ℕ → Type 0
Low [] = ⊥
Low (b ∷ bs) = b ≤ 32

pub tail_low : (fs : List (List ℕ)) → Low (tail fs)
tail_low [] = omega arith
tail_low (f ∷ fs) = omega arith

tail_more : (f : List ℕ) (fs : List (List ℕ)) → tail (f ∷ fs) ≡ 32 ∷ (f ++ tail fs)
tail_more f fs = ap (λ x. 32 ∷ x) (append_assoc f (flat_map spaced fs) (10 ∷ []))

-- a word ends where a low byte stands
pub word_ends : (f g xs ys : List ℕ) → Plain f → Plain g → Low xs → Low ys → f ++ xs ≡ g ++ ys → (f ≡ g) × (xs ≡ ys)
word_ends [] [] xs ys p q l m e = (refl, e)
word_ends [] (b ∷ g) [] ys p q l m e = elim l [ ]
word_ends [] (b ∷ g) (x ∷ xs) ys p q l m e = let s : x ≡ b = cc in elim (let y : ⊥ = omega (arith, q.0) in y) [ ]
word_ends (a ∷ f) [] xs [] p q l m e = elim m [ ]
word_ends (a ∷ f) [] xs (y ∷ ys) p q l m e = let s : a ≡ y = cc in elim (let z : ⊥ = omega (arith, p.0) in z) [ ]
word_ends (a ∷ f) (b ∷ g) xs ys p q l m e =
    let s : a ≡ b = cc in
    let r = word_ends f g xs ys p.1 q.1 l m (cc) in
    let t = r.0 in
    (cc, r.1)

-- equal texts have equal words
pub same_words : (fs gs : List (List ℕ)) → AllByRecursion Plain fs → AllByRecursion Plain gs → tail fs ≡ tail gs → fs ≡ gs
same_words [] [] p q e = refl
same_words [] (g ∷ gs) p q e = let z : ◌≡◌ {A = ℕ} 10 32 = cc in elim (let y : ⊥ = omega arith in y) [ ]
same_words (f ∷ fs) [] p q e = let z : ◌≡◌ {A = ℕ} 32 10 = cc in elim (let y : ⊥ = omega arith in y) [ ]
same_words (f ∷ fs) (g ∷ gs) p q e =
    let a = tail_more f fs in
    let b = tail_more g gs in
    let r = word_ends f g (tail fs) (tail gs) p.0 q.0 (tail_low fs) (tail_low gs) (cc) in
    let t = r.0 in
    let u = same_words fs gs p.1 q.1 r.1 in
    cc

-- every byte of a number is a digit
pub decimal_digits : (n : ℕ) → n < 2 ^ 64 → AllByRecursion (λ b. 47 < b) (decimal n)
decimal_digits n lt =
    decimal_by_steps (λ _ ds. AllByRecursion (λ b. 47 < b) ds) (λ k few. (omega arith, tt))
    (λ k ds ge so. All-push (λ b. 47 < b) ds (48 + k % 10) so (omega arith)) n lt

pub decimal_plain : (n : ℕ) → n < 2 ^ 64 → Plain (decimal n)
decimal_plain n lt = All-weaker (λ b. 47 < b) (λ b. 32 < b) (λ b h. omega arith) (decimal n) (decimal_digits n lt)

pub signed_plain : (z : ℤ) → SFits w32 z → Plain (signed_decimal z)
signed_plain (pos n) f = decimal_plain n (omega (arith, f.sfits))
signed_plain (negsuc n) f = (omega arith, decimal_plain (suc n) (omega (arith, f.sfits)))

pub length_signed : (z : ℤ) → SFits w32 z → length (signed_decimal z) ≤ 20
length_signed (pos n) f = length_decimal n (omega (arith, f.sfits))
length_signed (negsuc n) f = omega (arith, length-decimal-le 10 (suc n) (omega arith) (omega (arith, f.sfits)) (omega (arith, f.sfits)))

-- the words that follow the first are short
pub tail_length : (fs : List (List ℕ)) → AllByRecursion (λ f. length f ≤ 20) fs → length (tail fs) ≤ 21 * length fs + 1
tail_length [] p = omega arith
tail_length (f ∷ fs) p =
    omega (arith, p.0, tail_length fs p.1, ap length (tail_more f fs), length-append f (tail fs))

no_feed : (fs : List (List ℕ)) → AllByRecursion Plain fs → AllByRecursion (λ b. b ≡ 10 → ⊥) (flat_map spaced fs)
no_feed [] p = tt
no_feed (f ∷ fs) p =
    (λ e. omega arith, All-append (λ b. b ≡ 10 → ⊥) f (flat_map spaced fs) (All-weaker (λ b. 32 < b) (λ b. b ≡ 10 → ⊥) (λ b h e. omega arith) f p.0) (no_feed fs p.1))

-- words and a line feed have one line feed, at their end
pub one_feed : (w : List ℕ) (fs : List (List ℕ)) → Plain w → AllByRecursion Plain fs → OneFeed (w ++ tail fs)
one_feed w fs p q = (
  w ++ flat_map spaced fs,
  sym (append_assoc w (flat_map spaced fs) (10 ∷ [])),
  All-append (λ b. b ≡ 10 → ⊥) w (flat_map spaced fs) (All-weaker (λ b. 32 < b) (λ b. b ≡ 10 → ⊥) (λ b h e. omega arith) w p) (no_feed fs q),
)
