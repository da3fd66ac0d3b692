-- Digits counted, and written at their place.
use Rattle.std.proofs.Common.{◌≡◌, ℕ, ◌+◌, ◌/◌, ◌%◌, ◌^◌, ◌<◌, ◌≤◌, List, [], ◌∷◌, ◌++◌, length, take, drop, decimal, ap, ◌∙◌, arith}
use Rattle.std.proofs.lemmas.Fmt.{decimal_step}
use Rattle.std.proofs.lemmas.List.{length-append, length-take-le, take-append-drop, append_assoc, take_at}

-- a number has one digit more than its tenth
pub length_step : (n : ℕ) → 10 ≤ n → n < 2 ^ 64 → length (decimal n) ≡ length (decimal (n / 10)) + 1
length_step n more small = ap length (decimal_step n more small) ∙ length-append (decimal (n / 10)) ((48 + n % 10) ∷ [])

-- digits written up to a place follow what stands before them
pub digits_follow : (start end : ℕ) (old new digits : List ℕ) → start + length digits ≡ end → end ≤ length old → drop start new ≡ digits ++ drop end old → take start new ≡ take start old → take end new ≡ take start old ++ digits
digits_follow start end old new digits is room written before =
    let l : length (take start old ++ digits) ≡ end = length-append (take start old) digits ∙ (omega (arith, length-take-le start old (omega arith))) in
    let w = take-append-drop start new in
    let a = append_assoc (take start old) digits (drop end old) in
    let t = take_at (take start old ++ digits) (drop end old) end l in
    cc
