-- Big-endian numbers, there and back, at every width.
use Rattle.std.proofs.Common.{◌≡◌, ℕ, zero, suc, ◌+◌, ◌*◌, ◌/◌, ◌%◌, ◌^◌, ◌<◌, ◌≤◌, List, [], ◌∷◌, ◌++◌, length, get_or, take, drop, sym, refl, ap, ◌∙◌, mod-eq_of_lt, mul_assoc, arith, lit<}
use native.Mathlib.Nat.{mul-add-div_right, mul-add-mod_self_right, mod-one, one-le-pow, pow-succ'}
use lib.Arith.{mod-mul, digits_lt, digits_div}
use Rattle.std.proofs.lemmas.List.{length-take-le, drop_more, length-drop, take-append-drop, drop-drop, get_or-drop}
use Rattle.wire.specs.Bytes.{value, bytes, field}

pub length_bytes : (k n : ℕ) → length (bytes k n) ≡ k
length_bytes zero n = refl
length_bytes (suc k) n = ap suc (length_bytes k n)

some256 : (k : ℕ) → 0 < 256 ^ k
some256 k = one-le-pow k 256 (lit< tt)

-- so many bytes hold a number up to multiples of their range
value_bytes_mod : (k n : ℕ) → value (bytes k n) ≡ n % 256 ^ k
value_bytes_mod zero n = sym (mod-one n)
value_bytes_mod (suc k) n =
    let e = value_bytes_mod k n in
    let l = length_bytes k n in
    let p = pow-succ' 256 k in
    let m = mod-mul n {m = 256} {c = 256 ^ k} (lit< tt) (some256 k) in
    cc

-- a number that fits is what its bytes write
pub value_bytes : (k n : ℕ) → n < 256 ^ k → value (bytes k n) ≡ n
value_bytes k n fits = value_bytes_mod k n ∙ mod-eq_of_lt fits

value_lt : (bs : List ℕ) → ((i : ℕ) → get_or bs i 0 < 256) → value bs < 256 ^ length bs
value_lt [] small = lit< tt
value_lt (b ∷ bs) small = rw (pow-succ' 256 (length bs)) (digits_lt {q = b} {m = 256} (small 0) (value_lt bs (λ i. small (suc i))))

bytes_above : (k a n : ℕ) → bytes k (a * 256 ^ k + n) ≡ bytes k n
bytes_above zero a n = refl
bytes_above (suc k) a n =
    let e : a * 256 ^ suc k ≡ a * 256 * 256 ^ k = ap (λ x. a * x) (pow-succ' 256 k) ∙ sym (mul_assoc a 256 (256 ^ k)) in
    let d = mul-add-div_right {m = 256 ^ k} (some256 k) (a * 256) n in
    let m = mul-add-mod_self_right a 256 (n / 256 ^ k) in
    let t = bytes_above k (a * 256) n in
    cc

-- the bytes of what bytes write are those bytes
pub bytes_value : (bs : List ℕ) → ((i : ℕ) → get_or bs i 0 < 256) → bytes (length bs) (value bs) ≡ bs
bytes_value [] small = refl
bytes_value (b ∷ bs) small =
    let d = digits_div b {m = 256 ^ length bs} (value_lt bs (λ i. small (suc i))) in
    let m = mod-eq_of_lt {n = b} {m = 256} (small 0) in
    let t = bytes_above (length bs) b (value bs) in
    let r = bytes_value bs (λ i. small (suc i)) in
    cc

-- a field is its first byte and the field after it
pub field_more : (bs : List ℕ) (i k : ℕ) → i + suc k ≤ length bs → field bs i (suc k) ≡ get_or bs i 0 * 256 ^ k + field bs (i + 1) k
field_more bs i k room =
    let n : k ≤ length (drop (i + 1) bs) = simp length-drop (omega arith) in
    ap (λ ys. value (take (suc k) ys)) (drop_more bs i 0 (omega arith))
    ∙ ap (λ m. get_or bs i 0 * 256 ^ m + field bs (i + 1) k) (length-take-le k (drop (i + 1) bs) n)

small_take : (k : ℕ) (bs : List ℕ) → ((i : ℕ) → get_or bs i 0 < 256) → (i : ℕ) → get_or (take k bs) i 0 < 256
small_take zero bs small i = lit< tt
small_take (suc k) [] small i = lit< tt
small_take (suc k) (b ∷ bs) small zero = small 0
small_take (suc k) (b ∷ bs) small (suc i) = small_take k bs (λ j. small (suc j)) i

pub field_lt : (bs : List ℕ) → ((i : ℕ) → get_or bs i 0 < 256) → (i k : ℕ) → i + k ≤ length bs → field bs i k < 256 ^ k
field_lt bs small i k room =
    let n : k ≤ length (drop i bs) = simp length-drop (omega arith) in
    let s : (j : ℕ) → get_or (drop i bs) j 0 < 256 = λ j. rw get_or-drop (small (i + j)) in
    rw (length-take-le k (drop i bs) n) at (value_lt (take k (drop i bs)) (small_take k (drop i bs) s))

-- an operand written in front of what follows it is what it was read from
pub field_back : (bs : List ℕ) → ((i : ℕ) → get_or bs i 0 < 256) → (i k : ℕ) → i + k ≤ length bs → bytes k (field bs i k) ++ drop (i + k) bs ≡ drop i bs
field_back bs small i k room =
    let n : k ≤ length (drop i bs) = simp length-drop (omega arith) in
    let l = length-take-le k (drop i bs) n in
    let s : (j : ℕ) → get_or (drop i bs) j 0 < 256 = λ j. rw get_or-drop (small (i + j)) in
    let v = bytes_value (take k (drop i bs)) (small_take k (drop i bs) s) in
    let t = take-append-drop k (drop i bs) in
    let d = drop-drop k i bs in
    cc
