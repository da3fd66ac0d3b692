-- What each pattern of the reader takes from the bytes.
use Rattle.std.proofs.Common.{◌≡◌, ℕ, ◌+◌, ◌-◌, ◌*◌, ◌^◌, ◌<◌, ◌≤◌, List, length, get_or, take, drop, ℤ, Some, Ok, sym, ap, ◌∙◌, arith, w32, to_z, of_z}
use Rattle.std.proofs.lemmas.List.{take_rest, length-drop, drop-drop, get_or-drop}
use Rattle.std.proofs.lemmas.Int.{of_z-to_z}
use Rattle.wire.specs.declared.commands.Command.{Command}
use Rattle.wire.specs.declared.commands.Command.TheVariants.{Reading}
use Rattle.wire.specs.Bytes.{field}
use Rattle.wire.specs.Decoding.{width_of, command_of, found, read_of}
use Rattle.wire.proofs.Codes.{read_whole}
use Rattle.wire.proofs.Words.{field_lt}
use Rattle.commands.proofs.Bytewise.{word8, word16, word32, word64}

-- the bytes after the first n
abbrev pub rest : List ℕ → ℕ → List ℕ
rest bs n = take (length bs - n) (drop n bs)

pub rest_within : (bs : List ℕ) (w : ℕ) → 1 + w ≤ length bs → length (rest bs (1 + w)) < length bs
rest_within bs w room = simp (take_rest, length-drop) (omega arith)

rest_taken : (bs : List ℕ) (n : ℕ) → n ≤ length bs → length bs - length (rest bs n) ≡ n
rest_taken bs n room = simp (take_rest, length-drop) (omega arith)

-- the command that a pattern for the command byte k has made
pub apart : (bs : List ℕ) (k w : ℕ) (c : Command) → width_of k ≡ Some w → 1 + w ≤ length bs → get_or bs 0 0 ≡ k → c ≡ command_of k bs → read_of bs ≡ Ok (Some (found c (length bs - length (rest bs (1 + w)))))
apart bs k w c takes room op is =
    let r = read_whole bs k w op takes room in
    let t = rest_taken bs (1 + w) room in
    cc

kept : (z : ℤ) (n : ℕ) → n < 2 ^ 32 → z ≡ to_z w32 n → to_z w32 (of_z w32 z) ≡ to_z w32 n
kept z n lt e = ap (λ y. to_z w32 (of_z w32 y)) e ∙ ap (to_z w32) (of_z-to_z w32 n lt)

module _ (bs : List ℕ) where
  abbrev time : ℕ
  time = get_or bs 1 0 * 72057594037927936 + get_or bs 2 0 * 281474976710656 + get_or bs 3 0 * 1099511627776 + get_or bs 4 0 * 4294967296 + get_or bs 5 0 * 16777216 + get_or bs 6 0 * 65536 + get_or bs 7 0 * 256 + get_or bs 8 0

  pub time_is : (at : ℕ) → 9 ≤ length bs → at ≡ time → at ≡ field bs 1 8
  time_is at room t = t ∙ word64 bs 1 (omega arith)

  -- the operands of an admission and of an exchange
  pub admission_is : {C : Type 0} (V : ℕ → ℕ → ℕ → ℕ → C) (at len handle : ℕ) → 16 ≤ length bs → at ≡ time → len ≡ get_or bs 10 0 * 256 + get_or bs 11 0 → handle ≡ get_or bs 12 0 * 16777216 + get_or bs 13 0 * 65536 + get_or bs 14 0 * 256 + get_or bs 15 0 → V at (get_or bs 9 0) len handle ≡ V (field bs 1 8) (field bs 9 1) (field bs 10 2) (field bs 12 4)
  admission_is V at len handle room t l h =
      let x = time_is at (omega arith) t in
      let y = word8 bs 9 (omega arith) in
      let z = word16 bs 10 (omega arith) in
      let w = word32 bs 12 (omega arith) in
      cc

  -- the numbers of a reading, as the function keeps them
  pub reading_is : ((i : ℕ) → get_or bs i 0 < 256) → (position target : ℤ) → 10 ≤ length bs → position ≡ to_z w32 (get_or bs 2 0 * 16777216 + get_or bs 3 0 * 65536 + get_or bs 4 0 * 256 + get_or bs 5 0) → target ≡ to_z w32 (get_or bs 6 0 * 16777216 + get_or bs 7 0 * 65536 + get_or bs 8 0 * 256 + get_or bs 9 0) → Reading (get_or bs 1 0) (to_z w32 (of_z w32 position)) (to_z w32 (of_z w32 target)) ≡ command_of 6 bs
  reading_is small position target room p t =
      let x = word8 bs 1 (omega arith) in
      let y = kept position (field bs 2 4) (field_lt bs small 2 4 (omega arith)) (p ∙ ap (to_z w32) (word32 bs 2 (omega arith))) in
      let z = kept target (field bs 6 4) (field_lt bs small 6 4 (omega arith)) (t ∙ ap (to_z w32) (word32 bs 6 (omega arith))) in
      cc

-- the operands after a time, taken apart in a second step
module _ (bs : List ℕ) where
  late : (i : ℕ) → get_or (rest bs 9) i 0 ≡ get_or bs (9 + i) 0
  late i = ap (λ xs. get_or xs i 0) (take_rest bs 9) ∙ get_or-drop 9 bs i 0

  late_rest : rest (rest bs 9) 7 ≡ rest bs 16
  late_rest = take_rest (rest bs 9) 7 ∙ ap (drop 7) (take_rest bs 9) ∙ drop-drop 7 9 bs ∙ sym (take_rest bs 16)

  pub late_apart : (k : ℕ) (V : ℕ → ℕ → ℕ → ℕ → Command) (at len handle : ℕ) → width_of k ≡ Some 15 → V (field bs 1 8) (field bs 9 1) (field bs 10 2) (field bs 12 4) ≡ command_of k bs → 16 ≤ length bs → get_or bs 0 0 ≡ k → at ≡ time bs → len ≡ get_or (rest bs 9) 1 0 * 256 + get_or (rest bs 9) 2 0 → handle ≡ get_or (rest bs 9) 3 0 * 16777216 + get_or (rest bs 9) 4 0 * 65536 + get_or (rest bs 9) 5 0 * 256 + get_or (rest bs 9) 6 0 → read_of bs ≡ Ok (Some (found (V at (get_or (rest bs 9) 0 0) len handle) (length bs - length (rest (rest bs 9) 7))))
  late_apart k V at len handle takes is room op t l h =
      let a0 = late 0 in
      let a1 = late 1 in
      let a2 = late 2 in
      let a3 = late 3 in
      let a4 = late 4 in
      let a5 = late 5 in
      let a6 = late 6 in
      let v = admission_is bs V at len handle room t (cc) (cc) in
      let w : V at (get_or (rest bs 9) 0 0) len handle ≡ command_of k bs = cc in
      let r = apart bs k 15 (V at (get_or (rest bs 9) 0 0) len handle) takes room op w in
      let e = late_rest in
      cc
