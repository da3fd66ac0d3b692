-- Written and read, read and written.
use Rattle.std.proofs.Common.{◌≡◌, ℕ, ◌+◌, ◌^◌, ◌<◌, ◌≤◌, List, [], ◌∷◌, ◌++◌, length, get_or, drop, ℤ, pos, negsuc, Some, Ok, refl, ap, ◌∙◌, subst, ⊎_elim, arith, w32, SFits, to_z, of_z}
use mir.Facts.{sfits_to_z}
use Rattle.std.proofs.lemmas.Bool.{cases_lt}
use Rattle.std.proofs.lemmas.List.{drop_more}
use Rattle.std.proofs.lemmas.Int.{to_z-of_z, of_z-to_z}
use Rattle.wire.specs.declared.commands.Command.{Command}
use Rattle.wire.specs.declared.commands.Command.TheVariants.{SetRow, Start, Admit, Release, Exchange, Reading, Show, Close}
use Rattle.wire.specs.Bytes.{value, bytes, field}
use Rattle.wire.specs.declared.commands.Found.{Found}
use Rattle.wire.specs.Encoding.{encode, admission, Fits}
use Rattle.wire.specs.Decoding.{width_of, command_of, found, read_of}
use Rattle.wire.specs.Roundtrips.{GivesBack}
use Rattle.wire.proofs.Words.{value_bytes, field_back, field_lt}
use Rattle.wire.proofs.Codes.{read_whole, read_cut, read_unknown, by_code}

bits_fit : (z : ℤ) → SFits w32 z → of_z w32 z < 2 ^ 32
bits_fit (pos n) f = omega (arith, f.sfits)
bits_fit (negsuc n) f = omega (arith, f.sfits)

signed_again : (z : ℤ) → SFits w32 z → to_z w32 (value (bytes 4 (of_z w32 z))) ≡ z
signed_again z f = ap (to_z w32) (value_bytes 4 (of_z w32 z) (bits_fit z f)) ∙ to_z-of_z w32 z f

-- what is written is read again, whatever follows it
pub read_again : (c : Command) (rest : List ℕ) → Fits c → read_of (encode c ++ rest) ≡ Ok (Some (found c (length (encode c))))
read_again (SetRow row pace burst) rest f =
    let r = read_whole (encode (SetRow row pace burst) ++ rest) 1 7 refl refl (omega arith) in
    let a = value_bytes 1 row f.0 in
    let b = value_bytes 2 pace f.1 in
    let d = value_bytes 4 burst f.2 in
    cc
read_again Start rest f = read_whole (encode Start ++ rest) 2 0 refl refl (omega arith)
read_again (Admit at row len handle) rest f =
    let r = read_whole (encode (Admit at row len handle) ++ rest) 3 15 refl refl (omega arith) in
    let t = value_bytes 8 at f.0 in
    let a = value_bytes 1 row f.1 in
    let b = value_bytes 2 len f.2 in
    let d = value_bytes 4 handle f.3 in
    cc
read_again (Release at) rest f =
    let r = read_whole (encode (Release at) ++ rest) 4 8 refl refl (omega arith) in
    let t = value_bytes 8 at f in
    cc
read_again (Exchange at row len handle) rest f =
    let r = read_whole (encode (Exchange at row len handle) ++ rest) 5 15 refl refl (omega arith) in
    let t = value_bytes 8 at f.0 in
    let a = value_bytes 1 row f.1 in
    let b = value_bytes 2 len f.2 in
    let d = value_bytes 4 handle f.3 in
    cc
read_again (Reading row position target) rest f =
    let r = read_whole (encode (Reading row position target) ++ rest) 6 9 refl refl (omega arith) in
    let a = value_bytes 1 row f.0 in
    let b = signed_again position f.1 in
    let d = signed_again target f.2 in
    cc
read_again Show rest f = read_whole (encode Show ++ rest) 7 0 refl refl (omega arith)
read_again Close rest f = read_whole (encode Close ++ rest) 8 0 refl refl (omega arith)

read_some : (bs : List ℕ) (f : Found) → read_of bs ≡ Ok (Some f) → 0 < length bs
read_some [] f is = let z : ◌≡◌ {A = ℕ} 0 1 = cc in omega arith
read_some (b ∷ bs) f is = omega arith

-- bytes that begin with a whole command begin with its bytes, and its operands fit
module _ (bs : List ℕ) (small : (i : ℕ) → get_or bs i 0 < 256) where
  abbrev Back : ℕ → ℕ → Type 0
  Back k w = get_or bs 0 0 ≡ k → 1 + w ≤ length bs → GivesBack bs (found (command_of k bs) (1 + w))

  first : (k : ℕ) → get_or bs 0 0 ≡ k → 1 ≤ length bs → bs ≡ k ∷ drop 1 bs
  first k op room = let d = drop_more bs 0 0 room in cc

  signed_back : (i : ℕ) → i + 4 ≤ length bs → of_z w32 (to_z w32 (field bs i 4)) ≡ field bs i 4
  signed_back i room = of_z-to_z w32 (field bs i 4) (field_lt bs small i 4 room)

  signed_fits : (i : ℕ) → i + 4 ≤ length bs → SFits w32 (to_z w32 (field bs i 4))
  signed_fits i room = sfits_to_z {w = w32} {n = field bs i 4} (record { fits = field_lt bs small i 4 room })

  back1 : Back 1 7
  back1 op room =
      let d = first 1 op (omega arith) in
      let a = field_back bs small 1 1 (omega arith) in
      let b = field_back bs small 2 2 (omega arith) in
      let e = field_back bs small 4 4 (omega arith) in
      record { same = cc; count = refl; fits = (field_lt bs small 1 1 (omega arith), field_lt bs small 2 2 (omega arith), field_lt bs small 4 4 (omega arith)) }

  admission_back : (k : ℕ) → get_or bs 0 0 ≡ k → 16 ≤ length bs → bs ≡ k ∷ (admission (field bs 1 8) (field bs 9 1) (field bs 10 2) (field bs 12 4) ++ drop 16 bs)
  admission_back k op room =
      let d = first k op (omega arith) in
      let t = field_back bs small 1 8 (omega arith) in
      let a = field_back bs small 9 1 (omega arith) in
      let b = field_back bs small 10 2 (omega arith) in
      let e = field_back bs small 12 4 (omega arith) in
      cc

  admission_fits : 16 ≤ length bs → (field bs 1 8 < 2 ^ 64) × (field bs 9 1 < 2 ^ 8) × (field bs 10 2 < 2 ^ 16) × (field bs 12 4 < 2 ^ 32)
  admission_fits room = (field_lt bs small 1 8 (omega arith), field_lt bs small 9 1 (omega arith), field_lt bs small 10 2 (omega arith), field_lt bs small 12 4 (omega arith))

  back4 : Back 4 8
  back4 op room =
      let d = first 4 op (omega arith) in
      let t = field_back bs small 1 8 (omega arith) in
      record { same = cc; count = refl; fits = field_lt bs small 1 8 (omega arith) }

  back6 : Back 6 9
  back6 op room =
      let d = first 6 op (omega arith) in
      let a = field_back bs small 1 1 (omega arith) in
      let b = field_back bs small 2 4 (omega arith) in
      let e = field_back bs small 6 4 (omega arith) in
      let p = signed_back 2 (omega arith) in
      let q = signed_back 6 (omega arith) in
      record { same = cc; count = refl; fits = (field_lt bs small 1 1 (omega arith), signed_fits 2 (omega arith), signed_fits 6 (omega arith)) }

  -- what was read is what the command byte says
  found_at : (k w : ℕ) (f : Found) → read_of bs ≡ Ok (Some f) → width_of k ≡ Some w → Back k w → get_or bs 0 0 ≡ k → GivesBack bs f
  found_at k w f is takes back op =
      ⊎_elim
      (λ less.
      let r = read_cut bs k w op takes (read_some bs f is) less in
      let z : ◌≡◌ {A = ℕ} 0 1 = cc in
      elim (let y : ⊥ = omega arith in y) [ ])
      (λ room. subst (GivesBack bs) (let r = read_whole bs k w op takes room in cc) (back op room))
      (cases_lt (length bs) (1 + w))

  -- what is read, written again, gives the bytes back
  pub read_back : (f : Found) → read_of bs ≡ Ok (Some f) → GivesBack bs f
  read_back f is =
      by_code (get_or bs 0 0)
      (found_at 1 7 f is refl back1)
      (found_at 2 0 f is refl (λ op room. record { same = first 2 op room; count = refl; fits = tt }))
      (found_at 3 15 f is refl (λ op room. record { same = admission_back 3 op room; count = refl; fits = admission_fits room }))
      (found_at 4 8 f is refl back4)
      (found_at 5 15 f is refl (λ op room. record { same = admission_back 5 op room; count = refl; fits = admission_fits room }))
      (found_at 6 9 f is refl back6)
      (found_at 7 0 f is refl (λ op room. record { same = first 7 op room; count = refl; fits = tt }))
      (found_at 8 0 f is refl (λ op room. record { same = first 8 op room; count = refl; fits = tt }))
      (λ none.
      let r = read_unknown bs (read_some bs f is) none in
      let z : ◌≡◌ {A = ℕ} 0 1 = cc in
      elim (let y : ⊥ = omega arith in y) [ ])
