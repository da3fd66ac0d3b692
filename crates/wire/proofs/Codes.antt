-- What a command byte tells of the bytes that it begins.
use Rattle.std.proofs.Common.{◌≡◌, ℕ, ◌+◌, ◌<◌, ◌≤◌, List, [], ◌∷◌, length, get_or, Some, None, Ok, Err, ⊎_elim, arith}
use Rattle.std.proofs.lemmas.Bool.{le-leb, lt-leb, ne_eqb, cases_eq}
use Rattle.buffers.specs.declared.faults.WireFault.TheVariants.{Unknown, CutOff}
use Rattle.wire.specs.Decoding.{width_of, command_of, found, read_of}

-- the first byte is the command byte k, which takes w operand bytes
module _ (bs : List ℕ) (k w : ℕ) (first : get_or bs 0 0 ≡ k) (takes : width_of k ≡ Some w) where
  pub read_whole : 1 + w ≤ length bs → read_of bs ≡ Ok (Some (found (command_of k bs) (1 + w)))
  read_whole room =
      elim bs as (λ xs. get_or xs 0 0 ≡ k → 1 + w ≤ length xs → read_of xs ≡ Ok (Some (found (command_of k xs) (1 + w)))) [
        | [] ↦ λ f n. elim (let z : ⊥ = omega arith in z) [ ]
        | b ∷ xs ↦ λ f n. let m = le-leb (1 + w) (length (b ∷ xs)) n in simp (f, takes, m)
      ] first room

  pub read_cut : 0 < length bs → length bs < 1 + w → read_of bs ≡ Err CutOff
  read_cut some less =
      elim bs as (λ xs. get_or xs 0 0 ≡ k → 0 < length xs → length xs < 1 + w → read_of xs ≡ Err CutOff) [
        | [] ↦ λ f n l. elim (let z : ⊥ = omega arith in z) [ ]
        | b ∷ xs ↦ λ f n l. let m = lt-leb (1 + w) (length (b ∷ xs)) l in simp (f, takes, m)
      ] first some less

pub read_unknown : (bs : List ℕ) → 0 < length bs → width_of (get_or bs 0 0) ≡ None → read_of bs ≡ Err Unknown
read_unknown [] some none = elim (let z : ⊥ = omega arith in z) [ ]
read_unknown (b ∷ bs) some none = simp none

-- a byte is one of the eight command bytes, or no command
pub by_code : {P : Type 0} (b : ℕ) → (b ≡ 1 → P) → (b ≡ 2 → P) → (b ≡ 3 → P) → (b ≡ 4 → P) → (b ≡ 5 → P) → (b ≡ 6 → P) → (b ≡ 7 → P) → (b ≡ 8 → P) → (width_of b ≡ None → P) → P
by_code b f1 f2 f3 f4 f5 f6 f7 f8 rest =
    ⊎_elim f1 (λ n1. ⊎_elim f2 (λ n2. ⊎_elim f3 (λ n3. ⊎_elim f4 (λ n4. ⊎_elim f5 (λ n5. ⊎_elim f6 (λ n6. ⊎_elim f7 (λ n7. ⊎_elim f8
    (λ n8. rest (simp (ne_eqb b 1 n1, ne_eqb b 2 n2, ne_eqb b 3 n3, ne_eqb b 4 n4, ne_eqb b 5 n5, ne_eqb b 6 n6, ne_eqb b 7 n7, ne_eqb b 8 n8)))
    (cases_eq b 8)) (cases_eq b 7)) (cases_eq b 6)) (cases_eq b 5)) (cases_eq b 4)) (cases_eq b 3)) (cases_eq b 2)) (cases_eq b 1)
