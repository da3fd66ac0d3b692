-- Runs of the reader over whole streams.
use Rattle.std.proofs.Common.{◌≡◌, ℕ, ◌+◌, List, [], ◌∷◌, ◌++◌, length, drop, sym, refl, ap, subst, arith}
use Rattle.std.proofs.lemmas.List.{drop_at, get_or-drop, append_cancel_left}
use Rattle.std.specs.List.{AllByRecursion}
use Rattle.wire.specs.declared.commands.Command.{Command}
use Rattle.wire.specs.Bytes.{Bytes}
use Rattle.wire.specs.Encoding.{encode, Fits}
use Rattle.wire.specs.Decoding.{found}
use Rattle.wire.specs.Streams.{Reads, end, next, stream, StreamWrites, OneReading, OneEncoding}
use Rattle.wire.proofs.Trips.{read_again, read_back}

pub stream_reads : (cs : List Command) → AllByRecursion Fits cs → Reads (stream cs) cs
stream_reads [] fits = end
stream_reads (c ∷ cs) fits =
    next {f = found c (length (encode c))} (read_again c (stream cs) fits.0)
    (subst (λ bs. Reads bs cs) (sym (drop_at (encode c) (stream cs) (length (encode c)) refl)) (stream_reads cs fits.1))

written : {bs : List ℕ} {cs : List Command} → Reads bs cs → Bytes bs → bs ≡ stream cs
written end small = refl
written (next {bs} {f} {cs} is more) small =
    let g = (read_back bs small f is).same in
    let r = written more (λ i. rw get_or-drop (small (f.taken + i))) in
    cc

pub stream_writes : StreamWrites
stream_writes bs cs small run = written run small

same_run : {bs : List ℕ} {cs ds : List Command} → Reads bs cs → Reads bs ds → cs ≡ ds
same_run end end = refl
same_run end (next is more) = let z : ◌≡◌ {A = ℕ} 0 1 = cc in elim (let y : ⊥ = omega arith in y) [ ]
same_run (next is more) end = let z : ◌≡◌ {A = ℕ} 0 1 = cc in elim (let y : ⊥ = omega arith in y) [ ]
same_run (next {bs} {f} {cs} is more) (next {f = g} {cs = ds} it rest) =
    let e : f ≡ g = cc in
    let r = same_run more (subst (λ x. Reads (drop x.taken bs) ds) (sym e) rest) in
    cc

pub one_reading : OneReading
one_reading bs cs ds run other = same_run run other

pub one_encoding : OneEncoding
one_encoding c d xs ys fc fd e =
    let p = read_again c xs fc in
    let q = read_again d ys fd in
    let f : found c (length (encode c)) ≡ found d (length (encode d)) = cc in
    let s : c ≡ d = ap (λ x. x.command) f in
    let t : encode c ++ xs ≡ encode c ++ ys = cc in
    (s, append_cancel_left (encode c) xs ys t)
