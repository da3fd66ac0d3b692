-- Whole streams: command after command, until no byte is left.
use Rattle.std.specs.Prelude.{◌≡◌, ℕ, List, [], ◌∷◌, ◌++◌, drop, Some, Ok}
use Rattle.std.specs.List.{flat_map, AllByRecursion}
use Rattle.wire.specs.declared.commands.Command.{Command}
use Rattle.wire.specs.declared.commands.Found.{Found}
use Rattle.wire.specs.Bytes.{Bytes}
use Rattle.wire.specs.Encoding.{encode, Fits}
use Rattle.wire.specs.Decoding.{read_of}

-- a run of the reader: the bytes read whole as these commands
pub data Reads : List ℕ → List Command → Type 0 where
  end : Reads [] []
  next : {bs : List ℕ} {f : Found} {cs : List Command} → read_of bs ≡ Ok (Some f) → Reads (drop f.taken bs) cs → Reads bs (f.command ∷ cs)

-- the bytes of commands, one after the other
abbrev pub stream : List Command → List ℕ
stream cs = flat_map encode cs

-- commands written one after the other read as those commands
abbrev pub StreamReads : Type 0
StreamReads = (cs : List Command) → AllByRecursion Fits cs → Reads (stream cs) cs

-- bytes that read whole are the bytes of the commands that were read
abbrev pub StreamWrites : Type 0
StreamWrites = (bs : List ℕ) (cs : List Command) → Bytes bs → Reads bs cs → bs ≡ stream cs

-- bytes read whole in one way only
abbrev pub OneReading : Type 0
OneReading = (bs : List ℕ) (cs ds : List Command) → Reads bs cs → Reads bs ds → cs ≡ ds

-- bytes begin with the encoding of one command at most: no two commands have one encoding, and no encoding begins another
abbrev pub OneEncoding : Type 0
OneEncoding = (c d : Command) (xs ys : List ℕ) → Fits c → Fits d → encode c ++ xs ≡ encode d ++ ys → (c ≡ d) × (xs ≡ ys)
