-- The numbers of the refusals.
use Rattle.std.specs.Prelude.{ℕ}
use Rattle.buffers.specs.declared.faults.WireFault.{WireFault}
use Rattle.buffers.specs.declared.faults.WireFault.TheVariants.{Unknown, CutOff, Buffer}

-- the number by which a refusal is reported
abbrev pub number_of : WireFault → ℕ
number_of Unknown = 14
number_of CutOff = 15
number_of Buffer = 17
