-- The numbers of a queue's refusals.
use Rattle.std.specs.Prelude.{ℕ}
use Rattle.queues.specs.declared.fault.QueueFault.{QueueFault}
use Rattle.queues.specs.declared.fault.QueueFault.TheVariants.{Empty, Blank, Shape}

-- the number by which a refusal is reported
abbrev pub number : QueueFault → ℕ
number Empty = 8
number Blank = 11
number Shape = 12
