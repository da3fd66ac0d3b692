use Rattle.std.proofs.Common.{◌≡◌, ◌+◌, ◌-◌, ◌<◌, false, length, take, drop}
use Rattle.std.specs.List.{AllByRecursion as All}
use Rattle.cells.proofs.replace_last.Given as goal

abbrev pub invariant-loop-k : goal.invariant-loop-k
invariant-loop-k g l =
    (l.k < length l.initial.cells)
    × (take l.k l.cells ≡ take l.k l.initial.cells)
    × (drop (l.k + 1) l.cells ≡ drop l.k (take (length l.initial.cells - 1) l.initial.cells))
    × All (λ y. g.R.Record.order y l.x ≡ false) (drop l.k (take (length l.initial.cells - 1) l.initial.cells))

abbrev pub decreases-loop-k : goal.decreases-loop-k
decreases-loop-k g l = l.k
