use Rattle.std.proofs.Common.{◌≡◌, ◌+◌, ◌<◌, false, length, take, drop}
use Rattle.std.specs.List.{AllByRecursion as All}
use Rattle.cells.proofs.replace_first.Given as goal

abbrev pub invariant-loop-k : goal.invariant-loop-k
invariant-loop-k g l =
    (l.k < length l.initial.cells)
    × (take l.k l.cells ≡ take l.k (drop 1 l.initial.cells))
    × (drop (l.k + 1) l.cells ≡ drop (l.k + 1) l.initial.cells)
    × All (λ y. g.R.Record.order l.x y ≡ false) (take l.k (drop 1 l.initial.cells))
