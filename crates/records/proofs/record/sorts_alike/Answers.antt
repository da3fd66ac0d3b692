use mathlib.Core.Logic.{∥∥₁_elim}
use Rattle.std.proofs.Common.{refl}
use base.Stored.{Coded-set, coded_list}
use Rattle.records.proofs.Sorting.{sort_perm, ascending_sort}
use Rattle.records.proofs.record.sorts_alike.Goals as goal

pub returns : goal.returns
returns g c =
    let l = g.met.R.Record.linear in
    record {
      alike = λ xs ys p. ∥∥₁_elim p (Coded-set (coded_list g.row.R.coded) _ _) (sort_perm _ l);
      ascends = ascending_sort _ l;
      answer = refl;
    }
