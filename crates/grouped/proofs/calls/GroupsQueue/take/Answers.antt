use Rattle.std.proofs.Common.{refl, arith}
use Rattle.grouped.proofs.Steps.{held_none, some_held, take_stands, first_takes}
use Rattle.grouped.proofs.calls.GroupsQueue.take.Goals as goal

pub returns-then-is_blank-clause-takes : goal.returns-then-is_blank-clause-takes
returns-then-is_blank-clause-takes g c = (held_none g.met.R.Record.linear g.met.R.Record.ends c.args.self.now c.index.result.now c.index.ensures c.if-is_blank.ensures, refl, refl)

pub overflow_sub-self : goal.overflow_sub-self
overflow_sub-self g c = let h = some_held g.met.R.Record.linear g.met.R.Record.ends c.args.self.now c.index.result.now c.index.ensures c.if-is_blank.ensures in omega arith

pub invariant_of-self-2 : goal.invariant_of-self-2
invariant_of-self-2 g c =
    let s = c.deref_mut in
    let p = c.take_step-first in
    take_stands g.met.R.Record.linear g.met.R.Record.ends c.args.self.now c.index.result.now c.index.ensures c.if-is_blank.ensures s.result.now p.new.cells s.ensures.value s.ensures.len p.auto.cells p.result p.ensures.out p.ensures.cells

pub returns-clause-takes : goal.returns-clause-takes
returns-clause-takes g c =
    let s = c.deref_mut in
    let p = c.take_step-first in
    first_takes g.met.R.Record.linear g.met.R.Record.ends c.args.self.now c.index.result.now c.index.ensures c.if-is_blank.ensures s.result.now p.new.cells s.ensures.value s.ensures.len p.auto.cells p.result p.ensures.out p.ensures.cells _ refl record { room_stays = refl; slack_stays = refl }
