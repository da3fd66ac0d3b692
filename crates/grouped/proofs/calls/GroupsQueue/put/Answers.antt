use Rattle.std.proofs.Common.{refl, rules}
use Rattle.grouped.proofs.Steps.{held_few, kept_stands, kept_puts, displaced_stands, displaced_puts}
use Rattle.grouped.proofs.calls.GroupsQueue.put.Goals as goal

pub overflow_add-self : goal.overflow_add-self
overflow_add-self g c = let h = held_few g.met.R.Record.linear g.met.R.Record.ends c.args.self.now in search rules

pub invariant_of-self-then-is_blank-2 : goal.invariant_of-self-then-is_blank-2
invariant_of-self-then-is_blank-2 g c =
    let s = c.deref_mut in
    let p = c.put_step-out in
    kept_stands g.met.R.Record.linear g.met.R.Record.ends c.args.self.now c.args.x c.if-is_blank.ensures s.result.now p.new.cells s.ensures.value s.ensures.len p.auto.cells p.ensures.cells p.result p.ensures.out c.if-is_blank-2.ensures

pub returns-then-is_blank-2-clause-puts : goal.returns-then-is_blank-2-clause-puts
returns-then-is_blank-2-clause-puts g c =
    let s = c.deref_mut in
    let p = c.put_step-out in
    kept_puts g.met.R.Record.linear g.met.R.Record.ends c.args.self.now c.args.x c.if-is_blank.ensures s.result.now p.new.cells s.ensures.value s.ensures.len p.auto.cells p.ensures.cells p.result p.ensures.out _ refl record { room_stays = refl; slack_stays = refl } c.if-is_blank-2.ensures

pub invariant_of-self-else-is_blank-2 : goal.invariant_of-self-else-is_blank-2
invariant_of-self-else-is_blank-2 g c =
    let s = c.deref_mut in
    let p = c.put_step-out in
    displaced_stands g.met.R.Record.linear g.met.R.Record.ends c.args.self.now c.args.x c.if-is_blank.ensures s.result.now p.new.cells s.ensures.value s.ensures.len p.auto.cells p.ensures.cells p.result p.ensures.out c.if-is_blank-2.ensures

pub returns-clause-puts : goal.returns-clause-puts
returns-clause-puts g c =
    let s = c.deref_mut in
    let p = c.put_step-out in
    displaced_puts g.met.R.Record.linear g.met.R.Record.ends c.args.self.now c.args.x c.if-is_blank.ensures s.result.now p.new.cells s.ensures.value s.ensures.len p.auto.cells p.ensures.cells p.result p.ensures.out _ refl record { room_stays = refl; slack_stays = refl } c.if-is_blank-2.ensures
