use Rattle.std.proofs.Common.{sym, refl, inr}
use Rattle.grouped.proofs.Steps.{held_none, exchange_stands, first_exchanges}
use Rattle.grouped.proofs.calls.GroupsQueue.exchange.Goals as goal

pub returns-then-is_blank-2-clause-exchanges : goal.returns-then-is_blank-2-clause-exchanges
returns-then-is_blank-2-clause-exchanges g c =
    (inr (sym c.if-is_blank.ensures, held_none g.met.R.Record.linear g.met.R.Record.ends c.args.self.now c.index.result.now c.index.ensures c.if-is_blank-2.ensures, refl), refl)

pub invariant_of-self : goal.invariant_of-self
invariant_of-self g c =
    let s = c.deref_mut in
    let p = c.exchange_step in
    let e = exchange_stands g.met.R.Record.linear g.met.R.Record.ends c.args.self.now c.index.result.now c.index.ensures c.if-is_blank-2.ensures s.result.now p.new.cells s.ensures.value s.ensures.len p.auto.cells p.result p.ensures.out c.args.newcomer c.if-is_blank.ensures p.ensures.cells in
    ((c.args.self.now.over.whole, tt), (e.ascends, (e.staggers, (e.packs, (e.counts, tt)))))

pub returns-clause-exchanges : goal.returns-clause-exchanges
returns-clause-exchanges g c =
    let s = c.deref_mut in
    let p = c.exchange_step in
    first_exchanges g.met.R.Record.linear g.met.R.Record.ends c.args.self.now c.index.result.now c.index.ensures c.if-is_blank-2.ensures s.result.now p.new.cells s.ensures.value s.ensures.len p.auto.cells p.result p.ensures.out c.args.newcomer c.if-is_blank.ensures p.ensures.cells _ refl record { room_stays = refl; slack_stays = refl }
