use Rattle.std.proofs.Common.{Err, sym, ◌∙◌, arith}
use Rattle.shows.specs.declared.fault.ShowFault.TheVariants.{Row}
use Rattle.runs.proofs.Settings.{row_refused, card_refused, none_refuses}
use Rattle.runs.specs.declared.fault.StreamFault.TheVariants.{Show}
use Rattle.streams.proofs.Doing.{refused_as, set_did, set_refused}
use Rattle.streams.proofs.settings.set_row.Goals as goal

pub returns-then-row-gt-LAST-clause-did : goal.returns-then-row-gt-LAST-clause-did
returns-then-row-gt-LAST-clause-did g c =
    let a = c.args in
    set_refused a.row a.pace a.burst g.Q.Queue.held a.show.now Row _ (sym (row_refused a.row a.pace a.burst (omega arith))) (refused_as (Show Row) (Err c.from.result) c.from.ensures)

pub returns-in_err-new-clause-did : goal.returns-in_err-new-clause-did
returns-in_err-new-clause-did g c =
    let a = c.args in
    let h = c.in_err-new in
    set_refused a.row a.pace a.burst g.Q.Queue.held a.show.now h.field-0.0 _ (h.ensures.1 ∙ sym (card_refused a.row a.pace a.burst (omega arith) h.ensures.0)) (refused_as (Show h.field-0.0) c.from_residual.result c.from_residual.ensures.1)

pub returns-clause-did : goal.returns-clause-did
returns-clause-did g c =
    let a = c.args in
    let made = c.in_ok-new.ensures in
    let t = c.in_ok-set.ensures in
    set_did a.row a.pace a.burst g.Q.Queue.held a.show.now c.set.new.self c.in_ok-new.field-0 (none_refuses a.row a.pace a.burst (omega arith) made.0) made.1 made.2 t.rows t.queue
