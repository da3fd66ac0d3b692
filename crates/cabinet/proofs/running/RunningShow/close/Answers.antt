use Rattle.shows.specs.declared.answer.Report.{Report}
use Rattle.cabinet.specs.States.{state_of, limits_of}
use Rattle.cabinet.proofs.Closing.{closes}
use Rattle.cabinet.proofs.running.RunningShow.close.Goals as goal

pub returns-clause-law : goal.returns-clause-law
returns-clause-law g c =
    let m = g.Q.Queue in
    let s = c.args.self in
    let report : Report = record { accepted = s.book.accepted; departed = s.departed; displaced = s.displaced; held = c.len-held.result } in
    closes (limits_of m.room m.slack s) (state_of m.held s) report (λ i. record { accepted = s.book.accepted; departed = s.departed; displaced = s.displaced; held = c.len-held.ensures i })
