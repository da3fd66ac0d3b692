use Rattle.std.proofs.Common.{Ok, Err, refl}
use Rattle.runs.specs.declared.fault.StreamFault.TheVariants.{Panel}
use Rattle.streams.proofs.Doing.{refused_as, offer_did}
use Rattle.streams.proofs.figures.offer.Goals as goal

pub returns-in_err-_left-clause-did : goal.returns-in_err-_left-clause-did
returns-in_err-_left-clause-did g c =
    let m = g.P.Queue in
    let h = c.in_err-_left in
    offer_did m.held m.room m.slack c.args.panel.now.queue c.offer.new.self.queue _ c.args.reading (Err h.field-0.0) h.ensures.offers (refused_as (Panel h.field-0.0) c.from_residual.result c.from_residual.ensures.1)

pub returns-clause-did : goal.returns-clause-did
returns-clause-did g c =
    let m = g.P.Queue in
    let h = c.in_ok-_left in
    offer_did m.held m.room m.slack c.args.panel.now.queue c.offer.new.self.queue _ c.args.reading (Ok h._left) h.ensures.offers (λ place. refl)
