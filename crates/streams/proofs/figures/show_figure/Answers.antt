use Rattle.std.proofs.Common.{[], ◌∷◌, ℤ, Ok, Err, ap, w32, SFits, rules}
use Rattle.std.proofs.lemmas.Int.{to_z-of_z}
use Rattle.wire.specs.declared.lines.Line.TheVariants.{Figure}
use Rattle.runs.specs.declared.fault.StreamFault.TheVariants.{Panel}
use Rattle.streams.proofs.Doing.{refused_as, show_did}
use Rattle.streams.proofs.figures.show_figure.Goals as goal

pub returns-in_err-figure-clause-did : goal.returns-in_err-figure-clause-did
returns-in_err-figure-clause-did g c =
    let m = g.P.Queue in
    let h = c.in_err-figure in
    show_did m.held m.room m.slack c.args.panel.now.queue c.show.new.self.queue _ (Err h.field-0.0) h.ensures.shows (refused_as (Panel h.field-0.0) c.from_residual.result c.from_residual.ensures.1)

pub returns-clause-did : goal.returns-clause-did
returns-clause-did g c =
    let m = g.P.Queue in
    let h = c.in_ok-figure in
    let n = h.figure in
    let fits : SFits w32 n = search rules in
    show_did m.held m.room m.slack c.args.panel.now.queue c.show.new.self.queue _ (Ok n) h.ensures.shows (λ place. ap (λ (v : ℤ). Figure v ∷ []) (to_z-of_z w32 n fits))
