-- What a step of a show is to its histories.
use Rattle.shows.specs.Calls.{State, Limits}
use Rattle.shows.specs.Histories.{Entry, Step}
use Rattle.shows.proofs.Growing.{steps_push}
use Rattle.cabinet.specs.States.{Extends}

pub extends : (l : Limits) (s s' : State) (e : Entry) → Step l s e s' → Extends l s e s'
extends l s s' e step = λ settings es h. steps_push l e s' h step
