-- The law holds of the report that a show is closed with.
use Rattle.std.proofs.Common.{◌≡◌, List, sym, subst}
use Rattle.shows.specs.Accounts.{Accounts, report_of}
use Rattle.shows.specs.Calls.{State, Limits}
use Rattle.shows.specs.Histories.{Setting, Entry, History}
use Rattle.shows.specs.declared.answer.Report.{Report}
use Rattle.shows.proofs.Accounting.{accounts_hold}

pub closes : (l : Limits) (end : State) (report : Report) → report ≡ report_of end → (settings : List Setting) (es : List Entry) → History l settings es end → Accounts l settings es end report
closes l end report is settings es h = subst (Accounts l settings es end) (sym is) (accounts_hold l settings es end h)
