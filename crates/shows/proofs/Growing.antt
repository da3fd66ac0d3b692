-- Histories grow at their end by one call, and settings by one setting.
use Rattle.std.proofs.Common.{◌≡◌, List, [], ◌∷◌, ◌++◌, refl}
use Rattle.shows.specs.Calls.{Limits, State}
use Rattle.shows.specs.Histories.{Setting, with_setting, with_settings, started, Entry, Step, Steps, done, next, History}
use Rattle.shows.specs.declared.row.Row.{Row}

pub settings_push : (rows : List Row) (xs : List Setting) (x : Setting) → with_settings rows (xs ++ (x ∷ [])) ≡ with_setting (with_settings rows xs) x
settings_push rows [] x = refl
settings_push rows (y ∷ ys) x = settings_push (with_setting rows y) ys x

module _ (l : Limits) where
  pub steps_push : {s u : State} {es : List Entry} (e : Entry) (s' : State) → Steps l s es u → Step l u e s' → Steps l s (es ++ (e ∷ [])) s'
  steps_push e s' done step = next step done
  steps_push e s' (next first rest) step = next first (steps_push e s' rest step)

  pub steps_join : {s u s' : State} {es fs : List Entry} → Steps l s es u → Steps l u fs s' → Steps l s (es ++ fs) s'
  steps_join done more = more
  steps_join (next first rest) more = next first (steps_join rest more)

  -- a show that has just started has no calls behind it
  pub history_started : (settings : List Setting) → History l settings [] (started settings)
  history_started settings = done
