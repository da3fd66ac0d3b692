-- Which test refuses a setting.
use Rattle.std.proofs.Common.{◌≡◌, ℕ, ◌<◌, ◌≤◌, true, false, not, ap, ◌∙◌}
use Rattle.std.proofs.lemmas.Bool.{cond-true, cond-false, lt-ltb, le-ltb}
use Rattle.shows.specs.Cards.{in_bounds}
use Rattle.runs.specs.Runs.{set_refusal}

module _ (row pace burst : ℕ) where
  pub row_refused : 64 ≤ row → set_refusal row pace burst ≡ 2
  row_refused h = cond-true _ _ _ (ap not (le-ltb row 64 h))

  pub card_refused : row < 64 → in_bounds pace burst ≡ false → set_refusal row pace burst ≡ 10
  card_refused h bad = cond-false _ _ _ (ap not (lt-ltb row 64 h)) ∙ cond-true _ _ _ (ap not bad)

  pub none_refuses : row < 64 → in_bounds pace burst ≡ true → set_refusal row pace burst ≡ 0
  none_refuses h good = cond-false _ _ _ (ap not (lt-ltb row 64 h)) ∙ cond-false _ _ _ (ap not good)
