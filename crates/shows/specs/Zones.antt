-- How full a queue is, by the number held and the capacity as the queue answers them.
use Rattle.std.specs.Prelude.{ℕ, ◌*◌, cond, nat_le, nat_lt}
use Rattle.shows.specs.declared.zone.Zone.{Zone}
use Rattle.shows.specs.declared.zone.Zone.TheVariants.{Green, Yellow, Red}

-- green below a third, red from two thirds on
abbrev pub zone : ℕ → ℕ → Zone
zone held capacity = cond (nat_lt (3 * held) capacity) Green (cond (nat_le (2 * capacity) (3 * held)) Red Yellow)
