-- Total orders that are given by a test, and how larger ones are put together from smaller ones.
use Rattle.std.specs.Prelude.{◌≡◌, Bool, true, false, cond, ◌⊎◌}

-- The laws of a test `le x y`, "x stands no later than y".
pub record Linear {X : Type 0} (le : X → X → Bool) : Type 0 where
  -- of any two values one stands no later than the other
  pub total : (x y : X) → (le x y ≡ true) ⊎ (le y x ≡ true)
  -- no later than what is no later
  pub trans : (x y z : X) → le x y ≡ true → le y z ≡ true → le x z ≡ true
  -- two values, each no later than the other, are equal in every field
  pub antisym : (x y : X) → le x y ≡ true → le y x ≡ true → x ≡ y

-- first by `le`, and where that ties by `then`
abbrev pub lex : {X Y : Type 0} → (X → X → Bool) → (Y → Y → Bool) → X × Y → X × Y → Bool
lex le then p q = cond (le p.0 q.0) (cond (le q.0 p.0) (then p.1 q.1) true) false

-- the larger first
abbrev pub flip : {X : Type 0} → (X → X → Bool) → X → X → Bool
flip le x y = le y x
