-- Lexicographic orders of lawful parts are lawful.
use Rattle.std.specs.Prelude.{◌≡◌, Bool, true, false, cond, int_le, nat_le, refl}
use Rattle.std.proofs.Common.{arith}
use Rattle.std.proofs.lemmas.Bool.Decides.{nat_tests}
use Rattle.std.proofs.lemmas.Int.{ints}
use Rattle.records.specs.Linear.{Linear, lex, flip}

pub nat_linear : Linear nat_le
nat_linear = record {
  total = λ x y. grind (arith, nat_tests);
  trans = λ x y z p q. grind (arith, nat_tests);
  antisym = λ x y p q. grind (arith, nat_tests);
}

pub int_linear : Linear int_le
int_linear = record {
  total = λ x y. grind (arith, ints);
  trans = λ x y z p q. grind (arith, ints);
  antisym = λ x y p q. grind (arith, ints);
}

pub flip_linear : {X : Type 0} {le : X → X → Bool} → Linear le → Linear (flip le)
flip_linear l = record {
  total = λ x y. l.total y x;
  trans = λ x y z p q. l.trans z y x q p;
  antisym = λ x y p q. l.antisym x y q p;
}

-- the step from x by y to z: a and a' compare x with y, b and b' y with z, c and c' x with z
lex_step : (a a' b b' c c' s t u : Bool) → (a ≡ true → b ≡ true → c ≡ true) → (c' ≡ true → a ≡ true → b' ≡ true) → (b ≡ true → c' ≡ true → a' ≡ true) → (s ≡ true → t ≡ true → u ≡ true) → cond a (cond a' s true) false ≡ true → cond b (cond b' t true) false ≡ true → cond c (cond c' u true) false ≡ true
lex_step false a' b b' c c' s t u f g h k p q = grind arith
lex_step true a' false b' c c' s t u f g h k p q = grind arith
lex_step true a' true b' c false s t u f g h k p q = rw (f refl refl)
lex_step true a' true b' c true s t u f g h k p q =
    let p' = rw (h refl refl) at p in
    let q' = rw (g refl refl) at q in
    rw (f refl refl, k p' q')

module _ {X Y : Type 0} {le : X → X → Bool} {then : Y → Y → Bool} (l : Linear le) (m : Linear then) where
  pub lex_linear : Linear (lex le then)
  lex_linear = record {
    total = λ x y. grind (arith, l.total x.0 y.0, m.total x.1 y.1);
    trans = λ x y z. lex_step _ _ _ _ _ _ _ _ _ (l.trans x.0 y.0 z.0) (l.trans z.0 x.0 y.0) (l.trans y.0 z.0 x.0) (m.trans x.1 y.1 z.1);
    antisym = λ x y p q. grind (arith, l.antisym x.0 y.0, m.antisym x.1 y.1);
  }

-- an order by a key that tells the values apart
pub by_key : {X K : Type 0} (key : X → K) → ((x y : X) → key x ≡ key y → x ≡ y) → {le : K → K → Bool} → Linear le → Linear (λ x y. le (key x) (key y))
by_key key apart l = record {
  total = λ x y. l.total (key x) (key y);
  trans = λ x y z. l.trans (key x) (key y) (key z);
  antisym = λ x y p q. apart x y (l.antisym (key x) (key y) p q);
}
