use Rattle.std.proofs.Common.{◌≡◌, ◌+◌, ◌-◌, true, false, length, get_or, take, sym, ap, ◌∙◌, subst, arith}
use Rattle.std.specs.List.{AllByRecursion as All}
use Rattle.std.proofs.lemmas.List.{get_or_read, get_or_default, length-take-le}
use Rattle.standing.proofs.Replacing.{front, down_turn, down_end, last_at, up_to}
use Rattle.cells.proofs.replace_last.Goals as goal
use Rattle.cells.proofs.replace_last.Goals.{then-loop-k-test+else-not-no_later, else-loop-k-test}

pub loop-k-preserved : goal.loop-k-preserved
loop-k-preserved g c =
    let E = c.args.cells.now in
    let k = c.loop-k.k in
    let x = c.args.x in
    let le = g.R.Record.order in
    let inv = c.loop-k.invariant in
    let y = c.index-cells-k-in-loop-k.result in
    let n : length c.loop-k.cells ≡ length E = omega arith in
    let t = down_turn E c.loop-k.cells k y n c.loop-k-test.true inv.0 inv.1 inv.2 c.index-cells-k-in-loop-k.is in
    let seen = c.index-cells-k.result in
    let one : get_or c.loop-k.cells (k - 1) seen ≡ y = get_or_default c.loop-k.cells (k - 1) seen y (omega arith) ∙ sym c.index-cells-k-in-loop-k.is in
    let after : le y x ≡ false = sym (c.if-not-no_later.ensures ∙ ap (λ v. le v x) one) in
    (omega arith, t.0, t.1, subst (All (λ z. le z x ≡ false)) (sym t.2) (after, inv.3))

pub returns : goal.returns
returns g c =
    let E = c.args.cells.now in
    let k = c.loop-k.k in
    let x = c.args.x in
    let le = g.R.Record.order in
    let l = g.met.R.Record.linear in
    let inv = c.loop-k.invariant in
    let n : length c.loop-k.cells ≡ length E = omega arith in
    let lT : length (front E) ≡ length E - 1 = length-take-le (length E - 1) E (omega arith) in
    let before : All (λ y. le y x ≡ true) (take k (front E)) =
    elim c.loop-k-test.branch [
      | then-loop-k-test+else-not-no_later w ↦
          let y = w.index-cells-k.result in
          let q : k - 1 + 1 ≡ k = omega arith in
          subst (λ v. All (λ y. le y x ≡ true) (take v (front E))) q
          (up_to le l (front E) (k - 1) x y c.requires.ascending (omega arith) (w.index-cells-k.is ∙ last_at E c.loop-k.cells k y w.loop-k-test.true inv.0 inv.1) (sym (w.if-not-no_later.ensures ∙ ap (λ v. le v x) (sym w.index-cells-k.is))))
      | else-loop-k-test w ↦ let z : 0 ≡ k = omega arith in subst (λ v. All (λ y. le y x ≡ true) (take v (front E))) z tt
    ] in
    record {
      cells = down_end le l E c.loop-k.cells k x n inv.0 c.requires.ascending inv.1 inv.2 inv.3 before;
      out = λ d. get_or_read E (length E - 1) c.index-cells-n.result (omega arith) c.index-cells-n.is d;
    }
