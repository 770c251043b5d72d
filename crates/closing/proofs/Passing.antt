-- Labels passed on to the next position: a label or none, one code, and the loop over the codes. Assumes nothing.
use Rattle.std.specs.Prelude.{◌≡◌, ◌+◌, ◌-◌, ◌*◌, ◌%◌, ◌^◌, ◌<◌, ◌≤◌}
use Rattle.basics.proofs.Words.{refl, sym, ◌∙◌, ap, subst, List, ℕ, arith, length, get_or, length-set, dec_lt, ℕ_discrete, le-ltb, lt-ltb}
use Rattle.cells.specs.declared.Cell.{Cell}
use Rattle.cells.specs.Cells.{nowhere}
use Rattle.cells.specs.Labels.{no_label, cell_at, OwnCell, next_cell, NextFits}
use Rattle.cells.specs.Trying.{label_from}
use Rattle.cells.specs.Laws.Labels.{written, written_here, written_other}
use Rattle.cells.specs.Laws.Trying.{label_none}
use Rattle.closing.specs.Closing.{or_none, PassPre, Passed, PassAllPre, AllPassed}

-- ---- a label, or none

abbrev no_cell : Cell
no_cell = record { high = no_label; low = 0 }

module _ (x : Cell) where
  pub or_there : x.high < nowhere → or_none x ≡ x
  unfolding or_none
  or_there h = rw (lt-ltb x.high nowhere h)

  pub or_gone : nowhere ≤ x.high → or_none x ≡ record { high = no_label; low = 0 }
  unfolding or_none
  or_gone h = rw (le-ltb x.high nowhere h)

  same_label : label_from (or_none x) ≡ label_from x
  same_label = go (dec_lt x.high nowhere)
    where
      go : Dec (x.high < nowhere) → label_from (or_none x) ≡ label_from x
      go (yes k) = ap label_from (or_there k)
      go (no k) = ap label_from (or_gone (omega arith)) ∙ label_none no_cell (omega arith) ∙ sym (label_none x (omega arith))

  same_high : (or_none x).high < nowhere → (or_none x).high ≡ x.high
  same_high h = go (dec_lt x.high nowhere)
    where
      go : Dec (x.high < nowhere) → (or_none x).high ≡ x.high
      go (yes k) = ap (λ (y : Cell). y.high) (or_there k)
      go (no k) = absurd (let e : (or_none x).high ≡ no_label = ap (λ (y : Cell). y.high) (or_gone (omega arith)) in omega arith)

  own_cell : (x.high < nowhere → x.high % 256 ≡ 255) → OwnCell (or_none x)
  own_cell h = go (dec_lt x.high nowhere)
    where
      go : Dec (x.high < nowhere) → OwnCell (or_none x)
      go (yes k) = subst OwnCell (sym (or_there k)) (record { last = h k; most = omega arith; empty = λ e. absurd (omega arith) })
      go (no k) = subst OwnCell (sym (or_gone (omega arith))) (record { last = omega arith; most = omega arith; empty = λ e. refl })

  low_few : (x.high < nowhere → x.low + 2 ^ 56 ≤ 2 ^ 64) → (or_none x).low ≤ 2 ^ 64 - 2 ^ 56
  low_few h = go (dec_lt x.high nowhere)
    where
      go : Dec (x.high < nowhere) → (or_none x).low ≤ 2 ^ 64 - 2 ^ 56
      go (yes k) = let e : (or_none x).low ≡ x.low = ap (λ (y : Cell). y.low) (or_there k) in omega (arith, h k)
      go (no k) = let e : (or_none x).low ≡ 0 = ap (λ (y : Cell). y.low) (or_gone (omega arith)) in omega arith

-- a code is taken off a label
code_fits : (x : Cell) (c : ℕ) → OwnCell x → c < 128 → c ≤ x.high
code_fits x c o k = omega (arith, o.last)

-- ---- passed on

module _ (own next : List ℕ) (c : ℕ) (P : PassPre own next c) (x : Cell) (is : x ≡ or_none (cell_at own c)) where
  pub at_least : c ≤ x.high
  at_least = subst (λ (y : Cell). c ≤ y.high) (sym is) (code_fits (or_none (cell_at own c)) c (own_cell (cell_at own c) P.last) P.few)

  abbrev less : Cell
  less = record { high = x.high - c; low = x.low }

  pub passed : Passed own (written own c no_cell) next (written next c less) c
  passed = record {
    own_size = simp length-set;
    next_size = simp length-set;
    passed = back ∙ is;
    blank = written_here own c no_cell (omega (arith, P.few, P.own_size));
    own_others = written_other own c no_cell;
    next_others = written_other next c less;
  }
    where
      back : next_cell (written next c less) c ≡ x
      back =
          let e = written_here next c less (omega (arith, P.few, P.next_size)) in
          let q : x.high - c + c ≡ x.high = omega (arith, at_least) in
          (λ i. record { high = (e i).high + c; low = (e i).low }) ∙ (λ i. record { high = q i; low = x.low })

-- ---- the loop: the codes below n are passed on

pub record CodePassed (own own' next : List ℕ) (c : ℕ) : Type 0 where
  pub next_is : next_cell next c ≡ or_none (cell_at own c)
  pub blank : cell_at own' c ≡ record { high = no_label; low = 0 }

pub record PassedBelow (own own' next next' : List ℕ) (n : ℕ) : Type 0 where
  pub own_size : length own' ≡ 256
  pub next_size : length next' ≡ 256
  pub done : (c : ℕ) → c < n → CodePassed own own' next' c
  pub own_rest : (c : ℕ) → n ≤ c → cell_at own' c ≡ cell_at own c
  pub next_rest : (c : ℕ) → n ≤ c → cell_at next' c ≡ cell_at next c

module _ (own next : List ℕ) (P : ℕ) (pre : PassAllPre own next P) where
  pub passed_start : PassedBelow own own next next 0
  passed_start = record { own_size = pre.own_size; next_size = pre.next_size; done = λ c h. absurd (omega arith); own_rest = λ c h. refl; next_rest = λ c h. refl }

  module _ (own' next' : List ℕ) (n : ℕ) (B : PassedBelow own own' next next' n) where
    pub pass_pre : n < P → PassPre own' next' n
    pass_pre k = record {
      few = omega (arith, pre.few);
      own_size = B.own_size;
      next_size = B.next_size;
      last = subst (λ (x : Cell). x.high < nowhere → x.high % 256 ≡ 255) (sym (B.own_rest n (omega arith))) (pre.last n k);
    }

    pub passed_next : (own'' next'' : List ℕ) → Passed own' own'' next' next'' n → PassedBelow own own'' next next'' (n + 1)
    passed_next own'' next'' Q = record {
      own_size = Q.own_size ∙ B.own_size;
      next_size = Q.next_size ∙ B.next_size;
      done = λ c h. done c h (ℕ_discrete c n);
      own_rest = λ c h. Q.own_others c (λ e. omega arith) ∙ B.own_rest c (omega arith);
      next_rest = λ c h. Q.next_others c (λ e. omega arith) ∙ B.next_rest c (omega arith);
    }
      where
        done : (c : ℕ) → c < n + 1 → Dec (c ≡ n) → CodePassed own own'' next'' c
        done c h (yes e) = subst (CodePassed own own'' next'') (sym e) (record { next_is = Q.passed ∙ ap or_none (B.own_rest n (omega arith)); blank = Q.blank })
        done c h (no d) =
            let q = Q.next_others c d in
            let D = B.done c (omega arith) in
            record { next_is = (λ i. record { high = (q i).high + c; low = (q i).low }) ∙ D.next_is; blank = Q.own_others c d ∙ D.blank }

  module _ (own' next' : List ℕ) (B : PassedBelow own own' next next' P) where
    cells_own : (c : ℕ) → c < P → OwnCell (next_cell next' c)
    cells_own c k = subst OwnCell (sym (B.done c k).next_is) (own_cell (cell_at own c) (pre.last c k))

    lows_few : (c : ℕ) → c < P → get_or next' (c * 2 + 1) 0 ≤ 2 ^ 64 - 2 ^ 56
    lows_few c k = subst (λ (x : Cell). x.low ≤ 2 ^ 64 - 2 ^ 56) (sym (B.done c k).next_is) (low_few (cell_at own c) (pre.low c k))

    fits : NextFits next → NextFits next'
    fits F = record { highs = λ i. high i (dec_lt i P); lows = λ i. low i (dec_lt i P) }
      where
        high : (i : ℕ) → Dec (i < P) → get_or next' (i * 2) 0 ≤ no_label
        high i (yes k) = omega (arith, (cells_own i k).most)
        high i (no k) = subst (λ (x : Cell). x.high ≤ no_label) (sym (B.next_rest i (omega arith))) (F.highs i)

        low : (i : ℕ) → Dec (i < P) → get_or next' (i * 2 + 1) 0 ≤ 2 ^ 64 - 2 ^ 56
        low i (yes k) = lows_few i k
        low i (no k) = subst (λ (x : Cell). x.low ≤ 2 ^ 64 - 2 ^ 56) (sym (B.next_rest i (omega arith))) (F.lows i)

    pub passed_end : AllPassed own own' next next' P
    passed_end = record {
      labels = cells_own;
      same = λ c k. ap label_from (B.done c k).next_is ∙ same_label (cell_at own c);
      high_same = λ c k. subst (λ (x : Cell). x.high < nowhere → x.high ≡ (cell_at own c).high) (sym (B.done c k).next_is) (same_high (cell_at own c));
      fits = fits;
      blank = λ c k. (B.done c k).blank;
      own_size = B.own_size;
      next_size = B.next_size;
    }
