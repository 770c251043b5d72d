-- The lesser of two cells, and the least of several.
use Rattle.std.specs.Prelude.{◌≡◌, ◌+◌, ◌<◌, ◌≤◌}
use Rattle.basics.specs.Words.{refl, ℕ, arith, add-one}
use borrow.Author.Tests.{le-ltb, lt-ltb, eq-eqb, ne_eqb}
use Rattle.cells.specs.declared.Cell.{Cell}
use Rattle.lanes.specs.Trying.{lesser, least_of}

module _ (w x : Cell) where
  pub keeps_high : x.high < w.high → lesser w x ≡ x
  unfolding lesser
  keeps_high h = rw (le-ltb w.high x.high (omega arith), ne_eqb w.high x.high (λ e. omega arith))

  pub keeps_low : w.high ≡ x.high → x.low ≤ w.low → lesser w x ≡ x
  unfolding lesser
  keeps_low e h = rw (le-ltb w.high x.high (omega arith), eq-eqb w.high x.high e, le-ltb w.low x.low h)

  pub falls_high : w.high < x.high → lesser w x ≡ w
  unfolding lesser
  falls_high h = rw (lt-ltb w.high x.high h)

  pub falls_low : w.high ≡ x.high → w.low < x.low → lesser w x ≡ w
  unfolding lesser
  falls_low e h = rw (le-ltb w.high x.high (omega arith), eq-eqb w.high x.high e, lt-ltb w.low x.low h)

pub least_none : (f : ℕ → Cell) (x : Cell) → least_of f 0 x ≡ x
unfolding least_of
least_none f x = refl

pub least_next : (f : ℕ → Cell) (n : ℕ) (x : Cell) → least_of f (n + 1) x ≡ lesser (f n) (least_of f n x)
unfolding least_of
least_next f n x = rw add-one refl
