-- How the check of a layout goes on and ends. Assumes nothing.
use Rattle.std.specs.Prelude.{◌≡◌, ◌&&◌, ◌+◌, ◌*◌, ◌<◌, ◌≤◌}
use Rattle.basics.proofs.Words.{refl, Bool, true, false, List, ℕ, length, eqb, leb, add-one, every_below, le-leb, lt-leb, one_below_fails}
use Rattle.layout.specs.Layout.{offset_of, length_of, due_offset, in_place, laid_out}

-- the next part has to start where part i ends
pub due_step : (n : ℕ) (bytes : List ℕ) (i : ℕ) → due_offset n bytes (i + 1) ≡ offset_of bytes i + length_of bytes i
unfolding due_offset
due_step n bytes i = rw (add-one i)

fails_second : (a b c : Bool) → b ≡ false → (a && b && c) ≡ false
fails_second true b c e = rw e
fails_second false b c e = refl

module _ (n : ℕ) (bytes : List ℕ) where
  -- no room for the places
  pub no_table : length bytes < 2 + 4 * n → laid_out n bytes ≡ false
  unfolding laid_out
  no_table h = rw (lt-leb (2 + 4 * n) (length bytes) h)

  -- a part that does not start where it has to
  pub out_of_place : (i : ℕ) → i < n → in_place n bytes i ≡ false → laid_out n bytes ≡ false
  unfolding laid_out
  out_of_place i h e =
      fails_second (leb (2 + 4 * n) (length bytes)) (every_below (in_place n bytes) n) (eqb (due_offset n bytes n) (length bytes))
      (one_below_fails (in_place n bytes) n i h e)

  -- each part starts where it has to: the end decides
  pub end_decides : 2 + 4 * n ≤ length bytes → every_below (in_place n bytes) n ≡ true → laid_out n bytes ≡ eqb (due_offset n bytes n) (length bytes)
  unfolding laid_out
  end_decides h e = rw (le-leb (2 + 4 * n) (length bytes) h, e)
