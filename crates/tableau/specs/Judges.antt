-- The contract of the call.
use Rattle.std.specs.Prelude.{◌≡◌, ◌≢◌}
use Rattle.basics.specs.Words.{List, ℕ, length}
use Rattle.product.specs.Optimizing.{input_refusal}
use Rattle.tableau.specs.declared.Judged.{Judged}
use Rattle.tableau.specs.Judging.{judging}

-- the result is what the definition gives from the input. The work slice keeps its length; where the numbers 1 to 9 are answered it keeps its
-- contents, and otherwise its contents at exit are left open
pub record Judges (card ranking word work workAfter tableau : List ℕ) (r : Judged) : Type 0 where
  pub result : r ≡ judging card ranking word (length work) tableau
  pub work_length : length workAfter ≡ length work
  pub work_kept : input_refusal card ranking word (length work) ≢ 0 → workAfter ≡ work
