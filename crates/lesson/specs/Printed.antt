-- What the program prints for a line.
use Rattle.std.specs.Prelude.{◌≡◌, ◌≤◌}
use Rattle.basics.specs.Words.{List, Option, some, none, ℕ, length, replicate}
use Rattle.card.specs.Layout.{machine_count}
use Rattle.product.specs.Optimizing.{optimized, optimized_answer}
use Rattle.writing.specs.Buffers.{at_front}
use Rattle.lines.specs.Parsing.{Request, parsed_line}
use Rattle.writing.specs.Writing.{bad_line, line_of}

-- the line of the optimizer's answer, which is lent 25,600 work numbers and 6,398 answer bytes
unfoldable pub best_line : List ℕ → List ℕ → List ℕ → List ℕ
best_line card ranking word =
    line_of (machine_count card) (optimized card ranking word 25600 6398) (optimized_answer card ranking word 25600 (replicate 6398 0))

-- what a line asks for is looked at whatever the card is; a line of another form is a bad line
abbrev pub reply : List ℕ → Option Request → List ℕ
reply card none = bad_line
reply card (some request) = best_line card request.ranking request.word

abbrev pub printed : List ℕ → List ℕ → List ℕ
printed card line = reply card (parsed_line line)

-- a text written to the front of a slice, which has room for it, and its length answered
pub record Prints (text old new : List ℕ) (r : ℕ) : Type 0 where
  pub size : r ≡ length text
  pub bytes : new ≡ at_front text old
  pub fits : r ≤ length new
