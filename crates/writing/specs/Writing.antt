-- The lines that the program prints.
use Rattle.std.specs.Prelude.{◌∷◌, ◌++◌, ◌*◌}
use Rattle.basics.specs.Words.{List, [], ℕ, zero, suc, take, joined}
use Rattle.candidate.specs.declared.Evaluation.{Evaluation}
use Rattle.candidate.specs.Candidates.{pairs_of}
use Rattle.writing.specs.Text.{text_of}
use Rattle.writing.specs.Decimal.{decimal}

-- a comma and a number
unfoldable pub next_count : ℕ → List ℕ
next_count n = text_of "," ++ decimal n

-- numbers with commas between them
unfoldable pub with_commas : List ℕ → List ℕ
with_commas [] = []
with_commas (n ∷ ns) = decimal n ++ joined next_count ns

-- a text with its line end
abbrev pub with_line_end : List ℕ → List ℕ
with_line_end text = text ++ text_of "\n"

unfoldable pub bad_line : List ℕ
bad_line = with_line_end (text_of "bad line")

unfoldable pub refused_line : ℕ → List ℕ
refused_line number = with_line_end (text_of "refused " ++ decimal number)

-- a space and `in:out`
unfoldable pub pair_text : ℕ → ℕ → List ℕ
pair_text x y = text_of " " ++ decimal x ++ text_of ":" ++ decimal y

-- the pairs of a byte string
unfoldable pub pairs_text : List ℕ → List ℕ
pairs_text bytes = joined (λ p. pair_text p.input p.output) (pairs_of bytes)

-- an accepted answer: the counts with commas; then for each pair a space and `in:out`
unfoldable pub accepted_line : List ℕ → List ℕ → List ℕ
accepted_line counts bytes = with_line_end (with_commas counts ++ pairs_text bytes)

-- the line of an answer, for a card of K machines: of number 0 the counts in card order and the pairs, which fill the front of
-- the answer slice; of another number the refusal
unfoldable pub line_of : ℕ → Evaluation → List ℕ → List ℕ
line_of K evaluation answer =
    elim evaluation.number [
      | zero ↦ accepted_line (take K evaluation.profile.counts) (take (2 * evaluation.pairs) answer)
      | suc n ↦ refused_line (suc n)
    ]

-- `answered a refused r`
unfoldable pub answered_line : ℕ → ℕ → List ℕ
answered_line answered refused = with_line_end (text_of "answered " ++ decimal answered ++ text_of " refused " ++ decimal refused)

-- `total` and the totals with commas; where there are none `total` alone
unfoldable pub total_line : List ℕ → List ℕ
total_line [] = with_line_end (text_of "total")
total_line (n ∷ ns) = with_line_end (text_of "total " ++ with_commas (n ∷ ns))

-- the two lines under a lesson's lines
unfoldable pub closing_lines : ℕ → ℕ → List ℕ → List ℕ
closing_lines answered refused totals = answered_line answered refused ++ total_line totals
