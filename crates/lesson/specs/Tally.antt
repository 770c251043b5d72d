-- A lesson's lines counted one after another, and what is then printed.
use Rattle.std.specs.Prelude.{◌∷◌, ◌++◌}
use Rattle.basics.specs.Words.{Bool, true, false, List, [], Option, some, none, ℕ, zero, suc, take}
use Rattle.card.specs.Layout.{machine_count}
use Rattle.card.specs.Card.{card_refusal}
use Rattle.candidate.specs.declared.Evaluation.{Evaluation}
use Rattle.product.specs.Optimizing.{optimized}
use Rattle.lines.specs.Parsing.{Request, parsed_line}
use Rattle.writing.specs.Writing.{refused_line, closing_lines}
use Rattle.tally.specs.declared.Tally.{Tally}
use Rattle.lesson.specs.Printed.{printed}
pub use Rattle.tally.specs.Tally.{told, no_lines, counted, passed, Fits}
unfoldable pub use Rattle.tally.specs.Tally.{added, is_full}

-- the counts of an answer in card order, unused places 0; a refusal has none
unfoldable pub counts_of : Evaluation → Option (List ℕ)
counts_of evaluation = elim evaluation.number [ zero ↦ some evaluation.profile.counts | suc n ↦ none ]

-- the counts of the optimizer's answer, as the program lends it its slices
abbrev pub best_counts : List ℕ → List ℕ → List ℕ → Option (List ℕ)
best_counts card ranking word = counts_of (optimized card ranking word 25600 6398)

-- the counts in the answer to a line; a bad line has none
abbrev pub request_counts : List ℕ → Option Request → Option (List ℕ)
request_counts card none = none
request_counts card (some request) = best_counts card request.ranking request.word

abbrev pub line_counts : List ℕ → List ℕ → Option (List ℕ)
line_counts card line = request_counts card (parsed_line line)

-- the tally after a line: past the thousandth nothing is counted
unfoldable pub line_tally : List ℕ → Tally → List ℕ → Tally
line_tally card t line = elim (is_full t) [ true ↦ passed t | false ↦ counted t (line_counts card line) ]

-- the first line past the thousandth prints the refusal, and those after it nothing
abbrev pub past_text : Bool → List ℕ
past_text false = refused_line 22
past_text true = []

-- what is printed for a line
unfoldable pub line_text : List ℕ → Tally → List ℕ → List ℕ
line_text card t line = elim (is_full t) [ true ↦ past_text t.past | false ↦ printed card line ]

-- lines one after another: the tally after them, and what is printed for them
unfoldable pub lines_tally : List ℕ → Tally → List (List ℕ) → Tally
lines_tally card t [] = t
lines_tally card t (l ∷ ls) = lines_tally card (line_tally card t l) ls

unfoldable pub lines_text : List ℕ → Tally → List (List ℕ) → List ℕ
lines_text card t [] = []
lines_text card t (l ∷ ls) = line_text card t l ++ lines_text card (line_tally card t l) ls

-- as many totals are printed as the card has machines; of a refused card none
unfoldable pub shown_machines : List ℕ → ℕ
shown_machines card = elim (card_refusal card) [ zero ↦ machine_count card | suc n ↦ 0 ]

-- what is printed after the last line
unfoldable pub closing_text : List ℕ → Tally → List ℕ
closing_text card t = closing_lines t.answered t.refused (take (shown_machines card) t.totals)
