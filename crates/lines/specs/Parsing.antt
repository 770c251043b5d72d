-- An input line: ranking digits, a space, symbols in decimal with commas, or none.
use Rattle.std.specs.Prelude.{◌&&◌, ◌∷◌}
use Rattle.std.specs.Prelude.{Option as Answer, Some, None}
use Rattle.basics.specs.Words.{Bool, true, false, List, [], map, Option, some, none, ℕ, length, leb, all_of}
use Rattle.lines.specs.declared.Parsed.{Parsed}
use Rattle.writing.specs.Text.{space, comma, before, after, segments}
use Rattle.writing.specs.Decimal.{is_digit, digit_value, value_of}

-- a ranking is 1 to 9 digits
unfoldable pub is_ranking_text : List ℕ → Bool
is_ranking_text text = leb 1 (length text) && leb (length text) 9 && all_of is_digit text

-- a symbol is 1 to 3 digits and at most 255
unfoldable pub is_symbol_text : List ℕ → Bool
is_symbol_text text = leb 1 (length text) && leb (length text) 3 && all_of is_digit text && leb (value_of text) 255

-- a word is symbols with commas between them; the empty text is the empty word
unfoldable pub symbols_in : List ℕ → List (List ℕ)
symbols_in [] = []
symbols_in (x ∷ xs) = segments comma (x ∷ xs)

abbrev pub is_word_text : List ℕ → Bool
is_word_text text = all_of is_symbol_text (symbols_in text)

-- what a line asks for
pub record Request : Type 0 where
  pub ranking : List ℕ
  pub word : List ℕ

-- each digit is a machine's number
abbrev pub request_of : List ℕ → List ℕ → Request
request_of digits symbols = record { ranking = map digit_value digits; word = map value_of (symbols_in symbols) }

-- the parts of a line: the text before its first space and, if it has a space, the text after it
abbrev pub parsed_parts : List ℕ → Option (List ℕ) → Option Request
parsed_parts digits none = none
parsed_parts digits (some symbols) = elim (is_ranking_text digits && is_word_text symbols) [ true ↦ some (request_of digits symbols) | false ↦ none ]

-- a line, given without its line end; none is a bad line: another form, or over 200 bytes
unfoldable pub parsed_line : List ℕ → Option Request
parsed_line line = elim (leb (length line) 200) [ true ↦ parsed_parts (before space line) (after space line) | false ↦ none ]

-- what parsing answers of a line, and what it writes: of a bad line nothing
abbrev pub parsed_answer : Option Request → Answer Parsed
parsed_answer none = None
parsed_answer (some request) = Some (record { ranking = length request.ranking; word = length request.word })

abbrev pub ranking_of : Option Request → List ℕ
ranking_of none = []
ranking_of (some request) = request.ranking

abbrev pub word_of : Option Request → List ℕ
word_of none = []
word_of (some request) = request.word
