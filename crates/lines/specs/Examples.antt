-- The fourth example of the ten, as the program reads and prints it, and lines of the empty word.
use Rattle.std.specs.Prelude.{◌≡◌, ◌∷◌}
use Rattle.basics.specs.Words.{refl, [], some, none, joined, all_of}
use Rattle.candidate.specs.Candidates.{pairs_of}
use Rattle.writing.specs.Text.{before, after, segments, text_of}
use Rattle.writing.specs.Decimal.{digits_within, decimal, value_from}
use Rattle.lines.specs.Parsing.{is_ranking_text, is_symbol_text, symbols_in, parsed_line}
use Rattle.writing.specs.Writing.{next_count, with_commas, pair_text, pairs_text, accepted_line, line_of}

pub line_read : parsed_line (text_of "021 2") ≡ some (record { ranking = 0 ∷ 2 ∷ 1 ∷ []; word = 2 ∷ [] })
unfolding parsed_line before after is_ranking_text is_symbol_text symbols_in all_of segments value_from
line_read = refl

-- ranking digits and exactly one space give the empty word; no space, or two, is a bad line
pub empty_word_read : parsed_line (text_of "012 ") ≡ some (record { ranking = 0 ∷ 1 ∷ 2 ∷ []; word = [] })
unfolding parsed_line before after is_ranking_text is_symbol_text symbols_in all_of segments value_from
empty_word_read = refl

pub no_space_read : parsed_line (text_of "012") ≡ none
unfolding parsed_line before after
no_space_read = refl

pub two_spaces_read : parsed_line (text_of "012  ") ≡ none
unfolding parsed_line before after is_ranking_text is_symbol_text symbols_in all_of segments value_from
two_spaces_read = refl

-- the counts 0, 1, 0 of three machines, and the two pairs at the front of a longer answer slice
pub line_printed : line_of 3 (record { number = 0; profile = record { counts = 0 ∷ 1 ∷ 0 ∷ 0 ∷ 0 ∷ 0 ∷ [] }; pairs = 2; word_length = 1 }) (0 ∷ 1 ∷ 2 ∷ 2 ∷ 9 ∷ 9 ∷ [])
    ≡ text_of "0,1,0 0:1 2:2\n"
unfolding line_of accepted_line next_count with_commas pair_text pairs_text pairs_of joined decimal digits_within
line_printed = refl

-- a line with no pairs ends after the counts
pub no_pairs_printed : line_of 3 (record { number = 0; profile = record { counts = 0 ∷ 0 ∷ 0 ∷ 0 ∷ 0 ∷ 0 ∷ [] }; pairs = 0; word_length = 0 }) (9 ∷ 9 ∷ []) ≡ text_of "0,0,0\n"
unfolding line_of accepted_line next_count with_commas pair_text pairs_text pairs_of joined decimal digits_within
no_pairs_printed = refl
