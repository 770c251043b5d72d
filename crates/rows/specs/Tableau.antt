-- The layout of a tableau: rows, the row that is claimed to win, and of each row its counts and its candidate.
use Rattle.std.specs.Prelude.{◌&&◌, ◌∷◌}
use Rattle.basics.specs.Words.{Bool, List, [], ℕ, length, get_or, drop, eqb, leb, ltb, all_of, every_below}
use Rattle.layout.specs.Layout.{short_at, laid_out, part_of}

-- R, rows, and the claimed winner's row, from 0
abbrev pub row_count : List ℕ → ℕ
row_count tableau = get_or tableau 0 0

abbrev pub claimed_row : List ℕ → ℕ
claimed_row tableau = get_or tableau 1 0

-- the bytes of row i
abbrev pub row_of : List ℕ → ℕ → List ℕ
row_of tableau i = part_of tableau i

-- a row's six counts, in card order
abbrev pub counts_of : List ℕ → List ℕ
counts_of row = short_at row 0 ∷ short_at row 2 ∷ short_at row 4 ∷ short_at row 6 ∷ short_at row 8 ∷ short_at row 10 ∷ []

-- a row's candidate, as bytes
abbrev pub candidate_of : List ℕ → List ℕ
candidate_of row = drop 12 row

-- every row passes
abbrev pub every_row : (List ℕ → Bool) → List ℕ → Bool
every_row f tableau = every_below (λ i. f (row_of tableau i)) (row_count tableau)

-- at least 12 bytes, and the counts from K on are 0
unfoldable pub sound_row : ℕ → List ℕ → Bool
sound_row K row = leb 12 (length row) && all_of (λ n. eqb n 0) (drop K (counts_of row))

-- 1 to 32 rows, the claimed one among them
abbrev pub sound_head : List ℕ → Bool
sound_head tableau = leb 1 (row_count tableau) && leb (row_count tableau) 32 && ltb (claimed_row tableau) (row_count tableau)

-- not refusal 19, for a card of K machines
unfoldable pub sound_tableau : ℕ → List ℕ → Bool
sound_tableau K tableau =
    leb 2 (length tableau) && sound_head tableau && laid_out (row_count tableau) tableau && every_row (sound_row K) tableau
