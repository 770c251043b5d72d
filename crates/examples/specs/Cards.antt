-- The cards of the worked examples, as bytes.
use Rattle.std.specs.Prelude.{◌∷◌, ◌++◌}
use Rattle.basics.specs.Words.{List, [], ℕ}

-- a set of symbols 0 to 7 as eight bytes, and an arc as twenty
abbrev pub set_bytes : ℕ → List ℕ
set_bytes set = set ∷ 0 ∷ 0 ∷ 0 ∷ 0 ∷ 0 ∷ 0 ∷ 0 ∷ []

abbrev pub arc_bytes : ℕ → ℕ → ℕ → ℕ → ℕ → List ℕ
arc_bytes from to marks inputs outputs = from ∷ to ∷ marks ∷ 0 ∷ (set_bytes inputs ++ set_bytes outputs)

-- card A: one final state, one arc, in {1}, out {1,2}
abbrev pub card_a : List ℕ
card_a = 1 ∷ 2 ∷ 6 ∷ 0 ∷ 23 ∷ 0 ∷ 1 ∷ 1 ∷ 1 ∷ 0 ∷ 0 ∷ 0 ∷ 0 ∷ 2 ∷ 0 ∷ 0 ∷ 0 ∷ 0 ∷ 0 ∷ 0 ∷ 0 ∷ 6 ∷ 0 ∷ 0 ∷ 0 ∷ 0 ∷ 0 ∷ 0 ∷ 0 ∷ []

-- card A with another arc, in {0}, out {1,2}, 0 marks
abbrev pub card_a_with_insertion : List ℕ
card_a_with_insertion = 1 ∷ 2 ∷ 6 ∷ 0 ∷ 43 ∷ 0 ∷ 1 ∷ 2 ∷ 1 ∷ (arc_bytes 0 0 0 2 6 ++ arc_bytes 0 0 0 1 6)

-- card B's machines: in {0,1,2} on every arc of the first, whose state 1 has a state byte
abbrev pub onset : ℕ → List ℕ
onset byte =
    2 ∷ 6 ∷ 1 ∷ byte ∷ (arc_bytes 0 0 0 7 1 ++ (arc_bytes 0 1 0 7 2 ++ (arc_bytes 0 0 1 7 4 ++ (arc_bytes 1 1 0 7 1 ++ (arc_bytes 1 1 0 7 2 ++ arc_bytes 1 0 0 7 4)))))

abbrev pub insertion : List ℕ
insertion = 1 ∷ 2 ∷ 1 ∷ (arc_bytes 0 0 0 6 7 ++ arc_bytes 0 0 1 1 6)

abbrev pub deletion : List ℕ
deletion = 1 ∷ 4 ∷ 1 ∷ (arc_bytes 0 0 0 2 2 ++ (arc_bytes 0 0 0 4 4 ++ (arc_bytes 0 0 0 1 6 ++ arc_bytes 0 0 1 6 1)))

-- card B: S = 2 (1 consonant, 2 vowel), K = 3, parts (14,124), (138,43), (181,83)
abbrev card_b_with : ℕ → List ℕ
card_b_with byte = 3 ∷ 2 ∷ 14 ∷ 0 ∷ 124 ∷ 0 ∷ 138 ∷ 0 ∷ 43 ∷ 0 ∷ 181 ∷ 0 ∷ 83 ∷ 0 ∷ (onset byte ++ (insertion ++ deletion))

abbrev pub card_b : List ℕ
card_b = card_b_with 1

-- card B with a mark for ending in state 1 of the first machine
abbrev pub card_b_with_ending : List ℕ
card_b_with_ending = card_b_with 2
