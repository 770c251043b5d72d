-- Texts as lists of bytes, and how they are cut.
use Rattle.std.specs.Prelude.{◌∷◌}
use Rattle.basics.specs.Words.{true, false, List, [], Option, some, none, ℕ, eqb}
use Prim.Native.Char.{code}
use Prim.Native.String.{String}

-- the bytes of a text in ASCII
abbrev pub text_of : String → List ℕ
text_of String.[] = []
text_of (String.◌∷◌ c text) = code c ∷ text_of text

abbrev pub space : ℕ
space = code " "

abbrev pub comma : ℕ
comma = code ","

abbrev pub line_end : ℕ
line_end = code "\n"

-- what stands before the first byte b; all of the text where there is none
unfoldable pub before : ℕ → List ℕ → List ℕ
before b [] = []
before b (x ∷ xs) = elim (eqb x b) [ true ↦ [] | false ↦ x ∷ before b xs ]

-- what stands after the first byte b; none where there is no such byte
unfoldable pub after : ℕ → List ℕ → Option (List ℕ)
after b [] = none
after b (x ∷ xs) = elim (eqb x b) [ true ↦ some xs | false ↦ after b xs ]

-- a byte put in front of the first text
abbrev pub to_first : ℕ → List (List ℕ) → List (List ℕ)
to_first x [] = (x ∷ []) ∷ []
to_first x (t ∷ ts) = (x ∷ t) ∷ ts

-- the segments between the bytes b: one more than there are bytes b
unfoldable pub segments : ℕ → List ℕ → List (List ℕ)
segments b [] = [] ∷ []
segments b (x ∷ xs) = elim (eqb x b) [ true ↦ [] ∷ segments b xs | false ↦ to_first x (segments b xs) ]
