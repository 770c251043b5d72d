-- Laws of the texts before and after a byte and of the segments, by the text's first byte.
use Rattle.std.specs.Prelude.{◌≡◌, ◌∷◌}
use Rattle.basics.specs.Words.{refl, true, false, List, [], some, none, ℕ, eqb}
use Rattle.writing.specs.Text.{before, after, to_first, segments}

-- the empty text
module _ (b : ℕ) where
  pub before_nil : before b [] ≡ []
  unfolding before
  before_nil = refl

  pub after_nil : after b [] ≡ none
  unfolding after
  after_nil = refl

  pub segments_nil : segments b [] ≡ [] ∷ []
  unfolding segments
  segments_nil = refl

-- a text that starts with the byte, and one that starts with another
module _ (b x : ℕ) (xs : List ℕ) where
  module _ (e : eqb x b ≡ true) where
    pub before_hit : before b (x ∷ xs) ≡ []
    unfolding before
    before_hit = rw (before, e)

    pub after_hit : after b (x ∷ xs) ≡ some xs
    unfolding after
    after_hit = rw (after, e)

    pub segments_hit : segments b (x ∷ xs) ≡ [] ∷ segments b xs
    unfolding segments
    segments_hit = rw (segments, e)

  module _ (e : eqb x b ≡ false) where
    pub before_miss : before b (x ∷ xs) ≡ x ∷ before b xs
    unfolding before
    before_miss = rw (before, e)

    pub after_miss : after b (x ∷ xs) ≡ after b xs
    unfolding after
    after_miss = rw (after, e)

    pub segments_miss : segments b (x ∷ xs) ≡ to_first x (segments b xs)
    unfolding segments
    segments_miss = rw (segments, e)
