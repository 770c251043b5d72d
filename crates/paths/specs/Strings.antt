-- Lists of pairs of numbers, compared pair by pair or as the strings of their numbers: the order is the same.
use Rattle.std.specs.Prelude.{◌≡◌, ◌↔◌, List, [], ◌∷◌, ℕ, ◌<◌}
use Rattle.std.proofs.Common.{ap, inl, inr}
use Rattle.paths.specs.Total.{Then, Lex, On}

module _ {A : Type 0} (first second : A → ℕ) where
  -- the two numbers of each, one after the other
  abbrev pub string : List A → List ℕ
  string [] = []
  string (a ∷ l) = first a ∷ second a ∷ string l

  -- by the first number, and then by the second
  abbrev pub ByNumbers : A → A → Type 0
  ByNumbers = On (λ a. (first a, second a)) (Then ◌<◌ ◌<◌)

  module _ (injective : (a b : A) → first a ≡ first b → second a ≡ second b → a ≡ b) where
    pub lex_string : (l m : List A) → Lex ByNumbers l m ↔ Lex ◌<◌ (string l) (string m)
    lex_string l m = (to l m, from l m)
      where
        to : (l m : List A) → Lex ByNumbers l m → Lex ◌<◌ (string l) (string m)
        to [] [] h = elim h [ ]
        to [] (b ∷ m) h = tt
        to (a ∷ l) [] h = elim h [ ]
        to (a ∷ l) (b ∷ m) (inl (inl h)) = inl h
        to (a ∷ l) (b ∷ m) (inl (inr h)) = inr (h.0, inl h.1)
        to (a ∷ l) (b ∷ m) (inr h) = inr (ap first h.0, inr (ap second h.0, to l m h.1))

        from : (l m : List A) → Lex ◌<◌ (string l) (string m) → Lex ByNumbers l m
        from [] [] h = elim h [ ]
        from [] (b ∷ m) h = tt
        from (a ∷ l) [] h = elim h [ ]
        from (a ∷ l) (b ∷ m) (inl h) = inl (inl h)
        from (a ∷ l) (b ∷ m) (inr (e, inl h)) = inl (inr (e, h))
        from (a ∷ l) (b ∷ m) (inr (e, inr (k, h))) = inr (injective a b e k, from l m h)
