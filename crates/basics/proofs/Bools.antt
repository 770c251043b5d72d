-- Laws of tests and of their conjunctions. Assumes nothing.
use mathlib.Core.Path.{◌≡◌, refl, sym, ◌∙◌}
use mathlib.Core.Logic.{◌⊎◌, inl, inr}
use mathlib.Core.Bool.{Bool, true, false, ◌&&◌, ◌||◌, false≢true}

-- two tests that pass together are equal
pub same : (a b : Bool) → (a ≡ true → b ≡ true) → (b ≡ true → a ≡ true) → a ≡ b
same true true p q = refl
same true false p q = sym (p refl)
same false true p q = q refl
same false false p q = refl

-- a test does not both pass and fail
pub clash : {a : Bool} → a ≡ true → a ≡ false → ⊥
clash p q = false≢true (sym q ∙ p)

pub fails : (a : Bool) → (a ≡ true → ⊥) → a ≡ false
fails true p = absurd (p refl)
fails false p = refl

-- conjunctions
pub both : {a b : Bool} → a ≡ true → b ≡ true → (a && b) ≡ true
both p q = rw (p, q)

pub left : (a b : Bool) → (a && b) ≡ true → a ≡ true
left true b t = refl
left false b t = t

pub right : (a b : Bool) → (a && b) ≡ true → b ≡ true
right true b t = t
right false b t = absurd (false≢true t)

-- disjunctions
pub either : (a b : Bool) → (a || b) ≡ true → (a ≡ true) ⊎ (b ≡ true)
either true b t = inl refl
either false b t = inr t

pub neither : {a b : Bool} → a ≡ false → b ≡ false → (a || b) ≡ false
neither p q = rw (p, q)

pub left_fails : (a b : Bool) → (a || b) ≡ false → a ≡ false
left_fails true b t = t
left_fails false b t = refl

pub right_fails : (a b : Bool) → (a || b) ≡ false → b ≡ false
right_fails true b t = absurd (false≢true (sym t))
right_fails false b t = t
