-- Going through a set, the least symbol first, with one number for each symbol: what is new at the symbols passed. Assumes nothing.
use Rattle.std.specs.Prelude.{◌≡◌, ◌&&◌, ◌≤◌}
use Rattle.basics.proofs.Words.{refl, ◌∙◌, ap, Bool, true, false, cond, not, ℕ, arith, eqb, ℕ_discrete, member, eq-eqb, ne_eqb, clash, no_member}

-- the symbols of the set that are not left have their new numbers, and all others the old ones
pub record Passed (old new now : ℕ → ℕ) (set left : ℕ) : Type 0 where
  pub some_left : (k : ℕ) → member left k ≡ true → member set k ≡ true
  pub entry : (k : ℕ) → now k ≡ cond (member set k && not (member left k)) (new k) (old k)

pub with_true : (b : Bool) → (b && true) ≡ b
with_true true = refl
with_true false = refl

module _ (old new : ℕ → ℕ) (set : ℕ) where
  pub passed_none : Passed old new old set set
  passed_none = record { some_left = λ k t. t; entry = λ k. at k (member set k) refl }
    where
      at : (k : ℕ) (b : Bool) → member set k ≡ b → old k ≡ cond (member set k && not (member set k)) (new k) (old k)
      at k true t = rw t
      at k false t = rw t

  module _ (now : ℕ → ℕ) (left : ℕ) (p : Passed old new now set left) where
    -- a symbol that is left has its old number
    pub still_old : (y : ℕ) → member left y ≡ true → now y ≡ old y
    still_old y t = let s = p.some_left y t in p.entry y ∙ (rw (s, t))

    -- one symbol more
    pub passed_next : (later : ℕ → ℕ) (after y : ℕ) → member left y ≡ true → ((k : ℕ) → member after k ≡ (member left k && not (eqb k y)))
        → later y ≡ new y → ((k : ℕ) → (k ≡ y → ⊥) → later k ≡ now k) → Passed old new later set after
    passed_next later after y t f e o = record { some_left = λ k. still k (member left k) refl; entry = λ k. at k (ℕ_discrete k y) }
      where
        still : (k : ℕ) (b : Bool) → member left k ≡ b → member after k ≡ true → member set k ≡ true
        still k true q r = p.some_left k q
        still k false q r = absurd (clash r (f k ∙ ap (λ (b : Bool). b && not (eqb k y)) q))

        at : (k : ℕ) → Dec (k ≡ y) → later k ≡ cond (member set k && not (member after k)) (new k) (old k)
        at k (yes z) =
            let s = p.some_left y t in
            let n : member after y ≡ false = f y ∙ ap (λ (b : Bool). b && not (eqb y y)) t ∙ ap not (eq-eqb y y refl) in
            rw (z, s, n) e
        at k (no z) =
            let n : member after k ≡ member left k = f k ∙ ap (λ (b : Bool). member left k && not b) (ne_eqb k y z) ∙ with_true (member left k) in
            rw n (o k z ∙ p.entry k)

    -- none is left
    pub passed_all : left ≤ 0 → (k : ℕ) → now k ≡ cond (member set k) (new k) (old k)
    passed_all h k = p.entry k ∙ ap (λ (b : Bool). cond b (new k) (old k)) whole
      where
        z : left ≡ 0
        z = omega arith

        whole : (member set k && not (member left k)) ≡ member set k
        whole = rw (z, no_member k) (with_true (member set k))
