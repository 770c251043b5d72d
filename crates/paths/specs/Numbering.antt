-- Positions as quotients: with P states, the node of the position i and the state j is i * P + j.
use Rattle.std.specs.Prelude.{◌≡◌, ℕ, ◌+◌, ◌*◌, ◌/◌, ◌≤◌, ◌<◌}
use Rattle.std.proofs.Common.{◌∙◌, ap, arith, div-mul-le_self, suc-mul, add-one}
use Rattle.std.proofs.Math.Nat.{lt-div-mul-add, mul-add-div_right, div-eq_of_lt, div-eq_of_lt-le}

abbrev pub position : ℕ → ℕ → ℕ
position P u = u / P

module _ (P : ℕ) (some_state : 0 < P) where
  pub position_is : (i j : ℕ) → j < P → position P (i * P + j) ≡ i
  position_is i j h = mul-add-div_right some_state i j ∙ ap (λ (k : ℕ). i + k) (div-eq_of_lt h) ∙ omega arith

  pub position_at_lem : (u i : ℕ) → i * P ≤ u → u < i * P + P → position P u ≡ i
  position_at_lem u i h k = div-eq_of_lt-le P h (rw (add-one, suc-mul) k)

  pub position_low : (u i : ℕ) → position P u ≡ i → i * P ≤ u
  position_low u i e = rw (← e) (div-mul-le_self u P)

  pub position_high : (u i : ℕ) → position P u ≡ i → u < i * P + P
  position_high u i e = rw (← e) (lt-div-mul-add some_state)
