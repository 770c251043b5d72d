-- Laws of a set of outputs four by four.
use Rattle.std.specs.Prelude.{◌≡◌, ◌&&◌, ◌⊎◌, ◌≢◌, ◌-◌, ◌^◌, ◌<◌, ◌≤◌}
use Rattle.basics.proofs.Words.{refl, sym, ◌∙◌, ap, Bool, true, not, inl, inr, ℕ, zero, suc, arith, get_or, eqb, ℕ_discrete, dec_lt, member, clash, left as left-of, right as right_of, has_member}
use Rattle.std.proofs.lemmas.Nat.{and_le_l, and_le_r, trailing_le}
use Rattle.std.specs.Int.Count.{count_trailing_zeros}
use Rattle.std.proofs.Common.{eq-eqb, ne_eqb}
use Rattle.machine.specs.SymbolSets.{least_symbol}
use Rattle.machine.specs.Laws.SymbolSets.{least_at, without_least, below_least}
use Rattle.machine.specs.Laws.SetLoops.{with_true}
use Rattle.cells.specs.Fours.{after_least, next_four, without_four}

pub least_most : (set : ℕ) → least_symbol set ≤ 64
least_most set = trailing_le 64 set

none_least : least_symbol 0 ≡ 64
unfolding count_trailing_zeros
none_least = refl

-- ---- the least output

module _ (set : ℕ) (small : set < 2 ^ 64) where
  pub least_member : least_symbol set ≢ 64 → member set (least_symbol set) ≡ true
  least_member n = go set refl
    where
      go : (s : ℕ) → set ≡ s → member set (least_symbol set) ≡ true
      go zero e = absurd (n (ap least_symbol e ∙ none_least))
      go (suc s) e = (least_at 64 set (omega arith) small).has

  after_members : 0 < set → (n : ℕ) → member (after_least set) n ≡ (member set n && not (eqb n (least_symbol set)))
  after_members h n = without_least 64 set n h small

  pub after_small : after_least set < 2 ^ 64
  after_small = omega (arith, and_le_l set (set - 1))

  pub after_less : 0 < set → after_least set < set
  after_less h = omega (arith, and_le_r set (set - 1))

  pub after_most : after_least set ≤ set
  after_most = and_le_l set (set - 1)

  pub was_member : (y : ℕ) → member (after_least set) y ≡ true → member set y ≡ true
  was_member y t =
      let p = has_member (after_least set) y t in
      left-of (member set y) (not (eqb y (least_symbol set))) (sym (after_members (omega (arith, after_most)) y) ∙ t)

  pub least_or_after : (y : ℕ) → member set y ≡ true → (least_symbol set ≡ y) ⊎ (member (after_least set) y ≡ true)
  least_or_after y t = go (ℕ_discrete y (least_symbol set))
    where
      go : Dec (y ≡ least_symbol set) → (least_symbol set ≡ y) ⊎ (member (after_least set) y ≡ true)
      go (yes e) = inl (sym e)
      go (no n) = inr (after_members (has_member set y t) y ∙ ap (λ (b : Bool). member set y && not b) (ne_eqb y (least_symbol set) n) ∙ with_true (member set y) ∙ t)

  -- the outputs come in rising order
  pub least_rises : least_symbol set ≢ 64 → least_symbol set < least_symbol (after_least set)
  least_rises n = go (ℕ_discrete (least_symbol (after_least set)) 64)
    where
      there : member set (least_symbol set) ≡ true
      there = least_member n

      some : 0 < set
      some = has_member set (least_symbol set) there

      go : Dec (least_symbol (after_least set) ≡ 64) → least_symbol set < least_symbol (after_least set)
      go (yes e) = omega (arith, least_most set)
      go (no m) = later (ℕ_discrete y (least_symbol set)) (dec_lt y (least_symbol set))
        where
          y : ℕ
          y = least_symbol (after_least set)

          again : (member set y && not (eqb y (least_symbol set))) ≡ true
          again = sym (after_members some y) ∙ (least_at 64 (after_least set) (positive (after_least set) refl) after_small).has
            where
              positive : (s : ℕ) → after_least set ≡ s → 0 < after_least set
              positive zero e = absurd (m (ap least_symbol e ∙ none_least))
              positive (suc s) e = omega arith

          later : Dec (y ≡ least_symbol set) → Dec (y < least_symbol set) → least_symbol set < y
          later (yes e) d = absurd (clash (right_of (member set y) (not (eqb y (least_symbol set))) again) (ap not (eq-eqb y (least_symbol set) e)))
          later (no e) (yes h) = absurd (clash (left-of (member set y) (not (eqb y (least_symbol set))) again) (below_least 64 set y h))
          later (no e) (no h) = omega arith

-- ---- four of them

pub four_most : (set j : ℕ) → get_or (next_four set) j 0 ≤ 64
four_most set zero = least_most set
four_most set (suc zero) = least_most (after_least set)
four_most set (suc (suc zero)) = least_most (after_least (after_least set))
four_most set (suc (suc (suc zero))) = least_most (after_least (after_least (after_least set)))
four_most set (suc (suc (suc (suc j)))) = omega arith

module _ (set : ℕ) (small : set < 2 ^ 64) where
  second_small : after_least set < 2 ^ 64
  second_small = after_small set small

  third_small : after_least (after_least set) < 2 ^ 64
  third_small = after_small (after_least set) second_small

  fourth_small : after_least (after_least (after_least set)) < 2 ^ 64
  fourth_small = after_small (after_least (after_least set)) third_small

  pub without_small : without_four set < 2 ^ 64
  without_small = after_small (after_least (after_least (after_least set))) fourth_small

  -- the loop over a set ends
  pub without_less : 0 < set → without_four set < set
  without_less h = omega (arith, after_less set small h, after_most (after_least set) second_small, after_most (after_least (after_least set)) third_small, after_most (after_least (after_least (after_least set))) fourth_small)

  -- each of the four is an output of the set or 64
  pub four_member : (j : ℕ) → j < 4 → get_or (next_four set) j 0 ≢ 64 → member set (get_or (next_four set) j 0) ≡ true
  four_member zero h n = least_member set small n
  four_member (suc zero) h n = was_member set small _ (least_member (after_least set) second_small n)
  four_member (suc (suc zero)) h n = was_member set small _ (was_member (after_least set) second_small _ (least_member (after_least (after_least set)) third_small n))
  four_member (suc (suc (suc zero))) h n =
      was_member set small _ (was_member (after_least set) second_small _ (was_member (after_least (after_least set)) third_small _ (least_member (after_least (after_least (after_least set))) fourth_small n)))
  four_member (suc (suc (suc (suc j)))) h n = absurd (omega arith)

  -- what is left was there
  pub left_member : (y : ℕ) → member (without_four set) y ≡ true → member set y ≡ true
  left_member y t = was_member set small y (was_member (after_least set) second_small y (was_member (after_least (after_least set)) third_small y (was_member (after_least (after_least (after_least set))) fourth_small y t)))

  -- each output of the set is one of the four or is left
  pub four_or_left : (y : ℕ) → member set y ≡ true → ((j : ℕ) × (j < 4) × (get_or (next_four set) j 0 ≡ y)) ⊎ (member (without_four set) y ≡ true)
  four_or_left y t = first (least_or_after set small y t)
    where
      Either : Type 0
      Either = ((j : ℕ) × (j < 4) × (get_or (next_four set) j 0 ≡ y)) ⊎ (member (without_four set) y ≡ true)

      at_fourth : (least_symbol (after_least (after_least (after_least set))) ≡ y) ⊎ (member (without_four set) y ≡ true) → Either
      at_fourth (inl e) = inl (3, omega arith, e)
      at_fourth (inr m) = inr m

      at_third : (least_symbol (after_least (after_least set)) ≡ y) ⊎ (member (after_least (after_least (after_least set))) y ≡ true) → Either
      at_third (inl e) = inl (2, omega arith, e)
      at_third (inr m) = at_fourth (least_or_after (after_least (after_least (after_least set))) fourth_small y m)

      at_second : (least_symbol (after_least set) ≡ y) ⊎ (member (after_least (after_least set)) y ≡ true) → Either
      at_second (inl e) = inl (1, omega arith, e)
      at_second (inr m) = at_third (least_or_after (after_least (after_least set)) third_small y m)

      first : (least_symbol set ≡ y) ⊎ (member (after_least set) y ≡ true) → Either
      first (inl e) = inl (0, omega arith, e)
      first (inr m) = at_second (least_or_after (after_least set) second_small y m)
