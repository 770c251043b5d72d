-- The kept outputs four by four: which are there, and how many.
use Rattle.std.specs.Prelude.{◌≡◌, ◌⊎◌, ◌≢◌, ◌+◌, ◌^◌, ◌<◌, ◌≤◌}
use Rattle.basics.proofs.Words.{refl, sym, ◌∙◌, ap, true, false, cond, inl, inr, ℕ, zero, suc, arith, get_or, eqb, ℕ_discrete, dec_lt, add-one, member, ne_eqb, clash, no_member, has_member}
use Rattle.machine.specs.SymbolSets.{least_symbol}
use Rattle.machine.specs.Laws.SymbolSets.{least_at}
use Rattle.cells.specs.Fours.{after_least, next_four, without_four}
use Rattle.cells.specs.Laws.Fours.{least_member, was_member, after_small, least_rises, without_small, four_member, left_member, four_or_left}
use Rattle.insertions.specs.Tables.{after_fours, FoursOf}

pub fours_next : (q kept : ℕ) → after_fours (q + 1) kept ≡ without_four (after_fours q kept)
unfolding after_fours
fours_next q kept = rw (add-one q)

pub fours_none : (kept : ℕ) → after_fours 0 kept ≡ kept
unfolding after_fours
fours_none kept = refl

-- a set has one number of fours
pub fours_same : {kept p q : ℕ} → FoursOf kept p → FoursOf kept q → p ≡ q
fours_same {kept} {p} {q} F G = go (dec_lt p q) (dec_lt q p)
  where
    go : Dec (p < q) → Dec (q < p) → p ≡ q
    go (yes h) d = absurd (omega (arith, F.none_left, G.some_left p h))
    go (no h) (yes k) = absurd (omega (arith, G.none_left, F.some_left q k))
    go (no h) (no k) = omega arith

-- where an output is
pub record Output (kept y n : ℕ) : Type 0 where
  pub four : ℕ
  pub within : four < n
  pub lane : ℕ
  pub lane_few : lane < 4
  pub is : get_or (next_four (after_fours four kept)) lane 0 ≡ y

module _ {kept : ℕ} (small : kept < 2 ^ 64) where
  pub fours_small : (q : ℕ) → after_fours q kept < 2 ^ 64
  unfolding after_fours
  fours_small zero = small
  fours_small (suc q) = without_small (after_fours q kept) (fours_small q)

  was_kept : (q y : ℕ) → member (after_fours q kept) y ≡ true → member kept y ≡ true
  unfolding after_fours
  was_kept zero y t = t
  was_kept (suc q) y t = was_kept q y (left_member (after_fours q kept) (fours_small q) y t)

  pub lane_kept : (q j : ℕ) → j < 4 → get_or (next_four (after_fours q kept)) j 0 ≢ 64 → member kept (get_or (next_four (after_fours q kept)) j 0) ≡ true
  lane_kept q j h n = was_kept q (get_or (next_four (after_fours q kept)) j 0) (four_member (after_fours q kept) (fours_small q) j h n)

  left_or_lane : (y : ℕ) → member kept y ≡ true → (n : ℕ) → (member (after_fours n kept) y ≡ true) ⊎ Output kept y n
  unfolding after_fours
  left_or_lane y t zero = inl t
  left_or_lane y t (suc n) = go (left_or_lane y t n)
    where
      next : ((j : ℕ) × (j < 4) × (get_or (next_four (after_fours n kept)) j 0 ≡ y)) ⊎ (member (without_four (after_fours n kept)) y ≡ true) → (member (without_four (after_fours n kept)) y ≡ true) ⊎ Output kept y (suc n)
      next (inl o) = inr (record { four = n; within = omega arith; lane = o.0; lane_few = o.1; is = o.2 })
      next (inr m) = inl m

      go : (member (after_fours n kept) y ≡ true) ⊎ Output kept y n → (member (without_four (after_fours n kept)) y ≡ true) ⊎ Output kept y (suc n)
      go (inl m) = next (four_or_left (after_fours n kept) (fours_small n) y m)
      go (inr o) = inr (record { four = o.four; within = omega (arith, o.within); lane = o.lane; lane_few = o.lane_few; is = o.is })

  pub kept_lane_lem : (y n : ℕ) → member kept y ≡ true → FoursOf kept n → Output kept y n
  kept_lane_lem y n t F = go (left_or_lane y t n)
    where
      go : (member (after_fours n kept) y ≡ true) ⊎ Output kept y n → Output kept y n
      go (inl m) = absurd (clash m (ap (λ (s : ℕ). member s y) F.none_left ∙ no_member y))
      go (inr o) = o

-- ---- how many

-- one output, or none
unfoldable pub uses : ℕ → ℕ
uses y = cond (eqb y 64) 0 1

pub uses_none : uses 64 ≡ 0
unfolding uses
uses_none = refl

pub uses_one : (y : ℕ) → y ≢ 64 → uses y ≡ 1
unfolding uses
uses_one y n = rw (ne_eqb y 64 n)

-- the least output rises by those that are used
pub least_uses : (set : ℕ) → set < 2 ^ 64 → least_symbol set + uses (least_symbol set) ≤ least_symbol (after_least set)
least_uses set small = go (ℕ_discrete (least_symbol set) 64)
  where
    none : least_symbol set ≡ 64 → Dec (least_symbol (after_least set) ≡ 64) → least_symbol set ≤ least_symbol (after_least set)
    none e (yes d) = omega arith
    none e (no d) =
        let t = was_member set small (least_symbol (after_least set)) (least_member (after_least set) (after_small set small) d) in
        absurd (omega (arith, e, (least_at 64 set (has_member set (least_symbol (after_least set)) t) small).below))

    go : Dec (least_symbol set ≡ 64) → least_symbol set + uses (least_symbol set) ≤ least_symbol (after_least set)
    go (yes e) = let u : uses (least_symbol set) ≡ 0 = ap uses e ∙ uses_none in omega (arith, u, none e (ℕ_discrete (least_symbol (after_least set)) 64))
    go (no n) = omega (arith, uses_one (least_symbol set) n, least_rises set small n)

-- a sum over the first n
unfoldable pub sum_of : (ℕ → ℕ) → ℕ → ℕ
sum_of u zero = 0
sum_of u (suc n) = sum_of u n + u n

abbrev pub uses_of : ℕ → ℕ
uses_of set = sum_of (λ j. uses (get_or (next_four set) j 0)) 4

pub four_uses : (set : ℕ) → set < 2 ^ 64 → least_symbol set + uses_of set ≤ least_symbol (without_four set)
unfolding sum_of
four_uses set small =
    let a = after_small set small in
    let b = after_small (after_least set) a in
    let c = after_small (after_least (after_least set)) b in
    omega (arith, least_uses set small, least_uses (after_least set) a, least_uses (after_least (after_least set)) b, least_uses (after_least (after_least (after_least set))) c)

-- a set without the empty symbol
pub least_some : (set : ℕ) → set < 2 ^ 64 → member set 0 ≡ false → 1 ≤ least_symbol set
least_some set small n = go (least_symbol set) refl
  where
    go : (y : ℕ) → least_symbol set ≡ y → 1 ≤ least_symbol set
    go zero e = absurd (clash (ap (member set) (sym e) ∙ least_member set small (λ q. omega arith)) n)
    go (suc y) e = omega arith
