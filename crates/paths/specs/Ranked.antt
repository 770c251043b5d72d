-- A concrete cost: k counts in ranked order and then the number of letters, compared from the first on.
-- All costs of one k have one shape, so that two of which neither is less are equal.
use Rattle.std.specs.Prelude.{◌≡◌, refl, ℕ, zero, suc, ◌+◌, ◌<◌}
use Rattle.std.proofs.Common.{ap, inl, inr, arith}
use Rattle.std.proofs.Math.Decide.{ℕ_discrete}
use Rattle.paths.specs.Total.{Total, Then, then_total, ℕ-total}
use Rattle.paths.specs.Costs.{Costs}

abbrev pub Ranked : ℕ → Type 0
Ranked zero = ℕ
Ranked (suc k) = ℕ × Ranked k

-- place by place
abbrev pub add : (k : ℕ) → Ranked k → Ranked k → Ranked k
add zero a b = a + b
add (suc k) a b = (a.0 + b.0, add k a.1 b.1)

-- less at the first place where they differ
abbrev pub Less : (k : ℕ) → Ranked k → Ranked k → Type 0
Less zero a b = a < b
Less (suc k) a b = Then ◌<◌ (Less k) a b

-- the number of letters
abbrev pub letter_count : (k : ℕ) → Ranked k → ℕ
letter_count zero a = a
letter_count (suc k) a = letter_count k a.1

-- the count at the place i, highest ranked first
abbrev pub count_at : (k i : ℕ) → Ranked k → ℕ
count_at zero i a = 0
count_at (suc k) zero a = a.0
count_at (suc k) (suc i) a = count_at k i a.1

unfoldable pub less_total : (k : ℕ) → Total (Less k)
unfolding ℕ-total then_total
less_total zero = ℕ-total
less_total (suc k) = then_total ◌<◌ (Less k) ℕ-total (less_total k)

pub add_left_less : (k : ℕ) (c a b : Ranked k) → Less k a b → Less k (add k c a) (add k c b)
add_left_less zero c a b h = omega arith
add_left_less (suc k) c a b (inl h) = inl (omega arith)
add_left_less (suc k) c a b (inr h) = inr (ap (λ n. c.0 + n) h.0, add_left_less k c.1 a.1 b.1 h.1)

pub add_right_less : (k : ℕ) (c a b : Ranked k) → Less k a b → Less k (add k a c) (add k b c)
add_right_less zero c a b h = omega arith
add_right_less (suc k) c a b (inl h) = inl (omega arith)
add_right_less (suc k) c a b (inr h) = inr (ap (λ n. n + c.0) h.0, add_right_less k c.1 a.1 b.1 h.1)

abbrev pub ranked_costs : ℕ → Costs
ranked_costs k = record {
  Cost = Ranked k;
  ◌⊕◌ = add k;
  ◌≺◌ = Less k;
  total = less_total k;
  shift_left = add_left_less k;
  shift_right = add_right_less k;
}

-- what has a letter costs something
pub letter_positive : (k : ℕ) (e : Ranked k) → 0 < letter_count k e → (c : Ranked k) → Less k c (add k e c)
letter_positive zero e h c = omega arith
letter_positive (suc k) e h c = go (ℕ_discrete e.0 0) (letter_positive k e.1 h c.1)
  where
    go : Dec (e.0 ≡ 0) → Less k c.1 (add k e.1 c.1) → Less (suc k) c (add (suc k) e c)
    go (yes z) r = inr (omega arith, r)
    go (no n) r = inl (omega arith)

pub letter_count_add : (k : ℕ) (a b : Ranked k) → letter_count k (add k a b) ≡ letter_count k a + letter_count k b
letter_count_add zero a b = refl
letter_count_add (suc k) a b = letter_count_add k a.1 b.1

pub count_at_add : (k i : ℕ) (a b : Ranked k) → count_at k i (add k a b) ≡ count_at k i a + count_at k i b
count_at_add zero i a b = refl
count_at_add (suc k) zero a b = refl
count_at_add (suc k) (suc i) a b = count_at_add k i a.1 b.1
