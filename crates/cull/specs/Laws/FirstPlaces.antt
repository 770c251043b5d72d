-- Costs compared on the first k constraints alone. A constraint is named by its place in the ranking, 0 the highest, and `marks i c` is how many marks
-- of the constraint i the cost c has. Of the costs of a card's ways this is harmonic comparison under the first k constraints (`Laws/Ways.better-is-less`).
use Rattle.std.specs.Prelude.{◌≡◌, ◌⊎◌, ◌<◌}
use Rattle.basics.specs.Words.{sym, ◌∙◌, List, some, inl, inr, ℕ, zero, suc, arith, ℕ_discrete}
use Rattle.paths.specs.Total.{ℕ-total}
use Rattle.paths.specs.Costs.{Costs}
use Rattle.paths.specs.Graph.{Alphabet, Graph, path_cost}
use Rattle.paths.specs.Ranked.{Ranked, Less, letter_count, count_at}
use Rattle.stage.specs.Below.{Below, below_none, below_next}

module _ {Cost : Type 0} (marks : ℕ → Cost → ℕ) where
  -- as many marks of each of the first k constraints
  abbrev pub SameOn : ℕ → Cost → Cost → Type 0
  SameOn k c d = Below (λ i. marks i c ≡ marks i d) k

  -- c is less than d on the first k constraints: it has fewer marks of one of them, and as many of each that is ranked above that one
  pub record LessOn (k : ℕ) (c d : Cost) : Type 0 where
    pub place : ℕ
    pub among : place < k
    pub above : SameOn place c d
    pub fewer : marks place c < marks place d

  -- ---- laws

  pub same_next : {k : ℕ} {c d : Cost} → SameOn k c d → marks k c ≡ marks k d → SameOn (suc k) c d
  same_next {k} {c} {d} a e = below_next (λ i. marks i c ≡ marks i d) k a e

  pub less_further : {k : ℕ} {c d : Cost} → LessOn k c d → LessOn (suc k) c d
  less_further b = record { place = b.place; among = omega arith; above = b.above; fewer = b.fewer }

  -- on one constraint more: less already, or the same so far with fewer marks of that one
  pub less_next : {k : ℕ} {c d : Cost} → LessOn (suc k) c d → LessOn k c d ⊎ (SameOn k c d × (marks k c < marks k d))
  less_next {k} {c} {d} b = go (ℕ_discrete b.place k)
    where
      go : Dec (b.place ≡ k) → LessOn k c d ⊎ (SameOn k c d × (marks k c < marks k d))
      go (yes q) = inr (rw q at b.above, rw q at b.fewer)
      go (no n) = inl (record { place = b.place; among = omega arith; above = b.above; fewer = b.fewer })

  pub fewer_less : {k : ℕ} {c d : Cost} → SameOn k c d → marks k c < marks k d → LessOn (suc k) c d
  fewer_less {k} a h = record { place = k; among = omega arith; above = a; fewer = h }

  -- what is less than c is less than all that is the same as c
  pub less_same : {k : ℕ} {b c d : Cost} → LessOn k b c → SameOn k c d → LessOn k b d
  less_same h a = record {
    place = h.place;
    among = h.among;
    above = λ i l. h.above i l ∙ a i (omega arith);
    fewer = omega (arith, a h.place h.among);
  }

  -- one is less than the other, or they are the same
  pub compare : (k : ℕ) (c d : Cost) → LessOn k c d ⊎ (SameOn k c d ⊎ LessOn k d c)
  compare zero c d = inr (inl (below_none (λ i. marks i c ≡ marks i d)))
  compare (suc k) c d = go (compare k c d) (ℕ-total.compare (marks k c) (marks k d))
    where
      go : LessOn k c d ⊎ (SameOn k c d ⊎ LessOn k d c) → (marks k c < marks k d) ⊎ ((marks k c ≡ marks k d) ⊎ (marks k d < marks k c)) → LessOn (suc k) c d ⊎ (SameOn (suc k) c d ⊎ LessOn (suc k) d c)
      go (inl b) m = inl (less_further b)
      go (inr (inr b)) m = inr (inr (less_further b))
      go (inr (inl a)) (inl h) = inl (fewer_less a h)
      go (inr (inl a)) (inr (inl e)) = inr (inl (same_next a e))
      go (inr (inl a)) (inr (inr h)) = inr (inr (fewer_less (λ i l. sym (a i l)) h))

  -- neither is less: they are the same
  pub tied_same : (k : ℕ) (c d : Cost) → ¬ (LessOn k c d) → ¬ (LessOn k d c) → SameOn k c d
  tied_same k c d m n = go (compare k c d)
    where
      go : LessOn k c d ⊎ (SameOn k c d ⊎ LessOn k d c) → SameOn k c d
      go (inl b) = absurd (m b)
      go (inr (inl a)) = a
      go (inr (inr b)) = absurd (n b)

-- ---- the order of ranked costs goes down the constraints, and then looks at the letters

less_at : (K i : ℕ) (c d : Ranked K) → SameOn (count_at K) i c d → count_at K i c < count_at K i d → Less K c d
less_at zero i c d a h = absurd (omega arith)
less_at (suc K) zero c d a h = inl h
less_at (suc K) (suc i) c d a h = inr (a 0 (omega arith), less_at K i c.1 d.1 (λ j l. a (suc j) (omega arith)) h)

-- what is less on the first k constraints costs less
pub less_whole : (K k : ℕ) (c d : Ranked K) → LessOn (count_at K) k c d → Less K c d
less_whole K k c d b = less_at K b.place c d b.above b.fewer

-- among costs with the same marks the number of letters decides
pub letters_less : (K : ℕ) (c d : Ranked K) → SameOn (count_at K) K c d → letter_count K c < letter_count K d → Less K c d
letters_less zero c d a h = h
letters_less (suc K) c d a h = inr (a 0 (omega arith), letters_less K c.1 d.1 (λ i l. a (suc i) (omega arith)) h)

pub letters_same : (K : ℕ) (c d : Ranked K) → SameOn (count_at K) K c d → letter_count K c ≡ letter_count K d → c ≡ d
letters_same zero c d a h = h
letters_same (suc K) c d a h =
    let q = letters_same K c.1 d.1 (λ i l. a (suc i) (omega arith)) h in
    let z : c.0 ≡ d.0 = a 0 (omega arith) in
    λ j. (z j, q j)

-- ---- on the ways of a graph

-- no way from u is less than the cost c on the first k constraints
abbrev pub LeastOn : {costs : Costs} {alphabet : Alphabet} → Graph costs alphabet → (ℕ → costs.Cost → ℕ) → (k u : ℕ) → costs.Cost → Type 0
LeastOn {costs} {alphabet} G marks k u c = (qs : List alphabet.Letter) (d : costs.Cost) → path_cost G u qs ≡ some d → ¬ (LessOn marks k d c)
