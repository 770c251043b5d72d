-- What a machine count and a ranking are known to be, and how the check of a ranking ends. Assumes nothing.
use Rattle.std.specs.Prelude.{◌≡◌, ◌∷◌, ◌+◌, ◌<◌, ◌≤◌}
use Rattle.basics.proofs.Words.{refl, sym, ◌∙◌, Bool, true, false, and-false, List, [], ℕ, zero, suc, arith, length, get_or, eqb, leb, ltb, every_below, occurrences, left, right, both, every_at, one_below_fails, its_place, one_place}
use Rattle.std.proofs.Common.{eqb-true, leb-true, ltb-true, ltb-false, eq-eqb, ne_eqb, le-ltb, lt-ltb}
use Rattle.std.proofs.lemmas.Bool.{eqb-false}
use Rattle.ranking.specs.Rankings.{is_machine_count, is_ranking}

-- 1 to 6 machines
pub record MachineCount (K : ℕ) : Type 0 where
  pub least : 1 ≤ K
  pub most : K ≤ 6

pub machine_count_lem : (K : ℕ) → is_machine_count K ≡ true → MachineCount K
machine_count_lem K t = record { least = leb-true 1 K (left (leb 1 K) (leb K 6) t); most = leb-true K 6 (right (leb 1 K) (leb K 6) t) }

-- how many elements of a list are below K, counted along the list, and number by number
count_below : ℕ → List ℕ → ℕ
count_below K [] = 0
count_below K (x ∷ xs) = elim (ltb x K) [ true ↦ suc (count_below K xs) | false ↦ count_below K xs ]

occurrences_below : ℕ → List ℕ → ℕ
occurrences_below zero xs = 0
occurrences_below (suc K) xs = occurrences_below K xs + occurrences K xs

count_none : (xs : List ℕ) → count_below 0 xs ≡ 0
unfolding count_below
count_none [] = refl
count_none (x ∷ xs) = rw (le-ltb x 0 (omega arith), count_below) (count_none xs)

count_suc : (K : ℕ) (xs : List ℕ) → count_below (suc K) xs ≡ count_below K xs + occurrences K xs
unfolding count_below occurrences
count_suc K [] = omega arith
count_suc K (x ∷ xs) = go (ltb x K) refl (eqb x K) refl (count_suc K xs)
  where
    go : (a : Bool) → ltb x K ≡ a → (b : Bool) → eqb x K ≡ b → count_below (suc K) xs ≡ count_below K xs + occurrences K xs
        → count_below (suc K) (x ∷ xs) ≡ count_below K (x ∷ xs) + occurrences K (x ∷ xs)
    go true p true q r = absurd (omega (arith, ltb-true x K p, eqb-true x K q))
    go true p false q r = let h = ltb-true x K p in rw (lt-ltb x (suc K) (omega arith), p, q, count_below, occurrences) (omega arith)
    go false p true q r = let h = eqb-true x K q in rw (lt-ltb x (suc K) (omega arith), p, q, count_below, occurrences) (omega arith)
    go false p false q r =
        let h : suc K ≤ x = omega (arith, ltb-false x K p, eqb-false x K q) in
        rw (le-ltb x (suc K) h, p, q, count_below, occurrences) r

counts_agree : (K : ℕ) (xs : List ℕ) → occurrences_below K xs ≡ count_below K xs
unfolding occurrences_below
counts_agree zero xs = sym (count_none xs)
counts_agree (suc K) xs = omega (arith, counts_agree K xs, count_suc K xs)

count_most : (K : ℕ) (xs : List ℕ) → count_below K xs ≤ length xs
unfolding count_below
count_most K [] = omega arith
count_most K (x ∷ xs) = go (ltb x K) refl (count_most K xs)
  where
    go : (b : Bool) → ltb x K ≡ b → count_below K xs ≤ length xs → count_below K (x ∷ xs) ≤ suc (length xs)
    go true e r = rw (e, count_below) (omega arith)
    go false e r = rw (e, count_below) (omega arith)

-- where all count, all are below K
all_counted : (K : ℕ) (xs : List ℕ) → count_below K xs ≡ length xs → (i : ℕ) → i < length xs → get_or xs i 0 < K
unfolding count_below
all_counted K [] e i h = absurd (omega arith)
all_counted K (x ∷ xs) e i h = go (ltb x K) refl i h (all_counted K xs)
  where
    go : (b : Bool) → ltb x K ≡ b → (i : ℕ) → i < suc (length xs) → (count_below K xs ≡ length xs → (j : ℕ) → j < length xs → get_or xs j 0 < K) → get_or (x ∷ xs) i 0 < K
    go true t zero q r = ltb-true x K t
    go true t (suc j) q r = let d : suc (count_below K xs) ≡ suc (length xs) = rw (t, count_below) at e in r (omega arith) j (omega arith)
    go false t i q r = let d : count_below K xs ≡ suc (length xs) = rw (t, count_below) at e in absurd (omega (arith, count_most K xs))

-- each number below K once makes K
once_each : (K : ℕ) (xs : List ℕ) → ((m : ℕ) → m < K → occurrences m xs ≡ 1) → occurrences_below K xs ≡ K
unfolding occurrences_below
once_each zero xs h = refl
once_each (suc K) xs h = omega (arith, once_each K xs (λ m q. h m (omega arith)), h K (omega arith))

-- a ranking of K machines: each has one place, and each place has one of them
pub record Ranking (K : ℕ) (r : List ℕ) : Type 0 where
  pub places : length r ≡ K
  pub once : (m : ℕ) → m < K → occurrences m r ≡ 1
  pub below : (i : ℕ) → i < length r → get_or r i 0 < K

pub ranking_facts : (K : ℕ) (r : List ℕ) → is_ranking K r ≡ true → Ranking K r
unfolding is_ranking
ranking_facts K r t = record { places = size; once = each; below = all_counted K r (sym (counts_agree K r) ∙ once_each K r each ∙ sym size) }
  where
    size : length r ≡ K
    size = eqb-true (length r) K (left (eqb (length r) K) (every_below (λ m. eqb (occurrences m r) 1) K) t)

    each : (m : ℕ) → m < K → occurrences m r ≡ 1
    each m h = eqb-true (occurrences m r) 1 (every_at (λ m. eqb (occurrences m r) 1) K (right (eqb (length r) K) (every_below (λ m. eqb (occurrences m r) 1) K) t) m h)

pub place_of : (K : ℕ) (r : List ℕ) → Ranking K r → (m : ℕ) → m < K → (i : ℕ) × (i < length r) × (get_or r i 0 ≡ m)
place_of K r f m h = its_place m r (omega (arith, f.once m h))

pub place_unique : (K : ℕ) (r : List ℕ) → Ranking K r → (i j : ℕ) → i < length r → j < length r → get_or r i 0 ≡ get_or r j 0 → i ≡ j
place_unique K r f i j hi hj e = one_place (get_or r j 0) r (omega (arith, f.once (get_or r j 0) (f.below j hj))) i j hi hj e refl

-- how the check of a ranking ends
module _ (K : ℕ) (r : List ℕ) where
  pub wrong_length : (length r ≡ K → ⊥) → is_ranking K r ≡ false
  unfolding is_ranking
  wrong_length n = rw (ne_eqb (length r) K n)

  pub not_once : (m : ℕ) → m < K → (occurrences m r ≡ 1 → ⊥) → is_ranking K r ≡ false
  unfolding is_ranking
  not_once m h n = rw (one_below_fails (λ m. eqb (occurrences m r) 1) K m h (ne_eqb (occurrences m r) 1 n), and-false)

  pub each_once : length r ≡ K → every_below (λ m. eqb (occurrences m r) 1) K ≡ true → is_ranking K r ≡ true
  unfolding is_ranking
  each_once e t = both (eq-eqb (length r) K e) t

-- what harmonic comparison requires, from the checks 1 and 7
pub comparable : (K : ℕ) (r : List ℕ) → is_machine_count K ≡ true → is_ranking K r ≡ true → (is_ranking (length r) r ≡ true) × (length r ≤ 6)
comparable K r k t =
    let f = ranking_facts K r t in
    (rw f.places t, omega (arith, f.places, (machine_count_lem K k).most))
