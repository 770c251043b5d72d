-- The weights of machines in ranked order. Assumes nothing.
use Rattle.std.specs.Prelude.{◌≡◌, ◌∷◌, ◌++◌, ◌≢◌, ◌+◌, ◌-◌, ◌*◌, ◌%◌, ◌^◌, ◌<◌, ◌≤◌}
use Rattle.basics.proofs.Words.{refl, sym, ◌∙◌, ap, Bool, true, false, cond, List, [], ℕ, zero, suc, arith, length, get_or, take, drop, set, replicate, length-set, drop_of_length-le, List·getD-eq-default, eqb, drop-cons, get_or-take, length-take-le, get_or-set_same, get_or-set_other, mul_comm, dec_lt, ℕ_discrete, add-one, occurrences, product, eq-eqb, ne_eqb, its_place, occurs_here, occurs_later, occurrences_append}
use Rattle.ranking.specs.Rankings.{is_ranking}
use Rattle.ranking.specs.Lemmas.Rankings.{Ranking, ranking_facts}
use Rattle.tables.specs.Tables.{CountsOfSome}
use Rattle.tables.specs.Places.{six_places}
use Rattle.tables.proofs.Counts.{few_counts, all_positive, few_states_lem, product_next, product_last}
use Rattle.cells.specs.Cells.{scale_of, high_of, low_of}
use Rattle.cells.specs.Columns.{WeightsOf}
use Rattle.cells.specs.Laws.Sums.{product_drop}
use Rattle.settling.specs.Prices.{SixWeights, ranked_highs, ranked_lows}
use Rattle.insertions.specs.RankedWeights.{weight_by, RankedWeights}

-- ---- six weights

six : (Q : ℕ → Type 0) (a b c d e f : ℕ) → Q a → Q b → Q c → Q d → Q e → Q f → Q 0 → (i : ℕ) → Q (get_or (a ∷ b ∷ c ∷ d ∷ e ∷ f ∷ []) i 0)
six Q a b c d e f qa qb qc qd qe qf q zero = qa
six Q a b c d e f qa qb qc qd qe qf q (suc zero) = qb
six Q a b c d e f qa qb qc qd qe qf q (suc (suc zero)) = qc
six Q a b c d e f qa qb qc qd qe qf q (suc (suc (suc zero))) = qd
six Q a b c d e f qa qb qc qd qe qf q (suc (suc (suc (suc zero)))) = qe
six Q a b c d e f qa qb qc qd qe qf q (suc (suc (suc (suc (suc zero))))) = qf
six Q a b c d e f qa qb qc qd qe qf q (suc (suc (suc (suc (suc (suc i)))))) = q

pub highs_six : SixWeights ranked_highs
highs_six = record { most = six (λ n. n ≤ 2 ^ 48) 1099511627776 16777216 256 0 0 0 (omega arith) (omega arith) (omega arith) (omega arith) (omega arith) (omega arith) (omega arith) }

pub lows_six : SixWeights ranked_lows
lows_six = record { most = six (λ n. n ≤ 2 ^ 48) 0 0 0 281474976710656 4294967296 65536 (omega arith) (omega arith) (omega arith) (omega arith) (omega arith) (omega arith) (omega arith) }

highs_whole : (i : ℕ) → get_or ranked_highs i 0 % 256 ≡ 0
highs_whole = six (λ n. n % 256 ≡ 0) 1099511627776 16777216 256 0 0 0 refl refl refl refl refl refl refl

-- ---- the weight of a machine, place by place

weight_end : (order ns : List ℕ) (m : ℕ) → length order ≡ 0 → weight_by order ns m ≡ 0
unfolding weight_by
weight_end [] ns m e = refl
weight_end (a ∷ r) ns m e = absurd (omega arith)

-- a machine that has no place
weight_none : (order ns : List ℕ) (m : ℕ) → occurrences m order ≡ 0 → weight_by order ns m ≡ 0
unfolding weight_by occurrences
weight_none [] ns m h = refl
weight_none (a ∷ r) [] m h = refl
weight_none (a ∷ r) (n ∷ ns) m h = go (ℕ_discrete a m) (weight_none r ns m)
  where
    go : Dec (a ≡ m) → (occurrences m r ≡ 0 → weight_by r ns m ≡ 0) → cond (eqb a m) n 0 + weight_by r ns m ≡ 0
    go (yes q) k = absurd (omega (arith, occurs_here {n = m} {rest = r} refl q))
    go (no q) k = rw (ne_eqb a m q) (omega (arith, k (sym (occurs_later {n = m} {rest = r} refl q) ∙ h)))

-- one that has at most one
weight_most : (most : ℕ) (order ns : List ℕ) (m : ℕ) → occurrences m order ≤ 1 → ((i : ℕ) → get_or ns i 0 ≤ most) → weight_by order ns m ≤ most
unfolding weight_by occurrences
weight_most most [] ns m h b = omega arith
weight_most most (a ∷ r) [] m h b = omega arith
weight_most most (a ∷ r) (n ∷ ns) m h b = go (ℕ_discrete a m) (λ k. weight_most most r ns m k (λ i. b (suc i)))
  where
    go : Dec (a ≡ m) → (occurrences m r ≤ 1 → weight_by r ns m ≤ most) → cond (eqb a m) n 0 + weight_by r ns m ≤ most
    go (yes q) k = rw (eq-eqb a m q) (omega (arith, b 0, weight_none r ns m (omega (arith, occurs_here {n = m} {rest = r} refl q))))
    go (no q) k = rw (ne_eqb a m q) (omega (arith, k (omega (arith, occurs_later {n = m} {rest = r} refl q))))

weight_whole : (order ns : List ℕ) (m : ℕ) → ((i : ℕ) → get_or ns i 0 % 256 ≡ 0) → weight_by order ns m % 256 ≡ 0
unfolding weight_by
weight_whole [] ns m b = refl
weight_whole (a ∷ r) [] m b = refl
weight_whole (a ∷ r) (n ∷ ns) m b = go (eqb a m) (weight_whole r ns m (λ i. b (suc i)))
  where
    go : (t : Bool) → weight_by r ns m % 256 ≡ 0 → (cond t n 0 + weight_by r ns m) % 256 ≡ 0
    go true k = omega (arith, b 0)
    go false k = omega arith

-- ---- the loop over the places

-- the sum so far, of the places below i, and the weight by the others
pub record SumTo (order weights : List ℕ) (machine i sum : ℕ) : Type 0 where
  pub within : i ≤ 6
  pub few : sum ≤ i * 2 ^ 48
  pub rest : sum + weight_by (drop i order) (drop i weights) machine ≡ weight_by order weights machine

pub sum_start : {order weights : List ℕ} {machine : ℕ} → SumTo order weights machine 0 0
sum_start = record { within = omega arith; few = omega arith; rest = omega arith }

module _ {order weights : List ℕ} {machine i sum : ℕ} (S : SumTo order weights machine i sum) (h : i < 6) (p : length order ≡ 6) (n : length weights ≡ 6) where
  next_place : weight_by (drop i order) (drop i weights) machine ≡ cond (eqb (get_or order i 0) machine) (get_or weights i 0) 0 + weight_by (drop (i + 1) order) (drop (i + 1) weights) machine
  unfolding weight_by
  next_place = rw (add-one, drop-cons order i 0 (omega arith), drop-cons weights i 0 (omega arith))

  pub sum_taken : SixWeights weights → get_or order i 0 ≡ machine → SumTo order weights machine (i + 1) (sum + get_or weights i 0)
  sum_taken N e = record {
    within = omega arith;
    few = omega (arith, S.few, N.most i);
    rest = let q : eqb (get_or order i 0) machine ≡ true = eq-eqb (get_or order i 0) machine e in omega (arith, S.rest, rw q at next_place);
  }

  pub sum_passed : get_or order i 0 ≢ machine → SumTo order weights machine (i + 1) sum
  sum_passed e = record {
    within = omega arith;
    few = omega (arith, S.few);
    rest = let q : eqb (get_or order i 0) machine ≡ false = ne_eqb (get_or order i 0) machine e in omega (arith, S.rest, rw q at next_place);
  }

pub sum_end : {order weights : List ℕ} {machine i sum : ℕ} → SumTo order weights machine i sum → 6 ≤ i → length order ≡ 6 → sum ≡ weight_by order weights machine
sum_end {order} {weights} {machine} {i} S h p = omega (arith, S.rest, weight_end (drop i order) (drop i weights) machine (ap length (drop_of_length-le order {i = i} (omega arith))))

-- ---- the places of a ranking

-- past the last machine there is the number 6, which is none below 6
past_last : (m n : ℕ) → m < 6 → occurrences m (replicate n 6) ≡ 0
unfolding occurrences
past_last m zero h = refl
past_last m (suc n) h = occurs_later {n = m} {x = 6} {rest = replicate n 6} refl (λ q. omega arith) ∙ past_last m n h

six_places_are : (r : List ℕ) → length r ≤ 6 → six_places r ≡ r ++ replicate (6 - length r) 6
six_places_are [] h = refl
six_places_are (a ∷ []) h = refl
six_places_are (a ∷ b ∷ []) h = refl
six_places_are (a ∷ b ∷ c ∷ []) h = refl
six_places_are (a ∷ b ∷ c ∷ d ∷ []) h = refl
six_places_are (a ∷ b ∷ c ∷ d ∷ e ∷ []) h = refl
six_places_are (a ∷ b ∷ c ∷ d ∷ e ∷ f ∷ []) h = refl
six_places_are (a ∷ b ∷ c ∷ d ∷ e ∷ f ∷ g ∷ r) h = absurd (omega arith)

-- the six places have a machine as often as the ranking
six_occurrences : (r : List ℕ) → length r ≤ 6 → (m : ℕ) → m < 6 → occurrences m (six_places r) ≡ occurrences m r
six_occurrences r few m h = ap (occurrences m) (six_places_are r few) ∙ occurrences_append m r (replicate (6 - length r) 6) ∙ omega (arith, past_last m (6 - length r) h)

-- a machine has one place, and what is no machine has none
module _ {counts : List ℕ} (C : CountsOfSome counts) (ranking : List ℕ) (is : is_ranking (length counts) ranking ≡ true) where
  R : Ranking (length counts) ranking
  R = ranking_facts (length counts) ranking is

  few_places : length ranking ≤ 6
  few_places = omega (arith, few_counts C, R.places)

  once : (m : ℕ) → m < length counts → occurrences m (six_places ranking) ≤ 1
  once m h = omega (arith, six_occurrences ranking few_places m (omega (arith, few_counts C)), R.once m h)

  never : (m : ℕ) → length counts ≤ m → m < 6 → occurrences m (six_places ranking) ≡ 0
  never m h k = six_occurrences ranking few_places m k ∙ go (dec_lt 0 (occurrences m ranking))
    where
      go : Dec (0 < occurrences m ranking) → occurrences m ranking ≡ 0
      go (yes l) = let p = its_place m ranking l in absurd (omega (arith, R.below p.0 p.1, p.2))
      go (no l) = omega arith

-- ---- the loop over the machines

-- the machines from m on have their weights
pub record WeightsFrom (counts places ws : List ℕ) (m scale : ℕ) : Type 0 where
  pub within : m ≤ length counts
  pub size : length ws ≡ 18
  pub scale_is : scale ≡ product (drop m counts)
  pub scales : (n : ℕ) → m ≤ n → n < length counts → scale_of ws n ≡ product (drop (suc n) counts)
  pub highs : (n : ℕ) → m ≤ n → n < length counts → high_of ws n ≡ weight_by places ranked_highs n
  pub lows : (n : ℕ) → m ≤ n → n < length counts → low_of ws n ≡ weight_by places ranked_lows n

pub weights_start : {counts places ws : List ℕ} → length ws ≡ 18 → WeightsFrom counts places ws (length counts) 1
weights_start {counts} e = record {
  within = omega arith;
  size = e;
  scale_is = sym (product_last counts (length counts) (omega arith));
  scales = λ n h k. absurd (omega arith);
  highs = λ n h k. absurd (omega arith);
  lows = λ n h k. absurd (omega arith);
}

-- three numbers written
abbrev three : (xs : List ℕ) (m a b c : ℕ) → List ℕ
three xs m a b c = set (set (set xs (3 * m) a) (3 * m + 1) b) (3 * m + 2) c

module _ (xs : List ℕ) (m a b c : ℕ) (h : 3 * m + 2 < length xs) where
  first_is : get_or (three xs m a b c) (3 * m) 0 ≡ a
  first_is =
      get_or-set_other (set (set xs (3 * m) a) (3 * m + 1) b) (3 * m + 2) (3 * m) c 0 (λ e. omega arith)
      ∙ get_or-set_other (set xs (3 * m) a) (3 * m + 1) (3 * m) b 0 (λ e. omega arith)
      ∙ get_or-set_same xs (3 * m) a 0 (omega arith)

  second_is : get_or (three xs m a b c) (3 * m + 1) 0 ≡ b
  second_is = get_or-set_other (set (set xs (3 * m) a) (3 * m + 1) b) (3 * m + 2) (3 * m + 1) c 0 (λ e. omega arith) ∙ get_or-set_same (set xs (3 * m) a) (3 * m + 1) b 0 (simp length-set (omega arith))

  third_is : get_or (three xs m a b c) (3 * m + 2) 0 ≡ c
  third_is = get_or-set_same (set (set xs (3 * m) a) (3 * m + 1) b) (3 * m + 2) c 0 (simp length-set (omega arith))

  others_are : (i : ℕ) → i ≢ 3 * m → i ≢ 3 * m + 1 → i ≢ 3 * m + 2 → get_or (three xs m a b c) i 0 ≡ get_or xs i 0
  others_are i p q r =
      get_or-set_other (set (set xs (3 * m) a) (3 * m + 1) b) (3 * m + 2) i c 0 r ∙ get_or-set_other (set xs (3 * m) a) (3 * m + 1) i b 0 q ∙ get_or-set_other xs (3 * m) i a 0 p

module _ {counts places xs : List ℕ} {m scale : ℕ} where
  pub machine_few : CountsOfSome counts → WeightsFrom counts places xs m scale → m ≤ 6
  machine_few C W = omega (arith, W.within, few_counts C)

  pub machine_at_lem : WeightsFrom counts places xs m scale → 0 < m → m - 1 < length counts
  machine_at_lem W h = omega (arith, W.within)

  -- one machine more
  scale_next : WeightsFrom counts places xs m scale → 0 < m → scale * get_or counts (m - 1) 0 ≡ product (drop (m - 1) counts)
  scale_next W h =
      let e : m ≡ suc (m - 1) = omega arith in
      let z : scale ≡ product (drop (suc (m - 1)) counts) = W.scale_is ∙ ap (λ (n : ℕ). product (drop n counts)) e in
      ap (λ (n : ℕ). n * get_or counts (m - 1) 0) z ∙ mul_comm (product (drop (suc (m - 1)) counts)) (get_or counts (m - 1) 0) ∙ sym (product_next counts (m - 1) (machine_at_lem W h))

  pub scale_few : CountsOfSome counts → WeightsFrom counts places xs m scale → 0 < m → scale * get_or counts (m - 1) 0 ≤ 128
  scale_few C W h = omega (arith, scale_next W h, product_drop (m - 1) counts (all_positive C), few_states_lem C)

  pub weights_next : CountsOfSome counts → WeightsFrom counts places xs m scale → 0 < m → {upper lower q : ℕ} → upper ≡ weight_by places ranked_highs (m - 1) → lower ≡ weight_by places ranked_lows (m - 1) → q ≡ get_or counts (m - 1) 0
      → WeightsFrom counts places (three xs (m - 1) scale upper lower) (m - 1) (scale * q)
  weights_next C W h {upper} {lower} {q} eh el eq = record {
    within = omega (arith, W.within);
    size = (simp length-set) ∙ W.size;
    scale_is = ap (λ (n : ℕ). scale * n) eq ∙ scale_next W h;
    scales = λ n a b. scales n a b (ℕ_discrete n (m - 1));
    highs = λ n a b. highs n a b (ℕ_discrete n (m - 1));
    lows = λ n a b. lows n a b (ℕ_discrete n (m - 1));
  }
    where
      room : 3 * (m - 1) + 2 < length xs
      room = omega (arith, W.within, W.size, few_counts C)

      scales : (n : ℕ) → m - 1 ≤ n → n < length counts → Dec (n ≡ m - 1) → scale_of (three xs (m - 1) scale upper lower) n ≡ product (drop (suc n) counts)
      scales n a b (yes q) =
          let e : m ≡ suc (m - 1) = omega arith in
          rw q (first_is xs (m - 1) scale upper lower room ∙ W.scale_is ∙ ap (λ (k : ℕ). product (drop k counts)) e)
      scales n a b (no q) = others_are xs (m - 1) scale upper lower room (3 * n) (λ e. omega arith) (λ e. omega arith) (λ e. omega arith) ∙ W.scales n (omega arith) b

      highs : (n : ℕ) → m - 1 ≤ n → n < length counts → Dec (n ≡ m - 1) → high_of (three xs (m - 1) scale upper lower) n ≡ weight_by places ranked_highs n
      highs n a b (yes q) = rw q (second_is xs (m - 1) scale upper lower room ∙ eh)
      highs n a b (no q) = others_are xs (m - 1) scale upper lower room (3 * n + 1) (λ e. omega arith) (λ e. omega arith) (λ e. omega arith) ∙ W.highs n (omega arith) b

      lows : (n : ℕ) → m - 1 ≤ n → n < length counts → Dec (n ≡ m - 1) → low_of (three xs (m - 1) scale upper lower) n ≡ weight_by places ranked_lows n
      lows n a b (yes q) = rw q (third_is xs (m - 1) scale upper lower room ∙ el)
      lows n a b (no q) = others_are xs (m - 1) scale upper lower room (3 * n + 2) (λ e. omega arith) (λ e. omega arith) (λ e. omega arith) ∙ W.lows n (omega arith) b

module _ {counts : List ℕ} (C : CountsOfSome counts) (ranking : List ℕ) (is : is_ranking (length counts) ranking ≡ true) {xs : List ℕ} {scale : ℕ} (W : WeightsFrom counts (six_places ranking) xs 0 scale) where
  taken : (i : ℕ) → i < 3 * length counts → get_or (take (3 * length counts) xs) i 0 ≡ get_or xs i 0
  taken i h = get_or-take (3 * length counts) xs i 0 h

  size : length (take (3 * length counts) xs) ≡ 3 * length counts
  size = length-take-le _ _ (omega (arith, few_counts C, W.size))

  past : (i : ℕ) → 3 * length counts ≤ i → get_or (take (3 * length counts) xs) i 0 ≡ 0
  past i h = List·getD-eq-default (take (3 * length counts) xs) 0 {n = i} (omega (arith, size))

  high_is : (m : ℕ) → m < length counts → high_of (take (3 * length counts) xs) m ≡ weight_by (six_places ranking) ranked_highs m
  high_is m h = taken (3 * m + 1) (omega arith) ∙ W.highs m (omega arith) h

  low_is : (m : ℕ) → m < length counts → low_of (take (3 * length counts) xs) m ≡ weight_by (six_places ranking) ranked_lows m
  low_is m h = taken (3 * m + 2) (omega arith) ∙ W.lows m (omega arith) h

  pub weights_are : WeightsOf counts (take (3 * length counts) xs)
  weights_are = record {
    size = size;
    scale = λ m h. taken (3 * m) (omega arith) ∙ W.scales m (omega arith) h;
    whole = λ m. whole m (dec_lt m (length counts));
    high_few = λ m. high_few m (dec_lt m (length counts));
    low_few = λ m. low_few m (dec_lt m (length counts));
  }
    where
      whole : (m : ℕ) → Dec (m < length counts) → high_of (take (3 * length counts) xs) m % 256 ≡ 0
      whole m (yes h) = rw (high_is m h) (weight_whole (six_places ranking) ranked_highs m highs_whole)
      whole m (no h) = rw (past (3 * m + 1) (omega arith)) refl

      high_few : (m : ℕ) → Dec (m < length counts) → high_of (take (3 * length counts) xs) m ≤ 2 ^ 52
      high_few m (yes h) = omega (arith, high_is m h, weight_most (2 ^ 48) (six_places ranking) ranked_highs m (once C ranking is m h) highs_six.most)
      high_few m (no h) = omega (arith, past (3 * m + 1) (omega arith))

      low_few : (m : ℕ) → Dec (m < length counts) → low_of (take (3 * length counts) xs) m ≤ 2 ^ 48
      low_few m (yes h) = omega (arith, low_is m h, weight_most (2 ^ 48) (six_places ranking) ranked_lows m (once C ranking is m h) lows_six.most)
      low_few m (no h) = omega (arith, past (3 * m + 2) (omega arith))

  pub weights_ranked : RankedWeights (six_places ranking) (take (3 * length counts) xs)
  weights_ranked = record { high = λ m h. high m h (dec_lt m (length counts)); low = λ m h. low m h (dec_lt m (length counts)) }
    where
      high : (m : ℕ) → m < 6 → Dec (m < length counts) → high_of (take (3 * length counts) xs) m ≡ weight_by (six_places ranking) ranked_highs m
      high m h (yes k) = high_is m k
      high m h (no k) = past (3 * m + 1) (omega arith) ∙ sym (weight_none (six_places ranking) ranked_highs m (never C ranking is m (omega arith) h))

      low : (m : ℕ) → m < 6 → Dec (m < length counts) → low_of (take (3 * length counts) xs) m ≡ weight_by (six_places ranking) ranked_lows m
      low m h (yes k) = low_is m k
      low m h (no k) = past (3 * m + 2) (omega arith) ∙ sym (weight_none (six_places ranking) ranked_lows m (never C ranking is m (omega arith) h))
