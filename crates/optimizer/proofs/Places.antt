-- Counts in ranked order put in card order, place by place. Assumes nothing.
use Rattle.std.specs.Prelude.{◌≡◌, ◌∷◌, ◌++◌, ◌+◌, ◌-◌, ◌<◌, ◌≤◌}
use Rattle.basics.specs.Words.{refl, sym, ◌∙◌, ap, List, [], ℕ, zero, suc, arith, length, get_or, set, replicate, length-set, length-append, length-replicate, get_or-replicate, List·getD-append, List·getD-eq-default, ext_get_or, get_or-append-add, get_or-set_same, get_or-set_other, dec_lt, ℕ_discrete}
use Rattle.ranking.specs.Profiles.{zero_profile}
use Rattle.ranking.specs.Lemmas.Rankings.{Ranking, ranking_facts, place_of, place_unique}
use Rattle.paths.specs.Ranked.{count_at}
use Rattle.paths.specs.ByRanking.{ranked_count}
use Rattle.tables.specs.declared.labels.Label.{Label}
use Rattle.tables.specs.LabelCost.{cost_of}
use Rattle.tables.specs.Places.{six_places}
use Rattle.tables.specs.Laws.Harmony.{any_default}
use Rattle.optimizer.specs.Telling.{RankingOfSome, CardOrder}

-- a label's counts as a list
abbrev pub counts_of : Label → List ℕ
counts_of l = l.first ∷ l.second ∷ l.third ∷ l.fourth ∷ l.fifth ∷ l.sixth ∷ []

-- the counts of the first n places stand at their machines, and no machine past the last has any
pub record Placed (ranking ranks : List ℕ) (n : ℕ) (counts : List ℕ) : Type 0 where
  pub size : length counts ≡ 6
  pub placed : (j : ℕ) → j < n → get_or counts (get_or ranking j 0) 0 ≡ get_or ranks j 0
  pub unused : (i : ℕ) → length ranking ≤ i → get_or counts i 0 ≡ 0

zeros : (n i : ℕ) → ◌≡◌ {A = ℕ} (get_or (replicate n 0) i 0) 0
zeros n i = go (dec_lt i n)
  where
    go : Dec (i < n) → ◌≡◌ {A = ℕ} (get_or (replicate n 0) i 0) 0
    go (yes h) = get_or-replicate n i 0 0 h
    go (no h) = List·getD-eq-default (replicate n 0) 0 (rw length-replicate (omega arith))

pub placed_start : (ranking ranks counts : List ℕ) → counts ≡ zero_profile.counts → Placed ranking ranks 0 counts
placed_start ranking ranks counts e = record { size = ap length e; placed = λ j h. absurd (omega arith); unused = λ i _. ap (λ (l : List ℕ). get_or l i 0) e ∙ zeros 6 i }

module _ (ranking : List ℕ) (some : RankingOfSome ranking) where
  facts : Ranking (length ranking) ranking
  facts = ranking_facts (length ranking) ranking some.ranks

  -- a machine's number is below 6
  pub place_below : (n : ℕ) → n < length ranking → get_or ranking n 0 < 6
  place_below n h = omega (arith, facts.below n h, some.few)

  pub placed_next : (ranks : List ℕ) (n : ℕ) (counts : List ℕ) → Placed ranking ranks n counts → n < length ranking → (at v : ℕ) → at ≡ get_or ranking n 0 → v ≡ get_or ranks n 0 → Placed ranking ranks (n + 1) (set counts at v)
  placed_next ranks n counts P h at v a e = record {
    size = length-set counts at v ∙ P.size;
    placed = λ j b. each j b (ℕ_discrete j n);
    unused = λ i b. get_or-set_other counts at i v 0 (omega (arith, facts.below n h)) ∙ P.unused i b;
  }
    where
      each : (j : ℕ) → j < n + 1 → Dec (j ≡ n) → get_or (set counts at v) (get_or ranking j 0) 0 ≡ get_or ranks j 0
      each j b (yes q) =
          let z : get_or (set counts at v) at 0 ≡ v = get_or-set_same counts at v 0 (omega (arith, P.size, place_below n h)) in
          rw (q, ← a) (z ∙ e)
      each j b (no q) =
          let m : get_or ranking j 0 ≡ at → ⊥ = λ k. q (place_unique (length ranking) ranking facts j n (omega arith) h (k ∙ a)) in
          get_or-set_other counts at (get_or ranking j 0) v 0 m ∙ P.placed j (omega arith)

  -- the label's count at a place
  at_place : (label : Label) (j : ℕ) → j < 6 → get_or (counts_of label) j 0 ≡ count_at 6 j (cost_of label)
  at_place label zero h = refl
  at_place label (suc zero) h = refl
  at_place label (suc (suc zero)) h = refl
  at_place label (suc (suc (suc zero))) h = refl
  at_place label (suc (suc (suc (suc zero)))) h = refl
  at_place label (suc (suc (suc (suc (suc zero))))) h = refl
  at_place label (suc (suc (suc (suc (suc (suc j)))))) h = absurd (omega arith)

  six_at : (j : ℕ) → j < 6 → get_or (six_places ranking) j 0 ≡ get_or ranking j 6
  six_at zero h = refl
  six_at (suc zero) h = refl
  six_at (suc (suc zero)) h = refl
  six_at (suc (suc (suc zero))) h = refl
  six_at (suc (suc (suc (suc zero)))) h = refl
  six_at (suc (suc (suc (suc (suc zero))))) h = refl
  six_at (suc (suc (suc (suc (suc (suc j)))))) h = absurd (omega arith)

  pub placed_end : (label : Label) (n : ℕ) (counts : List ℕ) → Placed ranking (counts_of label) n counts → length ranking ≤ n → CardOrder ranking (cost_of label) (record { counts = counts })
  placed_end label n counts P h X m size e = λ i. record { counts = same i }
    where
      count_at_lem : (i : ℕ) → i < length X → get_or counts i 0 ≡ get_or X i 0
      count_at_lem i b =
          let k = place_of (length ranking) ranking facts i (omega arith) in
          let j = k.0 in
          let l : j < 6 = omega (arith, k.1, some.few) in
          ap (λ (u : ℕ). get_or counts u 0) (sym k.2)
          ∙ P.placed j (omega (arith, k.1))
          ∙ at_place label j l
          ∙ ap (count_at 6 j) e
          ∙ ranked_count (six_places ranking) X m j l
          ∙ ap (λ (u : ℕ). get_or X u 0) (six_at j l ∙ any_default ranking j 6 0 k.1 ∙ k.2)

      whole : length (X ++ replicate (6 - length X) 0) ≡ 6
      whole = rw (length-append, length-replicate) (omega (arith, size, some.few))

      at : (i : ℕ) → Dec (i < length X) → get_or counts i 0 ≡ get_or (X ++ replicate (6 - length X) 0) i 0
      at i (yes b) = count_at_lem i b ∙ sym (List·getD-append X (replicate (6 - length X) 0) 0 i b)
      at i (no b) =
          let q : length X + (i - length X) ≡ i = omega arith in
          P.unused i (omega (arith, size))
          ∙ sym (zeros (6 - length X) (i - length X))
          ∙ sym (get_or-append-add X (replicate (6 - length X) 0) (i - length X) 0)
          ∙ ap (λ (u : ℕ). get_or (X ++ replicate (6 - length X) 0) u 0) q

      same : counts ≡ X ++ replicate (6 - length X) 0
      same = ext_get_or 0 counts (X ++ replicate (6 - length X) 0) (P.size ∙ sym whole) (λ i _. at i (dec_lt i (length X)))
