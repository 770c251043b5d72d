-- A machine in the first place, and the first one in its place: a ranking, by which the weights price marks as before. Assumes nothing.
use Rattle.std.specs.Prelude.{◌≡◌, ◌≢◌, ◌⊎◌, ◌+◌, ◌*◌, ◌<◌, ◌≤◌}
use Rattle.basics.proofs.Words.{refl, sym, ◌∙◌, ap, Bool, true, cond, List, inl, inr, ℕ, zero, suc, arith, length, get_or, set, take, length-set, List·getD-eq-default, eqb, get_or-set_same, get_or-set_other, get_or-take, ℕ_discrete, dec_lt, every_below, occurrences, every_at}
use Rattle.std.proofs.Common.{eq-eqb, ne_eqb, eqb-true}
use Rattle.ranking.specs.Rankings.{is_ranking}
use Rattle.tables.specs.Places.{six_places}
use Rattle.settling.specs.Prices.{SixWeights, most_price}
use Rattle.cells.specs.Cells.{high_of}
use Rattle.machine_weights.specs.Highs.{six_highs}
use Rattle.weighted.specs.FirstPlace.{card_places, first_put}

-- the machine that stands at a place
unfoldable pub placed_at : ℕ → ℕ → ℕ
placed_at k m = cond (eqb m k) 0 (cond (eqb m 0) k m)

-- ---- the places are a ranking

rankings : every_below (λ n. every_below (λ k. is_ranking (suc n) (take (suc n) (first_put k card_places))) (suc n)) 6 ≡ true
unfolding is_ranking every_below occurrences
rankings = refl

pub first_ranking : (K k : ℕ) → K ≤ 6 → k < K → is_ranking K (take K (first_put k card_places)) ≡ true
first_ranking zero k h b = absurd (omega arith)
first_ranking (suc n) k h b =
    every_at (λ j. is_ranking (suc n) (take (suc n) (first_put j card_places))) (suc n)
    (every_at (λ i. every_below (λ j. is_ranking (suc i) (take (suc i) (first_put j card_places))) (suc i)) 6 rankings n (omega arith)) k b

-- ---- what stands at a place

places : every_below (λ k. every_below (λ m. eqb (get_or (first_put k card_places) m 6) (placed_at k m)) 6) 6 ≡ true
unfolding every_below placed_at
places = refl

place_at : (k m : ℕ) → k < 6 → m < 6 → get_or (first_put k card_places) m 6 ≡ placed_at k m
place_at k m h b =
    eqb-true (get_or (first_put k card_places) m 6) (placed_at k m)
    (every_at (λ m. eqb (get_or (first_put k card_places) m 6) (placed_at k m)) 6 (every_at (λ k. every_below (λ m. eqb (get_or (first_put k card_places) m 6) (placed_at k m)) 6) 6 places k h) m b)

six_at : (r : List ℕ) (m : ℕ) → m < 6 → get_or (six_places r) m 0 ≡ get_or r m 6
six_at r zero h = refl
six_at r (suc zero) h = refl
six_at r (suc (suc zero)) h = refl
six_at r (suc (suc (suc zero))) h = refl
six_at r (suc (suc (suc (suc zero)))) h = refl
six_at r (suc (suc (suc (suc (suc zero))))) h = refl
six_at r (suc (suc (suc (suc (suc (suc m)))))) h = absurd (omega arith)

-- a place of its own where a machine is past the last one
placed_past : (k m : ℕ) → k < m → placed_at k m ≡ m
unfolding placed_at
placed_past k m h = rw (ne_eqb m k (λ e. omega (arith, e)), ne_eqb m 0 (λ e. omega (arith, e)))

-- at each place the machine stands there, or it counts nothing
pub first_place_lem : (K k : ℕ) (ws : List ℕ) → k < K → K ≤ 6 → length ws ≡ 3 * K → (m : ℕ) → m < 6 → (get_or (six_places (take K (first_put k card_places))) m 0 ≡ placed_at k m) ⊎ (high_of ws (placed_at k m) ≡ 0)
first_place_lem K k ws b h e m s = go (dec_lt m K)
  where
    go : Dec (m < K) → (get_or (six_places (take K (first_put k card_places))) m 0 ≡ placed_at k m) ⊎ (high_of ws (placed_at k m) ≡ 0)
    go (yes i) = inl (six_at (take K (first_put k card_places)) m s ∙ get_or-take K (first_put k card_places) m 6 i ∙ place_at k m (omega arith) s)
    go (no i) = inr (ap (high_of ws) (placed_past k m (omega arith)) ∙ List·getD-eq-default ws 0 (omega (arith, e)))

-- ---- what marks count there

put_at : (l : List ℕ) (k m : ℕ) → k < length l → m < length l → get_or (first_put k l) m 0 ≡ get_or l (placed_at k m) 0
unfolding placed_at
put_at l k m h b = go (ℕ_discrete m k) (ℕ_discrete m 0)
  where
    start : List ℕ
    start = set l 0 (get_or l k 0)

    long : length start ≡ length l
    long = length-set l 0 (get_or l k 0)

    go : Dec (m ≡ k) → Dec (m ≡ 0) → get_or (first_put k l) m 0 ≡ get_or l (placed_at k m) 0
    go (yes e) z = ap (λ (j : ℕ). get_or (first_put k l) j 0) e ∙ get_or-set_same start k (get_or l 0 0) 0 (omega (arith, long)) ∙ sym (ap (λ (j : ℕ). get_or l j 0) (rw (eq-eqb m k e)))
    go (no n) (yes z) =
        get_or-set_other start k m (get_or l 0 0) 0 n ∙ ap (λ (j : ℕ). get_or start j 0) z ∙ get_or-set_same l 0 (get_or l k 0) 0 (omega arith)
        ∙ sym (ap (λ (j : ℕ). get_or l j 0) (rw (ne_eqb m k n, eq-eqb m 0 z)))
    go (no n) (no z) = get_or-set_other start k m (get_or l 0 0) 0 n ∙ get_or-set_other l 0 m (get_or l k 0) 0 z ∙ sym (ap (λ (j : ℕ). get_or l j 0) (rw (ne_eqb m k n, ne_eqb m 0 z)))

high_at_lem : (ws : List ℕ) (m : ℕ) → m < 6 → get_or (six_highs ws) m 0 ≡ high_of ws m
high_at_lem ws zero h = refl
high_at_lem ws (suc zero) h = refl
high_at_lem ws (suc (suc zero)) h = refl
high_at_lem ws (suc (suc (suc zero))) h = refl
high_at_lem ws (suc (suc (suc (suc zero)))) h = refl
high_at_lem ws (suc (suc (suc (suc (suc zero))))) h = refl
high_at_lem ws (suc (suc (suc (suc (suc (suc m)))))) h = absurd (omega arith)

placed_few : (k m : ℕ) → k < 6 → m < 6 → placed_at k m < 6
unfolding placed_at
placed_few k m h b = go (ℕ_discrete m k) (ℕ_discrete m 0)
  where
    go : Dec (m ≡ k) → Dec (m ≡ 0) → placed_at k m < 6
    go (yes e) z = rw (eq-eqb m k e) (omega arith)
    go (no n) (yes z) = rw (ne_eqb m k n, eq-eqb m 0 z) h
    go (no n) (no z) = rw (ne_eqb m k n, ne_eqb m 0 z) b

pub first_high : (ws : List ℕ) (k m : ℕ) → k < 6 → m < 6 → get_or (first_put k (six_highs ws)) m 0 ≡ high_of ws (placed_at k m)
first_high ws k m h b = put_at (six_highs ws) k m h b ∙ high_at_lem ws (placed_at k m) (placed_few k m h b)

-- ---- sums over the places are sums over the machines

pub six_placed : (t : ℕ → ℕ) (k : ℕ) → k < 6
    → t (placed_at k 0) + (t (placed_at k 1) + (t (placed_at k 2) + (t (placed_at k 3) + (t (placed_at k 4) + t (placed_at k 5))))) ≡ t 0 + (t 1 + (t 2 + (t 3 + (t 4 + t 5))))
unfolding placed_at
six_placed t zero h = refl
six_placed t (suc zero) h = omega arith
six_placed t (suc (suc zero)) h = omega arith
six_placed t (suc (suc (suc zero))) h = omega arith
six_placed t (suc (suc (suc (suc zero)))) h = omega arith
six_placed t (suc (suc (suc (suc (suc zero))))) h = omega arith
six_placed t (suc (suc (suc (suc (suc (suc k)))))) h = absurd (omega arith)

pub first_most : (ws : List ℕ) (k : ℕ) → k < 6 → most_price (first_put k (six_highs ws)) ≡ most_price (six_highs ws)
unfolding most_price
first_most ws k h =
    omega (arith, at 0 (omega arith), at 1 (omega arith), at 2 (omega arith), at 3 (omega arith), at 4 (omega arith), at 5 (omega arith), six_placed (high_of ws) k h)
  where
    at : (m : ℕ) → m < 6 → get_or (first_put k (six_highs ws)) m 0 ≡ high_of ws (placed_at k m)
    at m b = first_high ws k m h b
