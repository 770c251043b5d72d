-- Rankings of a card with two machines joined: they are rankings, and compare the merged counts as the old one did. Assumes nothing.
use Rattle.std.specs.Prelude.{◌≡◌, ◌&&◌, ◌∷◌, ◌⊎◌, ◌+◌, ◌-◌, ◌<◌}
use Rattle.basics.proofs.Words.{refl, sym, ap, ◌∙◌, Bool, true, false, not, cond, List, [], inl, inr, ℕ, suc, arith, length, get_or, eqb, ltb, those, occurrences, same, both, left, right, each_below}
use Rattle.std.proofs.Common.{eqb-true, ltb-true, ltb-false, eq-eqb, ne_eqb}
use Rattle.std.proofs.lemmas.Bool.{eqb-false, not-true}
use Rattle.ranking.specs.Rankings.{is_ranking}
use Rattle.ranking.specs.Harmony.{is_worse, worse}
use Rattle.ranking.specs.Lemmas.Harmony.{Standing, fewer, same as alike, more, standing, harmony_end, at_fewer, at_same, at_more}
use Rattle.ranking.specs.Lemmas.Rankings.{Ranking, ranking_facts, each_once}
use Rattle.join.specs.Merged.{merged_counts}
use Rattle.join.specs.JoinedRanking.{renumbered, joined_ranking}
use Rattle.join.specs.Laws.Merged.{merged_here, merged_before, merged_after}

-- the new number y of the machine x
pub data Renumbered (i j x y : ℕ) : Type 0 where
  before : x < j → y ≡ x → Renumbered i j x y
  joined_too : x ≡ j → y ≡ i → Renumbered i j x y
  after : j < x → suc y ≡ x → Renumbered i j x y

pub new_number : (i j x : ℕ) → Renumbered i j x (renumbered i j x)
new_number i j x = go (ltb x j) refl (eqb x j) refl
  where
    go : (a : Bool) → ltb x j ≡ a → (b : Bool) → eqb x j ≡ b → Renumbered i j x (cond a x (cond b i (x - 1)))
    go true a b e = before (ltb-true x j a) refl
    go false a true e = joined_too (eqb-true x j e) refl
    go false a false e = let h : j < x = omega (arith, ltb-false x j a, eqb-false x j e) in after h (omega (arith, h))

-- ---- the merged counts, by the old numbers

-- one of the two has no marks, and so counts nothing
module _ (i j u : ℕ) (order : i < j) (which : (u ≡ i) ⊎ (u ≡ j)) where
  pub merged_count : (v : List ℕ) → j < length v → get_or v u 0 ≡ 0 → (m : ℕ) → (m ≡ u → ⊥) → get_or (merged_counts i j v) (renumbered i j m) 0 ≡ get_or v m 0
  merged_count v within zero-there m n = go which (eqb m i) refl (new_number i j m)
    where
      at_i : renumbered i j m ≡ i → get_or (merged_counts i j v) (renumbered i j m) 0 ≡ get_or v i 0 + get_or v j 0
      at_i e = ap (λ k. get_or (merged_counts i j v) k 0) e ∙ merged_here (λ m n. m + n) v i j 0 order within

      go : (u ≡ i) ⊎ (u ≡ j) → (b : Bool) → eqb m i ≡ b → Renumbered i j m (renumbered i j m) → get_or (merged_counts i j v) (renumbered i j m) 0 ≡ get_or v m 0
      go w false e (before h q) = ap (λ k. get_or (merged_counts i j v) k 0) q ∙ merged_before (λ m n. m + n) v i j m 0 order h (eqb-false m i e)
      go (inl w) true e (before h q) = absurd (n (eqb-true m i e ∙ sym w))
      go (inr w) true e (before h q) =
          let mi = eqb-true m i e in
          at_i (q ∙ mi) ∙ (let z : get_or v j 0 ≡ 0 = ap (λ k. get_or v k 0) (sym w) ∙ zero-there in omega (arith, z)) ∙ ap (λ k. get_or v k 0) (sym mi)
      go (inl w) b e (joined_too h q) =
          at_i q ∙ (let z : get_or v i 0 ≡ 0 = ap (λ k. get_or v k 0) (sym w) ∙ zero-there in omega (arith, z)) ∙ ap (λ k. get_or v k 0) (sym h)
      go (inr w) b e (joined_too h q) = absurd (n (h ∙ sym w))
      go w b e (after h q) = merged_after (λ m n. m + n) v i j (renumbered i j m) 0 order (omega (arith, h, q)) ∙ ap (λ k. get_or v k 0) q

  -- ---- comparison under the joined ranking

  kept : (m : ℕ) (r : List ℕ) → (m ≡ u → ⊥) → joined_ranking i j u (m ∷ r) ≡ renumbered i j m ∷ joined_ranking i j u r
  unfolding joined_ranking those
  kept m r n = rw (ne_eqb m u n, those)

  gone : (m : ℕ) (r : List ℕ) → m ≡ u → joined_ranking i j u (m ∷ r) ≡ joined_ranking i j u r
  unfolding joined_ranking those
  gone m r e = rw (eq-eqb m u e, those)

  pub joined_worse : (r v w : List ℕ) → j < length v → j < length w → get_or v u 0 ≡ 0 → get_or w u 0 ≡ 0
      → worse (joined_ranking i j u r) (merged_counts i j v) (merged_counts i j w) ≡ worse r v w
  unfolding joined_ranking those
  joined_worse [] v w hv hw zv zw = ap is_worse (harmony_end (merged_counts i j v) (merged_counts i j w) refl) ∙ sym (ap is_worse (harmony_end v w refl))
  joined_worse (m ∷ r) v w hv hw zv zw = go (eqb m u) refl (joined_worse r v w hv hw zv zw)
    where
      v' : List ℕ
      v' = merged_counts i j v

      w' : List ℕ
      w' = merged_counts i j w

      r' : List ℕ
      r' = joined_ranking i j u r

      m' : ℕ
      m' = renumbered i j m

      stays : (m ≡ u → ⊥) → Standing (get_or v m 0) (get_or w m 0) → worse r' v' w' ≡ worse r v w → worse (m' ∷ r') v' w' ≡ worse (m ∷ r) v w
      stays n (fewer h) rec = ap is_worse (at_fewer m' r' v' w' (omega (arith, merged_count v hv zv m n, merged_count w hw zw m n, h))) ∙ sym (ap is_worse (at_fewer m r v w h))
      stays n (alike h) rec = ap is_worse (at_same m' r' v' w' (merged_count v hv zv m n ∙ h ∙ sym (merged_count w hw zw m n))) ∙ rec ∙ sym (ap is_worse (at_same m r v w h))
      stays n (more h) rec = ap is_worse (at_more m' r' v' w' (omega (arith, merged_count v hv zv m n, merged_count w hw zw m n, h))) ∙ sym (ap is_worse (at_more m r v w h))

      go : (b : Bool) → eqb m u ≡ b → worse r' v' w' ≡ worse r v w → worse (joined_ranking i j u (m ∷ r)) v' w' ≡ worse (m ∷ r) v w
      go true e rec =
          let q = eqb-true m u e in
          ap (λ (l : List ℕ). worse l v' w') (gone m r q)
          ∙ rec
          ∙ sym (ap is_worse (at_same m r v w (ap (λ k. get_or v k 0) q ∙ zv ∙ sym zw ∙ ap (λ k. get_or w k 0) (sym q))))
      go false e rec =
          let n = eqb-false m u e in
          ap (λ (l : List ℕ). worse l v' w') (kept m r n) ∙ stays n (standing (get_or v m 0) (get_or w m 0)) rec

  -- ---- it is a ranking of one machine less

  joined_length : (r : List ℕ) → length (joined_ranking i j u r) + occurrences u r ≡ length r
  unfolding joined_ranking those occurrences
  joined_length [] = refl
  joined_length (m ∷ r) = go (eqb m u) refl (joined_length r)
    where
      go : (b : Bool) → eqb m u ≡ b → length (joined_ranking i j u r) + occurrences u r ≡ length r → length (joined_ranking i j u (m ∷ r)) + occurrences u (m ∷ r) ≡ suc (length r)
      go true e rec = let q = gone m r (eqb-true m u e) in rw (q, e, occurrences) (omega (arith, rec))
      go false e rec = let q = kept m r (eqb-false m u e) in rw (q, e, occurrences) (omega (arith, rec))

  -- the machine that has the number n now
  pub record Formerly (n : ℕ) : Type 0 where
    pub old : ℕ
    pub only : (x : ℕ) → (not (eqb x u) && eqb (renumbered i j x) n) ≡ eqb x old
    pub small : (K : ℕ) → j < suc K → n < K → old < suc K

  only_it : (n old : ℕ) → ((x y : ℕ) → Renumbered i j x y → (x ≡ u → ⊥) → y ≡ n → x ≡ old) → (old ≡ u → ⊥) → ((y : ℕ) → Renumbered i j old y → y ≡ n)
      → (x : ℕ) → (not (eqb x u) && eqb (renumbered i j x) n) ≡ eqb x old
  only_it n old to differs back x =
      same (not (eqb x u) && eqb (renumbered i j x) n) (eqb x old)
      (λ t.
      eq-eqb x old (to x (renumbered i j x) (new_number i j x)
      (eqb-false x u (not-true (eqb x u) (left (not (eqb x u)) (eqb (renumbered i j x) n) t)))
      (eqb-true (renumbered i j x) n (right (not (eqb x u)) (eqb (renumbered i j x) n) t))))
      (λ t.
      let e = eqb-true x old t in
      both (ap not (ne_eqb x u (λ f. differs (sym e ∙ f)))) (eq-eqb (renumbered i j x) n (ap (renumbered i j) e ∙ back (renumbered i j old) (new_number i j old))))

  pub formerly : (n : ℕ) → Formerly n
  formerly n = go (eqb n i) refl (ltb n j) refl which
    where
      go : (a : Bool) → eqb n i ≡ a → (b : Bool) → ltb n j ≡ b → (u ≡ i) ⊎ (u ≡ j) → Formerly n
      go true a b l (inl w) = record { old = j; only = only_it n j to (omega (arith, w, order)) back; small = λ K h q. h }
        where
          to : (x y : ℕ) → Renumbered i j x y → (x ≡ u → ⊥) → y ≡ n → x ≡ j
          to x y (before h q) d e = absurd (d (omega (arith, q, e, w, eqb-true n i a)))
          to x y (joined_too h q) d e = h
          to x y (after h q) d e = absurd (omega (arith, h, q, e, order, eqb-true n i a))

          back : (y : ℕ) → Renumbered i j j y → y ≡ n
          back y (before h q) = absurd (omega (arith, h))
          back y (joined_too h q) = q ∙ sym (eqb-true n i a)
          back y (after h q) = absurd (omega (arith, h))
      go true a b l (inr w) = record { old = i; only = only_it n i to (omega (arith, w, order)) back; small = λ K h q. (omega (arith, h, order)) }
        where
          to : (x y : ℕ) → Renumbered i j x y → (x ≡ u → ⊥) → y ≡ n → x ≡ i
          to x y (before h q) d e = omega (arith, q, e, eqb-true n i a)
          to x y (joined_too h q) d e = absurd (d (h ∙ sym w))
          to x y (after h q) d e = absurd (omega (arith, h, q, e, order, eqb-true n i a))

          back : (y : ℕ) → Renumbered i j i y → y ≡ n
          back y (before h q) = q ∙ sym (eqb-true n i a)
          back y (joined_too h q) = absurd (omega (arith, h, order))
          back y (after h q) = absurd (omega (arith, h, order))
      go false a true l w = record { old = n; only = only_it n n to (differs w) back; small = λ K h q. (omega (arith, q)) }
        where
          to : (x y : ℕ) → Renumbered i j x y → (x ≡ u → ⊥) → y ≡ n → x ≡ n
          to x y (before h q) d e = sym q ∙ e
          to x y (joined_too h q) d e = absurd (eqb-false n i a (sym e ∙ q))
          to x y (after h q) d e = absurd (omega (arith, h, q, e, ltb-true n j l))

          differs : (u ≡ i) ⊎ (u ≡ j) → n ≡ u → ⊥
          differs (inl f) e = eqb-false n i a (e ∙ f)
          differs (inr f) e = omega (arith, e, f, ltb-true n j l)

          back : (y : ℕ) → Renumbered i j n y → y ≡ n
          back y (before h q) = q
          back y (joined_too h q) = absurd (omega (arith, h, ltb-true n j l))
          back y (after h q) = absurd (omega (arith, h, ltb-true n j l))
      go false a false l w = record { old = suc n; only = only_it n (suc n) to (differs w) back; small = λ K h q. (omega (arith, q)) }
        where
          to : (x y : ℕ) → Renumbered i j x y → (x ≡ u → ⊥) → y ≡ n → x ≡ suc n
          to x y (before h q) d e = absurd (omega (arith, h, q, e, ltb-false n j l))
          to x y (joined_too h q) d e = absurd (eqb-false n i a (sym e ∙ q))
          to x y (after h q) d e = sym q ∙ ap suc e

          differs : (u ≡ i) ⊎ (u ≡ j) → suc n ≡ u → ⊥
          differs (inl f) e = omega (arith, e, f, order, ltb-false n j l)
          differs (inr f) e = omega (arith, e, f, ltb-false n j l)

          back : (y : ℕ) → Renumbered i j (suc n) y → y ≡ n
          back y (before h q) = absurd (omega (arith, h, ltb-false n j l))
          back y (joined_too h q) = absurd (omega (arith, h, ltb-false n j l))
          back y (after h q) = omega (arith, q)

  joined_occurrences : (n : ℕ) (f : Formerly n) (r : List ℕ) → occurrences n (joined_ranking i j u r) ≡ occurrences f.old r
  unfolding joined_ranking those occurrences
  joined_occurrences n f [] = refl
  joined_occurrences n f (m ∷ r) = go (eqb m u) refl (eqb (renumbered i j m) n) refl (joined_occurrences n f r)
    where
      r' : List ℕ
      r' = joined_ranking i j u r

      here : eqb m f.old ≡ (not (eqb m u) && eqb (renumbered i j m) n)
      here = sym (f.only m)

      go : (a : Bool) → eqb m u ≡ a → (b : Bool) → eqb (renumbered i j m) n ≡ b → occurrences n r' ≡ occurrences f.old r → occurrences n (joined_ranking i j u (m ∷ r)) ≡ occurrences f.old (m ∷ r)
      go true a b e rec =
          let q : eqb m f.old ≡ false = here ∙ (rw a) in
          ap (occurrences n) (gone m r (eqb-true m u a)) ∙ rec ∙ (rw (q, occurrences))
      go false a true e rec =
          let q : eqb m f.old ≡ true = here ∙ (rw (a, e)) in
          ap (occurrences n) (kept m r (eqb-false m u a)) ∙ (rw (e, q, occurrences) (ap suc rec))
      go false a false e rec =
          let q : eqb m f.old ≡ false = here ∙ (rw (a, e)) in
          ap (occurrences n) (kept m r (eqb-false m u a)) ∙ (rw (e, q, occurrences) rec)

  pub joined_ranking_lem : (K : ℕ) (r : List ℕ) → j < suc K → is_ranking (suc K) r ≡ true → is_ranking K (joined_ranking i j u r) ≡ true
  joined_ranking_lem K r within is =
      each_once K (joined_ranking i j u r) size
      (each_below (λ n. eqb (occurrences n (joined_ranking i j u r)) 1) K (λ n h.
      let f = formerly n in
      eq-eqb (occurrences n (joined_ranking i j u r)) 1 (joined_occurrences n f r ∙ facts.once f.old (f.small K within h))))
    where
      facts : Ranking (suc K) r
      facts = ranking_facts (suc K) r is

      below : (u ≡ i) ⊎ (u ≡ j) → u < suc K
      below (inl e) = omega (arith, e, order, within)
      below (inr e) = omega (arith, e, within)

      size : length (joined_ranking i j u r) ≡ K
      size = omega (arith, joined_length r, facts.places, facts.once u (below which))
