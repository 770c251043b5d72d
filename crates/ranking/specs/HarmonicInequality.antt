-- Harmonic inequality (Riggle, (1)): comparison under a ranking is a strict total order on the first K counts, and merging one profile with both
-- sides keeps it. Assumes nothing.
use Rattle.std.specs.Prelude.{◌≡◌, ◌∷◌, ◌⊎◌, ◌↔◌, ◌+◌, ◌<◌}
use Rattle.basics.proofs.Words.{refl, sym, ◌∙◌, ap, Bool, true, false, List, [], inl, inr, ℕ, zero, suc, arith, length, get_or, clash}
use Rattle.ranking.specs.declared.Order.{Order}
use Rattle.ranking.specs.declared.Order.TheVariants.{Better, Equal, Worse}
use Rattle.ranking.specs.Profiles.{merge}
use Rattle.ranking.specs.Rankings.{is_ranking}
use Rattle.ranking.specs.Harmony.{harmony, is_better, is_worse, better, worse}
use Rattle.ranking.specs.Lemmas.Rankings.{Ranking, ranking_facts, place_of}
use Rattle.ranking.specs.Lemmas.Harmony.{Standing, fewer, same, more, standing, at_fewer, at_same, at_more}

-- v and w agree at every machine ranked above a place
abbrev pub AgreeAbove : ℕ → List ℕ → List ℕ → List ℕ → Type 0
AgreeAbove place r v w = (i : ℕ) → i < place → get_or v (get_or r i 0) 0 ≡ get_or w (get_or r i 0) 0

-- v is more harmonic than w: it has the smaller count at the highest ranked machine where the two differ
pub record MoreHarmonic (r v w : List ℕ) : Type 0 where
  pub place : ℕ
  pub ranked : place < length r
  pub smaller : get_or v (get_or r place 0) 0 < get_or w (get_or r place 0) 0
  pub agree_above : AgreeAbove place r v w

-- the first K counts are equal
abbrev pub Agree : ℕ → List ℕ → List ℕ → Type 0
Agree K v w = (m : ℕ) → m < K → get_or v m 0 ≡ get_or w m 0

-- the other way round, by the same machine
abbrev pub opposite : Order → Order
opposite (Better m) = Worse m
opposite Equal = Equal
opposite (Worse m) = Better m

-- exactly one of three holds
pub record ExactlyOne (A B C : Type 0) : Type 0 where
  pub one : A ⊎ (B ⊎ C)
  pub not_first_second : A → B → ⊥
  pub not_second_third : B → C → ⊥
  pub not_first_third : A → C → ⊥

-- none is both better and worse, and what is neither is equal
pub not_both : (o : Order) → is_better o ≡ true → is_worse o ≡ true → ⊥
not_both (Better m) b w = clash w refl
not_both Equal b w = clash b refl
not_both (Worse m) b w = clash b refl

pub neither : (o : Order) → is_better o ≡ false → is_worse o ≡ false → o ≡ Equal
neither (Better m) b w = absurd (clash refl b)
neither Equal b w = refl
neither (Worse m) b w = absurd (clash refl w)

nothing_ranked : (v w : List ℕ) → harmony [] v w ≡ Equal
unfolding harmony
nothing_ranked v w = refl

-- better is more harmonic
better_is : (r v w : List ℕ) → better r v w ≡ true → MoreHarmonic r v w
better_is [] v w e = absurd (clash e (ap is_better (nothing_ranked v w)))
better_is (m ∷ r) v w e = go (standing (get_or v m 0) (get_or w m 0)) (better_is r v w)
  where
    go : Standing (get_or v m 0) (get_or w m 0) → (better r v w ≡ true → MoreHarmonic r v w) → MoreHarmonic (m ∷ r) v w
    go (fewer h) k = record { place = 0; ranked = omega arith; smaller = h; agree_above = λ i q. absurd (omega arith) }
    go (more h) k = absurd (clash e (ap is_better (at_more m r v w h)))
    go (same h) k =
        let d = k (ap is_better (sym (at_same m r v w h)) ∙ e) in
        record { place = suc d.place; ranked = omega (arith, d.ranked); smaller = d.smaller; agree_above = above d }
      where
        above : (d : MoreHarmonic r v w) (i : ℕ) → i < suc d.place → get_or v (get_or (m ∷ r) i 0) 0 ≡ get_or w (get_or (m ∷ r) i 0) 0
        above d zero q = h
        above d (suc i) q = d.agree_above i (omega arith)

-- and what is more harmonic is better, by the machine at that place
by_place_lem : (r v w : List ℕ) (i : ℕ) → i < length r → get_or v (get_or r i 0) 0 < get_or w (get_or r i 0) 0 → AgreeAbove i r v w → harmony r v w ≡ Better (get_or r i 0)
by_place_lem [] v w i q h a = absurd (omega arith)
by_place_lem (m ∷ r) v w zero q h a = at_fewer m r v w h
by_place_lem (m ∷ r) v w (suc i) q h a = at_same m r v w (a 0 (omega arith)) ∙ by_place_lem r v w i (omega arith) h (λ j p. a (suc j) (omega arith))

pub decided_at : (r v w : List ℕ) (d : MoreHarmonic r v w) → harmony r v w ≡ Better (get_or r d.place 0)
decided_at r v w d = by_place_lem r v w d.place d.ranked d.smaller d.agree_above

pub better_means : (r v w : List ℕ) → (better r v w ≡ true) ↔ MoreHarmonic r v w
better_means r v w = (better_is r v w, λ d. ap is_better (decided_at r v w d))

-- better one way is worse the other way
pub reversed : (r v w : List ℕ) → harmony r w v ≡ opposite (harmony r v w)
reversed [] v w = rw (nothing_ranked v w) (nothing_ranked w v)
reversed (m ∷ r) v w = go (standing (get_or v m 0) (get_or w m 0)) (reversed r v w)
  where
    go : Standing (get_or v m 0) (get_or w m 0) → harmony r w v ≡ opposite (harmony r v w) → harmony (m ∷ r) w v ≡ opposite (harmony (m ∷ r) v w)
    go (fewer h) k = rw (at_fewer m r v w h) (at_more m r w v h)
    go (same h) k = rw (at_same m r v w h) (at_same m r w v (sym h) ∙ k)
    go (more h) k = rw (at_more m r v w h) (at_fewer m r w v h)

pub better_worse : (r v w : List ℕ) → worse r w v ≡ better r v w
better_worse r v w = ap is_worse (reversed r v w) ∙ turned (harmony r v w)
  where
    turned : (o : Order) → is_worse (opposite o) ≡ is_better o
    turned (Better m) = refl
    turned Equal = refl
    turned (Worse m) = refl

pub worse_means : (r v w : List ℕ) → (worse r v w ≡ true) ↔ MoreHarmonic r w v
worse_means r v w = (λ e. better_is r w v (sym (better_worse r w v) ∙ e), λ d. better_worse r w v ∙ (better_means r w v).1 d)

-- never both ways, and equal where neither way
pub one_way : (r v w : List ℕ) → better r v w ≡ true → better r w v ≡ true → ⊥
one_way r v w p q = not_both (harmony r v w) p (better_worse r w v ∙ q)

pub neither_way : (r v w : List ℕ) → better r v w ≡ false → better r w v ≡ false → harmony r v w ≡ Equal
neither_way r v w p q = neither (harmony r v w) p (better_worse r w v ∙ q)

-- equal: the counts of all ranked machines are
pub equal_at : (r v w : List ℕ) → harmony r v w ≡ Equal → (i : ℕ) → i < length r → get_or v (get_or r i 0) 0 ≡ get_or w (get_or r i 0) 0
equal_at [] v w e i q = absurd (omega arith)
equal_at (m ∷ r) v w e i q = go (standing (get_or v m 0) (get_or w m 0)) (equal_at r v w) i q
  where
    go : Standing (get_or v m 0) (get_or w m 0) → (harmony r v w ≡ Equal → (j : ℕ) → j < length r → get_or v (get_or r j 0) 0 ≡ get_or w (get_or r j 0) 0)
        → (j : ℕ) → j < suc (length r) → get_or v (get_or (m ∷ r) j 0) 0 ≡ get_or w (get_or (m ∷ r) j 0) 0
    go (fewer h) k j p = absurd (clash (ap is_better (at_fewer m r v w h)) (ap is_better e))
    go (same h) k zero p = h
    go (same h) k (suc j) p = k (sym (at_same m r v w h) ∙ e) j (omega arith)
    go (more h) k j p = absurd (clash (ap is_worse (at_more m r v w h)) (ap is_worse e))

-- comparison looks at the counts of the ranked machines alone
pub same_at : (r v w x y : List ℕ) → ((i : ℕ) → i < length r → get_or v (get_or r i 0) 0 ≡ get_or x (get_or r i 0) 0)
    → ((i : ℕ) → i < length r → get_or w (get_or r i 0) 0 ≡ get_or y (get_or r i 0) 0) → harmony r v w ≡ harmony r x y
same_at [] v w x y p q = nothing_ranked v w ∙ sym (nothing_ranked x y)
same_at (m ∷ r) v w x y p q =
    go (standing (get_or v m 0) (get_or w m 0)) (same_at r v w x y (λ i h. p (suc i) (omega arith)) (λ i h. q (suc i) (omega arith)))
  where
    vx : get_or v m 0 ≡ get_or x m 0
    vx = p 0 (omega arith)

    wy : get_or w m 0 ≡ get_or y m 0
    wy = q 0 (omega arith)

    go : Standing (get_or v m 0) (get_or w m 0) → harmony r v w ≡ harmony r x y → harmony (m ∷ r) v w ≡ harmony (m ∷ r) x y
    go (fewer h) k = at_fewer m r v w h ∙ sym (at_fewer m r x y (omega (arith, vx, wy)))
    go (same h) k = at_same m r v w h ∙ k ∙ sym (at_same m r x y (omega (arith, vx, wy)))
    go (more h) k = at_more m r v w h ∙ sym (at_more m r x y (omega (arith, vx, wy)))

pub itself : (r v : List ℕ) → harmony r v v ≡ Equal
itself [] v = nothing_ranked v v
itself (m ∷ r) v = at_same m r v v refl ∙ itself r v

-- for rankings of K machines: equal on the first K counts; the places from K on are ignored
module _ (K : ℕ) (r : List ℕ) (is : is_ranking K r ≡ true) where
  facts : Ranking K r
  facts = ranking_facts K r is

  pub equal_means : (v w : List ℕ) → (harmony r v w ≡ Equal) ↔ Agree K v w
  unfolding facts
  equal_means v w = (agree, λ a. same_at r v w w w (λ i h. a (get_or r i 0) (facts.below i h)) (λ i h. refl) ∙ itself r w)
    where
      agree : harmony r v w ≡ Equal → Agree K v w
      agree e m h =
          let p = place_of K r facts m h in
          rw (← p.2) (equal_at r v w e p.0 p.1)

  pub first_counts_decide : (v w x y : List ℕ) → Agree K v x → Agree K w y → harmony r v w ≡ harmony r x y
  first_counts_decide v w x y p q = same_at r v w x y (λ i h. p (get_or r i 0) (facts.below i h)) (λ i h. q (get_or r i 0) (facts.below i h))

  pub total : (v w : List ℕ) → ExactlyOne (MoreHarmonic r v w) (Agree K v w) (MoreHarmonic r w v)
  total v w =
      record {
        one = go (better r v w) refl (better r w v) refl;
        not_first_second = λ b a. clash ((better_means r v w).1 b) (ap is_better ((equal_means v w).1 a));
        not_second_third = λ a b. clash ((worse_means r v w).1 b) (ap is_worse ((equal_means v w).1 a));
        not_first_third = λ b c. one_way r v w ((better_means r v w).1 b) ((better_means r w v).1 c);
      }
    where
      go : (b : Bool) → better r v w ≡ b → (c : Bool) → better r w v ≡ c → MoreHarmonic r v w ⊎ (Agree K v w ⊎ MoreHarmonic r w v)
      go true e c f = inl ((better_means r v w).0 e)
      go false e true f = inr (inr ((better_means r w v).0 f))
      go false e false f = inr (inl ((equal_means v w).0 (neither_way r v w e f)))

-- better than what is better is better
pub transitive : (r u v w : List ℕ) → better r u v ≡ true → better r v w ≡ true → better r u w ≡ true
transitive [] u v w p q = absurd (clash p (ap is_better (nothing_ranked u v)))
transitive (m ∷ r) u v w p q = go (standing (get_or u m 0) (get_or v m 0)) (standing (get_or v m 0) (get_or w m 0)) (transitive r u v w)
  where
    go : Standing (get_or u m 0) (get_or v m 0) → Standing (get_or v m 0) (get_or w m 0) → (better r u v ≡ true → better r v w ≡ true → better r u w ≡ true)
        → better (m ∷ r) u w ≡ true
    go (fewer a) (fewer b) k = ap is_better (at_fewer m r u w (omega arith))
    go (fewer a) (same b) k = ap is_better (at_fewer m r u w (omega arith))
    go (same a) (fewer b) k = ap is_better (at_fewer m r u w (omega arith))
    go (same a) (same b) k =
        ap is_better (at_same m r u w (a ∙ b)) ∙ k (ap is_better (sym (at_same m r u v a)) ∙ p) (ap is_better (sym (at_same m r v w b)) ∙ q)
    go (fewer a) (more b) k = absurd (clash q (ap is_better (at_more m r v w b)))
    go (same a) (more b) k = absurd (clash q (ap is_better (at_more m r v w b)))
    go (more a) b k = absurd (clash p (ap is_better (at_more m r u v a)))

-- not better than what is not better is not better
pub not_better : (r u v w : List ℕ) → better r u v ≡ false → better r v w ≡ false → better r u w ≡ false
not_better [] u v w p q = ap is_better (nothing_ranked u w)
not_better (m ∷ r) u v w p q = go (standing (get_or u m 0) (get_or v m 0)) (standing (get_or v m 0) (get_or w m 0)) (not_better r u v w)
  where
    go : Standing (get_or u m 0) (get_or v m 0) → Standing (get_or v m 0) (get_or w m 0) → (better r u v ≡ false → better r v w ≡ false → better r u w ≡ false)
        → better (m ∷ r) u w ≡ false
    go (fewer a) b k = absurd (clash (ap is_better (at_fewer m r u v a)) p)
    go (same a) (same b) k =
        ap is_better (at_same m r u w (a ∙ b)) ∙ k (ap is_better (sym (at_same m r u v a)) ∙ p) (ap is_better (sym (at_same m r v w b)) ∙ q)
    go (same a) (fewer b) k = absurd (clash (ap is_better (at_fewer m r v w b)) q)
    go (more a) (fewer b) k = absurd (clash (ap is_better (at_fewer m r v w b)) q)
    go (same a) (more b) k = ap is_better (at_more m r u w (omega arith))
    go (more a) (same b) k = ap is_better (at_more m r u w (omega arith))
    go (more a) (more b) k = ap is_better (at_more m r u w (omega arith))

-- a count of a merge is the sum of the counts
pub merge_count : (v w : List ℕ) (i : ℕ) → get_or (merge v w) i 0 ≡ get_or v i 0 + get_or w i 0
unfolding merge
merge_count [] w i = omega arith
merge_count (x ∷ v) [] i = omega arith
merge_count (x ∷ v) (y ∷ w) zero = refl
merge_count (x ∷ v) (y ∷ w) (suc i) = merge_count v w i

-- merging one profile with both sides changes nothing
pub merged_alike : (r u v w : List ℕ) → harmony r (merge u v) (merge u w) ≡ harmony r v w
merged_alike [] u v w = nothing_ranked (merge u v) (merge u w) ∙ sym (nothing_ranked v w)
merged_alike (m ∷ r) u v w = go (standing (get_or v m 0) (get_or w m 0)) (merged_alike r u v w)
  where
    uv : get_or (merge u v) m 0 ≡ get_or u m 0 + get_or v m 0
    uv = merge_count u v m

    uw : get_or (merge u w) m 0 ≡ get_or u m 0 + get_or w m 0
    uw = merge_count u w m

    go : Standing (get_or v m 0) (get_or w m 0) → harmony r (merge u v) (merge u w) ≡ harmony r v w → harmony (m ∷ r) (merge u v) (merge u w) ≡ harmony (m ∷ r) v w
    go (fewer h) k = at_fewer m r (merge u v) (merge u w) (omega (arith, uv, uw)) ∙ sym (at_fewer m r v w h)
    go (same h) k = at_same m r (merge u v) (merge u w) (omega (arith, uv, uw)) ∙ k ∙ sym (at_same m r v w h)
    go (more h) k = at_more m r (merge u v) (merge u w) (omega (arith, uv, uw)) ∙ sym (at_more m r v w h)
