-- What the definition of the best lists: the lists of fewer than n pairs over the symbols, those of them that are complete candidates for the
-- word, and the least of these.
use Rattle.std.specs.Prelude.{◌≡◌, ◌∷◌, ◌⊎◌, ◌+◌, ◌<◌, ◌≤◌}
use Rattle.basics.proofs.Words.{refl, ap, true, List, [], map, List-as-Memᴰ, List·Memᴰ·head, List·Memᴰ·tail, List·Memᴰ·not-nil, List·Memᴰ·cases-cons, inl, inr, ℕ, zero, suc, arith, length, leb, all_of, joined, numbers_below, both, left, right, those_member, member_those, joined_member, member_joined, member_numbers}
use Rattle.std.proofs.Common.{leb-true}
use Rattle.machine.specs.declared.Pair.{Pair}
use Rattle.machine.specs.Symbols.{is_pair, within_symbols}
use Rattle.product.specs.Best.{pairs_over, lists_below}

-- the elements of a mapped list
module _ {A B : Type 0} (f : A → B) where
  pub map_member : {y : B} (xs : List A) → List-as-Memᴰ y (map f xs) → (x : A) × List-as-Memᴰ x xs × (y ≡ f x)
  map_member [] m = absurd (List·Memᴰ·not-nil m)
  map_member {y} (x ∷ xs) m = go (map_member xs) (List·Memᴰ·cases-cons m)
    where
      go : (List-as-Memᴰ y (map f xs) → (x : A) × List-as-Memᴰ x xs × (y ≡ f x)) → (y ≡ f x) ⊎ List-as-Memᴰ y (map f xs) → (z : A) × List-as-Memᴰ z (x ∷ xs) × (y ≡ f z)
      go rec (inl e) = (x, List·Memᴰ·head refl, e)
      go rec (inr k) = let q = rec k in (q.0, List·Memᴰ·tail q.1, q.2)

  pub member_map : {x : A} {xs : List A} → List-as-Memᴰ x xs → List-as-Memᴰ (f x) (map f xs)
  member_map (List·Memᴰ·head e) = List·Memᴰ·head (ap f e)
  member_map (List·Memᴰ·tail m) = List·Memᴰ·tail (member_map m)

-- ---- the pairs over S symbols

pub pairs_over_lem : {p : Pair} (S : ℕ) → List-as-Memᴰ p (pairs_over S) → is_pair p ≡ true
unfolding pairs_over
pairs_over_lem S m = (those_member is_pair (joined (λ x. map (λ y. record { input = x; output = y }) (numbers_below (S + 1))) (numbers_below (S + 1))) m).1

pub over_pairs : (S : ℕ) (p : Pair) → is_pair p ≡ true → within_symbols S p ≡ true → List-as-Memᴰ p (pairs_over S)
unfolding pairs_over
over_pairs S p h w =
    let i : p.input ≤ S = leb-true p.input S (left (leb p.input S) (leb p.output S) w) in
    let o : p.output ≤ S = leb-true p.output S (right (leb p.input S) (leb p.output S) w) in
    member_those is_pair
    (member_joined (λ x. map (λ y. record { input = x; output = y }) (numbers_below (S + 1)))
    (member_numbers (S + 1) p.input (omega arith))
    (member_map (λ y. record { input = p.input; output = y }) (member_numbers (S + 1) p.output (omega arith))))
    h

-- ---- the lists of fewer than n of the pairs

-- the list has its elements from ps
pub data From (ps : List Pair) : List Pair → Type 0 where
  from_none : From ps []
  from_next : {p : Pair} {c : List Pair} → List-as-Memᴰ p ps → From ps c → From ps (p ∷ c)

pub lists_short : {c : List Pair} (n : ℕ) (ps : List Pair) → List-as-Memᴰ c (lists_below n ps) → length c < n
unfolding lists_below
lists_short zero ps m = absurd (List·Memᴰ·not-nil m)
lists_short {c} (suc n) ps m = go (λ d k. lists_short {c = d} n ps k) (List·Memᴰ·cases-cons m)
  where
    go : ((d : List Pair) → List-as-Memᴰ d (lists_below n ps) → length d < n) → (c ≡ []) ⊎ List-as-Memᴰ c (joined (λ p. map (λ d. p ∷ d) (lists_below n ps)) ps) → length c < suc n
    go rec (inl e) = rw e (omega arith)
    go rec (inr k) =
        let j = joined_member (λ p. map (λ d. p ∷ d) (lists_below n ps)) ps k in
        let q = map_member (λ d. j.0 ∷ d) (lists_below n ps) j.2 in
        let l = rec q.0 q.1 in
        rw q.2 (omega arith)

pub lists_from : {c : List Pair} (n : ℕ) (ps : List Pair) → List-as-Memᴰ c (lists_below n ps) → From ps c
unfolding lists_below
lists_from zero ps m = absurd (List·Memᴰ·not-nil m)
lists_from {c} (suc n) ps m = go (λ d k. lists_from {c = d} n ps k) (List·Memᴰ·cases-cons m)
  where
    go : ((d : List Pair) → List-as-Memᴰ d (lists_below n ps) → From ps d) → (c ≡ []) ⊎ List-as-Memᴰ c (joined (λ p. map (λ d. p ∷ d) (lists_below n ps)) ps) → From ps c
    go rec (inl e) = rw e from_none
    go rec (inr k) =
        let j = joined_member (λ p. map (λ d. p ∷ d) (lists_below n ps)) ps k in
        let q = map_member (λ d. j.0 ∷ d) (lists_below n ps) j.2 in
        rw q.2 (from_next j.1 (rec q.0 q.1))

pub short_listed : (n : ℕ) (ps : List Pair) {c : List Pair} → From ps c → length c < n → List-as-Memᴰ c (lists_below n ps)
unfolding lists_below
short_listed zero ps k h = absurd (omega arith)
short_listed (suc n) ps from_none h = List·Memᴰ·head refl
short_listed (suc n) ps (from_next {p} {c} m k) h =
    List·Memᴰ·tail (member_joined (λ p. map (λ d. p ∷ d) (lists_below n ps)) m (member_map (λ d. p ∷ d) (short_listed n ps k (omega arith))))

pub from_pairs : (S : ℕ) {c : List Pair} → From (pairs_over S) c → all_of is_pair c ≡ true
unfolding all_of
from_pairs S from_none = refl
from_pairs S (from_next m k) = both (pairs_over_lem S m) (from_pairs S k)
