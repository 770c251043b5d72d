-- The arrangements of a list of machines are its permutations. Assumes nothing.
use Rattle.std.specs.Prelude.{◌≡◌, ◌∷◌, ◌+◌, ◌<◌, ◌≤◌}
use Rattle.basics.proofs.Words.{refl, sym, ◌∙◌, ap, Bool, true, not, List, [], map, List-as-Memᴰ, List·Memᴰ·head, List·Memᴰ·eq-of-singleton, ℕ, zero, suc, arith, length, eqb, ltb, those, numbers_below, occurrences, both, joined_member, member_joined, each_below, length_numbers, occurs_none, occurs_here, occurs_later, occurrences_append, its_place, member_occurs, occurs_member}
use Rattle.std.proofs.Common.{eq-eqb, ne_eqb, ltb-true, ltb-false}
use Rattle.ranking.specs.Rankings.{is_ranking, arrangements}
use Rattle.ranking.specs.Lemmas.Rankings.{Ranking, ranking_facts}
use Rattle.ranking.specs.Lemmas.Searches.{split, equal_or_not, those_in, those_out, mem_map, map_mem}

-- Occurrences

-- the list without a number, as rankings are made
abbrev pub without : ℕ → List ℕ → List ℕ
without m xs = those (λ x. not (eqb x m)) xs

module _ (n : ℕ) where
  pub occurs : {x : ℕ} (xs : List ℕ) → x ≡ n → occurrences n (x ∷ xs) ≡ suc (occurrences n xs)
  occurs xs e = occurs_here refl e

  pub occurs_not : {x : ℕ} (xs : List ℕ) → (x ≡ n → ⊥) → occurrences n (x ∷ xs) ≡ occurrences n xs
  occurs_not xs e = occurs_later refl e

  pub occurs_nil : occurrences n [] ≡ 0
  occurs_nil = occurs_none n refl

module _ (m : ℕ) where
  abbrev pub kept : ℕ → Bool
  kept x = not (eqb x m)

  pub without_in : {x : ℕ} (xs : List ℕ) → (x ≡ m → ⊥) → without m (x ∷ xs) ≡ x ∷ without m xs
  without_in {x} xs e = those_in kept xs (ap not (ne_eqb x m e))

  pub without_out : {x : ℕ} (xs : List ℕ) → x ≡ m → without m (x ∷ xs) ≡ without m xs
  without_out {x} xs e = those_out kept xs (ap not (eq-eqb x m e))

  pub without_same : (xs : List ℕ) → occurrences m (without m xs) ≡ 0
  unfolding those
  without_same [] = occurs_nil m
  without_same (x ∷ xs) =
      equal_or_not x m (λ e. ap (occurrences m) (without_out xs e) ∙ without_same xs)
      (λ e. ap (occurrences m) (without_in xs e) ∙ occurs_not m (without m xs) e ∙ without_same xs)

  pub without_other : (n : ℕ) (xs : List ℕ) → (n ≡ m → ⊥) → occurrences n (without m xs) ≡ occurrences n xs
  unfolding those
  without_other n [] h = refl
  without_other n (x ∷ xs) h =
      equal_or_not x m
      (λ e. ap (occurrences n) (without_out xs e) ∙ without_other n xs h ∙ sym (occurs_not n xs (λ d. h (sym d ∙ e))))
      (λ e.
      ap (occurrences n) (without_in xs e)
      ∙ equal_or_not x n (λ d. occurs n (without m xs) d ∙ ap suc (without_other n xs h) ∙ sym (occurs n xs d))
      (λ d. occurs_not n (without m xs) d ∙ without_other n xs h ∙ sym (occurs_not n xs d)))

  pub without_length : (xs : List ℕ) → length (without m xs) + occurrences m xs ≡ length xs
  unfolding those
  without_length [] = omega (arith, occurs_nil m)
  without_length (x ∷ xs) =
      equal_or_not x m (λ e. omega (arith, ap length (without_out xs e), occurs m xs e, without_length xs))
      (λ e. omega (arith, ap length (without_in xs e), occurs_not m xs e, without_length xs))

-- Lists of the same numbers

-- no number stands in the list twice
abbrev pub Distinct : List ℕ → Type 0
Distinct ms = (n : ℕ) → occurrences n ms ≤ 1

-- each number stands in the two lists equally often
abbrev pub Permuted : List ℕ → List ℕ → Type 0
Permuted ms r = (n : ℕ) → occurrences n r ≡ occurrences n ms

pub without_distinct : (m : ℕ) (ms : List ℕ) → Distinct ms → Distinct (without m ms)
without_distinct m ms d n =
    equal_or_not n m (λ e. omega (arith, ap (λ (k : ℕ). occurrences k (without m ms)) e, without_same m ms)) (λ e. omega (arith, without_other m n ms e, d n))

pub without_permuted : (m : ℕ) (ms r : List ℕ) → Permuted ms r → Permuted (without m ms) (without m r)
without_permuted m ms r p n =
    equal_or_not n m
    (λ e. ap (λ (k : ℕ). occurrences k (without m r)) e ∙ without_same m r ∙ sym (without_same m ms) ∙ ap (λ (k : ℕ). occurrences k (without m ms)) (sym e))
    (λ e. without_other m n r e ∙ p n ∙ sym (without_other m n ms e))

-- distinct numbers that all stand in a list are no more than its length
pub pigeonhole : (ms r : List ℕ) → Distinct ms → ((n : ℕ) → 0 < occurrences n ms → 0 < occurrences n r) → length ms ≤ length r
pigeonhole [] r d h = omega arith
pigeonhole (m ∷ ms) r d h =
    let o = occurs m ms refl in
    let s : Distinct ms = λ n. equal_or_not m n (λ e. omega (arith, occurs n ms e, d n)) (λ e. omega (arith, occurs_not n ms e, d n)) in
    let elsewhere : (n : ℕ) → 0 < occurrences n ms → 0 < occurrences n (without m r) =
    λ n q.
    equal_or_not n m (λ e. let w = ap (λ (k : ℕ). occurrences k ms) e in absurd (omega (arith, d m, o, w, q)))
    (λ e. omega (arith, without_other m n r e, h n (omega (arith, occurs_not n ms (λ k. e (sym k)), q))))
    in
    omega (arith, pigeonhole ms (without m r) s elsewhere, without_length m r, h m (omega (arith, o)))

pub permuted_length : (ms r : List ℕ) → Distinct ms → Permuted ms r → length r ≡ length ms
permuted_length ms r d p =
    let a = pigeonhole ms r d (λ n q. omega (arith, p n, q)) in
    let b = pigeonhole r ms (λ n. omega (arith, p n, d n)) (λ n q. omega (arith, p n, q)) in
    omega arith

-- Rankings

module _ (n : ℕ) (ms : List ℕ) where
  -- the rankings that begin with a machine
  abbrev pub headed : ℕ → List (List ℕ)
  headed m = map (λ r. m ∷ r) (arrangements n (without m ms))

-- one machine less is left
pub one_less : (n m : ℕ) (ms : List ℕ) → length ms ≡ suc n → Distinct ms → 0 < occurrences m ms → length (without m ms) ≡ n
one_less n m ms l d o = omega (arith, without_length m ms, d m, o, l)

-- what is arranged is permuted
pub arranged_permuted : (n : ℕ) (ms r : List ℕ) → length ms ≡ n → Distinct ms → List-as-Memᴰ r (arrangements n ms) → Permuted ms r
unfolding arrangements
arranged_permuted zero [] r l d i = λ k. ap (occurrences k) (List·Memᴰ·eq-of-singleton i)
arranged_permuted zero (m ∷ ms) r l d i = absurd (omega arith)
arranged_permuted (suc n) ms r l d i =
    let j = joined_member (headed n ms) ms i in
    let m = j.0 in
    let o = member_occurs m j.1 in
    let h = mem_map (λ r. m ∷ r) (arrangements n (without m ms)) j.2 in
    let q = arranged_permuted n (without m ms) h.0 (one_less n m ms l d o) (without_distinct m ms d) h.1 in
    λ k.
    ap (occurrences k) h.2
    ∙ equal_or_not m k
    (λ e. omega (arith, occurs k h.0 e, q k, ap (λ (x : ℕ). occurrences x (without m ms)) e, without_same m ms, ap (λ (x : ℕ). occurrences x ms) e, o, d m))
    (λ e. omega (arith, occurs_not k h.0 e, q k, without_other m k ms (λ x. e (sym x))))

-- what is permuted is arranged
pub permuted_arranged : (n : ℕ) (ms r : List ℕ) → length ms ≡ n → Distinct ms → Permuted ms r → List-as-Memᴰ r (arrangements n ms)
unfolding arrangements
permuted_arranged zero ms [] l d p = List·Memᴰ·head refl
permuted_arranged zero ms (x ∷ r) l d p = let q = permuted_length ms (x ∷ r) d p in absurd (omega arith)
permuted_arranged (suc n) ms [] l d p = let q = permuted_length ms [] d p in absurd (omega arith)
permuted_arranged (suc n) ms (x ∷ r) l d p =
    let o : 0 < occurrences x ms = omega (arith, occurs x r refl, p x) in
    let q : Permuted (without x ms) r =
    λ k.
    equal_or_not k x
    (λ e.
    omega
    (arith, ap (λ (y : ℕ). occurrences y r) e, ap (λ (y : ℕ). occurrences y (without x ms)) e, without_same x ms, occurs x r refl, p x, d x))
    (λ e. omega (arith, without_other x k ms e, occurs_not k r (λ y. e (sym y)), p k))
    in
    member_joined (headed n ms) (occurs_member x ms o)
    (map_mem (λ r. x ∷ r) (permuted_arranged n (without x ms) r (one_less n x ms l d o) (without_distinct x ms d) q))

-- The numbers below K

pub numbers_out : (K n : ℕ) → K ≤ n → occurrences n (numbers_below K) ≡ 0
unfolding numbers_below
numbers_out zero n h = occurs_nil n
numbers_out (suc K) n h =
    omega
    (arith, occurrences_append n (numbers_below K) (K ∷ []), numbers_out K n (omega arith), occurs_not n {x = K} [] (omega arith), occurs_nil n)

pub numbers_in : (K n : ℕ) → n < K → occurrences n (numbers_below K) ≡ 1
unfolding numbers_below
numbers_in zero n h = absurd (omega arith)
numbers_in (suc K) n h =
    equal_or_not K n
    (λ e. omega (arith, occurrences_append n (numbers_below K) (K ∷ []), numbers_out K n (omega arith), occurs n [] e, occurs_nil n))
    (λ e. omega (arith, occurrences_append n (numbers_below K) (K ∷ []), numbers_in K n (omega arith), occurs_not n [] e, occurs_nil n))

pub numbers_distinct : (K : ℕ) → Distinct (numbers_below K)
numbers_distinct K n = split (ltb n K) (λ e. omega (arith, numbers_in K n (ltb-true n K e))) (λ e. omega (arith, numbers_out K n (ltb-false n K e)))

-- Rankings are the lists in which the machines stand as often as among the numbers below K

pub permuted_ranking : (K : ℕ) (r : List ℕ) → Permuted (numbers_below K) r → is_ranking K r ≡ true
unfolding is_ranking
permuted_ranking K r p =
    both (eq-eqb (length r) K (permuted_length (numbers_below K) r (numbers_distinct K) p ∙ length_numbers K))
    (each_below (λ m. eqb (occurrences m r) 1) K (λ i h. eq-eqb (occurrences i r) 1 (p i ∙ numbers_in K i h)))

pub ranking_permuted : (K : ℕ) (r : List ℕ) → is_ranking K r ≡ true → Permuted (numbers_below K) r
ranking_permuted K r t n =
    split (ltb n K) (λ e. let h = ltb-true n K e in facts.once n h ∙ sym (numbers_in K n h))
    (λ e. let h = ltb-false n K e in never h ∙ sym (numbers_out K n h))
  where
    facts : Ranking K r
    facts = ranking_facts K r t

    never : K ≤ n → occurrences n r ≡ 0
    never h =
        split (ltb 0 (occurrences n r))
        (λ e. let i = its_place n r (ltb-true 0 (occurrences n r) e) in absurd (omega (arith, facts.below i.0 i.1, i.2)))
        (λ e. omega (arith, ltb-false 0 (occurrences n r) e))
