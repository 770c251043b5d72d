-- Adding up the counts.
use Rattle.std.specs.Prelude.{◌≡◌, ◌+◌, ◌-◌, ◌<◌, ◌≤◌}
use Rattle.basics.specs.Words.{refl, sym, ◌∙◌, ap, List, ℕ, zero, suc, arith, length, get_or, set, length-set, get_or-set_same, get_or-set_other, ℕ_discrete, dec_lt, add-one}
use Rattle.insertions.specs.Listing.{sum_to, AddPre, AddedUp, FilledOn}

pub sum_none : (xs : List ℕ) → sum_to xs 0 ≡ 0
unfolding sum_to
sum_none xs = refl

pub sum_next : (xs : List ℕ) (n : ℕ) → sum_to xs (n + 1) ≡ sum_to xs n + get_or xs n 0
unfolding sum_to
sum_next xs n = rw (add-one n)

pub sum_mono : (xs : List ℕ) (n m : ℕ) → sum_to xs n ≤ sum_to xs (n + m)
unfolding sum_to
sum_mono xs n zero = let e : n + 0 ≡ n = omega arith in rw e (omega arith)
sum_mono xs n (suc m) = let e : n + suc m ≡ suc (n + m) = omega arith in rw e (omega (arith, sum_mono xs n m))

pub sum_blank : (xs : List ℕ) (n : ℕ) → ((i : ℕ) → n ≤ i → get_or xs i 0 ≡ 0) → (m : ℕ) → sum_to xs (n + m) ≡ sum_to xs n
unfolding sum_to
sum_blank xs n z zero = let e : n + 0 ≡ n = omega arith in ap (sum_to xs) e
sum_blank xs n z (suc m) = let e : n + suc m ≡ suc (n + m) = omega arith in ap (sum_to xs) e ∙ omega (arith, sum_blank xs n z m, z (n + m) (omega arith))

-- the numbers before i are added up
pub record AddTo (xs ys : List ℕ) (n i : ℕ) : Type 0 where
  pub some : 1 ≤ i
  pub within : i ≤ n
  pub size : length ys ≡ 514
  pub sum : (k : ℕ) → k < i → get_or ys k 0 ≡ sum_to xs (k + 1)
  pub rest : (k : ℕ) → i ≤ k → get_or ys k 0 ≡ get_or xs k 0

pub add_start : {xs : List ℕ} {n : ℕ} → AddPre xs n → AddTo xs xs n 1
unfolding sum_to
add_start R = record {
  some = omega arith;
  within = R.some;
  size = R.size;
  sum = λ k h. let e : k ≡ 0 = omega arith in rw e (omega arith);
  rest = λ k h. refl;
}

module _ {xs ys : List ℕ} {n i : ℕ} (R : AddPre xs n) (A : AddTo xs ys n i) (h : i < n) where
  before_is : get_or ys (i - 1) 0 ≡ sum_to xs i
  before_is = let e : i - 1 + 1 ≡ i = omega (arith, A.some) in A.sum (i - 1) (omega (arith, A.some)) ∙ ap (sum_to xs) e

  its_sum : get_or ys i 0 + get_or ys (i - 1) 0 ≡ sum_to xs (i + 1)
  its_sum = omega (arith, A.rest i (omega arith), before_is, sum_next xs i)

  pub add_fits : get_or ys i 0 + get_or ys (i - 1) 0 ≤ 65535
  add_fits =
      let e : i + 1 + (n - (i + 1)) ≡ n = omega arith in
      let m : sum_to xs (i + 1) ≤ sum_to xs n = rw e at (sum_mono xs (i + 1) (n - (i + 1))) in
      omega (arith, its_sum, R.fits)

  pub add_in : i < 514
  add_in = omega (arith, R.within)

  pub add_next : AddTo xs (set ys i (get_or ys i 0 + get_or ys (i - 1) 0)) n (i + 1)
  add_next = record {
    some = omega arith;
    within = omega arith;
    size = length-set ys i (get_or ys i 0 + get_or ys (i - 1) 0) ∙ A.size;
    sum = λ k l. go k l (ℕ_discrete k i);
    rest = λ k l. get_or-set_other ys i k (get_or ys i 0 + get_or ys (i - 1) 0) 0 (λ e. omega arith) ∙ A.rest k (omega arith);
  }
    where
      go : (k : ℕ) → k < i + 1 → Dec (k ≡ i) → get_or (set ys i (get_or ys i 0 + get_or ys (i - 1) 0)) k 0 ≡ sum_to xs (k + 1)
      go k l (yes e) = rw (e, get_or-set_same ys i (get_or ys i 0 + get_or ys (i - 1) 0) 0 (omega (arith, A.size, add_in))) its_sum
      go k l (no c) = get_or-set_other ys i k (get_or ys i 0 + get_or ys (i - 1) 0) 0 c ∙ A.sum k (omega arith)

pub add_end : {xs ys : List ℕ} {n i : ℕ} → AddTo xs ys n i → n ≤ i → AddedUp xs ys n
add_end A h = record { size = A.size; sum = λ k l. A.sum k (omega arith) }

-- ---- the last sum, behind

-- where there is nothing from n on, that is the sum of all
pub all_added : {xs ys zs : List ℕ} {n : ℕ} → 1 ≤ n → ((i : ℕ) → n ≤ i → get_or xs i 0 ≡ 0) → AddedUp xs ys n → FilledOn ys zs n → (i : ℕ) → i < 514 → get_or zs i 0 ≡ sum_to xs (i + 1)
all_added {xs} {ys} {zs} {n} some z A F i h = go (dec_lt i n)
  where
    go : Dec (i < n) → get_or zs i 0 ≡ sum_to xs (i + 1)
    go (yes l) = F.before i l ∙ A.sum i l
    go (no l) =
        let e : n - 1 + 1 ≡ n = omega arith in
        let d : n + (i + 1 - n) ≡ i + 1 = omega arith in
        F.behind i (omega arith) h ∙ A.sum (n - 1) (omega arith) ∙ ap (sum_to xs) e ∙ sym (sum_blank xs n z (i + 1 - n)) ∙ ap (sum_to xs) d
