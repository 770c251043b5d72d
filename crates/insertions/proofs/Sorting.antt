-- The lists in their places: each starts where those before it end, and a lane that is listed stands behind those of its list that come before it.
use Rattle.std.specs.Prelude.{◌≡◌, ◌≢◌, ◌+◌, ◌-◌, ◌*◌, ◌<◌, ◌≤◌}
use Rattle.basics.proofs.Words.{refl, sym, ◌∙◌, ap, Bool, true, false, List, ℕ, zero, suc, arith, length, get_or, set, List·getD-eq-default, leb, ltb, get_or-set_same, get_or-set_other, ℕ_discrete, dec_lt, add-one, leb-true, ltb-true, le-leb, lt-ltb, clash, both, left as left-of, right as right_of}
use Rattle.settling.specs.Insertions.{is_listed}
use Rattle.insertions.specs.Lanes.{Lane, is_move, list_of, entry_of, put, bumped, placed, hit, count_to, start_of}
use Rattle.insertions.proofs.Lanes.{put_moves, put_stays, hit_here, hit_other, hit_stays, list_few, bumped_size, bumped_at, bumped_before, placed_size, count_mono}

-- ---- counts

abbrev pub moves : (ℕ → Lane) → ℕ → Bool
moves f i = is_move (f i).code (f i).high

abbrev pub list_at : (ℕ → Lane) → ℕ → ℕ
list_at f i = list_of (f i).high

-- one of the first n lanes, in the list l, with k before it there
pub record Found (f : ℕ → Lane) (l n k : ℕ) : Type 0 where
  pub at : ℕ
  pub within : at < n
  pub moves_there : moves f at ≡ true
  pub list_is : list_at f at ≡ l
  pub before : count_to f l at ≡ k

module _ (f : ℕ → Lane) where
  pub count_next : (l n : ℕ) → count_to f l (n + 1) ≡ count_to f l n + hit l (f n)
  unfolding count_to
  count_next l n = rw (add-one n)

  pub count_more : (l i n : ℕ) → i < n → moves f i ≡ true → list_at f i ≡ l → count_to f l i < count_to f l n
  count_more l i n h t e =
      let z : i + 1 + (n - (i + 1)) ≡ n = omega arith in
      let m : count_to f l (i + 1) ≤ count_to f l n = rw z at (count_mono f l (i + 1) (n - (i + 1))) in
      omega (arith, count_next l i, hit_here l (f i) t e)

  pub find : (l n k : ℕ) → k < count_to f l n → Found f l n k
  unfolding count_to
  find l zero k h = absurd (omega arith)
  find l (suc n) k h = go (dec_lt k (count_to f l n)) (moves f n) refl (ℕ_discrete (list_at f n) l) (find l n k)
    where
      later : Found f l n k → Found f l (suc n) k
      later F = record { at = F.at; within = omega (arith, F.within); moves_there = F.moves_there; list_is = F.list_is; before = F.before }

      go : Dec (k < count_to f l n) → (b : Bool) → moves f n ≡ b → Dec (list_at f n ≡ l) → (k < count_to f l n → Found f l n k) → Found f l (suc n) k
      go (yes q) b t d r = later (r q)
      go (no q) true t (yes e) r = record { at = n; within = omega arith; moves_there = t; list_is = e; before = omega (arith, hit_here l (f n) t e) }
      go (no q) true t (no e) r = absurd (omega (arith, hit_other l (f n) e))
      go (no q) false t d r = absurd (omega (arith, hit_stays l (f n) t))

-- ---- where the lists start

-- a list that a place is in
pub record InList (f : ℕ → Lane) (n p l m : ℕ) : Type 0 where
  pub list : ℕ
  pub first : l ≤ list
  pub last : list < l + m
  pub from : start_of f n list ≤ p
  pub to : p < start_of f n list + count_to f list n

module _ (f : ℕ → Lane) (n : ℕ) where
  pub start_next : (l : ℕ) → start_of f n (l + 1) ≡ start_of f n l + count_to f l n
  unfolding start_of
  start_next l = rw (add-one l)

  pub start_more : (l m : ℕ) → start_of f n l ≤ start_of f n (l + m)
  unfolding start_of
  start_more l zero = let e : l + 0 ≡ l = omega arith in rw e (omega arith)
  start_more l (suc m) = let e : l + suc m ≡ suc (l + m) = omega arith in rw e (omega (arith, start_more l m))

  pub start_order : (l m : ℕ) → l ≤ m → start_of f n l ≤ start_of f n m
  start_order l m h = let e : l + (m - l) ≡ m = omega arith in rw e at (start_more l (m - l))

  pub in_list : (p l m : ℕ) → start_of f n l ≤ p → p < start_of f n (l + m) → InList f n p l m
  in_list p l zero h k = let e : l + 0 ≡ l = omega arith in absurd (let z : p < start_of f n l = rw e at k in omega arith)
  in_list p l (suc m) h k = go (dec_lt p (start_of f n (l + m))) (in_list p l m h)
    where
      go : Dec (p < start_of f n (l + m)) → (p < start_of f n (l + m) → InList f n p l m) → InList f n p l (suc m)
      go (yes q) r = let I = r q in record { list = I.list; first = I.first; last = omega (arith, I.last); from = I.from; to = I.to }
      go (no q) r =
          let e : l + suc m ≡ l + m + 1 = omega arith in
          let z : p < start_of f n (l + m + 1) = rw e at k in
          record { list = l + m; first = omega arith; last = omega arith; from = omega arith; to = omega (arith, start_next (l + m)) }

-- ---- the entries in their places

-- where the lane i is put
abbrev pub place_of : (ℕ → Lane) → ℕ → ℕ → ℕ
place_of f n i = start_of f n (list_at f i) + count_to f (list_at f i) i

-- the lists of the first n lanes are empty, and there is room for them
pub record Starts (f : ℕ → Lane) (n : ℕ) (es ns : List ℕ) : Type 0 where
  pub size : length ns ≡ 514
  pub first : get_or ns 0 0 ≡ 0
  pub start : (l : ℕ) → l ≤ 512 → get_or ns (l + 1) 0 ≡ start_of f n l
  pub room : start_of f n 512 ≤ length es

module _ {f : ℕ → Lane} {n : ℕ} {es ns : List ℕ} (R : Starts f n es ns) where
  -- the end of a list, when the first i lanes are there
  pub end_is : (i l : ℕ) → l < 512 → get_or (bumped 1 f i ns) (l + 1) 0 ≡ start_of f n l + count_to f l i
  end_is i l h = bumped_at 1 f ns (omega arith) R.size i l h ∙ ap (λ (k : ℕ). k + count_to f l i) (R.start l (omega arith))

  place_in : (i : ℕ) → i < n → moves f i ≡ true → place_of f n i < start_of f n (list_at f i + 1)
  place_in i h t = omega (arith, count_more f (list_at f i) i n h t refl, start_next f n (list_at f i))

  pub place_room : (i : ℕ) → i < n → moves f i ≡ true → place_of f n i < length es
  place_room i h t = omega (arith, place_in i h t, start_order f n (list_at f i + 1) 512 (omega (arith, list_few (f i).high)), R.room)

  place_apart : (i j : ℕ) → i < j → j < n → moves f i ≡ true → moves f j ≡ true → place_of f n i ≢ place_of f n j
  place_apart i j h k t u e = go (ℕ_discrete (list_at f i) (list_at f j)) (dec_lt (list_at f i) (list_at f j))
    where
      go : Dec (list_at f i ≡ list_at f j) → Dec (list_at f i < list_at f j) → ⊥
      go (yes q) d =
          let c : count_to f (list_at f j) i < count_to f (list_at f j) j = count_more f (list_at f j) i j h t q in
          let z : place_of f n i ≡ start_of f n (list_at f j) + count_to f (list_at f j) i = ap (λ (l : ℕ). start_of f n l + count_to f l i) q in
          omega arith
      go (no q) (yes d) = omega (arith, place_in i (omega arith) t, start_order f n (list_at f i + 1) (list_at f j) (omega arith))
      go (no q) (no d) = omega (arith, place_in j k u, start_order f n (list_at f j + 1) (list_at f i) (omega arith))

  -- each of the first m lanes is in its place
  pub entry_at : (m : ℕ) → m ≤ n → (i : ℕ) → i < m → moves f i ≡ true → get_or (placed f m es ns) (place_of f n i) 0 ≡ entry_of (f i).code (f i).high (f i).low
  unfolding placed
  entry_at zero k i h t = absurd (omega arith)
  entry_at (suc m) k i h t = go (moves f m) refl (ℕ_discrete i m) (entry_at m (omega arith))
    where
      old : List ℕ
      old = placed f m es ns

      ends : List ℕ
      ends = bumped 1 f m ns

      here : get_or (bumped 1 f m ns) (list_at f m + 1) 0 ≡ place_of f n m
      here = end_is m (list_at f m) (list_few (f m).high)

      go : (b : Bool) → moves f m ≡ b → Dec (i ≡ m) → ((j : ℕ) → j < m → moves f j ≡ true → get_or (placed f m es ns) (place_of f n j) 0 ≡ entry_of (f j).code (f j).high (f j).low)
          → get_or (put (f m) (placed f m es ns) (bumped 1 f m ns)) (place_of f n i) 0 ≡ entry_of (f i).code (f i).high (f i).low
      go false u (yes e) r = absurd (clash t (ap (moves f) e ∙ u))
      go false u (no e) r = ap (λ (z : List ℕ). get_or z (place_of f n i) 0) (put_stays (f m) (placed f m es ns) (bumped 1 f m ns) u) ∙ r i (omega arith) t
      go true u (yes e) r =
          ap (λ (z : List ℕ). get_or z (place_of f n i) 0) (put_moves (f m) (placed f m es ns) (bumped 1 f m ns) u)
          ∙ ap (λ (p : ℕ). get_or (set (placed f m es ns) p (entry_of (f m).code (f m).high (f m).low)) (place_of f n i) 0) (here ∙ ap (place_of f n) (sym e))
          ∙ get_or-set_same (placed f m es ns) (place_of f n i) (entry_of (f m).code (f m).high (f m).low) 0 (omega (arith, placed_size f es ns m, place_room i (omega arith) t))
          ∙ ap (λ (j : ℕ). entry_of (f j).code (f j).high (f j).low) (sym e)
      go true u (no e) r =
          ap (λ (z : List ℕ). get_or z (place_of f n i) 0) (put_moves (f m) (placed f m es ns) (bumped 1 f m ns) u)
          ∙ ap (λ (p : ℕ). get_or (set (placed f m es ns) p (entry_of (f m).code (f m).high (f m).low)) (place_of f n i) 0) here
          ∙ get_or-set_other (placed f m es ns) (place_of f n m) (place_of f n i) (entry_of (f m).code (f m).high (f m).low) 0 (place_apart i m (omega arith) (omega arith) t u)
          ∙ r i (omega arith) t

  -- ---- all lanes are there

  pub list_start : (l : ℕ) → l ≤ 512 → get_or (bumped 1 f n ns) l 0 ≡ start_of f n l
  unfolding start_of
  list_start zero h = bumped_before 1 f ns n 0 (omega arith) ∙ R.first
  list_start (suc l) h = let e : suc l ≡ l + 1 = omega arith in ap (λ (k : ℕ). get_or (bumped 1 f n ns) k 0) e ∙ end_is n l h

  no_list : (l : ℕ) → 514 ≤ l → get_or (bumped 1 f n ns) l 0 ≡ 0
  no_list l h = List·getD-eq-default (bumped 1 f n ns) 0 {n = l} (omega (arith, bumped_size 1 f ns n, R.size))

  pub listed_few : (v p : ℕ) → is_listed (bumped 1 f n ns) v p ≡ true → v < 128
  unfolding is_listed
  listed_few v p t = go (dec_lt v 128)
    where
      go : Dec (v < 128) → v < 128
      go (yes h) = h
      go (no h) = absurd (let z = ltb-true p (get_or (bumped 1 f n ns) (4 * v + 4) 0) (right_of (leb (get_or (bumped 1 f n ns) (4 * v) 0) p) (ltb p (get_or (bumped 1 f n ns) (4 * v + 4) 0)) t) in omega (arith, no_list (4 * v + 4) (omega arith)))

  pub listed_in : (v p : ℕ) → is_listed (bumped 1 f n ns) v p ≡ true → InList f n p (4 * v) 4
  unfolding is_listed
  listed_in v p t =
      let h = listed_few v p t in
      let a = leb-true (get_or (bumped 1 f n ns) (4 * v) 0) p (left-of (leb (get_or (bumped 1 f n ns) (4 * v) 0) p) (ltb p (get_or (bumped 1 f n ns) (4 * v + 4) 0)) t) in
      let b = ltb-true p (get_or (bumped 1 f n ns) (4 * v + 4) 0) (right_of (leb (get_or (bumped 1 f n ns) (4 * v) 0) p) (ltb p (get_or (bumped 1 f n ns) (4 * v + 4) 0)) t) in
      in_list f n p (4 * v) 4 (omega (arith, list_start (4 * v) (omega arith))) (omega (arith, list_start (4 * v + 4) (omega arith)))

  -- the lane at a place of the lists
  pub lane_at_lem : (p l m : ℕ) (I : InList f n p l m) → Found f I.list n (p - start_of f n I.list)
  lane_at_lem p l m I = find f I.list n (p - start_of f n I.list) (omega (arith, I.from, I.to))

  pub lane_place : (p l m : ℕ) (I : InList f n p l m) → p ≡ place_of f n (lane_at_lem p l m I).at
  lane_place p l m I =
      let F = lane_at_lem p l m I in
      let z : place_of f n F.at ≡ start_of f n I.list + count_to f I.list F.at = ap (λ (k : ℕ). start_of f n k + count_to f k F.at) F.list_is in
      omega (arith, z, F.before, I.from)

  -- a lane that is listed is in a list of the code that it leads to
  pub listed_at : (i v k : ℕ) → i < n → moves f i ≡ true → list_at f i ≡ 4 * v + k → k < 4 → v < 128 → is_listed (bumped 1 f n ns) v (place_of f n i) ≡ true
  unfolding is_listed
  listed_at i v k h t e few small =
      both (le-leb (get_or (bumped 1 f n ns) (4 * v) 0) (place_of f n i) (omega (arith, list_start (4 * v) (omega arith), start_order f n (4 * v) (list_at f i) (omega arith))))
      (lt-ltb (place_of f n i) (get_or (bumped 1 f n ns) (4 * v + 4) 0) (omega (arith, list_start (4 * v + 4) (omega arith), place_in i h t, start_order f n (list_at f i + 1) (4 * v + 4) (omega arith))))
