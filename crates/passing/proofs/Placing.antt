-- The places of states, the states moved on to and the marks passed, machine by machine. Assumes nothing.
use Rattle.std.specs.Prelude.{◌≡◌, ◌∷◌, ◌+◌, ◌*◌, ◌/◌, ◌%◌, ◌<◌, ◌≤◌}
use Rattle.basics.proofs.Words.{refl, sym, ◌∙◌, ap, List, [], ℕ, zero, suc, arith, length, get_or, take, set, length-set, length-map, List·getD-eq-default, ext_get_or, get_or-take, get_or-set_same, get_or-set_other, length-take-le, mul-le-mul_right, ℕ_discrete, dec_lt, map_at}
use Rattle.cells.specs.Cells.{places, step_at}
use Rattle.cells.specs.Laws.Sums.{places_next, places_few, places_none}
use Rattle.passing.specs.Places.{places_from, marks_at, states_at, PlacesPre, Placed, ColumnsPre, MarksPre, MarksAdded, MovedPre, Moved}

-- ---- six numbers that are set one after the other

set_next : (f : ℕ → ℕ) (six : List ℕ) (m v : ℕ) → m < length six → ((k : ℕ) → k < m → get_or six k 0 ≡ f k) → v ≡ f m → (k : ℕ) → k < m + 1 → get_or (set six m v) k 0 ≡ f k
set_next f six m v h are is k b = go (ℕ_discrete k m)
  where
    go : Dec (k ≡ m) → get_or (set six m v) k 0 ≡ f k
    go (yes e) = ap (λ (j : ℕ). get_or (set six m v) j 0) e ∙ get_or-set_same six m v 0 h ∙ is ∙ ap f (sym e)
    go (no n) = get_or-set_other six m k v 0 n ∙ are k (omega arith)

-- a list of at most six is their front
front_is : (l six : List ℕ) (n : ℕ) → length l ≡ n → n ≤ length six → ((k : ℕ) → k < n → get_or six k 0 ≡ get_or l k 0) → take n six ≡ l
front_is l six n e few are = ext_get_or 0 (take n six) l (cut ∙ sym e) (λ k h. let b : k < n = omega (arith, cut) in get_or-take n six k 0 b ∙ are k b)
  where
    cut : length (take n six) ≡ n
    cut = length-take-le n six few

-- ---- the places of a column

module _ {steps ps : List ℕ} {W : ℕ} (pre : ColumnsPre steps ps W) (y : ℕ) (few : y ≤ 64) where
  row : y * W ≤ 64 * W
  row = mul-le-mul_right W few

  pub column_few : y * W ≤ 2560
  column_few = omega (arith, row, pre.width)

  pub column_in : (m : ℕ) → m < length ps → (at : ℕ) → at ≡ get_or ps m 0 → y * W + at < length steps
  column_in m h at is = omega (arith, row, pre.there m h, pre.room)

-- ---- the places of the states

pub places_length : (at : ℕ) (qs ss : List ℕ) → length ss ≡ length qs → length (places_from at qs ss) ≡ length qs
unfolding places_from
places_length at [] ss e = refl
places_length at (q ∷ qs) [] e = absurd (omega arith)
places_length at (q ∷ qs) (s ∷ ss) e = ap suc (places_length (at + q) qs ss (omega arith))

pub place_at : (at : ℕ) (qs ss : List ℕ) → length ss ≡ length qs → (m : ℕ) → m < length qs → get_or (places_from at qs ss) m 0 ≡ at + places (take m qs) + get_or ss m 0
unfolding places_from places
place_at at [] ss e m h = absurd (omega arith)
place_at at (q ∷ qs) [] e m h = absurd (omega arith)
place_at at (q ∷ qs) (s ∷ ss) e zero h = omega arith
place_at at (q ∷ qs) (s ∷ ss) e (suc m) h = omega (arith, place_at (at + q) qs ss (omega arith) m (omega arith))

-- the places of the first m machines are written, and the next one's start at `first`
pub record PlacedTo (counts states six : List ℕ) (first m : ℕ) : Type 0 where
  pub size : length six ≡ 6
  pub upto : m ≤ length counts
  pub start : first ≡ places (take m counts)
  pub are : (k : ℕ) → k < m → get_or six k 0 ≡ places (take k counts) + get_or states k 0

module _ {counts states six : List ℕ} (pre : PlacesPre counts states six) where
  pub placed_start : PlacedTo counts states six 0 0
  placed_start = record { size = pre.room; upto = omega arith; start = sym (places_none counts); are = λ k h. absurd (omega arith) }

  module _ {now : List ℕ} {first m : ℕ} (I : PlacedTo counts states now first m) where
    pub placed_end : length counts ≤ m → Placed counts states now
    placed_end h = record {
      size = I.size;
      are = front_is (places_from 0 counts its) now (length counts) (places_length 0 counts its cut) (omega (arith, pre.few, I.size))
          (λ k b. I.are k (omega arith) ∙ omega (arith, place_at 0 counts its cut k b, get_or-take (length counts) states k 0 b));
    }
      where
        its : List ℕ
        its = take (length counts) states

        cut : length (take (length counts) states) ≡ length counts
        cut = length-take-le (length counts) states (omega (arith, pre.few, pre.size))

    module _ (h : m < length counts) where
      pub in_six : m < 6
      in_six = omega (arith, pre.few)

      pub next_few : first + get_or counts m 0 ≤ 40
      next_few = omega (arith, I.start, places_next counts m h, places_few (suc m) counts, pre.width)

      pub place_few : first + get_or states m 0 < 40
      place_few = omega (arith, next_few, pre.there m h)

      pub placed_next : PlacedTo counts states (set now m (first + get_or states m 0)) (first + get_or counts m 0) (m + 1)
      placed_next = record {
        size = length-set now m (first + get_or states m 0) ∙ I.size;
        upto = omega arith;
        start = let one : m + 1 ≡ suc m = omega arith in omega (arith, I.start, places_next counts m h, ap (λ (n : ℕ). places (take n counts)) one);
        are = set_next (λ k. places (take k counts) + get_or states k 0) now m (first + get_or states m 0) (omega (arith, in_six, I.size)) I.are (ap (λ (n : ℕ). n + get_or states m 0) I.start);
      }

-- ---- the states moved on to, and the marks

-- the steps of the first m machines are passed
pub record PassedTo (steps ps marks : List ℕ) (W y : ℕ) (states' marks' : List ℕ) (m : ℕ) : Type 0 where
  pub states_size : length states' ≡ 6
  pub marks_size : length marks' ≡ 6
  pub upto : m ≤ length ps
  pub moved : (k : ℕ) → k < m → get_or states' k 0 ≡ get_or (states_at steps W y ps) k 0
  pub added : (k : ℕ) → k < m → get_or marks' k 0 ≡ get_or marks k 0 + get_or (marks_at steps W y ps) k 0
  pub rest : (k : ℕ) → m ≤ k → get_or marks' k 0 ≡ get_or marks k 0

module _ {steps ps : List ℕ} {W y : ℕ} (pre : MovedPre steps ps W y) {marks : List ℕ} (F : MarksPre marks) where
  pub passed_start : {states : List ℕ} → length states ≡ 6 → PassedTo steps ps marks W y states marks 0
  passed_start e = record { states_size = e; marks_size = F.size; upto = omega arith; moved = λ k h. absurd (omega arith); added = λ k h. absurd (omega arith); rest = λ k h. refl }

  module _ {states' marks' : List ℕ} {m : ℕ} (I : PassedTo steps ps marks W y states' marks' m) where
    pub mark_fits : get_or marks' m 0 + 15 ≤ 65535
    mark_fits = omega (arith, I.rest m (omega arith), F.fits m)

    pub in_states : m < length ps → m < length states'
    in_states h = omega (arith, pre.columns.few, I.states_size)

    pub in_marks : m < length ps → m < length marks'
    in_marks h = omega (arith, pre.columns.few, I.marks_size)

    module _ (h : m < length ps) (at : ℕ) (is : at ≡ get_or ps m 0) where
      abbrev step : ℕ
      step = get_or steps (y * W + at) 0

      pub step_few : get_or steps (y * W + at) 0 < 4096
      step_few = omega (arith, pre.there m h, ap (step_at steps W y) is)

      pub passed_next : PassedTo steps ps marks W y (set states' m (get_or steps (y * W + at) 0 / 16)) (set marks' m (get_or marks' m 0 + get_or steps (y * W + at) 0 % 16)) (m + 1)
      passed_next = record {
        states_size = length-set states' m (step / 16) ∙ I.states_size;
        marks_size = length-set marks' m (get_or marks' m 0 + step % 16) ∙ I.marks_size;
        upto = omega arith;
        moved = set_next (λ k. get_or (states_at steps W y ps) k 0) states' m (step / 16) (in_states h) I.moved
            (ap (λ (p : ℕ). step_at steps W y p / 16) is ∙ sym (map_at (λ p. step_at steps W y p / 16) ps m h 0 0));
        added = set_next (λ k. get_or marks k 0 + get_or (marks_at steps W y ps) k 0) marks' m (get_or marks' m 0 + step % 16) (in_marks h) I.added
            (omega (arith, I.rest m (omega arith), ap (λ (p : ℕ). step_at steps W y p % 16) is, map_at (λ p. step_at steps W y p % 16) ps m h 0 0));
        rest = λ k b. get_or-set_other marks' m k (get_or marks' m 0 + step % 16) 0 (λ e. omega arith) ∙ I.rest k (omega arith);
      }

    module _ (h : length ps ≤ m) where
      pub passed_states : Moved steps ps W y states'
      passed_states = record {
        size = I.states_size;
        are = front_is (states_at steps W y ps) states' (length ps) (length-map ps (λ p. step_at steps W y p / 16)) (omega (arith, pre.columns.few, I.states_size)) (λ k b. I.moved k (omega arith));
      }

      pub passed_marks : MarksAdded marks steps ps W y marks'
      passed_marks = record { size = I.marks_size; sums = λ k. go k (dec_lt k m) }
        where
          go : (k : ℕ) → Dec (k < m) → get_or marks' k 0 ≡ get_or marks k 0 + get_or (marks_at steps W y ps) k 0
          go k (yes b) = I.added k b
          go k (no b) = omega (arith, I.rest k (omega arith), List·getD-eq-default (marks_at steps W y ps) 0 {n = k} (omega (arith, length-map ps (λ p. step_at steps W y p % 16))))
