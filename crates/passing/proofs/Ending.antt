-- The marks of the machines' endings, machine by machine. Assumes nothing.
use Rattle.std.specs.Prelude.{◌≡◌, ◌∷◌, ◌+◌, ◌<◌, ◌≤◌}
use Rattle.basics.specs.Words.{refl, sym, ◌∙◌, ap, List, [], Option, some, none, Option·none-ne-some, ℕ, zero, suc, arith, length, get_or, set, length-set, List·getD-eq-default, get_or-set_same, get_or-set_other, ℕ_discrete, dec_lt}
use Rattle.machine.specs.Machine.{Machine, ending_of}
use Rattle.ranking.specs.declared.Profile.{Profile}
use Rattle.card.specs.Layout.{machine_count}
use Rattle.card.specs.Card.{machines_of}
use Rattle.card.specs.Laws.Machines.{length_machines}
use Rattle.product.specs.JointStep.{and_those, of_each, joint_ending}
use Rattle.tables.specs.StepTable.{machine_at}
use Rattle.tables.specs.Laws.Cards.{card_machines}
use Rattle.passing.specs.Going.{EndsPre, EndingAdded}

-- the joint ending has the ending of each machine
record Each (ms : List Machine) (ss v : List ℕ) : Type 0 where
  size : length v ≡ length ms
  ends : (m : ℕ) → m < length ms → ending_of (machine_at ms m) (get_or ss m 0) ≡ some (get_or v m 0)

each_ends : (ms : List Machine) (ss v : List ℕ) → joint_ending ms ss ≡ some v → Each ms ss v
unfolding of_each
each_ends [] ss v e = let z : [] ≡ v = cc in record { size = ap length (sym z); ends = λ m h. absurd (omega arith) }
each_ends (x ∷ ms) [] v e = absurd (Option·none-ne-some v e)
each_ends (x ∷ ms) (s ∷ ss) v e = go (ending_of x s) refl (joint_ending ms ss) refl e (each_ends ms ss)
  where
    go : (o : Option ℕ) → ending_of x s ≡ o → (j : Option (List ℕ)) → joint_ending ms ss ≡ j → and_those o j ≡ some v → ((u : List ℕ) → joint_ending ms ss ≡ some u → Each ms ss u) → Each (x ∷ ms) (s ∷ ss) v
    go none d j k z rec = absurd (Option·none-ne-some v z)
    go (some n) d none k z rec = absurd (Option·none-ne-some v z)
    go (some n) d (some u) k z rec =
        let y : n ∷ u ≡ v = cc in
        let r = rec u k in
        record { size = ap length (sym y) ∙ ap suc r.size; ends = λ m h. pick m h r ∙ ap (λ (l : List ℕ). some (get_or l m 0)) y }
      where
        pick : (m : ℕ) → m < suc (length ms) → Each ms ss u → ending_of (machine_at (x ∷ ms) m) (get_or (s ∷ ss) m 0) ≡ some (get_or (n ∷ u) m 0)
        pick zero h r = d
        pick (suc m) h r = r.ends m (omega arith)

-- the endings of the first m machines are added
pub record EndedTo (card states start sums : List ℕ) (m : ℕ) : Type 0 where
  pub size : length sums ≡ 6
  pub done : (k : ℕ) → k < m → (n : ℕ) → ending_of (machine_at (machines_of card) k) (get_or states k 0) ≡ some n → get_or sums k 0 ≡ get_or start k 0 + n
  pub rest : (k : ℕ) → m ≤ k → get_or sums k 0 ≡ get_or start k 0
  pub upto : m ≤ length states

module _ {card states : List ℕ} {profile : Profile} (pre : EndsPre card states profile) where
  -- the machines of the card
  pub machine_there : (m : ℕ) → m < length states → m < machine_count card
  machine_there m h = omega (arith, pre.size, length_machines card)

  pub ended_start : EndedTo card states profile.counts profile.counts 0
  ended_start = record { size = pre.profile_size; done = λ k h. absurd (omega arith); rest = λ k h. refl; upto = omega arith }

  module _ {sums : List ℕ} {m : ℕ} (I : EndedTo card states profile.counts sums m) where
    pub in_sums : m < length states → m < length sums
    in_sums h = omega (arith, I.size, pre.size, (card_machines card pre.accepted).machines)

    pub sum_fits : get_or sums m 0 + 255 ≤ 65535
    sum_fits = omega (arith, I.rest m (omega arith), pre.fits m)

    pub ended_next : m < length states → (r v : ℕ) → ((n : ℕ) → ending_of (machine_at (machines_of card) m) (get_or states m 0) ≡ some n → r ≡ n) → v ≡ get_or sums m 0 + r → EndedTo card states profile.counts (set sums m v) (m + 1)
    ended_next h r v f e = record {
      size = length-set sums m v ∙ I.size;
      done = λ k b. pick k b (ℕ_discrete k m);
      rest = λ k b. get_or-set_other sums m k v 0 (λ z. omega arith) ∙ I.rest k (omega arith);
      upto = omega arith;
    }
      where
        pick : (k : ℕ) → k < m + 1 → Dec (k ≡ m) → (n : ℕ) → ending_of (machine_at (machines_of card) k) (get_or states k 0) ≡ some n → get_or (set sums m v) k 0 ≡ get_or profile.counts k 0 + n
        pick k b (yes z) n g =
            ap (λ (j : ℕ). get_or (set sums m v) j 0) z
            ∙ get_or-set_same sums m v 0 (in_sums h)
            ∙ omega (arith, e, I.rest m (omega arith), ap (λ (j : ℕ). get_or profile.counts j 0) z, f n (ap (λ (j : ℕ). ending_of (machine_at (machines_of card) j) (get_or states j 0)) (sym z) ∙ g))
        pick k b (no z) n g = get_or-set_other sums m k v 0 z ∙ I.done k (omega arith) n g

    pub ended_end : length states ≤ m → EndingAdded card states profile (record { counts = sums })
    ended_end h = record { size = I.size; sums = λ v e k. pick v (each_ends (machines_of card) states v e) k (dec_lt k m) }
      where
        pick : (v : List ℕ) → Each (machines_of card) states v → (k : ℕ) → Dec (k < m) → get_or sums k 0 ≡ get_or profile.counts k 0 + get_or v k 0
        pick v E k (yes b) = I.done k b (get_or v k 0) (E.ends k (omega (arith, I.upto, pre.size)))
        pick v E k (no b) = omega (arith, I.rest k (omega arith), List·getD-eq-default v 0 {n = k} (omega (arith, E.size, pre.size)))
