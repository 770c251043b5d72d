-- State counts and the states of a code, machine by machine. Assumes nothing.
use Rattle.std.specs.Prelude.{◌≡◌, ◌∷◌, ◌+◌, ◌*◌, ◌<◌, ◌≤◌}
use Rattle.basics.specs.Words.{sym, ◌∙◌, ap, List, [], ℕ, zero, suc, arith, length, get_or, take, drop, set, drop_of_length-le, drop-cons, take-suc, take-suc-set, mul_assoc, mul-le-mul_left, add-one}
use Rattle.product.specs.Nodes.{product}
use Rattle.product.specs.Laws.Nodes.{Positive, product_positive}
use Rattle.product.specs.Laws.JointStep.{counts_positive}
use Rattle.tables.specs.Tables.{CountsOfSome}
use Rattle.tables.proofs.Machines.{count_at_lem, counts_length}

-- ---- the product of the counts from m on

pub product_next : (counts : List ℕ) (m : ℕ) → m < length counts → product (drop m counts) ≡ get_or counts m 0 * product (drop (suc m) counts)
unfolding product
product_next counts m h = rw (drop-cons counts m 0 h)

pub product_last : (counts : List ℕ) (m : ℕ) → length counts ≤ m → product (drop m counts) ≡ 1
unfolding product
product_last counts m h = rw (drop_of_length-le counts {i = m} h)

pub positive_drop : (counts : List ℕ) (m : ℕ) → Positive counts → 0 < product (drop m counts)
positive_drop counts zero p = product_positive counts p
positive_drop [] (suc m) p = product_positive [] tt
positive_drop (q ∷ counts) (suc m) p = positive_drop counts m p.1

positive_at : (counts : List ℕ) → Positive counts → (m : ℕ) → m < length counts → 0 < get_or counts m 0
positive_at [] p m h = absurd (omega arith)
positive_at (q ∷ counts) p zero h = p.0
positive_at (q ∷ counts) p (suc m) h = positive_at counts p.1 m (omega arith)

-- one count more
pub take_next : (xs ys : List ℕ) (m v : ℕ) → m < length xs → m < length ys → v ≡ get_or ys m 0 → take m xs ≡ take m ys → take (m + 1) (set xs m v) ≡ take (m + 1) ys
take_next xs ys m v h k e t = rw add-one (take-suc-set xs m v h ∙ (rw (t, e)) ∙ sym (take-suc ys m 0 k))

-- what the counts of some machines are
module _ {counts : List ℕ} (C : CountsOfSome counts) where
  pub few_counts : length counts ≤ 6
  few_counts = omega (arith, C.card.machines, ap length C.are, counts_length C.machines)

  pub all_positive : Positive counts
  all_positive = rw C.are (counts_positive C.card.sound)

  pub few_states_lem : product counts ≤ 128
  few_states_lem = omega (arith, C.card.joint_states, ap product C.are)

  pub count_positive : (m : ℕ) → m < length counts → 0 < get_or counts m 0
  count_positive m h = positive_at counts all_positive m h

  pub count_few : (m : ℕ) → get_or counts m 0 ≤ 32
  count_few m = omega (arith, C.card.states m, count_at_lem C.machines m, ap (λ (l : List ℕ). get_or l m 0) C.are)

  -- ---- P, count by count

  pub states_bound : (m states : ℕ) → states * product (drop m counts) ≡ product counts → states ≤ 128
  states_bound m states e = omega (arith, e, few_states_lem, mul-le-mul_left states (positive_drop counts m all_positive))

  pub states_start : 1 * product (drop 0 counts) ≡ product counts
  states_start = omega arith

  pub states_next : (m states q : ℕ) → m < length counts → q ≡ get_or counts m 0 → states * product (drop m counts) ≡ product counts → states * q * product (drop (m + 1) counts) ≡ product counts
  states_next m states q h k e = rw (add-one, k) (mul_assoc states (get_or counts m 0) (product (drop (suc m) counts)) ∙ ap (λ (n : ℕ). states * n) (sym (product_next counts m h)) ∙ e)

  pub states_end : (m states : ℕ) → length counts ≤ m → states * product (drop m counts) ≡ product counts → states ≡ product counts
  states_end m states h e = omega (arith, e, ap (λ (n : ℕ). states * n) (product_last counts m h))
