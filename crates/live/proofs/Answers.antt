-- From the numbers of the checks and from what is done to the rows to the answers of the calls. Assumes nothing.
use Rattle.std.specs.Prelude.{◌≡◌, ◌+◌, ◌-◌, ◌<◌}
use Rattle.basics.specs.Words.{refl, sym, ap, ◌∙◌, Bool, true, false, not, List, ℕ, arith, length, take, lit<}
use Rattle.refusals.specs.Refusals.{refuse, unless_refused}
use Rattle.refusals.proofs.Refusals.{passed, accepted, not_accepted}
use Rattle.ranking.specs.Rankings.{is_machine_count, is_ranking}
use Rattle.live.specs.declared.Row.{Row}
use Rattle.live.specs.declared.Counted.{Counted}
use Rattle.live.specs.declared.Lead.{Lead}
use Rattle.live.specs.Rows.{present, added, removed, fits, has_room, leader_of, counted, refused_count, unled, lead_answer}
use Rattle.live.specs.Steps.{putting_in, taking_out, leader_down}
use Rattle.live.proofs.Rows.{some_row}
use Rattle.live.specs.Calls.{adding_refusal, removing_refusal, leading, Adds, Removes}
use Rattle.live_checks.proofs.Checks.{first_three, three_stay, three_go}
use Rattle.live.proofs.Leading.{leader_found}

module _ (K : ℕ) (ranking : List ℕ) (count : ℕ) (l : List Row) where
  -- ---- an add
  pub add_refused : (row : Row) {number : ℕ} {answer : Counted} → number ≡ first_three K ranking (has_room count (length l)) → 0 < number → answer ≡ refused_count number → Adds K ranking count l l row answer
  add_refused row {number} {answer} e h a =
      let n = adding_refusal K ranking count l row.id in
      let same : n ≡ number = three_stay (refuse 1 (is_machine_count K)) (refuse 7 (is_ranking K ranking)) (refuse 23 (has_room count (length l))) (refuse 24 (not (present row.id (take count l)))) (omega (arith, e, h)) ∙ sym e in
      let positive : 0 < n = omega (arith, same, h) in
      record {
        answers = a ∙ ap refused_count (sym same) ∙ sym (not_accepted n (counted (count + 1)) refused_count positive);
        leaves = sym (not_accepted n (added count l row) (λ _. l) positive);
      }

  pub add_done : (row : Row) {number fourth : ℕ} {m : List Row} {answer : Counted} → number ≡ first_three K ranking (has_room count (length l)) → number ≡ 0
      → m ≡ putting_in count l row → fourth ≡ refuse 24 (not (present row.id (take count l))) → answer ≡ unless_refused fourth (counted (count + 1)) refused_count → Adds K ranking count l m row answer
  unfolding putting_in
  add_done row e z p q a = record {
    answers = a ∙ ap (λ (k : ℕ). unless_refused k (counted (count + 1)) refused_count) (q ∙ sym decides);
    leaves = p ∙ go (present row.id (take count l)) refl;
  }
    where
      n : ℕ
      n = adding_refusal K ranking count l row.id

      decides : n ≡ refuse 24 (not (present row.id (take count l)))
      decides = three_go (refuse 1 (is_machine_count K)) (refuse 7 (is_ranking K ranking)) (refuse 23 (has_room count (length l))) (refuse 24 (not (present row.id (take count l)))) (sym e ∙ z)

      go : (b : Bool) → present row.id (take count l) ≡ b → putting_in count l row ≡ unless_refused n (added count l row) (λ _. l)
      go true t =
          let is : n ≡ 24 = decides ∙ ap (λ (b : Bool). refuse 24 (not b)) t in
          let kept : putting_in count l row ≡ l = rw (t, putting_in) in
          kept ∙ sym (not_accepted n (added count l row) (λ _. l) (omega (arith, is)))
      go false t =
          let is : n ≡ 0 = decides ∙ ap (λ (b : Bool). refuse 24 (not b)) t in
          let set_to : putting_in count l row ≡ added count l row = rw (t, putting_in) in
          set_to ∙ sym (accepted (added count l row) (λ _. l) is)

  -- ---- a removal
  pub remove_refused : (id : ℕ) {number : ℕ} {answer : Counted} → number ≡ first_three K ranking (fits count (length l)) → 0 < number → answer ≡ refused_count number → Removes K ranking count l l id answer
  remove_refused id {number} {answer} e h a =
      let n = removing_refusal K ranking count l id in
      let same : n ≡ number = three_stay (refuse 1 (is_machine_count K)) (refuse 7 (is_ranking K ranking)) (refuse 23 (fits count (length l))) (refuse 24 (present id (take count l))) (omega (arith, e, h)) ∙ sym e in
      let positive : 0 < n = omega (arith, same, h) in
      record {
        answers = a ∙ ap refused_count (sym same) ∙ sym (not_accepted n (counted (count - 1)) refused_count positive);
        leaves = sym (not_accepted n (removed id count l) (λ _. l) positive);
      }

  pub remove_done : (id : ℕ) {number fourth : ℕ} {m : List Row} {answer : Counted} → number ≡ first_three K ranking (fits count (length l)) → number ≡ 0
      → m ≡ taking_out id count l → fourth ≡ refuse 24 (present id (take count l)) → answer ≡ unless_refused fourth (counted (count - 1)) refused_count → Removes K ranking count l m id answer
  unfolding taking_out
  remove_done id e z p q a = record {
    answers = a ∙ ap (λ (k : ℕ). unless_refused k (counted (count - 1)) refused_count) (q ∙ sym decides);
    leaves = p ∙ go (present id (take count l)) refl;
  }
    where
      n : ℕ
      n = removing_refusal K ranking count l id

      decides : n ≡ refuse 24 (present id (take count l))
      decides = three_go (refuse 1 (is_machine_count K)) (refuse 7 (is_ranking K ranking)) (refuse 23 (fits count (length l))) (refuse 24 (present id (take count l))) (sym e ∙ z)

      go : (b : Bool) → present id (take count l) ≡ b → taking_out id count l ≡ unless_refused n (removed id count l) (λ _. l)
      go true t =
          let is : n ≡ 0 = decides ∙ ap (refuse 24) t in
          let gone : taking_out id count l ≡ removed id count l = rw (t, taking_out) in
          gone ∙ sym (accepted (removed id count l) (λ _. l) is)
      go false t =
          let is : n ≡ 24 = decides ∙ ap (refuse 24) t in
          let kept : taking_out id count l ≡ l = rw (t, taking_out) in
          kept ∙ sym (not_accepted n (removed id count l) (λ _. l) (omega (arith, is)))

  -- a removal that passes takes a row
  pub some_removed : (id : ℕ) {fourth : ℕ} → fourth ≡ refuse 24 (present id (take count l)) → fourth ≡ 0 → 0 < count
  some_removed id q z = some_row id count l (passed 24 (present id (take count l)) (lit< tt) (sym q ∙ z))

  -- ---- the leader
  pub lead_done : {number : ℕ} {answer : Lead} → number ≡ first_three K ranking (fits count (length l)) → number ≡ 0 → answer ≡ leader_down ranking (take count l) → answer ≡ leading K ranking count l
  lead_done {number} {answer} e z a = a ∙ leader_found ranking (take count l) ∙ sym (accepted (lead_answer (leader_of ranking (take count l))) unled (sym e ∙ z))

  pub lead_none : {number : ℕ} {answer : Lead} → number ≡ first_three K ranking (fits count (length l)) → number ≡ 0 → count ≡ 0 → answer ≡ unled 0 → answer ≡ leading K ranking count l
  unfolding leader_down
  lead_none {number} {answer} e z c a = lead_done e z (a ∙ empty)
    where
      empty : unled 0 ≡ leader_down ranking (take count l)
      empty = rw c
