-- For every list of adds and removals from an empty table, rows and leader are those worked out afresh from the ids added and not since removed.
-- Assumes nothing.
use Rattle.std.specs.Prelude.{◌≡◌, ◌∷◌, ◌++◌, ◌+◌, ◌-◌, ◌<◌, ◌≤◌}
use Rattle.basics.proofs.Words.{refl, sym, ap, ◌∙◌, subst, true, false, not, List, [], append-nil, append_assoc, ℕ, zero, suc, arith, length, set, take, drop, length-append, length-drop, length-set, ltb, lit<, length-take-le, take-suc-set, take_at, pairwise, both, left, right, pairwise_those}
use Rattle.std.proofs.Common.{ltb-true, le-leb}
use Rattle.std.proofs.lemmas.Bool.{not-true}
use Rattle.refusals.specs.Refusals.{refuse, first_of, unless_refused}
use Rattle.refusals.proofs.Refusals.{passed, passes_with, none_first, not_accepted}
use Rattle.refusals.proofs.Refusals as by_number
use Rattle.ranking.specs.Rankings.{is_machine_count, is_ranking}
use Rattle.live.specs.declared.Row.{Row}
use Rattle.live.specs.declared.Counted.{Counted}
use Rattle.live.specs.Rows.{zero_row, present, without, lacks, differ, removed, fits, has_room, leader_of, counted, refused_count, unled, lead_answer}
use Rattle.live.specs.Calls.{Adds, Removes, adding, added_list, removing, removed_list, adding_refusal, removing_refusal}
use Rattle.live.specs.Afresh.{Call, Add, Remove, Table, started, Does, Ran, begun, accepts, refuses, afresh}
use Rattle.live.proofs.Rows.{length_without, without_those, differ_last}
use Rattle.live.proofs.Afresh.{afresh_add, afresh_remove}
use Rattle.live.specs.LiveTableau.{WorkedOut, Runs}

-- ---- what every call keeps
record Kept (l : List Row) (t : Table) (done : List Call) : Type 0 where
  pub rows : take t.count t.list ≡ afresh done
  pub once : pairwise differ (afresh done) ≡ true
  pub long : length t.list ≡ length l
  pub within : t.count ≤ length t.list
  pub few : t.count ≤ 32

-- it speaks of the count and the list alone
carried : {l : List Row} {done : List Call} (t u : Table) → Kept l t done → u.count ≡ t.count → u.list ≡ t.list → Kept l u done
carried t u k c m =
    let e : length u.list ≡ length t.list = ap (λ (x : List Row). length x) m in
    record {
      rows = ap (λ (n : ℕ). take n u.list) c ∙ ap (take t.count) m ∙ k.rows;
      once = k.once;
      long = e ∙ k.long;
      within = omega (arith, c, e, k.within);
      few = omega (arith, c, k.few);
    }

-- the third and the fourth number of a call that is not refused
last_two : (a b c d : ℕ) → first_of (a ∷ b ∷ c ∷ d ∷ []) ≡ 0 → (c ≡ 0) × (d ≡ 0)
last_two a b c d e =
    let p = none_first a (b ∷ c ∷ d ∷ []) e in
    let q = none_first b (c ∷ d ∷ []) p.1 in
    let r = none_first c (d ∷ []) q.1 in
    (r.0, (none_first d [] r.1).0)

-- an answer's number and row count, of a call with the number n that answers x where it is accepted
answer_number : (n x : ℕ) (answer : Counted) → answer ≡ unless_refused n (counted x) refused_count → answer.number ≡ n
answer_number zero x answer e = ap (λ (a : Counted). a.number) e
answer_number (suc n) x answer e = ap (λ (a : Counted). a.number) e

answer_count : (n x : ℕ) (answer : Counted) → answer ≡ unless_refused n (counted x) refused_count → n ≡ 0 → answer.count ≡ x
answer_count n x answer e z = ap (λ (a : Counted). a.count) (e ∙ by_number.accepted (counted x) refused_count z)

module _ (K : ℕ) (ranking : List ℕ) (l : List Row) where
  add_step : (t : Table) (row : Row) (m : List Row) (answer : Counted) (done : List Call) → Kept l t done → Adds K ranking t.count t.list m row answer → answer.number ≡ 0
      → Kept l (record { count = answer.count; list = m }) (done ++ (Add row ∷ []))
  add_step t row m answer done k a z =
      let e : adding_refusal K ranking t.count t.list row.id ≡ 0 = sym (answer_number (adding_refusal K ranking t.count t.list row.id) (t.count + 1) answer a.answers) ∙ z in
      let two = last_two (refuse 1 (is_machine_count K)) (refuse 7 (is_ranking K ranking)) (refuse 23 (has_room t.count (length t.list))) (refuse 24 (not (present row.id (take t.count t.list)))) e in
      let room : has_room t.count (length t.list) ≡ true = passed 23 (has_room t.count (length t.list)) (lit< tt) two.0 in
      let absent : present row.id (take t.count t.list) ≡ false = not-true (present row.id (take t.count t.list)) (passed 24 (not (present row.id (take t.count t.list))) (lit< tt) two.1) in
      let small : t.count < 32 = ltb-true t.count 32 (left (ltb t.count 32) (ltb t.count (length t.list)) room) in
      let inside : t.count < length t.list = ltb-true t.count (length t.list) (right (ltb t.count 32) (ltb t.count (length t.list)) room) in
      let one : t.count + 1 ≡ suc t.count = omega arith in
      let same = length-set t.list t.count row in
      carried (record { count = t.count + 1; list = set t.list t.count row }) (record { count = answer.count; list = m })
      (record {
        rows = ap (λ (n : ℕ). take n (set t.list t.count row)) one ∙ take-suc-set t.list t.count row inside ∙ ap (λ (rows : List Row). rows ++ (row ∷ [])) k.rows ∙ sym (afresh_add done row);
        once = ap (λ (rows : List Row). pairwise differ rows) (afresh_add done row) ∙ differ_last (afresh done) row k.once (ap (λ (rows : List Row). present row.id rows) (sym k.rows) ∙ absent);
        long = same ∙ k.long;
        within = omega (arith, same, inside);
        few = omega (arith, small);
      })
      (answer_count (adding_refusal K ranking t.count t.list row.id) (t.count + 1) answer a.answers e)
      (a.leaves ∙ by_number.accepted (set t.list t.count row) (λ n. t.list) e)

  remove_step : (t : Table) (id : ℕ) (m : List Row) (answer : Counted) (done : List Call) → Kept l t done → Removes K ranking t.count t.list m id answer → answer.number ≡ 0
      → Kept l (record { count = answer.count; list = m }) (done ++ (Remove id ∷ []))
  remove_step t id m answer done k a z =
      let e : removing_refusal K ranking t.count t.list id ≡ 0 = sym (answer_number (removing_refusal K ranking t.count t.list id) (t.count - 1) answer a.answers) ∙ z in
      let two = last_two (refuse 1 (is_machine_count K)) (refuse 7 (is_ranking K ranking)) (refuse 23 (fits t.count (length t.list))) (refuse 24 (present id (take t.count t.list))) e in
      let there : present id (take t.count t.list) ≡ true = passed 24 (present id (take t.count t.list)) (lit< tt) two.1 in
      let fewer = length_without id (take t.count t.list) there in
      let all = length-take-le t.count t.list k.within in
      let left_over : length (without id (take t.count t.list)) ≡ t.count - 1 = omega (arith, fewer, all) in
      let behind = length-drop t.count t.list in
      let joined = length-append (without id (take t.count t.list)) (zero_row ∷ drop t.count t.list) in
      let same : length (removed id t.count t.list) ≡ length t.list = omega (arith, joined, fewer, all, behind, k.within) in
      carried (record { count = t.count - 1; list = removed id t.count t.list }) (record { count = answer.count; list = m })
      (record {
        rows = take_at (without id (take t.count t.list)) (zero_row ∷ drop t.count t.list) (t.count - 1) left_over ∙ ap (without id) k.rows ∙ without_those id (afresh done) k.once ∙ sym (afresh_remove done id);
        once = ap (λ (rows : List Row). pairwise differ rows) (afresh_remove done id) ∙ pairwise_those (lacks id) differ (afresh done) k.once;
        long = same ∙ k.long;
        within = omega (arith, same, k.within);
        few = omega (arith, k.few);
      })
      (answer_count (removing_refusal K ranking t.count t.list id) (t.count - 1) answer a.answers e)
      (a.leaves ∙ by_number.accepted (removed id t.count t.list) (λ n. t.list) e)

  accepted_step : (t : Table) (c : Call) (m : List Row) (answer : Counted) (done : List Call) → Kept l t done → Does K ranking t c m answer → answer.number ≡ 0
      → Kept l (record { count = answer.count; list = m }) (done ++ (c ∷ []))
  accepted_step t (Add row) m answer done k a z = add_step t row m answer done k a z
  accepted_step t (Remove id) m answer done k a z = remove_step t id m answer done k a z

  -- a refused call changes nothing
  refused_leaves : (t : Table) (c : Call) (m : List Row) (answer : Counted) → Does K ranking t c m answer → 0 < answer.number → m ≡ t.list
  refused_leaves t (Add row) m answer a h =
      let n = adding_refusal K ranking t.count t.list row.id in
      let more : 0 < n = omega (arith, h, answer_number n (t.count + 1) answer a.answers) in
      a.leaves ∙ not_accepted n (set t.list t.count row) (λ n. t.list) more
  refused_leaves t (Remove id) m answer a h =
      let n = removing_refusal K ranking t.count t.list id in
      let more : 0 < n = omega (arith, h, answer_number n (t.count - 1) answer a.answers) in
      a.leaves ∙ not_accepted n (removed id t.count t.list) (λ n. t.list) more

  kept_start : Kept l (started l) []
  unfolding afresh pairwise
  kept_start = record { rows = refl; once = refl; long = refl; within = omega arith; few = omega arith }

  kept_ran : {calls done : List Call} {t : Table} → Ran K ranking l calls done t → Kept l t done
  kept_ran begun = kept_start
  kept_ran (accepts {calls} {done} {t} c m answer r d z) = accepted_step t c m answer done (kept_ran r) d z
  kept_ran (refuses {calls} {done} {t} c m answer r d h) = carried t (record { count = t.count; list = m }) (kept_ran r) refl (refused_leaves t c m answer d h)

  -- ---- what that says
  three_zero : (a b c : ℕ) → a ≡ 0 → b ≡ 0 → c ≡ 0 → first_of (a ∷ b ∷ c ∷ []) ≡ 0
  three_zero a b c x y z = rw (x, y, z)

  third_zero : (a b c d : ℕ) → c ≡ 0 → first_of (a ∷ b ∷ c ∷ d ∷ []) ≡ first_of (a ∷ b ∷ d ∷ [])
  third_zero zero zero c d e = rw e
  third_zero zero (suc b) c d e = refl
  third_zero (suc a) b c d e = refl

  worked_out : (t : Table) (done : List Call) → Kept l t done → WorkedOut K ranking l t done
  worked_out t done k = record {
    rows = k.rows;
    count = many;
    once = k.once;
    long = k.long;
    leader = λ counts ranks.
        by_number.accepted (lead_answer (leader_of ranking (take t.count t.list))) unled
        (three_zero (refuse 1 (is_machine_count K)) (refuse 7 (is_ranking K ranking)) (refuse 23 (fits t.count (length t.list))) (passes_with 1 counts) (passes_with 7 ranks) (passes_with 23 sound))
        ∙ ap (λ (rows : List Row). lead_answer (leader_of ranking rows)) k.rows;
    add_refused = λ id. ap (λ (n : ℕ). adds id n (length t.list) (take t.count t.list)) many ∙ ap (λ (n : ℕ). adds id (length (afresh done)) n (take t.count t.list)) k.long ∙ ap (adds id (length (afresh done)) (length l)) k.rows;
    remove_refused = λ id.
        third_zero (refuse 1 (is_machine_count K)) (refuse 7 (is_ranking K ranking)) (refuse 23 (fits t.count (length t.list))) (refuse 24 (present id (take t.count t.list))) (passes_with 23 sound)
        ∙ ap (λ (rows : List Row). first_of (refuse 1 (is_machine_count K) ∷ refuse 7 (is_ranking K ranking) ∷ refuse 24 (present id rows) ∷ [])) k.rows;
  }
    where
      many : t.count ≡ length (afresh done)
      many = sym (length-take-le t.count t.list k.within) ∙ ap (λ (rows : List Row). length rows) k.rows

      sound : fits t.count (length t.list) ≡ true
      sound = both (le-leb t.count 32 k.few) (le-leb t.count (length t.list) k.within)

      adds : ℕ → ℕ → ℕ → List Row → ℕ
      adds id n m rows = first_of (refuse 1 (is_machine_count K) ∷ refuse 7 (is_ranking K ranking) ∷ refuse 23 (has_room n m) ∷ refuse 24 (not (present id rows)) ∷ [])

  -- every table that was run to
  pub live_tableau : {calls done : List Call} {t : Table} → Ran K ranking l calls done t → WorkedOut K ranking l t done
  live_tableau {calls} {done} {t} r = worked_out t done (kept_ran r)

  -- every list of calls has a run
  does : (t : Table) (c : Call) → (m : List Row) × (answer : Counted) × Does K ranking t c m answer
  does t (Add row) = (added_list K ranking t.count t.list row, adding K ranking t.count t.list row, record { answers = refl; leaves = refl })
  does t (Remove id) = (removed_list K ranking t.count t.list id, removing K ranking t.count t.list id, record { answers = refl; leaves = refl })

  runs_on : (calls made done : List Call) (t : Table) → Ran K ranking l made done t → Runs K ranking l (made ++ calls)
  runs_on [] made done t r = (done, t, subst (λ (cs : List Call). Ran K ranking l cs done t) (sym (append-nil made)) r)
  runs_on (c ∷ cs) made done t r =
      let (m, answer, d) = does t c in
      subst (Runs K ranking l) (append_assoc made (c ∷ []) cs) (go m answer d answer.number refl (runs_on cs (made ++ (c ∷ []))))
    where
      go : (m : List Row) (answer : Counted) → Does K ranking t c m answer → (n : ℕ) → answer.number ≡ n
          → ((done : List Call) (t : Table) → Ran K ranking l (made ++ (c ∷ [])) done t → Runs K ranking l ((made ++ (c ∷ [])) ++ cs)) → Runs K ranking l ((made ++ (c ∷ [])) ++ cs)
      go m answer d zero e rest = rest (done ++ (c ∷ [])) (record { count = answer.count; list = m }) (accepts c m answer r d e)
      go m answer d (suc n) e rest = rest done (record { count = t.count; list = m }) (refuses c m answer r d (omega (arith, e)))

  pub every_list_runs : (calls : List Call) → Runs K ranking l calls
  every_list_runs calls = runs_on calls [] [] (started l) begun
