-- The best candidate with two machines joined, one of them without marks: it is the best candidate of the old card, under the ranking in which the
-- joined machine stands in the place of the one with marks. Assumes nothing.
use Rattle.std.specs.Prelude.{◌≡◌, ◌⊎◌, ◌↔◌, ◌+◌, ◌*◌, ◌<◌}
use Rattle.basics.proofs.Words.{refl, sym, ap, ◌∙◌, Bool, true, false, List, Option, some, none, inl, inr, ℕ, suc, arith, length, get_or, eqb, ext_get_or, map_at}
use Rattle.std.proofs.Common.{eqb-true}
use Rattle.std.proofs.lemmas.Bool.{eqb-false}
use Rattle.machine.specs.declared.Pair.{Pair}
use Rattle.machine.specs.Machine.{Machine, start_state}
use Rattle.ranking.specs.Rankings.{is_ranking}
use Rattle.ranking.specs.Harmony.{worse}
use Rattle.card.specs.Layout.{machine_count, symbol_count, parts_of}
use Rattle.card.specs.Card.{machines_of, card_refusal}
use Rattle.card.specs.Accepted.{accepted}
use Rattle.candidate.specs.Candidates.{marks_of, count_of, profile_of, IsCandidate}
use Rattle.product.specs.Nodes.{node_count}
use Rattle.product.specs.Best.{Contender, ProfileOrder, harmonic}
use Rattle.product.specs.Prices.{ranking_agrees}
use Rattle.product.specs.BestCandidate.{IsBestBy, Beats, better_profile, fewer_pairs, smaller_bytes, BestOf}
use Rattle.product.specs.Searches.{Searches}
use Rattle.product.specs.Laws.BestCandidate.{profile_length, best_of_ranked}
use Rattle.product.specs.Laws.Accepted.{accepted_machines}
use Rattle.join.specs.Merged.{merged_counts}
use Rattle.join.specs.JoinedMachine.{machine_at, joined_machine, joined_machines, markless}
use Rattle.join.specs.JoinedRanking.{renumbered, joined_ranking}
use Rattle.join.specs.JoinTheorem.{Joins, JoinKeeps, keeps_meant, join_keeps}
use Rattle.join.specs.Laws.Merged.{length_merged}
use Rattle.join.specs.Laws.Ranking.{merged_count, joined_worse, joined_ranking_lem}
use Rattle.join.specs.Laws.Markless.{counts_nothing}
use Rattle.join.specs.Laws.Parts.{machines_sound}

-- u is one of the two, and has no marks
pub record Unmarked (i j u : ℕ) (ms : List Machine) : Type 0 where
  pub which : (u ≡ i) ⊎ (u ≡ j)
  pub no_marks : markless (machine_at ms u) ≡ true

module _ {S i j u : ℕ} {ms : List Machine} (k : Joins S i j ms) (n : Unmarked i j u ms) where
  ms' : List Machine
  ms' = joined_machines i j ms

  keeps : JoinKeeps i j ms
  keeps = join_keeps k

  counts : (c : List Pair) → j < length (profile_of ms c)
  counts c = omega (arith, k.within, profile_length ms c)

  below : (u ≡ i) ⊎ (u ≡ j) → u < length ms
  below (inl e) = omega (arith, e, k.order, k.within)
  below (inr e) = omega (arith, e, k.within)

  no_count : (c : List Pair) → get_or (profile_of ms c) u 0 ≡ 0
  unfolding profile_of
  no_count c = map_at (λ m. count_of (marks_of c m)) ms u (below n.which) 0 _ ∙ counts_nothing (machine_at ms u) n.no_marks start_state c

  new_profile : {word : List ℕ} (c : List Pair) → IsCandidate ms word c → profile_of ms' c ≡ merged_counts i j (profile_of ms c)
  unfolding keeps ms'
  new_profile c h = keeps.profile c h.pairs h.complete

  -- equal counts once merged were equal before
  same_counts_lem : (c d : List Pair) → merged_counts i j (profile_of ms d) ≡ merged_counts i j (profile_of ms c) → profile_of ms d ≡ profile_of ms c
  same_counts_lem c d e = ext_get_or 0 (profile_of ms d) (profile_of ms c) (profile_length ms d ∙ sym (profile_length ms c)) (λ m h. go m (eqb m u) refl)
    where
      go : (m : ℕ) (b : Bool) → eqb m u ≡ b → get_or (profile_of ms d) m 0 ≡ get_or (profile_of ms c) m 0
      go m true t =
          let q = eqb-true m u t in
          ap (λ x. get_or (profile_of ms d) x 0) q ∙ no_count d ∙ sym (no_count c) ∙ ap (λ x. get_or (profile_of ms c) x 0) (sym q)
      go m false t =
          let f = eqb-false m u t in
          sym (merged_count i j u k.order n.which (profile_of ms d) (counts d) (no_count d) m f)
          ∙ ap (λ (v : List ℕ). get_or v (renumbered i j m) 0) e
          ∙ merged_count i j u k.order n.which (profile_of ms c) (counts c) (no_count c) m f

  -- two candidates, for one word or for two
  module _ (r : List ℕ) {word other : List ℕ} (c d : List Pair) (hc : IsCandidate ms word c) (hd : IsCandidate ms other d) where
    new_order : worse (joined_ranking i j u r) (profile_of ms' d) (profile_of ms' c) ≡ worse r (profile_of ms d) (profile_of ms c)
    new_order =
        ap (λ (v : List ℕ). worse (joined_ranking i j u r) v (profile_of ms' c)) (new_profile d hd)
        ∙ ap (λ (v : List ℕ). worse (joined_ranking i j u r) (merged_counts i j (profile_of ms d)) v) (new_profile c hc)
        ∙ joined_worse i j u k.order n.which r (profile_of ms d) (profile_of ms c) (counts d) (counts c) (no_count d) (no_count c)

    to_old : profile_of ms' d ≡ profile_of ms' c → profile_of ms d ≡ profile_of ms c
    to_old e = same_counts_lem c d (sym (new_profile d hd) ∙ e ∙ new_profile c hc)

    to_new : profile_of ms d ≡ profile_of ms c → profile_of ms' d ≡ profile_of ms' c
    to_new e = new_profile d hd ∙ ap (merged_counts i j) e ∙ sym (new_profile c hc)

    beats_old : Beats (joined_ranking i j u r) ms' c d → Beats r ms c d
    beats_old (better_profile h) = better_profile (sym new_order ∙ h)
    beats_old (fewer_pairs e h) = fewer_pairs (to_old e) h
    beats_old (smaller_bytes e h l) = smaller_bytes (to_old e) h l

    beats_new : Beats r ms c d → Beats (joined_ranking i j u r) ms' c d
    beats_new (better_profile h) = better_profile (new_order ∙ h)
    beats_new (fewer_pairs e h) = fewer_pairs (to_new e) h
    beats_new (smaller_bytes e h l) = smaller_bytes (to_new e) h l

  -- the best candidate is the same, whatever is asked for
  pub best_joined : {Meant : List Machine → List Pair → Type 0} {bestOn : ProfileOrder → List ℕ → Option Contender} → Searches Meant bestOn → (r : List ℕ) (c : List Pair)
      → IsBestBy (Beats (joined_ranking i j u r) (joined_machines i j ms)) (Meant (joined_machines i j ms)) c ↔ IsBestBy (Beats r ms) (Meant ms) c
  unfolding ms'
  best_joined asked r c = (
    λ b.
        let h = (keeps_meant k asked c).0 b.candidate in
        record { candidate = h; rivals = λ d hd ne. beats_old r c d (asked.candidate h).1 (asked.candidate hd).1 (b.rivals d ((keeps_meant k asked d).1 hd) ne) },
    λ b. record {
      candidate = (keeps_meant k asked c).1 b.candidate;
      rivals = λ d hd ne. let h = (keeps_meant k asked d).0 hd in beats_new r c d (asked.candidate b.candidate).1 (asked.candidate h).1 (b.rivals d h ne);
    },
  )

-- ---- for cards

-- the best candidate with its profile, the two counts added
abbrev pub joined_contender : ℕ → ℕ → Option Contender → Option Contender
joined_contender i j none = none
joined_contender i j (some b) = some (record { candidate = b.candidate; profile = merged_counts i j b.profile })

-- two machines of an accepted card
pub card_joins : (card : List ℕ) → card_refusal card ≡ 0 → (i j : ℕ) → i < j → j < machine_count card → Joins (symbol_count card) i j (machines_of card)
unfolding machines_of
card_joins card ok i j h k =
    let a = accepted card ok in
    record { symbols = omega (arith, a.head); order = h; within = omega (arith, k, (accepted_machines card ok).count); sound = machines_sound (symbol_count card) (parts_of card) a.all_parts }

-- two accepted cards, the second with the machines i and j of the first joined
pub record TwoCards (i j : ℕ) (card new : List ℕ) : Type 0 where
  pub first_accepted : card_refusal card ≡ 0
  pub order : i < j
  pub within : j < machine_count card
  pub second_accepted : card_refusal new ≡ 0
  pub symbols : symbol_count new ≡ symbol_count card
  pub machines : machines_of new ≡ joined_machines i j (machines_of card)

module _ {card new : List ℕ} {i j : ℕ} (two : TwoCards i j card new) where
  joins : Joins (symbol_count card) i j (machines_of card)
  joins = card_joins card two.first_accepted i j two.order two.within

  kept : JoinKeeps i j (machines_of card)
  kept = join_keeps joins

  -- they have as many nodes
  pub same_nodes : (n : ℕ) → node_count (machines_of new) n ≡ node_count (machines_of card) n
  same_nodes n = ap (λ (ms : List Machine). node_count ms n) two.machines ∙ ap (λ (P : ℕ). (n + 1) * P) kept.states

  -- the profiles of candidates are the old ones with the two counts added
  pub added_profile : {word : List ℕ} (c : List Pair) → IsCandidate (machines_of card) word c → profile_of (machines_of new) c ≡ merged_counts i j (profile_of (machines_of card) c)
  added_profile c is = rw two.machines (kept.profile c is.pairs is.complete)

  module _ {u : ℕ} (n : Unmarked i j u (machines_of card)) where
    pub new_ranking_lem : (ranking : List ℕ) → is_ranking (machine_count card) ranking ≡ true → is_ranking (machine_count new) (joined_ranking i j u ranking) ≡ true
    new_ranking_lem ranking is = joined_ranking_lem i j u two.order n.which (machine_count new) ranking (omega (arith, count, two.within)) (ap (λ K. is_ranking K ranking) count ∙ is)
      where
        count : suc (machine_count new) ≡ machine_count card
        count =
            ap suc (sym (accepted_machines new two.second_accepted).count ∙ ap length two.machines)
            ∙ length_merged joined_machine (machines_of card) i j two.order joins.within
            ∙ (accepted_machines card two.first_accepted).count

    -- whatever is asked for
    module _ {Meant : List Machine → List Pair → Type 0} {bestOn : ProfileOrder → List ℕ → Option Contender} (asked : Searches Meant bestOn) where
      -- the same candidates are meant, and the best of them is the same
      pub same_meant : (c : List Pair) → Meant (machines_of new) c ↔ Meant (machines_of card) c
      same_meant c = rw two.machines (keeps_meant joins asked c)

      pub same_best : (ranking : List ℕ) (c : List Pair) → IsBestBy (Beats (joined_ranking i j u ranking) (machines_of new)) (Meant (machines_of new)) c ↔ IsBestBy (Beats ranking (machines_of card)) (Meant (machines_of card)) c
      same_best ranking c = rw two.machines (best_joined joins n asked ranking c)

      module _ (ranking : List ℕ) (is : is_ranking (machine_count card) ranking ≡ true) where
        pub old_best : BestOf (machines_of card) (Beats ranking (machines_of card)) (Meant (machines_of card)) (bestOn (harmonic ranking) card)
        old_best = best_of_ranked ranking (rw (accepted_machines card two.first_accepted).count is) (asked.best_of_all (ranking_agrees ranking) card two.first_accepted)

        new_best : BestOf (machines_of new) (Beats (joined_ranking i j u ranking) (machines_of new)) (Meant (machines_of new)) (bestOn (harmonic (joined_ranking i j u ranking)) new)
        new_best =
            best_of_ranked (joined_ranking i j u ranking) (rw (accepted_machines new two.second_accepted).count (new_ranking_lem ranking is))
            (asked.best_of_all (ranking_agrees (joined_ranking i j u ranking)) new two.second_accepted)

        -- so what the definitions find is the same
        pub best_of_joined : bestOn (harmonic (joined_ranking i j u ranking)) new ≡ joined_contender i j (bestOn (harmonic ranking) card)
        best_of_joined = go (bestOn (harmonic ranking) card) refl
          where
            go : (b : Option Contender) → bestOn (harmonic ranking) card ≡ b → bestOn (harmonic (joined_ranking i j u ranking)) new ≡ joined_contender i j b
            go none q = new_best.none_exactly.1 (λ c x. old_best.none_exactly.0 q c ((same_meant c).0 x))
            go (some b) q =
                let c = b.candidate in
                let best_here = old_best.is_best b q in
                new_best.only_it c ((same_best ranking c).1 best_here)
                ∙ ap (λ (v : List ℕ). some (record { candidate = c; profile = v })) (added_profile c (asked.candidate best_here.candidate).1 ∙ ap (merged_counts i j) (sym (old_best.its_profile b q)))
