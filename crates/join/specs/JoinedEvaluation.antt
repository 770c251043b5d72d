-- Evaluation of a candidate, given as bytes, on a card and on the one with two of its machines joined. Assumes nothing.
use Rattle.std.specs.Prelude.{◌≡◌, ◌&&◌, ◌++◌, ◌+◌, ◌-◌, ◌*◌, ◌%◌, ◌<◌, ◌≤◌}
use Rattle.basics.proofs.Words.{refl, sym, ap, ◌∙◌, Bool, true, false, List, append_assoc, ℕ, suc, arith, length, replicate, length-append, length-replicate, replicate-append-replicate, eqb, leb, all_of, left, right, all_at, each_at}
use Rattle.machine.specs.declared.Pair.{Pair}
use Rattle.machine.specs.Symbols.{is_pair}
use Rattle.ranking.specs.declared.Profile.{Profile}
use Rattle.card.specs.Layout.{symbol_count}
use Rattle.card.specs.Card.{machines_of}
use Rattle.card.specs.Accepted.{accepted}
use Rattle.candidate.specs.declared.Evaluation.{Evaluation}
use Rattle.candidate.specs.Candidates.{pairs_of, is_complete, profile_of}
use Rattle.candidate.specs.Evaluating.{sound_pair, sound_candidate, profile_with, evaluating}
use Rattle.product.specs.Laws.Accepted.{accepted_machines}
use Rattle.product.specs.Laws.BestCandidate.{profile_length}
use Rattle.join.specs.Merged.{merged_counts}
use Rattle.join.specs.JoinTheorem.{JoinKeeps, join_keeps}
use Rattle.join.specs.BestJoined.{TwoCards, card_joins}
use Rattle.join.specs.Laws.Merged.{length_merged, merged_append}

-- the second evaluates a candidate as the first does: the same number, pair count and word length; and where nothing is refused, the first one's profile
-- with the counts of the machines i and j added
pub record SameEvaluation (i j : ℕ) (r s : Evaluation) : Type 0 where
  pub number : s.number ≡ r.number
  pub profile : r.number ≡ 0 → s.profile ≡ profile_with (merged_counts i j r.profile.counts)
  pub pairs : s.pairs ≡ r.pairs
  pub word_length : s.word_length ≡ r.word_length

-- the unused places stay at the end
added_counts : (i j : ℕ) (v : List ℕ) → i < j → j < length v → length v ≤ 6 → merged_counts i j v ++ replicate (6 - length (merged_counts i j v)) 0 ≡ (profile_with (merged_counts i j (profile_with v).counts)).counts
added_counts i j v h k few =
    let m = merged_counts i j v in
    let z = replicate {A = ℕ} (6 - length v) 0 in
    let whole : merged_counts i j (v ++ z) ≡ m ++ z = merged_append (λ m n. m + n) v z i j h k in
    let short : suc (length m) ≡ length v = length_merged (λ m n. m + n) v i j h k in
    let size : length (m ++ z) ≡ length m + (6 - length v) = length-append m z ∙ ap (λ n. length m + n) (length-replicate {A = ℕ} (6 - length v) 0) in
    let places : 6 - length m ≡ (6 - length v) + (6 - length (m ++ z)) = omega (arith, short, size, few) in
    ap (λ n. m ++ replicate {A = ℕ} n 0) places
    ∙ ap (λ (l : List ℕ). m ++ l) (sym (replicate-append-replicate (6 - length v) (6 - length (m ++ z)) 0))
    ∙ sym (append_assoc m z (replicate (6 - length (m ++ z)) 0))
    ∙ ap (λ (l : List ℕ). l ++ replicate (6 - length l) 0) (sym whole)

module _ {card new : List ℕ} {i j : ℕ} (two : TwoCards i j card new) (bytes : List ℕ) where
  abbrev c : List Pair
  c = pairs_of bytes

  abbrev S : ℕ
  S = symbol_count card

  keeps : JoinKeeps i j (machines_of card)
  keeps = join_keeps (card_joins card two.first_accepted i j two.order two.within)

  are_pairs : sound_candidate S bytes ≡ true → all_of is_pair c ≡ true
  unfolding sound_candidate
  are_pairs e =
      let each = right (eqb (length bytes % 2) 0 && leb (length bytes) (2 * 3199)) (all_of (sound_pair S) c) e in
      let none : Pair = record { input = 0; output = 0 } in
      each_at is_pair c none (λ k h. left _ _ (all_at (sound_pair S) c none each k h))

  added : sound_candidate S bytes ≡ true → is_complete (machines_of card) c ≡ true
      → profile_with (profile_of (machines_of new) c) ≡ profile_with (merged_counts i j (profile_with (profile_of (machines_of card) c)).counts)
  added e t =
      let v = profile_of (machines_of card) c in
      let count = profile_length (machines_of card) c ∙ (accepted_machines card two.first_accepted).count in
      let q = ap (λ (ms : List _). profile_of ms c) two.machines ∙ keeps.profile c (are_pairs e) t in
      ap (λ (l : List ℕ). profile_with l) q
      ∙ ap {B = Profile} (λ (l : List ℕ). record { counts = l }) (added_counts i j v two.order (omega (arith, count, two.within)) (omega (arith, count, (accepted card two.first_accepted).head)))

  pub same_evaluation : SameEvaluation i j (evaluating card bytes) (evaluating new bytes)
  unfolding evaluating
  same_evaluation = go (sound_candidate S bytes) refl (is_complete (machines_of card) c) refl
    where
      sound : sound_candidate (symbol_count new) bytes ≡ sound_candidate S bytes
      sound = ap (λ n. sound_candidate n bytes) two.symbols

      complete : sound_candidate S bytes ≡ true → is_complete (machines_of new) c ≡ is_complete (machines_of card) c
      complete e = ap (λ (ms : List _). is_complete ms c) two.machines ∙ keeps.complete c (are_pairs e)

      go : (a : Bool) → sound_candidate S bytes ≡ a → (b : Bool) → is_complete (machines_of card) c ≡ b → SameEvaluation i j (evaluating card bytes) (evaluating new bytes)
      go false e b t = rw (two.first_accepted, two.second_accepted, sound, e) (record { number = refl; profile = λ z. absurd (omega arith); pairs = refl; word_length = refl })
      go true e false t = rw (two.first_accepted, two.second_accepted, sound, complete e, e, t) (record { number = refl; profile = λ z. absurd (omega arith); pairs = refl; word_length = refl })
      go true e true t = rw (two.first_accepted, two.second_accepted, sound, complete e, e, t) (record { number = refl; profile = λ z. added e t; pairs = refl; word_length = refl })
