use Rattle.std.specs.Prelude.{◌≡◌}
use Rattle.std.specs.Result.{is_ok}
use Rattle.std.proofs.Common.{Result}
use Rattle.basics.proofs.Words.{sym, ap, ap₂, ◌∙◌, List, ℕ, lit<, clash}
use Rattle.refusals.specs.declared.Refusal.{Refusal}
use Rattle.refusals.specs.Refusals.{refuse, checked_number}
use Rattle.card.specs.Layout.{symbol_count}
use Rattle.card.specs.Card.{machines_of}
use Rattle.candidate.specs.Candidates.{pairs_of, spelled, is_complete}
use Rattle.candidate.specs.Evaluating.{sound_candidate}
use Rattle.product.specs.Best.{same_word}
use Rattle.candidate.specs.Laws.Pairs.{sound_shape}
use Rattle.rows.specs.Tableau.{candidate_of}
use Rattle.rows.proofs.Rows.{candidate_bytes, not_sound, not_complete, word_decides, passes_where}
use Rattle.rows.proofs.is_for_word.Goals as goal
use Rattle.rows.proofs.is_for_word.Goals.{then-is_ok, else-is_ok}

-- the tests of the candidate's bytes are those of the row's candidate
is_sound : {A : Type 0} (card row : List ℕ) (r : Result A Refusal) {S : ℕ} {l : List ℕ} → S ≡ symbol_count card → l ≡ candidate_of row → checked_number r ≡ refuse 13 (sound_candidate S l)
    → is_ok r ≡ sound_candidate (symbol_count card) (candidate_of row)
is_sound card row r s e n = passes_where r 13 (sound_candidate (symbol_count card) (candidate_of row)) (lit< tt) (n ∙ ap₂ (λ (S : ℕ) (l : List ℕ). refuse 13 (sound_candidate S l)) s e)

completes : {A : Type 0} (card row : List ℕ) (r : Result A Refusal) {l : List ℕ} → l ≡ candidate_of row → checked_number r ≡ refuse 14 (is_complete (machines_of card) (pairs_of l))
    → is_ok r ≡ is_complete (machines_of card) (pairs_of (candidate_of row))
completes card row r e n =
    passes_where r 14 (is_complete (machines_of card) (pairs_of (candidate_of row))) (lit< tt) (n ∙ ap (λ (l : List ℕ). refuse 14 (is_complete (machines_of card) (pairs_of l))) e)

pub spells-requires : goal.spells-requires
spells-requires c =
    let card = c.args.card.now in
    let row = c.args.row.now in
    let sound = c.is_ok.ensures.value ∙ is_sound card row c.check_candidate.result c.symbol_count.ensures (candidate_bytes row) c.check_candidate.ensures in
    elim c.if-is_ok.branch [
      | then-is_ok w ↦ rw (candidate_bytes row) (sound_shape (symbol_count card) (candidate_of row) (sym sound ∙ w.if-is_ok.true)).0
      | else-is_ok w ↦ absurd (clash c.if-is_ok-2.true (w.value-is ∙ w.if-is_ok.false))
    ]

pub returns-then-is_ok-2 : goal.returns-then-is_ok-2
returns-then-is_ok-2 c =
    let card = c.args.card.now in
    let row = c.args.row.now in
    let sound = c.is_ok.ensures.value ∙ is_sound card row c.check_candidate.result c.symbol_count.ensures (candidate_bytes row) c.check_candidate.ensures in
    elim c.if-is_ok.branch [
      | then-is_ok w ↦
          let complete = w.is_ok-then-is_ok.ensures.value ∙ completes card row w.score.result (candidate_bytes row) w.score.ensures.checked in
          c.spells.ensures
          ∙ ap (λ (l : List ℕ). same_word (spelled (pairs_of l)) c.args.word.now) (candidate_bytes row)
          ∙ sym (word_decides card c.args.word.now row (sym sound ∙ w.if-is_ok.true) (sym complete ∙ sym w.value-is ∙ c.if-is_ok-2.true))
      | else-is_ok w ↦ absurd (clash c.if-is_ok-2.true (w.value-is ∙ w.if-is_ok.false))
    ]

pub returns-else-is_ok-2 : goal.returns-else-is_ok-2
returns-else-is_ok-2 c =
    let card = c.args.card.now in
    let row = c.args.row.now in
    let sound = c.is_ok.ensures.value ∙ is_sound card row c.check_candidate.result c.symbol_count.ensures (candidate_bytes row) c.check_candidate.ensures in
    elim c.if-is_ok.branch [
      | then-is_ok w ↦
          let complete = w.is_ok-then-is_ok.ensures.value ∙ completes card row w.score.result (candidate_bytes row) w.score.ensures.checked in
          c.if-is_ok-2.false ∙ sym (not_complete card c.args.word.now row (sym sound ∙ w.if-is_ok.true) (sym complete ∙ sym w.value-is ∙ c.if-is_ok-2.false))
      | else-is_ok w ↦ c.if-is_ok-2.false ∙ sym (not_sound card c.args.word.now row (sym sound ∙ w.if-is_ok.false))
    ]
