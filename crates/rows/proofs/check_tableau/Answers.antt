use Rattle.std.specs.Prelude.{◌≡◌}
use Rattle.basics.proofs.Words.{ap, ◌∙◌, true, List, ℕ, arith, lit<, every_at}
use Rattle.refusals.specs.Refusals.{refuse, checked_number}
use Rattle.refusals.specs.declared.Refusal.{Refusal}
use Rattle.std.proofs.Common.{Result, Ok}
use Rattle.refusals.proofs.Refusals.{was_true}
use Rattle.card.specs.Layout.{machine_count}
use Rattle.card.specs.Accepted.{accepted}
use Rattle.rows.specs.Tableau.{row_count, row_of, every_row, sound_tableau}
use Rattle.rows.specs.Judging.{is_for_word}
use Rattle.rows.specs.Laws.{tableau_told, row_complete}
use Rattle.rows.proofs.check_tableau.Goals as goal

-- a tableau whose layout passed is sound for the card's machines
sound : (card tableau : List ℕ) {K : ℕ} {answer : Result (Unit {0}) Refusal} → K ≡ machine_count card → checked_number answer ≡ refuse 19 (sound_tableau K tableau) → answer ≡ Ok tt → sound_tableau (machine_count card) tableau ≡ true
sound card tableau k n told = was_true told 19 (sound_tableau (machine_count card) tableau) (lit< tt) (n ∙ ap (λ (K : ℕ). refuse 19 (sound_tableau K tableau)) k)

pub check_layout-requires : goal.check_layout-requires
check_layout-requires c = omega (arith, (accepted c.args.card.now c.requires).head, c.machine_count.ensures)

pub check_candidates-requires : goal.check_candidates-requires
check_candidates-requires c =
    (c.requires, (tableau_told (machine_count c.args.card.now) c.args.tableau.now (sound c.args.card.now c.args.tableau.now c.machine_count.ensures c.check_layout.ensures c.in_ok-check_layout.was)).readable)

pub check_profiles-requires : goal.check_profiles-requires
check_profiles-requires c =
    let card = c.args.card.now in
    let tableau = c.args.tableau.now in
    let for_word = was_true c.in_ok-check_candidates.was 20 (every_row (is_for_word card c.args.word.now) tableau) (lit< tt) c.check_candidates.ensures in (
      c.requires,
      (tableau_told (machine_count card) tableau (sound card tableau c.machine_count.ensures c.check_layout.ensures c.in_ok-check_layout.was)).readable,
      λ i h. row_complete card c.args.word.now (row_of tableau i) (every_at (λ j. is_for_word card c.args.word.now (row_of tableau j)) (row_count tableau) for_word i h),
    )
