-- What a tableau promises that is not refused. Assumes nothing.
use Rattle.std.specs.Prelude.{◌≡◌, ◌&&◌, ◌≤◌}
use Rattle.basics.proofs.Words.{true, List, ℕ, length, drop, eqb, leb, ltb, all_of, left, right, every_at}
use Rattle.std.proofs.Common.{leb-true, ltb-true}
use Rattle.layout.specs.Layout.{laid_out}
use Rattle.layout.specs.LaidOut.{layout_told}
use Rattle.card.specs.Layout.{symbol_count}
use Rattle.card.specs.Card.{machines_of}
use Rattle.candidate.specs.Candidates.{pairs_of, spelled, is_complete}
use Rattle.candidate.specs.Evaluating.{sound_candidate}
use Rattle.product.specs.Best.{same_word}
use Rattle.rows.specs.Tableau.{row_count, claimed_row, row_of, counts_of, candidate_of, every_row, sound_row, sound_tableau}
use Rattle.rows.specs.Reading.{Readable, CompleteRow}
use Rattle.rows.specs.Judging.{is_for_word}

-- where refusal 19 is not met the rows can be read, and there is one
pub record SoundTableau (tableau : List ℕ) : Type 0 where
  pub readable : Readable tableau
  pub some_row : 1 ≤ row_count tableau

-- a row that is sound has its counts
row_counts : (K : ℕ) (row : List ℕ) → sound_row K row ≡ true → 12 ≤ length row
unfolding sound_row
row_counts K row t = leb-true 12 (length row) (left (leb 12 (length row)) (all_of (λ n. eqb n 0) (drop K (counts_of row))) t)

pub tableau_told : (K : ℕ) (tableau : List ℕ) → sound_tableau K tableau ≡ true → SoundTableau tableau
unfolding sound_tableau
tableau_told K tableau t =
    let R = row_count tableau in
    let a = leb 2 (length tableau) in
    let b = leb 1 R in
    let c = leb R 32 in
    let d = ltb (claimed_row tableau) R in
    let e = laid_out R tableau in
    let f = every_row (sound_row K) tableau in
    let ade = left (a && (b && c && d) && e) f t in
    let ad = left (a && (b && c && d)) e ade in
    let bd = right a (b && c && d) ad in
    let bc = left (b && c) d bd in
    record {
      readable = record {
        two = leb-true 2 (length tableau) (left a (b && c && d) ad);
        few_rows = leb-true R 32 (right b c bc);
        claimed = ltb-true (claimed_row tableau) R (right (b && c) d bd);
        layout = layout_told R tableau (right (a && (b && c && d)) e ade);
        counts = λ i h. row_counts K (row_of tableau i) (every_at (λ j. sound_row K (row_of tableau j)) R (right (a && (b && c && d) && e) f t) i h);
      };
      some_row = leb-true 1 R (left b c bc);
    }

-- what passes 20 can be scored
pub row_complete : (card word row : List ℕ) → is_for_word card word row ≡ true → CompleteRow card row
unfolding is_for_word
row_complete card word row t =
    let a = sound_candidate (symbol_count card) (candidate_of row) in
    let b = is_complete (machines_of card) (pairs_of (candidate_of row)) in
    let ab = left (a && b) (same_word (spelled (pairs_of (candidate_of row))) word) t in
    record { sound = left a b ab; complete = right a b ab }
