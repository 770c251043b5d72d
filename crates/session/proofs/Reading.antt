-- What is read piece by piece, and what is printed after it. Assumes nothing.
use Rattle.std.specs.Prelude.{◌≡◌, ◌∷◌, ◌++◌, ◌≤◌}
use Rattle.basics.proofs.Words.{refl, ap, sym, ◌∙◌, Bool, true, false, List, [], ℕ, take, clash}
use Rattle.lines.specs.Taking.{ended_lines, held_after}
use Rattle.lines.specs.LinesOfPieces.{ended_append}
use Rattle.tally.specs.declared.Tally.{Tally}
use Rattle.lesson.specs.Tally.{is_full, line_tally, lines_tally, Fits}
use Rattle.lesson.specs.TallyLaws.{full_passed, tally_full, past_means, nothing_after, tally_append}
use Rattle.pieces.specs.Pieces.{Answers, printed_pieces}
use Rattle.pieces.proofs.Closing.{end_past}
use Rattle.session.specs.Output.{Reads}

-- nothing is read yet
pub reads_none : (card line : List ℕ) (n : ℕ) (t : Tally) → n ≤ 201 → Fits t → Reads card (take n line) t line n t true
unfolding ended_lines held_after lines_tally
reads_none card line n t h f = record { read = []; answers = record { few = h; fits = f; lines_counted = λ w. refl; bytes = λ w p. refl } }

-- one piece more
pub reads_more : {card held line line' piece : List ℕ} {n n' : ℕ} {t u u' : Tally} {v w : Bool} → Reads card held t line n u true → u.past ≡ false
    → Answers card (take n line) piece u line' n' u' w → (v ≡ true → w ≡ true) → Reads card held t line' n' u' v
reads_more {card} {held} {line} {piece = piece} {n = n} {t = t} r p a written =
    let before = r.read in
    let ended = ended_lines held before in
    let h : take n line ≡ held_after held before = r.answers.bytes refl p in
    let more = ended_append before piece held in
    record {
      read = before ++ piece;
      answers = record {
        few = a.few;
        fits = a.fits;
        lines_counted = λ e.
            a.lines_counted (written e)
            ∙ ap (λ (v : Tally). lines_tally card v (ended_lines (take n line) piece)) (r.answers.lines_counted refl)
            ∙ ap (λ (k : List ℕ). lines_tally card (lines_tally card t ended) (ended_lines k piece)) h
            ∙ sym (tally_append card t ended (ended_lines (held_after held before) piece))
            ∙ ap (lines_tally card t) (sym more.0);
        bytes = λ e q. a.bytes (written e) q ∙ ap (λ (k : List ℕ). held_after k piece) h ∙ sym more.1;
      };
    }

module _ (card : List ℕ) where
  -- a tally that is past the thousandth line is full
  lines_full : (t : Tally) (ls : List (List ℕ)) → t.past ≡ false → (lines_tally card t ls).past ≡ true → is_full (lines_tally card t ls) ≡ true
  unfolding lines_tally
  lines_full t [] p h = absurd (clash h p)
  lines_full t (l ∷ ls) p h = go (line_tally card t l).past refl (lines_full (line_tally card t l) ls)
    where
      go : (b : Bool) → (line_tally card t l).past ≡ b
          → ((line_tally card t l).past ≡ false → (lines_tally card (line_tally card t l) ls).past ≡ true → is_full (lines_tally card (line_tally card t l) ls) ≡ true)
          → is_full (lines_tally card (line_tally card t l) ls) ≡ true
      go true e i = let f = past_means card t l p e in ap is_full (nothing_after card t l ls p e ∙ tally_full card t l f) ∙ full_passed t f
      go false e i = i e h

-- what is printed after what was read
module _ {card held line : List ℕ} {n : ℕ} {t u : Tally} {w : Bool} (r : Reads card held t line n u w) (e : w ≡ true) (p : t.past ≡ false) where
  pub reads_full : u.past ≡ true → is_full u ≡ true
  reads_full q =
      let k = r.answers.lines_counted e in
      ap is_full k ∙ lines_full card t (ended_lines held r.read) p (sym (ap (λ (v : Tally). v.past) k) ∙ q)

  pub reads_text : printed_pieces card u (take n line) [] ≡ printed_pieces card (lines_tally card t (ended_lines held r.read)) (held_after held r.read) []
  reads_text = go u.past refl ∙ ap (λ (v : Tally). printed_pieces card v (held_after held r.read) []) (r.answers.lines_counted e)
    where
      go : (b : Bool) → u.past ≡ b → printed_pieces card u (take n line) [] ≡ printed_pieces card u (held_after held r.read) []
      go true q = sym (end_past card u (take n line) q (reads_full q)) ∙ end_past card u (held_after held r.read) q (reads_full q)
      go false q = ap (λ (k : List ℕ). printed_pieces card u k []) (r.answers.bytes e q)
