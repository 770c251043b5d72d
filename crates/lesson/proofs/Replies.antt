-- How a line's reply follows from what parsing and the optimizer answer. Assumes nothing.
use Rattle.std.specs.Prelude.{◌≡◌, ◌++◌, ◌<◌}
use Rattle.basics.proofs.Words.{refl, ap, ◌∙◌, Bool, List, Option, some, none, ℕ, zero, suc, arith, length, take, drop, replicate, length-append, length-drop, eqb, take-append_seam, suc-ne-zero, ne_eqb}
use Rattle.refusals.specs.declared.Refusal.{Refusal}
use Rattle.refusals.specs.Refusals.{number_of}
use Rattle.refusals.proofs.Refusals.{number_positive}
use Rattle.ranking.specs.Profiles.{zero_profile}
use Rattle.candidate.specs.declared.Evaluated.{Evaluated}
use Rattle.candidate.specs.declared.Evaluation.{Evaluation}
use Rattle.candidate.specs.Evaluating.{as_evaluation}
use Rattle.card.specs.Layout.{machine_count}
use Rattle.product.specs.Optimizing.{optimized, optimized_answer}
use Rattle.std.specs.Prelude.{Some, None, Ok, Err}
use Rattle.lines.specs.declared.Parsed.{Parsed}
use Rattle.writing.specs.Buffers.{at_front}
use Rattle.lines.specs.Parsing.{Request, parsed_answer, ranking_of, word_of}
use Rattle.writing.specs.Writing.{bad_line, line_of}
use Rattle.lesson.specs.Printed.{best_line, reply, Prints}
use Rattle.lesson.specs.Tally.{counts_of, best_counts, request_counts, told}

-- a text that is the reply, written to the front of a slice
pub prints : {text other old new : List ℕ} {r : ℕ} → text ≡ other → r ≡ length text → new ≡ at_front text old → length new ≡ length old → Prints other old new r
prints {text} {other} {old} {new} {r} e size bytes same =
    let m : length new ≡ length (at_front text old) = ap length bytes in
    record {
      size = size ∙ ap length e;
      bytes = bytes ∙ ap (λ (t : List ℕ). at_front t old) e;
      fits = omega (arith, simp (length-append, length-drop) at m);
    }

pub best_line_lem : (card ranking word : List ℕ) {answer after : List ℕ} {K w a v : ℕ} {evaluation : Evaluation} → K ≡ machine_count card
    → evaluation ≡ optimized card ranking word w a → after ≡ optimized_answer card ranking word v answer
    → w ≡ 25600 → v ≡ 25600 → a ≡ 6398 → answer ≡ replicate 6398 0 → line_of K evaluation after ≡ best_line card ranking word
unfolding best_line
best_line_lem card ranking word {answer} {after} {K} {w} {a} {v} {evaluation} k e f hw hv ha h =
    go (replicate 6398 0) h
  where
    go : (zeros : List ℕ) → answer ≡ zeros → line_of K evaluation after ≡ line_of (machine_count card) (optimized card ranking word 25600 6398) (optimized_answer card ranking word 25600 zeros)
    go zeros z = cc (k, e, f, hw, hv, ha)

pub bad_reply : (card : List ℕ) (o : Option Request) → parsed_answer o ≡ None → bad_line ≡ reply card o
bad_reply card none e = refl
bad_reply card (some request) e = let z : ◌≡◌ {A = ℕ} 0 1 = cc in absurd (omega arith)

-- a text written to the front of a slice stands there
pub front : (text old new : List ℕ) (n : ℕ) → n ≡ length text → new ≡ at_front text old → take n new ≡ text
front text old new n e f = let s : take (length text) (text ++ drop (length text) old) ≡ text = take-append_seam text _ in rw (e, f) s

pub good_reply : (card : List ℕ) (o : Option Request) (rs₀ ws₀ : List ℕ) {p : Parsed} {rs ws : List ℕ} → parsed_answer o ≡ Some p
    → rs ≡ at_front (ranking_of o) rs₀ → ws ≡ at_front (word_of o) ws₀ → best_line card (take p.ranking rs) (take p.word ws) ≡ reply card o
good_reply card none rs₀ ws₀ e f g = let z : ◌≡◌ {A = ℕ} 0 1 = cc in absurd (omega arith)
good_reply card (some request) rs₀ ws₀ {p} {rs} {ws} e f g =
    let hn : p.ranking ≡ length request.ranking = cc in
    let hm : p.word ≡ length request.word = cc in
    rw (front request.ranking rs₀ rs p.ranking hn f, front request.word ws₀ ws p.word hm g) refl

-- the counts of an answer, and of a line's
pub counts_there : (e : Evaluated) → told (Some e.profile.counts) ≡ counts_of (as_evaluation (Ok e))
unfolding counts_of
counts_there e = refl

pub counts_missing : (r : Refusal) → told None ≡ counts_of (as_evaluation (Err r))
unfolding counts_of
counts_missing r = go (number_of r) (number_positive r)
  where
    go : (n : ℕ) → 0 < n → ◌≡◌ {A = Option (List ℕ)} none (elim n as (λ _. Option (List ℕ)) [ zero ↦ some zero_profile.counts | suc n ↦ none ])
    go zero h = absurd (omega arith)
    go (suc n) h = refl

pub best_counts_lem : (card ranking word : List ℕ) {w a : ℕ} {evaluation : Evaluation} → evaluation ≡ optimized card ranking word w a → w ≡ 25600 → a ≡ 6398
    → counts_of evaluation ≡ best_counts card ranking word
best_counts_lem card ranking word {w} {a} {evaluation} e hw ha =
    ap counts_of e
    ∙ ap (λ (k : ℕ). counts_of (optimized card ranking word k a)) hw
    ∙ ap (λ (k : ℕ). counts_of (optimized card ranking word 25600 k)) ha

pub bad_counts : (card : List ℕ) (o : Option Request) → parsed_answer o ≡ None → none ≡ request_counts card o
bad_counts card none e = refl
bad_counts card (some request) e = let z : ◌≡◌ {A = ℕ} 0 1 = cc in absurd (omega arith)

pub good_counts : (card : List ℕ) (o : Option Request) (rs₀ ws₀ : List ℕ) {p : Parsed} {rs ws : List ℕ} → parsed_answer o ≡ Some p
    → rs ≡ at_front (ranking_of o) rs₀ → ws ≡ at_front (word_of o) ws₀ → best_counts card (take p.ranking rs) (take p.word ws) ≡ request_counts card o
good_counts card none rs₀ ws₀ e f g = let z : ◌≡◌ {A = ℕ} 0 1 = cc in absurd (omega arith)
good_counts card (some request) rs₀ ws₀ {p} {rs} {ws} e f g =
    let hn : p.ranking ≡ length request.ranking = cc in
    let hm : p.word ≡ length request.word = cc in
    rw (front request.ranking rs₀ rs p.ranking hn f, front request.word ws₀ ws p.word hm g) refl
