-- Laws of the texts that are printed: their parts, their lengths. Assumes nothing.
use Rattle.std.specs.Prelude.{◌≡◌, ◌∷◌, ◌++◌, ◌+◌, ◌-◌, ◌*◌, ◌<◌, ◌≤◌}
use Rattle.basics.specs.Words.{refl, ap, sym, ◌∙◌, List, [], ℕ, zero, suc, zero-le, arith, length, get_or, take, drop, length-append, length-drop, drop_of_length-le, lit≤, suc-ne-zero, not-suc-le-zero, le_of_suc-le-suc, mul-suc, mul-le-mul_left, joined}
use Rattle.candidate.specs.declared.Evaluation.{Evaluation}
use Rattle.candidate.specs.Candidates.{pairs_of}
use Rattle.std.specs.Simd.{first_chunks}
use Rattle.writing.specs.Text.{text_of}
use Rattle.writing.specs.Buffers.{Below}
use Rattle.writing.specs.Decimal.{decimal}
use Rattle.writing.specs.Writing.{next_count, with_commas, with_line_end, pair_text, pairs_text, refused_line, accepted_line, line_of, answered_line, total_line, closing_lines}
use Rattle.writing.proofs.Lists.{rest_cons}
use Rattle.writing.proofs.Cutting.{part_rest}
use Rattle.writing.proofs.Decimals.{decimal_length}
use Rattle.writing.proofs.Writes.{Ahead, ahead_room}

-- lengths
pub next_count_length : (n : ℕ) → length (next_count n) ≡ 1 + length (decimal n)
unfolding next_count
next_count_length n = omega arith

pub pair_length : (x y : ℕ) → length (pair_text x y) ≡ 2 + length (decimal x) + length (decimal y)
unfolding pair_text
pair_length x y = simp length-append (omega arith)

pub refused_length : (n : ℕ) → length (refused_line n) ≡ 9 + length (decimal n)
unfolding refused_line
refused_length n = simp length-append (omega arith)

-- a byte has at most three digits, a 16-bit number at most five, one of 32 bits at most ten
pub byte_length : (n : ℕ) → n < 256 → length (decimal n) ≤ 3
byte_length n h = decimal_length 2 n (omega arith)

pub count_length : (n : ℕ) → n < 65536 → length (decimal n) ≤ 5
count_length n h = decimal_length 4 n (omega arith)

number_length : (n : ℕ) → n < 4294967296 → length (decimal n) ≤ 10
number_length n h = decimal_length 9 n (omega arith)

pub refused_fits : (n : ℕ) → n < 256 → length (refused_line n) ≤ 12
refused_fits n h = omega (arith, refused_length n, byte_length n h)

-- a text for each element, from a place on: what is to be written next, and that it fits
module _ {A : Type 0} (f : A → List ℕ) (l : List A) (i : ℕ) where
  pub joined_next : (d : A) → i < length l → joined f (drop i l) ≡ f (get_or l i d) ++ joined f (drop (i + 1) l)
  unfolding joined
  joined_next d h = rw (rest_cons l i d h)

  pub joined_end : length l ≤ i → joined f (drop i l) ≡ []
  unfolding joined
  joined_end h = rw drop_of_length-le

  pub joined_room : {next at : ℕ} {out whole old : List ℕ} (d : A) → i < length l → Ahead (joined f (drop i l)) next out whole at old → at + length whole ≤ length old
      → next + length (f (get_or l i d)) ≤ length out
  joined_room d h = ahead_room (f (get_or l i d)) (joined f (drop (i + 1) l)) (joined_next d h)

-- no count; the first count, and the others
pub counts_none : (l : List ℕ) → length l ≡ 0 → with_commas l ≡ []
unfolding with_commas
counts_none [] h = refl
counts_none (n ∷ ns) h = absurd (suc-ne-zero (length ns) h)

pub counts_first : (l : List ℕ) → (length l ≡ 0 → ⊥) → with_commas l ≡ decimal (get_or l 0 0) ++ joined next_count (take (length l - 1) (drop 1 l))
unfolding with_commas
counts_first [] h = absurd (h refl)
counts_first (n ∷ ns) h = rw (part_rest (n ∷ ns) 1)

pub counts_first_length : (l : List ℕ) → (length l ≡ 0 → ⊥)
    → length (with_commas l) ≡ length (decimal (get_or l 0 0)) + length (joined next_count (take (length l - 1) (drop 1 l)))
counts_first_length l h = ap length (counts_first l h) ∙ length-append (decimal (get_or l 0 0)) (joined next_count (take (length l - 1) (drop 1 l)))

-- the pairs
pairs_cons : (x y : ℕ) (l : List ℕ) → pairs_text (x ∷ y ∷ l) ≡ pair_text x y ++ pairs_text l
unfolding pairs_text pairs_of joined
pairs_cons x y l = refl

pairs_none : (l : List ℕ) → length l ≤ 1 → pairs_text l ≡ []
unfolding pairs_text pairs_of joined
pairs_none [] h = refl
pairs_none (x ∷ []) h = refl
pairs_none (x ∷ y ∷ l) h = absurd (not-suc-le-zero (le_of_suc-le-suc h))

-- a pair in each chunk of two bytes
abbrev pub chunk_text : List ℕ → List ℕ
chunk_text p = pair_text (get_or p 0 0) (get_or p 1 0)

pub chunks_pairs : (k : ℕ) (l : List ℕ) → 2 * k ≤ length l → length l < 2 * k + 2 → joined chunk_text (first_chunks 2 k l) ≡ pairs_text l
unfolding joined
chunks_pairs zero l h m = sym (pairs_none l (omega arith))
chunks_pairs (suc k) [] h m = absurd (omega arith)
chunks_pairs (suc k) (x ∷ []) h m = absurd (omega arith)
chunks_pairs (suc k) (x ∷ y ∷ l) h m =
    ap (λ (t : List ℕ). pair_text x y ++ t) (chunks_pairs k l (omega arith) (omega arith)) ∙ sym (pairs_cons x y l)

-- numbers of at most so many digits, six at most, with commas between them
abbrev Digits : ℕ → List ℕ → Type 0
Digits most l = (i : ℕ) → length (decimal (get_or l i 0)) ≤ most

next_counts_fit : (most : ℕ) (l : List ℕ) → Digits most l → length (joined next_count l) ≤ (most + 1) * length l
unfolding joined
next_counts_fit most [] h = zero-le
next_counts_fit most (n ∷ ns) h =
    let rest = next_counts_fit most ns (λ i. h (suc i)) in
    omega (arith, length-append (next_count n) (joined next_count ns), next_count_length n, h 0, mul-suc (most + 1) (length ns))

counts_fit : (most : ℕ) (l : List ℕ) → Digits most l → length l ≤ 6 → length (with_commas l) ≤ 6 * most + 5
unfolding with_commas
counts_fit most [] h six = zero-le
counts_fit most (n ∷ ns) h six =
    let rest = next_counts_fit most ns (λ i. h (suc i)) in
    let five : (most + 1) * length ns ≤ (most + 1) * 5 = mul-le-mul_left (most + 1) (omega arith) in
    omega (arith, length-append (decimal n) (joined next_count ns), h 0)

-- the longest line: six counts of five digits with five commas, at most four bytes for each byte of the answer, the line end
pairs_fit : (l : List ℕ) → ((i : ℕ) → get_or l i 0 < 256) → length (pairs_text l) ≤ 4 * length l
pairs_fit [] h = rw (pairs_none [] zero-le) zero-le
pairs_fit (x ∷ []) h = rw (pairs_none (x ∷ []) (lit≤ tt)) zero-le
pairs_fit (x ∷ y ∷ l) h =
    let rest = pairs_fit l (λ i. h (suc (suc i))) in
    rw (pairs_cons x y l) (omega (arith, length-append (pair_text x y) (pairs_text l), pair_length x y, byte_length x (h 0), byte_length y (h 1)))

module _ (counts bytes : List ℕ) where
  pub accepted_length : length (accepted_line counts bytes) ≡ length (with_commas counts) + length (pairs_text bytes) + 1
  unfolding accepted_line
  accepted_length = simp length-append

  pub accepted_fits : Below 65536 counts → ((i : ℕ) → get_or bytes i 0 < 256) → length counts ≤ 6
      → length (accepted_line counts bytes) ≤ 36 + 4 * length bytes
  accepted_fits c b six = omega (arith, accepted_length, counts_fit 5 counts (λ i. count_length (get_or counts i 0) (c i)) six, pairs_fit bytes b)

-- the line of a refusal, and of an accepted answer
module _ (K : ℕ) (evaluation : Evaluation) (answer : List ℕ) where
  pub line_refused : (evaluation.number ≡ 0 → ⊥) → line_of K evaluation answer ≡ refused_line evaluation.number
  unfolding line_of
  line_refused h = go evaluation.number h
    where
      go : (n : ℕ) → (n ≡ 0 → ⊥) →
          (elim n as (λ _. List ℕ) [ zero ↦ accepted_line (take K evaluation.profile.counts) (take (2 * evaluation.pairs) answer) | suc n ↦ refused_line (suc n) ]) ≡ refused_line n
      go zero h = absurd (h refl)
      go (suc n) h = refl

  pub line_accepted : evaluation.number ≡ 0 → line_of K evaluation answer ≡ accepted_line (take K evaluation.profile.counts) (take (2 * evaluation.pairs) answer)
  unfolding line_of
  line_accepted h = rw (line_of, h)

-- the totals: none, or with commas
module _ (l : List ℕ) where
  pub total_none : length l ≡ 0 → total_line l ≡ with_line_end (text_of "total")
  unfolding total_line
  total_none h = go l h
    where
      go : (l : List ℕ) → length l ≡ 0 → total_line l ≡ with_line_end (text_of "total")
      go [] h = refl
      go (n ∷ ns) h = absurd (suc-ne-zero (length ns) h)

  pub total_some : (length l ≡ 0 → ⊥) → total_line l ≡ with_line_end (text_of "total " ++ with_commas l)
  unfolding total_line
  total_some h = go l h
    where
      go : (l : List ℕ) → (length l ≡ 0 → ⊥) → total_line l ≡ with_line_end (text_of "total " ++ with_commas l)
      go [] h = absurd (h refl)
      go (n ∷ ns) h = refl

  pub total_none_length : length l ≡ 0 → length (total_line l) ≡ 6
  total_none_length h = ap length (total_none h)

  pub total_some_length : (length l ≡ 0 → ⊥) → length (total_line l) ≡ 7 + length (with_commas l)
  total_some_length h = ap length (total_some h) ∙ simp length-append (omega arith)

  -- `total` at least
  pub total_least : 6 ≤ length (total_line l)
  total_least = go l refl
    where
      go : (m : List ℕ) → l ≡ m → 6 ≤ length (total_line l)
      go [] e = omega (arith, total_none_length (ap length e))
      go (n ∷ ns) e = omega (arith, total_some_length (λ h. suc-ne-zero (length ns) (sym (ap length e) ∙ h)))

-- the closing lines fit 120 bytes
pub answered_length : (a r : ℕ) → length (answered_line a r) ≡ 19 + length (decimal a) + length (decimal r)
unfolding answered_line
answered_length a r = simp length-append (omega arith)

total_fits : (l : List ℕ) → Below 4294967296 l → length l ≤ 6 → length (total_line l) ≤ 72
unfolding total_line
total_fits [] h six = lit≤ tt
total_fits (n ∷ ns) h six =
    omega (arith, total_some_length (n ∷ ns) (suc-ne-zero (length ns)), counts_fit 10 (n ∷ ns) (λ i. number_length (get_or (n ∷ ns) i 0) (h i)) six)

pub closing_length : (a r : ℕ) (totals : List ℕ) → length (closing_lines a r totals) ≡ length (answered_line a r) + length (total_line totals)
unfolding closing_lines
closing_length a r totals = length-append (answered_line a r) (total_line totals)

pub closing_fits : (a r : ℕ) (totals : List ℕ) → a < 4294967296 → r < 4294967296 → Below 4294967296 totals → length totals ≤ 6 → length (closing_lines a r totals) ≤ 120
closing_fits a r totals ha hr h six =
    omega (arith, closing_length a r totals, answered_length a r, number_length a ha, number_length r hr, total_fits totals h six)
