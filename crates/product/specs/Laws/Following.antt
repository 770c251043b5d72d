-- Walking along labels and writing the pairs: what is written, and what is left. Over any graph whose letters are the pairs and whose costs tell how
-- many of them there are.
use Rattle.std.specs.Prelude.{◌≡◌, ◌∷◌, ◌++◌, ◌+◌, ◌*◌, ◌<◌, ◌≤◌}
use Rattle.basics.specs.Words.{refl, sym, ◌∙◌, ap, List, [], append_assoc, some, ℕ, suc, arith, length, get_or, drop, set, length-append, set_at, drop-cons}
use Rattle.machine.specs.declared.Pair.{Pair}
use Rattle.candidate.specs.Candidates.{bytes_of}
use Rattle.paths.specs.Costs.{Costs, Labels}
use Rattle.paths.specs.Graph.{Graph}
use Rattle.paths.specs.Walk.{LeastTight, SizedLabels, Walking, tight_size}
use Rattle.product.specs.ProductGraph.{pairs}
use Rattle.product.specs.Laws.Preference.{length_bytes}

-- ---- writing one pair more

bytes_snoc : (ps : List Pair) (p : Pair) → bytes_of (ps ++ p ∷ []) ≡ bytes_of ps ++ p.input ∷ p.output ∷ []
unfolding bytes_of
bytes_snoc [] p = refl
bytes_snoc (q ∷ ps) p = ap (λ (l : List ℕ). q.input ∷ q.output ∷ l) (bytes_snoc ps p)

-- two elements written after a front
two_more : (front before : List ℕ) (n a b : ℕ) → length front ≡ n → n + 1 < length before
    → set (set (front ++ drop n before) n a) (n + 1) b ≡ (front ++ a ∷ b ∷ []) ++ drop (n + 2) before
two_more front before n a b h k =
    let e : suc n ≡ n + 1 = omega arith in
    let f : suc (n + 1) ≡ n + 2 = omega arith in
    let d₀ : drop n before ≡ get_or before n 0 ∷ drop (n + 1) before = rw e at (drop-cons before n 0 (omega arith)) in
    let d₁ : drop (n + 1) before ≡ get_or before (n + 1) 0 ∷ drop (n + 2) before = rw f at (drop-cons before (n + 1) 0 k) in
    let s₀ : set (front ++ drop n before) n a ≡ front ++ a ∷ drop (n + 1) before = ap (λ (l : List ℕ). set (front ++ l) n a) d₀ ∙ set_at front (get_or before n 0) (drop (n + 1) before) a n h in
    let m : length (front ++ a ∷ []) ≡ n + 1 = length-append front (a ∷ []) ∙ omega arith in
    let j : front ++ a ∷ drop (n + 1) before ≡ (front ++ a ∷ []) ++ get_or before (n + 1) 0 ∷ drop (n + 2) before = ap (λ (l : List ℕ). front ++ a ∷ l) d₁ ∙ sym (append_assoc front (a ∷ []) (get_or before (n + 1) 0 ∷ drop (n + 2) before)) in
    ap (λ (l : List ℕ). set l (n + 1) b) (s₀ ∙ j)
    ∙ set_at (front ++ a ∷ []) (get_or before (n + 1) 0) (drop (n + 2) before) b (n + 1) m
    ∙ append_assoc front (a ∷ []) (b ∷ drop (n + 2) before)
    ∙ sym (append_assoc front (a ∷ b ∷ []) (drop (n + 2) before))

-- the pair p written after the pairs ps
pub pair_more : (ps : List Pair) (p : Pair) (before answer : List ℕ) (n : ℕ) → n ≡ length ps → 2 * n + 1 < length before → answer ≡ bytes_of ps ++ drop (2 * length ps) before
    → set (set answer (2 * n) p.input) (2 * n + 1) p.output ≡ bytes_of (ps ++ p ∷ []) ++ drop (2 * length (ps ++ p ∷ [])) before
pair_more ps p before answer n e h w =
    let f : answer ≡ bytes_of ps ++ drop (2 * n) before = w ∙ ap (λ (m : ℕ). bytes_of ps ++ drop (2 * m) before) (sym e) in
    let m : 2 * n + 2 ≡ 2 * length (ps ++ p ∷ []) = omega (arith, length-append ps (p ∷ [])) in
    ap (λ (l : List ℕ). set (set l (2 * n) p.input) (2 * n + 1) p.output) f
    ∙ two_more (bytes_of ps) before (2 * n) p.input p.output (length_bytes ps ∙ ap (λ (m : ℕ). 2 * m) (sym e)) h
    ∙ (λ i. sym (bytes_snoc ps p) i ++ drop (m i) before)

-- ---- the walk

-- n pairs are written into the answer, and the node u is reached
pub record Following {costs : Costs} (G : Graph costs pairs) (L : Labels costs) (size : costs.Cost → ℕ) (start : ℕ) (before answer : List ℕ) (u n : ℕ) : Type 0 where
  pub cost : costs.Cost
  pub cost_is : L start ≡ some cost
  pub fits : 2 * size cost ≤ length before
  pub written : List Pair
  pub count : n ≡ length written
  pub bytes : answer ≡ bytes_of written ++ drop (2 * length written) before
  pub answer_size : length answer ≡ length before
  pub rest : costs.Cost
  pub walking : Walking G L size start cost written u rest

module _ {costs : Costs} (G : Graph costs pairs) (L : Labels costs) {size : costs.Cost → ℕ} (start : ℕ) (before : List ℕ) where
  module _ (Z : SizedLabels G L size) {answer : List ℕ} {u n : ℕ} (F : Following G L size start before answer u n) where
    module _ {p : Pair} (t : LeastTight G L u p) where
      -- by the least pair that keeps to the labels one pair less is left
      pub following_falls : size F.rest ≡ suc (size t.tight.rest)
      following_falls = tight_size G L Z t.tight F.walking.label

      -- there is room for its bytes
      pub following_room : 2 * n + 1 < length answer
      following_room = omega (arith, following_falls, F.walking.written, F.fits, F.answer_size, F.count)
