-- Finding the least of the pairs at a position that pass a test: in by in, the empty symbol first, and out by out. The test of an engine is that a
-- pair keeps to its labels.
use Rattle.std.specs.Prelude.{◌≡◌, ◌&&◌, ◌||◌, ◌⊎◌, ◌≢◌, ◌<◌}
use Rattle.basics.proofs.Words.{refl, sym, ◌∙◌, ap, Bool, true, false, not, List, inl, inr, ℕ, arith, get_or, eqb, ℕ_discrete, member, left as left-passes, either, left_fails, right_fails, clash, no_member}
use Rattle.std.proofs.Common.{eqb-true, eq-eqb}
use Rattle.machine.specs.declared.Pair.{Pair}
use Rattle.machine.specs.Symbols.{empty_symbol}
use Rattle.machine.specs.SymbolSets.{least_symbol}
use Rattle.machine.specs.Laws.SymbolSets.{below_least}
use Rattle.machine.specs.Laws.SetLoops.{with_true}
use Rattle.product.specs.ProductGraph.{pairs}
use Rattle.product.specs.Laws.Letters.{PairAt}

-- no pair whose in is not left passes, and some pair does
pub record Finding (sets : List ℕ) (Passes : Pair → Type 0) (i left : ℕ) : Type 0 where
  pub inside : (x : ℕ) → member left x ≡ true → x ≢ empty_symbol → member (get_or sets i 0) x ≡ true
  pub passed : (q : Pair) → member left q.input ≡ false → ¬ (Passes q)
  pub some_pair : Pair
  pub passes : Passes some_pair

module _ {card sets : List ℕ} {i : ℕ} {Passes : Pair → Type 0} (there : (q : Pair) → Passes q → PairAt card sets i q) where
  -- ---- out by out

  -- ---- in by in

  pub finding_start : (p : Pair) → Passes p → (left : ℕ) → ((x : ℕ) → member left x ≡ (eqb x empty_symbol || member (get_or sets i 0) x)) → Finding sets Passes i left
  finding_start p t left f = record {
    inside = λ x m n. inside_set x n (either (eqb x empty_symbol) (member (get_or sets i 0) x) (sym (f x) ∙ m));
    passed = λ q m t. not_passed q m (there q t).input_there;
    some_pair = p;
    passes = t;
  }
    where
      inside_set : (x : ℕ) → x ≢ empty_symbol → (eqb x empty_symbol ≡ true) ⊎ (member (get_or sets i 0) x ≡ true) → member (get_or sets i 0) x ≡ true
      inside_set x n (inl e) = absurd (n (eqb-true x empty_symbol e))
      inside_set x n (inr m) = m

      not_passed : (q : Pair) → member left q.input ≡ false → (q.input ≡ empty_symbol) ⊎ ((q.input ≢ empty_symbol) × (member (get_or sets i 0) q.input ≡ true)) → ⊥
      not_passed q m (inl e) = clash (eq-eqb q.input empty_symbol e) (left_fails (eqb q.input empty_symbol) (member (get_or sets i 0) q.input) (sym (f q.input) ∙ m))
      not_passed q m (inr k) = clash k.1 (right_fails (eqb q.input empty_symbol) (member (get_or sets i 0) q.input) (sym (f q.input) ∙ m))

module _ {sets : List ℕ} {Passes : Pair → Type 0} {i left : ℕ} (F : Finding sets Passes i left) where
  -- some in is left
  pub some_left : 0 < left
  some_left = go (ℕ_discrete left 0)
    where
      go : Dec (left ≡ 0) → 0 < left
      go (no n) = omega arith
      go (yes e) = absurd (F.passed F.some_pair (rw e (no_member F.some_pair.input)) F.passes)

  -- the first pair that passes with the least in that is left is the least that passes
  pub first_is_least : (p : Pair) → p.input ≡ least_symbol left → ((q : Pair) → q.input ≡ p.input → q.output < p.output → ¬ (Passes q)) → (q : Pair) → pairs.◌◃◌ q p → ¬ (Passes q)
  first_is_least p l f = go
    where
      go : (q : Pair) → (q.input < p.input) ⊎ ((q.input ≡ p.input) × (q.output < p.output)) → ¬ (Passes q)
      go q (inl h) = F.passed q (below_least 64 left q.input (omega (arith, l)))
      go q (inr h) = f q h.0 h.1

  -- no pair with the in x passes
  pub finding_next : (x : ℕ) → ((q : Pair) → q.input ≡ x → ¬ (Passes q)) → (after : ℕ) → ((n : ℕ) → member after n ≡ (member left n && not (eqb n x))) → Finding sets Passes i after
  finding_next x none after f = record { inside = λ n m. F.inside n (left-passes (member left n) (not (eqb n x)) (sym (f n) ∙ m)); passed = passed; some_pair = F.some_pair; passes = F.passes }
    where
      passed : (q : Pair) → member after q.input ≡ false → ¬ (Passes q)
      passed q n t = go (eqb q.input x) refl
        where
          go : (b : Bool) → eqb q.input x ≡ b → ⊥
          go true g = none q (eqb-true q.input x g) t
          go false g = F.passed q (sym (f q.input ∙ ap (λ (b : Bool). member left q.input && not b) g ∙ with_true (member left q.input)) ∙ n) t
