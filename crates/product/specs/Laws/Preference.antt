-- The order of preference on candidates is the order of the product's paths, for a price that agrees with the order on profiles: the cost, then
-- the letters.
use Rattle.std.specs.Prelude.{◌≡◌, ◌&&◌, ◌||◌, ◌∷◌, ◌⊎◌, ◌+◌, ◌*◌, ◌<◌}
use Rattle.basics.proofs.Words.{refl, ◌∙◌, ap, Bool, true, false, false≢true, or-true, List, [], inl, inr, ℕ, zero, suc, arith, length, eqb, ltb, both, left, right, either}
use Rattle.std.proofs.Common.{eqb-true, ltb-true, eq-eqb, lt-ltb}
use Rattle.machine.specs.declared.Pair.{Pair}
use Rattle.ranking.specs.Profiles.{merge}
use Rattle.ranking.specs.ByteStrings.{smaller}
use Rattle.ranking.specs.Lemmas.Harmony.{Standing, fewer, same, more, standing}
use Rattle.candidate.specs.Candidates.{bytes_of}
use Rattle.product.specs.Best.{Contender, ProfileOrder}
use Rattle.paths.specs.Total.{Lex, asym, less_not_same}
use Rattle.paths.specs.Strings.{string, lex_string}
use Rattle.paths.specs.Costs.{Costs}
use Rattle.paths.specs.Best.{Before, before_total}
use Rattle.product.specs.Prices.{Price, Alike, Agrees}
use Rattle.product.specs.ProductGraph.{pairs}
use Rattle.product.specs.BestCandidate.{BeatsIn, by_profile, by_pairs, by_bytes}

-- ---- byte strings of one length: the order of their pairs, by in and then by out

pub or_left : {a : Bool} (b : Bool) → a ≡ true → (a || b) ≡ true
or_left b e = rw e

pub or_right : (a : Bool) {b : Bool} → b ≡ true → (a || b) ≡ true
or_right a e = rw e (or-true a)

smaller_lex : (xs ys : List ℕ) → smaller xs ys ≡ true → Lex ◌<◌ xs ys
unfolding smaller
smaller_lex [] ys h = absurd (false≢true h)
smaller_lex (x ∷ xs) [] h = absurd (false≢true h)
smaller_lex (x ∷ xs) (y ∷ ys) h = go (either (ltb x y) (eqb x y && smaller xs ys) h) (smaller_lex xs ys)
  where
    go : (ltb x y ≡ true) ⊎ ((eqb x y && smaller xs ys) ≡ true) → (smaller xs ys ≡ true → Lex ◌<◌ xs ys) → Lex ◌<◌ (x ∷ xs) (y ∷ ys)
    go (inl k) rec = inl (ltb-true x y k)
    go (inr k) rec = inr (eqb-true x y (left (eqb x y) (smaller xs ys) k), rec (right (eqb x y) (smaller xs ys) k))

lex_smaller : (xs ys : List ℕ) → length xs ≡ length ys → Lex ◌<◌ xs ys → smaller xs ys ≡ true
unfolding smaller
lex_smaller [] [] e h = absurd h
lex_smaller [] (y ∷ ys) e h = absurd (omega arith)
lex_smaller (x ∷ xs) [] e h = absurd h
lex_smaller (x ∷ xs) (y ∷ ys) e (inl h) = or_left (eqb x y && smaller xs ys) (lt-ltb x y h)
lex_smaller (x ∷ xs) (y ∷ ys) e (inr h) = or_right (ltb x y) (both (eq-eqb x y h.0) (lex_smaller xs ys (omega arith) h.1))

bytes_string : (c : List Pair) → bytes_of c ≡ string (λ p. p.input) (λ p. p.output) c
unfolding bytes_of
bytes_string [] = refl
bytes_string (p ∷ ps) = let e = bytes_string ps in λ i. p.input ∷ p.output ∷ e i

pub length_bytes : (c : List Pair) → length (bytes_of c) ≡ 2 * length c
unfolding bytes_of
length_bytes [] = refl
length_bytes (p ∷ ps) = let h = length_bytes ps in omega arith

abbrev pub PairsBefore : List Pair → List Pair → Type 0
PairsBefore = Lex pairs.◌◃◌

pair_of : (p q : Pair) → p.input ≡ q.input → p.output ≡ q.output → p ≡ q
pair_of p q i o = λ j. record { input = i j; output = o j }

pub bytes_before : (c d : List Pair) → smaller (bytes_of c) (bytes_of d) ≡ true → PairsBefore c d
bytes_before c d h = (lex_string (λ p. p.input) (λ p. p.output) pair_of c d).1 (rw (bytes_string c, bytes_string d) at (smaller_lex (bytes_of c) (bytes_of d) h))

pub before_bytes : (c d : List Pair) → length c ≡ length d → PairsBefore c d → smaller (bytes_of c) (bytes_of d) ≡ true
before_bytes c d e h =
    lex_smaller (bytes_of c) (bytes_of d) (omega (arith, length_bytes c, length_bytes d))
    (rw (bytes_string c, bytes_string d) ((lex_string (λ (p : Pair). p.input) (λ p. p.output) pair_of c d).0 h))

-- a test passes or fails
pub decided : (a : Bool) → (a ≡ true) ⊎ (a ≡ false)
decided true = inl refl
decided false = inr refl

-- ---- and as the order of the costs

module _ {costs : Costs} (price : Price costs) where
  -- the cost, and the letters
  abbrev pub key_of : Contender → costs.Cost × List Pair
  key_of a = (price.of a.profile (length a.candidate), a.candidate)

  abbrev pub Earlier : Contender → Contender → Type 0
  Earlier a b = Before costs pairs (key_of a) (key_of b)

  -- of one profile, fewer pairs cost less
  one_pair_more : (xs : List ℕ) (n : ℕ) → costs.◌≺◌ (price.of xs n) (price.of xs (suc n))
  unfolding merge
  one_pair_more xs n =
      let k : suc n ≡ 1 + n = omega arith in
      let e : price.of xs (suc n) ≡ costs.◌⊕◌ (price.of [] 1) (price.of xs n) = ap (price.of xs) k ∙ price.adds [] xs 1 n in
      rw e (price.positive [] (price.of xs n))

  pub fewer_cost_less : (xs : List ℕ) (n m : ℕ) → n < m → costs.◌≺◌ (price.of xs n) (price.of xs m)
  fewer_cost_less xs n zero h = absurd (omega arith)
  fewer_cost_less xs n (suc m) h = go (standing n m) (fewer_cost_less xs n m)
    where
      go : Standing n m → (n < m → costs.◌≺◌ (price.of xs n) (price.of xs m)) → costs.◌≺◌ (price.of xs n) (price.of xs (suc m))
      go (fewer k) rec = costs.total.trans (price.of xs n) (price.of xs m) (price.of xs (suc m)) (rec k) (one_pair_more xs m)
      go (same k) rec = rw k (one_pair_more xs m)
      go (more k) rec = absurd (omega arith)

module _ {costs : Costs} {price : Price costs} {better : ProfileOrder} (agrees : Agrees price better) (a b : Contender) where
  -- profiles of which neither is better, with as many pairs, cost the same
  pub same_cost : Alike better a.profile b.profile → length a.candidate ≡ length b.candidate → (key_of price a).0 ≡ (key_of price b).0
  same_cost e k = agrees.alike a.profile b.profile (length a.candidate) e ∙ ap (price.of b.profile) k

  pub beats_earlier : BeatsIn better a b → Earlier price a b
  beats_earlier (by_profile e) = inl (agrees.less a.profile b.profile (length a.candidate) (length b.candidate) e)
  beats_earlier (by_pairs e k) =
      inl (rw (agrees.alike a.profile b.profile (length a.candidate) e) (fewer_cost_less price b.profile (length a.candidate) (length b.candidate) k))
  beats_earlier (by_bytes e k s) = inr (same_cost e k, bytes_before a.candidate b.candidate s)

  pub earlier_beats : Earlier price a b → BeatsIn better a b
  earlier_beats h = go (decided (better a.profile b.profile)) (decided (better b.profile a.profile))
    where
      not_later : ¬ (costs.◌≺◌ (key_of price b).0 (key_of price a).0)
      not_later k = asym (before_total costs pairs) (key_of price a) (key_of price b) h (inl k)

      last : Alike better a.profile b.profile → length a.candidate ≡ length b.candidate → Earlier price a b → BeatsIn better a b
      last e k (inl l) = absurd (less_not_same costs.total l (same_cost e k))
      last e k (inr l) = by_bytes e k (before_bytes a.candidate b.candidate k l.1)

      next : Alike better a.profile b.profile → Standing (length a.candidate) (length b.candidate) → BeatsIn better a b
      next e (fewer k) = by_pairs e k
      next e (same k) = last e k h
      next e (more k) =
          absurd (not_later (rw (agrees.alike a.profile b.profile (length a.candidate) e) (fewer_cost_less price b.profile (length b.candidate) (length a.candidate) k)))

      go : (better a.profile b.profile ≡ true) ⊎ (better a.profile b.profile ≡ false) → (better b.profile a.profile ≡ true) ⊎ (better b.profile a.profile ≡ false) → BeatsIn better a b
      go (inl e) k = by_profile e
      go (inr e) (inl k) = absurd (not_later (agrees.less b.profile a.profile (length b.candidate) (length a.candidate) k))
      go (inr e) (inr k) = next (e, k) (standing (length a.candidate) (length b.candidate))
