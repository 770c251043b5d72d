-- How harmonic comparison goes down a ranking, from one machine to the next. Assumes nothing.
use Rattle.std.specs.Prelude.{◌≡◌, ◌∷◌, ◌<◌, ◌≤◌}
use Rattle.basics.specs.Words.{refl, Bool, true, false, List, [], ℕ, arith, get_or, ltb, le_of_lt}
use borrow.Author.Tests.{lt-ltb, le-ltb, ltb-true, ltb-false}
use Rattle.ranking.specs.declared.Order.TheVariants.{Better, Equal, Worse}
use Rattle.ranking.specs.Harmony.{harmony}

pub harmony_end : {r : List ℕ} (v w : List ℕ) → r ≡ [] → harmony r v w ≡ Equal
unfolding harmony
harmony_end v w e = rw e

module _ {r rest : List ℕ} {m : ℕ} (v w : List ℕ) (e : r ≡ m ∷ rest) where
  pub harmony_better : get_or v m 0 < get_or w m 0 → harmony r v w ≡ Better m
  unfolding harmony
  harmony_better h = rw (e, lt-ltb _ _ h, harmony)

  pub harmony_worse : get_or w m 0 < get_or v m 0 → harmony r v w ≡ Worse m
  unfolding harmony
  harmony_worse h = rw (e, le-ltb _ _ (le_of_lt h), lt-ltb _ _ h, harmony)

  pub harmony_next : get_or w m 0 ≤ get_or v m 0 → get_or v m 0 ≤ get_or w m 0 → harmony r v w ≡ harmony rest v w
  unfolding harmony
  harmony_next h k = rw (e, le-ltb _ _ h, le-ltb _ _ k, harmony)

-- how two counts stand to each other
pub data Standing (a b : ℕ) : Type 0 where
  fewer : a < b → Standing a b
  same : a ≡ b → Standing a b
  more : b < a → Standing a b

pub standing : (a b : ℕ) → Standing a b
standing a b = go (ltb a b) refl (ltb b a) refl
  where
    go : (p : Bool) → ltb a b ≡ p → (q : Bool) → ltb b a ≡ q → Standing a b
    go true s q t = fewer (ltb-true a b s)
    go false s true t = more (ltb-true b a t)
    go false s false t = same (omega (arith, ltb-false a b s, ltb-false b a t))

-- the same three cases at the head of a ranking
module _ (m : ℕ) (r v w : List ℕ) where
  pub at_fewer : get_or v m 0 < get_or w m 0 → harmony (m ∷ r) v w ≡ Better m
  at_fewer h = harmony_better v w refl h

  pub at_more : get_or w m 0 < get_or v m 0 → harmony (m ∷ r) v w ≡ Worse m
  at_more h = harmony_worse v w refl h

  pub at_same : get_or v m 0 ≡ get_or w m 0 → harmony (m ∷ r) v w ≡ harmony r v w
  at_same h = harmony_next v w refl (omega arith) (omega arith)
