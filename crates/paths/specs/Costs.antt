-- An abstract cost: what adds up along a path and is compared at its end. And labels, which give a node a cost or none.
use Rattle.std.specs.Prelude.{◌≡◌, refl, ℕ}
use Rattle.std.proofs.Common.{sym, ◌∙◌, ap, inl, inr}
use Rattle.std.proofs.Math.Option.{Option, none, some, none-ne-some}
use Rattle.paths.specs.Total.{Total, Upto, upto_trans, upto_not_less}

-- costs add up, their order is strict and total, and adding the same on either side keeps it
pub record Costs : Type 1 where
  pub Cost : Type 0
  pub ◌⊕◌ : Cost → Cost → Cost
  pub ◌≺◌ : Cost → Cost → Type 0
  pub total : Total ◌≺◌
  pub shift_left : (c a b : Cost) → ◌≺◌ a b → ◌≺◌ (◌⊕◌ c a) (◌⊕◌ c b)
  pub shift_right : (c a b : Cost) → ◌≺◌ a b → ◌≺◌ (◌⊕◌ a c) (◌⊕◌ b c)

module _ (costs : Costs) where
  infixl 65 ◌⊕◌
  open costs use {Cost, ◌⊕◌, ◌≺◌, shift_left, shift_right}

  pub shift_left_upto : (c : Cost) {a b : Cost} → Upto ◌≺◌ a b → Upto ◌≺◌ (c ⊕ a) (c ⊕ b)
  shift_left_upto c {a} {b} (inl h) = inl (shift_left c a b h)
  shift_left_upto c (inr e) = inr (ap (λ (x : Cost). c ⊕ x) e)

  pub shift_right_upto : (c : Cost) {a b : Cost} → Upto ◌≺◌ a b → Upto ◌≺◌ (a ⊕ c) (b ⊕ c)
  shift_right_upto c {a} {b} (inl h) = inl (shift_right c a b h)
  shift_right_upto c (inr e) = inr (ap (λ (x : Cost). x ⊕ c) e)

-- the label of each node: none, or a cost
abbrev pub Labels : Costs → Type 0
Labels costs = ℕ → Option costs.Cost

-- ---- a value that may be missing, which then counts as above all others

module _ {A : Type 0} (R : A → A → Type 0) where
  -- the value is there, and at most x
  pub record AtMost (o : Option A) (x : A) : Type 0 where
    pub val : A
    pub is : o ≡ some val
    pub upto : Upto R val x

  -- the value is above x, if it is there
  abbrev pub Above : Option A → A → Type 0
  Above o x = (a : A) → o ≡ some a → R x a

  -- o' is the lesser of the value o and x
  pub data Lowers (o : Option A) (x : A) (o' : Option A) : Type 0 where
    kept : AtMost o x → o' ≡ o → Lowers o x o'
    lowered : Above o x → o' ≡ some x → Lowers o x o'

  -- ---- laws
  pub above_none : {o : Option A} (x : A) → o ≡ none → Above o x
  above_none x e a h = absurd (none-ne-some a (sym e ∙ h))

  pub above_some : {o : Option A} {x y : A} → o ≡ some y → R x y → Above o x
  above_some {y = y} e k a h = let q : y ≡ a = cc (e, h) in rw q at k

module _ {A : Type 0} {R : A → A → Type 0} where
  pub atmost_is : {o : Option A} {x : A} → o ≡ some x → AtMost R o x
  atmost_is {x = x} e = record { val = x; is = e; upto = inr refl }

  pub atmost_some : {o : Option A} {x y : A} → o ≡ some y → AtMost R o x → Upto R y x
  atmost_some {x = x} {y = y} e m = let q : m.val ≡ y = cc (m.is, e) in rw q at m.upto

  pub atmost_none : {o : Option A} {x : A} → o ≡ none → AtMost R o x → ⊥
  atmost_none e m = none-ne-some m.val (sym e ∙ m.is)

  module _ (T : Total R) where
    pub atmost_upto : {o : Option A} {x y : A} → AtMost R o x → Upto R x y → AtMost R o y
    atmost_upto m h = record { val = m.val; is = m.is; upto = upto_trans T m.upto h }

    pub atmost_not_above : {o : Option A} {x y : A} → AtMost R o y → R y x → Above R o x → ⊥
    atmost_not_above {y = y} m k a = upto_not_less T m.upto (T.trans y _ m.val k (a m.val m.is))

    -- what is the lesser of a value and x is at most x, and at most what the value is at most
    pub lowers_upto : {o o' : Option A} {x : A} → Lowers R o x o' → AtMost R o' x
    lowers_upto (kept m e) = rw e m
    lowers_upto (lowered a e) = atmost_is e

    pub lowers_falls : {o o' : Option A} {x y : A} → Lowers R o x o' → AtMost R o y → AtMost R o' y
    lowers_falls (kept m e) k = rw e k
    lowers_falls (lowered a e) k = record { val = _; is = e; upto = upto_trans T (inl (a k.val k.is)) k.upto }
