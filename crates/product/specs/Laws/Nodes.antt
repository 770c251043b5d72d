-- Laws of nodes as numbers: numbering and reading back.
use Rattle.std.specs.Prelude.{◌≡◌, ◌∷◌, ◌+◌, ◌*◌, ◌/◌, ◌%◌, ◌<◌, ◌≤◌}
use Rattle.basics.specs.Words.{refl, ◌∙◌, ap, List, [], ℕ, suc, arith, mul-le-mul_right, mul-add-div_right, mul-add-mod_self_right, div-eq_of_lt, mod-eq_of_lt, mod-lt, div-lt_iff_lt-mul, suc-mul, mul-pos}
use Rattle.product.specs.Nodes.{product, code_of, states_of, node_of, position_at, states_at}

-- one state for each count, below it
abbrev pub Below : List ℕ → List ℕ → Type 0
Below [] [] = Unit {0}
Below [] (s ∷ ss) = ⊥
Below (q ∷ qs) [] = ⊥
Below (q ∷ qs) (s ∷ ss) = (s < q) × Below qs ss

-- every count is at least 1
abbrev pub Positive : List ℕ → Type 0
Positive [] = Unit {0}
Positive (q ∷ qs) = (0 < q) × Positive qs

pub product_positive : (qs : List ℕ) → Positive qs → 0 < product qs
unfolding product
product_positive [] h = omega arith
product_positive (q ∷ qs) h = mul-pos h.0 (product_positive qs h.1)

pub code_below : (qs ss : List ℕ) → Below qs ss → code_of qs ss < product qs
unfolding product code_of
code_below [] [] h = omega arith
code_below [] (s ∷ ss) h = elim h [ ]
code_below (q ∷ qs) [] h = elim h [ ]
code_below (q ∷ qs) (s ∷ ss) h =
    let r = code_below qs ss h.1 in
    let m : suc s * product qs ≤ q * product qs = mul-le-mul_right (product qs) h.0 in
    omega (arith, suc-mul s (product qs))

pub states_of_code : (qs ss : List ℕ) → Below qs ss → states_of qs (code_of qs ss) ≡ ss
unfolding code_of states_of
states_of_code [] [] h = refl
states_of_code [] (s ∷ ss) h = elim h [ ]
states_of_code (q ∷ qs) [] h = elim h [ ]
states_of_code (q ∷ qs) (s ∷ ss) h =
    let r = code_below qs ss h.1 in
    let b : 0 < product qs = omega arith in
    let d : (s * product qs + code_of qs ss) / product qs ≡ s = mul-add-div_right b s (code_of qs ss) ∙ ap (λ x. s + x) (div-eq_of_lt r) ∙ (omega arith) in
    let e : (s * product qs + code_of qs ss) % product qs ≡ code_of qs ss = mul-add-mod_self_right s (product qs) (code_of qs ss) ∙ mod-eq_of_lt r in
    rw (d, e, states_of_code qs ss h.1)

pub states_below : (qs : List ℕ) → Positive qs → (c : ℕ) → c < product qs → Below qs (states_of qs c)
unfolding product states_of
states_below [] p c h = tt
states_below (q ∷ qs) p c h =
    let b = product_positive qs p.1 in
    ((div-lt_iff_lt-mul b).1 h, states_below qs p.1 (c % product qs) (mod-lt c b))

-- a node's position and states, from its number, and from the place of its number in its position
module _ (qs : List ℕ) where
  pub position_at_lem : (i c : ℕ) → c < product qs → position_at qs (i * product qs + c) ≡ i
  position_at_lem i c h =
      let b : 0 < product qs = omega arith in
      mul-add-div_right b i c ∙ ap (λ x. i + x) (div-eq_of_lt h) ∙ (omega arith)

  pub states_at_lem : (i c : ℕ) → c < product qs → states_at qs (i * product qs + c) ≡ states_of qs c
  states_at_lem i c h = ap (states_of qs) (mul-add-mod_self_right i (product qs) c ∙ mod-eq_of_lt h)

  module _ (i : ℕ) (ss : List ℕ) (h : Below qs ss) where
    pub position_of_node : position_at qs (node_of qs i ss) ≡ i
    position_of_node = position_at_lem i (code_of qs ss) (code_below qs ss h)

    pub states_of_node : states_at qs (node_of qs i ss) ≡ ss
    states_of_node = states_at_lem i (code_of qs ss) (code_below qs ss h) ∙ states_of_code qs ss h

    -- the nodes of positions 0 to n are the numbers below (n + 1) × P
    pub node_below : (n : ℕ) → i ≤ n → node_of qs i ss < (n + 1) * product qs
    node_below n k =
        let m : suc i * product qs ≤ (n + 1) * product qs = mul-le-mul_right (product qs) (omega arith) in
        omega (arith, suc-mul i (product qs), code_below qs ss h)
