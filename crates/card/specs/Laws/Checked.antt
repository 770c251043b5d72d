-- What the check of parts tells of them. Assumes nothing.
use Rattle.std.specs.Prelude.{◌≡◌, ◌∷◌, ◌*◌, ◌<◌, ◌≤◌}
use Rattle.basics.specs.Words.{List, [], map, ℕ, zero, suc, arith, length, get_or, take, drop, length-drop, length-take-le, mul-le-mul, product}
use Rattle.machine.specs.Part.{state_count, part_refusal}
use Rattle.machine.specs.Accepted.{Shaped, shape_facts, accepted}
use Rattle.layout.specs.Layout.{Bytes}
use Rattle.card.specs.Card.{parts_refusal}
use Rattle.card.specs.Packing.{total, split}
use Rattle.card.specs.Laws.Search.{first_passed, rest_passed}
use Rattle.layout.specs.Laws.Bytes.{bytes_take, bytes_drop}

-- the shape of a part that is accepted
pub part_shaped : (S : ℕ) (part : List ℕ) → part_refusal S part ≡ 0 → Shaped part
part_shaped S part e = shape_facts part (accepted S part e).shape

-- each of the parts is accepted
pub part_passed : (S : ℕ) (parts : List (List ℕ)) (i : ℕ) → i < length parts → parts_refusal S parts ≡ 0 → (d : List ℕ) → part_refusal S (get_or parts i d) ≡ 0
unfolding parts_refusal
part_passed S [] i h e d = absurd (omega arith)
part_passed S (p ∷ ps) zero h e d = first_passed (part_refusal S p) (map (part_refusal S) ps) e
part_passed S (p ∷ ps) (suc i) h e d = part_passed S ps i (omega arith) (rest_passed (part_refusal S p) (map (part_refusal S) ps) e) d

-- a product of state counts is 1 at least
pub some_state : (S : ℕ) (parts : List (List ℕ)) → parts_refusal S parts ≡ 0 → 1 ≤ product (map state_count parts)
unfolding parts_refusal product
some_state S [] e = omega arith
some_state S (p ∷ ps) e =
    mul-le-mul (part_shaped S p (first_passed (part_refusal S p) (map (part_refusal S) ps) e)).some_state
    (some_state S ps (rest_passed (part_refusal S p) (map (part_refusal S) ps) e))

-- a part that is accepted has at most 2 + 32 + 20 × 255 bytes, and so have all of them
pub part_small : (S : ℕ) (part : List ℕ) → Bytes part → part_refusal S part ≡ 0 → length part ≤ 5134
part_small S part b e = omega (arith, part_shaped S part e, b 1)

pub parts_small : (S : ℕ) (lengths bytes : List ℕ) → Bytes bytes → total lengths ≤ length bytes → parts_refusal S (split lengths bytes) ≡ 0 → total lengths ≤ 5134 * length lengths
unfolding total split parts_refusal
parts_small S [] bytes b h e = omega arith
parts_small S (n ∷ ns) bytes b h e =
    let p = take n bytes in
    let rest = drop n bytes in
    let small = part_small S p (bytes_take n bytes b) (first_passed (part_refusal S p) (map (part_refusal S) (split ns rest)) e) in
    let more = parts_small S ns rest (bytes_drop n bytes b) (omega (arith, length-drop n bytes)) (rest_passed (part_refusal S p) (map (part_refusal S) (split ns rest)) e) in
    omega (arith, small, more, length-take-le n bytes (omega arith))
