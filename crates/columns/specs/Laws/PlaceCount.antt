-- The places of a column: at most 40, where one to six machines of at most 32 states have at most 128 joint states; at most 21, where these are at most 16.
use Rattle.std.specs.Prelude.{◌≡◌, ◌∷◌, ◌+◌, ◌-◌, ◌*◌, ◌/◌, ◌<◌, ◌≤◌}
use Rattle.basics.proofs.Words.{refl, Bool, true, false, cond, List, [], ℕ, zero, suc, arith, length, get_or, leb, ltb, le-div_iff_mul-le, mul_comm, mul-le-mul_right, every_below, product, every_at}
use Rattle.std.proofs.Common.{leb-true, ltb-true, ltb-false}
use Rattle.product.specs.Laws.Nodes.{Positive, product_positive}
use Rattle.cells.specs.Cells.{places}

-- how far counts of at most 32 with the product p can pass 1, all together
unfoldable most : ℕ → ℕ
most p = cond (ltb p 33) (p - 1) (30 + (p + 31) / 32)

-- one count more, by trying them all
unfoldable tried : Bool
tried = every_below (λ q. every_below (λ r. leb (q + most (suc r)) (most (suc q * suc r))) (128 / suc q)) 32

all_tried : tried ≡ true
unfolding tried most every_below
all_tried = refl

most_next : (q r : ℕ) → 0 < q → q ≤ 32 → 0 < r → q * r ≤ 128 → q + most r ≤ most (q * r) + 1
unfolding tried
most_next zero r a b c d = absurd (omega arith)
most_next (suc q) zero a b c d = absurd (omega arith)
most_next (suc q) (suc r) a b c d =
    let k : suc r ≤ 128 / suc q = (le-div_iff_mul-le {k = suc q} {x = suc r} {y = 128} (omega arith)).1 (omega (arith, mul_comm (suc q) (suc r))) in
    let t = every_at (λ q. every_below (λ r. leb (q + most (suc r)) (most (suc q * suc r))) (128 / suc q)) 32 all_tried q (omega arith) in
    let u = every_at (λ r. leb (q + most (suc r)) (most (suc q * suc r))) (128 / suc q) t r (omega arith) in
    omega (arith, leb-true (q + most (suc r)) (most (suc q * suc r)) u)

most_few : (p : ℕ) → p ≤ 128 → most p ≤ 34
unfolding most
most_few p h = go (ltb p 33) refl
  where
    go : (b : Bool) → ltb p 33 ≡ b → cond b (p - 1) (30 + (p + 31) / 32) ≤ 34
    go true t = omega (arith, ltb-true p 33 t)
    go false t = omega arith

places_most : (counts : List ℕ) → Positive counts → ((m : ℕ) → get_or counts m 0 ≤ 32) → product counts ≤ 128 → places counts ≤ length counts + most (product counts)
unfolding product places
places_most [] p f h = omega arith
places_most (q ∷ qs) p f h =
    let r = product_positive qs p.1 in
    let a : 1 * product qs ≤ q * product qs = mul-le-mul_right (product qs) p.0 in
    let rec = places_most qs p.1 (λ m. f (suc m)) (omega (arith, a)) in
    omega (arith, rec, most_next q (product qs) p.0 (f 0) r h)

pub few_places : (counts : List ℕ) → Positive counts → length counts ≤ 6 → ((m : ℕ) → get_or counts m 0 ≤ 32) → product counts ≤ 128 → places counts ≤ 40
few_places counts p k f h = omega (arith, places_most counts p f h, most_few (product counts) h)

most_small : (p : ℕ) → p ≤ 16 → most p ≤ 15
unfolding most
most_small p h = go (ltb p 33) refl
  where
    go : (b : Bool) → ltb p 33 ≡ b → cond b (p - 1) (30 + (p + 31) / 32) ≤ 15
    go true t = omega arith
    go false t = absurd (omega (arith, ltb-false p 33 t))

pub small_places : (counts : List ℕ) → Positive counts → length counts ≤ 6 → ((m : ℕ) → get_or counts m 0 ≤ 32) → product counts ≤ 16 → places counts ≤ 21
small_places counts p k f h = omega (arith, places_most counts p f (omega arith), most_small (product counts) h)
