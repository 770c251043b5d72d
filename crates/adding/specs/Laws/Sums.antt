-- Laws of sums of cells.
use Rattle.std.specs.Prelude.{◌≡◌, ◌∷◌, ◌++◌, ◌+◌, ◌*◌, ◌/◌, ◌%◌, ◌<◌, ◌≤◌}
use Rattle.basics.specs.Words.{refl, sym, ◌∙◌, ap, List, [], ℕ, zero, suc, arith, length, get_or, take, drop, take-append-drop, mul-add-mod_self_right, mod-eq_of_lt, mul-le-mul_right, mod-lt, div-add-mod', mul_assoc, add-mul, mul-zero, suc-mul, product}
use Rattle.paths.specs.Numbering.{position_is}
use Rattle.product.specs.Laws.Nodes.{Positive}
use Rattle.adding.specs.Cells.{cell_sum, places}

-- the first machine's cell, and the sum of those behind it
pub sum_next : (cell : ℕ → ℕ → ℕ) (m at q : ℕ) (qs : List ℕ) (s c : ℕ) → c < product qs → cell_sum cell m at (q ∷ qs) (s * product qs + c) ≡ cell m (at + s) + cell_sum cell (suc m) (at + q) qs c
unfolding cell_sum
sum_next cell m at q qs s c h =
    let d : (s * product qs + c) / product qs ≡ s = position_is (product qs) (omega arith) s c h in
    let r : (s * product qs + c) % product qs ≡ c = mul-add-mod_self_right s (product qs) c ∙ mod-eq_of_lt h in
    rw (d, r)

pub sum_none : (cell : ℕ → ℕ → ℕ) (m at c : ℕ) → cell_sum cell m at [] c ≡ 0
unfolding cell_sum
sum_none cell m at c = refl

pub sum_small : (most : ℕ) (cell : ℕ → ℕ → ℕ) → ((m place : ℕ) → cell m place ≤ most) → (m at : ℕ) (qs : List ℕ) (c : ℕ) → cell_sum cell m at qs c ≤ length qs * most
unfolding cell_sum
sum_small most cell h m at [] c = omega arith
sum_small most cell h m at (q ∷ qs) c = omega (arith, h m (at + c / product qs), suc-mul (length qs) most, sum_small most cell h (suc m) (at + q) qs (c % product qs))

-- ---- state counts

pub product_drop : (j : ℕ) (l : List ℕ) → Positive l → product (drop j l) ≤ product l
unfolding product
product_drop zero l p = omega arith
product_drop (suc j) [] p = omega arith
product_drop (suc j) (q ∷ l) p = let a : 1 * product l ≤ q * product l = mul-le-mul_right (product l) p.0 in omega (arith, product_drop j l p.1)

pub count_some : (l : List ℕ) → Positive l → (m : ℕ) → m < length l → 0 < get_or l m 0
count_some [] p m h = absurd (omega arith)
count_some (q ∷ l) p zero h = p.0
count_some (q ∷ l) p (suc m) h = count_some l p.1 m (omega arith)

pub places_next : (l : List ℕ) (m : ℕ) → m < length l → places (take (suc m) l) ≡ places (take m l) + get_or l m 0
unfolding places
places_next [] m h = absurd (omega arith)
places_next (q ∷ l) zero h = omega arith
places_next (q ∷ l) (suc m) h = omega (arith, places_next l m (omega arith))

pub places_few : (m : ℕ) (l : List ℕ) → places (take m l) ≤ places l
unfolding places
places_few zero l = omega arith
places_few (suc m) [] = omega arith
places_few (suc m) (q ∷ l) = omega (arith, places_few m l)

pub places_all : (l : List ℕ) → places (take (length l) l) ≡ places l
unfolding places
places_all [] = refl
places_all (q ∷ l) = omega (arith, places_all l)

pub places_none : (l : List ℕ) → places (take 0 l) ≡ 0
unfolding places
places_none l = refl

-- ---- machines in two groups

pub product_append : (xs ys : List ℕ) → product (xs ++ ys) ≡ product xs * product ys
unfolding product
product_append [] ys = omega arith
product_append (q ∷ xs) ys = ap (λ (n : ℕ). q * n) (product_append xs ys) ∙ sym (mul_assoc q (product xs) (product ys))

pub product_split : (n : ℕ) (l : List ℕ) → product (take n l) * product (drop n l) ≡ product l
product_split n l = sym (product_append (take n l) (drop n l)) ∙ ap product (take-append-drop n l)

-- the sum of a code of all is that of its front code and that of its back code
pub sum_split : (cell : ℕ → ℕ → ℕ) (m at : ℕ) (xs ys : List ℕ) (a b : ℕ) → a < product xs → b < product ys
    → cell_sum cell m at (xs ++ ys) (a * product ys + b) ≡ cell_sum cell m at xs a + cell_sum cell (m + length xs) (at + places xs) ys b
unfolding cell_sum places product
sum_split cell m at [] ys a b h k =
    let z : a ≡ 0 = omega arith in
    let c : a * product ys + b ≡ b = rw z (omega arith) in
    let e : m + 0 ≡ m = omega arith in
    let f : at + 0 ≡ at = omega arith in
    rw (c, e, f) (omega arith)
sum_split cell m at (q ∷ xs) ys a b h k =
    let some : 0 < product xs = positive (product xs) h in
    let r : a % product xs < product xs = mod-lt a some in
    let d : a / product xs * product xs + a % product xs ≡ a = div-add-mod' a (product xs) in
    let t : a * product ys ≡ a / product xs * product xs * product ys + a % product xs * product ys = ap (λ (n : ℕ). n * product ys) (sym d) ∙ add-mul (a / product xs * product xs) (a % product xs) (product ys) in
    let u : a / product xs * product xs * product ys ≡ a / product xs * product (xs ++ ys) = mul_assoc (a / product xs) (product xs) (product ys) ∙ ap (λ (n : ℕ). a / product xs * n) (sym (product_append xs ys)) in
    let c : a * product ys + b ≡ a / product xs * product (xs ++ ys) + (a % product xs * product ys + b) = omega arith in
    let l : a % product xs * product ys + b < product (xs ++ ys) = within (a % product xs) r in
    let n = sum_next cell m at q (xs ++ ys) (a / product xs) (a % product xs * product ys + b) l in
    let i = sum_split cell (suc m) (at + q) xs ys (a % product xs) b r k in
    let e : suc m + length xs ≡ m + suc (length xs) = omega arith in
    let f : at + q + places xs ≡ at + (q + places xs) = omega arith in
    let j : cell_sum cell (suc m) (at + q) (xs ++ ys) (a % product xs * product ys + b) ≡ cell_sum cell (suc m) (at + q) xs (a % product xs) + cell_sum cell (m + suc (length xs)) (at + (q + places xs)) ys b = rw (e, f) at i in
    ap (cell_sum cell m at (q ∷ (xs ++ ys))) c ∙ n ∙ omega (arith, j)
  where
    positive : (n : ℕ) → a < q * n → 0 < n
    positive zero h = absurd (omega (arith, mul-zero q))
    positive (suc n) h = omega arith

    within : (s : ℕ) → s < product xs → s * product ys + b < product (xs ++ ys)
    within s l = omega (arith, product_append xs ys, suc-mul s (product ys), mul-le-mul_right (product ys) l)

-- machines counted from k on
pub sum_shift : (cell : ℕ → ℕ → ℕ) (k m at : ℕ) (qs : List ℕ) (c : ℕ) → cell_sum cell (k + m) at qs c ≡ cell_sum (λ n. cell (k + n)) m at qs c
unfolding cell_sum
sum_shift cell k m at [] c = refl
sum_shift cell k m at (q ∷ qs) c =
    let e : k + suc m ≡ suc (k + m) = omega arith in
    ap (λ (n : ℕ). cell (k + m) (at + c / product qs) + n) (rw e at (sum_shift cell k (suc m) (at + q) qs (c % product qs)))

-- cells that are the same for these machines
pub sum_same : (f g : ℕ → ℕ → ℕ) (m at : ℕ) (qs : List ℕ) (c : ℕ) → ((n place : ℕ) → n < m + length qs → f n place ≡ g n place) → cell_sum f m at qs c ≡ cell_sum g m at qs c
unfolding cell_sum
sum_same f g m at [] c h = refl
sum_same f g m at (q ∷ qs) c h = omega (arith, h m (at + c / product qs) (omega arith), sum_same f g (suc m) (at + q) qs (c % product qs) (λ n place l. h n place (omega arith)))
