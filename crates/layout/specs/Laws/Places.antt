-- Laws of the table of places: what is read where part i's offset and length were written. Assumes nothing.
use Rattle.std.specs.Prelude.{◌≡◌, ◌∷◌, ◌++◌, ◌+◌, ◌*◌, ◌/◌, ◌%◌, ◌<◌, ◌≤◌}
use Rattle.basics.specs.Words.{refl, ap, sym, ◌∙◌, List, [], ℕ, zero, suc, arith, length, get_or, take, drop, drop-cons, get_or-drop, not-suc-le-zero}
use Rattle.layout.specs.Layout.{Bytes}
use Rattle.layout.specs.Packing.{total, places}
use Rattle.layout.specs.Laws.Bytes.{bytes_none, bytes_cons}

pub length_places : (at : ℕ) (ns : List ℕ) → length (places at ns) ≡ 4 * length ns
unfolding places
length_places at [] = refl
length_places at (n ∷ ns) = omega (arith, length_places (at + n) ns)

pub places_snoc : (at : ℕ) (ns : List ℕ) (n : ℕ) → places at (ns ++ (n ∷ [])) ≡ places at ns ++ places (at + total ns) (n ∷ [])
unfolding places total
places_snoc at [] n = let e : at + 0 ≡ at = omega arith in rw e
places_snoc at (m ∷ ms) n =
    let e : at + m + total ms ≡ at + (m + total ms) = omega arith in
    rw (places_snoc (at + m) ms n, e)

-- the places from part i on
pub places_from_lem : (rest : List ℕ) (at : ℕ) (ns : List ℕ) (i : ℕ) → i ≤ length ns → drop (4 * i) (places at ns ++ rest) ≡ places (at + total (take i ns)) (drop i ns) ++ rest
unfolding places total
places_from_lem rest at ns zero h = let e : at + 0 ≡ at = omega arith in rw e
places_from_lem rest at [] (suc i) h = absurd (not-suc-le-zero h)
places_from_lem rest at (n ∷ ns) (suc i) h =
    let e : 4 * suc i ≡ suc (suc (suc (suc (4 * i)))) = omega arith in
    let f : at + n + total (take i ns) ≡ at + (n + total (take i ns)) = omega arith in
    rw (e, ← f) (places_from_lem rest (at + n) ns i (omega arith))

-- the four bytes of a place from a place of the list: the offset, and the length
pub record PlaceAt (l : List ℕ) (at offset size : ℕ) : Type 0 where
  pub offset_low : get_or l at 0 ≡ offset % 256
  pub offset_high : get_or l (at + 1) 0 ≡ offset / 256
  pub length_low : get_or l (at + 2) 0 ≡ size % 256
  pub length_high : get_or l (at + 3) 0 ≡ size / 256

-- part i's place
pub place_at : (rest : List ℕ) (at : ℕ) (ns : List ℕ) (i : ℕ) → i < length ns → PlaceAt (places at ns ++ rest) (4 * i) (at + total (take i ns)) (get_or ns i 0)
unfolding places
place_at rest at ns i h =
    let l = places at ns ++ rest in
    let e = places_from_lem rest at ns i (omega arith) ∙ ap (λ (m : List ℕ). places (at + total (take i ns)) m ++ rest) (drop-cons ns i 0 h) in
    let told : (k : ℕ) → get_or l (4 * i + k) 0 ≡ get_or (places (at + total (take i ns)) (get_or ns i 0 ∷ drop (suc i) ns) ++ rest) k 0 =
    λ k. sym (get_or-drop (4 * i) l k 0) ∙ ap (λ (m : List ℕ). get_or m k 0) e in
    let z : 4 * i + 0 ≡ 4 * i = omega arith in
    record { offset_low = rw z at (told 0); offset_high = told 1; length_low = told 2; length_high = told 3 }

-- the table is made of bytes
pub places_bytes : (at : ℕ) (ns : List ℕ) → at + total ns < 65536 → Bytes (places at ns)
unfolding places total
places_bytes at [] h = bytes_none
places_bytes at (n ∷ ns) h =
    let l = places (at + n) ns in
    bytes_cons (at % 256) (at / 256 ∷ n % 256 ∷ n / 256 ∷ l) (omega arith)
    (bytes_cons (at / 256) (n % 256 ∷ n / 256 ∷ l) (omega arith)
    (bytes_cons (n % 256) (n / 256 ∷ l) (omega arith) (bytes_cons (n / 256) l (omega arith) (places_bytes (at + n) ns (omega arith)))))
