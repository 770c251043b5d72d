-- Laws of parts that are joined and split by their lengths. Assumes nothing.
use Rattle.std.specs.Prelude.{◌≡◌, ◌∷◌, ◌++◌, ◌+◌, ◌<◌, ◌≤◌}
use Rattle.basics.specs.Words.{refl, ap, sym, ◌∙◌, List, [], map, ℕ, zero, suc, arith, length, get_or, take, drop, length-append, length-drop, take-append-drop, drop-drop, drop-cons, take-suc, length-take-le, take_at, drop_at, add-one, joined}
use Rattle.layout.specs.Packing.{total, split}

-- the sum of the lengths of the first n parts, one part more
pub total_snoc : (ns : List ℕ) (n : ℕ) → total (ns ++ (n ∷ [])) ≡ total ns + n
unfolding total
total_snoc [] n = omega arith
total_snoc (m ∷ ms) n = omega (arith, total_snoc ms n)

pub total_next : (ns : List ℕ) (i : ℕ) → i < length ns → total (take (suc i) ns) ≡ total (take i ns) + get_or ns i 0
total_next ns i h = ap total (take-suc ns i 0 h) ∙ total_snoc (take i ns) (get_or ns i 0)

-- the lengths of the first i parts and of the others
pub total_parted : (i : ℕ) (ns : List ℕ) → total (take i ns) + total (drop i ns) ≡ total ns
unfolding total
total_parted zero ns = omega arith
total_parted (suc i) [] = omega arith
total_parted (suc i) (n ∷ ns) = omega (arith, total_parted i ns)

pub total_left : (ns : List ℕ) (i : ℕ) → i < length ns → total (drop i ns) ≡ get_or ns i 0 + total (drop (i + 1) ns)
unfolding total
total_left ns i h = rw (add-one i) (ap total (drop-cons ns i 0 h))

pub total_within : (ns : List ℕ) (i : ℕ) → i < length ns → total (take i ns) + get_or ns i 0 ≤ total ns
total_within ns i h = omega (arith, total_next ns i h, total_parted (suc i) ns)

pub split_snoc : (ns : List ℕ) (n : ℕ) (bytes : List ℕ) → split (ns ++ (n ∷ [])) bytes ≡ split ns bytes ++ (take n (drop (total ns) bytes) ∷ [])
unfolding split total
split_snoc [] n bytes = refl
split_snoc (m ∷ ms) n bytes =
    ap (λ (l : List (List ℕ)). take m bytes ∷ l)
    (split_snoc ms n (drop m bytes) ∙ ap (λ (l : List ℕ). split ms (drop m bytes) ++ (take n l ∷ [])) (drop-drop (total ms) m bytes))

pub length_split : (ns bytes : List ℕ) → length (split ns bytes) ≡ length ns
unfolding split
length_split [] bytes = refl
length_split (n ∷ ns) bytes = ap suc (length_split ns (drop n bytes))

-- the parts' lengths are those that they were split by, and joined they are the bytes
pub split_lengths : (ns bytes : List ℕ) → total ns ≤ length bytes → map length (split ns bytes) ≡ ns
unfolding split total
split_lengths [] bytes h = refl
split_lengths (n ∷ ns) bytes h =
    let e = length-take-le n bytes (omega arith) in
    let f = split_lengths ns (drop n bytes) (omega (arith, length-drop n bytes)) in
    rw (e, f)

pub split_joined : (ns bytes : List ℕ) → total ns ≡ length bytes → joined (λ part. part) (split ns bytes) ≡ bytes
unfolding split total joined
split_joined [] [] h = refl
split_joined [] (b ∷ bytes) h = absurd (omega arith)
split_joined (n ∷ ns) bytes h =
    rw (split_joined ns (drop n bytes) (omega (arith, length-drop n bytes))) (take-append-drop n bytes)

-- parts that are joined, split by their lengths, are the parts
pub joined_split : (parts : List (List ℕ)) → split (map length parts) (joined (λ part. part) parts) ≡ parts
unfolding split joined
joined_split [] = refl
joined_split (p ∷ ps) =
    rw (take_at p (joined (λ part. part) ps) (length p) refl, drop_at p (joined (λ part. part) ps) (length p) refl, joined_split ps)

pub joined_total : (parts : List (List ℕ)) → total (map length parts) ≡ length (joined (λ part. part) parts)
unfolding total joined
joined_total [] = refl
joined_total (p ∷ ps) = rw (joined_total ps) (sym (length-append p (joined (λ part. part) ps)))
