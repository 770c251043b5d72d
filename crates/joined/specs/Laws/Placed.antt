-- Laws of bytes put into a target. Assumes nothing.
use Rattle.std.specs.Prelude.{◌≡◌, ◌∷◌, ◌++◌, ◌+◌, ◌<◌, ◌≤◌}
use Rattle.basics.specs.Words.{ap, sym, ◌∙◌, List, [], append-nil, append_assoc, ℕ, arith, length, take, drop, set, length-append, length-drop, take-append-drop, drop_of_length-le, set_split, length-take-le, take_at, drop_at, drop-drop, add-one}
use borrow.Rule.Slice.PartMut.{put_mid}
use Rattle.joined.specs.Writing.{placed}

pub placed_none : (at : ℕ) (t : List ℕ) → placed at [] t ≡ t
unfolding placed
placed_none at t = take-append-drop at t

-- what was lent of a target, and is now ys
pub placed_mid : (at n : ℕ) (t ys : List ℕ) → length ys ≡ n → put_mid at n t ys ≡ placed at ys t
unfolding placed
placed_mid at n t ys e = ap (λ (k : ℕ). take at t ++ (ys ++ drop k (drop at t))) (sym e)

pub placed_length : (at : ℕ) (ys t : List ℕ) → at + length ys ≤ length t → length (placed at ys t) ≡ length t
unfolding placed
placed_length at ys t h =
    length-append (take at t) (ys ++ drop (length ys) (drop at t))
    ∙ omega (arith, length-take-le at t (omega (arith, h)), length-append ys (drop (length ys) (drop at t)), length-drop (length ys) (drop at t), length-drop at t, h)

-- two writes, one behind the other
pub placed_next : (at : ℕ) (xs ys t : List ℕ) → at + length xs ≤ length t → placed (at + length xs) ys (placed at xs t) ≡ placed at (xs ++ ys) t
unfolding placed
placed_next at xs ys t h =
    let front = take at t ++ xs in
    let rest = drop (length xs) (drop at t) in
    let t' = take at t ++ (xs ++ rest) in
    let size : length front ≡ at + length xs = length-append (take at t) xs ∙ ap (λ (k : ℕ). k + length xs) (length-take-le at t (omega (arith, h))) in
    let split : t' ≡ front ++ rest = sym (append_assoc (take at t) xs rest) in
    let a : take (at + length xs) t' ≡ front = ap (take (at + length xs)) split ∙ take_at front rest (at + length xs) size in
    let b : drop (at + length xs) t' ≡ rest = ap (drop (at + length xs)) split ∙ drop_at front rest (at + length xs) size in
    let d : drop (length ys) rest ≡ drop (length (xs ++ ys)) (drop at t) = drop-drop (length ys) (length xs) (drop at t) ∙ ap (λ (k : ℕ). drop k (drop at t)) (sym (length-append xs ys)) in
    ap (λ (l : List ℕ). l ++ (ys ++ drop (length ys) (drop (at + length xs) t'))) a
    ∙ ap (λ (l : List ℕ). front ++ (ys ++ drop (length ys) l)) b
    ∙ ap (λ (l : List ℕ). front ++ (ys ++ l)) d
    ∙ append_assoc (take at t) xs (ys ++ drop (length (xs ++ ys)) (drop at t))
    ∙ ap (λ (l : List ℕ). take at t ++ l) (sym (append_assoc xs ys (drop (length (xs ++ ys)) (drop at t))))

-- one byte, and then the others
pub placed_one : (at v : ℕ) (t : List ℕ) → at < length t → set t at v ≡ placed at (v ∷ []) t
unfolding placed
placed_one at v t h = set_split t at v h ∙ ap (λ (l : List ℕ). take at t ++ (v ∷ l)) (sym (drop-drop 1 at t ∙ ap (λ (k : ℕ). drop k t) (add-one at)))

pub placed_step : (at v : ℕ) (ys t : List ℕ) → at < length t → placed (at + 1) ys (set t at v) ≡ placed at (v ∷ ys) t
placed_step at v ys t h = ap (placed (at + 1) ys) (placed_one at v t h) ∙ placed_next at (v ∷ []) ys t (omega (arith, h))

-- a stretch that is as long as the bytes is the bytes
pub placed_whole : (ys t : List ℕ) → length t ≡ length ys → placed 0 ys t ≡ ys
unfolding placed
placed_whole ys t e = ap (λ (l : List ℕ). ys ++ l) (drop_of_length-le t {i = length ys} (omega (arith, e))) ∙ append-nil ys
