-- Laws of lanes: what the first n of them do to the ends of the lists and to the entries.
use Rattle.std.specs.Prelude.{◌≡◌, ◌&&◌, ◌+◌, ◌-◌, ◌<◌, ◌≤◌}
use Rattle.basics.proofs.Words.{refl, sym, ◌∙◌, ap, subst, Bool, true, false, cond, List, ℕ, zero, suc, arith, length, get_or, set, length-set, eqb, get_or-set_same, get_or-set_other, ℕ_discrete, add-one, eq-eqb, ne_eqb}
use Rattle.insertions.specs.Lanes.{Lane, is_move, list_of, entry_of, bump, put, bumped, placed, hit, count_to}
use Rattle.insertions.specs.Tables.{CountRoom, EntryRoom}

-- ---- one lane

module _ (k : ℕ) (x : Lane) (ns : List ℕ) where
  pub bump_moves : is_move x.code x.high ≡ true → bump k x ns ≡ set ns (list_of x.high + k) (get_or ns (list_of x.high + k) 0 + 1)
  unfolding bump
  bump_moves t = ap (λ (b : Bool). cond b (set ns (list_of x.high + k) (get_or ns (list_of x.high + k) 0 + 1)) ns) t

  pub bump_stays : is_move x.code x.high ≡ false → bump k x ns ≡ ns
  unfolding bump
  bump_stays t = ap (λ (b : Bool). cond b (set ns (list_of x.high + k) (get_or ns (list_of x.high + k) 0 + 1)) ns) t

  pub bump_size : length (bump k x ns) ≡ length ns
  bump_size = go (is_move x.code x.high) refl
    where
      go : (b : Bool) → is_move x.code x.high ≡ b → length (bump k x ns) ≡ length ns
      go true t = ap length (bump_moves t) ∙ length-set ns (list_of x.high + k) (get_or ns (list_of x.high + k) 0 + 1)
      go false t = ap length (bump_stays t)

pub bump_same : (k : ℕ) (x y : Lane) (ns : List ℕ) → x.code ≡ y.code → x.high ≡ y.high → bump k x ns ≡ bump k y ns
unfolding bump
bump_same k x y ns p q = λ i. cond (is_move (p i) (q i)) (set ns (list_of (q i) + k) (get_or ns (list_of (q i) + k) 0 + 1)) ns

module _ (x : Lane) (es ns : List ℕ) where
  pub put_moves : is_move x.code x.high ≡ true → put x es ns ≡ set es (get_or ns (list_of x.high + 1) 0) (entry_of x.code x.high x.low)
  unfolding put
  put_moves t = ap (λ (b : Bool). cond b (set es (get_or ns (list_of x.high + 1) 0) (entry_of x.code x.high x.low)) es) t

  pub put_stays : is_move x.code x.high ≡ false → put x es ns ≡ es
  unfolding put
  put_stays t = ap (λ (b : Bool). cond b (set es (get_or ns (list_of x.high + 1) 0) (entry_of x.code x.high x.low)) es) t

  pub put_size : length (put x es ns) ≡ length es
  put_size = go (is_move x.code x.high) refl
    where
      go : (b : Bool) → is_move x.code x.high ≡ b → length (put x es ns) ≡ length es
      go true t = ap length (put_moves t) ∙ length-set es (get_or ns (list_of x.high + 1) 0) (entry_of x.code x.high x.low)
      go false t = ap length (put_stays t)

module _ (l : ℕ) (x : Lane) where
  pub hit_here : is_move x.code x.high ≡ true → list_of x.high ≡ l → hit l x ≡ 1
  unfolding hit
  hit_here t e = rw (t, eq-eqb (list_of x.high) l e)

  pub hit_other : (list_of x.high ≡ l → ⊥) → hit l x ≡ 0
  unfolding hit
  hit_other n = go (is_move x.code x.high)
    where
      go : (b : Bool) → ◌≡◌ {A = ℕ} (cond (b && eqb (list_of x.high) l) 1 0) 0
      go true = rw (ne_eqb (list_of x.high) l n)
      go false = refl

  pub hit_stays : is_move x.code x.high ≡ false → hit l x ≡ 0
  unfolding hit
  hit_stays t = rw t

pub hit_same : (l : ℕ) (x y : Lane) → x.code ≡ y.code → x.high ≡ y.high → hit l x ≡ hit l y
unfolding hit
hit_same l x y p q = λ i. cond (is_move (p i) (q i) && eqb (list_of (q i)) l) 1 0

-- lists are 512
pub list_few : (h : ℕ) → list_of h < 512
list_few h = omega arith

-- the number of a list goes up by one where the lane is in it
pub bump_at : (k : ℕ) (x : Lane) (ns : List ℕ) → k ≤ 2 → length ns ≡ 514 → (l : ℕ) → l < 512 → get_or (bump k x ns) (l + k) 0 ≡ get_or ns (l + k) 0 + hit l x
bump_at k x ns few size l h = go (is_move x.code x.high) refl (ℕ_discrete (list_of x.high) l)
  where
    go : (b : Bool) → is_move x.code x.high ≡ b → Dec (list_of x.high ≡ l) → get_or (bump k x ns) (l + k) 0 ≡ get_or ns (l + k) 0 + hit l x
    go false t d = ap (λ (z : List ℕ). get_or z (l + k) 0) (bump_stays k x ns t) ∙ omega (arith, hit_stays l x t)
    go true t (yes e) =
        ap (λ (z : List ℕ). get_or z (l + k) 0) (bump_moves k x ns t)
        ∙ ap (λ (n : ℕ). get_or (set ns (n + k) (get_or ns (n + k) 0 + 1)) (l + k) 0) e
        ∙ get_or-set_same ns (l + k) (get_or ns (l + k) 0 + 1) 0 (omega arith)
        ∙ omega (arith, hit_here l x t e)
    go true t (no n) =
        ap (λ (z : List ℕ). get_or z (l + k) 0) (bump_moves k x ns t)
        ∙ get_or-set_other ns (list_of x.high + k) (l + k) (get_or ns (list_of x.high + k) 0 + 1) 0 (λ e. n (omega arith))
        ∙ omega (arith, hit_other l x n)

-- the places before the lists stay
pub bump_before : (k : ℕ) (x : Lane) (ns : List ℕ) (i : ℕ) → i < k → get_or (bump k x ns) i 0 ≡ get_or ns i 0
bump_before k x ns i h = go (is_move x.code x.high) refl
  where
    go : (b : Bool) → is_move x.code x.high ≡ b → get_or (bump k x ns) i 0 ≡ get_or ns i 0
    go false t = ap (λ (z : List ℕ). get_or z i 0) (bump_stays k x ns t)
    go true t = ap (λ (z : List ℕ). get_or z i 0) (bump_moves k x ns t) ∙ get_or-set_other ns (list_of x.high + k) i (get_or ns (list_of x.high + k) 0 + 1) 0 (λ e. omega arith)

pub bump_most : (k : ℕ) (x : Lane) (ns : List ℕ) (i : ℕ) → k ≤ 2 → length ns ≡ 514 → get_or (bump k x ns) i 0 ≤ get_or ns i 0 + 1
bump_most k x ns i few size = go (is_move x.code x.high) refl (ℕ_discrete (list_of x.high + k) i)
  where
    go : (b : Bool) → is_move x.code x.high ≡ b → Dec (list_of x.high + k ≡ i) → get_or (bump k x ns) i 0 ≤ get_or ns i 0 + 1
    go false t d = rw (bump_stays k x ns t) (omega arith)
    go true t (yes e) =
        let z : get_or (set ns i (get_or ns i 0 + 1)) i 0 ≡ get_or ns i 0 + 1 = get_or-set_same ns i (get_or ns i 0 + 1) 0 (omega (arith, list_few x.high)) in
        rw (bump_moves k x ns t, e) (omega arith)
    go true t (no n) = rw (bump_moves k x ns t, get_or-set_other ns (list_of x.high + k) i (get_or ns (list_of x.high + k) 0 + 1) 0 (λ e. n (sym e))) (omega arith)

-- ---- the first n lanes

module _ (k : ℕ) (f : ℕ → Lane) (ns : List ℕ) where
  pub bumped_none : bumped k f 0 ns ≡ ns
  unfolding bumped
  bumped_none = refl

  pub bumped_next : (n : ℕ) → bumped k f (n + 1) ns ≡ bump k (f n) (bumped k f n ns)
  unfolding bumped
  bumped_next n = rw (add-one n)

  pub bumped_size : (n : ℕ) → length (bumped k f n ns) ≡ length ns
  unfolding bumped
  bumped_size zero = refl
  bumped_size (suc n) = bump_size k (f n) (bumped k f n ns) ∙ bumped_size n

  pub bumped_at : k ≤ 2 → length ns ≡ 514 → (n l : ℕ) → l < 512 → get_or (bumped k f n ns) (l + k) 0 ≡ get_or ns (l + k) 0 + count_to f l n
  unfolding bumped count_to
  bumped_at few size zero l h = omega arith
  bumped_at few size (suc n) l h = bump_at k (f n) (bumped k f n ns) few (bumped_size n ∙ size) l h ∙ omega (arith, bumped_at few size n l h)

  pub bumped_before : (n i : ℕ) → i < k → get_or (bumped k f n ns) i 0 ≡ get_or ns i 0
  unfolding bumped
  bumped_before zero i h = refl
  bumped_before (suc n) i h = bump_before k (f n) (bumped k f n ns) i h ∙ bumped_before n i h

  pub bumped_most : k ≤ 2 → length ns ≡ 514 → (n i : ℕ) → get_or (bumped k f n ns) i 0 ≤ get_or ns i 0 + n
  unfolding bumped
  bumped_most few size zero i = omega arith
  bumped_most few size (suc n) i = omega (arith, bump_most k (f n) (bumped k f n ns) i few (bumped_size n ∙ size), bumped_most few size n i)

-- lanes that lead from the same codes by the same high numbers
abbrev pub Alike : (f g : ℕ → Lane) (n m : ℕ) → Type 0
Alike f g n m = (j : ℕ) → j < m → ((f (n + j)).code ≡ (g j).code) × ((f (n + j)).high ≡ (g j).high)

-- m lanes more
pub bumped_on : (k : ℕ) (f g : ℕ → Lane) (ns : List ℕ) (n m : ℕ) → Alike f g n m → bumped k g m (bumped k f n ns) ≡ bumped k f (n + m) ns
unfolding bumped
bumped_on k f g ns n zero A = let e : n ≡ n + 0 = omega arith in ap (λ (i : ℕ). bumped k f i ns) e
bumped_on k f g ns n (suc m) A =
    let e : suc (n + m) ≡ n + suc m = omega arith in
    let a = A m (omega arith) in
    ap (bump k (g m)) (bumped_on k f g ns n m (λ j h. A j (omega arith)))
    ∙ sym (bump_same k (f (n + m)) (g m) (bumped k f (n + m) ns) a.0 a.1)
    ∙ ap (λ (i : ℕ). bumped k f i ns) e

pub count_on : (f g : ℕ → Lane) (l n m : ℕ) → Alike f g n m → count_to f l (n + m) ≡ count_to f l n + count_to g l m
unfolding count_to
count_on f g l n zero A = let e : n + 0 ≡ n = omega arith in ap (count_to f l) e ∙ omega arith
count_on f g l n (suc m) A =
    let e : n + suc m ≡ suc (n + m) = omega arith in
    let a = A m (omega arith) in
    ap (count_to f l) e ∙ omega (arith, count_on f g l n m (λ j h. A j (omega arith)), hit_same l (f (n + m)) (g m) a.0 a.1)

-- ---- and the entries

module _ (f : ℕ → Lane) (es ns : List ℕ) where
  pub placed_none : placed f 0 es ns ≡ es
  unfolding placed
  placed_none = refl

  pub placed_next : (n : ℕ) → placed f (n + 1) es ns ≡ put (f n) (placed f n es ns) (bumped 1 f n ns)
  unfolding placed
  placed_next n = rw (add-one n)

  pub placed_size : (n : ℕ) → length (placed f n es ns) ≡ length es
  unfolding placed
  placed_size zero = refl
  placed_size (suc n) = put_size (f n) (placed f n es ns) (bumped 1 f n ns) ∙ placed_size n

abbrev pub Equal : (f g : ℕ → Lane) (n m : ℕ) → Type 0
Equal f g n m = (j : ℕ) → j < m → f (n + j) ≡ g j

pub equal_alike : (f g : ℕ → Lane) (n m : ℕ) → Equal f g n m → Alike f g n m
equal_alike f g n m A j h = (ap (λ (x : Lane). x.code) (A j h), ap (λ (x : Lane). x.high) (A j h))

pub placed_on : (f g : ℕ → Lane) (es ns : List ℕ) (n m : ℕ) → Equal f g n m → placed g m (placed f n es ns) (bumped 1 f n ns) ≡ placed f (n + m) es ns
unfolding placed
placed_on f g es ns n zero A = let e : n ≡ n + 0 = omega arith in ap (λ (i : ℕ). placed f i es ns) e
placed_on f g es ns n (suc m) A =
    let e : suc (n + m) ≡ n + suc m = omega arith in
    let p = placed_on f g es ns n m (λ j h. A j (omega arith)) in
    let q = bumped_on 1 f g ns n m (equal_alike f g n m (λ j h. A j (omega arith))) in
    let r = sym (A m (omega arith)) in
    (λ i. put (r i) (p i) (q i)) ∙ ap (λ (i : ℕ). placed f i es ns) e

-- ---- there is room

pub count_room : (k : ℕ) (f : ℕ → Lane) (ns : List ℕ) (n m : ℕ) → k ≤ 2 → CountRoom ns (n + m) → CountRoom (bumped k f n ns) m
count_room k f ns n m few R = record { size = bumped_size k f ns n ∙ R.size; fits = λ i. omega (arith, R.fits i, bumped_most k f ns few R.size n i) }

pub count_mono : (f : ℕ → Lane) (l n m : ℕ) → count_to f l n ≤ count_to f l (n + m)
unfolding count_to
count_mono f l n zero = let e : n + 0 ≡ n = omega arith in rw e (omega arith)
count_mono f l n (suc m) = let e : n + suc m ≡ suc (n + m) = omega arith in rw e (omega (arith, count_mono f l n m))

pub entry_room : (f g : ℕ → Lane) (es ns : List ℕ) (n m r : ℕ) → Equal f g n m → EntryRoom f (n + m + r) es ns → EntryRoom g m (placed f n es ns) (bumped 1 f n ns)
entry_room f g es ns n m r A R = record {
  size = bumped_size 1 f ns n ∙ R.size;
  codes = λ i h. rw (← ap (λ (x : Lane). x.code) (A i h)) (R.codes (n + i) (omega arith));
  room = λ l h. omega (arith, R.room l h, bumped_at 1 f ns (omega arith) R.size n l h, count_on f g l n m (equal_alike f g n m A), count_mono f l (n + m) r, placed_size f es ns n);
  fits = λ l h. omega (arith, R.fits l h, bumped_at 1 f ns (omega arith) R.size n l h, count_on f g l n m (equal_alike f g n m A), count_mono f l (n + m) r);
}

-- a lane that is listed has a place
pub lane_room : (x : Lane) {es ns : List ℕ} → EntryRoom (λ _. x) 1 es ns → is_move x.code x.high ≡ true → (l : ℕ) → l ≡ list_of x.high → (get_or ns (l + 1) 0 < length es) × (get_or ns (l + 1) 0 < 65535)
unfolding count_to
lane_room x R t l e =
    let h = hit_here l x t (sym e) in
    (omega (arith, R.room l (omega (arith, list_few x.high))), omega (arith, R.fits l (omega (arith, list_few x.high))))

-- ---- in a loop over t lanes, n of which are done

pub count_next : (k : ℕ) (f : ℕ → Lane) {ns ns' : List ℕ} (n m t : ℕ) → k ≤ 2 → n + m ≤ t → ns' ≡ bumped k f n ns → CountRoom ns t → CountRoom ns' m
count_next k f {ns} n m t few h e R = rw e (count_room k f ns n m few (record { size = R.size; fits = λ i. omega (arith, R.fits i) }))

pub entry_next : (f g : ℕ → Lane) {es es' ns ns' : List ℕ} (n m t : ℕ) → n + m ≤ t → es' ≡ placed f n es ns → ns' ≡ bumped 1 f n ns → Equal f g n m → EntryRoom f t es ns → EntryRoom g m es' ns'
entry_next f g {es} {es'} {ns} {ns'} n m t h d e A R =
    let z : t ≡ n + m + (t - (n + m)) = omega arith in
    rw (d, e) (entry_room f g es ns n m (t - (n + m)) A (subst (λ (i : ℕ). EntryRoom f i es ns) z R))

-- none is done
pub bumped_start : (k : ℕ) (f : ℕ → Lane) (ns : List ℕ) (n : ℕ) → n ≡ 0 → ns ≡ bumped k f n ns
bumped_start k f ns n e = rw e (sym (bumped_none k f ns))

pub placed_start : (f : ℕ → Lane) (es ns : List ℕ) (n : ℕ) → n ≡ 0 → es ≡ placed f n es ns
placed_start f es ns n e = rw e (sym (placed_none f es ns))
