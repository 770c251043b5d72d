-- Laws of the search for an id, of the removal and of the search for the best row, for the loops. Assumes nothing.
use Rattle.std.specs.Prelude.{◌≡◌, ◌∷◌, ◌++◌, ◌+◌, ◌-◌, ◌<◌, ◌≤◌}
use Rattle.basics.proofs.Words.{refl, sym, ap, ◌∙◌, Bool, true, false, not, List, [], ℕ, zero, suc, arith, get_or, length, set, take, drop, length-set, length-take, eqb, lit<, drop-cons, add-one, eqb-true, eqb-false, not-true, not-false}
use Rattle.std.proofs.lemmas.List.{get_or_default}
use Rattle.refusals.specs.declared.Refusal.{Refusal}
use Rattle.std.proofs.Common.{Result, Ok, Err, Option as Answer, Some, None, cond, position, ltb, ltb-false}
use Rattle.std.specs.List.{position_or_len}
use Rattle.std.specs.Option.{unwrap_or}
use Rattle.refusals.specs.Refusals.{checked_number, refuse}
use Rattle.refusals.proofs.Refusals.{was_true, was_false}
use Rattle.ranking.specs.declared.Profile.{Profile}
use Rattle.live.specs.declared.Row.{Row}
use Rattle.live.specs.Rows.{zero_row, has_id, present, without, removed, led}
use Rattle.live.proofs.Rows.{without_none, without_here, present_here, present_later}
use Rattle.live.specs.Steps.{row_at, place, closing_by, putting_in, taking_out, better_of, best_from, leader_down}

-- the rows from a place on, of the first count
abbrev pub rest : ℕ → List Row → ℕ → List Row
rest count l i = take (count - i) (drop i l)

rest_next : (count : ℕ) (l : List Row) (i : ℕ) (d : Row) → i < count → i < length l → rest count l i ≡ get_or l i d ∷ rest count l (i + 1)
rest_next count l i d h k =
    let e : count - i ≡ suc (count - (i + 1)) = omega arith in
    let f : drop i l ≡ get_or l i d ∷ drop (i + 1) l = rw add-one (drop-cons l i d k) in
    rw (e, f)

place_none : (id : ℕ) {l : List Row} {r : Row} {t : List Row} → l ≡ r ∷ t → has_id id r ≡ false → place id l ≡ suc (place id t)
unfolding place
place_none id e h = rw (e, h, place)

place_here : (id : ℕ) {l : List Row} {r : Row} {t : List Row} → l ≡ r ∷ t → has_id id r ≡ true → place id l ≡ 0
unfolding place
place_here id e h = rw (e, h, place)

-- ---- the place that was found, or the number of the rows
passed_over : (id : ℕ) (l : List Row) → place id l ≡ position_or_len (has_id id) l
unfolding place
passed_over id [] = refl
passed_over id (r ∷ l) = go (has_id id r) refl (passed_over id l)
  where
    go : (b : Bool) → has_id id r ≡ b → place id l ≡ position_or_len (has_id id) l → place id (r ∷ l) ≡ position_or_len (has_id id) (r ∷ l)
    go true h e = rw (h, place)
    go false h e =
        let f : suc (place id l) ≡ 1 + position_or_len (has_id id) l = omega (arith, e) in
        rw (h, place) f

-- ---- the closing up has come to a place
pub record Closed (at last : ℕ) (l : List Row) (m : List Row) (i : ℕ) : Type 0 where
  pub from : at ≤ i
  pub within : i ≤ last
  pub long : length m ≡ length l
  pub same : closing_by (last - i) i m ≡ closing_by (last - at) at l

pub closed_start : {at last : ℕ} {l : List Row} → at ≤ last → Closed at last l l at
closed_start h = record { from = omega arith; within = h; long = refl; same = refl }

closing_next : (n i : ℕ) (m : List Row) {k : ℕ} → k ≡ suc n → closing_by n (i + 1) (set m i (row_at m (i + 1))) ≡ closing_by k i m
unfolding closing_by
closing_next n i m e = rw e

pub closed_next : {at last : ℕ} {l m : List Row} {i : ℕ} (d : Row) → Closed at last l m i → i < last → last < length l → Closed at last l (set m i (get_or m (i + 1) d)) (i + 1)
closed_next {at} {last} {l} {m} {i} d c h k =
    let e : get_or m (i + 1) d ≡ row_at m (i + 1) = get_or_default m (i + 1) d zero_row (omega (arith, c.long)) in
    record {
      from = omega (arith, c);
      within = omega arith;
      long = length-set m i (get_or m (i + 1) d) ∙ c.long;
      same = ap (λ (r : Row). closing_by (last - (i + 1)) (i + 1) (set m i r)) e ∙ closing_next (last - (i + 1)) i m (omega arith) ∙ c.same;
    }

pub closed_end : {at last : ℕ} {l m : List Row} {i : ℕ} → Closed at last l m i → last ≤ i → {zero : Row} → zero ≡ zero_row → set m last zero ≡ closing_by (last - at) at l
unfolding closing_by
closed_end {at} {last} {l} {m} {i} c h {zero} z =
    let f : i ≡ last = omega (arith, c.within) in
    let e : last - i ≡ 0 = omega arith in
    let p : closing_by (last - i) i m ≡ set m i zero_row = rw e in
    ap (set m last) z ∙ ap (λ (n : ℕ). set m n zero_row) (sym f) ∙ sym p ∙ c.same

-- ---- what the two make of a list of which the first count are the rows

-- an id whose place is the number of the rows is not there, and every other is
absent : (id : ℕ) (l : List Row) → place id l ≡ length l → present id l ≡ false
unfolding present
absent id [] e = refl
absent id (r ∷ l) e = go (has_id id r) refl (absent id l)
  where
    go : (b : Bool) → has_id id r ≡ b → (place id l ≡ length l → present id l ≡ false) → present id (r ∷ l) ≡ false
    go true h k =
        let p : place id (r ∷ l) ≡ 0 = place_here id refl h in
        absurd (omega (arith, e, p))
    go false h k =
        let p : place id (r ∷ l) ≡ suc (place id l) = place_none id refl h in
        present_later id r l h ∙ k (omega (arith, e, p))

place_empty : (id : ℕ) → place id [] ≡ 0
unfolding place
place_empty id = refl

there : (id : ℕ) (l : List Row) → (place id l ≡ length l → ⊥) → present id l ≡ true
there id [] n = absurd (n (place_empty id))
there id (r ∷ l) n = go (has_id id r) refl (there id l)
  where
    go : (b : Bool) → has_id id r ≡ b → ((place id l ≡ length l → ⊥) → present id l ≡ true) → present id (r ∷ l) ≡ true
    go true h k = present_here id r l h
    go false h k =
        let p : place id (r ∷ l) ≡ suc (place id l) = place_none id refl h in
        present_later id r l h ∙ k (λ e. n (p ∙ ap {B = ℕ} suc e))

place_within : (id : ℕ) (l : List Row) → place id l ≤ length l
place_within id [] = omega (arith, place_empty id)
place_within id (r ∷ l) = go (has_id id r) refl (place_within id l)
  where
    go : (b : Bool) → has_id id r ≡ b → place id l ≤ length l → place id (r ∷ l) ≤ suc (length l)
    go true e k =
        let p : place id (r ∷ l) ≡ 0 = place_here id refl e in
        omega (arith, p)
    go false e k =
        let p : place id (r ∷ l) ≡ suc (place id l) = place_none id refl e in
        omega (arith, p, k)

-- the closing up behind a row
closing_behind : (n : ℕ) {i j : ℕ} (r : Row) (l : List Row) → j ≡ suc i → closing_by n j (r ∷ l) ≡ r ∷ closing_by n i l
unfolding closing_by
closing_behind zero r l e = rw e
closing_behind (suc n) {i} {j} r l e =
    let f : j + 1 ≡ suc (i + 1) = omega arith in
    let h : row_at (r ∷ l) (j + 1) ≡ row_at l (i + 1) = rw f in
    let g : set (r ∷ l) j (row_at (r ∷ l) (j + 1)) ≡ r ∷ set l i (row_at l (i + 1)) = rw (h, e) in
    rw g (closing_behind n r (set l i (row_at l (i + 1))) f)

closing_first : (n : ℕ) (r : Row) (l : List Row) → n ≤ length l → closing_by n 0 (r ∷ l) ≡ take n l ++ (zero_row ∷ drop n l)
unfolding closing_by
closing_first zero r l h = refl
closing_first (suc n) r [] h = absurd (omega arith)
closing_first (suc n) r (x ∷ l) h = closing_behind n x (x ∷ l) refl ∙ ap {B = List Row} (λ t. x ∷ t) (closing_first n x l (omega arith))

-- the row at the place found is taken out
closed_removed : (id count : ℕ) (l : List Row) → count ≤ length l → place id (take count l) < count
    → closing_by (count - 1 - place id (take count l)) (place id (take count l)) l ≡ removed id count l
closed_removed id zero l h k = absurd (omega arith)
closed_removed id (suc n) [] h k = absurd (omega arith)
closed_removed id (suc n) (r ∷ l) h k = go (has_id id r) refl (closed_removed id n l (omega arith))
  where
    p : ℕ
    p = place id (take n l)

    go : (b : Bool) → has_id id r ≡ b → (p < n → closing_by (n - 1 - p) p l ≡ removed id n l)
        → closing_by (suc n - 1 - place id (r ∷ take n l)) (place id (r ∷ take n l)) (r ∷ l) ≡ without id (r ∷ take n l) ++ (zero_row ∷ drop n l)
    go true e f =
        let a : place id (r ∷ take n l) ≡ 0 = place_here id refl e in
        let m : suc n - 1 - 0 ≡ n = omega arith in
        rw (a, m, without_here id r (take n l) e) (closing_first n r l (omega arith))
    go false e f =
        let a : place id (r ∷ take n l) ≡ suc p = place_none id refl e in
        let m : suc n - 1 - suc p ≡ n - 1 - p = omega arith in
        rw (a, m, without_none id r (take n l) e) (closing_behind (n - 1 - p) r l refl ∙ ap {B = List Row} (λ t. r ∷ t) (f (omega (arith, k, a))))

-- the first count of a list that has so many
first_long : (count : ℕ) (l : List Row) → count ≤ length l → length (take count l) ≡ count
first_long count l h = length-take count l ∙ omega arith

-- the place that the code finds
pub placed : (id count : ℕ) (l : List Row) → count ≤ length l → {r : Answer ℕ} {at : ℕ} → r ≡ position (has_id id) (take count l) → at ≡ unwrap_or r count → at ≡ place id (take count l)
placed id count l h {r} {at} e f = f ∙ ap (λ (r : Answer ℕ). unwrap_or r count) e ∙ go (ltb n (length (take count l))) refl
  where
    n : ℕ
    n = position_or_len (has_id id) (take count l)

    same : place id (take count l) ≡ n
    same = passed_over id (take count l)

    go : (b : Bool) → ltb n (length (take count l)) ≡ b → unwrap_or (cond b (Some n) None) count ≡ place id (take count l)
    go true t = sym same
    go false t = omega (arith, ltb-false n (length (take count l)) t, place_within id (take count l), first_long count l h, same)

-- a place found that is not the count is below it
pub found : (id count : ℕ) (l : List Row) → count ≤ length l → (place id (take count l) ≡ count → ⊥) → place id (take count l) < count
found id count l h n =
    let w = place_within id (take count l) in
    let e = first_long count l h in
    lt_of (place id (take count l)) count (omega (arith, w, e)) n
  where
    lt_of : (a b : ℕ) → a ≤ b → (a ≡ b → ⊥) → a < b
    lt_of a b le ne = omega (arith, le, ne)

absent_first : (id count : ℕ) (l : List Row) → count ≤ length l → place id (take count l) ≡ count → present id (take count l) ≡ false
absent_first id count l h e = absent id (take count l) (e ∙ sym (first_long count l h))

there_first : (id count : ℕ) (l : List Row) → count ≤ length l → (place id (take count l) ≡ count → ⊥) → present id (take count l) ≡ true
there_first id count l h n = there id (take count l) (λ e. n (e ∙ first_long count l h))

-- ---- taking out: the id is not there, or it is
pub not_taken : (id count : ℕ) (l : List Row) → count ≤ length l → place id (take count l) ≡ count → l ≡ taking_out id count l
unfolding taking_out
not_taken id count l h e = rw (absent_first id count l h e, taking_out)

pub taken : (id count : ℕ) (l : List Row) → count ≤ length l → (place id (take count l) ≡ count → ⊥)
    → closing_by (count - 1 - place id (take count l)) (place id (take count l)) l ≡ taking_out id count l
unfolding taking_out
taken id count l h n = rw (there_first id count l h n, taking_out) (closed_removed id count l h (found id count l h n))

-- ---- putting in: the id is there, or it is not
pub not_put : (count : ℕ) (l : List Row) (row : Row) → count ≤ length l → (place row.id (take count l) ≡ count → ⊥) → l ≡ putting_in count l row
unfolding putting_in
not_put count l row h n = rw (there_first row.id count l h n, putting_in)

pub put : (count : ℕ) (l : List Row) (row : Row) → count ≤ length l → place row.id (take count l) ≡ count → set l count row ≡ putting_in count l row
unfolding putting_in
put count l row h e = rw (absent_first row.id count l h e, putting_in)

-- ---- refusal 24 by the place r that was found, of a check that refused or passed
module _ (id count : ℕ) (l : List Row) (h : count ≤ length l) (r : ℕ) (is : r ≡ place id (take count l)) where
  apart : eqb r count ≡ false → place id (take count l) ≡ count → ⊥
  apart f e = eqb-false r count f (is ∙ e)

  at_end : eqb r count ≡ true → place id (take count l) ≡ count
  at_end t = sym is ∙ eqb-true r count t

  module _ {a : Result (Unit {0}) Refusal} where
    -- of an add
    pub absent_refused : {x : Refusal} → a ≡ Err x → checked_number a ≡ refuse 24 (eqb r count) → (place id (take count l) ≡ count → ⊥) × (checked_number a ≡ refuse 24 (not (present id (take count l))))
    absent_refused told e =
        let f = was_false told 24 (eqb r count) e in
        (apart f, e ∙ ap (refuse 24) (f ∙ sym (ap not (there_first id count l h (apart f)))))

    pub absent_passed : a ≡ Ok tt → checked_number a ≡ refuse 24 (eqb r count) → (place id (take count l) ≡ count) × (checked_number a ≡ refuse 24 (not (present id (take count l))))
    absent_passed told e =
        let t = was_true told 24 (eqb r count) (lit< tt) e in
        (at_end t, e ∙ ap (refuse 24) (t ∙ sym (ap not (absent_first id count l h (at_end t)))))

    -- of a removal
    pub present_refused : {x : Refusal} → a ≡ Err x → checked_number a ≡ refuse 24 (not (eqb r count)) → (place id (take count l) ≡ count) × (checked_number a ≡ refuse 24 (present id (take count l)))
    present_refused told e =
        let f = was_false told 24 (not (eqb r count)) e in
        let t = not-false (eqb r count) f in
        (at_end t, e ∙ ap (refuse 24) (f ∙ sym (absent_first id count l h (at_end t))))

    pub present_passed : a ≡ Ok tt → checked_number a ≡ refuse 24 (not (eqb r count)) → (place id (take count l) ≡ count → ⊥) × (checked_number a ≡ refuse 24 (present id (take count l)))
    present_passed told e =
        let t = was_true told 24 (not (eqb r count)) (lit< tt) e in
        let f = not-true (eqb r count) t in
        (apart f, e ∙ ap (refuse 24) (t ∙ sym (there_first id count l h (apart f))))

-- ---- the search for the best row
pub best_next : (ranking : List ℕ) (best : Row) {l : List Row} {r : Row} {t : List Row} → l ≡ r ∷ t → best_from ranking best l ≡ best_from ranking (better_of ranking r best) t
unfolding best_from
best_next ranking best e = rw e

pub best_end : (ranking : List ℕ) (best : Row) {l : List Row} → l ≡ [] → best_from ranking best l ≡ best
unfolding best_from
best_end ranking best e = rw e

-- the first row and the later ones, of the first count
pub led_by : (ranking : List ℕ) (count : ℕ) (l : List Row) (d : Row) → 0 < count → count ≤ length l → led (best_from ranking (get_or l 0 d) (take (count - 1) (drop 1 l))) ≡ leader_down ranking (take count l)
unfolding leader_down
led_by ranking zero l d h k = absurd (omega arith)
led_by ranking (suc n) [] d h k = absurd (omega arith)
led_by ranking (suc n) (r ∷ l) d h k =
    let e : suc n - 1 ≡ n = omega arith in
    ap (λ (m : ℕ). led (best_from ranking r (take m l))) e
