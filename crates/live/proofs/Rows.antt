-- Laws of the rows with and without an id. Assumes nothing.
use Rattle.std.specs.Prelude.{◌≡◌, ◌∷◌, ◌++◌, ◌<◌}
use Rattle.basics.proofs.Words.{refl, sym, ap, ◌∙◌, Bool, true, false, not, List, [], ℕ, zero, suc, arith, length, take, all_of, pairwise, those, both, left, right, clash, fails, all_append, those_here, those_later}
use Rattle.std.proofs.Common.{eqb-true, eq-eqb}
use Rattle.live.specs.declared.Row.{Row}
use Rattle.live.specs.Rows.{has_id, present, without, lacks, differ}

pub without_none : (id : ℕ) (r : Row) (l : List Row) → has_id id r ≡ false → without id (r ∷ l) ≡ r ∷ without id l
unfolding without
without_none id r l h = rw (h, without)

pub without_here : (id : ℕ) (r : Row) (l : List Row) → has_id id r ≡ true → without id (r ∷ l) ≡ l
unfolding without
without_here id r l h = rw (h, without)

pub present_here : (id : ℕ) (r : Row) (l : List Row) → has_id id r ≡ true → present id (r ∷ l) ≡ true
unfolding present
present_here id r l h = rw h

pub present_later : (id : ℕ) (r : Row) (l : List Row) → has_id id r ≡ false → present id (r ∷ l) ≡ present id l
unfolding present
present_later id r l h = rw h

pub some_row : (id count : ℕ) (l : List Row) → present id (take count l) ≡ true → 0 < count
unfolding present
some_row id zero l t = absurd (clash t refl)
some_row id (suc n) l t = omega arith

-- one row fewer, where the id is present
pub length_without : (id : ℕ) (l : List Row) → present id l ≡ true → suc (length (without id l)) ≡ length l
unfolding present
length_without id [] t = absurd (clash t refl)
length_without id (r ∷ l) t = go (has_id id r) refl (length_without id l)
  where
    go : (b : Bool) → has_id id r ≡ b → (present id l ≡ true → suc (length (without id l)) ≡ length l) → suc (length (without id (r ∷ l))) ≡ suc (length l)
    go true h k = ap {B = ℕ} (λ (t : List Row). suc (length t)) (without_here id r l h)
    go false h k = ap {B = ℕ} (λ (t : List Row). suc (length t)) (without_none id r l h) ∙ ap {B = ℕ} suc (k (sym (present_later id r l h) ∙ t))

-- those that pass, where all do
those_all : {A : Type 0} (f : A → Bool) (xs : List A) → all_of f xs ≡ true → those f xs ≡ xs
unfolding all_of those
those_all f [] t = refl
those_all {A} f (x ∷ xs) t =
    let h : f x ≡ true = left (f x) (all_of f xs) t in
    those_here f x xs h ∙ ap {B = List A} (λ ys. x ∷ ys) (those_all f xs (right (f x) (all_of f xs) t))

-- where no two rows have one id, all rows but the first with an id are those with another
pub without_those : (id : ℕ) (l : List Row) → pairwise differ l ≡ true → without id l ≡ those (lacks id) l
unfolding without those pairwise
without_those id [] t = refl
without_those id (r ∷ l) t = go (has_id id r) refl (without_those id l (right (all_of (differ r) l) (pairwise differ l) t))
  where
    go : (b : Bool) → has_id id r ≡ b → without id l ≡ those (lacks id) l → without id (r ∷ l) ≡ those (lacks id) (r ∷ l)
    go true h k =
        let e : r.id ≡ id = eqb-true r.id id h in
        let rest : all_of (lacks id) l ≡ true = ap (λ (i : ℕ). all_of (lacks i) l) (sym e) ∙ left (all_of (differ r) l) (pairwise differ l) t in
        without_here id r l h ∙ sym (those_later (lacks id) r l (ap not h) ∙ those_all (lacks id) l rest)
    go false h k = without_none id r l h ∙ ap {B = List Row} (λ rows. r ∷ rows) k ∙ sym (those_here (lacks id) r l (ap not h))

-- a row whose id is not present differs from all behind which it comes
pub differ_last : (l : List Row) (row : Row) → pairwise differ l ≡ true → present row.id l ≡ false → pairwise differ (l ++ (row ∷ [])) ≡ true
unfolding pairwise all_of
differ_last [] row t p = refl
differ_last (r ∷ l) row t p = go (has_id row.id r) refl (differ_last l row (right (all_of (differ r) l) (pairwise differ l) t))
  where
    go : (b : Bool) → has_id row.id r ≡ b → (present row.id l ≡ false → pairwise differ (l ++ (row ∷ [])) ≡ true) → pairwise differ (r ∷ (l ++ (row ∷ []))) ≡ true
    go true h k = absurd (clash (present_here row.id r l h) p)
    go false h k =
        let other : differ r row ≡ true = ap not (fails (has_id r.id row) (λ e. clash (eq-eqb r.id row.id (sym (eqb-true row.id r.id e))) h)) in
        let one : all_of (differ r) (row ∷ []) ≡ true = both other refl in
        both (all_append (differ r) l (row ∷ []) ∙ both (left (all_of (differ r) l) (pairwise differ l) t) one) (k (sym (present_later row.id r l h) ∙ p))
