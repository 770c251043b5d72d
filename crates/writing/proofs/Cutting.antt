-- Laws of the texts before and after a byte, and of the segments. Assumes nothing.
use Rattle.std.specs.Prelude.{◌≡◌, ◌∷◌, ◌+◌, ◌-◌, ◌<◌, ◌≤◌}
use Rattle.basics.proofs.Words.{refl, ap, sym, ◌∙◌, Bool, true, false, List, [], Option, some, none, ℕ, suc, min, arith, length, get_or, take, drop, length-take, length-drop, drop_of_length-le, eqb, take_all, add-zero, suc_inj, suc-ne-zero, add-one, eq-eqb, ne_eqb}
use Rattle.std.specs.List.{AllWithin, HoldsAt}
use Rattle.std.proofs.Common.{Option as Answer}
use Rattle.std.specs.Option.{MatchOption, unwrap_or}
use Rattle.std.proofs.lemmas.Iterator.{index_from_first}
use Rattle.writing.specs.Text.{before, after, segments}
use Rattle.writing.specs.Cutting.{before_nil, after_nil, segments_nil, before_hit, after_hit, segments_hit, before_miss, after_miss, segments_miss}
use Rattle.writing.proofs.Lists.{rest_cons}

-- a search for a byte: how many bytes stand before the first
pub before_position : (b : ℕ) (l : List ℕ) (r : Answer ℕ)
    → MatchOption r (AllWithin (λ x. x ≡ b → ⊥) l 0 (length l)) (λ i. (i < length l) × HoldsAt (λ x. x ≡ b) l i × AllWithin (λ x. x ≡ b → ⊥) l 0 i)
    → length (before b l) ≡ unwrap_or r (length l)
before_position b l r h =
    index_from_first (λ m. length (before b m)) (λ x. x ≡ b) (λ x. x ≡ b → ⊥) (ap length (before_nil b))
    (λ x xs e. ap length (before_hit b x xs (eq-eqb x b e)))
    (λ x xs n. ap length (before_miss b x xs (ne_eqb x b n)) ∙ sym (add-one (length (before b xs))))
    l
    r
    h

-- the text before the byte is the front of the text
pub take_before : (b : ℕ) (l : List ℕ) → take (length (before b l)) l ≡ before b l
take_before b [] = rw (before_nil b)
take_before b (x ∷ xs) = go (eqb x b) refl (take_before b xs)
  where
    go : (t : Bool) → eqb x b ≡ t → take (length (before b xs)) xs ≡ before b xs → take (length (before b (x ∷ xs))) (x ∷ xs) ≡ before b (x ∷ xs)
    go true e i = rw (before_hit b x xs e)
    go false e i = rw (before_miss b x xs e, i)

pub before_length : (b : ℕ) (l : List ℕ) → length (before b l) ≤ length l
before_length b l =
    let le : length (before b l) ≡ min (length (before b l)) (length l) = sym (ap length (take_before b l)) ∙ length-take (length (before b l)) l in
    omega arith

-- the byte is there exactly where the text before it is not the whole
pub after_none : (b : ℕ) (l : List ℕ) → length (before b l) ≡ length l → after b l ≡ none
after_none b [] h = after_nil b
after_none b (x ∷ xs) h = go (eqb x b) refl h (after_none b xs)
  where
    go : (t : Bool) → eqb x b ≡ t → length (before b (x ∷ xs)) ≡ suc (length xs) → (length (before b xs) ≡ length xs → after b xs ≡ none) → after b (x ∷ xs) ≡ none
    go true e h i = absurd (suc-ne-zero (length xs) (sym (rw (before_hit b x xs e) at h)))
    go false e h i = after_miss b x xs e ∙ i (suc_inj (rw (before_miss b x xs e) at h))

pub after_some : (b : ℕ) (l : List ℕ) → (length (before b l) ≡ length l → ⊥) → after b l ≡ some (drop (length (before b l) + 1) l)
after_some b [] h = absurd (h (rw (before_nil b)))
after_some b (x ∷ xs) h = go (eqb x b) refl h (after_some b xs)
  where
    go : (t : Bool) → eqb x b ≡ t → (length (before b (x ∷ xs)) ≡ suc (length xs) → ⊥)
        → ((length (before b xs) ≡ length xs → ⊥) → after b xs ≡ some (drop (length (before b xs) + 1) xs))
        → after b (x ∷ xs) ≡ some (drop (length (before b (x ∷ xs)) + 1) (x ∷ xs))
    go true e h i = rw (after_hit b x xs e, before_hit b x xs e)
    go false e h i = rw (after_miss b x xs e, before_miss b x xs e, i (λ n. h (rw (before_miss b x xs e, n))), add-one, add-one)

-- where the byte is there, the texts before and after it are shorter
pub before_short : (b : ℕ) (l : List ℕ) {rest : List ℕ} → after b l ≡ some rest → length (before b l) < length l
before_short b l e =
    let le = before_length b l in
    let ne : (length (before b l) ≡ length l → ⊥) = λ h. let q : _ ≡ _ = sym e ∙ after_none b l h in let z : ◌≡◌ {A = ℕ} 0 1 = cc in omega arith in
    omega arith

pub after_short : (b : ℕ) (l : List ℕ) {rest : List ℕ} → after b l ≡ some rest → length rest ≤ length l
after_short b l {rest} e =
    let short = before_short b l e in
    let same : rest ≡ drop (length (before b l) + 1) l = cc (after_some b l (λ h. omega (arith, h))) in
    rw (same, length-drop) (omega arith)

-- the first segment is the text before the byte, and the others are the segments of the text after it
abbrev pub other_segments : ℕ → Option (List ℕ) → List (List ℕ)
other_segments b none = []
other_segments b (some rest) = segments b rest

segments_cut : (b : ℕ) (l : List ℕ) → segments b l ≡ before b l ∷ other_segments b (after b l)
segments_cut b [] = rw (segments_nil b, before_nil b, after_nil b)
segments_cut b (x ∷ xs) = go (eqb x b) refl (segments_cut b xs)
  where
    go : (t : Bool) → eqb x b ≡ t → segments b xs ≡ before b xs ∷ other_segments b (after b xs) → segments b (x ∷ xs) ≡ before b (x ∷ xs) ∷ other_segments b (after b (x ∷ xs))
    go true e i = rw (segments_hit b x xs e, before_hit b x xs e, after_hit b x xs e)
    go false e i = rw (segments_miss b x xs e, before_miss b x xs e, after_miss b x xs e, i)

-- the part of a slice from a place on is the rest of its list
pub part_rest : (l : List ℕ) (k : ℕ) → take (length l - k) (drop k l) ≡ drop k l
part_rest l k = take_all (length l - k) (drop k l) (simp length-drop (omega arith))

-- a text's first segment ends at n: the others are none where that is the end, else the segments of the rest
module _ (b : ℕ) (l : List ℕ) (n : ℕ) (e : n ≡ length (before b l)) where
  pub segment_first : segments b l ≡ take n l ∷ other_segments b (after b l)
  segment_first = rw (e, take_before b l) (segments_cut b l)

  pub segment_last : n ≡ length l → segments b l ≡ take n l ∷ []
  segment_last h = rw (after_none b l (sym e ∙ h)) at segment_first

  pub segment_more : (n ≡ length l → ⊥) → segments b l ≡ take n l ∷ segments b (take (length l - (n + 1)) (drop (n + 1) l))
  segment_more h = rw (part_rest l (n + 1)) (rw (after_some b l (λ k. h (e ∙ k)), ← e) at segment_first)

-- a text's bytes are those of its segments and those between them
abbrev pub lengths : List (List ℕ) → ℕ
lengths [] = 0
lengths (p ∷ ps) = length p + 1 + lengths ps

pub segments_lengths : (b : ℕ) (l : List ℕ) → lengths (segments b l) ≡ length l + 1
segments_lengths b [] = rw (segments_nil b)
segments_lengths b (x ∷ xs) = go (eqb x b) refl (segments_lengths b xs)
  where
    go : (t : Bool) → eqb x b ≡ t → lengths (segments b xs) ≡ length xs + 1 → lengths (segments b (x ∷ xs)) ≡ suc (length xs) + 1
    go true e i = rw (segments_hit b x xs e) (omega arith)
    go false e i = rw (segments_miss b x xs e, segments_cut b xs) (omega (arith, rw (segments_cut b xs) at i))
