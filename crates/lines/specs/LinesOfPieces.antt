-- However the input is cut into pieces, the lines taken are its lines; and each call for the next line takes them in turn.
use Rattle.std.specs.Prelude.{◌≡◌, ◌∷◌, ◌++◌, ◌≤◌}
use Rattle.basics.specs.Words.{refl, ap, sym, ◌∙◌, Bool, true, false, List, [], map, append-nil, some, none, ℕ, zero, suc, arith, length, take, length-take, eqb, leb, take_all, append_snoc, joined}
use Rattle.std.proofs.Common.{leb-true, leb-false}
use Rattle.std.proofs.lemmas.Bool.{lt-leb}
use Rattle.writing.specs.Text.{line_end, to_first, before, after}
use Rattle.lines.specs.Parsing.{parsed_line}
use Rattle.lines.specs.Input.{lines_of, kept}
use Rattle.writing.specs.Cutting.{before_nil, after_nil, before_hit, after_hit, before_miss, after_miss}
use Rattle.lines.specs.Taking.{ended_lines, held_after, last_line, lines_taken}

-- a byte that ends a line, and one that does not
module _ (x : ℕ) (xs held : List ℕ) where
  module _ (e : eqb x line_end ≡ true) where
    ended_hit : ended_lines held (x ∷ xs) ≡ held ∷ ended_lines [] xs
    unfolding ended_lines
    ended_hit = rw (ended_lines, e)

    held_hit : held_after held (x ∷ xs) ≡ held_after [] xs
    unfolding held_after
    held_hit = rw (held_after, e)

    lines_hit : lines_of (x ∷ xs) ≡ [] ∷ lines_of xs
    unfolding lines_of
    lines_hit = rw (lines_of, e)

  module _ (e : eqb x line_end ≡ false) where
    ended_miss : ended_lines held (x ∷ xs) ≡ ended_lines (kept (held ++ (x ∷ []))) xs
    unfolding ended_lines
    ended_miss = rw (ended_lines, e)

    held_miss : held_after held (x ∷ xs) ≡ held_after (kept (held ++ (x ∷ []))) xs
    unfolding held_after
    held_miss = rw (held_after, e)

    lines_miss : lines_of (x ∷ xs) ≡ to_first x (lines_of xs)
    unfolding lines_of
    lines_miss = rw (lines_of, e)

-- the bytes of a line that has not ended
data Unended : List ℕ → Type 0 where
  none_yet : Unended []
  one_more : {x : ℕ} {xs : List ℕ} → eqb x line_end ≡ false → Unended xs → Unended (x ∷ xs)

unended_snoc : {l : List ℕ} (x : ℕ) → Unended l → eqb x line_end ≡ false → Unended (l ++ (x ∷ []))
unended_snoc x none_yet e = one_more e none_yet
unended_snoc x (one_more d u) e = one_more d (unended_snoc x u e)

-- where it ends, and where the input ends instead
lines_ended : {l : List ℕ} (x : ℕ) (rest : List ℕ) → Unended l → eqb x line_end ≡ true → lines_of (l ++ (x ∷ rest)) ≡ l ∷ lines_of rest
lines_ended x rest none_yet e = lines_hit x rest [] e
lines_ended x rest (one_more {x = y} {xs = l} d u) e = lines_miss y (l ++ (x ∷ rest)) [] d ∙ ap (to_first y) (lines_ended x rest u e)

lines_last : {l : List ℕ} → Unended l → lines_of (l ++ []) ≡ last_line l
unfolding lines_of
lines_last none_yet = refl
lines_last (one_more {x = y} {xs = l} d u) = lines_miss y (l ++ []) [] d ∙ ap (to_first y) (lines_last u) ∙ first l
  where
    first : (l : List ℕ) → to_first y (last_line l) ≡ last_line (y ∷ l)
    first [] = refl
    first (z ∷ l) = refl

-- what is kept of what is kept and more
take_joined : (n : ℕ) (l m : List ℕ) → take n (take n l ++ m) ≡ take n (l ++ m)
take_joined zero l m = refl
take_joined (suc n) [] m = refl
take_joined (suc n) (x ∷ l) m = ap (λ (r : List ℕ). x ∷ r) (take_joined n l m)

kept_joined : (l m : List ℕ) → kept (kept l ++ m) ≡ kept (l ++ m)
kept_joined l m = take_joined 201 l m

kept_last : (l : List ℕ) → last_line (kept l) ≡ map kept (last_line l)
kept_last [] = refl
kept_last (x ∷ l) = refl

-- what is taken from pieces, where the bytes of an unended line come before them
abbrev Taken : List (List ℕ) → List ℕ → Type 0
Taken ps l = lines_taken (kept l) ps ≡ map kept (lines_of (l ++ joined (λ p. p) ps))

abbrev TakenNext : List (List ℕ) → List ℕ → List ℕ → Type 0
TakenNext ps piece l = ended_lines (kept l) piece ++ lines_taken (held_after (kept l) piece) ps ≡ map kept (lines_of (l ++ (piece ++ joined (λ p. p) ps)))

taken_nil : (ps : List (List ℕ)) (l : List ℕ) → Taken ps l → TakenNext ps [] l
unfolding ended_lines held_after
taken_nil ps l h = h

taken_piece : (ps : List (List ℕ)) → ((l : List ℕ) → Unended l → Taken ps l) → (piece l : List ℕ) → Unended l → TakenNext ps piece l
taken_piece ps h [] l u = taken_nil ps l (h l u)
taken_piece ps h (x ∷ xs) l u = go (eqb x line_end) refl (taken_piece ps h xs)
  where
    go : (t : Bool) → eqb x line_end ≡ t → ((m : List ℕ) → Unended m → TakenNext ps xs m) → TakenNext ps (x ∷ xs) l
    go true e i =
        rw (ended_hit x xs (kept l) e, held_hit x xs (kept l) e, lines_ended x (xs ++ joined (λ p. p) ps) u e)
        (ap (λ (r : List (List ℕ)). kept l ∷ r) (i [] none_yet))
    go false e i =
        rw (ended_miss x xs (kept l) e, held_miss x xs (kept l) e, kept_joined l (x ∷ []), ← append_snoc l x (xs ++ joined (λ p. p) ps))
        (i (l ++ (x ∷ [])) (unended_snoc x u e))

taken_pieces : (ps : List (List ℕ)) (l : List ℕ) → Unended l → Taken ps l
unfolding lines_taken joined
taken_pieces [] l u = kept_last l ∙ ap (map kept) (sym (lines_last u))
taken_pieces (p ∷ ps) l u = taken_piece ps (taken_pieces ps) p l u

-- the theorem: however an input is cut into pieces, what is taken is what is kept of each of its lines
pub lines_of_pieces : (ps : List (List ℕ)) → lines_taken [] ps ≡ map kept (lines_of (joined (λ p. p) ps))
lines_of_pieces ps = taken_pieces ps [] none_yet

-- what is held is kept whole
kept_short : (l : List ℕ) → length l ≤ 201 → l ≡ kept l
kept_short l h = sym (take_all 201 l h)

-- one byte more is held
held_more : (x : ℕ) (held m : List ℕ) → kept (kept (held ++ (x ∷ [])) ++ m) ≡ kept (held ++ (x ∷ m))
held_more x held m = kept_joined (held ++ (x ∷ [])) m ∙ ap kept (append_snoc held x m)

held_short : (l : List ℕ) → length (kept l) ≤ 201
held_short l = simp length-take (omega arith)

none_ended : (held : List ℕ) → ended_lines held [] ≡ []
unfolding ended_lines
none_ended held = refl

none_after : (held : List ℕ) → held_after held [] ≡ held
unfolding held_after
none_after held = refl

not_found : {others : List ℕ} → after line_end [] ≡ some others → ⊥
not_found e = let z : ◌≡◌ {A = ℕ} 0 1 = cc (after_nil line_end) in omega arith

-- one call for the next line, where the rest of the piece has a line end: the line that ends there is what is kept of the bytes
-- held and those before the line end, and the other lines come of the text after it
pub next_ended : (rest held : List ℕ) {others : List ℕ} → length held ≤ 201 → after line_end rest ≡ some others
    → (ended_lines held rest ≡ kept (held ++ before line_end rest) ∷ ended_lines [] others) × (held_after held rest ≡ held_after [] others)
next_ended [] held h e = absurd (not_found e)
next_ended (x ∷ xs) held {others} h e = go (eqb x line_end) refl (λ m. next_ended xs m)
  where
    go : (t : Bool) → eqb x line_end ≡ t
        → ((m : List ℕ) → length m ≤ 201 → after line_end xs ≡ some others → (ended_lines m xs ≡ kept (m ++ before line_end xs) ∷ ended_lines [] others) × (held_after m xs ≡ held_after [] others))
        → (ended_lines held (x ∷ xs) ≡ kept (held ++ before line_end (x ∷ xs)) ∷ ended_lines [] others) × (held_after held (x ∷ xs) ≡ held_after [] others)
    go true d i =
        let same : xs ≡ others = cc (after_hit line_end x xs d) in
        rw (ended_hit x xs held d, held_hit x xs held d, before_hit line_end x xs d, append-nil held, ← kept_short held h, same) (refl, refl)
    go false d i =
        rw (ended_miss x xs held d, held_miss x xs held d, before_miss line_end x xs d, ← held_more x held (before line_end xs))
        (i (kept (held ++ (x ∷ []))) (held_short (held ++ (x ∷ []))) (sym (after_miss line_end x xs d) ∙ e))

-- and where it has none: what is kept of the bytes held and of the rest is held
pub next_open : (rest held : List ℕ) → length held ≤ 201 → after line_end rest ≡ none
    → (ended_lines held rest ≡ []) × (held_after held rest ≡ kept (held ++ before line_end rest))
next_open [] held h e = rw (before_nil line_end, append-nil held, none_ended held, none_after held) (refl, kept_short held h)
next_open (x ∷ xs) held h e = go (eqb x line_end) refl (next_open xs)
  where
    go : (t : Bool) → eqb x line_end ≡ t
        → ((m : List ℕ) → length m ≤ 201 → after line_end xs ≡ none → (ended_lines m xs ≡ []) × (held_after m xs ≡ kept (m ++ before line_end xs)))
        → (ended_lines held (x ∷ xs) ≡ []) × (held_after held (x ∷ xs) ≡ kept (held ++ before line_end (x ∷ xs)))
    go true d i = let z : ◌≡◌ {A = ℕ} 0 1 = cc (after_hit line_end x xs d) in absurd (omega arith)
    go false d i =
        rw (ended_miss x xs held d, held_miss x xs held d, before_miss line_end x xs d, ← held_more x held (before line_end xs))
        (i (kept (held ++ (x ∷ []))) (held_short (held ++ (x ∷ []))) (sym (after_miss line_end x xs d) ∙ e))

-- bytes after bytes: the lines that end in the first and then those that end in the others, and what these leave
pub ended_append : (xs ys held : List ℕ)
    → (ended_lines held (xs ++ ys) ≡ ended_lines held xs ++ ended_lines (held_after held xs) ys) × (held_after held (xs ++ ys) ≡ held_after (held_after held xs) ys)
ended_append [] ys held = rw (none_ended held, none_after held) (refl, refl)
ended_append (x ∷ xs) ys held = go (eqb x line_end) refl (ended_append xs ys)
  where
    go : (t : Bool) → eqb x line_end ≡ t
        → ((m : List ℕ) → (ended_lines m (xs ++ ys) ≡ ended_lines m xs ++ ended_lines (held_after m xs) ys) × (held_after m (xs ++ ys) ≡ held_after (held_after m xs) ys))
        → (ended_lines held (x ∷ (xs ++ ys)) ≡ ended_lines held (x ∷ xs) ++ ended_lines (held_after held (x ∷ xs)) ys) × (held_after held (x ∷ (xs ++ ys)) ≡ held_after (held_after held (x ∷ xs)) ys)
    go true e i =
        rw (ended_hit x (xs ++ ys) held e, held_hit x (xs ++ ys) held e, ended_hit x xs held e, held_hit x xs held e)
        (ap (λ (r : List (List ℕ)). held ∷ r) (i []).0, (i []).1)
    go false e i =
        rw (ended_miss x (xs ++ ys) held e, held_miss x (xs ++ ys) held e, ended_miss x xs held e, held_miss x xs held e)
        (i (kept (held ++ (x ∷ []))))

-- what is kept of a line is parsed as the line is
pub kept_parsed : (l : List ℕ) → parsed_line (kept l) ≡ parsed_line l
unfolding parsed_line
kept_parsed l = go (leb (length l) 200) refl
  where
    go : (t : Bool) → leb (length l) 200 ≡ t → parsed_line (kept l) ≡ parsed_line l
    go true e = ap parsed_line (take_all 201 l (omega (arith, leb-true (length l) 200 e)))
    go false e =
        let long : leb (length (kept l)) 200 ≡ false = lt-leb (length (kept l)) 200 (simp length-take (omega (arith, leb-false (length l) 200 e))) in
        rw (parsed_line, long, e)
