-- Recursive constraint demotion gives the smallest ranking that fits: at each place the smallest machine that is left and that no open condition has in its L.
-- Assumes nothing.
use Rattle.std.specs.Prelude.{◌≡◌, ◌&&◌, ◌||◌, ◌∷◌, ◌^◌, ◌<◌}
use Rattle.basics.proofs.Words.{refl, sym, ◌∙◌, ap, Bool, true, false, not, List, [], List-as-Memᴰ, Option, some, none, Option·map, ℕ, zero, suc, arith, length, eqb, all_of, those, first_that, joined, numbers_below, occurrences, member, eqb-true, eqb-false, not-true, clash, all_member, each_member, first_passes, first_member, first_misses, those_member, joined_member, length_numbers, member_occurs, no_member, its_member}
use Rattle.ranking.specs.declared.Condition.{Condition}
use Rattle.ranking.specs.Rankings.{arrangements, rankings}
use Rattle.ranking.specs.Conditions.{highest, in_fewer, fits}
use Rattle.finder.specs.Finder.{smallest}
use Rattle.ranking.specs.Lemmas.Searches.{split, equal_or_not, all_and, all_those, all_same, first_here, first_on, none_first, first_same, first_append, first_before_lem, first_map}
use Rattle.ranking.specs.Lemmas.Arrangements.{without, without_in, without_out, headed, one_less, Distinct, arranged_permuted, permuted_arranged, without_distinct, without_permuted, occurs_not, occurs_nil, numbers_distinct, numbers_in}

-- the machine is in the L of none of the conditions
abbrev pub free : List Condition → ℕ → Bool
free cs m = all_of (λ c. not (member c.more m)) cs

-- the conditions that stay open once the machine is placed: those that do not have it in their W
abbrev pub still : ℕ → List Condition → List Condition
still m cs = those (λ c. not (member c.fewer m)) cs

-- n places filled from the machines ms, with the conditions cs open
unfoldable pub demotion : ℕ → List ℕ → List Condition → Option (List ℕ)
demotion zero ms cs = some []
demotion (suc n) ms cs = elim (first_that (free cs) ms) [ none ↦ none | some m ↦ Option·map (λ r. m ∷ r) (demotion n (without m ms) (still m cs)) ]

module _ (n : ℕ) (ms : List ℕ) (cs : List Condition) where
  pub demotion_stops : first_that (free cs) ms ≡ none → demotion (suc n) ms cs ≡ none
  unfolding demotion
  demotion_stops e = rw (e, demotion)

  pub demotion_goes : {m : ℕ} → first_that (free cs) ms ≡ some m → demotion (suc n) ms cs ≡ Option·map (λ r. m ∷ r) (demotion n (without m ms) (still m cs))
  unfolding demotion
  demotion_goes e = rw (e, demotion)

-- A condition's machines are met from the highest down: one of W decides for it, one of L against it.

unfoldable met : List ℕ → Condition → Bool
met [] c = true
met (m ∷ r) c = member c.fewer m || (not (member c.more m) && met r c)

module _ (m : ℕ) (r : List ℕ) (c : Condition) where
  met_won : member c.fewer m ≡ true → met (m ∷ r) c ≡ true
  unfolding met
  met_won w = rw w

  met_lost : member c.fewer m ≡ false → member c.more m ≡ true → met (m ∷ r) c ≡ false
  unfolding met
  met_lost w l = rw (w, l)

  met_on : member c.fewer m ≡ false → member c.more m ≡ false → met (m ∷ r) c ≡ met r c
  unfolding met
  met_on w l = rw (w, l)

  highest_won : member c.fewer m ≡ true → highest (m ∷ r) c ≡ some m
  unfolding highest
  highest_won w = rw (w, highest)

  highest_lost : member c.fewer m ≡ false → member c.more m ≡ true → highest (m ∷ r) c ≡ some m
  unfolding highest
  highest_lost w l = rw (w, l, highest)

  highest_on : member c.fewer m ≡ false → member c.more m ≡ false → highest (m ∷ r) c ≡ highest r c
  unfolding highest
  highest_on w l = rw (w, l, highest)

-- where some machine of L is ranked, the highest in either is in W exactly where the condition is met
highest_met : (r : List ℕ) (c : Condition) (n : ℕ) → member c.more n ≡ true → 0 < occurrences n r → in_fewer c (highest r c) ≡ met r c
highest_met [] c n l o = absurd (omega (arith, occurs_nil n))
highest_met (m ∷ r) c n l o =
    split (member c.fewer m) (λ w. ap (in_fewer c) (highest_won m r c w) ∙ w ∙ sym (met_won m r c w))
    (λ w.
    split (member c.more m) (λ d. ap (in_fewer c) (highest_lost m r c w d) ∙ w ∙ sym (met_lost m r c w d))
    (λ d.
    ap (in_fewer c) (highest_on m r c w d)
    ∙ highest_met r c n l (omega (arith, occurs_not n r (λ e. clash l (ap (member c.more) (sym e) ∙ d)), o))
    ∙ sym (met_on m r c w d)))

-- where L is empty, nothing decides against the condition
empty_met : (r : List ℕ) (c : Condition) → ((n : ℕ) → member c.more n ≡ false) → met r c ≡ true
unfolding met
empty_met [] c h = refl
empty_met (m ∷ r) c h = split (member c.fewer m) (λ w. met_won m r c w) (λ w. met_on m r c w (h m) ∙ empty_met r c h)

-- where every machine of L is ranked, a ranking fits the conditions that it meets
fits_met : (K : ℕ) (r : List ℕ) (c : Condition) → c.more < 2 ^ K → ((n : ℕ) → n < K → 0 < occurrences n r) → fits r c ≡ met r c
unfolding fits
fits_met K r c h o =
    split (eqb c.more 0)
    (λ e. rw e (sym (empty_met r c (λ n. ap (λ (l : ℕ). member l n) (eqb-true c.more 0 e) ∙ no_member n))))
    (λ e.
    let q = its_member K c.more h (omega (arith, eqb-false c.more 0 e)) in
    rw e (highest_met r c q.0 q.2 (o q.0 q.1)))

-- no machine is in both sets of any of the conditions
abbrev pub Apart : List Condition → Type 0
Apart cs = (c : Condition) → List-as-Memᴰ c cs → (m : ℕ) → member c.fewer m ≡ true → member c.more m ≡ false

-- a ranking meets all conditions exactly where its first machine is free, and the rest meets those that stay open
headed_met : (m : ℕ) (r : List ℕ) (cs : List Condition) → Apart cs → all_of (met (m ∷ r)) cs ≡ (free cs m && all_of (met r) (still m cs))
headed_met m r cs a =
    all_and (λ c. not (member c.more m)) (λ c. not (not (member c.fewer m)) || met r c) cs one ∙ ap (λ (b : Bool). free cs m && b) (sym (all_those (met r) (λ c. not (member c.fewer m)) cs))
  where
    one : (c : Condition) → List-as-Memᴰ c cs → met (m ∷ r) c ≡ (not (member c.more m) && (not (not (member c.fewer m)) || met r c))
    one c i =
        split (member c.fewer m) (λ w. met_won m r c w ∙ sym (rw (w, a c i m w)))
        (λ w. split (member c.more m) (λ l. met_lost m r c w l ∙ sym (rw l)) (λ l. met_on m r c w l ∙ sym (rw (w, l))))

-- what a ranking meets, it meets without a machine that is in neither set
without_met : (m : ℕ) (r : List ℕ) (c : Condition) → member c.fewer m ≡ false → member c.more m ≡ false → met (without m r) c ≡ met r c
unfolding met those
without_met m [] c w l = refl
without_met m (x ∷ r) c w l =
    equal_or_not x m
    (λ e.
    ap (λ (s : List ℕ). met s c) (without_out m r e)
    ∙ without_met m r c w l
    ∙ sym (met_on x r c (ap (member c.fewer) e ∙ w) (ap (member c.more) e ∙ l)))
    (λ e.
    ap (λ (s : List ℕ). met s c) (without_in m r e)
    ∙ ap (λ (b : Bool). member c.fewer x || (not (member c.more x) && b)) (without_met m r c w l))

-- so where a machine is free, a ranking that meets all meets those that stay open without it
exchanged : (m : ℕ) (r : List ℕ) (cs : List Condition) → free cs m ≡ true → all_of (met r) cs ≡ true → all_of (met (without m r)) (still m cs) ≡ true
exchanged m r cs f t =
    each_member (met (without m r)) (still m cs)
    (λ c i.
    let j = those_member (λ c. not (member c.fewer m)) cs i in
    without_met m r c (not-true (member c.fewer m) j.1)
    (not-true (member c.more m) (all_member (λ c. not (member c.more m)) f j.0))
    ∙ all_member (met r) t j.0)

-- a search over joined lists, where only those of elements that pass g have anything
module _ {A B : Type 0} (g : A → Bool) (f : B → Bool) (k : A → List B) (empty : (x : A) → g x ≡ false → first_that f (k x) ≡ none) where
  joined_none : (xs : List A) → first_that g xs ≡ none → first_that f (joined k xs) ≡ none
  joined_none xs t =
      none_first f (joined k xs)
      (λ y i. let j = joined_member k xs i in first_misses f (empty j.0 (first_misses g t j.1)) j.2)

  joined_first : (xs : List A) {x : A} {y : B} → first_that g xs ≡ some x → first_that f (k x) ≡ some y → first_that f (joined k xs) ≡ some y
  unfolding first_that joined
  joined_first [] {x} t u = let z : ◌≡◌ {A = ℕ} 0 1 = cc in absurd (omega arith)
  joined_first (z ∷ xs) {x} {y} t u =
      split (g z)
      (λ e.
      let q : some z ≡ some x = sym (first_here g xs e) ∙ t in
      let zx : z ≡ x = cc in
      first_before_lem f (k z) (joined k xs) (ap (λ (w : A). first_that f (k w)) zx ∙ u))
      (λ e. first_append f (k z) (joined k xs) (empty z e) ∙ joined_first xs (sym (first_on g xs e) ∙ t) u)

-- the ranking meets all the conditions
abbrev meets : List Condition → List ℕ → Bool
meets cs r = all_of (met r) cs

module _ (n : ℕ) (ms : List ℕ) (cs : List Condition) (a : Apart cs) (m : ℕ) where
  -- nothing that begins with a machine that is not free meets them
  not_headed : free cs m ≡ false → first_that (meets cs) (headed n ms m) ≡ none
  not_headed f =
      let xs = arrangements n (without m ms) in
      first_map (meets cs) (λ r. m ∷ r) xs ∙ ap (Option·map (λ (r : List ℕ). m ∷ r)) (none_first (λ r. meets cs (m ∷ r)) xs (λ r i. headed_met m r cs a ∙ rw f))

  is_headed : free cs m ≡ true → first_that (meets cs) (headed n ms m) ≡ Option·map (λ r. m ∷ r) (first_that (meets (still m cs)) (arrangements n (without m ms)))
  is_headed f =
      let xs = arrangements n (without m ms) in
      first_map (meets cs) (λ r. m ∷ r) xs ∙ ap (Option·map (λ (r : List ℕ). m ∷ r)) (first_same xs (λ r i. headed_met m r cs a ∙ rw f))

still_apart : (m : ℕ) (cs : List Condition) → Apart cs → Apart (still m cs)
still_apart m cs a c i = a c (those_member (λ c. not (member c.fewer m)) cs i).0

-- demotion gives the first of the arrangements that meet the open conditions
demotion_first : (n : ℕ) (ms : List ℕ) (cs : List Condition) → length ms ≡ n → Distinct ms → Apart cs
    → first_that (meets cs) (arrangements n ms) ≡ demotion n ms cs
unfolding arrangements demotion met
demotion_first zero ms cs l d a = first_here (meets cs) [] (each_member (met []) cs (λ c i. refl))
demotion_first (suc n) ms cs l d a = choose (first_that (free cs) ms) refl (λ m q. demotion_first n (without m ms) (still m cs) (one_less n m ms l d q) (without_distinct m ms d) (still_apart m cs a))
  where
    place : (m : ℕ) → first_that (free cs) ms ≡ some m → (o : Option (List ℕ)) → first_that (meets (still m cs)) (arrangements n (without m ms)) ≡ o
        → first_that (meets cs) (joined (headed n ms) ms) ≡ Option·map (λ r. m ∷ r) o
    place m e none t =
        none_first (meets cs) (joined (headed n ms) ms)
        (λ r i.
        split (meets cs r)
        (λ h.
        absurd
        (clash (exchanged m r cs (first_passes (free cs) ms e) h)
        (first_misses (meets (still m cs)) t
        (permuted_arranged n (without m ms) (without m r) (one_less n m ms l d (member_occurs m (first_member (free cs) ms e))) (without_distinct m ms d)
        (without_permuted m ms r (arranged_permuted (suc n) ms r l d i))))))
        (λ h. h))
    place m e (some r) t =
        joined_first (free cs) (meets cs) (headed n ms) (not_headed n ms cs a) ms e (is_headed n ms cs a m (first_passes (free cs) ms e) ∙ ap (Option·map (λ (r : List ℕ). m ∷ r)) t)

    choose : (o : Option ℕ) → first_that (free cs) ms ≡ o
        → ((m : ℕ) → 0 < occurrences m ms → first_that (meets (still m cs)) (arrangements n (without m ms)) ≡ demotion n (without m ms) (still m cs))
        → first_that (meets cs) (joined (headed n ms) ms) ≡ demotion (suc n) ms cs
    choose none e ih = joined_none (free cs) (meets cs) (headed n ms) (not_headed n ms cs a) ms e ∙ sym (demotion_stops n ms cs e)
    choose (some m) e ih =
        place m e (first_that (meets (still m cs)) (arrangements n (without m ms))) refl
        ∙ ap (Option·map (λ (r : List ℕ). m ∷ r)) (ih m (member_occurs m (first_member (free cs) ms e)))
        ∙ sym (demotion_goes n ms cs e)

-- for conditions that are sound for K machines, it gives the smallest ranking that fits them all
pub demotion_smallest : (K : ℕ) (cs : List Condition) → Apart cs → ((c : Condition) → List-as-Memᴰ c cs → c.more < 2 ^ K)
    → smallest K cs ≡ demotion K (numbers_below K) cs
unfolding smallest
demotion_smallest K cs a b =
    let N = numbers_below K in
    first_same (rankings K)
    (λ r i.
    let p = arranged_permuted K N r (length_numbers K) (numbers_distinct K) i in
    all_same cs (λ c j. fits_met K r c (b c j) (λ n h. omega (arith, p n, numbers_in K n h))))
    ∙ demotion_first K N cs (length_numbers K) (numbers_distinct K) a
