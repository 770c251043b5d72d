-- The rows worked out afresh after one call more. Assumes nothing.
use Rattle.std.specs.Prelude.{◌≡◌, ◌||◌, ◌∷◌, ◌++◌}
use Rattle.basics.proofs.Words.{refl, sym, ap, ◌∙◌, Bool, true, false, not, List, [], ℕ, eqb, those, same, those_here, those_later}
use Rattle.std.proofs.Common.{eqb-true, eq-eqb}
use Rattle.live.specs.declared.Row.{Row}
use Rattle.live.specs.Rows.{has_id, lacks}
use Rattle.live.specs.Afresh.{Call, Add, Remove, removes, afresh}

afresh_gone : (row : Row) (cs : List Call) → removes row.id cs ≡ true → afresh (Add row ∷ cs) ≡ afresh cs
unfolding afresh
afresh_gone row cs t = rw (t, afresh)

afresh_there : (row : Row) (cs : List Call) → removes row.id cs ≡ false → afresh (Add row ∷ cs) ≡ row ∷ afresh cs
unfolding afresh
afresh_there row cs t = rw (t, afresh)

removes_nothing : (id : ℕ) → removes id [] ≡ false
unfolding removes
removes_nothing id = refl

-- a test of two ids either way round
turned : (i j : ℕ) {b : Bool} → eqb j i ≡ b → eqb i j ≡ b
turned i j e = same (eqb i j) (eqb j i) (λ t. eq-eqb j i (sym (eqb-true i j t))) (λ t. eq-eqb i j (sym (eqb-true j i t))) ∙ e

-- an add removes nothing, a removal its id
removes_add : (id : ℕ) (cs : List Call) (row : Row) → removes id (cs ++ (Add row ∷ [])) ≡ removes id cs
unfolding removes
removes_add id [] row = refl
removes_add id (Add r ∷ cs) row = removes_add id cs row
removes_add id (Remove i ∷ cs) row = ap (λ (b : Bool). eqb i id || b) (removes_add id cs row)

removes_remove : (id : ℕ) (cs : List Call) (i : ℕ) → removes id (cs ++ (Remove i ∷ [])) ≡ (removes id cs || eqb i id)
unfolding removes
removes_remove id [] i = go (eqb i id)
  where
    go : (b : Bool) → (b || false) ≡ b
    go true = refl
    go false = refl
removes_remove id (Add r ∷ cs) i = removes_remove id cs i
removes_remove id (Remove j ∷ cs) i = go (eqb j id) (removes_remove id cs i)
  where
    go : (b : Bool) → removes id (cs ++ (Remove i ∷ [])) ≡ (removes id cs || eqb i id) → (b || removes id (cs ++ (Remove i ∷ []))) ≡ ((b || removes id cs) || eqb i id)
    go true e = refl
    go false e = e

pub afresh_add : (cs : List Call) (row : Row) → afresh (cs ++ (Add row ∷ [])) ≡ afresh cs ++ (row ∷ [])
unfolding afresh
afresh_add [] row = afresh_there row [] (removes_nothing row.id)
afresh_add (Remove i ∷ cs) row = afresh_add cs row
afresh_add (Add r ∷ cs) row = go (removes r.id cs) refl (afresh_add cs row)
  where
    go : (b : Bool) → removes r.id cs ≡ b → afresh (cs ++ (Add row ∷ [])) ≡ afresh cs ++ (row ∷ []) → afresh (Add r ∷ (cs ++ (Add row ∷ []))) ≡ afresh (Add r ∷ cs) ++ (row ∷ [])
    go true t k = afresh_gone r (cs ++ (Add row ∷ [])) (removes_add r.id cs row ∙ t) ∙ k ∙ ap (λ (l : List Row). l ++ (row ∷ [])) (sym (afresh_gone r cs t))
    go false t k = afresh_there r (cs ++ (Add row ∷ [])) (removes_add r.id cs row ∙ t) ∙ ap {B = List Row} (λ l. r ∷ l) k ∙ ap (λ (l : List Row). l ++ (row ∷ [])) (sym (afresh_there r cs t))

pub afresh_remove : (cs : List Call) (id : ℕ) → afresh (cs ++ (Remove id ∷ [])) ≡ those (lacks id) (afresh cs)
unfolding afresh those
afresh_remove [] id = refl
afresh_remove (Remove i ∷ cs) id = afresh_remove cs id
afresh_remove (Add r ∷ cs) id = go (removes r.id cs) refl (afresh_remove cs id)
  where
    go : (b : Bool) → removes r.id cs ≡ b → afresh (cs ++ (Remove id ∷ [])) ≡ those (lacks id) (afresh cs) → afresh (Add r ∷ (cs ++ (Remove id ∷ []))) ≡ those (lacks id) (afresh (Add r ∷ cs))
    go true t k =
        let more : removes r.id (cs ++ (Remove id ∷ [])) ≡ true = removes_remove r.id cs id ∙ ap (λ (b : Bool). b || eqb id r.id) t in
        afresh_gone r (cs ++ (Remove id ∷ [])) more ∙ k ∙ ap (those (lacks id)) (sym (afresh_gone r cs t))
    go false t k = last (has_id id r) refl
      where
        last : (b : Bool) → has_id id r ≡ b → afresh (Add r ∷ (cs ++ (Remove id ∷ []))) ≡ those (lacks id) (afresh (Add r ∷ cs))
        last true h =
            let now_gone : removes r.id (cs ++ (Remove id ∷ [])) ≡ true = removes_remove r.id cs id ∙ ap (λ (b : Bool). b || eqb id r.id) t ∙ turned id r.id h in
            let skipped : those (lacks id) (r ∷ afresh cs) ≡ those (lacks id) (afresh cs) = those_later (lacks id) r (afresh cs) (ap not h) in
            afresh_gone r (cs ++ (Remove id ∷ [])) now_gone ∙ k ∙ sym (ap (those (lacks id)) (afresh_there r cs t) ∙ skipped)
        last false h =
            let still_there : removes r.id (cs ++ (Remove id ∷ [])) ≡ false = removes_remove r.id cs id ∙ ap (λ (b : Bool). b || eqb id r.id) t ∙ turned id r.id h in
            let kept : those (lacks id) (r ∷ afresh cs) ≡ r ∷ those (lacks id) (afresh cs) = those_here (lacks id) r (afresh cs) (ap not h) in
            afresh_there r (cs ++ (Remove id ∷ [])) still_there ∙ ap {B = List Row} (λ l. r ∷ l) k ∙ sym (ap (those (lacks id)) (afresh_there r cs t) ∙ kept)
