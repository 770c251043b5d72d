-- Trying edges one after the other, in any order: each gives its node the lesser of its label and what the edge costs with its target's label.
use Rattle.std.specs.Prelude.{◌≡◌, ◌⊎◌}
use Rattle.basics.specs.Words.{refl, sym, ◌∙◌, ap, none, some, Option·none-ne-some, inl, inr, ℕ}
use Rattle.paths.specs.Costs.{Costs, Labels, AtMost, atmost_is, atmost_upto, shift_left_upto}
use Rattle.paths.specs.Graph.{Alphabet, Edge, Graph}
use Rattle.paths.specs.Labels.{Attained}
use Rattle.paths.specs.Improvement.{Improves, Falls, improves_upto, improves_falls, improve_edge}

module _ {costs : Costs} {alphabet : Alphabet} (S : Graph costs alphabet) where
  infixl 65 ◌⊕◌
  open S use {edge}
  open costs use {Cost, ◌⊕◌, ◌≺◌, total}
  open alphabet use {Letter}

  -- the labels L became M: of each edge in Did the node's label is at most what the edge costs with the label that its target had
  pub record Relaxes (L M : Labels costs) (Did : ℕ → Letter → Type 0) : Type 0 where
    pub attained : Attained S M
    pub falls : Falls ◌≺◌ L M
    pub tried : (u : ℕ) (p : Letter) (e : Edge Cost) (d : Cost) → Did u p → edge u p ≡ some e → L e.target ≡ some d → AtMost ◌≺◌ (M u) (e.cost ⊕ d)

  -- one letter of one node
  abbrev pub Only : ℕ → Letter → ℕ → Letter → Type 0
  Only u p w q = (w ≡ u) × (q ≡ p)

  pub relaxes_nothing : {L : Labels costs} → Attained S L → (Did : ℕ → Letter → Type 0) → ((u : ℕ) (p : Letter) → Did u p → ⊥) → Relaxes L L Did
  relaxes_nothing A Did f = record { attained = A; falls = λ w c m. m; tried = λ u p e d x h l. absurd (f u p x) }

  -- one after the other
  pub relaxes_then : {L M N : Labels costs} {D D' : ℕ → Letter → Type 0} → Relaxes L M D → Relaxes M N D' → (E : ℕ → Letter → Type 0) → ((u : ℕ) (p : Letter) → E u p → D u p ⊎ D' u p) → Relaxes L N E
  relaxes_then {L} {M} {N} {D} {D'} a b E f = record {
    attained = b.attained;
    falls = λ w c m. b.falls w c (a.falls w c m);
    tried = λ u p e d x h l. go u p e d h l (f u p x);
  }
    where
      go : (u : ℕ) (p : Letter) (e : Edge Cost) (d : Cost) → edge u p ≡ some e → L e.target ≡ some d → D u p ⊎ D' u p → AtMost ◌≺◌ (N u) (e.cost ⊕ d)
      go u p e d h l (inl x) = b.falls u (e.cost ⊕ d) (a.tried u p e d x h l)
      go u p e d h l (inr x) =
          let m = a.falls e.target d (atmost_is l) in
          atmost_upto total (b.tried u p e m.val x h m.is) (shift_left_upto costs e.cost m.upto)

  module _ {L : Labels costs} (A : Attained S L) (u : ℕ) (p : Letter) where
    here : (w : ℕ) (q : Letter) (e : Edge Cost) → Only u p w q → edge w q ≡ some e → edge u p ≡ some e
    here w q e x h = rw (← x.0, ← x.1) h

    -- u has no edge for the letter
    pub relaxes_gone : edge u p ≡ none → Relaxes L L (Only u p)
    relaxes_gone n = record { attained = A; falls = λ w c m. m; tried = λ w q e d x h l. absurd (Option·none-ne-some e (sym n ∙ here w q e x h)) }

    -- it leads to v, which has no label
    pub relaxes_unlabelled : (v : ℕ) → L v ≡ none → ((e : Edge Cost) → edge u p ≡ some e → e.target ≡ v) → Relaxes L L (Only u p)
    relaxes_unlabelled v n f = record {
      attained = A;
      falls = λ w c m. m;
      tried = λ w q e d x h l. absurd (Option·none-ne-some d (sym n ∙ ap L (sym (f e (here w q e x h))) ∙ l));
    }

    -- u is improved by it
    pub relaxes_edge : {M : Labels costs} (e : Edge Cost) (d : Cost) → edge u p ≡ some e → L e.target ≡ some d → Improves ◌≺◌ L u (e.cost ⊕ d) M → Relaxes L M (Only u p)
    relaxes_edge {M} e d h l I = record { attained = improve_edge S A I p e d h l refl; falls = improves_falls total I; tried = tried }
      where
        tried : (w : ℕ) (q : Letter) (f : Edge Cost) (g : Cost) → Only u p w q → edge w q ≡ some f → L f.target ≡ some g → AtMost ◌≺◌ (M w) (f.cost ⊕ g)
        tried w q f g x k m =
            let z = here w q f x k in
            let y : e ≡ f = cc (h, z) in
            let s : d ≡ g = cc (l, m, ap (λ (t : Edge Cost). L t.target) y) in
            rw (x.0, ← y, ← s) (improves_upto total I)
