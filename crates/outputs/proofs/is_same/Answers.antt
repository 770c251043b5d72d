use Rattle.std.specs.Prelude.{◌≡◌, ◌-◌, ◌*◌, ◌<◌, ◌≤◌}
use Rattle.std.specs.Cmp.Lexicographic.{same_text}
use Rattle.basics.proofs.Words.{sym, ap, ◌∙◌, arith, List, ℕ, length, get_or, take, drop, get_or-take, get_or-drop}
use Rattle.adding.specs.Cells.{step_at}
use Rattle.adding.specs.Laws.Numbers.{column_in}
use Rattle.outputs.specs.Outputs.{Wide}
use Rattle.outputs.proofs.is_same.Goals as goal

-- an output's column
abbrev column : List ℕ → ℕ → ℕ → List ℕ
column steps W y = take W (take (length steps - y * W) (drop (y * W) steps))

in_column : (steps : List ℕ) (W y p : ℕ) → Wide steps W → y < 64 → p < W → get_or (column steps W y) p 0 ≡ step_at steps W y p
in_column steps W y p wide l h =
    get_or-take W (take (length steps - y * W) (drop (y * W) steps)) p 0 h
    ∙ get_or-take (length steps - y * W) (drop (y * W) steps) p 0 (omega (arith, column_in y W p _ (omega arith) h wide.room))
    ∙ get_or-drop (y * W) steps p 0

pub returns : goal.returns
returns c =
    λ e p h.
    let steps = c.args.steps.now in
    let W = c.args.width in
    let q : column steps W c.args.a ≡ column steps W c.args.b = same_text (column steps W c.args.a) (column steps W c.args.b) (sym e ∙ c.eq.ensures) in
    sym (in_column steps W c.args.a p c.requires.0 c.requires.1 h) ∙ ap (λ (l : List ℕ). get_or l p 0) q ∙ in_column steps W c.args.b p c.requires.0 c.requires.2 h
