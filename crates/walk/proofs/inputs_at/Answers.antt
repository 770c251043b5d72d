use Rattle.std.specs.Prelude.{◌≡◌, ◌||◌}
use Rattle.basics.proofs.Words.{◌∙◌, ap, Bool, rules, get_or, member, member_one, member_or}
use Rattle.walk.proofs.inputs_at.Goals as goal

pub returns : goal.returns
returns c x =
    let set = get_or c.args.sets.now c.args.position 0 in
    let e : c.unwrap_or.result ≡ set = search rules in
    rw e (member_or 1 set x ∙ ap (λ (b : Bool). b || member set x) (member_one 0 x))
