use Rattle.std.specs.Prelude.{◌*◌, ◌≤◌}
use Rattle.std.proofs.Common.{arith, lit≤}
use Rattle.walk.proofs.Walking.{counts_ok, places_of_few, places_of_any}
use Rattle.walk.proofs.walk.Goals as goal

pub width_of-room-requires : goal.width_of-room-requires
width_of-room-requires c = counts_ok c.requires

-- 1,365 numbers are enough
pub walk_sized-requires : goal.walk_sized-requires
walk_sized-requires c =
    let w : 65 * c.width_of-room.result ≤ 1365 = omega (arith, c.width_of-room.ensures.0, places_of_few c.requires c.if-size-le16.true) in
    (c.requires, omega (arith, c.width_of-room.ensures.0), w, lit≤ tt)

-- 2,600 numbers are enough
pub walk_sized-requires-else-size-le16 : goal.walk_sized-requires-else-size-le16
walk_sized-requires-else-size-le16 c =
    let w : 65 * c.width_of-room.result ≤ 2600 = omega (arith, c.width_of-room.ensures.0, places_of_any c.requires) in
    (c.requires, omega (arith, c.width_of-room.ensures.0), w, lit≤ tt)
