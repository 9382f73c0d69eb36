-- Level buffers whose lengths stay: from search to search, and with them their room.
use mathlib.Core.Path.{◌∙◌}
use native.Mathlib.Omega.{arith}
use Rattle.grid.specs.declared.Grid.{Grid}
use Rattle.search_rules.specs.declared.LevelBuffers.{LevelBuffers}
use Rattle.search_rules.specs.Requires.{TwoBuffers}
use Rattle.search_rules.specs.State.{SameLengths}

pub lengths_then : {first second third : LevelBuffers} → SameLengths first second → SameLengths second third → SameLengths first third
lengths_then p q = record { current = q.current ∙ p.current; following = q.following ∙ p.following }

pub room_stays : (g : Grid) {old new : LevelBuffers} → TwoBuffers g old.current.now old.following.now → SameLengths old new
    → TwoBuffers g new.current.now new.following.now
room_stays g two same =
    record {
      sizes = two.sizes;
      current_room = omega (arith, two.current_room, same.current);
      following_room = omega (arith, two.following_room, same.following);
    }
