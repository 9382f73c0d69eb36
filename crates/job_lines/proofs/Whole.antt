-- The places of a line: what its type says of the array, as a length.
use mathlib.Core.Path.{◌≡◌}
use mathlib.Core.List.{List}
use lib.ListN.{length}
use mir.Val.{Val}
use denote.Laws.{Is}
use Rattle.job_lines.specs.declared.Line.{Line}
use Rattle.job_lines.specs.State.{line_room}
use Rattle.job_lines.specs.contracts.Line as L

pub line_whole : (l : Line) (vs : List Val) → Is L.the_row l vs → length l.bytes ≡ line_room
line_whole l vs is = is.1.1.1.0.1.0.1
