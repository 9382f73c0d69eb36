-- Invariant: the rows of tiles written and those left are the tiles.
use Rattle.lists.proofs.Writes.{Writing}
use Rattle.pieces.proofs.TileWords.{tiles_left, tiles_whole}
use Rattle.pieces.proofs.tile.Given as goal

abbrev pub invariant-loop-north : goal.invariant-loop-north
invariant-loop-north l = Writing l.initial.words 0 (tiles_whole l.width l.height l.spacing) l.words l.next (tiles_left l.width l.height l.spacing l.north)
