-- Invariant: the tiles written and those left are the row's.
use Rattle.blocks.specs.Block.{range}
use Rattle.lists.proofs.Writes.{Writing}
use Rattle.pieces.proofs.TileWords.{row_left, row_whole}
use Rattle.pieces.proofs.tile_row.Given as goal

abbrev pub invariant-loop-first : goal.invariant-loop-first
invariant-loop-first l =
    Writing l.initial.words l.at (row_whole l.width l.spacing (range l.north l.south)) l.words l.next (row_left l.width l.spacing (range l.north l.south) l.first)
