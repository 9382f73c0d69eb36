-- `search::descend::first_level`: the tiles, then put in order.
use mathlib.Core.Path.{sym}
use lib.Seq.{length-take-le}
use Rattle.search.proofs.Descents.{first_tiles, first_words, first_fits, first_is}
use Rattle.search.proofs.descend.first_level.Goals as goal

pub tile-n-requires : goal.tile-n-requires
tile-n-requires c = first_tiles _ _ _ _ c.requires

pub slice_bounds-insert_from-end : goal.slice_bounds-insert_from-end
slice_bounds-insert_from-end c = first_words _ _ _ _ c.requires _ _ c.tile-n.ensures

pub slice_bounds-insert_from-end-2 : goal.slice_bounds-insert_from-end-2
slice_bounds-insert_from-end-2 c = sym (length-take-le _ _ (first_words _ _ _ _ c.requires _ _ c.tile-n.ensures))

pub insert_from-requires : goal.insert_from-requires
insert_from-requires c = first_fits _ _ _ _ c.requires _ _ c.tile-n.ensures

pub returns : goal.returns
returns c = first_is _ _ _ _ c.requires _ _ c.tile-n.ensures _ c.insert_from.ensures
