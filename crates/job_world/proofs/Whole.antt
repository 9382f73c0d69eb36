-- The places of a state's arrays: what their types say, as lengths.
use mathlib.Core.Path.{◌≡◌}
use mathlib.Core.List.{List}
use lib.ListN.{length}
use mir.Val.{Val}
use denote.Laws.{Is}
use Rattle.job_world.specs.declared.JobState.{JobState}
use Rattle.job_sizes.specs.Sizes.{job_rows, job_cells, job_angles}
use Rattle.job_world.specs.contracts.JobState as S

pub counts_whole : (s : JobState) (vs : List Val) → Is S.the_row s vs → length s.counts ≡ job_cells
counts_whole s vs is = is.1.1.1.1.0.1.0.1

pub angles_whole : (s : JobState) (vs : List Val) → Is S.the_row s vs → length s.angles ≡ job_angles
angles_whole s vs is = is.1.1.1.1.1.0.1.0.1

pub cosines_whole : (s : JobState) (vs : List Val) → Is S.the_row s vs → length s.cosines ≡ job_rows
cosines_whole s vs is = is.1.1.1.1.1.1.0.1.0.1
