-- The ring's job prints its two lines, computed from the definitions.
use mathlib.Core.Path.{refl}
use Rattle.job_commands.specs.Command.{open_commands}
use Rattle.job_world.specs.World.{open_worlds}
use Rattle.job_rules.specs.Apply.{open_applied}
use Rattle.job_lines.specs.Line.{open_lines}
use Rattle.job_rules.specs.Job.{open_jobs}
use Rattle.ring.specs.Job.{RingJob, open_ring_jobs}
use Rattle.ring.proofs.Facts.{smallest_open, marked_facts}
use Rattle.ring.proofs.Searches.{ring_call_open}

pub ring_job_lem : RingJob
unfolding ring_call_open smallest_open open_commands open_worlds open_applied open_lines open_jobs open_ring_jobs
ring_job_lem = record { facts = marked_facts; lines = λ places. refl }
