-- One place of the angles.
use Rattle.std.proofs.Common.{arith}
use Rattle.job_sizes.specs.Sizes.{job_angles}
use Rattle.job_world.specs.World.{emptied}
use Rattle.job_world.specs.State.{angle_state}
use Rattle.job_world.proofs.Maps.{set_min}
use Rattle.job_world.proofs.state.with_angle.Goals as goal

pub returns : goal.returns
unfolding angle_state emptied
returns c =
    let s = c.args.state.now in
    rw (c.put.ensures, c.angle_place-place.ensures, set_min s.angles job_angles _ c.args.angle (omega arith))
