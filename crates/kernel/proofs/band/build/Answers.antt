-- `kernel::band::build`: the empty kernel at radius 0, and otherwise what the two walks and the marking of runs leave.
use mathlib.Core.Path.{refl, ◌∙◌}
use mathlib.Core.Bool.{true, false}
use Rattle.grid.specs.Map.{globe_lent}
use Rattle.reach.proofs.Reaches.{sheet_high, sheet_beyond}
use Rattle.kernel.proofs.Built.{zero_test, built_empty, built_outline, built_walked}
use Rattle.kernel.proofs.band.build.Goals as goal

pub returns-then-km : goal.returns-then-km
returns-then-km c =
    let a = c.args in
    built_empty (globe_lent a.globe.now) a.row a.km (sheet_high c.requires.sheet) c.requires.on (zero_test a.km true c.if-km.true)

pub mark-requires : goal.mark-requires
mark-requires c =
    let p = c.requires in
    let a = c.args in record {
      outlined = built_outline (globe_lent a.globe.now) a.row a.km (sheet_high p.sheet) p.on
          (zero_test a.km false c.if-km.false) c.angle_of-limit.ensures (sheet_beyond p.sheet _ a.row p.on c.angle_of-limit.result)
          c.walk_north-north.ensures c.walk_south-end.ensures (c.walk_south-end.auto.reaches ∙ c.walk_north-north.auto.reaches);
      runs_len = refl;
    }

pub returns : goal.returns
returns c =
    let k = c.mark in
    let p = c.requires in
    let a = c.args in
    built_walked (globe_lent a.globe.now) a.row a.km (sheet_high p.sheet) p.on
    (zero_test a.km false c.if-km.false) c.angle_of-limit.ensures (sheet_beyond p.sheet _ a.row p.on c.angle_of-limit.result)
    c.walk_north-north.ensures c.walk_south-end.ensures k.ensures (c.walk_south-end.auto.reaches ∙ c.walk_north-north.auto.reaches) k.auto.runs
