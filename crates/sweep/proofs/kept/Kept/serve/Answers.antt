-- `sweep::kept::Kept::serve`: what is built serves its own shape.
use mathlib.Core.Path.{refl}
use Rattle.levels.proofs.OneBlock.{ready_sheet, ready_cosines}
use Rattle.sweep.proofs.Serving.{serves_own}
use Rattle.sweep.proofs.kept.Kept.serve.Goals as goal

pub wide_kernel-self-requires : goal.wide_kernel-self-requires
wide_kernel-self-requires c =
    record { sheet = ready_sheet _ _ _ _ c.args.map.now.ready; complete = ready_cosines _ _ _ _ c.args.map.now.ready; rectangle = c.requires.rectangle }

pub returns-then-not-same_shape-clause-serves : goal.returns-then-not-same_shape-clause-serves
returns-then-not-same_shape-clause-serves c = serves_own _ _ _ _ _ c.args.block _ refl c.wide_kernel-self.ensures
