use Rattle.std.proofs.Common.{refl}
use Rattle.layout.specs.Promises.{wide}
use Rattle.writer.proofs.source.widened.Goals as goal

pub loop-k-init : goal.loop-k-init
unfolding wide
loop-k-init c = refl
