use Rattle.std.proofs.Common.{◌≡◌, take}
use Rattle.phase_channels.specs.Keeping.{kept}
use Rattle.phase_channels.proofs.channels.keep_last_writes.Given as goal

abbrev pub invariant-loop-did : goal.invariant-loop-did
invariant-loop-did l = l.mine ≡ kept l.initial.mine (take l.did-index l.done)
