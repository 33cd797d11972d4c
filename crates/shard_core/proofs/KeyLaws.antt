-- The channel of a key is one of the channels.
use Rattle.std.proofs.Common.{ℕ, ℤ, pos, negsuc, ◌<◌, ◌≤◌, arith}
use Rattle.std.specs.Prelude.{◌%◌}
use Rattle.std.proofs.lemmas.Nat.{mod_below}
use Rattle.shard_core.specs.Keys.{channel_of}

pub channel_below : (channels : ℕ) (key : ℤ) → 1 ≤ channels → channel_of channels key < channels
channel_below channels (pos a) one = mod_below a channels one
channel_below channels (negsuc a) one = let h : a % channels < channels = mod_below a channels one in omega arith
