use Rattle.std.proofs.Common.{◌≡◌, ◌++◌, ◌<◌, ◌^◌, take}
use Rattle.std.specs.List.{flat_map, AllByRecursion}
use Rattle.binlog_format.specs.Inserts.{stamp_bytes}
use Rattle.binlog_format.proofs.inserts.writing.put_stamps.Given as goal

abbrev pub invariant-loop-item : goal.invariant-loop-item
invariant-loop-item l = record {
  bytes : l.out.items ≡ l.fn.out.items ++ flat_map stamp_bytes (take l.item-index l.stamps);
  fit : AllByRecursion (λ ts. ts.0 < 2 ^ 64) (take l.item-index l.stamps);
}
