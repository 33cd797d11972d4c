use Rattle.std.proofs.Common.{◌≡◌, ◌<◌, length, slice_get, Some, sym, subst, arith}
use Rattle.std.specs.Option.{option_map}
use Rattle.seg_sealed.specs.Segments.{SealedSegment, key_of}
use Rattle.flat_scan.proofs.MarkedRows.{shown-length, shown_if_first, key_if}
use Rattle.flat_scan.proofs.parts.PartRows.key.Goals as goal

pub key-requires : goal.key-requires
key-requires c =
    let below : c.args.i < length c.args.self.now.sealed.rows = omega (arith, c.requires, shown-length c.args.self.now.deaths 0 c.args.self.now.sealed.rows) in
    subst (λ (s : SealedSegment). c.args.i < length s.rows) (sym c.sealed.ensures.sealed) below

pub returns : goal.returns
returns c =
    let key = subst (λ (s : SealedSegment). option_map key_of (slice_get s.rows c.args.i) ≡ Some c.key.result) c.sealed.ensures.sealed c.key.ensures in
    shown_if_first (λ s. c.key.result ≡ s.row.key) c.args.self.now.deaths c.args.self.now.sealed.rows c.args.i (key_if (slice_get c.args.self.now.sealed.rows c.args.i) c.key.result key)
