use Rattle.std.proofs.Common.{length, sym, ap, ◌∙◌}
use Rattle.seg_sealed.specs.Segments.{SealedSegment}
use Rattle.flat_scan.proofs.MarkedRows.{shown-length}
use Rattle.flat_scan.proofs.parts.PartRows.len.Goals as goal

pub returns : goal.returns
returns c = c.len.ensures ∙ ap (λ (s : SealedSegment). length s.rows) c.sealed.ensures.sealed ∙ sym (shown-length c.args.self.now.deaths 0 c.args.self.now.sealed.rows)
