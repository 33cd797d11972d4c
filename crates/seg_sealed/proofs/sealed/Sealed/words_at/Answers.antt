use Rattle.std.proofs.Common.{◌≡◌, ◌+◌, ◌*◌, ◌≤◌, ◌<◌, ℕ, List, Bool, length, map, take, drop, slice_get, refl, sym, ap, subst, ◌∙◌, arith}
use Rattle.std.proofs.lemmas.List.{length-map}
use Rattle.binlog_format.specs.declared.objects.InsertLog.{InsertLog}
use Rattle.log_model.specs.Places.{IsColumn, width_of, vector_of}
use Rattle.seg_sealed.specs.Segments.{SealedSegment, position_of}
use Rattle.seg_sealed.specs.Fields.{vectors_in}
use Rattle.seg_sealed.proofs.SealLaws.{window_fits, words_of-row}
use Rattle.seg_sealed.proofs.sealed.Sealed.words_at.Goals as goal

pub window-requires : goal.window-requires
window-requires c =
    let dim : c.width.result ≡ width_of c.self.inside.dim = c.width.ensures ∙ ap (λ (s : SealedSegment). width_of s.dim) (sym c.self.view_is) in
    let many : length c.args.self.now.rows ≡ length c.self.inside.positions.items = ap (λ (s : SealedSegment). length s.rows) (sym c.self.view_is) ∙ sym (length-map _ position_of) ∙ ap (λ (l : InsertLog). length l.positions) c.self.invariant.same in
    let lt : c.args.i < length c.self.inside.positions.items = subst (λ n. c.args.i < n) many c.requires in
    let fits = window_fits c.self.inside.dim (length c.self.inside.positions.items) c.args.i c.self.inside.words.items c.self.invariant.column lt in
    rw (dim, c.as_slice.ensures.value) fits

pub returns : goal.returns
returns c =
    let dim : c.width.result ≡ width_of c.self.inside.dim = c.width.ensures ∙ ap (λ (s : SealedSegment). width_of s.dim) (sym c.self.view_is) in
    let vectors : map vector_of c.args.self.now.rows ≡ vectors_in c.self.inside.dim (length c.self.inside.positions.items) c.self.inside.words.items = ap (λ (s : SealedSegment). map vector_of s.rows) (sym c.self.view_is) ∙ ap (λ (l : InsertLog). l.vectors) c.self.invariant.same in
    let window : c.window.result.now ≡ take (width_of c.self.inside.dim) (drop (c.args.i * width_of c.self.inside.dim) c.self.inside.words.items) =
    c.window.ensures ∙ ap (λ n. take n (drop (c.args.i * n) c.as_slice.result.now)) dim ∙ ap (λ ws. take (width_of c.self.inside.dim) (drop (c.args.i * width_of c.self.inside.dim) ws)) c.as_slice.ensures.value in
    words_of-row c.self.inside.dim c.args.i c.self.inside.words.items c.window.result.now c.args.self.now.rows (subst (λ vs. IsColumn (width_of c.self.inside.dim) vs c.self.inside.words.items) (sym vectors) c.self.invariant.column) window (slice_get c.args.self.now.rows c.args.i) refl
