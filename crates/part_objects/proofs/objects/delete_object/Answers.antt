use Rattle.std.proofs.Common.{ℕ, ap, sym, subst, length, ◌∙◌}
use Rattle.seg_sealed.specs.Segments.{SealedSegment}
use Rattle.seg_sealed.specs.Parts.{AreDeathsOf}
use Rattle.part_objects.specs.declared.names.ObjectKind.TheVariants as kind
use Rattle.part_objects.specs.Spellings.{name_of}
use Rattle.part_objects.proofs.objects.delete_object.Goals as goal
use Rattle.part_objects.proofs.Spelled.{delete_valid, delete_spelled, delete_made}

pub write_delete-requires : goal.write_delete-requires
write_delete-requires c =
    delete_valid _ c.sealed.result.now _ _ _ c.args.part.now.deaths c.in_ok-log.ensures.log c.in_ok-log.ensures.rise c.marks.ensures.deaths
    (subst (λ (s : SealedSegment). AreDeathsOf (length s.rows) c.args.part.now.deaths) (sym c.sealed.ensures.sealed) c.sealed.ensures.marks)
    c.number-number.ensures.sealed c.number-number.ensures.number

pub returns-clause-spells : goal.returns-clause-spells
returns-clause-spells c =
    delete_spelled c.args.part.now _ _ _ _ _ _ (c.number-number.ensures.number ∙ ap (λ (s : SealedSegment). s.number) c.sealed.ensures.sealed)
    c.marks.ensures.applied c.marks.ensures.deaths c.in_ok-log.ensures.log c.of.ensures c.in_ok-bytes.ensures

pub returns-clause-object : goal.returns-clause-object
returns-clause-object c =
    let named = c.number-number.ensures.number ∙ ap (λ (s : SealedSegment). s.number) c.sealed.ensures.sealed in
    delete_made c.args.part.now _ _ (c.name_of.ensures.name ∙ ap (λ (n : ℕ). name_of n kind.DeleteLog) named)
    (delete_spelled c.args.part.now _ _ _ _ _ _ named c.marks.ensures.applied c.marks.ensures.deaths c.in_ok-log.ensures.log c.of.ensures c.in_ok-bytes.ensures)
