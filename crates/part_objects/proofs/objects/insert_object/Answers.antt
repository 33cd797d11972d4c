use Rattle.std.proofs.Common.{ap, ◌∙◌}
use Rattle.seg_sealed.specs.Segments.{SealedSegment}
use Rattle.part_objects.specs.declared.names.ObjectKind.TheVariants as kind
use Rattle.part_objects.specs.Spellings.{name_of}
use Rattle.part_objects.proofs.objects.insert_object.Goals as goal
use Rattle.part_objects.proofs.Spelled.{insert_spelled, insert_made}

pub returns-clause-spells : goal.returns-clause-spells
returns-clause-spells c = insert_spelled c.args.part.now c.sealed-sealed.result.now _ _ _ c.sealed-sealed.ensures.sealed c.in_ok-log.ensures.log c.of.ensures c.in_ok-bytes.ensures

pub returns-clause-object : goal.returns-clause-object
returns-clause-object c =
    insert_made c.args.part.now _ _
    (c.name_of.ensures.name ∙ ap (λ n. name_of n kind.InsertLog) (c.number-number.ensures.number ∙ ap (λ (s : SealedSegment). s.number) c.sealed-sealed.ensures.sealed))
    (insert_spelled c.args.part.now c.sealed-sealed.result.now _ _ _ c.sealed-sealed.ensures.sealed c.in_ok-log.ensures.log c.of.ensures c.in_ok-bytes.ensures)
