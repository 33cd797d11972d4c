use Rattle.std.proofs.Common.{ℕ, ap, sym, ◌∙◌}
use Rattle.seg_sealed.specs.Segments.{SealedSegment}
use Rattle.part_objects.specs.declared.names.ObjectKind.TheVariants as kind
use Rattle.part_objects.specs.Spellings.{name_of}
use Rattle.part_objects.proofs.objects.list_object.Goals as goal
use Rattle.part_objects.proofs.Spelled.{lists_valid, list_made}

pub write_lists-requires : goal.write_lists-requires
write_lists-requires c = lists_valid c.sealed-sealed.result.now _ c.number.ensures.sealed c.in-Some.ensures

pub returns-clause-object : goal.returns-clause-object
returns-clause-object c =
    list_made _ _ _ _ _ _
    (c.name_of-name.ensures.name ∙ ap (λ (n : ℕ). name_of n kind.ListFile) (c.number.ensures.number ∙ ap (λ (s : SealedSegment). s.number) c.sealed-sealed.ensures.sealed))
    c.of.ensures c.in_ok-bytes.ensures (c.in-Some.ensures ∙ ap (λ (s : SealedSegment). s.lists) c.sealed-sealed.ensures.sealed)
