-- What is read back of the bytes of a part.
use Rattle.std.proofs.Common.{◌≡◌, ℕ, List, [], ◌∷◌, map, refl, sym, ap, subst, ◌∙◌}
use Rattle.std.specs.Option.{IfSome, option_map}
use Rattle.std.specs.declared.option.Option.{Option}
use Rattle.std.specs.declared.option.Option.TheVariants.{None, Some}
use Rattle.binlog_format.specs.declared.objects.DeleteLog.{DeleteLog}
use Rattle.binlog_format.specs.declared.objects.ListFile.{ListFile}
use Rattle.binlog_format.specs.Deletes.{SpellsDeletes}
use Rattle.binlog_format.specs.Lists.{SpellsLists}
use Rattle.seg_sealed.specs.Segments.{SealedSegment, AreListsOf, with_lists}
use Rattle.seg_sealed.specs.Marks.{mark_of, death_of}
use Rattle.part_objects.specs.declared.objects.Object.{Object}
use Rattle.part_objects.specs.Spellings.{list_object}

pub deaths_back : (deaths : List (ℕ × ℕ)) → map death_of (map mark_of deaths) ≡ deaths
deaths_back [] = refl
deaths_back (death ∷ deaths) = ap (λ (ds : List (ℕ × ℕ)). death ∷ ds) (deaths_back deaths)

-- the same bytes spell the same
pub spells_here : (log : DeleteLog) (here bytes own : List ℕ) → here ≡ bytes → bytes ≡ own → SpellsDeletes own log → SpellsDeletes here log
spells_here log here bytes own e f s = subst (λ (bs : List ℕ). SpellsDeletes bs log) (sym (e ∙ f)) s

-- the list file of a segment, and the bytes that spell it
pub record Listed (number rows : ℕ) (lists : Option ListFile) (bytes : List ℕ) : Type 0 where
  pub file : ListFile
  pub there : lists ≡ Some file
  pub spelled : SpellsLists bytes file
  pub valid : AreListsOf number rows file

-- bytes that were got for the list file of a segment spell it
pub listed : (number rows : ℕ) (lists : Option ListFile) (object : Option Object) (x : Object) (here bytes : List ℕ)
    → object ≡ option_map (list_object number) lists → object ≡ Some x
    → ((file : ListFile) → lists ≡ Some file → IfSome object (λ y. SpellsLists y.bytes file)) → IfSome lists (AreListsOf number rows) → here ≡ bytes
    → bytes ≡ x.bytes
    → Listed number rows lists here
listed number rows None object x here bytes made there spells valid e f = let no : ⊥ = cc in absurd no
listed number rows (Some file) object x here bytes made there spells valid e f =
    let own : SpellsLists x.bytes file = subst (λ (o : Option Object). IfSome o (λ y. SpellsLists y.bytes file)) there (spells file refl) in
    record { file = file; there = refl; spelled = subst (λ (bs : List ℕ). SpellsLists bs file) (sym (e ∙ f)) own; valid = valid }

-- a segment without lists, with its lists again
pub lists_back : (own sealed made : SealedSegment) (file : ListFile) → sealed ≡ with_lists own None → own.lists ≡ Some file
    → made ≡ with_lists sealed (Some file) → made ≡ own
lists_back own sealed made file without there e = e ∙ ap (λ (s : SealedSegment). with_lists s (Some file)) without ∙ ap (with_lists own) (sym there)
