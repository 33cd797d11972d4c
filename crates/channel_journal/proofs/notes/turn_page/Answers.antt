use Rattle.std.proofs.Common.{◌≡◌, ◌+◌, ◌≤◌, ◌++◌, ◌∷◌, [], length, ap, ap₂, subst, ◌∙◌, arith}
use Rattle.std.specs.List.{AllByRecursion}
use Rattle.std.proofs.lemmas.List.{length_push}
use Rattle.channel_journal.specs.Kept.{IsBlank, notes_in}
use Rattle.channel_journal.proofs.ListLaws.{all_back, notes_turned}
use Rattle.channel_journal.proofs.notes.turn_page.Goals as goal

pub returns-clause-notes : goal.returns-clause-notes
returns-clause-notes c =
    let blank = all_back IsBlank c.pop.new.self.items (c.in-Some.next ∷ []) (subst (AllByRecursion IsBlank) c.in-Some.ensures.items c.requires.blanks) in
    ap₂ notes_in (c.push_reserved.ensures.items ∙ ap (λ w. c.args.full.now.items ++ w ∷ []) c.replace-whole.ensures.value) c.replace-whole.ensures.after
    ∙ notes_turned c.args.full.now.items c.args.latest.now c.in-Some.next blank.0

pub returns-clause-spare : goal.returns-clause-spare
returns-clause-spare c =
    let blank = all_back IsBlank c.pop.new.self.items (c.in-Some.next ∷ []) (subst (AllByRecursion IsBlank) c.in-Some.ensures.items c.requires.blanks) in
    let none : length c.replace-whole.new.dest ≡ 0 = ap length (c.replace-whole.ensures.after ∙ blank.0) in
    let more : length c.args.blank.now.items ≡ length c.pop.new.self.items + 1 = ap length c.in-Some.ensures.items ∙ length_push c.pop.new.self.items c.in-Some.next in
    let least : 256 ≤ c.len.result = c.if-len-lt-CHUNK_NOTES.false in
    let most : c.len.result ≤ 256 = c.len.ensures.few in
    let is : c.len.result ≡ length c.args.latest.now = c.len.ensures.len in
    omega arith

pub returns-clause-fits : goal.returns-clause-fits
returns-clause-fits c =
    let blank = all_back IsBlank c.pop.new.self.items (c.in-Some.next ∷ []) (subst (AllByRecursion IsBlank) c.in-Some.ensures.items c.requires.blanks) in
    let none : length c.replace-whole.new.dest ≡ 0 = ap length (c.replace-whole.ensures.after ∙ blank.0) in
    omega arith
