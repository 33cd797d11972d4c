use Rattle.std.proofs.Common.{List, ℕ, [], ◌∷◌, ◌++◌, ap, ◌∙◌, sym}
use Rattle.std.specs.Map.Iter.{deref_pair}
use Rattle.std.proofs.lemmas.Map.Iter.{rest_more}
use Rattle.request_lines.proofs.Lists.{member_read}
use Rattle.request_lines.proofs.fields.given_in.Goals as goal

pub members-preserved : goal.members-preserved
members-preserved c =
    let rest = rest_more deref_pair c.members.name-iterator c.next.new.self c.next.result (c.in-Some.name, c.in-Some.value) c.in-Some.is c.next.ensures.steps in
    member_read c.members.name-iterator c.next.new.self c.in-Some.name.now c.in-Some.value.now c.in-Some-2.field c.members.given.items c.push.new.self.items _
    rest (sym c.in_ok-field.ensures ∙ c.in-Some-2.is)
    (c.in_ok-push-in-Some-2.ensures.items ∙ ap (λ (text : List ℕ). c.members.given.items ++ (text, c.in-Some-2.field) ∷ []) (c.in_ok-copied-in-Some-2.ensures ∙ c.as_str.ensures.value))
    c.members.invariant
