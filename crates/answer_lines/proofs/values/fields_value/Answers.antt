use Rattle.std.proofs.Common.{◌≡◌, ◌<◌, length, get_or, string_bytes, sym, ap, ◌∙◌, arith}
use Rattle.serde_json.specs.Data.{object, no_members, put}
use Rattle.serde_json.specs.View.{view, members_view}
use Rattle.serde_json.proofs.Views.{view-Object, members_view-insert_entry}
use Rattle.answer_lines.specs.Lines.{field_data}
use Rattle.answer_lines.proofs.Fields.{members-next, members-all}
use Rattle.answer_lines.proofs.values.fields_value.Goals as goal

pub loop-i-preserved : goal.loop-i-preserved
loop-i-preserved c =
    let name : string_bytes c.in_ok-name.name ≡ get_or c.args.names.now c.loop-i.i c.index-names-i.result = c.in_ok-name.ensures.ok ∙ c.as_str.ensures ∙ c.index-names-i.is in
    let value : view c.in_ok-field_value.field-0 ≡ field_data (get_or c.args.fields.now c.loop-i.i c.index-fields-i.result) = c.in_ok-field_value.ensures ∙ ap field_data c.index-fields-i.is in
    let short : c.loop-i.i < length c.args.names.now = omega (arith, c.loop-i-test.true, c.min-count.ensures) in
    let few : c.loop-i.i < length c.args.fields.now = omega (arith, c.loop-i-test.true, c.min-count.ensures) in
    ap members_view c.in_ok-insert.ensures.entries
    ∙ members_view-insert_entry c.loop-i.members.entries c.in_ok-name.name c.in_ok-field_value.field-0
    ∙ ap (λ n. put n (view c.in_ok-field_value.field-0) (members_view c.loop-i.members.entries)) name
    ∙ ap (λ d. put (get_or c.args.names.now c.loop-i.i c.index-names-i.result) d (members_view c.loop-i.members.entries)) value
    ∙ ap (put (get_or c.args.names.now c.loop-i.i c.index-names-i.result) (field_data (get_or c.args.fields.now c.loop-i.i c.index-fields-i.result))) c.loop-i.invariant
    ∙ sym (members-next no_members c.args.names.now c.args.fields.now c.loop-i.i c.index-names-i.result c.index-fields-i.result short few)

pub returns : goal.returns
returns c =
    view-Object c.loop-i.members
    ∙ ap object (c.loop-i.invariant ∙ members-all no_members c.args.names.now c.args.fields.now c.loop-i.i (omega (arith, c.loop-i-test.false, c.loop-i.auto.i-end, c.min-count.ensures)))
