use Rattle.request_lines.proofs.Keys.{not_text, text_value}
use Rattle.request_lines.proofs.values.read_value.Goals as goal

pub returns-in_default : goal.returns-in_default
returns-in_default c = not_text c.args.bytes.now c.in_default.ensures.cases.0

pub returns-in-Ok-from_str : goal.returns-in-Ok-from_str
returns-in-Ok-from_str c = text_value _ c.args.bytes.now _ c.in-Ok.ensures.cases.0 c.in-Ok.ensures.cases.1 c.in-Ok-from_str.ensures.ok
