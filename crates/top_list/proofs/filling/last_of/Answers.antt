use Rattle.std.proofs.Common.{◌∙◌}
use Rattle.top_list.proofs.Laws.{last_where_full}
use Rattle.top_list.proofs.filling.last_of.Goals as goal

pub returns : goal.returns
returns c = last_where_full _ _ _ c.requires.some c.requires.own c.if-hits-k.false (c.copied.ensures ∙ c.last.ensures.value)
