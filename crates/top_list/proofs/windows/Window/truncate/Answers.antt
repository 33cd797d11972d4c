use Rattle.std.proofs.Common.{◌∙◌, ap, drop, take}
use Rattle.std.proofs.lemmas.List.{drop-take}
use Rattle.top_list.specs.Kept.{Standing}
use Rattle.top_list.proofs.windows.Window.truncate.Goals as goal

pub returns-clause-hits : goal.returns-clause-hits
returns-clause-hits c =
    ap (drop c.self.inside.from) c.truncate.ensures.items
    ∙ drop-take c.self.inside.from c.args.k c.self.inside.buffer.items
    ∙ ap (λ (w : Standing). take c.args.k w.hits) c.self.view_is
