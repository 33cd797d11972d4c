use Rattle.std.proofs.Common.{sym, ◌∙◌, subst}
use Rattle.coarse_lists.specs.declared.collections.Collection.{Collection}
use Rattle.phase_engine.specs.Steps.{IsReadOf}
use Rattle.phase_engine.proofs.Taking.{took_meet, took_line}
use Rattle.phase_engine.proofs.running.Running.take.Goals as goal

pub returns-then-is_meet : goal.returns-then-is_meet
returns-then-is_meet c =
    let was = subst (λ (collection : Collection). IsReadOf collection c.args.line.now c.in_ok-read.read) c.collection.ensures c.in_ok-read.ensures in
    record { taken = λ least. took_meet least c.args.self c.args.line.now c.in_ok-read.read c.requires.ready.none_came was (sym c.is_meet.ensures ∙ c.if-is_meet.true) }

pub returns : goal.returns
returns c =
    let was = subst (λ (collection : Collection). IsReadOf collection c.args.line.now c.in_ok-read.read) c.collection.ensures c.in_ok-read.ensures in
    record { taken = λ least. took_line least c.args.self c.add.new.self c.args.line.now c.in_ok-read.read c.requires.ready.none_came was (sym c.is_meet.ensures ∙ c.if-is_meet.false) c.in_ok-add.ensures.added }
