use Rattle.std.proofs.Common.{ap, ◌∙◌, option_map}
use Rattle.query_node.proofs.fetching.get.Goals as goal
use Rattle.query_node.proofs.Getting.{one_got, one_lost, fault_of_one, no_memory}

pub returns-in-Ok-Some-clause-fetched : goal.returns-in-Ok-Some-clause-fetched
returns-in-Ok-Some-clause-fetched g c =
    one_got c.args.object.now _ (g.K.Keeper.kept c.get.new.self) (option_map (λ b. b.items) c.in-Ok-Some.field-0) c.compared.result c.in-Ok-Some.ensures.found
    (λ given e. c.compared.ensures.answers given (e ∙ ap (option_map (λ b. b.items)) c.in-Ok-Some.field-0-is))

pub returns-in-Ok-None-clause-fetched : goal.returns-in-Ok-None-clause-fetched
returns-in-Ok-None-clause-fetched g c =
    one_got c.args.object.now _ (g.K.Keeper.kept c.get.new.self) (option_map (λ b. b.items) c.in-Ok-None.field-0) _ c.in-Ok-None.ensures.found
    (λ given e. one_lost c.args.object.now given (e ∙ ap (option_map (λ b. b.items)) c.in-Ok-None.field-0-is))

pub returns-in-Err-Failed-clause-fetched : goal.returns-in-Err-Failed-clause-fetched
returns-in-Err-Failed-clause-fetched g c = fault_of_one c.args.object.now _

pub returns-in-Err-Memory-clause-fetched : goal.returns-in-Err-Memory-clause-fetched
returns-in-Err-Memory-clause-fetched g c = no_memory _ _
