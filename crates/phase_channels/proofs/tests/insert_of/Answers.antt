use Rattle.phase_channels.proofs.tests.insert_of.Goals as goal

pub returns-clause-waits : goal.returns-clause-waits
returns-clause-waits c = (c.requires, λ meets. cc)
