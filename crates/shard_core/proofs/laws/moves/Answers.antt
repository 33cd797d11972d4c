use Rattle.shard_core.proofs.ShelfLaws.{homes_caught, there_caught}
use Rattle.shard_core.proofs.MoveLaws.{loaded, released, merged}
use Rattle.shard_core.proofs.laws.moves.Goals as goal

pub returns-clause-there : goal.returns-clause-there
returns-clause-there c channel notes pending deaths pieces number k = there_caught channel notes pending deaths pieces number k.is

pub returns-clause-homes : goal.returns-clause-homes
returns-clause-homes c channel notes pending deaths pieces number k = homes_caught channel notes pending deaths pieces number k.is

pub returns-clause-load : goal.returns-clause-load
returns-clause-load c channel notes note segment node pieces e k = loaded channel notes note pieces k segment node e

pub returns-clause-release : goal.returns-clause-release
returns-clause-release c channel notes note segment node pieces e k = released channel notes note pieces k segment node e

pub returns-clause-merge : goal.returns-clause-merge
returns-clause-merge c channel notes note sources segment node pieces e k = merged channel notes note pieces k sources segment node e
