use Rattle.std.proofs.Common.{◌≡◌, take}
use Rattle.channel_pieces.specs.Fields.{hits_of}
use Rattle.channel_pieces.proofs.marking.find_hits.Given as goal

abbrev pub invariant-deaths : goal.invariant-deaths
invariant-deaths l = l.hits.items ≡ hits_of l.positions l.marks.deaths (take l.death-index l.deaths)
