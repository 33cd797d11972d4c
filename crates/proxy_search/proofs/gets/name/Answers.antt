use Rattle.std.proofs.Common.{rules}
use Rattle.proxy_search.proofs.Naming.{kinds_of}
use Rattle.proxy_search.proofs.gets.name.Goals as goal

pub returns-clause-columns : goal.returns-clause-columns
returns-clause-columns c = record { names = search rules; kinds = kinds_of c.args.collection.now.schema.columns c.args.row.fields c.requires.fields }
