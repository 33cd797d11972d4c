use Rattle.std.proofs.Common.{◌≡◌, refl, rules, length}
use Rattle.row_types.specs.Spelling.{hex_of}
use Rattle.row_types.proofs.SpelledBits.{vector_of-hex_of}
use Rattle.row_types.proofs.vectors.BitVector.to_hex.Goals as goal

pub returns-clause-reads_back : goal.returns-clause-reads_back
returns-clause-reads_back c = λ d.
    let e : c.of.result ≡ hex_of c.args.self.now = search rules in
    rw e (vector_of-hex_of c.args.self.now (length c.args.self.now) refl d)
