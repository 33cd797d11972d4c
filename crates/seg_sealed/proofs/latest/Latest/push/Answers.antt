use Rattle.std.proofs.Common.{◌≡◌, ◌+◌, ◌-◌, ◌<◌, ◌≤◌, ◌++◌, length, get_or, arith, rules, vec_capacity, vec_len}
use Rattle.std.proofs.lemmas.Grind.{get_or_default_zero}
use Rattle.seg_sealed.specs.Fields.{KeepsLatest, slot_of}
use Rattle.seg_sealed.proofs.ChainLaws.{push_latest, slot_below}
use Rattle.seg_sealed.proofs.latest.Latest.push.Goals as goal

pub invariant_of-self : goal.invariant_of-self
invariant_of-self c =
    let slots : c.len.result ≡ length c.self.inside.last.items = search rules in
    let some = c.self.invariant.chains.some in
    let here : slot_of c.len.result c.args.row < c.len.result = slot_below c.len.result c.args.row (omega arith) in
    let zero : get_or c.self.inside.last.items (slot_of c.len.result c.args.row) c.index.result.now ≡ get_or c.self.inside.last.items (slot_of c.len.result c.args.row) 0 = get_or_default_zero c.self.inside.last.items (slot_of c.len.result c.args.row) c.index.result.now (omega arith) in
    let at : c.index.result.now ≡ get_or c.self.inside.last.items (slot_of c.len.result c.args.row) 0 = (cc (c.index.ensures, zero)) in
    let number : c.len-2.result + 1 ≡ length c.self.inside.marks.items + 1 = search rules in
    record {
      enough = omega arith;
      chains = push_latest c.self.inside.marks.items c.self.inside.before.items c.self.inside.last.items (c.args.row, c.args.ts) c.len.result c.index.result.now (c.len-2.result + 1) c.push_reserved-2.new.self.items c.push_reserved.new.self.items c.self.invariant.chains slots at number c.push_reserved-2.ensures.items c.push_reserved.ensures.items;
    }
