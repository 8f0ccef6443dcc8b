use Rattle.std.proofs.Common.{FitsSigned, w64, rules}
use Rattle.std.proofs.lemmas.Int.{to_z-of_z}
use Rattle.tpl_output.proofs.Replacing.{filled_next, filled_all, place_within}
use Rattle.tpl_output.proofs.filling.fill.Goals as goal

pub bytes-preserved : goal.bytes-preserved
bytes-preserved c =
    let so_far = c.bytes.invariant in
    let behind = c.bytes_from.result.now in
    record {
      within = place_within c.args.text.now behind c.bytes.at c.in_ok-size.size c.bytes-test.true c.bytes_from.ensures c.in_ok-size.ensures.within;
      same = filled_next c.args.names.now _ c.args.body c.args.text.now behind c.bytes.at c.in_ok-size.size c.bytes.filling c.take_byte.new.filling c.bytes-test.true c.bytes_from.ensures c.in_ok-size.ensures.size c.in_ok-size.ensures.text so_far.same;
    }

pub returns : goal.returns
returns c =
    let fits : FitsSigned w64 c.args.moment = search rules in
    let same = simp to_z-of_z at c.bytes.invariant.same in
    filled_all c.args.names.now c.args.moment c.args.body c.args.text.now c.bytes.at c.bytes.filling c.bytes-test.false same
