use Rattle.std.proofs.Common.{◌+◌, [], map, sym, ◌∙◌, ap, arith}
use Rattle.std.specs.Prelude.{Some}
use Rattle.std.proofs.Math.ListN.{get_or-map}
use Rattle.std.proofs.lemmas.List.{length-map}
use Rattle.slot_reading.specs.Names.{is_same_name}
use Rattle.iis_fields.proofs.TableLemmas.{position_is, position_none, below_more}
use Rattle.iis_fields.proofs.table.place_among.Goals as goal

pub returns-then-is_same_name : goal.returns-then-is_same_name
returns-then-is_same_name c =
    let test = is_same_name c.args.name.now in
    let size = length-map c.args.names.now (λ s. s.now) in
    let at = c.loop-known.known-index in
    let within = c.loop-known-test.true in
    ap Some c.loop-known.invariant.place
    ∙ position_is test (map (λ s. s.now) c.args.names.now) at (omega arith) c.loop-known.invariant.before
    (ap test (get_or-map (λ s. s.now) c.args.names.now at (record { ref_ptr = (0, 0); now = [] })) ∙ (sym c.is_same_name.ensures ∙ c.if-is_same_name.true))

pub loop-known-preserved : goal.loop-known-preserved
loop-known-preserved c =
    let test = is_same_name c.args.name.now in
    let at = c.loop-known.known-index in
    record {
      place = ap (λ n. n + 1) c.loop-known.invariant.place;
      before = below_more test (map (λ s. s.now) c.args.names.now) at c.loop-known.invariant.before
          (ap test (get_or-map (λ s. s.now) c.args.names.now at (record { ref_ptr = (0, 0); now = [] })) ∙ (sym c.is_same_name.ensures ∙ c.if-is_same_name.false));
    }

pub returns : goal.returns
returns c =
    let size = length-map c.args.names.now (λ s. s.now) in
    let past = c.loop-known-test.false in
    position_none (is_same_name c.args.name.now) (map (λ s. s.now) c.args.names.now) c.loop-known.known-index (omega (arith, c.loop-known.auto.known-index-end)) c.loop-known.invariant.before
