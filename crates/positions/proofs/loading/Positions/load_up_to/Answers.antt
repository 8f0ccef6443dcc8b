use Rattle.std.proofs.Common.{None, refl, sym}
use Rattle.ledger.proofs.Composing.{handed}
use Rattle.positions.specs.Loads.{RefusedLoad}
use Rattle.positions.proofs.Lasts.{keeps_none}
use Rattle.positions.proofs.Ledgers.{ledger_left, ledger_fits, refused_taking}
use Rattle.positions.proofs.loading.Positions.load_up_to.Goals as goal

pub returns-in_err-take_pairs-clause-loads : goal.returns-in_err-take_pairs-clause-loads
returns-in_err-take_pairs-clause-loads g c = λ file holds end.
    handed c.from_residual.result c.in_err-take_pairs.field-0.0 _ (RefusedLoad file) c.from_residual.ensures.1
    (refused_taking file end.pairs c.in_err-take_pairs.field-0.0 end.is (c.in_err-take_pairs.ensures.takes file end.pairs holds (ledger_fits file end.pairs end.is) (sym end.entries) (keeps_none None c.new-places.result.entries refl c.new-places.ensures.empty) (ledger_left file end.pairs c.args.end.pair end.is end.pair)))

pub returns-clause-loads : goal.returns-clause-loads
returns-clause-loads g c = λ file holds end. record {
  pairs = end.pairs;
  is = end.is;
  keeps = c.in_ok-take_pairs.ensures.takes file end.pairs holds (ledger_fits file end.pairs end.is) (sym end.entries) (keeps_none None c.new-places.result.entries refl c.new-places.ensures.empty) (ledger_left file end.pairs c.args.end.pair end.is end.pair);
}
