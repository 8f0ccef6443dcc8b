use Rattle.run_entry.proofs.Fitting.{entry_fits}
use Rattle.run_entry.proofs.laws.entries_have_their_form.Goals as goal

pub returns : goal.returns
returns c = entry_fits
