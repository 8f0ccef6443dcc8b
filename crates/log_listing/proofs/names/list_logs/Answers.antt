use Rattle.std.proofs.Common.{ℕ, List, sym, subst}
use Rattle.std.proofs.lemmas.Result.{IfOk-weaker, IfErr-weaker}
use Rattle.log_listing.specs.Lengths.{AreLengths, IsGone, names_in}
use Rattle.log_listing.specs.Listed.{Lists, IsListFault}
use Rattle.log_listing.proofs.Grown.{lists_grown}
use Rattle.log_listing.proofs.LengthLemmas.{refused_gone}
use Rattle.log_listing.proofs.names.list_logs.Goals as goal

pub returns-clause-listed : goal.returns-clause-listed
returns-clause-listed g c =
    let now = g.L.Logs.folder c.lengths_of.new.logs in
    let then = g.L.Logs.folder c.names_of.new.logs in
    let texts = c.args.texts.now in
    let lists = lists_grown then now texts c.in_ok-names.names c.lengths_of.ensures.grows c.in_ok-names.ensures.ok in
    IfOk-weaker c.lengths_of.result (AreLengths then now c.in_ok-names.names) (λ found. Lists now texts (names_in found))
    (λ found a. subst (λ (names : List (List ℕ)). Lists now texts names) (sym a.same) lists) c.lengths_of.ensures.ok

pub returns-clause-refused : goal.returns-clause-refused
returns-clause-refused g c =
    let now = g.L.Logs.folder c.lengths_of.new.logs in
    let then = g.L.Logs.folder c.names_of.new.logs in
    let texts = c.args.texts.now in
    let lists = lists_grown then now texts c.in_ok-names.names c.lengths_of.ensures.grows c.in_ok-names.ensures.ok in
    IfErr-weaker c.lengths_of.result (IsGone now c.in_ok-names.names) (IsListFault now texts) (λ fault gone. refused_gone now texts c.in_ok-names.names fault lists gone) c.lengths_of.ensures.gone
