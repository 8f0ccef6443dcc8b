use Rattle.std.proofs.Common.{sym, ◌∙◌}
use Rattle.query_parser.proofs.Finishing.{placed_some, placed_none}
use Rattle.query_parser.proofs.whole.place.Goals as goal

pub returns-in-Some : goal.returns-in-Some
returns-in-Some c =
    placed_some c.args.tokens.now.items c.saturating_sub.result c.len.result c.args.count c.args.tokens.now.text_length c.in-Some.token.now c.len.ensures c.saturating_sub.ensures (sym c.in-Some.ensures)

pub returns-in-None : goal.returns-in-None
returns-in-None c =
    c.text_length.ensures ∙ placed_none c.args.tokens.now.items c.saturating_sub.result c.len.result c.args.count c.args.tokens.now.text_length c.len.ensures c.saturating_sub.ensures (sym c.in-None.ensures)
