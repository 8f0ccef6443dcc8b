use Rattle.std.proofs.Common.{List, map, length, refl, ap, sym, subst, ◌∙◌, arith}
use Rattle.std.proofs.lemmas.List.{length-map, with_items_is}
use Rattle.std.proofs.lemmas.List.FromFn.{length-enumerate_from}
use Rattle.std.specs.List.{enumerate_from}
use Rattle.delimited_input.specs.declared.tally.Tally.{Tally}
use Rattle.delimited_input.specs.Sampled.{Sampled, StandsFor}
use Rattle.delimited_input.proofs.Sampling.{stands_taken, stands_past}
use Rattle.delimited_input.proofs.Telling.{told_of}
use Rattle.delimited_input.proofs.sampler.KindSampler.add.Goals as goal

pub returns-clause-stands : goal.returns-clause-stands
returns-clause-stands c = λ rows stands.
    let old : Sampled = record {
      columns = length c.self.inside.tallies.items;
      limit = c.self.inside.limit;
      pattern = c.self.inside.pattern.now;
      met = c.self.inside.met;
      left = c.self.inside.left;
      tallies = c.self.inside.tallies.items;
    } in
    let told = c.take_row.ensures ∙ ap (λ (tallies : List Tally). map (told_of c.self.inside.pattern.now c.args.row.now) (enumerate_from 0 tallies)) c.as_mut_slice.ensures.value in
    let size = ap length told ∙ (length-map (enumerate_from 0 c.self.inside.tallies.items) (told_of c.self.inside.pattern.now c.args.row.now) ∙ length-enumerate_from 0 c.self.inside.tallies.items) in
    let fits = size ∙ (sym (ap length c.as_mut_slice.ensures.value) ∙ c.as_mut_slice.ensures.len) in
    let written = with_items_is c.self.inside.tallies c.take_row.new.tallies fits in
    stands_taken old _ c.args.row.now (omega (arith, c.if-self-eq0.false)) (ap length written ∙ size) refl refl refl refl (written ∙ told) rows (subst (λ (s : Sampled). StandsFor s rows) (sym c.self.view_is) stands)

pub returns-then-self-eq0-clause-stands : goal.returns-then-self-eq0-clause-stands
returns-then-self-eq0-clause-stands c = λ rows stands.
    let old : Sampled = record {
      columns = length c.self.inside.tallies.items;
      limit = c.self.inside.limit;
      pattern = c.self.inside.pattern.now;
      met = c.self.inside.met;
      left = c.self.inside.left;
      tallies = c.self.inside.tallies.items;
    } in
    stands_past old _ c.args.row.now c.if-self-eq0.true refl refl refl refl refl refl rows (subst (λ (s : Sampled). StandsFor s rows) (sym c.self.view_is) stands)
