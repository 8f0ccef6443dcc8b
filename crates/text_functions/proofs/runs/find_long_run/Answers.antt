use Rattle.std.proofs.Common.{◌≡◌, ◌≤◌, ◌<◌, ℕ, List, ◌+◌, length, subst, ◌∙◌, arith, rules}
use Rattle.memchr.specs.Find.{OccursAt, NoneBefore, Nowhere}
use Rattle.text_functions.proofs.CaseLemmas.{small}
use Rattle.text_functions.proofs.WindowLemmas.{window_of, window_is, first_in_window, none_in_window}
use Rattle.text_functions.proofs.runs.find_long_run.Goals as goal

pub returns-in-Some : goal.returns-in-Some
returns-in-Some c =
    let text : List ℕ = c.args.text.now in
    let run : List ℕ = c.args.run.now in
    let at : ℕ = c.loop-at.at in
    let size : ℕ = c.min-size.result in
    let place : ℕ = c.in-Some.place in
    let least = c.min-size.ensures in
    let room : at + length run ≤ length text = c.loop-at-test.true in
    let within : at + size ≤ length text = search (rules, least, room) in
    let sought : c.bytes_to-sought.result.now ≡ small run = c.bytes_to-sought.ensures ∙ c.put_small.ensures.front in
    let hay : c.bytes_to-in-loop-at.result.now ≡ window_of text at size =
    window_is text c.bytes_from.result.now c.bytes_to.result.now c.put_small-in-loop-at.new.buffer c.bytes_to-in-loop-at.result.now at size within c.bytes_from.ensures c.bytes_to.ensures c.put_small-in-loop-at.ensures.front c.bytes_to-in-loop-at.ensures in
    let Finds : List ℕ → List ℕ → Type 0 = λ h n. NoneBefore (OccursAt h n) 0 (length h + 1) place × OccursAt h n place in
    let found : Finds (window_of text at size) (small run) = subst (Finds (window_of text at size)) sought (subst (λ h. Finds h c.bytes_to-sought.result.now) hay c.in-Some.ensures) in
    first_in_window run text at size place within c.loop-at.invariant.none found.0 found.1

pub loop-at-preserved : goal.loop-at-preserved
loop-at-preserved c =
    let text : List ℕ = c.args.text.now in
    let run : List ℕ = c.args.run.now in
    let at : ℕ = c.loop-at.at in
    let size : ℕ = c.min-size.result in
    let least = c.min-size.ensures in
    let most : length run ≤ 65536 = c.requires.fits in
    let room : at + length run ≤ length text = c.loop-at-test.true in
    let within : at + size ≤ length text = search (rules, least, room) in
    let fits : length run ≤ size = search (rules, least, room, most) in
    let some : 0 < length run = c.requires.some in
    let sought : c.bytes_to-sought.result.now ≡ small run = c.bytes_to-sought.ensures ∙ c.put_small.ensures.front in
    let hay : c.bytes_to-in-loop-at.result.now ≡ window_of text at size =
    window_is text c.bytes_from.result.now c.bytes_to.result.now c.put_small-in-loop-at.new.buffer c.bytes_to-in-loop-at.result.now at size within c.bytes_from.ensures c.bytes_to.ensures c.put_small-in-loop-at.ensures.front c.bytes_to-in-loop-at.ensures in
    let Lacks : List ℕ → List ℕ → Type 0 = λ h n. Nowhere (OccursAt h n) 0 (length h + 1) in
    let nowhere : Lacks (window_of text at size) (small run) = subst (Lacks (window_of text at size)) sought (subst (λ h. Lacks h c.bytes_to-sought.result.now) hay c.in-None.ensures) in
    record {
      within = omega arith;
      none = none_in_window run text at size within fits c.loop-at.invariant.none nowhere;
    }
