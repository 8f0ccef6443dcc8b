use Rattle.std.proofs.lemmas.Bool.{true≢false}
use Rattle.std.specs.BTreeSet.{BTreeSet}
use Rattle.std.proofs.Common.{refl, ◌≡◌, ◌++◌, ◌∷◌, [], ℕ, List, take, sym, ap, subst, ◌∙◌, ◌+◌}
use Rattle.std.proofs.lemmas.List.{take_more, take_all}
use Rattle.memory_outside.specs.declared.files.MemoryFile.{MemoryFile}
use Rattle.memory_outside.proofs.Listings.{HasMatches, Holds, match_left_out, match_added, are_matches}
use Rattle.memory_outside.proofs.memory_logs.matching.Goals.{then-matches+in_ok-insert, else-matches}
use Rattle.memory_outside.proofs.memory_logs.matching.Goals as goal

pub loop-file-preserved : goal.loop-file-preserved
loop-file-preserved c =
    let files = c.args.files.now in
    let i = c.loop-file.file-index in
    let x = c.file-item.result in
    let grown : take (i + 1) files ≡ take i files ++ x ∷ [] = take_more files i x c.loop-file-test.true ∙ ap (λ (y : MemoryFile). take i files ++ y ∷ []) (sym c.file-item.is) in
    let pattern = c.args.pattern.now in
    subst (λ (fs : List MemoryFile). Holds c.if-matches.found fs pattern) (sym grown)
    (elim c.if-matches.branch as (λ _. Holds c.if-matches.found (take i files ++ x ∷ []) pattern) [
      | then-matches+in_ok-insert w ↦ subst (λ (s : BTreeSet (List ℕ)). Holds s (take i files ++ x ∷ []) pattern) (sym w.found-is) (record {
        has = match_added c.loop-file.found w.insert.new.self (take i files) x w.copy.result pattern w.copy.ensures w.in_ok-insert.ensures.updates.0 (w.if-matches.ensures.0 refl) c.loop-file.invariant.has;
        ordered = w.in_ok-insert.ensures.ordered;
      })
      | else-matches w ↦ subst (λ (s : BTreeSet (List ℕ)). Holds s (take i files ++ x ∷ []) pattern) (sym w.found-is) (record {
        has = match_left_out c.loop-file.found (take i files) x pattern (λ m. true≢false (sym (w.if-matches.ensures.1 m))) c.loop-file.invariant.has;
        ordered = c.loop-file.invariant.ordered;
      })
    ])

pub returns : goal.returns
returns c =
    let files = c.args.files.now in
    let all : take c.loop-file.file-index files ≡ files = take_all c.loop-file.file-index files c.loop-file-test.false in
    are_matches c.loop-file.found files c.args.pattern.now c.in_ok-names.names c.in_ok-names.ensures c.loop-file.invariant.ordered (subst (λ (fs : List MemoryFile). HasMatches c.loop-file.found fs c.args.pattern.now) all c.loop-file.invariant.has)
