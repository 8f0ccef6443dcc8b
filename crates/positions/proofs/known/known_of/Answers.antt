use Rattle.std.proofs.Common.{rules, List, ℕ, [], ◌∷◌, ◌≡◌, All, map, ap, sym, subst, ◌∙◌, nat_cmp, is_gt}
use Rattle.std.specs.Cmp.Lexicographic.{slice_cmp}
use Rattle.std.specs.BTreeMap.Range.{entries_between, IsEntryInRange}
use Rattle.std.specs.declared.ops.Bound.TheVariants.{Included, Excluded}
use Rattle.std.specs.Map.Iter.{deref_pair}
use Rattle.std.proofs.lemmas.List.{map-append}
use Rattle.std.proofs.lemmas.Map.Iter.{iter_end}
use Rattle.generations.proofs.Patterns.{front_is}
use Rattle.positions.specs.Places.{Places}
use Rattle.positions.specs.SpanSteps.{IsKnownAmong}
use Rattle.positions.proofs.KnownPlaces.{high_of, forward, known_in, known_some}
use Rattle.positions.proofs.known.known_of.Goals as goal

pub range-identity-items-requires : goal.range-identity-items-requires
range-identity-items-requires c =
    let low = c.copy.ensures ∙ c.in-Ok.ensures.1 in
    let high = c.in-Ok-with_suffix.ensures.1 in
    ap is_gt ((λ i. slice_cmp nat_cmp (low i) (high i)) ∙ forward c.args.stem.now)

pub loop-identity-preserved : goal.loop-identity-preserved
loop-identity-preserved c =
    subst (λ (entries : Places). IsKnownAmong c.bytes_to-front.result.now entries c.with_generation-known.result) (sym (map-append deref_pair c.loop-identity.yielded ((c.in-Some.identity, c.in-Some.place) ∷ []))) (c.with_generation-known.ensures (map deref_pair c.loop-identity.yielded) c.loop-identity.invariant)

pub returns-clause-ok : goal.returns-clause-ok
returns-clause-ok c =
    let stem = c.args.stem.now in
    let places = c.args.places.now in
    let part = c.range-identity-items.result in
    let low = c.copy.ensures ∙ c.in-Ok.ensures.1 in
    let high = c.in-Ok-with_suffix.ensures.1 in
    let is = c.range-identity-items.ensures.between tt ∙ (λ i. entries_between (slice_cmp nat_cmp) (Included (low i)) (Excluded (high i)) places.entries) in
    let all = subst (λ (start : List ℕ). All (IsEntryInRange (slice_cmp nat_cmp) (Included start) (Excluded (high_of stem)) places) part) low
    (subst (λ (end : List ℕ). All (IsEntryInRange (slice_cmp nat_cmp) (Included c.copy.result) (Excluded end) places) part) high (c.range-identity-items.ensures.in_range tt).0) in
    let whole : map deref_pair c.loop-identity.yielded ≡ part = search (rules, iter_end) in
    let front = front_is stem c.in-Ok.pattern c.as_bytes-bytes.result.now c.bytes_to-front.result.now (c.as_bytes-bytes.ensures.value ∙ c.as_str.ensures.text) c.in-Ok.ensures.1 c.bytes_to-front.ensures in
    known_in stem places part c.loop-identity.known is all
    (subst (λ (f : List ℕ). IsKnownAmong f part c.loop-identity.known) front (subst (λ (entries : Places). IsKnownAmong c.bytes_to-front.result.now entries c.loop-identity.known) whole c.loop-identity.invariant))

pub returns-clause-some : goal.returns-clause-some
returns-clause-some c = known_some c.bytes_to-front.result.now (map deref_pair c.loop-identity.yielded) c.loop-identity.known c.loop-identity.invariant
