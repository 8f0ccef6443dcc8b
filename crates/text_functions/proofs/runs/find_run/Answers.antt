use Rattle.std.proofs.Common.{◌≡◌, ◌+◌, ◌-◌, ◌≤◌, ℕ, List, length, drop, sym, ap₂, subst, ◌∙◌, arith}
use Rattle.std.specs.List.{position_or_len}
use Rattle.byte_masks.specs.declared.set.ByteSet.{ByteSet}
use Rattle.byte_masks.specs.Places.{are_in, pairs_of, IsNextPlace}
use Rattle.text_functions.proofs.StandLemmas.{IsSought, NoneBefore, none_before, none_at, none_behind, pair_within}
use Rattle.text_functions.proofs.runs.find_run.Goals as goal

pub stands_at-requires : goal.stands_at-requires
stands_at-requires c =
    let p = c.loop-place.pairs in
    let next : IsNextPlace (are_in p.first p.second) (pairs_of p.apart p.bytes) p.at c.in-Some.place = c.in-Some.ensures.place.0 in
    let within = pair_within p.bytes p.apart c.in-Some.place next.1 in
    let same = ap₂ (λ (n : ℕ) (xs : List ℕ). length xs) c.loop-place.invariant.apart c.loop-place.invariant.bytes in
    omega arith

pub loop-place-smaller : goal.loop-place-smaller
loop-place-smaller c =
    let p = c.loop-place.pairs in
    let next : IsNextPlace (are_in p.first p.second) (pairs_of p.apart p.bytes) p.at c.in-Some.place = c.in-Some.ensures.place.0 in
    let on : c.next_place.new.self.at ≡ c.in-Some.place + 1 = c.in-Some.ensures.place.1 in
    let within = pair_within p.bytes p.apart c.in-Some.place next.1 in
    let same = ap₂ (λ (n : ℕ) (xs : List ℕ). length xs) c.loop-place.invariant.apart c.loop-place.invariant.bytes in
    omega (arith, next.0)

pub loop-place-preserved : goal.loop-place-preserved
loop-place-preserved c =
    let i = c.loop-place.invariant in
    let p = c.loop-place.pairs in
    let run : List ℕ = c.args.run.now in
    let text : List ℕ = c.args.text.now in
    let left : ℕ = c.rare_places-left.result.0 in
    let right : ℕ = c.rare_places-left.result.1 in
    let next : IsNextPlace (are_in p.first p.second) (pairs_of (right - left) text) p.at c.in-Some.place =
    subst (λ (ps : List (ℕ × ℕ)). IsNextPlace (are_in p.first p.second) ps p.at c.in-Some.place) (ap₂ pairs_of i.apart i.bytes) c.in-Some.ensures.place.0 in
    let none = none_before run text p.first p.second left right p.at c.in-Some.place i.sought i.none next in
    let from = i.from in
    let later : left ≤ c.in-Some.place = omega (arith, next.0) in
    let on : c.next_place.new.self.at ≡ c.in-Some.place + 1 = c.in-Some.ensures.place.1 in
    let within = pair_within text (right - left) c.in-Some.place next.1 in
    record {
      sought = subst (λ (s : ByteSet). IsSought run s c.next_place.new.self.second left right) (sym c.in-Some.ensures.first) (subst (λ (s : ByteSet). IsSought run p.first s left right) (sym c.in-Some.ensures.second) i.sought);
      apart = c.in-Some.ensures.apart ∙ i.apart;
      bytes = c.in-Some.ensures.bytes ∙ i.bytes;
      from = omega arith;
      within = omega arith;
      none = subst (NoneBefore run text left) (sym on) (none_at run text left c.in-Some.place later none (λ stands. let is = c.stands_at.ensures.1 stands in cc));
    }

pub returns-then-stands_at : goal.returns-then-stands_at
returns-then-stands_at c =
    let i = c.loop-place.invariant in
    let p = c.loop-place.pairs in
    let run : List ℕ = c.args.run.now in
    let text : List ℕ = c.args.text.now in
    let left : ℕ = c.rare_places-left.result.0 in
    let right : ℕ = c.rare_places-left.result.1 in
    let next : IsNextPlace (are_in p.first p.second) (pairs_of (right - left) text) p.at c.in-Some.place =
    subst (λ (ps : List (ℕ × ℕ)). IsNextPlace (are_in p.first p.second) ps p.at c.in-Some.place) (ap₂ pairs_of i.apart i.bytes) c.in-Some.ensures.place.0 in
    let none = none_before run text p.first p.second left right p.at c.in-Some.place i.sought i.none next in
    record { here = c.stands_at.ensures.0 c.if-stands_at.true; first = λ before lt. none before (omega arith) }

pub returns : goal.returns
returns c =
    let i = c.loop-place.invariant in
    let p = c.loop-place.pairs in
    let right : ℕ = c.rare_places-left.result.1 in
    let left : ℕ = c.rare_places-left.result.0 in
    none_behind c.args.run.now c.args.text.now p.first p.second left right p.at i.sought i.none
    (subst (λ (ps : List (ℕ × ℕ)). length (drop p.at ps) ≤ position_or_len (are_in p.first p.second) (drop p.at ps)) (ap₂ pairs_of i.apart i.bytes) c.in_default.ensures.place)
