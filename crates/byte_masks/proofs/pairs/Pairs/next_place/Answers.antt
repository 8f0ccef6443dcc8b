use Rattle.std.proofs.Common.{◌≡◌, ◌+◌, ◌≤◌, ℕ, length, drop, refl, subst, arith}
use Rattle.std.specs.List.{position_or_len}
use Rattle.byte_masks.specs.Places.{are_in, pairs_of, IsNextPlace}
use lib.Count.{count_trailing_zeros}
use Rattle.byte_masks.specs.Search.{PairSearch}
use Rattle.byte_masks.proofs.PairMasks.{length-pairs_of}
use Rattle.byte_masks.proofs.Steps.{looks_new, found, run_on, run_ends, run_finds}
use Rattle.byte_masks.proofs.pairs.Pairs.next_place.Goals as goal

pub overflow_sub-bytes-in-loop-mask : goal.overflow_sub-bytes-in-loop-mask
overflow_sub-bytes-in-loop-mask c =
    let s = c.self.inside in
    let looks = c.loop-mask.invariant.looks in
    let within = looks.within in
    let from = looks.from in
    omega (arith, length-pairs_of s.apart s.bytes.now)

pub returns-then-bytes-apart-le-LANES-clause-place : goal.returns-then-bytes-apart-le-LANES-clause-place
returns-then-bytes-apart-le-LANES-clause-place c =
    let s = c.self.inside in
    let l = c.loop-mask in
    subst (λ (s : PairSearch). length (drop s.at (pairs_of s.apart s.bytes)) ≤ position_or_len (are_in s.first s.second) (drop s.at (pairs_of s.apart s.bytes))) c.self.view_is
    (run_ends (are_in s.first s.second) (pairs_of s.apart s.bytes.now) s.at l.at l.base l.mask l.invariant.run l.invariant.looks c.loop-mask-test.true (omega (arith, c.if-bytes-apart-le-LANES.true, length-pairs_of s.apart s.bytes.now)))

pub loop-mask-preserved : goal.loop-mask-preserved
loop-mask-preserved c =
    let s = c.self.inside in
    let l = c.loop-mask in
    let size = length-pairs_of s.apart s.bytes.now in
    record {
      looks = looks_new (are_in s.first s.second) (pairs_of s.apart s.bytes.now) (l.base + 64) c.pair_block-mask.result (omega (arith, c.if-bytes-apart-le-LANES.false, size)) c.pair_block-mask.ensures;
      run = run_on (are_in s.first s.second) (pairs_of s.apart s.bytes.now) s.at l.at l.base l.mask l.invariant.run l.invariant.looks c.loop-mask-test.true (omega (arith, c.if-bytes-apart-le-LANES.false, size));
    }

pub overflow_add-place : goal.overflow_add-place
overflow_add-place c =
    let s = c.self.inside in
    let l = c.loop-mask in
    let next = (found (are_in s.first s.second) (pairs_of s.apart s.bytes.now) l.at l.base l.mask _ l.invariant.looks (omega (arith, c.loop-mask-test.false)) refl).0 in
    let within = next.1 in
    omega (arith, length-pairs_of s.apart s.bytes.now)

pub overflow_add-self : goal.overflow_add-self
overflow_add-self c =
    let s = c.self.inside in
    let l = c.loop-mask in
    let next = (found (are_in s.first s.second) (pairs_of s.apart s.bytes.now) l.at l.base l.mask _ l.invariant.looks (omega (arith, c.loop-mask-test.false)) refl).0 in
    let within = next.1 in
    omega (arith, length-pairs_of s.apart s.bytes.now)

pub invariant_of-self : goal.invariant_of-self
invariant_of-self c =
    let s = c.self.inside in
    let l = c.loop-mask in
    record {
      room = c.self.invariant.room;
      looks = (found (are_in s.first s.second) (pairs_of s.apart s.bytes.now) l.at l.base l.mask _ l.invariant.looks (omega (arith, c.loop-mask-test.false)) refl).1;
    }

pub returns-clause-place : goal.returns-clause-place
returns-clause-place c =
    let s = c.self.inside in
    let l = c.loop-mask in
    let next = (found (are_in s.first s.second) (pairs_of s.apart s.bytes.now) l.at l.base l.mask _ l.invariant.looks (omega (arith, c.loop-mask-test.false)) refl).0 in
    let place : ℕ = l.base + count_trailing_zeros 64 l.mask in
    subst (λ (s : PairSearch). IsNextPlace (are_in s.first s.second) (pairs_of s.apart s.bytes) s.at place × (place + 1 ≡ place + 1)) c.self.view_is
    (run_finds (are_in s.first s.second) (pairs_of s.apart s.bytes.now) s.at l.at place l.invariant.run next, refl)
