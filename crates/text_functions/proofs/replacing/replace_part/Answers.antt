use Rattle.std.specs.String.{string_bytes}
use Rattle.std.proofs.Common.{◌++◌, List, ℕ, [], Some, sym, ap, ◌∙◌}
use Rattle.std.proofs.lemmas.Bool.{iff_false}
use Rattle.text_functions.specs.Pieces.{pieces, joined}
use Rattle.text_functions.proofs.ReplaceLemmas.{within_fits, too_long, replaced_next, replaced_last, grown, within_grown, with_nothing}
use Rattle.text_functions.proofs.replacing.replace_part.Goals as goal

pub returns-then-not-branch : goal.returns-then-not-branch
returns-then-not-branch c =
    let all : List ℕ = joined c.args.by.now (pieces c.args.part.now c.args.text.now) in
    let made : List ℕ = string_bytes c.loop-before.made in
    let more : List ℕ = c.args.by.now ++ joined c.args.by.now (pieces c.args.part.now c.in-Some.next.now) in
    too_long c.args.most all made c.in-Some.before.now more (replaced_next c.args.by.now c.args.part.now all made c.loop-before.rest.now c.in-Some.before.now c.in-Some.next.now c.requires c.in-Some.ensures.cut c.loop-before.invariant.made) (iff_false c.in_ok-add.ensures.room c.if-not-branch.true)

pub returns-then-not-branch-2 : goal.returns-then-not-branch-2
returns-then-not-branch-2 c =
    let all : List ℕ = joined c.args.by.now (pieces c.args.part.now c.args.text.now) in
    let made : List ℕ = string_bytes c.loop-before.made in
    let rest : List ℕ = joined c.args.by.now (pieces c.args.part.now c.in-Some.next.now) in
    let first = replaced_next c.args.by.now c.args.part.now all made c.loop-before.rest.now c.in-Some.before.now c.in-Some.next.now c.requires c.in-Some.ensures.cut c.loop-before.invariant.made in
    let second = grown all made c.in-Some.before.now (c.args.by.now ++ rest) (string_bytes c.add.new.made) first (c.in_ok-add.ensures.added c.if-not-branch.false) in
    too_long c.args.most all (string_bytes c.add.new.made) c.args.by.now rest second (iff_false c.in_ok-add-2.ensures.room c.if-not-branch-2.true)

pub loop-before-preserved : goal.loop-before-preserved
loop-before-preserved c =
    let all : List ℕ = joined c.args.by.now (pieces c.args.part.now c.args.text.now) in
    let made : List ℕ = string_bytes c.loop-before.made in
    let rest : List ℕ = joined c.args.by.now (pieces c.args.part.now c.in-Some.next.now) in
    let first = replaced_next c.args.by.now c.args.part.now all made c.loop-before.rest.now c.in-Some.before.now c.in-Some.next.now c.requires c.in-Some.ensures.cut c.loop-before.invariant.made in
    let second = grown all made c.in-Some.before.now (c.args.by.now ++ rest) (string_bytes c.add.new.made) first (c.in_ok-add.ensures.added c.if-not-branch.false) in
    let added = c.in_ok-add-2.ensures.added c.if-not-branch-2.false in
    record {
      made = grown all (string_bytes c.add.new.made) c.args.by.now rest (string_bytes c.add-in-Some.new.made) second added;
      room = within_grown c.args.most (string_bytes c.add.new.made) c.args.by.now (string_bytes c.add-in-Some.new.made) (c.in_ok-add-2.ensures.room.0 c.if-not-branch-2.false) added;
      text = c.in-Some.ensures.utf8.1;
    }

pub returns-then-not-branch-3 : goal.returns-then-not-branch-3
returns-then-not-branch-3 c =
    let all : List ℕ = joined c.args.by.now (pieces c.args.part.now c.args.text.now) in
    let made : List ℕ = string_bytes c.loop-before.made in
    too_long c.args.most all made c.loop-before.rest.now [] (with_nothing all made c.loop-before.rest.now (replaced_last c.args.by.now c.args.part.now all made c.loop-before.rest.now c.in_default.ensures.cut c.loop-before.invariant.made)) (iff_false c.in_ok-add-3.ensures.room c.if-not-branch-3.true)

pub returns : goal.returns
returns c =
    let all : List ℕ = joined c.args.by.now (pieces c.args.part.now c.args.text.now) in
    let made : List ℕ = string_bytes c.loop-before.made in
    let added = c.in_ok-add-3.ensures.added c.if-not-branch-3.false in
    let last = replaced_last c.args.by.now c.args.part.now all made c.loop-before.rest.now c.in_default.ensures.cut c.loop-before.invariant.made ∙ sym added in
    ap Some c.from_string.ensures ∙ within_fits c.args.most all (string_bytes c.add-2.new.made) last (within_grown c.args.most made c.loop-before.rest.now (string_bytes c.add-2.new.made) (c.in_ok-add-3.ensures.room.0 c.if-not-branch-3.false) added)
