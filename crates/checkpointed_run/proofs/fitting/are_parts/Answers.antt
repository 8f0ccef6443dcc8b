use Rattle.std.proofs.Common.{◌≡◌, arith, ℕ, ◌<◌, ◌≤◌, ◌^◌, List, length, sym, subst}
use Rattle.std.specs.Prelude.{All}
use Rattle.std.proofs.lemmas.Bool.{iff_false, true≢false}
use Rattle.log_reading.specs.declared.span.Took.{Took}
use Rattle.run_entry.specs.Forms.{AreKeptLists, IsFileName, IsOutput}
use Rattle.checkpointed_run.specs.Staged.{IsWord}
use Rattle.checkpointed_run.proofs.fitting.are_parts.Goals as goal

pub returns-then-not-are_words : goal.returns-then-not-are_words
returns-then-not-are_words c =
    let Are : List _ → Type 0 = λ words. (length words < 2 ^ 32) × All IsWord words in
    (λ h. absurd (true≢false (sym h)), λ parts. absurd (iff_false c.are_words.ensures c.if-not-are_words.true (subst Are (sym c.as_slice-2.ensures) (parts.few_words, parts.each_word))))

pub returns-then-len-gt-TEMPLATE : goal.returns-then-len-gt-TEMPLATE
returns-then-len-gt-TEMPLATE c = (
  λ h. absurd (true≢false (sym h)),
  λ parts.
      let short : length c.args.template.now ≤ 1_048_576 = parts.short_template in
      let size : c.len.result ≡ length c.args.template.now = c.len.ensures in
      absurd (omega (arith, c.if-len-gt-TEMPLATE.true)),
)

pub returns-then-not-are_lists : goal.returns-then-not-are_lists
returns-then-not-are_lists c = (λ h. absurd (true≢false (sym h)), λ parts. absurd (iff_false c.are_lists.ensures c.if-not-are_lists.true (subst AreKeptLists (sym c.as_slice-3.ensures) parts.kept)))

pub returns : goal.returns
returns c =
    let words = c.are_words.ensures.0 c.if-not-are_words.false in (
      λ is. record {
        few_words = subst (λ (words : List _). length words < 2 ^ 32) c.as_slice-2.ensures words.0;
        each_word = subst (All IsWord) c.as_slice-2.ensures words.1;
        kept = subst AreKeptLists c.as_slice-3.ensures (c.are_lists.ensures.0 c.if-not-are_lists.false);
        short_template = subst (λ (size : ℕ). size ≤ 1_048_576) c.len.ensures c.if-len-gt-TEMPLATE.false;
        each_log = subst (All (λ (log : Took). IsFileName log.identity)) c.as_slice.ensures c.know_files.ensures;
        each_output = subst (All IsOutput) c.as_slice-4.ensures (c.are_outputs.ensures.0 is);
        counts = c.know_counts.ensures;
      },
      λ parts. c.are_outputs.ensures.1 (subst (All IsOutput) (sym c.as_slice-4.ensures) parts.each_output),
    )
