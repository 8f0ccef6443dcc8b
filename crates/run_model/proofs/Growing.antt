use Rattle.lp_model.proofs.CompleteLines.{among_left, among_right}
-- A settled state stays settled where logs grow, and where a log goes that no entry has a span of.
use Rattle.std.proofs.Common.{◌≡◌, ℕ, ◌≤◌, true, List, [], ◌∷◌, ◌++◌, length, map, Some, refl, sym, ◌∙◌, ap, inl, inr, subst}
use Rattle.std.specs.Prelude.{sum}
use Rattle.std.specs.List.{AllByRecursion}
use Rattle.lp_model.specs.Outside.{bytes_in}
use Rattle.lp_model.specs.Reading.{Format, Standing, records_of, bad_lines_of, standing_at}
use Rattle.lp_model.proofs.Appending.{end_stays, standing_at-stays, records_of-stay, bad_lines_of-stay}
use Rattle.disk_model.specs.Disk.{Files}
use Rattle.ledger_model.specs.Entries.{Entry, Span}
use Rattle.ledger_model.specs.Standings.{standing_layout}
use Rattle.run_model.specs.Logs.{Written}
use Rattle.lp_model.specs.Complete.{IsAmong}
use Rattle.run_model.specs.Kept.{spans_of}
use Rattle.run_model.specs.Meanings.{Meaning, asked_of, Part}
use Rattle.run_model.specs.Right.{GoesOn, span_part, parts_of, bad_of, rows_in, IsNext, FollowFrom, IsSettled}

-- the logs of these spans keep what was written to them
abbrev pub Keeps : Written → Written → List Span → Type 0
Keeps old new spans = (span : Span) → IsAmong span spans → (bytes : List ℕ) → old span.identity ≡ Some bytes → (more : List ℕ) × (new span.identity ≡ Some (bytes ++ more))

module _ (format : Format) (old new : Written) (before : List Entry) where
  goes_on_kept : (span : Span) → GoesOn format old before span → ((bytes : List ℕ) → old span.identity ≡ Some bytes → (more : List ℕ) × (new span.identity ≡ Some (bytes ++ more))) → GoesOn format new before span
  goes_on_kept span g keeps =
      let more = keeps g.bytes g.is in
      record {
        bytes = g.bytes ++ more.0;
        is = more.1;
        from_is = g.from_is;
        forward = g.forward;
        ends = end_stays g.bytes more.0 span.to g.ends;
        standing_is = g.standing_is ∙ ap (λ (s : Standing). (standing_layout span.to).spell s) (sym (standing_at-stays format g.bytes more.0 true span.to g.ends));
      }

  part_kept : (span : Span) → GoesOn format old before span → ((bytes : List ℕ) → old span.identity ≡ Some bytes → (more : List ℕ) × (new span.identity ≡ Some (bytes ++ more))) → span_part format new span ≡ span_part format old span
  part_kept span g keeps =
      let more = keeps g.bytes g.is in
      let was : bytes_in old span.identity ≡ g.bytes = rw g.is refl in
      let now : bytes_in new span.identity ≡ g.bytes ++ more.0 = rw more.1 refl in
      let rows = records_of-stay format g.bytes more.0 true span.from span.to g.ends in
      let stands = standing_at-stays format g.bytes more.0 true span.to g.ends in
      let Of : List ℕ → Part = λ b. record { identity = span.identity; records = records_of format b true span.from span.to; columns = (standing_at format b true span.to).columns } in
      ap Of now ∙ ((λ i. record { identity = span.identity; records = rows i; columns = (stands i).columns }) ∙ sym (ap Of was))

  bad_kept : (span : Span) → GoesOn format old before span → ((bytes : List ℕ) → old span.identity ≡ Some bytes → (more : List ℕ) × (new span.identity ≡ Some (bytes ++ more))) → bad_of format new span ≡ bad_of format old span
  bad_kept span g keeps =
      let more = keeps g.bytes g.is in
      let was : bytes_in old span.identity ≡ g.bytes = rw g.is refl in
      let now : bytes_in new span.identity ≡ g.bytes ++ more.0 = rw more.1 refl in
      let Of : List ℕ → ℕ = λ b. length (bad_lines_of format b true span.from span.to) in
      ap Of now ∙ (ap length (bad_lines_of-stay format g.bytes more.0 true span.from span.to g.ends) ∙ sym (ap Of was))

  all_kept : (spans : List Span) → AllByRecursion (GoesOn format old before) spans → Keeps old new spans → AllByRecursion (GoesOn format new before) spans
  all_kept [] g keeps = tt
  all_kept (span ∷ spans) (g, gs) keeps = (goes_on_kept span g (keeps span (inl refl)), all_kept spans gs (λ other among. keeps other (inr among)))

  parts_kept : (spans : List Span) → AllByRecursion (GoesOn format old before) spans → Keeps old new spans → parts_of format new spans ≡ parts_of format old spans
  parts_kept [] g keeps = refl
  parts_kept (span ∷ spans) (g, gs) keeps = λ i. part_kept span g (keeps span (inl refl)) i ∷ parts_kept spans gs (λ other among. keeps other (inr among)) i

  bads_kept : (spans : List Span) → AllByRecursion (GoesOn format old before) spans → Keeps old new spans → map (bad_of format new) spans ≡ map (bad_of format old) spans
  bads_kept [] g keeps = refl
  bads_kept (span ∷ spans) (g, gs) keeps = λ i. bad_kept span g (keeps span (inl refl)) i ∷ bads_kept spans gs (λ other among. keeps other (inr among)) i

module _ (meaning : Meaning) (old new : Written) where
  next_kept : (before : List Entry) (files : Files) (entry : Entry) (after : Files) → Keeps old new entry.spans → IsNext meaning old before files entry after → IsNext meaning new before files entry after
  next_kept before files entry after keeps next =
      let r = next.right in
      let format = meaning.format entry.input in
      let parts = parts_kept format old new before entry.spans r.reads.go_on keeps in
      record {
        given = next.given;
        right = record {
          reads = record {
            words = r.reads.words;
            input_is = r.reads.input_is;
            same_input = r.reads.same_input;
            apart = r.reads.apart;
            go_on = all_kept format old new before entry.spans r.reads.go_on keeps;
          };
          writes = record {
            gives = subst (λ (ps : List Part). meaning.gives (asked_of entry) ps entry.lists next.given) (sym parts) r.writes.gives;
            outputs = r.writes.outputs;
            output_is = r.writes.output_is;
          };
          counts = record {
            processed_is = r.counts.processed_is ∙ ap rows_in (sym parts);
            bad_least = subst (λ (n : ℕ). n ≤ entry.bad) (ap sum (sym (bads_kept format old new before entry.spans r.reads.go_on keeps))) r.counts.bad_least;
            bad_most = r.counts.bad_most;
          };
        };
        files_are = next.files_are;
      }

  follow_kept : (before : List Entry) (files : Files) (entries : List Entry) (after : Files) → Keeps old new (spans_of entries) → FollowFrom meaning old before files entries after → FollowFrom meaning new before files entries after
  follow_kept before files [] after keeps f = f
  follow_kept before files (entry ∷ entries) after keeps (next, is, more) = (
    next,
    next_kept before files entry next (λ span among. keeps span (among_left span entry.spans (spans_of entries) among)) is,
    follow_kept (before ++ entry ∷ []) next entries after (λ span among. keeps span (among_right span entry.spans (spans_of entries) among)) more,
  )

  pub settled_kept : (start : Files) (entries : List Entry) (files : Files) → Keeps old new (spans_of entries) → IsSettled meaning old start entries files → IsSettled meaning new start entries files
  settled_kept start entries files keeps s = follow_kept [] start entries files keeps s
