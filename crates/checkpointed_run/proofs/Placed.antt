-- The texts that a run put into a stage, as outputs of its entry.
use Rattle.std.proofs.Common.{◌≡◌, ℕ, ◌+◌, ◌<◌, ◌==◌, true, false, List, [], ◌∷◌, length, map, filter, refl, sym, ◌∙◌, ap, subst, arith, inl, inr, length-append}
use Rattle.std.specs.List.{AllZip, AllByRecursion}
use Rattle.std.proofs.lemmas.Bool.{cases_Bool}
use Rattle.std.proofs.lemmas.Bool.Decides.{nat_tests}
use Rattle.command_words.specs.declared.modes.FileMode.{FileMode}
use Rattle.command_words.specs.declared.modes.FileMode.TheVariants as M
use Rattle.disk_model.specs.Disk.{Files, DiskState}
use Rattle.lp_outside.specs.declared.stage.Mark.{Mark}
use Rattle.multiplex.specs.Splitting.{OutputRows}
use Rattle.recovery_model.specs.Stage.{Frame, IsChain, IsStaged, text_of}
use Rattle.recovery_model.specs.Recovered.{IsOther}
use Rattle.row_output.specs.Asked.{Files as FilesAsked, OutputText}
use Rattle.row_output.specs.Files.{IsBase, IsLeftAlone, IsPut, ArePut}
use Rattle.run_model.specs.Right.{takes_part, base_in, text_at, IsOutput}
use Rattle.text_output.specs.Output.{StageKind, kind_of}
use Rattle.text_output.specs.declared.target.Output.{Output as Written}
use Rattle.commit.specs.declared.phases.Commit.{Commit}
use Rattle.commit.specs.Phases.{disk_of, ledger_of, stage_of, stage_state, HasFrames}
use Rattle.run_entry.specs.Gives.{split_of}
use Rattle.run_entry.specs.Meaning.{mode_as}
use Rattle.run_entry.specs.Entries.{kept_output}
use Rattle.checkpointed_run.specs.Files.{ArePlaced, IsPlaced}

-- the frames of a text have as many bytes as it is long
chain_length : (stage : List ℕ) (index : ℕ) (frames : List Frame) (last end : ℕ) → IsChain stage index frames last end → length (text_of frames) ≡ end
chain_length stage index [] last end chain = sym chain
chain_length stage index (f ∷ fs) last end chain = omega (arith, length-append (text_of fs) f.bytes, chain_length stage index fs f.prev f.offset chain.3, chain.1)

text_as : (text : OutputText) (rows : OutputRows) (base : ℕ) → text (base == 0) rows.rows ≡ text_at base (split_of text rows)
text_as text rows base = elim (cases_Bool (base == 0)) [ inl e ↦ rw e refl | inr e ↦ rw e refl ]

is_zero : (n : ℕ) → n ≡ 0 → (n == 0) ≡ true
is_zero n e = grind (arith, nat_tests)

not_zero : (n : ℕ) → 0 < n → (n == 0) ≡ false
not_zero n less = grind (arith, nat_tests)

module _ {D : Type 0} (state : D → DiskState) (ended : Commit D → List ℕ → ℕ → Mark → Type 0) (files : FilesAsked) (text : OutputText) (start now : Commit D) (before : Files)
    (has : HasFrames state start) (same : stage_of now ≡ stage_of start)
    (shown : (name : List ℕ) → IsOther (ledger_of start) (stage_of start) name → (disk_of state start).seen name ≡ before name) where
  abbrev pub kind : StageKind (Commit D)
  kind = kind_of (stage_state state) ended

  abbrev pub IsOf : OutputRows → Type 0
  IsOf rows = IsOther (ledger_of start) (stage_of start) rows.name

  base_is : (mode : FileMode) (rows : OutputRows) (base : ℕ) → IsOf rows → IsBase kind mode start rows.name base → base ≡ base_in (mode_as mode) (before rows.name)
  base_is M.Append rows base other is = is has other.1.0 has.tells ∙ ap length (shown rows.name other)
  base_is M.Overwrite rows base other is = is
  base_is M.LeaveAlone rows base other is = is.0

  takes : (mode : FileMode) (rows : OutputRows) (base : ℕ) → IsOf rows → IsBase kind mode start rows.name base → takes_part (mode_as mode) before (split_of text rows) ≡ true
  takes M.Append rows base other is = refl
  takes M.Overwrite rows base other is = refl
  takes M.LeaveAlone rows base other is =
      let none : 0 ≡ length (before rows.name) = is.1 has other.1.0 has.tells ∙ ap length (shown rows.name other) in is_zero (length (before rows.name)) (sym none)

  leaves : (mode : FileMode) (rows : OutputRows) → IsOf rows → IsLeftAlone kind mode start rows.name → takes_part (mode_as mode) before (split_of text rows) ≡ false
  leaves M.Append rows other is = absurd is
  leaves M.Overwrite rows other is = absurd is
  leaves M.LeaveAlone rows other is =
      let some : is.0 ≡ length (before rows.name) = is.2 has other.1.0 has.tells ∙ ap length (shown rows.name other) in not_zero (length (before rows.name)) (omega (arith, some, is.1))

  staged : (index : ℕ) (rows : OutputRows) (output : Written) → IsPut kind files text index start now rows output → IsStaged ((disk_of state now).seen (stage_of start)) index (kept_output output) (text (output.base == 0) rows.rows)
  staged index rows output put =
      subst (λ (s : List ℕ). IsStaged ((disk_of state now).seen s) index (kept_output output) (text (output.base == 0) rows.rows)) same (put.stands has).1

  one_is : (index : ℕ) (rows : OutputRows) (output : Written) → IsOf rows → IsPut kind files text index start now rows output → IsOutput (mode_as files.mode) before (split_of text rows) (kept_output output)
  one_is index rows output other put =
      let s = staged index rows output put in
      let size : length (text (output.base == 0) rows.rows) ≡ output.mark.length = ap length s.2 ∙ chain_length ((disk_of state now).seen (stage_of start)) index s.0 output.mark.last output.mark.length s.1 in
      record {
        name_is = put.name;
        base_is = base_is files.mode rows output.base other put.base;
        size_is = sym size ∙ ap length (text_as text rows output.base);
      }

  -- the outputs that were put are those that the mode lets take part, each with its text
  pub outputs_are : (index : ℕ) (each : List OutputRows) (outputs : List Written) → AllByRecursion IsOf each → ArePut kind files text start now index each outputs
      → AllZip (IsOutput (mode_as files.mode) before) (filter (takes_part (mode_as files.mode) before) (map (split_of text) each)) (map kept_output outputs)
      × ArePlaced (disk_of state now) (stage_of start) index (map kept_output outputs) (filter (takes_part (mode_as files.mode) before) (map (split_of text) each))
  outputs_are index [] [] others put = (tt, tt)
  outputs_are index [] (output ∷ outputs) others put = absurd put
  outputs_are index (rows ∷ more) [] (other, others) (left, put) =
      let e = leaves files.mode rows other left in rw e (outputs_are index more [] others put)
  outputs_are index (rows ∷ more) (output ∷ outputs) (other, others) (inl (left, put)) =
      let e = leaves files.mode rows other left in rw e (outputs_are index more (output ∷ outputs) others put)
  outputs_are index (rows ∷ more) (output ∷ outputs) (other, others) (inr (put, puts)) =
      let e = takes files.mode rows output.base other put.base in
      let rest = outputs_are (index + 1) more outputs others puts in
      let here : IsPlaced (disk_of state now) (stage_of start) index (kept_output output) (split_of text rows) = record { staged = subst (λ (t : List ℕ). IsStaged ((disk_of state now).seen (stage_of start)) index (kept_output output) t) (text_as text rows output.base) (staged index rows output put) } in
      rw e ((one_is index rows output other put, rest.0), (here, rest.1))
