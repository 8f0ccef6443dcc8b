-- An entry of two outputs, whose texts stand in the stage.
use Rattle.std.proofs.Common.{◌≡◌, ℕ, zero, suc, List, [], ◌∷◌, ◌++◌, length, take, Some, refl, sym, ◌∙◌, ap, subst, arith}
use Rattle.std.specs.Prelude.{slice_get}
use Rattle.std.proofs.lemmas.List.{take_all}
use Rattle.disk_model.specs.Disk.{Files, DiskState}
use Rattle.ledger_model.specs.Entries.{Entry, Output}
use Rattle.lp_outside.specs.declared.stage.Mark.{Mark}
use Rattle.recovery_model.specs.Recovered.{IsRestored, IsFile}
use Rattle.commit.specs.States.{IsGood, HasStaged}
use Rattle.commit.specs.Putting.{IsText}
use Rattle.commit.proofs.Restoring.{same_output}
use Rattle.commit.proofs.Distinct.{none_there}
use Rattle.commit.specs.Whole.{AddsTwo, output_at}

-- a text behind a whole file
restored : (stage : List ℕ) (index : ℕ) (name text : List ℕ) (base : ℕ) (mark : Mark) (before after : Files) → base ≡ length (before name) → IsText stage index mark.last mark.length text → after name ≡ before name ++ text
    → IsRestored stage index (output_at name base mark) (before name) (after name)
restored stage index name text base mark before after base_is has is = record {
  base = omega (arith, base_is);
  text = text;
  staged = has;
  is = is ∙ ap (λ (l : List ℕ). l ++ text) (sym (take_all base (before name) (omega (arith, base_is))));
}

pub staged_two : (disk : DiskState) (ledger stage : List ℕ) (entry : Entry) (first one second two : List ℕ) (a b : ℕ) (m n : Mark) (before after : Files) → IsGood ledger stage entry
    → entry.outputs ≡ output_at first a m ∷ output_at second b n ∷ [] → entry.staged ≡ length (disk.seen stage) → a ≡ length (before first) → b ≡ length (before second)
    → IsText (disk.seen stage) 0 m.last m.length one → IsText (disk.seen stage) 1 n.last n.length two → AddsTwo first one second two before after → HasStaged disk ledger stage entry before after
staged_two disk ledger stage entry first one second two a b m n before after good outputs staged a_is b_is has_one has_two adds = record {
  good = good;
  whole = staged;
  staged = λ name other. subst (λ (os : List Output). IsFile (take entry.staged (disk.seen stage)) os name (before name) (after name)) (sym outputs)
      (subst (λ (s : List ℕ). IsFile s both name (before name) (after name)) (sym (take_all entry.staged (disk.seen stage) (omega (arith, staged)))) (file name));
}
  where
    both : List Output
    both = output_at first a m ∷ output_at second b n ∷ []

    listed : (name : List ℕ) (k : ℕ) (o : Output) → slice_get both k ≡ Some o → o.name ≡ name → IsRestored (disk.seen stage) k o (before name) (after name)
    listed name zero o at named =
        let same : output_at first a m ≡ o = same_output (output_at first a m) o at in
        let called : first ≡ name = ap (λ (p : Output). p.name) same ∙ named in
        subst (λ (p : Output). IsRestored (disk.seen stage) 0 p (before name) (after name)) same
        (subst (λ (f : List ℕ). IsRestored (disk.seen stage) 0 (output_at first a m) (before f) (after f)) called (restored (disk.seen stage) 0 first one a m before after a_is has_one adds.first_is))
    listed name (suc zero) o at named =
        let same : output_at second b n ≡ o = same_output (output_at second b n) o at in
        let called : second ≡ name = ap (λ (p : Output). p.name) same ∙ named in
        subst (λ (p : Output). IsRestored (disk.seen stage) 1 p (before name) (after name)) same
        (subst (λ (f : List ℕ). IsRestored (disk.seen stage) 1 (output_at second b n) (before f) (after f)) called (restored (disk.seen stage) 1 second two b n before after b_is has_two adds.second_is))
    listed name (suc (suc k)) o at named = absurd (none_there k o at)

    file : (name : List ℕ) → IsFile (disk.seen stage) both name (before name) (after name)
    file name = record {
      listed = listed name;
      unlisted = λ none. adds.others name (λ e. none 0 (output_at first a m) refl (sym e)) (λ e. none 1 (output_at second b n) refl (sym e));
    }
