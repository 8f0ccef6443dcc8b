-- The files with the outputs of an entry are those that a commit restores.
use Rattle.std.proofs.Common.{◌≡◌, ◌≢◌, ⊎_elim, ℕ, zero, suc, ◌+◌, Bool, true, false, true≢false, List, [], ◌∷◌, ◌++◌, length, take, filter, Some, refl, sym, ◌∙◌, ap, subst, arith, inl, inr}
use Rattle.std.specs.Prelude.{slice_get, bytes_eq}
use Rattle.std.specs.List.{AllZip}
use Rattle.std.proofs.lemmas.Bool.{cases_Bool}
use Rattle.std.proofs.lemmas.List.{take_all}
use Rattle.std.proofs.lemmas.Slice.Eq.{bytes_eq-Decides}
use Rattle.disk_model.specs.Disk.{Files, DiskState}
use Rattle.ledger_model.specs.Entries.{Entry, Output}
use Rattle.lp_model.specs.Complete.{IsAmong}
use Rattle.recovery_model.specs.Recovered.{IsFile}
use Rattle.recovery_model.specs.Stage.{IsStaged}
use Rattle.run_model.specs.Meanings.{Mode, Split}
use Rattle.run_model.specs.Right.{takes_part, text_at, IsOutput, AreOutputs, IsSplitOf, IsWith}
use Rattle.run_model.proofs.OneSettled.{kept_among}
use Rattle.run_model.proofs.Phases.{restored_with}
use Rattle.commit.specs.States.{IsGood, HasStaged}
use Rattle.checkpointed_run.specs.Files.{file_with, files_with, ArePlaced}

-- no split has the name of another
abbrev pub NoneNamed : List ℕ → List Split → Type 0
NoneNamed name splits = (split : Split) → IsAmong split splits → split.name ≢ name

abbrev pub NamesDiffer : List Split → Type 0
NamesDiffer [] = Rattle.std.specs.Bool.⊤
NamesDiffer (split ∷ splits) = NoneNamed split.name splits × NamesDiffer splits

pub one_split : (splits : List Split) (a b : Split) → NamesDiffer splits → IsAmong a splits → IsAmong b splits → a.name ≡ b.name → a ≡ b
one_split [] a b differ first second same = absurd first
one_split (s ∷ splits) a b (none, differ) (inl e) (inl f) same = e ∙ sym f
one_split (s ∷ splits) a b (none, differ) (inl e) (inr f) same = absurd (none b f (sym same ∙ ap (λ (t : Split). t.name) e))
one_split (s ∷ splits) a b (none, differ) (inr e) (inl f) same = absurd (none a e (same ∙ ap (λ (t : Split). t.name) f))
one_split (s ∷ splits) a b (none, differ) (inr e) (inr f) same = one_split splits a b differ e f same

fewer_differ : (test : Split → Bool) (splits : List Split) → NamesDiffer splits → NamesDiffer (filter test splits)
fewer_differ test [] differ = tt
fewer_differ test (s ∷ splits) (none, differ) = elim (cases_Bool (test s)) [
  | inl e ↦ let rest : NamesDiffer (s ∷ filter test splits) = ((λ split among. none split (kept_among test split splits among)), fewer_differ test splits differ) in rw e rest
  | inr e ↦ rw e (fewer_differ test splits differ)
]

-- an output of a list with its split
pub record IsPaired (disk : DiskState) (stage : List ℕ) (index : ℕ) (splits : List Split) (output : Output) : Type 0 where
  pub split : Split
  pub among : IsAmong split splits
  pub name_is : output.name ≡ split.name
  pub staged : IsStaged (disk.seen stage) index output (text_at output.base split)

pub paired_at : (mode : Mode) (before : Files) (disk : DiskState) (stage : List ℕ) (index : ℕ) (splits : List Split) (outputs : List Output) (k : ℕ) (output : Output)
    → AllZip (IsOutput mode before) splits outputs → ArePlaced disk stage index outputs splits → slice_get outputs k ≡ Some output → IsPaired disk stage (index + k) splits output
paired_at mode before disk stage index [] [] k output are placed at = absurd (cc)
paired_at mode before disk stage index [] (o ∷ outputs) k output are placed at = absurd are
paired_at mode before disk stage index (s ∷ splits) [] k output are placed at = absurd are
paired_at mode before disk stage index (s ∷ splits) (o ∷ outputs) zero output (is, are) (here, placed) at =
    let some : Some o ≡ Some output = at in
    let same : o ≡ output = cc in
    let place : index ≡ index + 0 = omega arith in
    subst (λ (n : ℕ). IsPaired disk stage n (s ∷ splits) output) place
    (subst (λ (p : Output). IsPaired disk stage index (s ∷ splits) p) same (record { split = s; among = inl refl; name_is = is.name_is; staged = here.staged }))
paired_at mode before disk stage index (s ∷ splits) (o ∷ outputs) (suc k) output (is, are) (here, placed) at =
    let more = paired_at mode before disk stage (index + 1) splits outputs k output are placed at in
    let place : index + 1 + k ≡ index + suc k = omega arith in
    subst (λ (n : ℕ). IsPaired disk stage n (s ∷ splits) output) place (record { split = more.split; among = inr more.among; name_is = more.name_is; staged = more.staged })

-- a file with outputs: the one that has its name, or none
with_listed : (mode : Mode) (before : Files) (splits : List Split) (outputs : List Output) (name old : List ℕ) (k : ℕ) (output : Output) (split : Split) → AllZip (IsOutput mode before) splits outputs → NamesDiffer splits
    → slice_get outputs k ≡ Some output → output.name ≡ name → IsAmong split splits → split.name ≡ name → file_with outputs splits name old ≡ take output.base old ++ text_at output.base split
with_listed mode before [] [] name old k output split are differ at named among called = absurd among
with_listed mode before [] (o ∷ outputs) name old k output split are differ at named among called = absurd among
with_listed mode before (s ∷ splits) [] name old k output split are differ at named among called = absurd are
with_listed mode before (s ∷ splits) (o ∷ outputs) name old zero output split (is, are) (none, differ) at named among called =
    let some : Some o ≡ Some output = at in
    let same : o ≡ output = cc in
    let here : o.name ≡ name = ap (λ (p : Output). p.name) same ∙ named in
    let e : bytes_eq o.name name ≡ true = (bytes_eq-Decides o.name name).1 here in
    let one : s ≡ split = one_split (s ∷ splits) s split (none, differ) (inl refl) among (sym is.name_is ∙ (here ∙ sym called)) in
    rw e (λ i. take (same i).base old ++ text_at (same i).base (one i))
with_listed mode before (s ∷ splits) (o ∷ outputs) name old (suc k) output split (is, are) (none, differ) at named among called = elim (cases_Bool (bytes_eq o.name name)) [
  | inl e ↦
      let here : s.name ≡ name = sym is.name_is ∙ (bytes_eq-Decides o.name name).0 e in
      let other = Rattle.run_model.proofs.OneSettled.paired (IsOutput mode before) splits outputs k output are at in
      absurd (none other.0 other.1 (sym other.2.name_is ∙ (named ∙ sym here)))
  | inr e ↦
      let rest : IsAmong split splits = ⊎_elim
      (λ is_first. let called_first : s.name ≡ name = sym (ap (λ (t : Split). t.name) is_first) ∙ called in absurd (both o.name name e (is.name_is ∙ called_first)))
      (λ more. more) among in
      rw e (with_listed mode before splits outputs name old k output split are differ at named rest called)
]
  where
    both : (a b : List ℕ) → bytes_eq a b ≡ false → a ≡ b → ⊥
    both a b off is = true≢false (sym ((bytes_eq-Decides a b).1 is) ∙ off)

with_unlisted : (splits : List Split) (outputs : List Output) (name old : List ℕ) → ((k : ℕ) (output : Output) → slice_get outputs k ≡ Some output → output.name ≢ name) → file_with outputs splits name old ≡ old
with_unlisted splits [] name old none = refl
with_unlisted [] (o ∷ outputs) name old none = refl
with_unlisted (s ∷ splits) (o ∷ outputs) name old none = elim (cases_Bool (bytes_eq o.name name)) [
  | inl e ↦ absurd (none 0 o refl ((bytes_eq-Decides o.name name).0 e))
  | inr e ↦ rw e (with_unlisted splits outputs name old (λ k output at. none (suc k) output at))
]

-- the files with the outputs that take part
pub files_are_with : (mode : Mode) (before : Files) (splits : List Split) (outputs : List Output) → AreOutputs mode before splits outputs → NamesDiffer splits
    → (name : List ℕ) → IsWith outputs splits name (before name) (files_with outputs (filter (takes_part mode before) splits) before name)
files_are_with mode before splits outputs are differ name = record {
  listed = λ k output split at named of.
      let parts = filter (takes_part mode before) splits in
      let pair = Rattle.run_model.proofs.OneSettled.paired (IsOutput mode before) parts outputs k output are at in
      let among = kept_among (takes_part mode before) pair.0 splits pair.1 in
      let one : pair.0 ≡ split = one_split splits pair.0 split differ among of.0 (sym pair.2.name_is ∙ sym of.1) in
      let part : IsAmong split parts = subst (λ (s : Split). IsAmong s parts) one pair.1 in
      with_listed mode before parts outputs name (before name) k output split are (fewer_differ (takes_part mode before) splits differ) at named part (of.1 ∙ named);
  unlisted = λ none. with_unlisted (filter (takes_part mode before) splits) outputs name (before name) none;
}

-- an entry whose outputs are placed has its texts staged, and with it the disk would stand for those files
pub staged_all : (mode : Mode) (disk : DiskState) (ledger stage : List ℕ) (entry : Entry) (before : Files) (splits : List Split) → IsGood ledger stage entry → entry.staged ≡ length (disk.seen stage)
    → AreOutputs mode before splits entry.outputs → ArePlaced disk stage 0 entry.outputs (filter (takes_part mode before) splits) → NamesDiffer splits
    → HasStaged disk ledger stage entry before (files_with entry.outputs (filter (takes_part mode before) splits) before)
staged_all mode disk ledger stage entry before splits good whole are placed differ = record {
  good = good;
  whole = whole;
  staged = λ name other.
      subst (λ (s : List ℕ). IsFile s entry.outputs name (before name) (files_with entry.outputs parts before name)) (sym (take_all entry.staged (disk.seen stage) (omega (arith, whole))))
      (restored_with mode before splits entry.outputs (disk.seen stage) name (files_with entry.outputs parts before name) are each (files_are_with mode before splits entry.outputs are differ name));
}
  where
    zero_add : (k : ℕ) → 0 + k ≡ k
    zero_add k = omega arith

    parts : List Split
    parts = filter (takes_part mode before) splits

    each : (k : ℕ) (output : Output) (split : Split) → slice_get entry.outputs k ≡ Some output → IsSplitOf splits output split → IsStaged (disk.seen stage) k output (text_at output.base split)
    each k output split at of =
        let p = subst (λ (n : ℕ). IsPaired disk stage n parts output) (zero_add k) (paired_at mode before disk stage 0 parts entry.outputs k output are placed at) in
        let one : p.split ≡ split = one_split splits p.split split differ (kept_among (takes_part mode before) p.split splits p.among) of.0 (sym p.name_is ∙ sym of.1) in
        subst (λ (s : Split). IsStaged (disk.seen stage) k output (text_at output.base s)) one p.staged
