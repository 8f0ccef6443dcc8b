-- What a refusal of a step says of the words.
use Rattle.std.proofs.Common.{◌≡◌, ℕ, List, Option, Some, None, sym, subst}
use Rattle.lp_model.specs.Outside.{Folder, Told}
use Rattle.lp_outside.specs.NameFault.{name_fault}
use Rattle.query_text.specs.declared.fault.QueryFault.{QueryFault}
use Rattle.query_text.specs.declared.fault.QueryFault.TheVariants as Q
use Rattle.requests.specs.Texts.{IsCut, IsTextOf, HoldsText, file_in}
use Rattle.requests.specs.Files.{IsLengthFault, IsFileFault, IsTextFault}
use Rattle.requests.specs.declared.fault.RequestFault.{RequestFault}
use Rattle.requests.specs.declared.fault.RequestFault.TheVariants as F

-- a file's bytes are the word's text
pub file_text : (before now : Option Folder) (word name text : List ℕ) → Some name ≡ file_in word → name_fault name ≡ None → Told now (λ folder. IsCut before folder name text) → HoldsText before now word text
file_text before now word name text named fine cut = subst (IsTextOf before now word text) named (fine, cut)

length_refused : (before now : Option Folder) (word name : List ℕ) (fault : QueryFault) → Some name ≡ file_in word → name_fault name ≡ None → IsLengthFault before now name fault → IsTextFault before now word (F.Query fault)
length_refused before now word name Q.TooLong named fine h = (h.text, file_text before now word name h.text named fine h.cut, h.long)
length_refused before now word name Q.NotUtf8 named fine h = absurd h
length_refused before now word name (Q.Lex f) named fine h = absurd h
length_refused before now word name (Q.Parse f) named fine h = absurd h
length_refused before now word name (Q.StdinMisplaced at) named fine h = absurd h
length_refused before now word name (Q.Plan f) named fine h = absurd h

-- a query file isn't read
pub file_refused : (before now : Option Folder) (word name : List ℕ) (fault : RequestFault) → Some name ≡ file_in word → name_fault name ≡ None → IsFileFault before now name fault → IsTextFault before now word fault
file_refused before now word name (F.Usage fault) named fine h = absurd h
file_refused before now word name (F.BadName fault) named fine h = absurd h
file_refused before now word name (F.NoSuchLog missing) named fine h =
    let IsGone : List ℕ → Type 0 = λ m. (file_in word ≡ Some m) × (name_fault m ≡ None) × Told now (λ folder. folder m ≡ None) in
    subst IsGone (sym h.0) (sym named, fine, h.1)
file_refused before now word name (F.Query fault) named fine h = length_refused before now word name fault named fine h
file_refused before now word name F.Logs named fine h = tt
file_refused before now word name F.Memory named fine h = tt
