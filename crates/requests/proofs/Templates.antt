-- What a template's file holds, at other moments of a call.
use Rattle.std.proofs.Common.{◌≤◌, ℕ, List, length, Option, Some, None, arith}
use Rattle.lp_model.specs.Outside.{Folder, OnlyGrow, Told, bytes_in}
use Rattle.lp_model.proofs.Pieces.{length_grown}
use Rattle.tpl_output.specs.Sections.{Sections}
use Rattle.tpl_output.specs.declared.fault.TemplateFault.{TemplateFault}
use Rattle.requests.specs.Texts.{IsCut}
use Rattle.requests.specs.Templates.{HoldsTemplate, HoldsFault}
use Rattle.requests.proofs.Growing.{cut_grown}

-- a template stays one while the logs grow
pub template_grown : (before now later : Option Folder) (name : List ℕ) (sections : Sections) → OnlyGrow now later → HoldsTemplate before now name sections → HoldsTemplate before later name sections
template_grown before now later name sections grow h = record { text = h.text; holds = cut_grown before now later name h.text grow h.holds; good = h.good; sections_are = h.sections_are }

least_since : (before mid : Option Folder) (name : List ℕ) (cut : ℕ) → OnlyGrow before mid → Told mid (λ old. length (bytes_in old name) ≤ cut) → Told before (λ old. length (bytes_in old name) ≤ cut)
least_since None mid name cut grow least = tt
least_since (Some x) None name cut grow least = absurd grow
least_since (Some x) (Some y) name cut grow least =
    let more = length_grown x y name (length (bytes_in x name)) grow (omega arith) in
    omega arith

-- what was read of a file since a moment was read since an earlier one
pub cut_since : (before mid now : Option Folder) (name text : List ℕ) → OnlyGrow before mid → Told now (λ folder. IsCut mid folder name text) → Told now (λ folder. IsCut before folder name text)
cut_since before mid None name text grow h = tt
cut_since before mid (Some folder) name text grow h = record { there = h.there; cut = h.cut; at_least = least_since before mid name h.cut grow h.at_least; at_most = h.at_most; bytes_are = h.bytes_are }

pub template_since : (before mid now : Option Folder) (name : List ℕ) (sections : Sections) → OnlyGrow before mid → HoldsTemplate mid now name sections → HoldsTemplate before now name sections
template_since before mid now name sections grow h = record { text = h.text; holds = cut_since before mid now name h.text grow h.holds; good = h.good; sections_are = h.sections_are }

pub fault_since : (before mid now : Option Folder) (name : List ℕ) (fault : TemplateFault) → OnlyGrow before mid → HoldsFault mid now name fault → HoldsFault before now name fault
fault_since before mid now name fault grow h = record { text = h.text; holds = cut_since before mid now name h.text grow h.holds; fault_is = h.fault_is; known = h.known }
