-- What words ask for stays so while the logs grow.
use Rattle.std.proofs.Common.{◌≡◌, ℕ, List, Option, Some, None, sym, ◌∙◌}
use Rattle.grammar.specs.Trees as model
use Rattle.lp_model.specs.Outside.{Folder, Grows, OnlyGrow, Told}
use Rattle.lp_model.proofs.Growing.{gone_still, there_still, told_grown}
use Rattle.lp_model.proofs.Pieces.{length_grown, take_grown}
use Rattle.command_words.specs.declared.spec.Spec.{Spec}
use Rattle.command_words.specs.Words.{query_in}
use Rattle.requests.specs.Texts.{IsCut, IsTextOf, HoldsText, file_in}
use Rattle.requests.specs.Requests.{Asks, IsRequestFault}
use Rattle.requests.specs.declared.fault.RequestFault.{RequestFault}
use Rattle.requests.specs.declared.fault.RequestFault.TheVariants as F

-- a file that isn't there doesn't come
pub gone_grown : (now later : Option Folder) (name : List ℕ) → OnlyGrow now later → Told now (λ folder. folder name ≡ None) → Told later (λ folder. folder name ≡ None)
gone_grown now later name grow h = told_grown now later (λ folder. folder name ≡ None) (λ x y g gone. gone_still (x name) (y name) (g name) gone) grow h

cut_kept : (before : Option Folder) (name text : List ℕ) (x y : Folder) → Grows x y → IsCut before x name text → IsCut before y name text
cut_kept before name text x y grow c = record {
  there = there_still (x name) (y name) (grow name) c.there;
  cut = c.cut;
  at_least = c.at_least;
  at_most = length_grown x y name c.cut grow c.at_most;
  bytes_are = c.bytes_are ∙ sym (take_grown x y name c.cut grow c.at_most);
}

pub cut_grown : (before now later : Option Folder) (name text : List ℕ) → OnlyGrow now later → Told now (λ folder. IsCut before folder name text) → Told later (λ folder. IsCut before folder name text)
cut_grown before now later name text grow h = told_grown now later (λ folder. IsCut before folder name text) (cut_kept before name text) grow h

text_grown : (before now later : Option Folder) (word text : List ℕ) (file : Option (List ℕ)) → OnlyGrow now later → IsTextOf before now word text file → IsTextOf before later word text file
text_grown before now later word text None grow h = h
text_grown before now later word text (Some name) grow h = (h.0, cut_grown before now later name text grow h.1)

pub holds_grown : (before now later : Option Folder) (word text : List ℕ) → OnlyGrow now later → HoldsText before now word text → HoldsText before later word text
holds_grown before now later word text grow h = text_grown before now later word text (file_in word) grow h

-- what words ask for, they ask for later
pub asks_grown : (before now later : Option Folder) (words : List (List ℕ)) (spec : Spec) (q : model.Query) → OnlyGrow now later → Asks before now words spec q → Asks before later words spec q
asks_grown before now later words spec q grow a = record {
  fine = a.fine;
  options = a.options;
  text = a.text;
  holds = holds_grown before now later (query_in words) a.text grow a.holds;
  query = a.query;
  only = a.only;
}

-- why words are refused, they are refused later
pub refused_grown : (before now later : Option Folder) (words : List (List ℕ)) (fault : RequestFault) → OnlyGrow now later → IsRequestFault before now words fault → IsRequestFault before later words fault
refused_grown before now later words (F.Usage fault) grow h = h
refused_grown before now later words (F.BadName fault) grow h = h
refused_grown before now later words (F.NoSuchLog name) grow h = (h.0, h.1, gone_grown now later name grow h.2)
refused_grown before now later words (F.Query fault) grow h = record {
  fine = h.fine;
  text = h.text;
  holds = holds_grown before now later (query_in words) h.text grow h.holds;
  fault = h.fault;
}
refused_grown before now later words F.Logs grow h = tt
refused_grown before now later words F.Memory grow h = tt
