-- The fault of the word at a place.
use Rattle.std.proofs.Common.{◌≡◌, ℕ, ◌<◌, ◌≤◌, List, length, take, get_or, Option, None, option_and_then, inl, inr, sym, ap, ◌∙◌, arith}
use Rattle.std.proofs.lemmas.Bool.{cases_lt}
use Rattle.std.proofs.lemmas.Option.{slice_get-get_or, slice_get_past}
use Rattle.command_words.specs.declared.usage.UsageKind.{UsageKind}
use Rattle.command_words.specs.Usage.{word_fault, fault_at, EachFits}

pub fault_here : (words : List (List ℕ)) (index : ℕ) (word : List ℕ) (fault : Option UsageKind) → index < length words → word ≡ get_or words index word → fault ≡ word_fault (take index words) word → fault_at words index ≡ fault
fault_here words index word fault within is e =
    ap (option_and_then (word_fault (take index words))) (slice_get-get_or words index word within) ∙ ap (word_fault (take index words)) (sym is) ∙ sym e

fault_past : (words : List (List ℕ)) (at : ℕ) → length words ≤ at → fault_at words at ≡ None
fault_past words at past = ap (option_and_then (word_fault (take at words))) (slice_get_past words at past)

-- each word fits where those before the end do
pub each_fits : (words : List (List ℕ)) (index : ℕ) → length words ≤ index → ((at : ℕ) → at < index → fault_at words at ≡ None) → EachFits words
each_fits words index end fits at = elim (cases_lt at index) [ inl below ↦ fits at below | inr past ↦ fault_past words at (omega arith) ]
