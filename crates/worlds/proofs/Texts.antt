-- What each file holds.
use Rattle.std.proofs.Common.{◌≡◌, ◌⊎◌, ⊎_elim, ℕ, List, [], ◌∷◌, ◌++◌, length, take, filter, sym, ◌∙◌, ap, inl, inr}
use Rattle.std.proofs.Math.Seq.{take-length}
use Rattle.disk_model.specs.Disk.{Files}
use Rattle.ledger_model.specs.Entries.{Entry}
use Rattle.recovery_model.proofs.OneState.{listed_or_not}
use Rattle.run_model.specs.Logs.{Written}
use Rattle.run_model.specs.Meanings.{Meaning, Mode, append, overwrite, ignore, Split}
use Rattle.run_model.specs.Right.{takes_part, base_in, text_at, IsOutput, IsNext, FollowFrom}
use Rattle.run_model.proofs.OneSettled.{paired, kept_among}
use Rattle.worlds.specs.Headline.{with_text, PutsText, LeavesFile, HoldsTexts}

-- bytes before the base, and the text behind them, are the file with the text
text_put : (mode : Mode) (old : List ℕ) (base : ℕ) (split : Split) → base ≡ base_in mode old → take base old ++ text_at base split ≡ with_text mode old split
text_put append old base split e = ap (λ b. take b old ++ text_at b split) e ∙ ap (λ t. t ++ text_at (length old) split) (take-length old)
text_put overwrite old base split e = ap (λ b. take b old ++ text_at b split) e
text_put ignore old base split e = ap (λ b. take b old ++ text_at b split) e

puts_text : (meaning : Meaning) (written : Written) (name : List ℕ) (before : List Entry) (files : Files) (entry : Entry) (after : Files) → IsNext meaning written before files entry after → PutsText meaning written name entry (files name) (after name) ⊎ LeavesFile name entry (files name) (after name)
puts_text meaning written name before files entry after next =
    let mode = meaning.mode entry.words in
    let with_entry = next.files_are name in
    ⊎_elim
    (λ there.
    let p = paired (IsOutput mode files) (filter (takes_part mode files) next.given.splits) entry.outputs there.0 there.1 next.right.writes.outputs there.2 in
    let among = kept_among (takes_part mode files) p.0 next.given.splits p.1 in
    let is = with_entry.listed there.0 there.1 p.0 there.2 there.3 (among, sym p.2.name_is) in
    let name_is : p.0.name ≡ name = sym p.2.name_is ∙ there.3 in
    let base : there.1.base ≡ base_in mode (files name) = p.2.base_is ∙ ap (λ n. base_in mode (files n)) name_is in
    inl (record { place = there.0; output = there.1; of_entry = there.2; output_is = there.3; given = next.given; gives = next.right.writes.gives; split = p.0; among = among; name_is = name_is; puts = is ∙ text_put mode (files name) there.1.base p.0 base }))
    (λ none. inr (record { none = none; leaves = with_entry.unlisted none }))
    (listed_or_not entry.outputs name)

pub follow_texts : (meaning : Meaning) (written : Written) (name : List ℕ) (before : List Entry) (files : Files) (entries : List Entry) (after : Files) → FollowFrom meaning written before files entries after → HoldsTexts meaning written name entries (files name) (after name)
follow_texts meaning written name before files [] after f = f name
follow_texts meaning written name before files (entry ∷ entries) after (next, here, more) =
    (next name, puts_text meaning written name before files entry next here, follow_texts meaning written name (before ++ entry ∷ []) next entries after more)
