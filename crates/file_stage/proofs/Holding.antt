-- What a file is, from the texts that it holds.
use Rattle.std.proofs.Common.{◌≡◌, ℕ, ◌+◌, ◌≤◌, List, ◌++◌, length, take, refl, sym, ◌∙◌, ap, arith}
use Rattle.std.proofs.lemmas.List.{length-take-le, length-take, take_all}
use Rattle.file_stage.specs.FileTexts.{IsThere}
use Rattle.file_stage.proofs.Staying.{whole_file}

-- bytes from the first one on are a text
pub front_is_text : (file : List ℕ) (base : ℕ) → base ≤ length file → IsThere file 0 base (take base file)
front_is_text file base within = record { whole = length-take-le base file within; same = refl }

pub all_is_text : (file : List ℕ) → IsThere file 0 (length file) file
all_is_text file = record { whole = refl; same = sym (take_all (length file) file (omega arith)) }

-- the bytes before the base and the text are the file
pub held_whole : (old new : List ℕ) (base size : ℕ) (text : List ℕ) → base ≤ length old → IsThere new 0 base (take base old) → IsThere new base size text → length new ≤ base + size → new ≡ take base old ++ text
held_whole old new base size text within front there short =
    let long : base ≤ length new = omega (arith, length-take-le base old within, ap length front.same, length-take base new) in
    whole_file old new base size text within (λ le. (long, sym front.same)) there short

-- a text of the whole length is the file
pub held_all : (old new : List ℕ) → IsThere new 0 (length old) old → length old ≡ length new → new ≡ old
held_all old new there same = sym (take_all (length old) new (omega (arith, same))) ∙ sym there.same
