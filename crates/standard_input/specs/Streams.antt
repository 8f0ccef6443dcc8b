-- The log that a stream is.
use Rattle.std.specs.Prelude.{◌≡◌, ◌+◌, ◌≤◌, ◌^◌, ℕ, true, false, List, [], ◌∷◌, ◌++◌, length, codes, Option, Some, option_map, if◌then◌else◌}
use Rattle.std.proofs.Common.{refl, ◌∙◌, arith}
use Rattle.lp_model.specs.Outside.{Folder}
use Rattle.log_listing.specs.declared.lengths.NameLength.{NameLength}
use Rattle.standard_input.specs.declared.log.InputLog.{InputLog}

-- the files of a stream of these bytes: it is read under any name
abbrev pub stream_files : List ℕ → Folder
stream_files bytes = λ name. Some bytes

-- standard input, as one log up to a cut that it never reaches: behind 2^40 bytes it gives no more
abbrev pub input_logs : List NameLength
input_logs = record { name = codes "STDIN"; length = 2 ^ 40 + 1 } ∷ []

-- all that a stream gives: what it has given to a log, and what is left
abbrev pub whole_of : {I : Type 0} → (I → Option (List ℕ)) → InputLog I → Option (List ℕ)
whole_of left log = option_map (λ rest. log.gone.bytes ++ rest) (left log.input.now)

abbrev pub folder_of : {I : Type 0} → (I → Option (List ℕ)) → InputLog I → Option Folder
folder_of left log = option_map stream_files (whole_of left log)

abbrev pub given_of : {I : Type 0} → (I → ℕ) → InputLog I → ℕ
given_of given log = given log.input.now

abbrev pub reads_of : {I : Type 0} → (I → ℕ) → InputLog I → ℕ
reads_of reads log = reads log.input.now

-- that more was wanted of a stream than it may give is a fault too
abbrev pub faults_of : {I : Type 0} → (I → ℕ) → InputLog I → ℕ
faults_of faults log = faults log.input.now + (if log.is_refused then 1 else 0)

-- it is read behind what it has given, up to 2^40 bytes
abbrev pub IsReady : {I : Type 0} → InputLog I → List ℕ → ℕ → Type 0
IsReady log name place = (place ≡ length log.gone.bytes) × (place ≤ 2 ^ 40) × (log.is_refused ≡ false)

-- its bytes are counted: there are 2^40 at most, and so many where more was wanted
pub record IsCounted {I : Type 0} (log : InputLog I) : Type 0 where
  pub count : log.given ≡ length log.gone.bytes
  pub most : log.given ≤ 2 ^ 40
  pub refused : log.is_refused ≡ true → log.given ≡ 2 ^ 40

-- it is the same stream, what it gives is the same, and it has given what was read of it
pub record Goes {I : Type 0} (left : I → Option (List ℕ)) (given : I → ℕ) (old new : InputLog I) : Type 0 where
  pub reference : new.input.ghost_name ≡ old.input.ghost_name
  pub whole : whole_of left new ≡ whole_of left old
  pub read : given new.input.now + length old.gone.bytes ≡ given old.input.now + length new.gone.bytes
  pub counted : IsCounted old → IsCounted new

pub goes_nowhere : {I : Type 0} (left : I → Option (List ℕ)) (given : I → ℕ) (log : InputLog I) → Goes left given log log
goes_nowhere left given log = record { reference = refl; whole = refl; read = refl; counted = λ is. is }

pub goes_on : {I : Type 0} (left : I → Option (List ℕ)) (given : I → ℕ) (first second third : InputLog I) → Goes left given first second → Goes left given second third → Goes left given first third
goes_on left given first second third one two =
    let a = one.read in
    let b = two.read in
    record { reference = two.reference ∙ one.reference; whole = two.whole ∙ one.whole; read = omega arith; counted = λ is. two.counted (one.counted is) }
