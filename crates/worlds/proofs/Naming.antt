-- Files and identities of logs.
use Rattle.std.proofs.Common.{◌≡◌, ℕ, ◌+◌, true, List, Some, sym, ◌∙◌, ap, arith, inl, inr}
use Rattle.run_model.proofs.Generations.{one_number, one_stem}
use Rattle.run_model.specs.Logs.{Rotation, names, numbers, Logs, Parting, IsParting, PartsNames, generation_name, IsPast, IsFileOf, ShowsStems, Shows}

-- the file of a stem has the parting's name of a stem
pub stem_known : (parting : Parting) (logs : Logs) (stem : List ℕ) (count : ℕ) → ShowsStems numbers parting logs → logs.rotations stem ≡ Some count → parting.is_stem stem ≡ true
stem_known parting logs stem count shows is = (shows stem count is).0

-- where two generations have one name they are the same
pub one_generation : (parting : Parting) (logs : Logs) (stem other : List ℕ) (a b count number : ℕ) → IsParting parting → ShowsStems numbers parting logs → logs.rotations stem ≡ Some count → logs.rotations other ≡ Some number → generation_name stem a ≡ generation_name other b → (stem ≡ other) × (a ≡ b) × (count ≡ number)
one_generation parting logs stem other a b count number parts shows is are e =
    let same : stem ≡ other = one_stem stem other a b e in
    let counts : Some count ≡ Some number = sym is ∙ (ap logs.rotations same ∙ are) in
    let here : generation_name stem a ≡ generation_name stem b = e ∙ ap (λ s. generation_name s b) (sym same) in
    (same, one_number stem a b here, cc)

-- no stem's file is a generation's
pub no_generation : (parting : Parting) (logs : Logs) (stem other : List ℕ) (number count least : ℕ) → IsParting parting → ShowsStems numbers parting logs → logs.rotations stem ≡ Some count → logs.rotations other ≡ Some least → stem ≡ generation_name other number → ⊥
no_generation parting logs stem other number count least parts shows is are e = parts.no_stem stem other number (stem_known parting logs stem count shows is) (stem_known parting logs other least shows are) e

-- a file is of one log
pub one_identity : (rotation : Rotation) (parting : Parting) (logs : Logs) (name a b : List ℕ) → PartsNames rotation parting → ShowsStems rotation parting logs → IsFileOf rotation logs name a → IsFileOf rotation logs name b → a ≡ b
one_identity names parting logs name a b parts shows (inl e) (inl f) = e ∙ sym f
one_identity names parting logs name a b parts shows (inl e) (inr f) = absurd f
one_identity names parting logs name a b parts shows (inr e) g = absurd e
one_identity numbers parting logs name a b parts shows (inl e) (inl f) =
    let counts : Some e.0 ≡ Some f.0 = sym e.1 ∙ f.1 in
    let same : e.0 ≡ f.0 = cc in
    e.2 ∙ (ap (λ n. generation_name name (n + 1)) same ∙ sym f.2)
one_identity numbers parting logs name a b parts shows (inl e) (inr f) = absurd (no_generation parting logs name f.stem f.number e.0 f.is_past.count parts shows e.1 f.is_past.rotated f.name_is)
one_identity numbers parting logs name a b parts shows (inr e) (inl f) = absurd (no_generation parting logs name e.stem e.number f.0 e.is_past.count parts shows f.1 e.is_past.rotated e.name_is)
one_identity numbers parting logs name a b parts shows (inr e) (inr f) = e.identity_is ∙ sym f.identity_is

-- and a log has one file
pub one_file : (rotation : Rotation) (parting : Parting) (logs : Logs) (a b identity : List ℕ) → PartsNames rotation parting → ShowsStems rotation parting logs → IsFileOf rotation logs a identity → IsFileOf rotation logs b identity → a ≡ b
one_file names parting logs a b identity parts shows (inl e) (inl f) = sym e ∙ f
one_file names parting logs a b identity parts shows (inl e) (inr f) = absurd f
one_file names parting logs a b identity parts shows (inr e) g = absurd e
one_file numbers parting logs a b identity parts shows (inl e) (inl f) = (one_generation parting logs a b (e.0 + 1) (f.0 + 1) e.0 f.0 parts shows e.1 f.1 (sym e.2 ∙ f.2)).0
one_file numbers parting logs a b identity parts shows (inl e) (inr f) =
    let same = one_generation parting logs a f.stem (e.0 + 1) f.number e.0 f.is_past.count parts shows e.1 f.is_past.rotated (sym e.2 ∙ (f.identity_is ∙ f.name_is)) in
    let low = f.is_past.past in let x = same.1 in let y = same.2 in absurd (omega arith)
one_file numbers parting logs a b identity parts shows (inr e) (inl f) =
    let same = one_generation parting logs b e.stem (f.0 + 1) e.number f.0 e.is_past.count parts shows f.1 e.is_past.rotated (sym f.2 ∙ (e.identity_is ∙ e.name_is)) in
    let low = e.is_past.past in let x = same.1 in let y = same.2 in absurd (omega arith)
one_file numbers parting logs a b identity parts shows (inr e) (inr f) = sym e.identity_is ∙ f.identity_is

-- what a file holds is what was written to its log
pub file_written : (rotation : Rotation) (parting : Parting) (logs : Logs) (name identity bytes : List ℕ) → PartsNames rotation parting → Shows rotation parting logs → parting.is_log name ≡ true → IsFileOf rotation logs name identity → logs.folder name ≡ Some bytes → logs.written identity ≡ Some bytes
file_written rotation parting logs name identity bytes parts shows is_log is there =
    let s = shows.files.shown name bytes is_log there in
    let same = one_identity rotation parting logs name s.0 identity parts shows.stems s.1 is in
    ap logs.written (sym same) ∙ s.2

-- files stay those of their logs where the rotations stay
pub file_stays : (rotation : Rotation) (old new : Logs) (name identity : List ℕ) → new.rotations ≡ old.rotations → IsFileOf rotation old name identity → IsFileOf rotation new name identity
file_stays names old new name identity same (inl e) = inl e
file_stays names old new name identity same (inr e) = absurd e
file_stays numbers old new name identity same (inl e) = inl (e.0, ap (λ r. r name) same ∙ e.1, e.2)
file_stays numbers old new name identity same (inr e) = inr (record {
  stem = e.stem;
  number = e.number;
  is_past = record { count = e.is_past.count; rotated = ap (λ r. r e.stem) same ∙ e.is_past.rotated; some = e.is_past.some; past = e.is_past.past };
  name_is = e.name_is;
  identity_is = e.identity_is;
})

-- the name of a rotated generation is one of a log
pub past_is_log : (parting : Parting) (logs : Logs) (stem : List ℕ) (number : ℕ) → IsParting parting → ShowsStems numbers parting logs → IsPast logs stem number → parting.is_log (generation_name stem number) ≡ true
past_is_log parting logs stem number parts shows past = let s = shows stem past.count past.rotated in let p = past.past in let small = s.1 in parts.generation_is_log stem number s.0 past.some (omega arith)
