-- Parts of a log that grows.
use Rattle.std.proofs.Common.{◌≡◌, ℕ, ◌+◌, ◌≤◌, List, [], ◌∷◌, ◌++◌, length, take, drop, Option, Some, None, refl, sym, ◌∙◌, ap, arith, length-append}
use Rattle.std.proofs.lemmas.List.{take-append-le, length-take-le, drop-drop, take-take, drop-take, take-append-drop, drop_all, length-take, length-drop}
use Rattle.std.proofs.Math.Seq.{take-add}
use Rattle.lp_model.specs.Outside.{Folder, Begins, OnlyGrow, Told, bytes_in, AreBytesAt}
use Rattle.lp_model.specs.Pieces.{rest_of}
use Rattle.lp_model.proofs.Growing.{kept_bytes}
use Rattle.lp_model.proofs.Pieces.{rest_none}
use Rattle.log_reading.specs.Parts.{IsPart, IsReadUp}

-- bytes that are there stay
part_stays : (from : ℕ) (bytes old new : List ℕ) → Begins old new → bytes ≡ take (length bytes) (drop from old) → bytes ≡ take (length bytes) (drop from new)
part_stays from [] old new grown same = refl
part_stays from (b ∷ bytes) old new (more, e) same =
    let n : ℕ = length (b ∷ bytes) in
    let size : n ≡ length (take n (drop from old)) = ap length same in
    let fits : from + n ≤ length old = omega (arith, size, length-take {A = ℕ} n (drop from old), length-drop {A = ℕ} from old) in
    same ∙ (sym (drop-take from n old) ∙ (ap (drop from) (sym (take-append-le (from + n) old more fits) ∙ ap (take (from + n)) (sym e)) ∙ drop-take from n new))

pub IsPart-grown : (a b : Option Folder) (name : List ℕ) (from cut : ℕ) (bytes : List ℕ) → OnlyGrow a b → IsPart a name from cut bytes → IsPart b name from cut bytes
IsPart-grown None None name from cut bytes h p = record { fits = p.fits; same = tt }
IsPart-grown None (Some y) name from cut bytes h p = let e : Some y ≡ None = h in cc
IsPart-grown (Some x) None name from cut bytes h p = absurd h
IsPart-grown (Some x) (Some y) name from cut bytes h p = record { fits = p.fits; same = part_stays from bytes (bytes_in x name) (bytes_in y name) (kept_bytes (x name) (y name) (h name)) p.same }

-- a part of bytes ends within them
pub part_within : (x : Folder) (name : List ℕ) (from cut : ℕ) (bytes : List ℕ) → from ≤ length (take cut (bytes_in x name)) → IsPart (Some x) name from cut bytes → from + length bytes ≤ length (take cut (bytes_in x name))
part_within x name from cut [] le p = omega arith
part_within x name from cut (b ∷ bytes) le p =
    let file = bytes_in x name in
    let n : ℕ = length (b ∷ bytes) in
    let fits = p.fits in
    let size : n ≡ length (take n (drop from file)) = ap length p.same in
    omega (arith, size, fits, length-take {A = ℕ} n (drop from file), length-drop {A = ℕ} from file, length-take {A = ℕ} cut file)

pub IsPart-none : (told : Option Folder) (name : List ℕ) (from cut : ℕ) → from ≤ cut → IsPart told name from cut []
IsPart-none None name from cut le = record { fits = omega arith; same = tt }
IsPart-none (Some x) name from cut le = record { fits = omega arith; same = refl }

-- a read gives a part
pub IsPart-read : (told : Option Folder) (name : List ℕ) (from cut count : ℕ) (buffer : List ℕ) → from + count ≤ cut → count ≤ length buffer → AreBytesAt told name from count buffer → IsPart told name from cut (take count buffer)
IsPart-read None name from cut count buffer fits room same = let n : length (take count buffer) ≡ count = length-take-le count buffer room in record { fits = omega arith; same = tt }
IsPart-read (Some x) name from cut count buffer fits room same =
    let n : length (take count buffer) ≡ count = length-take-le count buffer room in
    record { fits = omega arith; same = same ∙ ap (λ k. take k (drop from (bytes_in x name))) (sym n) }

-- one part behind another
pub IsPart-more : (told : Option Folder) (name : List ℕ) (from to cut : ℕ) (first second : List ℕ) → to ≡ from + length first → IsPart told name from cut first → IsPart told name to cut second → IsPart told name from cut (first ++ second)
IsPart-more None name from to cut first second at p q =
    let n : length (first ++ second) ≡ length first + length second = length-append first second in
    let fits = q.fits in
    record { fits = omega arith; same = tt }
IsPart-more (Some x) name from to cut first second at p q =
    let file = bytes_in x name in
    let n : length (first ++ second) ≡ length first + length second = length-append first second in
    let fits = q.fits in
    let one : first ≡ take (length first) (drop from file) = p.same in
    let two : second ≡ take (length second) (drop to file) = q.same in
    let behind : drop to file ≡ drop (length first) (drop from file) = ap (λ k. drop k file) at ∙ sym (drop-drop (length first) from file) in
    record {
      fits = omega arith;
      same = ap (λ t. t ++ second) one ∙ (ap (λ t. take (length first) (drop from file) ++ t) (two ∙ ap (take (length second)) behind)
          ∙ (sym (take-add (length first) (length second) (drop from file)) ∙ ap (λ k. take k (drop from file)) (sym n)));
    }

-- a part begins the rest
pub part_begins : (x : Folder) (name : List ℕ) (from to cut : ℕ) (bytes : List ℕ) → to ≡ from + length bytes → IsPart (Some x) name from cut bytes → rest_of x name from cut ≡ bytes ++ rest_of x name to cut
part_begins x name from to cut bytes at p =
    let file = bytes_in x name in
    let fits = p.fits in
    let same : bytes ≡ take (length bytes) (drop from file) = p.same in
    let front : take (length bytes) (rest_of x name from cut) ≡ bytes =
    sym (drop-take from (length bytes) (take cut file)) ∙ (ap (drop from) (take-take (from + length bytes) cut file (omega arith)) ∙ (drop-take from (length bytes) file ∙ sym same)) in
    let back : drop (length bytes) (rest_of x name from cut) ≡ rest_of x name to cut = drop-drop (length bytes) from (take cut file) ∙ ap (λ k. drop k (take cut file)) (sym at) in
    sym (take-append-drop (length bytes) (rest_of x name from cut)) ∙ (ap (λ t. t ++ drop (length bytes) (rest_of x name from cut)) front ∙ ap (λ t. bytes ++ t) back)

-- at the cut a log is read up to it
pub read_up_cut : (told : Option Folder) (name : List ℕ) (place cut : ℕ) → cut ≤ place → IsReadUp told name place cut
read_up_cut None name place cut le = tt
read_up_cut (Some x) name place cut le = rest_none x name place cut le

-- at its end too
pub read_up_end : (told : Option Folder) (name : List ℕ) (place cut : ℕ) → Told told (λ files. length (bytes_in files name) ≤ place) → IsReadUp told name place cut
read_up_end None name place cut end = tt
read_up_end (Some x) name place cut end =
    let short : length (take cut (bytes_in x name)) ≤ place = omega (arith, end, length-take {A = ℕ} cut (bytes_in x name)) in
    drop_all place (take cut (bytes_in x name)) short
