-- Lengths of logs that grow.
use Rattle.std.proofs.Common.{◌≡◌, ◌<◌, ◌≤◌, ◌^◌, ◌+◌, ℕ, zero, suc, List, [], ◌∷◌, ◌++◌, length, take, get_or, Option, Some, None, IsSome, Contains, option_map, unwrap_or, refl, sym, ap, ◌∙◌, subst, inl, inr, arith}
use Rattle.std.specs.List.{AllZip}
use Rattle.std.proofs.lemmas.Bool.{false≢true}
use Rattle.std.proofs.lemmas.List.{map-append, take_more}
use Rattle.std.proofs.lemmas.List.Elements.{All-push, All-weaker, Contains-get_or, Contains-append_cases}
use Rattle.lp_model.specs.Outside.{Folder, OnlyGrow, bytes_in}
use Rattle.lp_model.proofs.Pieces.{length_grown, there_grown}
use Rattle.log_listing.specs.declared.fault.ListFault.{ListFault}
use Rattle.log_listing.specs.declared.fault.ListFault.TheVariants as F
use Rattle.log_listing.specs.declared.lengths.NameLength.{NameLength}
use Rattle.log_listing.specs.Firsts.{joined}
use Rattle.log_listing.specs.Listed.{Gives, Lists, Stops, IsListFault}
use Rattle.log_listing.specs.Lengths.{IsLength, IsLengthNow, AreLengths, IsGone}
use Rattle.log_listing.proofs.FirstNames.{in_joined}

size_is : (count : ℕ) (file : Option (List ℕ)) → Some count ≡ option_map length file → length (unwrap_or file []) ≡ count
size_is count None e = absurd (cc)
size_is count (Some bytes) e = let same : count ≡ length bytes = cc in sym same

-- a log's length now is one at some moment
pub length_now : (before now : Option Folder) (log : NameLength) → OnlyGrow before now → IsLengthNow now log.name log.length → log.length ≤ 2 ^ 46 → IsLength before now log
length_now None None log grow is small = record { least = tt; most = tt; bounded = small }
length_now None (Some y) log grow is small = let e : Some y ≡ None = grow in absurd (cc)
length_now (Some x) None log grow is small = absurd grow
length_now (Some x) (Some y) log grow is small =
    let size = size_is log.length (y log.name) is in
    let kept = length_grown x y log.name (length (bytes_in x log.name)) grow (omega arith) in
    record { least = omega arith; most = omega arith; bounded = small }

pub length_later : (before mid now : Option Folder) → OnlyGrow mid now → (log : NameLength) → IsLength before mid log → IsLength before now log
length_later before mid now grow log is = record { least = is.least; most = there_grown mid now log.name log.length grow is.most; bounded = is.bounded }

-- one more log
pub lengths_more : (before mid now : Option Folder) (names : List (List ℕ)) (logs : List NameLength) (log : NameLength) → OnlyGrow mid now → OnlyGrow before now → AreLengths before mid names logs → IsLengthNow now log.name log.length → log.length ≤ 2 ^ 46 → AreLengths before now (names ++ log.name ∷ []) (logs ++ log ∷ [])
lengths_more before mid now names logs log grow whole so_far is small = record {
  same = map-append (λ (l : NameLength). l.name) logs (log ∷ []) ∙ ap (λ ns. ns ++ log.name ∷ []) so_far.same;
  each = All-push (IsLength before now) logs log (All-weaker (IsLength before mid) (IsLength before now) (length_later before mid now grow) logs so_far.each) (length_now before now log whole is small);
}

one_of_at : (name other : List ℕ) (k : ℕ) → k < 1 → get_or (name ∷ []) k other ≡ other → other ≡ name
one_of_at name other zero within is = sym is
one_of_at name other (suc k) within is = absurd (omega arith)

one_of : (name other : List ℕ) → Contains (name ∷ []) other → other ≡ name
one_of name other (k, within, is) = one_of_at name other k within is

-- one of some names is gone
pub gone_among : (told : Option Folder) (names : List (List ℕ)) (place : ℕ) (name : List ℕ) (fault : ListFault) → place < length names → name ≡ get_or names place name → IsGone told (name ∷ []) fault → IsGone told names fault
gone_among told names place name (F.BadName fault) within is gone = gone
gone_among told names place name (F.NoSuchLog other) within is gone = (subst (Contains names) (sym (one_of name other gone.0 ∙ is)) (Contains-get_or names place name within), gone.1)
gone_among told names place name F.TooManyLogs within is gone = gone
gone_among told names place name F.Logs within is gone = tt
gone_among told names place name F.Memory within is gone = tt

-- a log that is listed is there
there_in : (files : Folder) (texts : List (List ℕ)) (found : List (List (List ℕ))) (name : List ℕ) → AllZip (Gives (Some files)) texts found → Contains (joined found) name → IsSome (files name)
there_in files [] [] name h (k, within, is) = absurd (omega arith)
there_in files [] (f ∷ found) name h here = absurd h
there_in files (t ∷ texts) [] name h here = absurd h
there_in files (t ∷ texts) (f ∷ found) name h here = elim (Contains-append_cases f (joined found) name here) [
  | inl first ↦ ((h.0.matches.each name).0 first).0
  | inr later ↦ there_in files texts found name h.1 later
]

pub there_listed : (files : Folder) (texts names : List (List ℕ)) (name : List ℕ) → Lists (Some files) texts names → Contains names name → IsSome (files name)
there_listed files texts names name l here = there_in files texts l.found name l.each (in_joined (joined l.found) name (subst (λ (ns : List (List ℕ)). Contains ns name) l.all here))

-- the list is stopped at a text
pub refused_stopped : (told : Option Folder) (texts : List (List ℕ)) (fault : ListFault) → Stops told texts fault → IsListFault told texts fault
refused_stopped told texts (F.BadName fault) s = s
refused_stopped told texts (F.NoSuchLog name) s = inl s
refused_stopped told texts F.TooManyLogs s = s
refused_stopped told texts F.Logs s = tt
refused_stopped told texts F.Memory s = tt

none_there : (file : Option (List ℕ)) → file ≡ None → IsSome file → ⊥
none_there None e is = false≢true is
none_there (Some bytes) e is = absurd (cc)

-- a listed log is gone only where the logs don't tell their files
pub refused_gone : (told : Option Folder) (texts names : List (List ℕ)) (fault : ListFault) → Lists told texts names → IsGone told names fault → IsListFault told texts fault
refused_gone told texts names (F.BadName fault) l gone = absurd gone
refused_gone None texts names (F.NoSuchLog name) l gone = inr (record { untold = refl; names = names; lists = l; listed = gone.0 })
refused_gone (Some files) texts names (F.NoSuchLog name) l gone = absurd (none_there (files name) gone.1 (there_listed files texts names name l gone.0))
refused_gone told texts names F.TooManyLogs l gone = absurd gone
refused_gone told texts names F.Logs l gone = tt
refused_gone told texts names F.Memory l gone = tt

-- a turn of the loop over names
pub lengths_step : (before mid now : Option Folder) (names : List (List ℕ)) (i : ℕ) (name : List ℕ) (logs pushed : List NameLength) (log : NameLength) → i < length names → name ≡ get_or names i name → log.name ≡ name
    → OnlyGrow mid now → OnlyGrow before now → AreLengths before mid (take i names) logs → IsLengthNow now name log.length → log.length ≤ 2 ^ 46 → pushed ≡ logs ++ log ∷ [] → AreLengths before now (take (i + 1) names) pushed
lengths_step before mid now names i name logs pushed log within is named grow whole so_far here small push =
    let more : take (i + 1) names ≡ take i names ++ log.name ∷ [] = take_more names i name within ∙ ap (λ n. take i names ++ n ∷ []) (sym (named ∙ is)) in
    let all = lengths_more before mid now (take i names) logs log grow whole so_far (subst (λ (n : List ℕ). IsLengthNow now n log.length) (sym named) here) small in
    subst (λ (ls : List NameLength). AreLengths before now (take (i + 1) names) ls) (sym push) (subst (λ (ns : List (List ℕ)). AreLengths before now ns (logs ++ log ∷ [])) (sym more) all)
