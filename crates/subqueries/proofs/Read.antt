-- How many bytes subqueries read, one after the other.
use Rattle.std.proofs.Common.{◌≡◌, ◌≤◌, ◌+◌, ◌-◌, ℕ, suc, List, [], ◌∷◌, ◌++◌, length, All, Option, Some, None, refl, inl, inr, ap, arith}
use Rattle.std.proofs.lemmas.List.Sums.{sum_by-append}
use Rattle.grammar.specs.Trees as model
use Rattle.lp_model.specs.Outside.{Folder, OnlyGrow, bytes_in}
use Rattle.checkpoint.specs.Wholes.{whole_spans}
use Rattle.log_listing.specs.Lengths.{IsLength}
use Rattle.log_listing.specs.Lengths.{names_in as listed_names}
use Rattle.log_listing.specs.declared.lengths.NameLength.{NameLength}
use Rattle.log_listing.proofs.Grown.{lists_grown}
use Rattle.log_reading.specs.declared.span.Span.{Span}
use Rattle.log_reading.specs.Spans.{spans_size}
use Rattle.requests.specs.Given.{ReadsOnce, sizes}
use Rattle.requests.proofs.Given.{sizes_more, reads_none, reads_on, reads_more}
use Rattle.subqueries.specs.Listing.{AreWhole, from_names}
use Rattle.subqueries.specs.Reading.{AllRead, AreRead, ReadsAll, ReadsOne}
use Rattle.subqueries.proofs.Wholes.{listed_later}

behind : (P : NameLength → Type 0) (log : NameLength) (logs : List NameLength) → All P (log ∷ logs) → All P logs
behind P log logs all = λ k d here. all (suc k) d (omega arith)

-- the spans of whole logs have no more bytes than the logs
spans_most : (folder : Folder) (logs : List NameLength) → All (λ (log : NameLength). log.length ≤ length (bytes_in folder log.name)) logs → spans_size (whole_spans logs) ≤ sizes folder (listed_names logs)
spans_most folder [] most = omega arith
spans_most folder (log ∷ logs) most =
    let first = most 0 log (omega arith) in
    let rest = spans_most folder logs (behind (λ (log : NameLength). log.length ≤ length (bytes_in folder log.name)) log logs most) in
    let before : spans_size (whole_spans (log ∷ logs)) ≡ (0 + (log.length - 0)) + spans_size (whole_spans logs) = sum_by-append (λ (span : Span). span.listed - span.from) (whole_spans (log ∷ [])) (whole_spans logs) in
    let after = sizes_more folder log.name (listed_names logs) in
    omega arith

all_most : (before : Option Folder) (folder : Folder) (logs : List NameLength) → All (IsLength before (Some folder)) logs → All (λ (log : NameLength). log.length ≤ length (bytes_in folder log.name)) logs
all_most before folder logs lengths = λ k d here. (lengths k d here).most

once_told : (before now : Option Folder) (logs : List NameLength) (spans : List Span) (given later : ℕ) → spans ≡ whole_spans logs → All (IsLength before now) logs → later ≤ given + spans_size spans → ReadsOnce now (listed_names logs) given later
once_told before None logs spans given later wholes lengths most = tt
once_told before (Some folder) logs spans given later wholes lengths most =
    let size = spans_most folder logs (all_most before folder logs lengths) in
    let same : spans_size spans ≡ spans_size (whole_spans logs) = ap spans_size wholes in
    omega arith

-- the logs are read, each once
pub logs_once : (old mid now : Option Folder) (q : model.Query) (spans : List Span) (before later : ℕ) → AreWhole old mid q spans → OnlyGrow mid now → later ≤ before + spans_size spans → ReadsOne now q before later
logs_once old mid now q spans before later found grow most =
    let are = listed_later old mid now q found.logs grow found.are_listed in
    record { logs = listed_names found.logs; are_read = inr are.listed; once = once_told old now found.logs spans before later found.wholes are.lengths most }

all_unread : (now : Option Folder) (qs : List model.Query) → AllRead now qs []
all_unread now [] = refl
all_unread now (q ∷ qs) = record { own = []; others = []; are_read = inl refl; rest = all_unread now qs; logs_are = refl }

-- none is read
pub all_none : (now : Option Folder) (qs : List model.Query) (before later : ℕ) → later ≤ before → ReadsAll now qs before later
all_none now qs before later same = record { logs = []; are_read = all_unread now qs; once = reads_none now [] before later same }

-- the logs of the first alone
pub first_alone : (now : Option Folder) (q : model.Query) (qs : List model.Query) (before later : ℕ) → ReadsOne now q before later → ReadsAll now (q ∷ qs) before later
first_alone now q qs before later one = record {
  logs = one.logs ++ [];
  are_read = record { own = one.logs; others = []; are_read = one.are_read; rest = all_unread now qs; logs_are = refl };
  once = reads_more now one.logs [] before later one.once;
}

read_later : (mid now : Option Folder) (q : model.Query) (logs : List (List ℕ)) → OnlyGrow mid now → AreRead mid q logs → AreRead now q logs
read_later mid now q logs grow (inl none) = inl none
read_later mid now q logs grow (inr listed) = inr (lists_grown mid now (from_names q) logs grow listed)

-- those of the first, and then of others
pub first_then : (mid now : Option Folder) (q : model.Query) (qs : List model.Query) (before between later : ℕ) → OnlyGrow mid now → ReadsOne mid q before between → ReadsAll now qs between later → ReadsAll now (q ∷ qs) before later
first_then mid now q qs before between later grow one all = record {
  logs = one.logs ++ all.logs;
  are_read = record { own = one.logs; others = all.logs; are_read = read_later mid now q one.logs grow one.are_read; rest = all.are_read; logs_are = refl };
  once = reads_on mid now one.logs all.logs before between later grow one.once all.once;
}
