-- Spans of files, one more at a time.
use Rattle.std.proofs.Common.{◌≡◌, List, [], ◌∷◌, length, Option, Some, None, Result, Ok, Err, sym, subst, arith}
use Rattle.std.specs.Result.{IsErrAnd, IfErr}
use Rattle.std.specs.List.{AllZip}
use Rattle.lp_model.specs.Outside.{Folder, OnlyGrow, bytes_in}
use Rattle.lp_model.proofs.Pieces.{length_grown}
use Rattle.run_model.specs.Listed.{Listed}
use Rattle.log_listing.specs.Lengths.{IsLength}
use Rattle.log_listing.specs.declared.lengths.NameLength.{NameLength}
use Rattle.log_listing.proofs.LengthLemmas.{length_later}
use Rattle.log_reading.specs.declared.span.Span.{Span}
use Rattle.positions.specs.Places.{Places}
use Rattle.positions.specs.Spans.{IsSpanOf}

-- an error that a `?` hands on
pub handed_on : {U E : Type 0} (r : Result U E) (e : E) (Q : E → Type 0) → IsErrAnd r (λ y. y ≡ e) → Q e → IfErr r Q
handed_on (Ok x) e Q is q = absurd is
handed_on {U} {E} (Err y) e Q is q = subst (λ (z : E). Q z) (sym is) q

-- a length at some moment later is one from an earlier moment on
pub length_earlier : (before mid now : Option Folder) (log : NameLength) → OnlyGrow before mid → IsLength mid now log → IsLength before now log
length_earlier None mid now log grow is = record { least = tt; most = is.most; bounded = is.bounded }
length_earlier (Some x) None now log grow is = absurd grow
length_earlier (Some x) (Some y) now log grow is =
    let kept = length_grown x y log.name (length (bytes_in x log.name)) grow (omega arith) in
    record { least = omega (arith, kept, is.least); most = is.most; bounded = is.bounded }

pub span_later : (places : Places) (before mid now : Option Folder) (file : Listed) (span : Span) → OnlyGrow mid now → IsSpanOf places before mid file span → IsSpanOf places before now file span
span_later places before mid now file span grow is = record {
  name_is = is.name_is;
  identity_is = is.identity_is;
  from_is = is.from_is;
  standing_is = is.standing_is;
  listed = length_later before mid now grow (record { name = file.name; length = span.listed }) is.listed;
  forward = is.forward;
}

pub span_earlier : (places : Places) (before mid now : Option Folder) (file : Listed) (span : Span) → OnlyGrow before mid → IsSpanOf places mid now file span → IsSpanOf places before now file span
span_earlier places before mid now file span grow is = record {
  name_is = is.name_is;
  identity_is = is.identity_is;
  from_is = is.from_is;
  standing_is = is.standing_is;
  listed = length_earlier before mid now (record { name = file.name; length = span.listed }) grow is.listed;
  forward = is.forward;
}

pub all_later : (places : Places) (before mid now : Option Folder) (files : List Listed) (spans : List Span) → OnlyGrow mid now → AllZip (IsSpanOf places before mid) files spans → AllZip (IsSpanOf places before now) files spans
all_later places before mid now [] [] grow all = tt
all_later places before mid now [] (span ∷ spans) grow all = absurd all
all_later places before mid now (file ∷ files) [] grow all = absurd all
all_later places before mid now (file ∷ files) (span ∷ spans) grow all = (span_later places before mid now file span grow all.0, all_later places before mid now files spans grow all.1)
