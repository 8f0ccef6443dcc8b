-- Spans that were read are those of the files that are listed.
use Rattle.std.proofs.Common.{ℕ, max, List, [], ◌∷◌, take, Some, sym, ◌∙◌, ap, subst}
use Rattle.std.specs.List.{AllZip}
use Rattle.lp_model.specs.Outside.{Folder, bytes_in}
use Rattle.ledger_model.specs.Entries.{Entry}
use Rattle.ledger_model.specs.Entries.{Span as EntrySpan}
use Rattle.run_model.specs.Logs.{Rotation, IsLastEnd}
use Rattle.run_model.specs.Listed.{Listed, IsReadTo, AreListed}
use Rattle.log_reading.specs.declared.span.Span.{Span}
use Rattle.positions.specs.Places.{Kept, Keeps}
use Rattle.positions.specs.Spans.{IsSpanOf}
use Rattle.positions.specs.Spanning.{AreOf, AreSpansOf}
use Rattle.positions.specs.Listing.{IsTaken}
use Rattle.positions.proofs.KeptPlaces.{place_kept}

read_to : (entries : List Entry) (kept : Kept) (before now : Folder) (file : Listed) (span : Span) (taken : EntrySpan) → Keeps entries kept → IsSpanOf kept.places (Some before) (Some now) file span → IsTaken now span taken → IsReadTo entries before now file taken
read_to entries kept before now file span taken keeps is t = record {
  identity_is = t.identity_is ∙ is.identity_is;
  cut = span.listed;
  least = is.listed.least;
  most = is.listed.most;
  end = t.end;
  is_end = subst (λ (name : List ℕ). IsLastEnd (take span.listed (bytes_in now name)) t.end) is.name_is t.is_end;
  to_is = t.to_is ∙ ap (max t.end) (is.from_is ∙ sym (place_kept entries kept file.identity keeps));
}

all_read : (entries : List Entry) (kept : Kept) (before now : Folder) → Keeps entries kept → (files : List Listed) (spans : List Span) (taken : List EntrySpan) → AllZip (IsSpanOf kept.places (Some before) (Some now)) files spans → AllZip (IsTaken now) spans taken → AllZip (IsReadTo entries before now) files taken
all_read entries kept before now keeps [] [] [] is all = tt
all_read entries kept before now keeps [] [] (t ∷ taken) is all = absurd all
all_read entries kept before now keeps [] (span ∷ spans) taken is all = absurd is
all_read entries kept before now keeps (file ∷ files) [] taken is all = absurd is
all_read entries kept before now keeps (file ∷ files) (span ∷ spans) [] is all = absurd all
all_read entries kept before now keeps (file ∷ files) (span ∷ spans) (t ∷ taken) is all = (read_to entries kept before now file span t keeps is.0 all.0, all_read entries kept before now keeps files spans taken is.1 all.1)

pub are_listed : (rotation : Rotation) (entries : List Entry) (kept : Kept) (texts : List (List ℕ)) (before now : Folder) (spans : List Span) (taken : List EntrySpan) → AreOf rotation entries kept → (are : AreSpansOf rotation kept.places entries texts (Some before) (Some now) spans) → AllZip (IsTaken now) spans taken → AreListed rotation entries are.reached before now taken
are_listed rotation entries kept texts before now spans taken of are all = record { files = are.files; lists = are.lists; read = all_read entries kept before now of.keeps are.files spans taken are.each all }
