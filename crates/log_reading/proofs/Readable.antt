-- Spans that can be read, while they are read one after the other.
use Rattle.std.proofs.Common.{◌≡◌, ◌⊎◌, ℕ, ◌+◌, ◌<◌, ◌≤◌, List, length, take, get_or, Option, Some, None, arith, inl, inr}
use Rattle.std.proofs.lemmas.List.{length-take}
use Rattle.lp_model.specs.Outside.{Folder, OnlyGrow, Told, bytes_in}
use Rattle.log_reading.specs.declared.span.Span.{Span}
use Rattle.log_reading.specs.Spans.{AllSpans, AreReadable, AreThere}
use Rattle.log_reading.proofs.SpansTaken.{front_all, there_all}

-- the same behind so many spans
abbrev pub StillReadable : {L : Type 0} → (L → Option Folder) → (L → List ℕ → ℕ → Type 0) → L → List Span → ℕ → Type 0
StillReadable folder ready logs spans i = AreThere folder ready logs spans ⊎ ((length spans ≤ 1) × (i ≡ 0 → AllSpans spans (λ span. ready logs span.name span.from)))

pub readable_first : {L : Type 0} (folder : L → Option Folder) (ready : L → List ℕ → ℕ → Type 0) (logs : L) (spans : List Span) → AreReadable folder ready logs spans → StillReadable folder ready logs spans 0
readable_first folder ready logs spans (inl t) = inl t
readable_first folder ready logs spans (inr a) = inr (a.one, λ e. a.ready)

pub readable_next : {L : Type 0} (folder : L → Option Folder) (ready : L → List ℕ → ℕ → Type 0) (old new : L) (spans : List Span) (i : ℕ) → OnlyGrow (folder old) (folder new) → StillReadable folder ready old spans i → StillReadable folder ready new spans (i + 1)
readable_next folder ready old new spans i grows (inl t) = inl (record { there = there_all (folder old) (folder new) spans grows t.there; ready = t.ready })
readable_next folder ready old new spans i grows (inr a) = inr (a.0, λ e. absurd (omega arith))

-- the span at hand can be read
pub readable_here : {L : Type 0} (folder : L → Option Folder) (ready : L → List ℕ → ℕ → Type 0) (logs : L) (spans : List Span) (i : ℕ) (span : Span) → i < length spans → span ≡ get_or spans i span → StillReadable folder ready logs spans i → ready logs span.name span.from
readable_here folder ready logs spans i span lt is (inl t) = t.ready logs span.name span.from
readable_here folder ready logs spans i span lt is (inr a) = let one = a.0 in a.1 (omega arith) i span lt is

told_front : (told : Option Folder) (spans : List Span) (i : ℕ) → i ≤ length spans → Told told (λ folder. AllSpans spans (λ s. s.listed ≤ length (bytes_in folder s.name))) → Told told (λ folder. AllSpans (take i spans) (λ s. s.listed ≤ length (bytes_in folder s.name)))
told_front None spans i le t = tt
told_front (Some x) spans i le t = front_all spans (λ s. s.listed ≤ length (bytes_in x s.name)) i le t

told_nothing : (told : Option Folder) (spans : List Span) (i : ℕ) → i ≡ 0 → Told told (λ folder. AllSpans (take i spans) (λ s. s.listed ≤ length (bytes_in folder s.name)))
told_nothing None spans i none = tt
told_nothing (Some x) spans i none = λ k s lt is. absurd (omega (arith, lt, none, length-take {A = Span} i spans))

-- those in front of it are as long as their cuts
pub readable_there : {L : Type 0} (folder : L → Option Folder) (ready : L → List ℕ → ℕ → Type 0) (logs : L) (spans : List Span) (i : ℕ) → i < length spans → StillReadable folder ready logs spans i
    → Told (folder logs) (λ files. AllSpans (take i spans) (λ s. s.listed ≤ length (bytes_in files s.name)))
readable_there folder ready logs spans i lt (inl t) = told_front (folder logs) spans i (omega arith) t.there
readable_there folder ready logs spans i lt (inr a) = let one = a.0 in told_nothing (folder logs) spans i (omega arith)
