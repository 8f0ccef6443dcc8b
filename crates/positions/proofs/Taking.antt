-- Spans and pairs of which the first ones were taken.
use Rattle.std.proofs.Common.{◌≡◌, ℕ, ◌+◌, ◌<◌, List, [], ◌∷◌, ◌++◌, length, flat_map, sym, ◌∙◌, subst, append_assoc, arith}
use Rattle.std.specs.List.{AllByRecursion}
use Rattle.std.proofs.lemmas.List.{append-nil, map-append}
use Rattle.disk_model.specs.Disk.{DiskState}
use Rattle.ledger_model.specs.Entries.{Span}
use Rattle.ledger_model.specs.Grammar.{span_layout}
use Rattle.ledger_model.specs.Ledgers.{Pair, IsPair, spelled_pair}
use Rattle.ledger.specs.Reader.{Position, left_of}
use Rattle.positions.specs.Stands.{Stands}
use Rattle.positions.specs.Places.{Places, Remembers, Kept, Keeps}
use Rattle.positions.specs.Loads.{AreSpans, entries_of}
use Rattle.positions.proofs.Finds.{stands_as}

-- some of all spans were taken, and so many of an entry are left
pub record SpansLeft (disk : DiskState) (name : List ℕ) (to : ℕ) (position : Position) (count : ℕ) (more : List ℕ) (all : List Span) (places : Places) : Type 0 where
  pub past : List Span
  pub next : List Span
  pub parts : all ≡ past ++ next
  pub count_is : length next ≡ count
  pub fit : AreSpans next
  pub stands : Stands disk name to position (flat_map span_layout.spell next ++ more)
  pub remembers : Remembers past places

-- the next one
pub record NextSpan (disk : DiskState) (name : List ℕ) (to : ℕ) (position : Position) (count : ℕ) (more : List ℕ) (all : List Span) (places : Places) : Type 0 where
  pub past : List Span
  pub span : Span
  pub rest : List Span
  pub parts : all ≡ (past ++ span ∷ []) ++ rest
  pub count_is : length rest + 1 ≡ count
  pub fits : span_layout.Fits span
  pub others : AreSpans rest
  pub stands : Stands disk name to position (span_layout.spell span ++ (flat_map span_layout.spell rest ++ more))
  pub remembers : Remembers past places

next_at : (disk : DiskState) (name : List ℕ) (to : ℕ) (position : Position) (count : ℕ) (more : List ℕ) (all : List Span) (places : Places) (past next : List Span) → all ≡ past ++ next → length next ≡ count → AreSpans next → Stands disk name to position (flat_map span_layout.spell next ++ more)
    → Remembers past places → 0 < count → NextSpan disk name to position count more all places
next_at disk name to position count more all places past [] parts is fit stands remembers some = absurd (omega (arith, is, some))
next_at disk name to position count more all places past (span ∷ rest) parts is fit stands remembers some = record {
  past = past;
  span = span;
  rest = rest;
  parts = parts ∙ sym (append_assoc past (span ∷ []) rest);
  count_is = omega (arith, is);
  fits = fit.0;
  others = fit.1;
  stands = stands_as disk name to position _ _ (append_assoc (span_layout.spell span) (flat_map span_layout.spell rest) more) stands;
  remembers = remembers;
}

pub next_span : (disk : DiskState) (name : List ℕ) (to : ℕ) (position : Position) (count : ℕ) (more : List ℕ) (all : List Span) (places : Places) → SpansLeft disk name to position count more all places → 0 < count → NextSpan disk name to position count more all places
next_span disk name to position count more all places left some = next_at disk name to position count more all places left.past left.next left.parts left.count_is left.fit left.stands left.remembers some

all_past : (all past next : List Span) (places : Places) → all ≡ past ++ next → length next ≡ 0 → Remembers past places → Remembers all places
all_past all past [] places parts is remembers = subst (λ (l : List Span). Remembers l places) (sym (parts ∙ append-nil past)) remembers
all_past all past (span ∷ rest) places parts is remembers = absurd (omega (arith, is))

pub none_left : (disk : DiskState) (name : List ℕ) (to : ℕ) (position : Position) (count : ℕ) (more : List ℕ) (all : List Span) (places : Places) → SpansLeft disk name to position count more all places → count ≡ 0 → Remembers all places
none_left disk name to position count more all places left none = all_past all left.past left.next places left.parts (left.count_is ∙ none) left.remembers

-- the pairs of a ledger, of which the first ones were taken
pub record PairsLeft (file : List ℕ) (to place count : ℕ) (pairs : List Pair) (kept : Kept) : Type 0 where
  pub past : List Pair
  pub next : List Pair
  pub parts : pairs ≡ past ++ next
  pub count_is : length next ≡ count
  pub fit : AllByRecursion IsPair next
  pub left : left_of file to place ≡ flat_map spelled_pair next
  pub keeps : Keeps (entries_of past) kept

pub record NextPair (file : List ℕ) (to place count : ℕ) (pairs : List Pair) (kept : Kept) : Type 0 where
  pub past : List Pair
  pub pair : Pair
  pub rest : List Pair
  pub parts : pairs ≡ (past ++ pair ∷ []) ++ rest
  pub count_is : length rest + 1 ≡ count
  pub is : IsPair pair
  pub others : AllByRecursion IsPair rest
  pub left : left_of file to place ≡ spelled_pair pair ++ flat_map spelled_pair rest
  pub keeps : Keeps (entries_of past) kept

pair_at : (file : List ℕ) (to place count : ℕ) (pairs : List Pair) (kept : Kept) (past next : List Pair) → pairs ≡ past ++ next → length next ≡ count → AllByRecursion IsPair next → left_of file to place ≡ flat_map spelled_pair next → Keeps (entries_of past) kept → 0 < count
    → NextPair file to place count pairs kept
pair_at file to place count pairs kept past [] parts is fit left keeps some = absurd (omega (arith, is, some))
pair_at file to place count pairs kept past (pair ∷ rest) parts is fit left keeps some = record {
  past = past;
  pair = pair;
  rest = rest;
  parts = parts ∙ sym (append_assoc past (pair ∷ []) rest);
  count_is = omega (arith, is);
  is = fit.0;
  others = fit.1;
  left = left;
  keeps = keeps;
}

pub next_pair : (file : List ℕ) (to place count : ℕ) (pairs : List Pair) (kept : Kept) → PairsLeft file to place count pairs kept → 0 < count → NextPair file to place count pairs kept
next_pair file to place count pairs kept p some = pair_at file to place count pairs kept p.past p.next p.parts p.count_is p.fit p.left p.keeps some

pub entries_snoc : (past : List Pair) (pair : Pair) → entries_of past ++ pair.entry ∷ [] ≡ entries_of (past ++ pair ∷ [])
entries_snoc past pair = sym (map-append (λ (p : Pair). p.entry) past (pair ∷ []))

all_taken : (pairs past next : List Pair) (kept : Kept) → pairs ≡ past ++ next → length next ≡ 0 → Keeps (entries_of past) kept → Keeps (entries_of pairs) kept
all_taken pairs past [] kept parts is keeps = subst (λ (l : List Pair). Keeps (entries_of l) kept) (sym (parts ∙ append-nil past)) keeps
all_taken pairs past (pair ∷ rest) kept parts is keeps = absurd (omega (arith, is))

pub no_pair_left : (file : List ℕ) (to place count : ℕ) (pairs : List Pair) (kept : Kept) → PairsLeft file to place count pairs kept → count ≡ 0 → Keeps (entries_of pairs) kept
no_pair_left file to place count pairs kept p none = all_taken pairs p.past p.next kept p.parts (p.count_is ∙ none) p.keeps
