-- The first of some queries, and those behind it.
use Rattle.std.proofs.Common.{◌≡◌, ◌∙◌, ◌++◌, ◌+◌, ◌<◌, ℕ, ℤ, List, [], ◌∷◌, length, map, Option, Result, Ok, Err, sym, ap, subst, arith, append_assoc}
use Rattle.std.proofs.lemmas.List.{append-nil, append_cancel_left}
use Rattle.std.proofs.lemmas.List.Sums.{sum_by-append}
use Rattle.std.specs.Prelude.{OnOk}
use Rattle.grammar.specs.Filled.{PlacedGiven, asked_places}
use Rattle.grammar.specs.Trees as model
use Rattle.lp_model.specs.Outside.{Folder, OnlyGrow}
use Rattle.lp_values.specs.declared.value.Value.{Value}
use Rattle.command_words.specs.Separators.{IsSeparator}
use Rattle.command_words.specs.Table.{IsInRange}
use Rattle.command_words.specs.declared.formats.InputFormat.{InputFormat}
use Rattle.command_words.specs.declared.spec.Spec.{Spec}
use Rattle.execution.specs.Formats.{format_of, input_of, log_format}
use Rattle.execution.specs.declared.formats.LogFormat.{LogFormat}
use Rattle.execution.specs.declared.formats.LogFormat.TheVariants as L
use Rattle.execution.proofs.FormatLemmas.{separated}
use Rattle.query_tree.specs.Views.{query_of}
use Rattle.query_tree.specs.declared.query.Query.{Query}
use Rattle.log_reading.specs.Page.{IsWithin}
use Rattle.subqueries.specs.declared.fault.SubqueryFault.{SubqueryFault}
use Rattle.subqueries.specs.Giving.{AddsGiven, AddsOne, AllGive, GiveThese, bad_of, subqueries_of}
use Rattle.subqueries.specs.Reading.{ClashesBehind, ClashesBy, ReadsAll, ReadsOne}
use Rattle.subqueries.specs.Refusing.{IsClash, StopsBehind, StopsBy}
use Rattle.subqueries.specs.Valuing.{HasSeparator}
use Rattle.subqueries.proofs.Gave.{adds_one, all_earlier, all_later, behind_earlier, clashes_behind, clashes_first, stops_behind}
use Rattle.subqueries.proofs.Read.{first_alone, first_then}

-- where nothing was added, there are as many
pub still_within : (errors : Option ℕ) (bad : ℕ) (old added : List PlacedGiven) → IsWithin errors bad → old ≡ old ++ added → IsWithin errors (bad + bad_of added)
still_within errors bad old added within same =
    let none : added ≡ [] = append_cancel_left old added [] (sym same ∙ sym (append-nil old)) in
    let as_many : bad ≡ bad + bad_of [] = omega arith in
    subst (λ (l : List PlacedGiven). IsWithin errors (bad + bad_of l)) (sym none) (subst (λ (n : ℕ). IsWithin errors n) as_many within)

-- those of one, and of what is behind it
more_within : (errors : Option ℕ) (bad more : ℕ) (given : PlacedGiven) (old pushed new rest added : List PlacedGiven) → pushed ≡ old ++ given ∷ [] → more ≡ bad + given.given.bad → new ≡ pushed ++ rest → IsWithin errors (more + bad_of rest) → new ≡ old ++ added
    → IsWithin errors (bad + bad_of added)
more_within errors bad more given old pushed new rest added push sum behind within all =
    let whole : new ≡ old ++ given ∷ rest = behind ∙ (ap (λ (l : List PlacedGiven). l ++ rest) push ∙ append_assoc old (given ∷ []) rest) in
    let same : given ∷ rest ≡ added = append_cancel_left old (given ∷ rest) added (sym whole ∙ all) in
    let both = sum_by-append (λ (one : PlacedGiven). one.given.bad) (given ∷ []) rest in
    let total : more + bad_of rest ≡ bad + bad_of (given ∷ rest) = omega arith in
    subst (λ (l : List PlacedGiven). IsWithin errors (bad + bad_of l)) same (subst (λ (n : ℕ). IsWithin errors n) total within)

module _ (format : LogFormat) (spec : Spec) (moment : ℤ) where
  -- where no query is left, none gives
  pub adds_none : (before now : Option Folder) (queries : List Query) (places : List ℕ) (old : List PlacedGiven) (kept : List (List Value)) → length queries < 1 → places ≡ [] → AddsGiven format spec moment before now (map query_of queries) places old old kept kept
  adds_none before now [] places old kept none same = record {
    added = [];
    new_is = sym (append-nil old);
    lists = [];
    keeps_is = sym (append-nil kept);
    give = subst (λ (ps : List ℕ). AllGive format spec moment before now [] ps [] []) (sym same) tt;
  }
  adds_none before now (query ∷ queries) places old kept none same = absurd (omega (arith, none))

  pub adds_then : (before mid now : Option Folder) (queries rest : List Query) (query : Query) (places others : List ℕ) (place : ℕ) (old pushed new : List PlacedGiven) (kept held keeps : List (List Value)) (bad more : ℕ) → queries ≡ query ∷ rest → places ≡ place ∷ others → OnlyGrow before mid → OnlyGrow mid now
      → AddsOne format spec moment before mid (query_of query) place old pushed kept held bad more → AddsGiven format spec moment mid now (map query_of rest) others pushed new held keeps
      → AddsGiven format spec moment before now (map query_of queries) places old new kept keeps
  adds_then before mid now queries rest query places others place old pushed new kept held keeps bad more qs ps first next one all =
      let step = adds_one format spec moment before mid now (query_of query) (map query_of rest) place others one.given one.list old pushed new kept held keeps first next one.at one.gives one.new_is one.keeps_is all in
      subst (λ (l : List Query). AddsGiven format spec moment before now (map query_of l) places old new kept keeps) (sym qs)
      (subst (λ (l : List ℕ). AddsGiven format spec moment before now (map query_of (query ∷ rest)) l old new kept keeps) (sym ps) step)

  -- all of them are no more than there may be
  pub then_within : {T E : Type 0} (r : Result T E) (before mid now : Option Folder) (q : model.Query) (rest : List model.Query) (place : ℕ) (others : List ℕ) (old pushed new : List PlacedGiven) (kept held keeps : List (List Value)) (bad more : ℕ)
      → AddsOne format spec moment before mid q place old pushed kept held bad more → OnOk r (AddsGiven format spec moment mid now rest others pushed new held keeps)
      → OnOk r ((added : List PlacedGiven) → new ≡ pushed ++ added → IsWithin spec.errors (more + bad_of added)) → OnOk r ((added : List PlacedGiven) → new ≡ old ++ added → IsWithin spec.errors (bad + bad_of added))
  then_within (Ok done) before mid now q rest place others old pushed new kept held keeps bad more one all within =
      λ added is. more_within spec.errors bad more one.given old pushed new all.added added one.new_is one.more_is all.new_is (within all.added all.new_is) is
  then_within (Err fault) before mid now q rest place others old pushed new kept held keeps bad more one all within = tt

  -- one gave, and then there was a clash
  pub clashes_then : (before mid now : Option Folder) (queries rest : List Query) (query : Query) (places others : List ℕ) (place : ℕ) (old pushed : List PlacedGiven) (kept held : List (List Value)) (bad more : ℕ) (name : List ℕ) (start between later : ℕ) → queries ≡ query ∷ rest → places ≡ place ∷ others
      → OnlyGrow before mid → OnlyGrow mid now → AddsOne format spec moment before mid (query_of query) place old pushed kept held bad more → ReadsOne mid (query_of query) start between → ClashesBehind format spec moment mid now (map query_of rest) others more name between later
      → ClashesBehind format spec moment before now (map query_of queries) places bad name start later
  clashes_then before mid now queries rest query places others place old pushed kept held bad more name start between later qs ps first next one reads clashes =
      subst (λ (l : List Query). ClashesBehind format spec moment before now (map query_of l) places bad name start later) (sym qs)
      (subst (λ (l : List ℕ). ClashesBehind format spec moment before now (map query_of (query ∷ rest)) l bad name start later) (sym ps)
      (clashes_behind format spec moment before mid now (query_of query) (map query_of rest) place others one.given one.list bad more name start between later first next one.at one.gives one.more_is reads clashes))

  pub clashes_now : (before now : Option Folder) (queries rest : List Query) (query : Query) (places : List ℕ) (bad : ℕ) (name : List ℕ) (start later : ℕ) → queries ≡ query ∷ rest → IsClash spec before now (query_of query) name → later ≡ start
      → ClashesBehind format spec moment before now (map query_of queries) places bad name start later
  clashes_now before now queries rest query places bad name start later qs clash same =
      subst (λ (l : List Query). ClashesBehind format spec moment before now (map query_of l) places bad name start later) (sym qs) (clashes_first format spec moment before now (query_of query) (map query_of rest) places bad name start later clash same)

  pub stops_then : (before mid now : Option Folder) (queries rest : List Query) (query : Query) (places others : List ℕ) (place : ℕ) (old pushed : List PlacedGiven) (kept held : List (List Value)) (bad more : ℕ) (fault : SubqueryFault) → queries ≡ query ∷ rest → places ≡ place ∷ others → OnlyGrow before mid → OnlyGrow mid now
      → AddsOne format spec moment before mid (query_of query) place old pushed kept held bad more → StopsBehind format spec moment mid now (map query_of rest) others more fault
      → StopsBehind format spec moment before now (map query_of queries) places bad fault
  stops_then before mid now queries rest query places others place old pushed kept held bad more fault qs ps first next one stops =
      subst (λ (l : List Query). StopsBehind format spec moment before now (map query_of l) places bad fault) (sym qs)
      (subst (λ (l : List ℕ). StopsBehind format spec moment before now (map query_of (query ∷ rest)) l bad fault) (sym ps)
      (stops_behind format spec moment before mid now (query_of query) (map query_of rest) place others one.given one.list bad more fault first next one.at one.gives one.more_is stops))

  pub stops_now : (before now : Option Folder) (queries rest : List Query) (query : Query) (places : List ℕ) (bad : ℕ) (fault : SubqueryFault) → queries ≡ query ∷ rest
      → ((behind : List model.Query) (places : List ℕ) → StopsBehind format spec moment before now (query_of query ∷ behind) places bad fault) → StopsBehind format spec moment before now (map query_of queries) places bad fault
  stops_now before now queries rest query places bad fault qs stops = subst (λ (l : List Query). StopsBehind format spec moment before now (map query_of l) places bad fault) (sym qs) (stops (map query_of rest) places)

pub read_then : (mid now : Option Folder) (queries rest : List Query) (query : Query) (before between later : ℕ) → queries ≡ query ∷ rest → OnlyGrow mid now → ReadsOne mid (query_of query) before between → ReadsAll now (map query_of rest) between later → ReadsAll now (map query_of queries) before later
read_then mid now queries rest query before between later qs grow one all =
    subst (λ (l : List Query). ReadsAll now (map query_of l) before later) (sym qs) (first_then mid now (query_of query) (map query_of rest) before between later grow one all)

pub read_now : (now : Option Folder) (queries rest : List Query) (query : Query) (before later : ℕ) → queries ≡ query ∷ rest → ReadsOne now (query_of query) before later → ReadsAll now (map query_of queries) before later
read_now now queries rest query before later qs one =
    subst (λ (l : List Query). ReadsAll now (map query_of l) before later) (sym qs) (first_alone now (query_of query) (map query_of rest) before later one)

-- ---- of a whole query

has_separator_as : (spec : Spec) (input : InputFormat) (format : LogFormat) → IsSeparator spec.separator → format_of spec input ≡ format → HasSeparator format
has_separator_as spec input (L.Tabled table) range same = tt
has_separator_as spec input (L.Sampled options limit) range same = separated spec input options limit range same

pub has_separator : (spec : Spec) (q : model.Query) (format : LogFormat) → format ≡ log_format spec q → IsInRange spec → HasSeparator format
has_separator spec q format is range = has_separator_as spec (input_of spec q) format range.separator (sym is)

pub are_given : (spec : Spec) (moment : ℤ) (before now : Option Folder) (query : Query) (format : LogFormat) (queries : List Query) (places : List ℕ) (old new : List PlacedGiven) (kept keeps : List (List Value)) → format ≡ log_format spec (query_of query) → subqueries_of (query_of query) ≡ map query_of queries → places ≡ asked_places (query_of query)
    → old ≡ [] → kept ≡ [] → AddsGiven format spec moment before now (map query_of queries) places old new kept keeps → GiveThese spec moment before now (query_of query) new keeps
are_given spec moment before now query format queries places old new kept keeps is all asked none nothing adds =
    let alone : new ≡ adds.added = adds.new_is ∙ ap (λ (l : List PlacedGiven). l ++ adds.added) none in
    let lists : keeps ≡ adds.lists = adds.keeps_is ∙ ap (λ (l : List (List Value)). l ++ adds.lists) nothing in
    let q = query_of query in
    subst (λ (f : LogFormat). AllGive f spec moment before now (subqueries_of q) (asked_places q) new keeps) is
    (subst (λ (qs : List model.Query). AllGive format spec moment before now qs (asked_places q) new keeps) (sym all)
    (subst (λ (ps : List ℕ). AllGive format spec moment before now (map query_of queries) ps new keeps) asked
    (subst (λ (l : List PlacedGiven). AllGive format spec moment before now (map query_of queries) places l keeps) (sym alone)
    (subst (λ (l : List (List Value)). AllGive format spec moment before now (map query_of queries) places adds.added l) (sym lists) adds.give))))

pub stops_by : (spec : Spec) (moment : ℤ) (before now : Option Folder) (query : Query) (format : LogFormat) (queries : List Query) (places : List ℕ) (fault : SubqueryFault) → format ≡ log_format spec (query_of query) → subqueries_of (query_of query) ≡ map query_of queries → places ≡ asked_places (query_of query)
    → StopsBehind format spec moment before now (map query_of queries) places 0 fault → StopsBy spec moment before now (query_of query) fault
stops_by spec moment before now query format queries places fault is all asked stops =
    subst (λ (f : LogFormat). StopsBehind f spec moment before now (subqueries_of (query_of query)) (asked_places (query_of query)) 0 fault) is
    (subst (λ (qs : List model.Query). StopsBehind format spec moment before now qs (asked_places (query_of query)) 0 fault) (sym all)
    (subst (λ (ps : List ℕ). StopsBehind format spec moment before now (map query_of queries) ps 0 fault) asked stops))

pub clashes_by : (spec : Spec) (moment : ℤ) (before now : Option Folder) (query : Query) (format : LogFormat) (queries : List Query) (places : List ℕ) (name : List ℕ) (start later : ℕ) → format ≡ log_format spec (query_of query) → subqueries_of (query_of query) ≡ map query_of queries
    → places ≡ asked_places (query_of query) → ClashesBehind format spec moment before now (map query_of queries) places 0 name start later → ClashesBy spec moment before now (query_of query) name start later
clashes_by spec moment before now query format queries places name start later is all asked clashes =
    subst (λ (f : LogFormat). ClashesBehind f spec moment before now (subqueries_of (query_of query)) (asked_places (query_of query)) 0 name start later) is
    (subst (λ (qs : List model.Query). ClashesBehind format spec moment before now qs (asked_places (query_of query)) 0 name start later) (sym all)
    (subst (λ (ps : List ℕ). ClashesBehind format spec moment before now (map query_of queries) ps 0 name start later) asked clashes))

pub all_read : (now : Option Folder) (query : Query) (queries : List Query) (before later : ℕ) → subqueries_of (query_of query) ≡ map query_of queries → ReadsAll now (map query_of queries) before later → ReadsAll now (subqueries_of (query_of query)) before later
all_read now query queries before later all reads = subst (λ (qs : List model.Query). ReadsAll now qs before later) (sym all) reads

-- what was given between two moments was given between an earlier and a later one
pub given_between : (spec : Spec) (moment : ℤ) (earlier before now later : Option Folder) (q : model.Query) (givens : List PlacedGiven) (lists : List (List Value)) → OnlyGrow earlier before → OnlyGrow now later → GiveThese spec moment before now q givens lists → GiveThese spec moment earlier later q givens lists
given_between spec moment earlier before now later q givens lists first next gave =
    all_earlier (log_format spec q) spec moment earlier before later (subqueries_of q) (asked_places q) givens lists first
    (all_later (log_format spec q) spec moment before now later (subqueries_of q) (asked_places q) givens lists next gave)

pub stops_earlier : (spec : Spec) (moment : ℤ) (before mid now : Option Folder) (q : model.Query) (fault : SubqueryFault) → OnlyGrow before mid → StopsBy spec moment mid now q fault → StopsBy spec moment before now q fault
stops_earlier spec moment before mid now q fault grow stops = behind_earlier (log_format spec q) spec moment before mid now (subqueries_of q) (asked_places q) 0 fault grow stops
