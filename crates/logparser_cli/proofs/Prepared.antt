-- What stands of the subqueries of a query, once it is run with what they gave.
use Rattle.std.proofs.Common.{◌≡◌, ◌==◌, ◌∙◌, ◌⊎◌, ◌++◌, ◌∷◌, [], ℕ, ℤ, List, length, map, arith, true, Option, Some, None, refl, inl, inr, ap, sym, subst, append_assoc, append-nil}
use Rattle.std.proofs.lemmas.Bool.Decides.{nat_tests}
use Rattle.grammar.specs.Filled.{PlacedGiven, filled}
use Rattle.grammar.specs.Trees as model
use Rattle.grammar.specs.Trees.{Query as query}
use Rattle.query_tree.proofs.Lists.{queries_list}
use Rattle.query_tree.specs.Views.{query_of, queries_in}
use Rattle.query_tree.specs.declared.query.Query.{Query, Query', out-Query}
use Rattle.query_tree.specs.declared.query.QueryList.{out-QueryList}
use Rattle.lp_model.specs.Outside.{Folder, OnlyGrow}
use Rattle.lp_model.proofs.Growing.{OnlyGrow-refl, OnlyGrow-trans}
use Rattle.command_words.specs.declared.spec.Spec.{Spec}
use Rattle.checkpoint.specs.Wholes.{whole_spans}
use Rattle.checkpointed_command.specs.Built.{all_built, reads_stdin}
use Rattle.checkpointed_command.specs.Texts.{output_of}
use Rattle.log_listing.specs.Lengths.{names_in as listed_names}
use Rattle.log_listing.specs.Listed.{Lists}
use Rattle.log_listing.proofs.Grown.{lists_grown}
use Rattle.query_text.specs.Stdin.{names_in}
use Rattle.requests.specs.Given.{ReadsOnce}
use Rattle.requests.proofs.Given.{reads_on}
use Rattle.checkpointed_command.specs.SubqueryFault.{SubqueryFault}
use Rattle.checkpointed_command.specs.SubqueryFault.TheVariants as F
use Rattle.checkpointed_command.specs.Giving.{listed_queries, subqueries_of}
use Rattle.checkpointed_command.specs.SubqueriesReading.{AllRead, ReadsAll}
use Rattle.checkpointed_command.specs.SubqueriesReading.{AreRead as AreOwn}
use Rattle.checkpointed_command.specs.Listing.{first_own}
use Rattle.checkpointed_command.specs.Refusing.{StopsBy}
use Rattle.checkpointed_command.proofs.Clashing.{none_own}
use Rattle.checkpointed_command.proofs.SubqueriesSteps.{given_between}
use Rattle.checkpointed_command.specs.Given.{template_files}
use Rattle.logparser_cli.specs.Given.{ReadsLogs, ReadsQuery}
use Rattle.logparser_cli.specs.Logs.{AreSpans, from_names}
use Rattle.logparser_cli.proofs.Wholes.{from_input, logs_earlier}
use Rattle.log_reading.specs.declared.span.Span.{Span}
use Rattle.standard_input.specs.Streams.{input_logs}
use Rattle.reports.specs.declared.status.Status.{Status}
use Rattle.reports.specs.declared.status.Status.TheVariants.{LogsFault}
use Rattle.logparser_cli.specs.Subqueries.{IsFilled, IsListedFirst, IsPlainFault, IsRefusedBehind, ungiven}

-- what a query has besides its conditions stays

names_filled : (givens : List PlacedGiven) (q : model.Query) → names_in (filled givens q) ≡ names_in q
names_filled givens (query.query parts subqueries) = refl

built_filled : (spec : Spec) (givens : List PlacedGiven) (q : model.Query) → all_built spec (filled givens q) ≡ all_built spec q
built_filled spec givens (query.query parts subqueries) = refl

output_filled : (spec : Spec) (givens : List PlacedGiven) (q : model.Query) → output_of spec (filled givens q) ≡ output_of spec q
output_filled spec givens (query.query parts subqueries) = refl

module _ {spec : Spec} {moment : ℤ} {before now : Option Folder} {q whole : model.Query} (f : IsFilled spec moment before now q whole) where
  pub names_whole : names_in whole ≡ names_in q
  names_whole = ap names_in f.whole_is ∙ names_filled f.givens q

  pub built_whole : all_built spec whole ≡ all_built spec q
  built_whole = ap (all_built spec) f.whole_is ∙ built_filled spec f.givens q

  pub output_whole : output_of spec whole ≡ output_of spec q
  output_whole = ap (output_of spec) f.whole_is ∙ output_filled spec f.givens q

-- what subqueries gave stands while logs grow

pub filled_earlier : (spec : Spec) (moment : ℤ) (before mid now : Option Folder) (q whole : model.Query) → OnlyGrow before mid → IsFilled spec moment mid now q whole → IsFilled spec moment before now q whole
filled_earlier spec moment before mid now q whole grow f = record { givens = f.givens; lists = f.lists; give = given_between spec moment before mid now now q f.givens f.lists grow (OnlyGrow-refl now) f.give; whole_is = f.whole_is }

pub filled_later : (spec : Spec) (moment : ℤ) (before mid now : Option Folder) (q whole : model.Query) → OnlyGrow mid now → IsFilled spec moment before mid q whole → IsFilled spec moment before now q whole
filled_later spec moment before mid now q whole grow f = record { givens = f.givens; lists = f.lists; give = given_between spec moment before before mid now q f.givens f.lists (OnlyGrow-refl before) grow f.give; whole_is = f.whole_is }

-- what a query reads is listed before its subqueries are run

subqueries_in : (q : Query) → subqueries_of (query_of q) ≡ listed_queries (queries_in (out-Query q).subqueries)
unfolding out-Query denote.Hole.Carrier.out
subqueries_in (Query' top distinct star items aliases into names condition keys rollup having order descending subqueries) = refl

no_queries : (qs : List Query) → length qs == 0 ≡ true → qs ≡ []
no_queries [] e = refl
no_queries (q ∷ qs) e = absurd (grind (arith, nat_tests))

pub without_subqueries : (q : Query) → (out-QueryList (out-Query q).subqueries).items.len == 0 ≡ true → subqueries_of (query_of q) ≡ []
without_subqueries q none =
    let list = (out-QueryList (out-Query q).subqueries).items in
    let none_there : length list.items == 0 ≡ true = ap (λ (n : ℕ). n == 0) (sym list.ok.0) ∙ none in
    subqueries_in q
    ∙ (ap listed_queries (queries_list (out-Query q).subqueries) ∙ ap (λ (qs : List Query). listed_queries (model.queries_of (map query_of qs))) (no_queries list.items none_there))

pub none_first : (before now : Option Folder) (q : model.Query) → subqueries_of q ≡ [] → IsListedFirst (subqueries_of q) before now q
none_first before now q none = subst (λ (qs : List model.Query). IsListedFirst qs before now q) (sym none) tt

pub listed_first : (qs : List model.Query) (before now : Option Folder) (q : model.Query) (spans : List Span) → AreSpans before now q spans → IsListedFirst qs before now q
listed_first [] before now q spans are = tt
listed_first (first ∷ rest) before now q spans are = record { logs = are.logs; are_logs = are.are_logs }

-- over standard input there is nothing to list
pub input_first : (before now : Option Folder) (q : model.Query) → reads_stdin (names_in q) ≡ true → IsListedFirst (subqueries_of q) before now q
input_first before now q stdin = listed_first (subqueries_of q) before now q (whole_spans input_logs) (from_input before now q (whole_spans input_logs) stdin refl)

first_earlier : (qs : List model.Query) (before mid now : Option Folder) (q : model.Query) → OnlyGrow before mid → IsListedFirst qs mid now q → IsListedFirst qs before now q
first_earlier [] before mid now q grow first = tt
first_earlier (some ∷ rest) before mid now q grow first = record { logs = first.logs; are_logs = logs_earlier before mid now q first.logs grow first.are_logs }

-- how much is read

own_grown : (mid now : Option Folder) (q : model.Query) (logs : List (List ℕ)) → OnlyGrow mid now → AreOwn mid q logs → AreOwn now q logs
own_grown mid now q logs grow (inl none) = inl none
own_grown mid now q logs grow (inr lists) = inr (lists_grown mid now (from_names q) logs grow lists)

all_grown : (mid now : Option Folder) (qs : List model.Query) (logs : List (List ℕ)) → OnlyGrow mid now → AllRead mid qs logs → AllRead now qs logs
all_grown mid now [] logs grow all = all
all_grown mid now (q ∷ qs) logs grow all = record {
  own = all.own;
  others = all.others;
  are_read = own_grown mid now q all.own grow all.are_read;
  rest = all_grown mid now qs all.others grow all.rest;
  logs_are = all.logs_are;
}

pub none_read : (now : Option Folder) (qs : List model.Query) → AllRead now qs []
none_read now [] = refl
none_read now (q ∷ qs) = record { own = []; others = []; are_read = inl refl; rest = none_read now qs; logs_are = refl }

-- those of one query behind those of others
all_behind : (now : Option Folder) (qs : List model.Query) (q : model.Query) (logs own : List (List ℕ)) → AllRead now qs logs → AreOwn now q own → AllRead now (qs ++ q ∷ []) (logs ++ own)
all_behind now [] q logs own all is = record { own = own; others = []; are_read = is; rest = refl; logs_are = ap (λ (l : List (List ℕ)). l ++ own) all ∙ sym (append-nil own) }
all_behind now (first ∷ qs) q logs own all is = record {
  own = all.own;
  others = all.others ++ own;
  are_read = all.are_read;
  rest = all_behind now qs q all.others own all.rest is;
  logs_are = ap (λ (l : List (List ℕ)). l ++ own) all.logs_are ∙ append_assoc all.own all.others own;
}

-- the template is read, then the logs of subqueries, and then the query's own
pub prepared_reads : (one two now : Option Folder) (spec : Spec) (q : model.Query) (start first second later : ℕ) → OnlyGrow one two → OnlyGrow two now → ReadsOnce one (template_files spec q) start first → ReadsAll two (subqueries_of q) first second
    → ReadsLogs now q second later → ReadsQuery now spec q start later
prepared_reads one two now spec q start first second later grow next template subs own = record {
  logs = subs.logs ++ own.logs;
  are_read = all_behind now (subqueries_of q) q subs.logs own.logs (all_grown two now (subqueries_of q) subs.logs next subs.are_read) own.are_read;
  once = reads_on one now (template_files spec q) (subs.logs ++ own.logs) start first later (OnlyGrow-trans one two now grow next) template (reads_on two now subs.logs own.logs first second later next subs.once own.once);
}

-- the logs of the query with what its subqueries gave are its own
pub logs_whole : {spec : Spec} {moment : ℤ} {before mid : Option Folder} {q whole : model.Query} (now : Option Folder) (start later : ℕ) → IsFilled spec moment before mid q whole → ReadsLogs now whole start later → ReadsLogs now q start later
logs_whole {q = q} {whole = whole} now start later f reads = record {
  logs = reads.logs;
  are_read = subst (λ (names : List (List ℕ)). (reads.logs ≡ []) ⊎ Lists now names reads.logs) (ap (map (λ (name : model.Placed). name.text)) (names_whole f)) reads.are_read;
  once = reads.once;
}

-- why it isn't run

pub refused_earlier : (spec : Spec) (moment : ℤ) (before mid now : Option Folder) (q : model.Query) (status : Status) → OnlyGrow before mid → IsRefusedBehind spec moment mid now q status → IsRefusedBehind spec moment before now q status
refused_earlier spec moment before mid now q status grow r = record { listed = r.listed; first = first_earlier (subqueries_of q) before mid r.listed q grow r.first; grew = OnlyGrow-trans before mid r.listed grow r.grew; grows = r.grows; refused = r.refused }

pub given_failed : (fault : SubqueryFault) → ungiven fault ≡ LogsFault → fault ≡ F.Logs
given_failed (F.BadName fault) e = absurd (cc)
given_failed (F.NoSuchLog name) e = absurd (cc)
given_failed F.TooManyLogs e = absurd (cc)
given_failed (F.Clash name) e = absurd (cc)
given_failed (F.Plan fault) e = absurd (cc)
given_failed (F.Bad log row) e = absurd (cc)
given_failed F.Logs e = refl
given_failed F.Memory e = absurd (cc)

no_clash : (names : List (List ℕ)) (checkpoint : Option (List ℕ)) (name : List ℕ) → checkpoint ≡ None → first_own checkpoint names ≡ Some name → ⊥
no_clash names checkpoint name plain first =
    let some : None ≡ Some name = none_own names ∙ (ap (λ (o : Option (List ℕ)). first_own o names) (sym plain) ∙ first) in
    cc

-- a run without a checkpoint keeps no file for itself
pub plain_stops : (spec : Spec) (moment : ℤ) (before now : Option Folder) (q : model.Query) (fault : SubqueryFault) → spec.checkpoint ≡ None → StopsBy spec moment before now q fault → IsPlainFault fault
plain_stops spec moment before now q (F.BadName fault) plain stops = tt
plain_stops spec moment before now q (F.NoSuchLog name) plain stops = tt
plain_stops spec moment before now q F.TooManyLogs plain stops = tt
plain_stops spec moment before now q (F.Clash name) plain stops = no_clash (listed_names stops.why.logs) spec.checkpoint name plain stops.why.first
plain_stops spec moment before now q (F.Plan fault) plain stops = tt
plain_stops spec moment before now q (F.Bad log row) plain stops = tt
plain_stops spec moment before now q F.Logs plain stops = tt
plain_stops spec moment before now q F.Memory plain stops = tt
