-- A world in which calls happen: what is stated of them can be met.
use Rattle.std.proofs.Common.{◌≡◌, ◌<◌, ⊎_elim, ℕ, zero, suc, true, false, List, [], ◌∷◌, ◌++◌, length, Option, Some, None, IsSome, refl, sym, ◌∙◌, ap, arith, inl, inr, subst, Contains}
use Rattle.std.specs.Prelude.{bytes_eq, codes, unwrap_or, Err, if◌then◌else◌, pos}
use Rattle.std.specs.List.{AllByRecursion, AllZip}
use Rattle.std.proofs.lemmas.Bool.{cases_Bool, false≢true}
use Rattle.std.proofs.lemmas.List.Elements.{All-contains_itself, All-weaker, Contains-append_cases, at_from_Contains, recursion_from_All}
use Rattle.std.proofs.lemmas.Slice.Eq.{bytes_eq-Decides}
use Rattle.command_words.specs.Table.{IsAsked, input_of, output_of, errors_of, stats_of, checkpoint_of, rotation_of, header_row_of, sample_lines_of, time_format_of, separator_of, rows_to_page_of, headers_of, out_separator_of, file_mode_of, template_of}
use Rattle.command_words.specs.Usage.{AreFine, fault_at}
use Rattle.command_words.specs.Words.{options_in, query_in}
use Rattle.command_words.specs.declared.modes.Rotation.TheVariants as R
use Rattle.command_words.specs.declared.spec.Spec.{Spec}
use Rattle.logparser_cli.specs.CheckpointedCommandAsked.{IsAskedBy}
use Rattle.logparser_cli.specs.Refusals.{IsCallRefused}
use Rattle.logparser_cli.specs.Steps.{TakesSteps}
use Rattle.commit.specs.Faults.{FitsWhole}
use Rattle.commit.specs.Keeping.{KeepsEntries}
use Rattle.commit.specs.Resume.{CanSettle, Settles}
use Rattle.disk_model.specs.Disk.{Files}
use Rattle.log_listing.specs.Firsts.{joined}
use Rattle.log_listing.specs.Listed.{Gives}
use Rattle.log_listing.proofs.FirstNames.{in_joined}
use Rattle.logparser_cli.specs.Kept.{stage_beside}
use Rattle.lp_model.specs.Outside.{Folder}
use Rattle.lp_model.proofs.Growing.{OnlyGrow-refl}
use Rattle.lp_time.specs.Patterns.{pieces_from}
use Rattle.positions.specs.Spanning.{Reaches, rule_of}
use Rattle.logparser_cli.proofs.Options.{rotation_by_options}
use Rattle.reports.specs.declared.status.Status.TheVariants as S
use Rattle.requests.specs.declared.fault.RequestFault.TheVariants as F
use Rattle.run_model.specs.Logs.{Rotation, names, numbers, Logs, Shows}
use Rattle.run_model.specs.Meanings.{Asked}
use Rattle.run_model.specs.Steps.{Setting, Gain}
use Rattle.worlds.specs.LogEvents.{Appends}
use Rattle.worlds.specs.Worlds.{World, Begins}
use Rattle.worlds.proofs.Example.{plain}
use Rattle.headline.proofs.Turning.{refusal_steps}
use Rattle.headline.specs.Calls.{NamesAre, Called, CallStopped, append, call, stop_in_call, IsReached}

-- one log, and what calls over it are asked
abbrev log : List ℕ
log = codes "a"

abbrev line : List ℕ
line = 120 ∷ 10 ∷ []

abbrev words : List (List ℕ)
words = codes "-iCheckpoint:l" ∷ codes "SELECT Text INTO o FROM a" ∷ []

abbrev ledger : List ℕ
ledger = codes "l"

abbrev table : List ℕ → List ℕ → Option (List ℕ)
table bytes name = if bytes_eq name log then Some bytes else None

abbrev logs : List ℕ → Logs
logs bytes = record { folder = table bytes; written = table bytes; rotations = λ stem. None }

abbrev empty : Files
empty = λ name. []

abbrev setting : Setting
setting = record { rotation = names; parting = record { is_log = λ name. bytes_eq name log; is_stem = λ name. false }; ledger = ledger; stage = stage_beside ledger; start = empty }

fine : AreFine words
fine = record { each = each; whole = refl }
  where
    each : (at : ℕ) → fault_at words at ≡ None
    each zero = refl
    each (suc zero) = refl
    each (suc (suc at)) = refl

shows : (bytes : List ℕ) → Shows names setting.parting (logs bytes)
shows bytes = record { files = record { shown = λ name held is_log there. (name, inl refl, there) }; stems = tt }

nil : (xs : List ℕ) → xs ++ [] ≡ xs
nil [] = refl
nil (x ∷ xs) = ap (λ t. x ∷ t) (nil xs)

gain : (bytes : List ℕ) → Gain names setting.parting (logs bytes) (logs bytes)
gain bytes = record {
  files = OnlyGrow-refl (Some (table bytes));
  grown = λ identity held is. ([], is ∙ ap Some (sym (nil held)));
  none_new = λ identity none. none;
  gone_stays = λ name identity file gone. refl;
  rotated_stays = λ name identity rotated. absurd rotated;
  no_rotation = refl;
  shows = shows bytes;
}

-- the files that FROM names reach are there
joined_there : (folder : Folder) (texts : List (List ℕ)) (found : List (List (List ℕ))) (name : List ℕ) → AllZip (Gives (Some folder)) texts found → Contains (joined found) name → IsSome (folder name)
joined_there folder [] [] name gives has = let at = at_from_Contains [] name has in let low = at.1 in absurd (omega arith)
joined_there folder [] (f ∷ found) name gives has = absurd gives
joined_there folder (t ∷ texts) [] name gives has = absurd gives
joined_there folder (t ∷ texts) (f ∷ found) name (is, gives) has = ⊎_elim
    (λ here. ((is.matches.each name).0 here).0)
    (λ more. joined_there folder texts found name gives more)
    (Contains-append_cases f (joined found) name has)

is_the_log : (bytes name : List ℕ) → IsSome (table bytes name) → bytes_eq name log ≡ true
is_the_log bytes name is = elim (cases_Bool (bytes_eq name log)) [
  | inl holds ↦ holds
  | inr fails ↦ absurd (false≢true (rw fails at is))
]

reached_logs : (bytes : List ℕ) (texts reached : List (List ℕ)) → Reaches names (Some (table bytes)) texts reached → AllByRecursion (λ (name : List ℕ). bytes_eq name log ≡ true) reached
reached_logs bytes texts reached is =
    recursion_from_All (λ (name : List ℕ). bytes_eq name log ≡ true) reached
    (All-weaker (Contains reached) (λ (name : List ℕ). bytes_eq name log ≡ true)
    (λ name has. is_the_log bytes name (joined_there (table bytes) texts is.found name is.each (in_joined (joined is.found) name (subst (λ (ns : List (List ℕ)). Contains ns name) is.all has))))
    reached (All-contains_itself reached))

reached_so : (bytes : List ℕ) (rule : Rotation) (texts reached : List (List ℕ)) → rule ≡ names → Reaches rule (Some (table bytes)) texts reached → AllByRecursion (λ (name : List ℕ). bytes_eq name log ≡ true) reached
reached_so bytes rule texts reached is reaches = reached_logs bytes texts reached (subst (λ (r : Rotation). Reaches r (Some (table bytes)) texts reached) is reaches)

by_names : (asked : Asked) → asked.words ≡ options_in words → rotation_of asked.words ≡ R.Names
by_names asked same = ap rotation_of same

names_are : (bytes : List ℕ) → NamesAre setting words (pos 0) (logs bytes) (logs bytes) (plain empty)
names_are bytes asked by = record {
  rotation_is = λ entries files recovers looks. ap rule_of (by_names asked by.words_are);
  are_logs = λ reached is.
      let options = is.asks.options in
      let rotation : is.spec.rotation ≡ R.Names = options.asked.rotation ∙ (sym (rotation_by_options options.words) ∙ (ap rotation_of options.options_are ∙ by_names asked by.words_are)) in
      reached_so bytes (rule_of is.spec.rotation) _ reached (ap rule_of rotation) is.reaches;
  are_stems = λ numbered reached is. let e : names ≡ numbers = numbered in absurd (cc);
  ledger_is_none = refl;
  stage_is_none = refl;
  apart = λ same. omega (arith, ap length same);
}

-- a call that is refused for want of memory
called : (bytes : List ℕ) → Called plain setting words (pos 0) S.Memory (logs bytes) (logs bytes) empty empty
called bytes = record { fine = fine; ledger_is = refl; stage_is = refl; gain = gain bytes; names_are = names_are bytes; does = inl (tt, refl) }

-- one that takes a step, and is refused for a fault of the logs
abbrev spec : Spec
spec = record {
  input = input_of words;
  output = output_of words;
  errors = errors_of words;
  stats = stats_of words;
  checkpoint = checkpoint_of words;
  rotation = rotation_of words;
  header_row = header_row_of words;
  dt_lines = sample_lines_of words;
  ts_format = unwrap_or (time_format_of words) [];
  separator = separator_of words;
  rtp = rows_to_page_of words;
  headers = headers_of words;
  out_separator = out_separator_of words;
  file_mode = file_mode_of words;
  tpl = template_of words;
  words = options_in words;
  query = query_in words;
}

options : IsAsked words spec
unfolding pieces_from
options = record {
  input = refl;
  output = refl;
  errors = refl;
  stats = refl;
  checkpoint = refl;
  rotation = refl;
  header_row = refl;
  dt_lines = refl;
  ts_format = refl;
  separator = refl;
  rtp = refl;
  headers = refl;
  out_separator = refl;
  file_mode = refl;
  tpl = refl;
  words_given = refl;
  query = refl;
}

abbrev options_alone : Asked
options_alone = record { words = spec.words; query = []; template = []; moment = pos 0 }

asked_by : (before now : Option Folder) → IsAskedBy before now spec (pos 0) options_alone
asked_by before now = record { words = refl; moment_is = refl; query = inl refl; template = inl refl }

refused : (bytes : List ℕ) → TakesSteps spec ledger (stage_beside ledger) (pos 0) (Some (table bytes)) (Some (table bytes)) (plain empty) (plain empty) (Err S.LogsFault)
refused bytes = λ given world before after are_fine are_options ledger_is stage_is told now gains may.
    let by = asked_by (Some before.folder) (Some after.folder) in
    let m = may options_alone by in
    record {
      asked = options_alone;
      is_asked = by;
      steps = record { step = refusal_steps plain (λ disk honest name. refl) (λ disk image honest since. since) world options_alone before after empty tt m.settled; undamaged = λ damaged. damaged; counted = tt };
      whole = tt;
    }

-- a disk that is left alone is settled where it could be, and an empty one fits and keeps its entries
settles : CanSettle (plain empty) ledger (stage_beside ledger) → Settles (plain empty) (plain empty) ledger (stage_beside ledger)
settles can = record {
  each_moment = record {
    later = omega arith;
    each = λ image since. let stands = can.images.each image since in (stands.0, stands.1, image, since, stands.2, stands.2);
    before = λ moment image low since. inl since;
  };
  seen = λ entries files recovers. recovers;
  again = can;
}

fits : FitsWhole ledger (stage_beside ledger) empty
fits = record { pairs = []; is = inl (omega arith, refl); staged = λ k output is. absurd (cc) }

keeps : KeepsEntries ledger empty empty
keeps [] (inl (short, none)) = record { pairs = []; is = inl (omega arith, refl); same = refl; finished = tt }
keeps (pair ∷ pairs) (inl (short, none)) = absurd cc
keeps pairs (inr held) = let long : 18 < 0 = held.long in absurd (omega arith)

by_logs : (bytes : List ℕ) → IsCallRefused plain empty ledger (stage_beside ledger) (Some (table bytes)) (Some (table bytes)) spec (pos 0) S.LogsFault
by_logs bytes = inr (record {
  settled = empty;
  settles = record { settles = settles; fits = λ told apart. fits; keeps = λ told apart. keeps; tells = λ told. told };
  refused = inl (record { fault = F.Logs; why = tt; status_is = refl });
})

stepped : (bytes : List ℕ) → Called plain setting words (pos 0) S.LogsFault (logs bytes) (logs bytes) empty empty
stepped bytes = record {
  fine = fine;
  ledger_is = refl;
  stage_is = refl;
  gain = gain bytes;
  names_are = names_are bytes;
  does = inr (record { spec = spec; options = options; result = Err S.LogsFault; status_is = refl; steps = refused bytes; refused = by_logs bytes; done = λ same. let e : S.LogsFault ≡ S.Done = same in cc });
}

stopped : (bytes : List ℕ) → CallStopped plain setting words (pos 0) S.Memory (logs bytes) (logs bytes) empty empty
stopped bytes = record {
  whole = empty;
  called = called bytes;
  image = empty;
  of_call = inr (λ name. refl);
  stopped = record { honest = tt; seen = λ name. refl; only = λ name held is. is };
}

off : (bytes other : List ℕ) → (other ≡ log → ⊥) → table bytes other ≡ None
off bytes other apart = elim (cases_Bool (bytes_eq other log)) [
  | inl holds ↦ absurd (apart ((bytes_eq-Decides other log).0 holds))
  | inr fails ↦ rw fails refl
]

appends : Appends names setting.parting log line (logs []) (logs line)
appends = record {
  identity = log;
  is_log = refl;
  live = refl;
  before = [];
  there = refl;
  folder = record { here = refl; elsewhere = λ other apart. off line other apart ∙ sym (off [] other apart) };
  written = record { here = refl; elsewhere = λ other apart. off line other apart ∙ sym (off [] other apart) };
  rotations = refl;
}

begins : Begins setting (logs []) (plain empty)
begins = record {
  parts = tt;
  honest = tt;
  no_ledger = refl;
  synced = λ name held is. is;
  start_is = λ name. refl;
  shows = shows [];
  there = λ identity held is. record { name = identity; is_log = is_the_log [] identity (rw is refl); is_file = inl refl; holds = is };
  newest = tt;
}

-- so a world is reached with two calls, a line that is appended between them, and a call that is stopped
pub example : IsReached plain setting (call words (pos 0) S.Memory ∷ append log line ∷ call words (pos 0) S.LogsFault ∷ stop_in_call words (pos 0) S.Memory ∷ []) (record { logs = logs line; disk = empty })
example =
    let was : World Files = record { logs = logs []; disk = empty } in
    let is : World Files = record { logs = logs line; disk = empty } in
    record { first = was; begins = begins; leads = (was, called [], (is, (appends, refl), (is, stepped line, (is, stopped line, refl)))) }
