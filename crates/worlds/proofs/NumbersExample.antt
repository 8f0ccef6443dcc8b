-- The same under numbers, with a rotation behind the run.
use Rattle.std.proofs.Common.{◌≡◌, ◌≢◌, ⊎_elim, ℕ, ◌<◌, true, false, List, [], ◌∷◌, ◌++◌, length, get_or, Option, Some, None, refl, sym, ◌∙◌, ap, arith, inl, inr, subst, zero, suc, length-append, ◌≤◌, ◌^◌, not, ◌||◌, IsSome, ◌⊎◌}
use Rattle.std.proofs.lemmas.Int.{ints}
use Rattle.std.specs.Prelude.{bytes_eq, if◌then◌else◌, pos, IsUtf8, slice_index}
use Rattle.std.specs.Bool.{⊤}
use Rattle.std.proofs.lemmas.Bool.{cases_Bool, false≢true}
use Rattle.std.proofs.lemmas.Str.{IsUtf8-from_ascii, IsUtf8-nil}
use Rattle.std.proofs.lemmas.Slice.Eq.{bytes_eq-Decides}
use Rattle.lp_model.specs.Outside.{Grows}
use Rattle.lp_model.specs.Reading.{text_lines}
use Rattle.disk_model.specs.Disk.{Files}
use Rattle.ledger_model.specs.Entries.{Entry, Span}
use Rattle.ledger_model.specs.Inputs.{textline, tab, input_text}
use Rattle.ledger_model.specs.Grammar.{IsEntry, IsName, payload_of}
use Rattle.ledger_model.specs.Standings.{IsStanding, standing_layout}
use Rattle.ledger_model.specs.Numbers.{u64_bytes, u32_bytes, i64_bytes}
use Rattle.ledger_model.specs.Ledgers.{Pair, IsPair, front_of, spelled_pair, mark}
use Rattle.recovery_model.proofs.Images.{recovers_nothing, recovers_same, one_list}
use Rattle.lp_model.proofs.Growing.{OnlyGrow-refl}
use Rattle.recovery_model.specs.Recovered.{Recovers}
use Rattle.run_model.specs.Logs.{numbers, Logs, IsParting, number_text, generation_name, Shows, IsLastEnd}
use Rattle.run_model.specs.Meanings.{Meaning, Asked, append}
use Rattle.run_model.specs.Right.{GoesOn, IsNext, IsSettled}
use Rattle.run_model.specs.Listed.{IsThereAt, ListsStem}
use Rattle.run_model.specs.Steps.{Setting, Gain, well, WithEntry}
use Rattle.worlds.specs.Worlds.{Begins}
use Rattle.worlds.specs.Events.{run, rotate, Runs, IsReached}
use Rattle.worlds.specs.LogEvents.{Rotates}
use Rattle.worlds.proofs.Example.{plain}
use Rattle.worlds.proofs.Appending.{none_some}

-- one log, a line in it, and what a run of it is asked
abbrev log : List ℕ
log = 97 ∷ []

abbrev first : List ℕ
first = 97 ∷ 46 ∷ 49 ∷ []

abbrev second : List ℕ
second = 97 ∷ 46 ∷ 50 ∷ []

abbrev pub line : List ℕ
line = 120 ∷ 10 ∷ []

abbrev pub input : List ℕ
input = input_text (record { format = textline; header_row = true; separator = tab; numbers = true })

abbrev meaning : Meaning
meaning = record {
  are_words = λ words. ⊤;
  is_input = λ asked text. text ≡ input;
  rotation = λ words. numbers;
  format = λ text. text_lines;
  mode = λ words. append;
  most_bad = λ words. None;
  gives = λ asked parts lists given. given ≡ record { splits = []; rows = 0 };
  looks = λ asked entries. ⊤;
  reaches = λ asked folder reached. reached ≡ log ∷ [];
  keeps = λ asked old new lists bad. (lists ≡ []) × (bad ≡ 0);
}

abbrev pub asked : Asked
asked = record { words = []; query = []; template = []; moment = pos 0 }

abbrev span : Span
span = record { identity = first; from = 0; to = 2; standing = (standing_layout 2).spell (record { lines = 1; columns = None }) }

abbrev entry : Entry
entry = record { form = 1; moment = pos 0; input = input; words = []; query = []; template = []; spans = span ∷ []; lists = []; staged = 0; outputs = []; processed = 1; output = 0; bad = 0 }

abbrev table : List ℕ → Option (List ℕ)
table name = if bytes_eq name log then Some line else None

abbrev written : List ℕ → Option (List ℕ)
written name = if bytes_eq name first then Some line else None

abbrev rotations : List ℕ → Option ℕ
rotations stem = if bytes_eq stem log then Some 0 else None

abbrev logs : Logs
logs = record { folder = table; written = written; rotations = rotations }

abbrev pub ledger : List ℕ
ledger = 108 ∷ []

abbrev pub stage : List ℕ
stage = 115 ∷ []

abbrev pub empty : Files
empty = λ name. []

abbrev setting : Setting
setting = record { rotation = numbers; parting = record { is_log = λ name. not (bytes_eq name ledger || bytes_eq name stage); is_stem = λ name. bytes_eq name log }; ledger = ledger; stage = stage; start = empty }

abbrev pair : Pair
pair = record { done = 90; entry = entry }

abbrev files : Files
files = λ name. if bytes_eq name ledger then front_of (pair ∷ []) ++ (0 ∷ 0 ∷ []) else []

pub no_text : IsUtf8 []
no_text = IsUtf8-nil

ascii_log : (i : ℕ) → slice_index first i < 128
ascii_log zero = omega arith
ascii_log (suc zero) = omega arith
ascii_log (suc (suc zero)) = omega arith
ascii_log (suc (suc (suc i))) = omega arith

log_is_name : IsName first
log_is_name = record { utf8 = IsUtf8-from_ascii first ascii_log; some = omega arith; most = omega arith; parts = refl }

pub standing_size : length ((standing_layout 2).spell (record { lines = 1; columns = None })) ≡ 9
unfolding u64_bytes
standing_size = refl

payload_size : length (payload_of entry) ≡ 165
unfolding payload_of u64_bytes u32_bytes i64_bytes
payload_size = refl

pub is_standing : IsStanding 2 ((standing_layout 2).spell (record { lines = 1; columns = None }))
is_standing = record { standing = record { lines = 1; columns = None }; fits = ((omega arith, omega arith), tt); spells = refl }

is_entry : IsEntry entry
is_entry = let nine = standing_size in record {
  fits = (
    (refl, ((omega (arith, ints), omega (arith, ints)), (omega arith, record { input = record { format = textline; header_row = true; separator = tab; numbers = true }; separator = tt; is = refl }))),
    (
      ((omega arith, tt), ((omega arith, no_text), (omega arith, tt))),
      (
        ((omega arith, (((omega arith, log_is_name), (omega arith, ((omega arith, omega arith), (omega arith, is_standing)))), tt)), (omega arith, tt)),
        (omega arith, ((omega arith, tt), (omega arith, (omega arith, omega arith)))),
      ),
    ),
  );
}

is_pair : IsPair pair
is_pair = let size = payload_size in record { entry = is_entry; size = omega arith }

pub last_end : IsLastEnd line 2
last_end = record { ends = inr (omega arith, omega arith, refl); last = λ other is. ⊎_elim (λ none. omega arith) (λ some. some.1) is }

goes_on : GoesOn text_lines written [] span
goes_on = record { bytes = line; is = refl; from_is = refl; forward = omega arith; ends = last_end.ends; standing_is = refl }

before_is : Recovers ledger stage [] empty empty
before_is = recovers_nothing ledger stage empty empty refl (λ name other. refl)

off_ledger_empty : (name : List ℕ) → name ≢ ledger → files name ≡ []
off_ledger_empty name off = elim (cases_Bool (bytes_eq name ledger)) [
  | inl holds ↦ absurd (off ((bytes_eq-Decides name ledger).0 holds))
  | inr fails ↦ rw fails refl
]

ledger_size : 18 < length (files ledger)
ledger_size =
    let a = length-append mark (spelled_pair pair ++ []) in
    let b = length-append (front_of (pair ∷ [])) (0 ∷ 0 ∷ []) in
    omega arith

after_is : Recovers ledger stage (entry ∷ []) empty files
after_is = record {
  pairs = pair ∷ [];
  is_ledger = inr (record { long = ledger_size; fit = (is_pair, tt); rest = 0 ∷ 0 ∷ []; split = refl; closed = (λ e. absurd (omega arith), omega arith) });
  entries_are = refl;
  apart = λ k output is. absurd (cc);
  files_are = λ name other. record { listed = λ k output is. absurd (cc); unlisted = λ none. sym (off_ledger_empty name other.0) };
}

next : IsNext meaning written [] empty entry empty
next = record {
  given = record { splits = []; rows = 0 };
  right = record {
    reads = record { words = tt; input_is = refl; same_input = tt; apart = ((λ has. has.among), tt); go_on = (goes_on, tt) };
    writes = record { gives = refl; outputs = tt; output_is = refl };
    counts = record { processed_is = refl; bad_least = omega arith; bad_most = tt };
  };
  files_are = λ name. record { listed = λ k output split is. absurd (cc); unlisted = λ none. refl };
}

first_is : generation_name log 1 ≡ first
unfolding generation_name
first_is = refl

second_is : generation_name log 2 ≡ second
unfolding generation_name
second_is = refl

pub long_name : (stem : List ℕ) (number : ℕ) → 1 ≤ length stem → 2 ≤ length (generation_name stem number)
unfolding generation_name
long_name stem number some = omega (arith, length-append stem (46 ∷ number_text number))

pub name_or_not : (a b : List ℕ) → ((a ≡ b) × (bytes_eq a b ≡ true)) ⊎ ((a ≢ b) × (bytes_eq a b ≡ false))
name_or_not a b = elim (cases_Bool (bytes_eq a b)) [
  | inl holds ↦ inl ((bytes_eq-Decides a b).0 holds, holds)
  | inr fails ↦ inr ((λ e. false≢true (sym fails ∙ (bytes_eq-Decides a b).1 e)), fails)
]

is_log_name : (name : List ℕ) → bytes_eq name log ≡ true → name ≡ log
is_log_name name is = (bytes_eq-Decides name log).0 is

pub not_disk : (name : List ℕ) → 2 ≤ length name → not (bytes_eq name ledger || bytes_eq name stage) ≡ true
not_disk name long = ⊎_elim
    (λ a. absurd (omega (arith, ap length a.0)))
    (λ a. ⊎_elim (λ b. absurd (omega (arith, ap length b.0))) (λ b. rw (a.1, b.1) refl) (name_or_not name stage))
    (name_or_not name ledger)

log_size : (stem : List ℕ) → bytes_eq stem log ≡ true → length stem ≡ 1
log_size stem is = ap length (is_log_name stem is)

parts : IsParting setting.parting
parts = record {
  stem_is_log = λ stem is. subst (λ (n : List ℕ). not (bytes_eq n ledger || bytes_eq n stage) ≡ true) (sym (is_log_name stem is)) refl;
  generation_is_log = λ stem number is some small. not_disk (generation_name stem number) (let one = log_size stem is in long_name stem number (omega arith));
  no_stem = λ stem other number is are e. let one = log_size stem is in let two = log_size other are in let long = long_name other number (omega arith) in absurd (omega (arith, ap length e));
}

-- what is in the table
table_is : (name bytes : List ℕ) → table name ≡ Some bytes → (name ≡ log) × (Some line ≡ Some bytes)
table_is name bytes is = ⊎_elim
    (λ a. (a.0, (let h : table name ≡ Some line = rw a.1 refl in sym h ∙ is)))
    (λ a. absurd (let h : table name ≡ None = rw a.1 refl in none_some (table name) bytes h is))
    (name_or_not name log)

written_is : (name bytes : List ℕ) → written name ≡ Some bytes → (name ≡ first) × (Some line ≡ Some bytes)
written_is name bytes is = ⊎_elim
    (λ a. (a.0, (let h : written name ≡ Some line = rw a.1 refl in sym h ∙ is)))
    (λ a. absurd (let h : written name ≡ None = rw a.1 refl in none_some (written name) bytes h is))
    (name_or_not name first)

pub none_count : (file : Option ℕ) (count : ℕ) → file ≡ None → file ≡ Some count → ⊥
none_count file count a b = let e : Some count ≡ None = sym b ∙ a in cc

rotations_are : (stem : List ℕ) (count : ℕ) → rotations stem ≡ Some count → (stem ≡ log) × (bytes_eq stem log ≡ true) × (count ≡ 0)
rotations_are stem count is = ⊎_elim
    (λ a. (a.0, a.1, (let h : rotations stem ≡ Some 0 = rw a.1 refl in let e : Some count ≡ Some 0 = sym is ∙ h in cc)))
    (λ a. absurd (let h : rotations stem ≡ None = rw a.1 refl in none_count (rotations stem) count h is))
    (name_or_not stem log)

log_there : table log ≡ Some line
log_there = refl

shows : Shows numbers setting.parting logs
shows = record {
  files = record { shown = λ name bytes is_log there. let t = table_is name bytes there in (first, inl (0, ap rotations t.0, sym (ap (λ s. generation_name s 1) t.0 ∙ first_is)), t.1) };
  stems = λ stem count is.
      let r = rotations_are stem count is in
      (r.1, subst (λ (n : ℕ). n < 2 ^ 63) (sym r.2) (omega arith), (line, ap table r.0));
}

same_files : Grows table table
same_files = OnlyGrow-refl (Some table)

pub nil : (xs : List ℕ) → xs ++ [] ≡ xs
nil [] = refl
nil (x ∷ xs) = ap (λ t. x ∷ t) (nil xs)

gain : Gain numbers setting.parting logs logs
gain = record {
  files = same_files;
  grown = λ identity bytes is. ([], is ∙ ap Some (sym (nil bytes)));
  none_new = λ identity none. none;
  gone_stays = λ name identity file gone. refl;
  rotated_stays = λ name identity rotated. (refl, refl);
  no_rotation = refl;
  shows = shows;
}

pub no_file : (file : Option (List ℕ)) → file ≡ None → IsSome file → ⊥
no_file None e is = false≢true is
no_file (Some bytes) e is = let f : Some bytes ≡ None = e in cc

pub differ : ledger ≡ stage → ⊥
differ e = omega (arith, ap (λ l. get_or l 0 0) e)

none_there : (number : ℕ) → IsThereAt table log number → ⊥
none_there number there = ⊎_elim
    (λ a. let long = long_name log number (omega arith) in omega (arith, ap length a.0))
    (λ a. let h : table (generation_name log number) ≡ None = rw a.1 refl in no_file (table (generation_name log number)) h there.2)
    (name_or_not (generation_name log number) log)

lists_log : ListsStem table [] log (record { name = log; identity = first } ∷ [])
lists_log = record {
  first = 1;
  is_first = inr ((λ number knows. knows.among), record { some = omega arith; there = inl (none_there, refl); oldest = λ other there. absurd (none_there other there) });
  newest = 0;
  is_newest = record { there = λ some. absurd (omega arith); newest = λ other there. absurd (none_there other there) };
  there = λ number low high. absurd (omega arith);
  some = inr refl;
  listed_are = ap (λ (n : List ℕ). record { name = log; identity = n } ∷ []) (sym first_is);
}

-- the run takes the line
with_entry : WithEntry meaning setting asked well [] empty logs logs (plain empty) (plain files)
with_entry = record {
  entry = entry;
  files_after = empty;
  next = next;
  of_asked = record {
    asked_is = refl;
    reached = log ∷ [];
    reaches = refl;
    listed = record {
      files = record { name = log; identity = first } ∷ [];
      lists = ((record { name = log; identity = first } ∷ []) ∷ [], (lists_log, tt), refl);
      read = (record { identity_is = refl; cut = 2; least = omega arith; most = omega arith; end = 2; is_end = last_end; to_is = refl }, tt);
    };
    bad = 0;
    keeps = (refl, refl);
    bad_is = refl;
  };
  each_moment = λ image of. inr (recovers_same ledger stage (entry ∷ []) empty files image (λ name. ⊎_elim (λ since. sym (since name)) (λ now. sym (now name)) of) after_is);
  ends = record {
    each = λ image is. recovers_same ledger stage (entry ∷ []) empty files image (λ name. sym (is name)) after_is;
    seen = λ name other. off_ledger_empty name other.0;
  };
}

starts : (entries : List Entry) (of : Files) → [] ≡ entries → IsSettled meaning written empty entries of → WithEntry meaning setting asked well entries of logs logs (plain empty) (plain files)
starts [] of none settled = let same : of ≡ empty = λ i. λ name. settled name i in subst (λ (fs : Files). WithEntry meaning setting asked well [] fs logs logs (plain empty) (plain files)) (sym same) with_entry
starts (e ∷ entries) of none settled = absurd (cc)

runs : Runs meaning setting asked well logs logs (plain empty) (plain files)
runs = record {
  names_are = record {
    rotation_is = λ entries of recovers looks. refl;
    are_logs = λ reached is. rw is (refl, tt);
    are_stems = λ by reached is. rw is (refl, tt);
    ledger_is_none = refl;
    stage_is_none = refl;
    apart = λ e. differ e;
  };
  gain = gain;
  step = λ may. record {
    honest = tt;
    does = λ entries of recovers settled.
        let none = one_list ledger stage [] entries empty of empty before_is recovers in
        inr (starts entries of none settled);
  };
}

begins : Begins setting logs (plain empty)
begins = record {
  parts = parts;
  honest = tt;
  no_ledger = refl;
  synced = λ name bytes is. is;
  start_is = λ name. refl;
  shows = shows;
  there = λ identity bytes is. let w = written_is identity bytes is in record { name = log; is_log = refl; is_file = inl (0, refl, w.0 ∙ sym first_is); holds = w.1 };
  newest = λ stem count is some. let r = rotations_are stem count is in let none = r.2 in absurd (omega arith);
}

-- the rotation behind it
abbrev folder_then : List ℕ → Option (List ℕ)
folder_then name = if bytes_eq name log then Some [] else (if bytes_eq name first then Some line else None)

abbrev written_then : List ℕ → Option (List ℕ)
written_then name = if bytes_eq name second then Some [] else written name

abbrev rotations_then : List ℕ → Option ℕ
rotations_then stem = if bytes_eq stem log then Some 1 else None

abbrev logs_then : Logs
logs_then = record { folder = folder_then; written = written_then; rotations = rotations_then }

rotates : Rotates numbers log logs logs_then
rotates = record {
  by_numbers = refl;
  count = 0;
  was = refl;
  fits = omega arith;
  bytes = line;
  there = refl;
  moved = ap folder_then first_is;
  begun = refl;
  files_stay = λ other off_log off_first. ⊎_elim
      (λ a. absurd (off_log a.0))
      (λ a. ⊎_elim (λ b. absurd (off_first (b.0 ∙ sym first_is))) (λ b. rw (a.1, b.1) refl) (name_or_not other first))
      (name_or_not other log);
  rotations = record { here = refl; elsewhere = λ other off. ⊎_elim (λ a. absurd (off a.0)) (λ a. rw a.1 refl) (name_or_not other log) };
  written = record { here = ap written_then second_is; elsewhere = λ other off. ⊎_elim (λ a. absurd (off (a.0 ∙ sym second_is))) (λ a. rw a.1 refl) (name_or_not other second) };
}

-- so a world in which a line was taken, and the log rotated, is reached
pub example : IsReached plain meaning setting (run asked well ∷ rotate log ∷ []) (record { logs = logs_then; disk = files })
example = record { first = record { logs = logs; disk = empty }; begins = begins; leads = (record { logs = logs; disk = files }, runs, (record { logs = logs_then; disk = files }, (rotates, refl), refl)) }
