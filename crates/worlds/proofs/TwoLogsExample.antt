-- Two logs under numbers: one was rotated before, a run takes both, the other is rotated, a generation that was passed is removed, and the machine stops.
use Rattle.std.proofs.Common.{◌≡◌, ◌≢◌, ◌⊎◌, ⊎_elim, ℕ, zero, suc, ◌<◌, ◌≤◌, ◌^◌, true, not, ◌||◌, List, [], ◌∷◌, ◌++◌, length, get_or, Option, Some, None, IsSome, refl, sym, ◌∙◌, ap, arith, inl, inr, subst, length-append}
use Rattle.std.proofs.lemmas.Int.{ints}
use Rattle.std.specs.Prelude.{bytes_eq, if◌then◌else◌, pos, slice_index}
use Rattle.std.specs.Bool.{⊤}
use Rattle.std.proofs.lemmas.Bool.{false≢true}
use Rattle.std.proofs.lemmas.Str.{IsUtf8-from_ascii}
use Rattle.lp_model.specs.Reading.{text_lines}
use Rattle.disk_model.specs.Disk.{Files}
use Rattle.ledger_model.specs.Entries.{Entry, Span}
use Rattle.ledger_model.specs.Inputs.{textline, tab}
use Rattle.ledger_model.specs.Grammar.{IsEntry, IsName, payload_of}
use Rattle.ledger_model.specs.Standings.{IsStanding, standing_layout}
use Rattle.ledger_model.specs.Numbers.{u64_bytes, u32_bytes, i64_bytes}
use Rattle.ledger_model.specs.Ledgers.{Pair, IsPair, front_of, spelled_pair, mark}
use Rattle.recovery_model.proofs.Images.{recovers_nothing, recovers_same, one_list}
use Rattle.lp_model.proofs.Growing.{OnlyGrow-refl}
use Rattle.recovery_model.specs.Recovered.{Recovers}
use Rattle.run_model.specs.Logs.{numbers, Logs, IsParting, generation_name, Shows, IsPast, IsLastEnd}
use Rattle.run_model.specs.Kept.{HasSpan, Knows}
use Rattle.run_model.specs.Meanings.{Meaning, append}
use Rattle.run_model.specs.Right.{GoesOn, IsNext, IsSettled}
use Rattle.run_model.specs.Listed.{Listed, IsThereAt, ListsStem}
use Rattle.run_model.specs.Steps.{Setting, Gain, well, WithEntry}
use Rattle.worlds.specs.Worlds.{Begins}
use Rattle.worlds.specs.Events.{run, rotate, remove, stop, Runs, Stops, IsReached}
use Rattle.worlds.specs.LogEvents.{Rotates, Removes}
use Rattle.worlds.proofs.Example.{plain}
use Rattle.run_model.proofs.Generations.{one_number, one_stem}
use Rattle.worlds.proofs.NumbersExample.{line, input, ledger, stage, empty, asked, differ, no_text, standing_size, is_standing, last_end, not_disk, long_name, name_or_not, nil}

-- two stems, and their generations
abbrev a : List ℕ
a = 97 ∷ []

abbrev b : List ℕ
b = 98 ∷ []

abbrev a1 : List ℕ
a1 = 97 ∷ 46 ∷ 49 ∷ []

abbrev a2 : List ℕ
a2 = 97 ∷ 46 ∷ 50 ∷ []

abbrev b1 : List ℕ
b1 = 98 ∷ 46 ∷ 49 ∷ []

abbrev b2 : List ℕ
b2 = 98 ∷ 46 ∷ 50 ∷ []

abbrev meaning : Meaning
meaning = record {
  are_words = λ words. ⊤;
  is_input = λ asked text. text ≡ input;
  rotation = λ words. numbers;
  format = λ text. text_lines;
  mode = λ words. append;
  most_bad = λ words. None;
  gives = λ asked parts lists given. given ≡ record { splits = []; rows = 0 };
  looks = λ asked entries. ⊤;
  reaches = λ asked folder reached. reached ≡ a ∷ b ∷ [];
  keeps = λ asked old new lists bad. (lists ≡ []) × (bad ≡ 0);
}

abbrev line_span : List ℕ → Span
line_span identity = record { identity = identity; from = 0; to = 2; standing = (standing_layout 2).spell (record { lines = 1; columns = None }) }

abbrev empty_span : Span
empty_span = record { identity = a2; from = 0; to = 0; standing = (standing_layout 0).spell (record { lines = 0; columns = None }) }

abbrev spans : List Span
spans = line_span a1 ∷ empty_span ∷ line_span b1 ∷ []

abbrev entry : Entry
entry = record { form = 1; moment = pos 0; input = input; words = []; query = []; template = []; spans = spans; lists = []; staged = 0; outputs = []; processed = 2; output = 0; bad = 0 }

-- the first log was rotated before
abbrev table : List ℕ → Option (List ℕ)
table name = if bytes_eq name a then Some [] else (if bytes_eq name a1 then Some line else (if bytes_eq name b then Some line else None))

abbrev written : List ℕ → Option (List ℕ)
written name = if bytes_eq name a2 then Some [] else (if bytes_eq name a1 then Some line else (if bytes_eq name b1 then Some line else None))

abbrev rotations : List ℕ → Option ℕ
rotations stem = if bytes_eq stem a then Some 1 else (if bytes_eq stem b then Some 0 else None)

abbrev logs : Logs
logs = record { folder = table; written = written; rotations = rotations }

abbrev setting : Setting
setting = record { rotation = numbers; parting = record { is_log = λ name. not (bytes_eq name ledger || bytes_eq name stage); is_stem = λ name. bytes_eq name a || bytes_eq name b }; ledger = ledger; stage = stage; start = empty }

abbrev pair : Pair
pair = record { done = 90; entry = entry }

abbrev files : Files
files = λ name. if bytes_eq name ledger then front_of (pair ∷ []) ++ (0 ∷ 0 ∷ []) else []

-- what stands in a table of three names
three : (one two other : List ℕ) (x y z : Option (List ℕ)) (name bytes : List ℕ) → (if bytes_eq name one then x else (if bytes_eq name two then y else (if bytes_eq name other then z else None))) ≡ Some bytes
    → ((name ≡ one) × (x ≡ Some bytes)) ⊎ (((name ≡ two) × (y ≡ Some bytes)) ⊎ ((name ≡ other) × (z ≡ Some bytes)))
three one two other x y z name bytes is = ⊎_elim
    (λ p. inl (p.0, rw p.1 at is))
    (λ p. ⊎_elim
    (λ q. inr (inl (q.0, rw (p.1, q.1) at is)))
    (λ q. ⊎_elim
    (λ r. inr (inr (r.0, rw (p.1, q.1, r.1) at is)))
    (λ r. absurd (let e : None ≡ Some bytes = rw (p.1, q.1, r.1) at is in cc))
    (name_or_not name other))
    (name_or_not name two))
    (name_or_not name one)

rotations_are : (stem : List ℕ) (count : ℕ) → rotations stem ≡ Some count → ((stem ≡ a) × (count ≡ 1)) ⊎ ((stem ≡ b) × (count ≡ 0))
rotations_are stem count is = ⊎_elim
    (λ p. inl (p.0, (let e : Some 1 ≡ Some count = rw p.1 at is in cc)))
    (λ p. ⊎_elim
    (λ q. inr (q.0, (let e : Some 0 ≡ Some count = rw (p.1, q.1) at is in cc)))
    (λ q. absurd (let e : None ≡ Some count = rw (p.1, q.1) at is in cc))
    (name_or_not stem b))
    (name_or_not stem a)

ascii_three : (x y z : ℕ) → x < 128 → y < 128 → z < 128 → (i : ℕ) → slice_index (x ∷ y ∷ z ∷ []) i < 128
ascii_three x y z f g h zero = f
ascii_three x y z f g h (suc zero) = g
ascii_three x y z f g h (suc (suc zero)) = h
ascii_three x y z f g h (suc (suc (suc i))) = omega arith

a1_is_name : IsName a1
a1_is_name = record { utf8 = IsUtf8-from_ascii a1 (ascii_three 97 46 49 (omega arith) (omega arith) (omega arith)); some = omega arith; most = omega arith; parts = refl }

a2_is_name : IsName a2
a2_is_name = record { utf8 = IsUtf8-from_ascii a2 (ascii_three 97 46 50 (omega arith) (omega arith) (omega arith)); some = omega arith; most = omega arith; parts = refl }

b1_is_name : IsName b1
b1_is_name = record { utf8 = IsUtf8-from_ascii b1 (ascii_three 98 46 49 (omega arith) (omega arith) (omega arith)); some = omega arith; most = omega arith; parts = refl }

empty_size : length ((standing_layout 0).spell (record { lines = 0; columns = None })) ≡ 9
unfolding u64_bytes
empty_size = refl

payload_size : length (payload_of entry) ≡ 237
unfolding payload_of u64_bytes u32_bytes i64_bytes
payload_size = refl

empty_standing : IsStanding 0 ((standing_layout 0).spell (record { lines = 0; columns = None }))
empty_standing = record { standing = record { lines = 0; columns = None }; fits = ((omega arith, omega arith), tt); spells = refl }

is_entry : IsEntry entry
is_entry = let nine = standing_size in let none = empty_size in record {
  fits = (
    (refl, ((omega (arith, ints), omega (arith, ints)), (omega arith, record { input = record { format = textline; header_row = true; separator = tab; numbers = true }; separator = tt; is = refl }))),
    (
      ((omega arith, tt), ((omega arith, no_text), (omega arith, tt))),
      (
        (
          (
            omega arith,
            (
              ((omega arith, a1_is_name), (omega arith, ((omega arith, omega arith), (omega arith, is_standing)))),
              (
                ((omega arith, a2_is_name), (omega arith, ((omega arith, omega arith), (omega arith, empty_standing)))),
                (((omega arith, b1_is_name), (omega arith, ((omega arith, omega arith), (omega arith, is_standing)))), tt),
              ),
            ),
          ),
          (omega arith, tt),
        ),
        (omega arith, ((omega arith, tt), (omega arith, (omega arith, omega arith)))),
      ),
    ),
  );
}

is_pair : IsPair pair
is_pair = let size = payload_size in record { entry = is_entry; size = omega arith }

no_end : IsLastEnd [] 0
no_end = record { ends = inl refl; last = λ other is. ⊎_elim (λ none. omega arith) (λ some. some.1) is }

goes_on : (identity : List ℕ) → written identity ≡ Some line → GoesOn text_lines written [] (line_span identity)
goes_on identity is = record { bytes = line; is = is; from_is = refl; forward = omega arith; ends = last_end.ends; standing_is = refl }

rests : GoesOn text_lines written [] empty_span
rests = record { bytes = []; is = refl; from_is = refl; forward = omega arith; ends = inl refl; standing_is = refl }

before_is : Recovers ledger stage [] empty empty
before_is = recovers_nothing ledger stage empty empty refl (λ name other. refl)

off_ledger_empty : (name : List ℕ) → name ≢ ledger → files name ≡ []
off_ledger_empty name off = ⊎_elim (λ p. absurd (off p.0)) (λ p. rw p.1 refl) (name_or_not name ledger)

ledger_size : 18 < length (files ledger)
ledger_size =
    let x = length-append mark (spelled_pair pair ++ []) in
    let y = length-append (front_of (pair ∷ [])) (0 ∷ 0 ∷ []) in
    omega arith

after_is : Recovers ledger stage (entry ∷ []) empty files
after_is = record {
  pairs = pair ∷ [];
  is_ledger = inr (record { long = ledger_size; fit = (is_pair, tt); rest = 0 ∷ 0 ∷ []; split = refl; closed = (λ e. absurd (omega arith), omega arith) });
  entries_are = refl;
  apart = λ k output is. absurd (cc);
  files_are = λ name other. record { listed = λ k output is. absurd (cc); unlisted = λ none. sym (off_ledger_empty name other.0) };
}

a_is_first : generation_name a 1 ≡ a1
unfolding generation_name
a_is_first = refl

a_is_second : generation_name a 2 ≡ a2
unfolding generation_name
a_is_second = refl

b_is_first : generation_name b 1 ≡ b1
unfolding generation_name
b_is_first = refl

b_is_second : generation_name b 2 ≡ b2
unfolding generation_name
b_is_second = refl

stems_apart : b ≡ a → ⊥
stems_apart e = omega (arith, ap (λ l. get_or l 0 0) e)

second_apart : a2 ≡ a1 → ⊥
second_apart e = let one : 2 ≡ 1 = one_number a 2 1 (a_is_second ∙ (e ∙ sym a_is_first)) in omega (arith, one)

b_apart : (number : ℕ) (name : List ℕ) → generation_name a number ≡ name → b1 ≡ name → ⊥
b_apart number name is e = stems_apart (one_stem b a 1 number (b_is_first ∙ (e ∙ sym is)))

identity_of : (span other : Span) (identity : List ℕ) → span ≡ other → span.identity ≡ identity → other.identity ≡ identity
identity_of span other identity e same = sym (ap (λ (s : Span). s.identity) e) ∙ same

apart_first : HasSpan a1 (empty_span ∷ line_span b1 ∷ []) → ⊥
apart_first has = ⊎_elim
    (λ e. second_apart (identity_of has.span empty_span a1 e has.same))
    (λ more. ⊎_elim (λ e. b_apart 1 a1 a_is_first (identity_of has.span (line_span b1) a1 e has.same)) (λ none. none) more)
    has.among

apart_second : HasSpan a2 (line_span b1 ∷ []) → ⊥
apart_second has = ⊎_elim (λ e. b_apart 2 a2 a_is_second (identity_of has.span (line_span b1) a2 e has.same)) (λ none. none) has.among

next : IsNext meaning written [] empty entry empty
next = record {
  given = record { splits = []; rows = 0 };
  right = record {
    reads = record { words = tt; input_is = refl; same_input = tt; apart = (apart_first, (apart_second, ((λ has. has.among), tt))); go_on = (goes_on a1 refl, (rests, (goes_on b1 refl, tt))) };
    writes = record { gives = refl; outputs = tt; output_is = refl };
    counts = record { processed_is = refl; bad_least = omega arith; bad_most = tt };
  };
  files_are = λ name. record { listed = λ k output split is. absurd (cc); unlisted = λ none. refl };
}

stem_size : (stem : List ℕ) → bytes_eq stem a || bytes_eq stem b ≡ true → length stem ≡ 1
stem_size stem is = ⊎_elim
    (λ p. ap length p.0)
    (λ p. ⊎_elim (λ q. ap length q.0) (λ q. absurd (false≢true (rw (p.1, q.1) at is))) (name_or_not stem b))
    (name_or_not stem a)

short_is_log : (stem : List ℕ) → bytes_eq stem a || bytes_eq stem b ≡ true → not (bytes_eq stem ledger || bytes_eq stem stage) ≡ true
short_is_log stem is = ⊎_elim
    (λ p. subst (λ (n : List ℕ). not (bytes_eq n ledger || bytes_eq n stage) ≡ true) (sym p.0) refl)
    (λ p. ⊎_elim
    (λ q. subst (λ (n : List ℕ). not (bytes_eq n ledger || bytes_eq n stage) ≡ true) (sym q.0) refl)
    (λ q. absurd (false≢true (rw (p.1, q.1) at is)))
    (name_or_not stem b))
    (name_or_not stem a)

parts : IsParting setting.parting
parts = record {
  stem_is_log = short_is_log;
  generation_is_log = λ stem number is some small. not_disk (generation_name stem number) (let one = stem_size stem is in long_name stem number (omega arith));
  no_stem = λ stem other number is are e. let one = stem_size stem is in let two = stem_size other are in let long = long_name other number (omega arith) in absurd (omega (arith, ap length e));
}

past_first : IsPast logs a 1
past_first = record { count = 1; rotated = refl; some = omega arith; past = omega arith }

is_stem : (stem : List ℕ) (name : List ℕ) → stem ≡ name → bytes_eq name a || bytes_eq name b ≡ true → bytes_eq stem a || bytes_eq stem b ≡ true
is_stem stem name e is = subst (λ (n : List ℕ). bytes_eq n a || bytes_eq n b ≡ true) (sym e) is

shows : Shows numbers setting.parting logs
shows = record {
  files = record {
    shown = λ name bytes is_log there. ⊎_elim
        (λ p. (a2, inl (1, ap rotations p.0, sym (ap (λ s. generation_name s 2) p.0 ∙ a_is_second)), p.1))
        (λ more. ⊎_elim
        (λ p. (a1, inr (record { stem = a; number = 1; is_past = past_first; name_is = p.0 ∙ sym a_is_first; identity_is = sym p.0 }), p.1))
        (λ p. (b1, inl (0, ap rotations p.0, sym (ap (λ s. generation_name s 1) p.0 ∙ b_is_first)), p.1))
        more)
        (three a a1 b (Some []) (Some line) (Some line) name bytes there);
  };
  stems = λ stem count is. ⊎_elim
      (λ p. (is_stem stem a p.0 refl, subst (λ (n : ℕ). n < 2 ^ 63) (sym p.1) (omega arith), ([], ap table p.0)))
      (λ p. (is_stem stem b p.0 refl, subst (λ (n : ℕ). n < 2 ^ 63) (sym p.1) (omega arith), (line, ap table p.0)))
      (rotations_are stem count is);
}

gain : Gain numbers setting.parting logs logs
gain = record {
  files = OnlyGrow-refl (Some table);
  grown = λ identity bytes is. ([], is ∙ ap Some (sym (nil bytes)));
  none_new = λ identity none. none;
  gone_stays = λ name identity file gone. refl;
  rotated_stays = λ name identity rotated. (refl, refl);
  no_rotation = refl;
  shows = shows;
}

some_bytes : (file : Option (List ℕ)) → IsSome file → (bytes : List ℕ) × (file ≡ Some bytes)
some_bytes None is = absurd (false≢true is)
some_bytes (Some bytes) is = (bytes, refl)

only_first : (number : ℕ) → IsThereAt table a number → number ≤ 1
only_first number there =
    let held = some_bytes (table (generation_name a number)) there.2 in
    let long = long_name a number (omega arith) in
    ⊎_elim
    (λ p. absurd (omega (arith, ap length p.0, long)))
    (λ more. ⊎_elim
    (λ p. let one : number ≡ 1 = one_number a number 1 (p.0 ∙ sym a_is_first) in omega (arith, one))
    (λ p. absurd (omega (arith, ap length p.0, long)))
    more)
    (three a a1 b (Some []) (Some line) (Some line) (generation_name a number) held.0 held.1)

none_of_b : (number : ℕ) → IsThereAt table b number → ⊥
none_of_b number there =
    let held = some_bytes (table (generation_name b number)) there.2 in
    let long = long_name b number (omega arith) in
    ⊎_elim
    (λ p. omega (arith, ap length p.0, long))
    (λ more. ⊎_elim
    (λ p. stems_apart (one_stem b a number 1 (p.0 ∙ sym a_is_first)))
    (λ p. omega (arith, ap length p.0, long))
    more)
    (three a a1 b (Some []) (Some line) (Some line) (generation_name b number) held.0 held.1)

first_there : IsThereAt table a 1
first_there = (omega arith, omega arith, subst (λ (n : List ℕ). IsSome (table n)) (sym a_is_first) refl)

no_entries : (stem : List ℕ) (number : ℕ) → Knows [] stem number → ⊥
no_entries stem number knows = knows.among

lists_a : ListsStem table [] a (record { name = a1; identity = a1 } ∷ record { name = a; identity = a2 } ∷ [])
lists_a = record {
  first = 1;
  is_first = inr (no_entries a, record { some = omega arith; there = inr first_there; oldest = λ other there. there.0 });
  newest = 1;
  is_newest = record { there = λ some. first_there; newest = only_first };
  there = λ number low high. let one : number ≡ 1 = omega arith in subst (IsThereAt table a) (sym one) first_there;
  some = inl (omega arith);
  listed_are = λ i. record { name = sym a_is_first i; identity = sym a_is_first i } ∷ record { name = a; identity = sym a_is_second i } ∷ [];
}

lists_b : ListsStem table [] b (record { name = b; identity = b1 } ∷ [])
lists_b = record {
  first = 1;
  is_first = inr (no_entries b, record { some = omega arith; there = inl (none_of_b, refl); oldest = λ other there. absurd (none_of_b other there) });
  newest = 0;
  is_newest = record { there = λ some. absurd (omega arith); newest = λ other there. absurd (none_of_b other there) };
  there = λ number low high. absurd (omega arith);
  some = inr refl;
  listed_are = λ i. record { name = b; identity = sym b_is_first i } ∷ [];
}

abbrev listed_files : List Listed
listed_files = record { name = a1; identity = a1 } ∷ record { name = a; identity = a2 } ∷ record { name = b; identity = b1 } ∷ []

-- the run takes both lines
with_entry : WithEntry meaning setting asked well [] empty logs logs (plain empty) (plain files)
with_entry = record {
  entry = entry;
  files_after = empty;
  next = next;
  of_asked = record {
    asked_is = refl;
    reached = a ∷ b ∷ [];
    reaches = refl;
    listed = record {
      files = listed_files;
      lists = ((record { name = a1; identity = a1 } ∷ record { name = a; identity = a2 } ∷ []) ∷ (record { name = b; identity = b1 } ∷ []) ∷ [], (lists_a, (lists_b, tt)), refl);
      read = (
        record { identity_is = refl; cut = 2; least = omega arith; most = omega arith; end = 2; is_end = last_end; to_is = refl },
        (
          record { identity_is = refl; cut = 0; least = omega arith; most = omega arith; end = 0; is_end = no_end; to_is = refl },
          (record { identity_is = refl; cut = 2; least = omega arith; most = omega arith; end = 2; is_end = last_end; to_is = refl }, tt),
        ),
      );
    };
    bad = 0;
    keeps = (refl, refl);
    bad_is = refl;
  };
  each_moment = λ image of. inr (recovers_same ledger stage (entry ∷ []) empty files image (λ name. ⊎_elim (λ since. sym (since name)) (λ now. sym (now name)) of) after_is);
  ends = record {
    each = λ image is. recovers_same ledger stage (entry ∷ []) empty files image (λ name. sym (is name)) after_is;
    seen = λ name other. off_ledger_empty name other.0;
  };
}

starts : (entries : List Entry) (of : Files) → [] ≡ entries → IsSettled meaning written empty entries of → WithEntry meaning setting asked well entries of logs logs (plain empty) (plain files)
starts [] of none settled = let same : of ≡ empty = λ i. λ name. settled name i in subst (λ (fs : Files). WithEntry meaning setting asked well [] fs logs logs (plain empty) (plain files)) (sym same) with_entry
starts (e ∷ entries) of none settled = absurd (cc)

runs : Runs meaning setting asked well logs logs (plain empty) (plain files)
runs = record {
  names_are = record {
    rotation_is = λ entries of recovers looks. refl;
    are_logs = λ reached is. rw is (refl, (refl, tt));
    are_stems = λ by reached is. rw is (refl, (refl, tt));
    ledger_is_none = refl;
    stage_is_none = refl;
    apart = λ e. differ e;
  };
  gain = gain;
  step = λ may. record {
    honest = tt;
    does = λ entries of recovers settled.
        let none = one_list ledger stage [] entries empty of empty before_is recovers in
        inr (starts entries of none settled);
  };
}

begins : Begins setting logs (plain empty)
begins = record {
  parts = parts;
  honest = tt;
  no_ledger = refl;
  synced = λ name bytes is. is;
  start_is = λ name. refl;
  shows = shows;
  there = λ identity bytes is. ⊎_elim
      (λ p. record { name = a; is_log = refl; is_file = inl (1, refl, p.0 ∙ sym a_is_second); holds = p.1 })
      (λ more. ⊎_elim
      (λ p. record { name = a1; is_log = refl; is_file = inr (record { stem = a; number = 1; is_past = past_first; name_is = sym a_is_first; identity_is = p.0 }); holds = p.1 })
      (λ p. record { name = b; is_log = refl; is_file = inl (0, refl, p.0 ∙ sym b_is_first); holds = p.1 })
      more)
      (three a2 a1 b1 (Some []) (Some line) (Some line) identity bytes is);
  newest = λ stem count is some. ⊎_elim
      (λ p. subst (λ (n : List ℕ). IsSome (table n)) (sym ((λ i. generation_name (p.0 i) (p.1 i)) ∙ a_is_first)) refl)
      (λ p. absurd (let none = p.1 in omega arith))
      (rotations_are stem count is);
}

-- the second log is rotated
abbrev folder_rotated : List ℕ → Option (List ℕ)
folder_rotated name = if bytes_eq name b then Some [] else (if bytes_eq name b1 then Some line else table name)

abbrev written_rotated : List ℕ → Option (List ℕ)
written_rotated name = if bytes_eq name b2 then Some [] else written name

abbrev rotations_rotated : List ℕ → Option ℕ
rotations_rotated stem = if bytes_eq stem b then Some 1 else rotations stem

abbrev logs_rotated : Logs
logs_rotated = record { folder = folder_rotated; written = written_rotated; rotations = rotations_rotated }

rotates : Rotates numbers b logs logs_rotated
rotates = record {
  by_numbers = refl;
  count = 0;
  was = refl;
  fits = omega arith;
  bytes = line;
  there = refl;
  moved = ap folder_rotated b_is_first;
  begun = refl;
  files_stay = λ other off_b off_first. ⊎_elim
      (λ p. absurd (off_b p.0))
      (λ p. ⊎_elim (λ q. absurd (off_first (q.0 ∙ sym b_is_first))) (λ q. rw (p.1, q.1) refl) (name_or_not other b1))
      (name_or_not other b);
  rotations = record { here = refl; elsewhere = λ other off. ⊎_elim (λ p. absurd (off p.0)) (λ p. rw p.1 refl) (name_or_not other b) };
  written = record { here = ap written_rotated b_is_second; elsewhere = λ other off. ⊎_elim (λ p. absurd (off (p.0 ∙ sym b_is_second))) (λ p. rw p.1 refl) (name_or_not other b2) };
}

-- the first generation of the first log goes: the entry knows the second
abbrev folder_less : List ℕ → Option (List ℕ)
folder_less name = if bytes_eq name a1 then None else folder_rotated name

abbrev logs_less : Logs
logs_less = record { folder = folder_less; written = written_rotated; rotations = rotations_rotated }

knows_second : Knows (entry ∷ []) a 2
knows_second = record { span = empty_span; among = inr (inl refl); same = sym a_is_second }

removes : Removes setting a1 logs_rotated logs_less (plain files)
removes = record {
  is_log = refl;
  bytes = line;
  there = refl;
  folder = record { here = refl; elsewhere = λ other off. ⊎_elim (λ p. absurd (off p.0)) (λ p. rw p.1 refl) (name_or_not other a1) };
  rotations = refl;
  may_go = inl (record {
    stem = a;
    number = 1;
    past = record { count = 1; rotated = refl; some = omega arith; past = omega arith };
    name_is = sym a_is_first;
    passed = λ image entries of is recovers.
        let same = one_list ledger stage (entry ∷ []) entries empty of image (recovers_same ledger stage (entry ∷ []) empty files image (λ name. sym (is name)) after_is) recovers in
        (2, omega arith, subst (λ (es : List Entry). Knows es a 2) same knows_second);
    written = refl;
  });
}

stops : Stops (plain files) (plain files)
stops = record { image = files; is_image = λ name. refl; stopped = record { honest = tt; seen = λ name. refl; only = λ name bytes is. is } }

-- so such a world is reached
pub example : IsReached plain meaning setting (run asked well ∷ rotate b ∷ remove a1 ∷ stop ∷ []) (record { logs = logs_less; disk = files })
example = record {
  first = record { logs = logs; disk = empty };
  begins = begins;
  leads = (
    record { logs = logs; disk = files },
    runs,
    (record { logs = logs_rotated; disk = files }, (rotates, refl), (record { logs = logs_less; disk = files }, (removes, refl), (record { logs = logs_less; disk = files }, (stops, refl), refl))),
  );
}
