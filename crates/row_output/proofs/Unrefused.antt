-- Where the output of a name without stars is opened, it isn't refused; nor is any of rows that go on as they come, once they were put.
use Rattle.std.proofs.Common.{◌≡◌, ◌⊎◌, inl, inr, ◌≤◌, ◌<◌, ◌+◌, ℕ, Bool, true, false, List, [], ◌∷◌, ◌++◌, length, map, All, Option, Some, None, Result, Ok, Err, OnOk, refl, sym, ◌∙◌, ap, subst, arith, append_assoc, length-append, true≢false}
use Rattle.std.proofs.Math.Seq.{take-nil}
use Rattle.std.proofs.lemmas.List.{append-nil, map-append}
use Rattle.std.proofs.lemmas.List.Elements.{All-head, All-tail}
use Rattle.lp_outside.specs.NameFault.{name_fault}
use Rattle.log_listing.specs.Firsts.{firsts, is_among, with_name, with_names}
use Rattle.log_listing.proofs.FirstNames.{firsts-append}
use Rattle.multiplex.specs.Naming.{stars}
use Rattle.multiplex.specs.Splitting.{output_names, row_name}
use Rattle.order_top.specs.Finish.{Row, Finish, finished, precedes}
use Rattle.order_top.specs.Lists.{first_items, ordered}
use Rattle.text_output.specs.Output.{StageKind}
use Rattle.row_output.specs.Asked.{Asked, AreGood, Files, IsFirstRefused, IsRefusedAs}
use Rattle.row_output.specs.Kept.{HasKept, HasPut, HasRows, asked_of}
use Rattle.row_output.specs.Orders.{IsPlain}
use Rattle.row_output.specs.Rows.{IsRefused, IsRefusedAt}
use Rattle.row_output.specs.Sinks.{HasSinkRows, IsOpened, files_in}
use Rattle.row_output.specs.declared.fault.OutputFault.{OutputFault}
use Rattle.row_output.specs.declared.fault.Refused.{Refused}
use Rattle.row_output.specs.declared.fault.Refused.TheVariants as R
use Rattle.row_output.specs.declared.files.FileOutputs.{FileOutputs}
use Rattle.row_output.specs.declared.kept.Kept.{Kept}
use Rattle.row_output.specs.declared.kept.Kept.TheVariants as K
use Rattle.row_output.specs.declared.kept.RowOutput.{RowOutput}
use Rattle.row_output.specs.declared.sink.Sink.{Sink}
use Rattle.row_output.specs.declared.sink.Sink.TheVariants as S
use Rattle.row_output.proofs.Naming.{names_starred, starred_are, with_known, with_new}
use Rattle.row_output.proofs.Plain.{all_left}

-- what holds of each item holds of one of them
all_at : {A : Type 0} (P : A → Type 0) (front behind : List A) (item : A) → All P (front ++ (item ∷ behind)) → P item
all_at P [] behind item all = All-head P item behind all
all_at P (first ∷ front) behind item all = all_at P front behind item (All-tail P first (front ++ (item ∷ behind)) all)

-- of names that may be outputs none is refused
good_unrefused : (forbidden front behind : List (List ℕ)) (name : List ℕ) (why : Refused) → AreGood forbidden (front ++ (name ∷ behind)) → IsRefusedAs forbidden front name why → ⊥
good_unrefused forbidden front behind name R.TooManyOutputs good many =
    let long = length-append front (name ∷ behind) in
    let few = good.few in
    omega (arith, many, long, few)
good_unrefused forbidden front behind name (R.BadName fault) good (few, bad) =
    let fine : name_fault name ≡ None = all_at (λ n. name_fault n ≡ None) front behind name good.good in
    let same : Some fault ≡ None = sym bad ∙ fine in
    cc
good_unrefused forbidden front behind name (R.NameClash clash) good (few, fine, among, same) = true≢false (sym among ∙ all_at (λ n. is_among forbidden n ≡ false) front behind name good.free)

-- of no rows none are left
pub none_left : (distinct : Bool) (top : Option ℕ) (finish : Finish) → finish.distinct ≡ distinct → finish.top ≡ top → finished finish [] ≡ []
none_left true None finish distinct top = rw distinct (rw top refl)
none_left true (Some n) finish distinct top = rw distinct (rw top (take-nil n))
none_left false None finish distinct top = rw distinct (rw top refl)
none_left false (Some n) finish distinct top = rw distinct (rw top (take-nil n))

no_parts : {A : Type 0} (before more : List A) (row : A) → [] ≡ before ++ (row ∷ more) → ⊥
no_parts [] more row same = cc
no_parts (x ∷ before) more row same = cc

sink_unrefused : {S : Type 0} (kind : StageKind S) (s : Sink) (start : S) (rows : List Row) (now : S) (why : Refused) → HasSinkRows kind s start rows now → IsOpened s → IsRefusedAt (files_in s) [] why → ⊥
sink_unrefused kind (S.Standard s) start rows now why has opened refused = refused
sink_unrefused kind (S.Files f) start rows now why has opened (inl plain) =
    good_unrefused f.outputs.forbidden [] [] f.outputs.pattern why (subst (λ (names : List (List ℕ)). AreGood f.outputs.forbidden names) (opened plain.0) has.outputs.good) plain.1
sink_unrefused kind (S.Files f) start rows now why has opened (inr starred) = no_parts starred.1.before starred.1.more starred.1.row starred.1.parts

kept_unrefused : {S : Type 0} (kind : StageKind S) (kept : Kept) (order : Finish) (s : Sink) (start : S) (rows : List Row) (now : S) (why : Refused) → HasKept kind kept order s start rows now → IsOpened s → IsRefusedAt (files_in s) [] why → ⊥
kept_unrefused kind K.All order s start rows now why (plain, has) opened refused = sink_unrefused kind s start rows now why has opened refused
kept_unrefused kind (K.Ordered ordering) order s start rows now why (asks, same, stands, has) opened refused = sink_unrefused kind s start [] now why has opened refused

pub opened_unrefused : {S : Type 0} (kind : StageKind S) (o : RowOutput) (start : S) (rows : List Row) (now : S) (why : Refused) → HasRows kind o start rows now → IsOpened o.sink → IsRefused (asked_of o) [] why → ⊥
unfolding HasRows IsRefused
opened_unrefused kind o start rows now why has opened refused =
    kept_unrefused kind o.kept o.order o.sink start rows now why has.has opened (subst (λ (l : List Row). IsRefusedAt (files_in o.sink) l why) (none_left o.order.distinct o.order.top o.order refl refl) refused)

-- so it is where it was opened just now
pub open_named : {S : Type 0} {A : Type 0} (kind : StageKind S) (o p : RowOutput) (a b : S) (r : Result A OutputFault) → asked_of p ≡ asked_of o → OnOk r ((start : S) (rows : List Row) → HasRows kind o start rows a → HasRows kind p start rows b)
    → OnOk r ((start : S) (rows : List Row) → HasRows kind o start rows a → IsOpened p.sink) → OnOk r ((start : S) (rows : List Row) → HasRows kind o start rows a → (why : Refused) → IsRefused (asked_of o) [] why → ⊥)
open_named kind o p a b (Ok x) same has opened = λ start rows had why refused.
    opened_unrefused kind p start rows b why (has start rows had) (opened start rows had) (subst (λ (asked : Asked). IsRefused asked [] why) (sym same) refused)
open_named kind o p a b (Err fault) same has opened = tt

-- behind names stand those of more
with_behind : (names more : List (List ℕ)) → (behind : List (List ℕ)) × (with_names names more ≡ names ++ behind)
with_behind names [] = ([], sym (append-nil names))
with_behind names (name ∷ more) = by (λ front. with_behind front more) (is_among names name) refl
  where
    by : ((front : List (List ℕ)) → (behind : List (List ℕ)) × (with_names front more ≡ front ++ behind)) → (b : Bool) → is_among names name ≡ b → (behind : List (List ℕ)) × (with_names (with_name names name) more ≡ names ++ behind)
    by later true e = let rest = later names in (rest.0, ap (λ (l : List (List ℕ)). with_names l more) (with_known names name e) ∙ rest.1)
    by later false e =
        let rest = later (names ++ name ∷ []) in
        (name ∷ rest.0, ap (λ (l : List (List ℕ)). with_names l more) (with_new names name e) ∙ (rest.1 ∙ append_assoc names (name ∷ []) rest.0))

-- a name that is new stands behind those of the rows before its own
names_behind : (pattern : List ℕ) (before more : List Row) (row : Row) → 0 < stars pattern → is_among (output_names pattern before) (row_name pattern row) ≡ false
    → (behind : List (List ℕ)) × (output_names pattern (before ++ (row ∷ more)) ≡ output_names pattern before ++ (row_name pattern row ∷ behind))
names_behind pattern before more row some new =
    let name = row_name pattern row in
    let own : output_names pattern before ≡ firsts (map (row_name pattern) before) = names_starred pattern before some in
    let first : is_among (firsts (map (row_name pattern) before)) name ≡ false = ap (λ (l : List (List ℕ)). is_among l name) (sym own) ∙ new in
    let rest = with_behind (firsts (map (row_name pattern) before) ++ name ∷ []) (map (row_name pattern) more) in (
      rest.0,
      names_starred pattern (before ++ (row ∷ more)) some
          ∙ (ap firsts (map-append (row_name pattern) before (row ∷ more))
          ∙ (firsts-append (map (row_name pattern) before) (name ∷ map (row_name pattern) more)
          ∙ (ap (λ (l : List (List ℕ)). with_names l (map (row_name pattern) more)) (with_new (firsts (map (row_name pattern) before)) name first)
          ∙ (rest.1
          ∙ (append_assoc (firsts (map (row_name pattern) before)) (name ∷ []) rest.0 ∙ ap (λ (l : List (List ℕ)). l ++ (name ∷ rest.0)) (sym own)))))),
    )

-- where rows have outputs, none of them is the first that is refused
files_unrefused : (files : Files) (rows : List Row) (why : Refused) → 0 < stars files.pattern → AreGood files.forbidden (output_names files.pattern rows) → IsFirstRefused files rows why → ⊥
files_unrefused files rows why some good first =
    let name = row_name files.pattern first.row in
    let before = output_names files.pattern first.before in
    let parts = names_behind files.pattern first.before first.more first.row some first.new in
    let all : output_names files.pattern rows ≡ before ++ (name ∷ parts.0) = ap (output_names files.pattern) first.parts ∙ parts.1 in
    good_unrefused files.forbidden before parts.0 name why (subst (AreGood files.forbidden) all good) first.refused

put_unrefused : {S : Type 0} (kind : StageKind S) (s : Sink) (start : S) (rows none : List Row) (now : S) (why : Refused) → HasSinkRows kind s start rows now → (IsRefusedAt (files_in s) none why → ⊥) → IsRefusedAt (files_in s) rows why → ⊥
put_unrefused kind (S.Standard s) start rows none now why has named refused = refused
put_unrefused kind (S.Files f) start rows none now why has named (inl plain) = named (inl plain)
put_unrefused kind (S.Files f) start rows none now why has named (inr starred) =
    files_unrefused (record { pattern = f.outputs.pattern; forbidden = f.outputs.forbidden; mode = f.mode }) rows why starred.0
    (subst (AreGood f.outputs.forbidden) (starred_are f.outputs rows starred.0 has.names) has.outputs.good) starred.1

plain_unrefused : {S : Type 0} (kind : StageKind S) (kept : Kept) (order : Finish) (s : Sink) (start : S) (rows none : List Row) (now : S) (why : Refused) → HasKept kind kept order s start rows now → IsPlain order → (IsRefusedAt (files_in s) none why → ⊥)
    → IsRefusedAt (files_in s) (finished order rows) why → ⊥
plain_unrefused kind K.All order s start rows none now why (plain, has) is named refused =
    put_unrefused kind s start rows none now why has named (subst (λ (l : List Row). IsRefusedAt (files_in s) l why) (all_left order plain rows) refused)
plain_unrefused kind (K.Ordered ordering) order s start rows none now why (asks, same, stands, has) is named refused = absurd (asks is)

-- no output of rows that were put and went on as they came is refused, where that of a name without stars isn't
pub rows_unrefused : {S : Type 0} (kind : StageKind S) (o : RowOutput) (start : S) (rows : List Row) (now : S) → HasRows kind o start rows now → IsPlain o.order → ((why : Refused) → IsRefused (asked_of o) [] why → ⊥) → (why : Refused) → IsRefused (asked_of o) rows why → ⊥
unfolding HasRows IsRefused
rows_unrefused kind o start rows now has plain named why refused = plain_unrefused kind o.kept o.order o.sink start rows (finished o.order []) now why has.has plain (named why) refused

first_at : (files : Option Files) (rows : List Row) (why : Refused) → IsRefusedAt files [] why → IsRefusedAt files rows why
first_at None rows why refused = refused
first_at (Some files) rows why (inl plain) = inl plain
first_at (Some files) rows why (inr starred) = absurd (no_parts starred.1.before starred.1.more starred.1.row starred.1.parts)

-- what is refused before any row is refused of any rows
pub refused_first : (asked : Asked) (why : Refused) → IsRefused asked [] why → (rows : List Row) → IsRefused asked rows why
unfolding IsRefused
refused_first asked why refused rows =
    first_at asked.files (finished asked.order rows) why (subst (λ (l : List Row). IsRefusedAt asked.files l why) (none_left asked.order.distinct asked.order.top asked.order refl refl) refused)
