-- What a call gives is NULL or of the kind that the table tells.
use Rattle.std.proofs.Common.{◌≡◌, ◌&&◌, ℕ, zero, suc, ℤ, pos, ◌+ℤ◌, ◌-ℤ◌, ◌*ℤ◌, int_div, nat_le, Bool, true, false, cond, List, [], ◌∷◌, ◌++◌, map, length, replicate, Option, Some, None, Result, Ok, Err, refl, subst}
use Rattle.std.proofs.lemmas.Bool.{and_parts, and_from}
use Rattle.std.specs.List.{list_all}
use Rattle.lp_values.specs.declared.kind.Kind.{Kind}
use Rattle.lp_values.specs.declared.kind.Kind.TheVariants as K
use Rattle.lp_values.specs.declared.part.Part.{Part}
use Rattle.lp_values.specs.declared.value.Value.{Value}
use Rattle.lp_values.specs.declared.value.Value.TheVariants as V
use Rattle.lp_values.specs.Arithmetic.{difference_of, is_in_64_bits, kept, multiple, numbers_of, on_numbers, product_of, quotient, quotient_of, real_of, remainder, remainder_of, sum_of}
use Rattle.lp_values.specs.Kinds.{kind_of}
use Rattle.lp_values.specs.Readings.{integer_in, real_in}
use Rattle.lp_values.specs.declared.real.Real as R
use Rattle.lp_values.specs.declared.stamp.Stamp as S
use Rattle.lp_time.specs.declared.piece.Piece.{Piece}
use Rattle.lp_time.specs.Readings.{pattern_part, seconds_in}
use Rattle.std.specs.Char.{to_ascii_lowercase, to_ascii_uppercase}
use Rattle.std.specs.Str.Lossy.{utf8_lossy}
use Rattle.percent_encoding.specs.Percent.{percent_decode}
use Rattle.lp_values.specs.declared.part.Part.TheVariants.{Date, Time, Both}
use Rattle.lp_values.specs.Civil.{civil_of}
use Rattle.lp_values.specs.Moments.{second_of_day}
use Rattle.lp_values.specs.Printed.{printed}
use Rattle.lp_time.specs.Days.{day_start, quantized}
use Rattle.lp_time.specs.Days.{joined as joined_at}
use Rattle.lp_time.specs.Patterns.{pattern_in}
use Rattle.lp_time.specs.Writings.{written}
use Rattle.slot_reading.specs.Slots.{or_null}
use Rattle.slot_reading.specs.Existing.{is_stamp}
use Rattle.slot_reading.specs.Stamps.{stamp_if, stamp_value}
use Rattle.text_functions.specs.Edges.{left_trimmed, right_trimmed, file_name, path_of, extension}
use Rattle.text_functions.specs.Positions.{index_of, last_index_of, substring, substring_from}
use Rattle.text_functions.specs.Replacing.{replaced, replaced_characters, within}
use Rattle.text_functions.specs.Tokens.{token, value, prefix, suffix}
use Rattle.lp_functions.specs.declared.function.Function.{Function}
use Rattle.lp_functions.specs.declared.function.Function.TheVariants as f
use Rattle.lp_functions.specs.declared.place.Place.{Place}
use Rattle.lp_functions.specs.declared.place.Place.TheVariants as P
use Rattle.lp_functions.specs.Addresses.{address_in, address_text}
use Rattle.lp_functions.specs.Applied.{applied, applied_to_one, applied_to_two, applied_to_three, applied_to_more}
use Rattle.lp_functions.specs.Choices.{is_of, first_value, chosen, coalesced, replaced_if_not_null}
use Rattle.lp_functions.specs.Counting.{number_value}
use Rattle.lp_functions.specs.Fitting.{takes, fits, same_kind}
use Rattle.lp_functions.specs.Table.{always, given, given_by, joined, kind_of_call, numbers, one_kind, rows_of}
use Rattle.lp_functions.specs.Moments.{read_by}
use Rattle.lp_functions.specs.Numbers.{integer_or_real, quantized_value}
use Rattle.lp_functions.specs.Texts.{text_value, written_by}
use Rattle.lp_functions.specs.Urls.{escaped}
use Rattle.lp_functions.specs.Told.{agrees, are_of}

null_told : (kind : Kind) → agrees kind V.Null ≡ true
null_told K.Integer = refl
null_told K.Real = refl
null_told K.Text = refl
null_told K.Stamp = refl
null_told K.Any = refl

own_told : (kind : Kind) (value : Value) → is_of kind value ≡ true → agrees kind value ≡ true
own_told K.Any value e = refl
own_told K.Integer value e = e
own_told K.Real value e = e
own_told K.Text value e = e
own_told K.Stamp value e = e

-- what rows give, a property at a time

always_gives : (Q : Kind → Type 0) (kind : Kind) → Q kind → (places : List Place) (kinds : List Kind) (k : Kind) → given (always places kind) kinds ≡ Some k → Q k
always_gives Q kind q places kinds k e = tested (fits places kinds) e
  where
    tested : (b : Bool) → cond b (Some kind) None ≡ Some k → Q k
    tested true e = let same : kind ≡ k = cc in subst Q same q
    tested false e = absurd cc

joined_gives : (Q : Kind → Type 0) → Q K.Any → (a b : Option Kind) → ((k : Kind) → a ≡ Some k → Q k) → ((k : Kind) → b ≡ Some k → Q k) → (k : Kind) → joined a b ≡ Some k → Q k
joined_gives Q any None None left right k e = absurd cc
joined_gives Q any (Some a) None left right k e = left k e
joined_gives Q any None (Some b) left right k e = right k e
joined_gives Q any (Some a) (Some b) left right k e = tested (same_kind a b) e
  where
    tested : (t : Bool) → Some (cond t a K.Any) ≡ Some k → Q k
    tested true e = left k e
    tested false e = let same : K.Any ≡ k = cc in subst Q same any

-- rows that give one kind
rows_give : (Q : Kind → Type 0) → Q K.Any → (kind : Kind) → Q kind → (all : List (List Place)) (kinds : List Kind) (k : Kind) → given_by (map (λ places. always places kind) all) kinds ≡ Some k → Q k
rows_give Q any kind q [] kinds k e = absurd cc
rows_give Q any kind q (places ∷ all) kinds k e =
    joined_gives Q any (given (always places kind) kinds) (given_by (map (λ places. always places kind) all) kinds) (always_gives Q kind q places kinds) (rows_give Q any kind q all kinds) k e

told_by : (kind : Kind) (value : Value) → is_of kind value ≡ true → (all : List (List Place)) (kinds : List Kind) (k : Kind) → given_by (map (λ places. always places kind) all) kinds ≡ Some k → agrees k value ≡ true
told_by kind value is all kinds k e = rows_give (λ k. agrees k value ≡ true) refl kind (own_told kind value is) all kinds k e

-- values of one kind

maybe : {A : Type 0} (kind : Kind) (make : A → Value) → ((x : A) → is_of kind (make x) ≡ true) → (o : Option A) → is_of kind (or_null make o) ≡ true
maybe kind make is None = refl
maybe kind make is (Some x) = is x

text : (t : List ℕ) → is_of K.Text (text_value t) ≡ true
text t = maybe K.Text V.Text (λ x. refl) (within 16_777_216 t)

texts : (o : Option (List ℕ)) → is_of K.Text (or_null text_value o) ≡ true
texts o = maybe K.Text text_value text o

stamp_tested : (part : Part) (seconds : ℤ) (b : Bool) (e : is_stamp part seconds ≡ b) → is_of K.Stamp (stamp_if part seconds b e) ≡ true
stamp_tested part seconds true e = refl
stamp_tested part seconds false e = refl

stamp : (part : Part) (seconds : ℤ) → is_of K.Stamp (stamp_value part seconds) ≡ true
unfolding stamp_value
stamp part seconds = stamp_tested part seconds (is_stamp part seconds) refl

kept_is : (kind : Kind) (make : ℤ → Value) → ((n : ℤ) → is_of kind (make n) ≡ true) → (o : Option ℤ) → is_of kind (kept make o) ≡ true
kept_is kind make is None = refl
kept_is kind make is (Some n) = tested (is_in_64_bits n)
  where
    tested : (b : Bool) → is_of kind (cond b (make n) V.Null) ≡ true
    tested true = is n
    tested false = refl

real_told : (o : Option ℤ) (t : List ℕ) → is_of K.Real (integer_or_real o t) ≡ true
real_told None t = maybe K.Real V.Real (λ x. refl) (real_in t)
real_told (Some n) t = kept_is K.Real real_of (λ x. refl) (Some (n *ℤ pos 1_000_000))

address : (b : Bool) (t : List ℕ) → is_of K.Text (cond b (V.Text t) V.Null) ≡ true
address true t = refl
address false t = refl

read : (pattern : Result (List Piece) ℕ) (t : List ℕ) → is_of K.Stamp (read_by pattern t) ≡ true
read (Ok pattern) t = maybe K.Stamp (stamp_value (pattern_part pattern)) (stamp (pattern_part pattern)) (seconds_in pattern t)
read (Err at) t = refl

wrote : (pattern : Result (List Piece) ℕ) (s : S.Stamp) → is_of K.Text (written_by pattern s) ≡ true
wrote (Ok pattern) s = text (utf8_lossy (written pattern (civil_of s.seconds)))
wrote (Err at) s = refl

-- the kind of what a function gives, where it gives one kind
kind_made : Function → Kind
kind_made f.Strlen = K.Integer
kind_made f.Strcnt = K.Integer
kind_made f.IndexOf = K.Integer
kind_made f.LastIndexOf = K.Integer
kind_made f.ToInt = K.Integer
kind_made f.Ipv4ToInt = K.Integer
kind_made f.ToReal = K.Real
kind_made f.ToTimestamp = K.Stamp
kind_made f.ToDate = K.Stamp
kind_made f.ToTime = K.Stamp
kind_made function = K.Text

of_one : (function : Function) (a : Value) → is_of (kind_made function) (applied_to_one function a) ≡ true
unfolding kind_made
of_one f.Strlen (V.Text t) = refl
of_one f.Strlen a = refl
of_one f.ToLowercase (V.Text t) = text (map to_ascii_lowercase t)
of_one f.ToLowercase a = refl
of_one f.ToUppercase (V.Text t) = text (map to_ascii_uppercase t)
of_one f.ToUppercase a = refl
of_one f.Trim (V.Text t) = text (right_trimmed (left_trimmed t))
of_one f.Trim a = refl
of_one f.Ltrim (V.Text t) = text (left_trimmed t)
of_one f.Ltrim a = refl
of_one f.Rtrim (V.Text t) = text (right_trimmed t)
of_one f.Rtrim a = refl
of_one f.ExtractFilename (V.Text t) = text (file_name t)
of_one f.ExtractFilename a = refl
of_one f.ExtractPath (V.Text t) = text (path_of t)
of_one f.ExtractPath a = refl
of_one f.ExtractExtension (V.Text t) = texts (extension t)
of_one f.ExtractExtension a = refl
of_one f.Urlescape (V.Text t) = text (escaped t)
of_one f.Urlescape a = refl
of_one f.Urlunescape (V.Text t) = text (utf8_lossy (percent_decode t))
of_one f.Urlunescape a = refl
of_one f.Ipv4ToInt (V.Text t) = maybe K.Integer (λ number. V.Int (pos number)) (λ x. refl) (address_in t)
of_one f.Ipv4ToInt a = refl
of_one f.ToString V.Null = refl
of_one f.ToString (V.Int n) = text (printed (V.Int n))
of_one f.ToString (V.Real r) = text (printed (V.Real r))
of_one f.ToString (V.Text t) = text (printed (V.Text t))
of_one f.ToString (V.Stamp s) = text (printed (V.Stamp s))
of_one f.ToInt V.Null = refl
of_one f.ToInt (V.Int n) = refl
of_one f.ToInt (V.Real r) = refl
of_one f.ToInt (V.Text t) = maybe K.Integer V.Int (λ x. refl) (integer_in t)
of_one f.ToInt (V.Stamp s) = refl
of_one f.ToReal V.Null = refl
of_one f.ToReal (V.Int n) = kept_is K.Real real_of (λ x. refl) (Some (n *ℤ pos 1_000_000))
of_one f.ToReal (V.Real r) = refl
of_one f.ToReal (V.Text t) = real_told (integer_in t) t
of_one f.ToReal (V.Stamp s) = refl
of_one f.ToDate (V.Stamp s) = stamp Date (day_start s.seconds)
of_one f.ToDate a = refl
of_one f.ToTime (V.Stamp s) = stamp Time (pos (second_of_day s.seconds))
of_one f.ToTime a = refl
of_one f.IntToIpv4 (V.Int (pos n)) = address (nat_le n 4_294_967_295) (address_text n)
of_one f.IntToIpv4 a = refl
of_one function a = refl

-- the functions that give one kind, whatever they are given
has_one_kind : Function → Bool
has_one_kind f.Add = false
has_one_kind f.Sub = false
has_one_kind f.Mul = false
has_one_kind f.Div = false
has_one_kind f.Mod = false
has_one_kind f.Quantize = false
has_one_kind f.Coalesce = false
has_one_kind f.ReplaceIfNull = false
has_one_kind f.ReplaceIfNotNull = false
has_one_kind function = true

of_two : (function : Function) (a b : Value) → has_one_kind function ≡ true → is_of (kind_made function) (applied_to_two function a b) ≡ true
unfolding kind_made has_one_kind
of_two f.Add a b e = absurd cc
of_two f.Sub a b e = absurd cc
of_two f.Mul a b e = absurd cc
of_two f.Div a b e = absurd cc
of_two f.Mod a b e = absurd cc
of_two f.Quantize a b e = absurd cc
of_two f.Coalesce a b e = absurd cc
of_two f.ReplaceIfNull a b e = absurd cc
of_two f.ReplaceIfNotNull a b e = absurd cc
of_two f.Strcat (V.Text t) (V.Text u) e = text (t ++ u)
of_two f.Strcat (V.Text t) b e = refl
of_two f.Strcat a b e = refl
of_two f.Strcnt (V.Text t) (V.Text u) e = refl
of_two f.Strcnt (V.Text t) b e = refl
of_two f.Strcnt a b e = refl
of_two f.IndexOf (V.Text t) (V.Text u) e = maybe K.Integer number_value (λ x. refl) (index_of t u)
of_two f.IndexOf (V.Text t) b e = refl
of_two f.IndexOf a b e = refl
of_two f.LastIndexOf (V.Text t) (V.Text u) e = maybe K.Integer number_value (λ x. refl) (last_index_of t u)
of_two f.LastIndexOf (V.Text t) b e = refl
of_two f.LastIndexOf a b e = refl
of_two f.Substr (V.Text t) (V.Int n) e = texts (substring_from t n)
of_two f.Substr (V.Text t) b e = refl
of_two f.Substr a b e = refl
of_two f.ExtractToken (V.Text t) (V.Int n) e = texts (token t n None)
of_two f.ExtractToken (V.Text t) b e = refl
of_two f.ExtractToken a b e = refl
of_two f.ExtractValue (V.Text t) (V.Text u) e = texts (value t u None)
of_two f.ExtractValue (V.Text t) b e = refl
of_two f.ExtractValue a b e = refl
of_two f.ToString (V.Stamp s) (V.Text u) e = wrote (pattern_in u) s
of_two f.ToString (V.Stamp s) b e = refl
of_two f.ToString a b e = refl
of_two f.ToTimestamp (V.Text t) (V.Text p) e = read (pattern_in p) t
of_two f.ToTimestamp (V.Text t) b e = refl
of_two f.ToTimestamp (V.Stamp s) (V.Stamp r) e = stamp Both (joined_at s.seconds r.seconds)
of_two f.ToTimestamp (V.Stamp s) b e = refl
of_two f.ToTimestamp a b e = refl
of_two function a b e = refl

of_three : (function : Function) (a b c : Value) → has_one_kind function ≡ true → is_of (kind_made function) (applied_to_three function a b c) ≡ true
unfolding kind_made has_one_kind
of_three f.Coalesce a b c e = absurd cc
of_three f.ReplaceStr (V.Text t) (V.Text u) (V.Text w) e = text (replaced t u w)
of_three f.ReplaceStr (V.Text t) (V.Text u) c e = refl
of_three f.ReplaceStr (V.Text t) b c e = refl
of_three f.ReplaceStr a b c e = refl
of_three f.ReplaceChr (V.Text t) (V.Text u) (V.Text w) e = text (replaced_characters t u w)
of_three f.ReplaceChr (V.Text t) (V.Text u) c e = refl
of_three f.ReplaceChr (V.Text t) b c e = refl
of_three f.ReplaceChr a b c e = refl
of_three f.Substr (V.Text t) (V.Int n) (V.Int m) e = texts (substring t n m)
of_three f.Substr (V.Text t) (V.Int n) c e = refl
of_three f.Substr (V.Text t) b c e = refl
of_three f.Substr a b c e = refl
of_three f.ExtractToken (V.Text t) (V.Int n) (V.Text w) e = texts (token t n (Some w))
of_three f.ExtractToken (V.Text t) (V.Int n) c e = refl
of_three f.ExtractToken (V.Text t) b c e = refl
of_three f.ExtractToken a b c e = refl
of_three f.ExtractValue (V.Text t) (V.Text u) (V.Text w) e = texts (value t u (Some w))
of_three f.ExtractValue (V.Text t) (V.Text u) c e = refl
of_three f.ExtractValue (V.Text t) b c e = refl
of_three f.ExtractValue a b c e = refl
of_three f.ExtractPrefix (V.Text t) (V.Int n) (V.Text w) e = texts (prefix t n w)
of_three f.ExtractPrefix (V.Text t) (V.Int n) c e = refl
of_three f.ExtractPrefix (V.Text t) b c e = refl
of_three f.ExtractPrefix a b c e = refl
of_three f.ExtractSuffix (V.Text t) (V.Int n) (V.Text w) e = texts (suffix t n w)
of_three f.ExtractSuffix (V.Text t) (V.Int n) c e = refl
of_three f.ExtractSuffix (V.Text t) b c e = refl
of_three f.ExtractSuffix a b c e = refl
of_three function a b c e = refl

of_more : (function : Function) (values : List Value) → has_one_kind function ≡ true → is_of (kind_made function) (applied_to_more function values) ≡ true
unfolding kind_made has_one_kind
of_more f.Coalesce values e = absurd cc
of_more function values e = refl

any_many : (function : Function) (values : List Value) → has_one_kind function ≡ true → is_of (kind_made function) (applied function values) ≡ true
any_many function [] e = refl
any_many function (a ∷ []) e = of_one function a
any_many function (a ∷ b ∷ []) e = of_two function a b e
any_many function (a ∷ b ∷ c ∷ []) e = of_three function a b c e
any_many function (a ∷ b ∷ c ∷ d ∷ values) e = of_more function (a ∷ b ∷ c ∷ d ∷ values) e

single : (function : Function) (values : List Value) (kinds : List Kind) (k : Kind) → has_one_kind function ≡ true → kind_of_call function kinds ≡ Some k → agrees k (applied function values) ≡ true
unfolding kind_made has_one_kind
single f.Strcat values kinds k one e = told_by K.Text (applied f.Strcat values) (any_many f.Strcat values refl) ((P.Text ∷ P.Text ∷ []) ∷ []) kinds k e
single f.Strlen values kinds k one e = told_by K.Integer (applied f.Strlen values) (any_many f.Strlen values refl) ((P.Text ∷ []) ∷ []) kinds k e
single f.Strcnt values kinds k one e = told_by K.Integer (applied f.Strcnt values) (any_many f.Strcnt values refl) ((P.Text ∷ P.Text ∷ []) ∷ []) kinds k e
single f.Substr values kinds k one e = told_by K.Text (applied f.Substr values) (any_many f.Substr values refl) ((P.Text ∷ P.Integer ∷ []) ∷ (P.Text ∷ P.Integer ∷ P.Integer ∷ []) ∷ []) kinds k e
single f.IndexOf values kinds k one e = told_by K.Integer (applied f.IndexOf values) (any_many f.IndexOf values refl) ((P.Text ∷ P.Text ∷ []) ∷ []) kinds k e
single f.LastIndexOf values kinds k one e = told_by K.Integer (applied f.LastIndexOf values) (any_many f.LastIndexOf values refl) ((P.Text ∷ P.Text ∷ []) ∷ []) kinds k e
single f.ReplaceStr values kinds k one e = told_by K.Text (applied f.ReplaceStr values) (any_many f.ReplaceStr values refl) ((P.Text ∷ P.Text ∷ P.Text ∷ []) ∷ []) kinds k e
single f.ReplaceChr values kinds k one e = told_by K.Text (applied f.ReplaceChr values) (any_many f.ReplaceChr values refl) ((P.Text ∷ P.Text ∷ P.Text ∷ []) ∷ []) kinds k e
single f.ToLowercase values kinds k one e = told_by K.Text (applied f.ToLowercase values) (any_many f.ToLowercase values refl) ((P.Text ∷ []) ∷ []) kinds k e
single f.ToUppercase values kinds k one e = told_by K.Text (applied f.ToUppercase values) (any_many f.ToUppercase values refl) ((P.Text ∷ []) ∷ []) kinds k e
single f.Trim values kinds k one e = told_by K.Text (applied f.Trim values) (any_many f.Trim values refl) ((P.Text ∷ []) ∷ []) kinds k e
single f.Ltrim values kinds k one e = told_by K.Text (applied f.Ltrim values) (any_many f.Ltrim values refl) ((P.Text ∷ []) ∷ []) kinds k e
single f.Rtrim values kinds k one e = told_by K.Text (applied f.Rtrim values) (any_many f.Rtrim values refl) ((P.Text ∷ []) ∷ []) kinds k e
single f.ExtractFilename values kinds k one e = told_by K.Text (applied f.ExtractFilename values) (any_many f.ExtractFilename values refl) ((P.Text ∷ []) ∷ []) kinds k e
single f.ExtractPath values kinds k one e = told_by K.Text (applied f.ExtractPath values) (any_many f.ExtractPath values refl) ((P.Text ∷ []) ∷ []) kinds k e
single f.ExtractExtension values kinds k one e = told_by K.Text (applied f.ExtractExtension values) (any_many f.ExtractExtension values refl) ((P.Text ∷ []) ∷ []) kinds k e
single f.Urlescape values kinds k one e = told_by K.Text (applied f.Urlescape values) (any_many f.Urlescape values refl) ((P.Text ∷ []) ∷ []) kinds k e
single f.Urlunescape values kinds k one e = told_by K.Text (applied f.Urlunescape values) (any_many f.Urlunescape values refl) ((P.Text ∷ []) ∷ []) kinds k e
single f.Ipv4ToInt values kinds k one e = told_by K.Integer (applied f.Ipv4ToInt values) (any_many f.Ipv4ToInt values refl) ((P.Text ∷ []) ∷ []) kinds k e
single f.ExtractToken values kinds k one e = told_by K.Text (applied f.ExtractToken values) (any_many f.ExtractToken values refl) ((P.Text ∷ P.Integer ∷ []) ∷ (P.Text ∷ P.Integer ∷ P.Text ∷ []) ∷ []) kinds k e
single f.ExtractValue values kinds k one e = told_by K.Text (applied f.ExtractValue values) (any_many f.ExtractValue values refl) ((P.Text ∷ P.Text ∷ []) ∷ (P.Text ∷ P.Text ∷ P.Text ∷ []) ∷ []) kinds k e
single f.ExtractPrefix values kinds k one e = told_by K.Text (applied f.ExtractPrefix values) (any_many f.ExtractPrefix values refl) ((P.Text ∷ P.Integer ∷ P.Text ∷ []) ∷ []) kinds k e
single f.ExtractSuffix values kinds k one e = told_by K.Text (applied f.ExtractSuffix values) (any_many f.ExtractSuffix values refl) ((P.Text ∷ P.Integer ∷ P.Text ∷ []) ∷ []) kinds k e
single f.ToString values kinds k one e = told_by K.Text (applied f.ToString values) (any_many f.ToString values refl) ((P.Value ∷ []) ∷ (P.Stamp ∷ P.Text ∷ []) ∷ []) kinds k e
single f.ToInt values kinds k one e = told_by K.Integer (applied f.ToInt values) (any_many f.ToInt values refl) ((P.NumberOrText ∷ []) ∷ []) kinds k e
single f.ToReal values kinds k one e = told_by K.Real (applied f.ToReal values) (any_many f.ToReal values refl) ((P.NumberOrText ∷ []) ∷ []) kinds k e
single f.ToTimestamp values kinds k one e = told_by K.Stamp (applied f.ToTimestamp values) (any_many f.ToTimestamp values refl) ((P.Text ∷ P.Text ∷ []) ∷ (P.Stamp ∷ P.Stamp ∷ []) ∷ []) kinds k e
single f.ToDate values kinds k one e = told_by K.Stamp (applied f.ToDate values) (any_many f.ToDate values refl) ((P.Stamp ∷ []) ∷ []) kinds k e
single f.ToTime values kinds k one e = told_by K.Stamp (applied f.ToTime values) (any_many f.ToTime values refl) ((P.Stamp ∷ []) ∷ []) kinds k e
single f.IntToIpv4 values kinds k one e = told_by K.Text (applied f.IntToIpv4 values) (any_many f.IntToIpv4 values refl) ((P.Integer ∷ []) ∷ []) kinds k e
single f.Add values kinds k one e = absurd cc
single f.Sub values kinds k one e = absurd cc
single f.Mul values kinds k one e = absurd cc
single f.Div values kinds k one e = absurd cc
single f.Mod values kinds k one e = absurd cc
single f.Quantize values kinds k one e = absurd cc
single f.Coalesce values kinds k one e = absurd cc
single f.ReplaceIfNull values kinds k one e = absurd cc
single f.ReplaceIfNotNull values kinds k one e = absurd cc

-- the kind of a value that isn't NULL

own_integer : (p : Kind) (n : ℤ) → is_of p (V.Int n) ≡ true → p ≡ K.Integer
own_integer K.Integer n e = refl
own_integer K.Real n e = absurd cc
own_integer K.Text n e = absurd cc
own_integer K.Stamp n e = absurd cc
own_integer K.Any n e = absurd cc

own_real : (p : Kind) (r : R.Real) → is_of p (V.Real r) ≡ true → p ≡ K.Real
own_real K.Integer r e = absurd cc
own_real K.Real r e = refl
own_real K.Text r e = absurd cc
own_real K.Stamp r e = absurd cc
own_real K.Any r e = absurd cc

same_told : (kind : Kind) (value : Value) → is_of kind value ≡ true → (o : Option Kind) (k : Kind) → o ≡ Some kind → o ≡ Some k → agrees k value ≡ true
same_told kind value is o k here e = let same : kind ≡ k = cc in subst (λ (x : Kind). agrees x value ≡ true) same (own_told kind value is)

number_row : (p q a b : Kind) → p ≡ a → q ≡ b → given numbers (p ∷ q ∷ []) ≡ given numbers (a ∷ b ∷ [])
number_row p q a b one two = rw (one, two) refl

-- arithmetic
numbers_told : (whole decimal : ℤ → ℤ → Option ℤ) (p q : Kind) (a b : Value) (k : Kind) → is_of p a ≡ true → is_of q b ≡ true → given numbers (p ∷ q ∷ []) ≡ Some k → agrees k (on_numbers whole decimal (numbers_of a b)) ≡ true
numbers_told whole decimal p q (V.Int m) (V.Int n) k one two e =
    same_told K.Integer (kept V.Int (whole m n)) (kept_is K.Integer V.Int (λ x. refl) (whole m n)) (given numbers (p ∷ q ∷ [])) k (number_row p q K.Integer K.Integer (own_integer p m one) (own_integer q n two)) e
numbers_told whole decimal p q (V.Int m) (V.Real r) k one two e =
    same_told K.Real (kept real_of (decimal (m *ℤ pos 1_000_000) r.millionths)) (kept_is K.Real real_of (λ x. refl) (decimal (m *ℤ pos 1_000_000) r.millionths)) (given numbers (p ∷ q ∷ [])) k (number_row p q K.Integer K.Real (own_integer p m one) (own_real q r two)) e
numbers_told whole decimal p q (V.Real r) (V.Int n) k one two e =
    same_told K.Real (kept real_of (decimal r.millionths (n *ℤ pos 1_000_000))) (kept_is K.Real real_of (λ x. refl) (decimal r.millionths (n *ℤ pos 1_000_000))) (given numbers (p ∷ q ∷ [])) k (number_row p q K.Real K.Integer (own_real p r one) (own_integer q n two)) e
numbers_told whole decimal p q (V.Real r) (V.Real s) k one two e =
    same_told K.Real (kept real_of (decimal r.millionths s.millionths)) (kept_is K.Real real_of (λ x. refl) (decimal r.millionths s.millionths)) (given numbers (p ∷ q ∷ [])) k (number_row p q K.Real K.Real (own_real p r one) (own_real q s two)) e
numbers_told whole decimal p q (V.Int m) b k one two e = null_told k
numbers_told whole decimal p q (V.Real r) b k one two e = null_told k
numbers_told whole decimal p q a b k one two e = null_told k

-- a row that gives a kind fits
fit_of : (places : List Place) (kind : Kind) (kinds : List Kind) (k : Kind) → given (always places kind) kinds ≡ Some k → (fits places kinds ≡ true) × (kind ≡ k)
fit_of places kind kinds k e = tested (fits places kinds) refl e
  where
    tested : (b : Bool) → fits places kinds ≡ b → cond b (Some kind) None ≡ Some k → (fits places kinds ≡ true) × (kind ≡ k)
    tested true is e = (is, cc)
    tested false is e = absurd cc

any_null : (kind : Kind) (value : Value) → is_of K.Any value ≡ true → is_of kind value ≡ true
any_null kind V.Null e = refl
any_null kind (V.Int n) e = absurd cc
any_null kind (V.Real r) e = absurd cc
any_null kind (V.Text t) e = absurd cc
any_null kind (V.Stamp s) e = absurd cc

-- a place that takes one kind takes values of it
abbrev Takes : Place → Kind → Type 0
Takes place kind = (p : Kind) (value : Value) → takes place p ≡ true → is_of p value ≡ true → is_of kind value ≡ true

integer : Takes P.Integer K.Integer
integer K.Integer value taken is = is
integer K.Real value taken is = absurd cc
integer K.Text value taken is = absurd cc
integer K.Stamp value taken is = absurd cc
integer K.Any value taken is = any_null K.Integer value is

real : Takes P.Real K.Real
real K.Integer value taken is = absurd cc
real K.Real value taken is = is
real K.Text value taken is = absurd cc
real K.Stamp value taken is = absurd cc
real K.Any value taken is = any_null K.Real value is

text_only : Takes P.Text K.Text
text_only K.Integer value taken is = absurd cc
text_only K.Real value taken is = absurd cc
text_only K.Text value taken is = is
text_only K.Stamp value taken is = absurd cc
text_only K.Any value taken is = any_null K.Text value is

stamp_only : Takes P.Stamp K.Stamp
stamp_only K.Integer value taken is = absurd cc
stamp_only K.Real value taken is = absurd cc
stamp_only K.Text value taken is = absurd cc
stamp_only K.Stamp value taken is = is
stamp_only K.Any value taken is = any_null K.Stamp value is

pair_told : (give : List Kind → Option Kind) (make : Value → Value → Value) → ((p q : Kind) (a b : Value) (k : Kind) → is_of p a ≡ true → is_of q b ≡ true → give (p ∷ q ∷ []) ≡ Some k → agrees k (make a b) ≡ true)
    → (a b : Value) (kinds : List Kind) (k : Kind) → are_of kinds (a ∷ b ∷ []) ≡ true → give kinds ≡ Some k → agrees k (make a b) ≡ true
pair_told give make told a b [] k of e = absurd cc
pair_told give make told a b (p ∷ []) k of e = absurd (let more = (and_parts (is_of p a) false of).1 in cc)
pair_told give make told a b (p ∷ q ∷ []) k of e =
    let first = and_parts (is_of p a) (is_of q b && true) of in
    told p q a b k first.0 (and_parts (is_of q b) true first.1).0 e
pair_told give make told a b (p ∷ q ∷ r ∷ kinds) k of e = absurd (let more = (and_parts (is_of q b) false (and_parts (is_of p a) (is_of q b && false) of).1).1 in cc)

add : (values : List Value) (kinds : List Kind) (k : Kind) → are_of kinds values ≡ true → kind_of_call f.Add kinds ≡ Some k → agrees k (applied f.Add values) ≡ true
add [] kinds k of e = null_told k
add (a ∷ []) kinds k of e = null_told k
add (a ∷ b ∷ []) kinds k of e = pair_told (λ all. given numbers all) sum_of (numbers_told (λ x y. Some (x +ℤ y)) (λ x y. Some (x +ℤ y))) a b kinds k of e
add (a ∷ b ∷ c ∷ []) kinds k of e = null_told k
add (a ∷ b ∷ c ∷ d ∷ values) kinds k of e = null_told k

sub : (values : List Value) (kinds : List Kind) (k : Kind) → are_of kinds values ≡ true → kind_of_call f.Sub kinds ≡ Some k → agrees k (applied f.Sub values) ≡ true
sub [] kinds k of e = null_told k
sub (a ∷ []) kinds k of e = null_told k
sub (a ∷ b ∷ []) kinds k of e = pair_told (λ all. given numbers all) difference_of (numbers_told (λ x y. Some (x -ℤ y)) (λ x y. Some (x -ℤ y))) a b kinds k of e
sub (a ∷ b ∷ c ∷ []) kinds k of e = null_told k
sub (a ∷ b ∷ c ∷ d ∷ values) kinds k of e = null_told k

mul : (values : List Value) (kinds : List Kind) (k : Kind) → are_of kinds values ≡ true → kind_of_call f.Mul kinds ≡ Some k → agrees k (applied f.Mul values) ≡ true
mul [] kinds k of e = null_told k
mul (a ∷ []) kinds k of e = null_told k
mul (a ∷ b ∷ []) kinds k of e = pair_told (λ all. given numbers all) product_of (numbers_told (λ x y. Some (x *ℤ y)) (λ x y. Some (int_div (x *ℤ y) (pos 1_000_000)))) a b kinds k of e
mul (a ∷ b ∷ c ∷ []) kinds k of e = null_told k
mul (a ∷ b ∷ c ∷ d ∷ values) kinds k of e = null_told k

div : (values : List Value) (kinds : List Kind) (k : Kind) → are_of kinds values ≡ true → kind_of_call f.Div kinds ≡ Some k → agrees k (applied f.Div values) ≡ true
div [] kinds k of e = null_told k
div (a ∷ []) kinds k of e = null_told k
div (a ∷ b ∷ []) kinds k of e = pair_told (λ all. given numbers all) quotient_of (numbers_told quotient (λ x y. quotient (x *ℤ pos 1_000_000) y)) a b kinds k of e
div (a ∷ b ∷ c ∷ []) kinds k of e = null_told k
div (a ∷ b ∷ c ∷ d ∷ values) kinds k of e = null_told k

modulo : (values : List Value) (kinds : List Kind) (k : Kind) → are_of kinds values ≡ true → kind_of_call f.Mod kinds ≡ Some k → agrees k (applied f.Mod values) ≡ true
modulo [] kinds k of e = null_told k
modulo (a ∷ []) kinds k of e = null_told k
modulo (a ∷ b ∷ []) kinds k of e = pair_told (λ all. given numbers all) remainder_of (numbers_told remainder remainder) a b kinds k of e
modulo (a ∷ b ∷ c ∷ []) kinds k of e = null_told k
modulo (a ∷ b ∷ c ∷ d ∷ values) kinds k of e = null_told k

-- QUANTIZE
number_step : (p q : Kind) (a b : Value) (k : Kind) → is_of p a ≡ true → is_of q b ≡ true → given numbers (p ∷ q ∷ []) ≡ Some k → agrees k (quantized_value a b) ≡ true
number_step p q V.Null b k one two e = numbers_told multiple multiple p q V.Null b k one two e
number_step p q (V.Int m) b k one two e = numbers_told multiple multiple p q (V.Int m) b k one two e
number_step p q (V.Real r) b k one two e = numbers_told multiple multiple p q (V.Real r) b k one two e
number_step p q (V.Text t) b k one two e = numbers_told multiple multiple p q (V.Text t) b k one two e
number_step K.Stamp q (V.Stamp s) b k one two e = absurd cc
number_step K.Integer q (V.Stamp s) b k one two e = absurd cc
number_step K.Real q (V.Stamp s) b k one two e = absurd cc
number_step K.Text q (V.Stamp s) b k one two e = absurd cc
number_step K.Any q (V.Stamp s) b k one two e = absurd cc

stamp_step : (a b : Value) → is_of K.Stamp a ≡ true → is_of K.Stamp (quantized_value a b) ≡ true
stamp_step V.Null b e = refl
stamp_step (V.Int m) b e = absurd cc
stamp_step (V.Real r) b e = absurd cc
stamp_step (V.Text t) b e = absurd cc
stamp_step (V.Stamp s) (V.Int n) e = maybe K.Stamp (stamp_value s.part) (stamp s.part) (quantized s.part s.seconds n)
stamp_step (V.Stamp s) b e = refl

first_taken : (place second : Place) (p q : Kind) → fits (place ∷ second ∷ []) (p ∷ q ∷ []) ≡ true → takes place p ≡ true
first_taken place second p q e = (and_parts (takes place p) (takes second q && true) e).0

second_taken : (place second : Place) (p q : Kind) → fits (place ∷ second ∷ []) (p ∷ q ∷ []) ≡ true → takes second q ≡ true
second_taken place second p q e = (and_parts (takes second q) true (and_parts (takes place p) (takes second q && true) e).1).0

quantize_pair : (p q : Kind) (a b : Value) (k : Kind) → is_of p a ≡ true → is_of q b ≡ true → kind_of_call f.Quantize (p ∷ q ∷ []) ≡ Some k → agrees k (quantized_value a b) ≡ true
quantize_pair p q a b k one two e =
    joined_gives (λ k. agrees k (quantized_value a b) ≡ true) refl (given numbers (p ∷ q ∷ [])) (given (always (P.Stamp ∷ P.Integer ∷ []) K.Stamp) (p ∷ q ∷ []))
    (λ k e. number_step p q a b k one two e)
    (λ k e.
    let fit = fit_of (P.Stamp ∷ P.Integer ∷ []) K.Stamp (p ∷ q ∷ []) k e in
    let is = stamp_step a b (stamp_only p a (first_taken P.Stamp P.Integer p q fit.0) one) in
    subst (λ (x : Kind). agrees x (quantized_value a b) ≡ true) fit.1 (own_told K.Stamp (quantized_value a b) is))
    k e

quantize : (values : List Value) (kinds : List Kind) (k : Kind) → are_of kinds values ≡ true → kind_of_call f.Quantize kinds ≡ Some k → agrees k (applied f.Quantize values) ≡ true
quantize [] kinds k of e = null_told k
quantize (a ∷ []) kinds k of e = null_told k
quantize (a ∷ b ∷ []) kinds k of e = pair_told (λ all. given_by (rows_of f.Quantize 2) all) quantized_value quantize_pair a b kinds k of e
quantize (a ∷ b ∷ c ∷ []) kinds k of e = null_told k
quantize (a ∷ b ∷ c ∷ d ∷ values) kinds k of e = null_told k

-- REPLACE_IF_NOT_NULL
second_given : (kind : Kind) (a b : Value) → is_of kind b ≡ true → is_of kind (replaced_if_not_null a b) ≡ true
second_given kind V.Null b e = refl
second_given kind (V.Int n) b e = e
second_given kind (V.Real r) b e = e
second_given kind (V.Text t) b e = e
second_given kind (V.Stamp s) b e = e

second_row : (place : Place) (kind : Kind) → Takes place kind → (p q : Kind) (a b : Value) → is_of q b ≡ true → (k : Kind) → given (always (P.Value ∷ place ∷ []) kind) (p ∷ q ∷ []) ≡ Some k → agrees k (replaced_if_not_null a b) ≡ true
second_row place kind covers p q a b two k e =
    let fit = fit_of (P.Value ∷ place ∷ []) kind (p ∷ q ∷ []) k e in
    let is = second_given kind a b (covers q b (second_taken P.Value place p q fit.0) two) in
    subst (λ (x : Kind). agrees x (replaced_if_not_null a b) ≡ true) fit.1 (own_told kind (replaced_if_not_null a b) is)

-- four rows, each for one kind
four_give : (Q : Kind → Type 0) → Q K.Any → (w x y z : Option Kind) → ((k : Kind) → w ≡ Some k → Q k) → ((k : Kind) → x ≡ Some k → Q k) → ((k : Kind) → y ≡ Some k → Q k) → ((k : Kind) → z ≡ Some k → Q k)
    → (k : Kind) → joined w (joined x (joined y z)) ≡ Some k → Q k
four_give Q any w x y z one two three four k e =
    joined_gives Q any w (joined x (joined y z)) one (joined_gives Q any x (joined y z) two (joined_gives Q any y z three four)) k e

replace_pair : (p q : Kind) (a b : Value) (k : Kind) → is_of p a ≡ true → is_of q b ≡ true → kind_of_call f.ReplaceIfNotNull (p ∷ q ∷ []) ≡ Some k → agrees k (replaced_if_not_null a b) ≡ true
replace_pair p q a b k one two e =
    let kinds : List Kind = p ∷ q ∷ [] in
    four_give (λ k. agrees k (replaced_if_not_null a b) ≡ true) refl (given (always (P.Value ∷ P.Integer ∷ []) K.Integer) kinds) (given (always (P.Value ∷ P.Real ∷ []) K.Real) kinds) (given (always (P.Value ∷ P.Text ∷ []) K.Text) kinds) (given (always (P.Value ∷ P.Stamp ∷ []) K.Stamp) kinds)
    (second_row P.Integer K.Integer integer p q a b two) (second_row P.Real K.Real real p q a b two) (second_row P.Text K.Text text_only p q a b two) (second_row P.Stamp K.Stamp stamp_only p q a b two) k e

replace : (values : List Value) (kinds : List Kind) (k : Kind) → are_of kinds values ≡ true → kind_of_call f.ReplaceIfNotNull kinds ≡ Some k → agrees k (applied f.ReplaceIfNotNull values) ≡ true
replace [] kinds k of e = null_told k
replace (a ∷ []) kinds k of e = null_told k
replace (a ∷ b ∷ []) kinds k of e = pair_told (λ all. given_by (rows_of f.ReplaceIfNotNull 2) all) replaced_if_not_null replace_pair a b kinds k of e
replace (a ∷ b ∷ c ∷ []) kinds k of e = null_told k
replace (a ∷ b ∷ c ∷ d ∷ values) kinds k of e = null_told k

-- COALESCE and REPLACE_IF_NULL
all_of : (place : Place) (kind : Kind) → Takes place kind → (many : ℕ) (kinds : List Kind) (values : List Value) → fits (replicate many place) kinds ≡ true → are_of kinds values ≡ true → list_all (is_of kind) values ≡ true
all_of place kind covers zero [] [] fit of = refl
all_of place kind covers zero [] (v ∷ values) fit of = absurd cc
all_of place kind covers zero (p ∷ kinds) values fit of = absurd cc
all_of place kind covers (suc many) [] values fit of = absurd cc
all_of place kind covers (suc many) (p ∷ kinds) [] fit of = absurd cc
all_of place kind covers (suc many) (p ∷ kinds) (v ∷ values) fit of =
    let taken = and_parts (takes place p) (fits (replicate many place) kinds) fit in
    let is = and_parts (is_of p v) (are_of kinds values) of in
    and_from (is_of kind v) (list_all (is_of kind) values) (covers p v taken.0 is.0) (all_of place kind covers many kinds values taken.1 is.1)

first_is : (kind : Kind) (values : List Value) (first : Value) → list_all (is_of kind) values ≡ true → first_value values ≡ Some first → is_of kind first ≡ true
first_is kind [] first all e = absurd cc
first_is kind (V.Null ∷ values) first all e = first_is kind values first (and_parts true (list_all (is_of kind) values) all).1 e
first_is kind (V.Int n ∷ values) first all e = let same : V.Int n ≡ first = cc in subst (λ (v : Value). is_of kind v ≡ true) same (and_parts (is_of kind (V.Int n)) (list_all (is_of kind) values) all).0
first_is kind (V.Real r ∷ values) first all e = let same : V.Real r ≡ first = cc in subst (λ (v : Value). is_of kind v ≡ true) same (and_parts (is_of kind (V.Real r)) (list_all (is_of kind) values) all).0
first_is kind (V.Text t ∷ values) first all e = let same : V.Text t ≡ first = cc in subst (λ (v : Value). is_of kind v ≡ true) same (and_parts (is_of kind (V.Text t)) (list_all (is_of kind) values) all).0
first_is kind (V.Stamp s ∷ values) first all e = let same : V.Stamp s ≡ first = cc in subst (λ (v : Value). is_of kind v ≡ true) same (and_parts (is_of kind (V.Stamp s)) (list_all (is_of kind) values) all).0

chosen_is : (kind : Kind) (choice : Option Value) (values : List Value) → ((first : Value) → choice ≡ Some first → is_of kind first ≡ true) → is_of kind (chosen choice values) ≡ true
chosen_is kind None values is = refl
chosen_is kind (Some first) values is = tested (list_all (is_of (kind_of first)) values)
  where
    tested : (b : Bool) → is_of kind (cond b first V.Null) ≡ true
    tested true = is first refl
    tested false = refl

kind_row : (place : Place) (kind : Kind) → Takes place kind → (many : ℕ) (kinds : List Kind) (values : List Value) → are_of kinds values ≡ true → (k : Kind) → given (always (replicate many place) kind) kinds ≡ Some k → agrees k (coalesced values) ≡ true
kind_row place kind covers many kinds values of k e =
    let fit = fit_of (replicate many place) kind kinds k e in
    let all = all_of place kind covers many kinds values fit.0 of in
    let is = chosen_is kind (first_value values) values (λ first here. first_is kind values first all here) in
    subst (λ (x : Kind). agrees x (coalesced values) ≡ true) fit.1 (own_told kind (coalesced values) is)

one_kind_told : (many : ℕ) (kinds : List Kind) (values : List Value) → are_of kinds values ≡ true → (k : Kind) → given_by (one_kind many) kinds ≡ Some k → agrees k (coalesced values) ≡ true
one_kind_told many kinds values of k e =
    four_give (λ k. agrees k (coalesced values) ≡ true) refl (given (always (replicate many P.Integer) K.Integer) kinds) (given (always (replicate many P.Real) K.Real) kinds) (given (always (replicate many P.Text) K.Text) kinds) (given (always (replicate many P.Stamp) K.Stamp) kinds)
    (kind_row P.Integer K.Integer integer many kinds values of) (kind_row P.Real K.Real real many kinds values of) (kind_row P.Text K.Text text_only many kinds values of) (kind_row P.Stamp K.Stamp stamp_only many kinds values of) k e

coalesce_kinds : (kinds : List Kind) (k : Kind) → kind_of_call f.Coalesce kinds ≡ Some k → given_by (one_kind (length kinds)) kinds ≡ Some k
coalesce_kinds kinds k e = tested (nat_le 2 (length kinds)) e
  where
    tested : (b : Bool) → given_by (cond b (one_kind (length kinds)) []) kinds ≡ Some k → given_by (one_kind (length kinds)) kinds ≡ Some k
    tested true e = e
    tested false e = absurd cc

coalesce : (values : List Value) (kinds : List Kind) (k : Kind) → are_of kinds values ≡ true → kind_of_call f.Coalesce kinds ≡ Some k → agrees k (applied f.Coalesce values) ≡ true
coalesce [] kinds k of e = null_told k
coalesce (a ∷ []) kinds k of e = null_told k
coalesce (a ∷ b ∷ []) kinds k of e = one_kind_told (length kinds) kinds (a ∷ b ∷ []) of k (coalesce_kinds kinds k e)
coalesce (a ∷ b ∷ c ∷ []) kinds k of e = one_kind_told (length kinds) kinds (a ∷ b ∷ c ∷ []) of k (coalesce_kinds kinds k e)
coalesce (a ∷ b ∷ c ∷ d ∷ values) kinds k of e = one_kind_told (length kinds) kinds (a ∷ b ∷ c ∷ d ∷ values) of k (coalesce_kinds kinds k e)

replace_null : (values : List Value) (kinds : List Kind) (k : Kind) → are_of kinds values ≡ true → kind_of_call f.ReplaceIfNull kinds ≡ Some k → agrees k (applied f.ReplaceIfNull values) ≡ true
replace_null [] kinds k of e = null_told k
replace_null (a ∷ []) kinds k of e = null_told k
replace_null (a ∷ b ∷ []) kinds k of e = one_kind_told 2 kinds (a ∷ b ∷ []) of k e
replace_null (a ∷ b ∷ c ∷ []) kinds k of e = null_told k
replace_null (a ∷ b ∷ c ∷ d ∷ values) kinds k of e = null_told k

-- what a call gives agrees with the kind that the table tells of the kinds of its arguments
pub kind_told : (function : Function) (values : List Value) (kinds : List Kind) (k : Kind) → are_of kinds values ≡ true → kind_of_call function kinds ≡ Some k → agrees k (applied function values) ≡ true
unfolding has_one_kind
kind_told f.Add values kinds k of e = add values kinds k of e
kind_told f.Sub values kinds k of e = sub values kinds k of e
kind_told f.Mul values kinds k of e = mul values kinds k of e
kind_told f.Div values kinds k of e = div values kinds k of e
kind_told f.Mod values kinds k of e = modulo values kinds k of e
kind_told f.Quantize values kinds k of e = quantize values kinds k of e
kind_told f.Coalesce values kinds k of e = coalesce values kinds k of e
kind_told f.ReplaceIfNull values kinds k of e = replace_null values kinds k of e
kind_told f.ReplaceIfNotNull values kinds k of e = replace values kinds k of e
kind_told f.Strcat values kinds k of e = single f.Strcat values kinds k refl e
kind_told f.Strlen values kinds k of e = single f.Strlen values kinds k refl e
kind_told f.Strcnt values kinds k of e = single f.Strcnt values kinds k refl e
kind_told f.Substr values kinds k of e = single f.Substr values kinds k refl e
kind_told f.IndexOf values kinds k of e = single f.IndexOf values kinds k refl e
kind_told f.LastIndexOf values kinds k of e = single f.LastIndexOf values kinds k refl e
kind_told f.ReplaceStr values kinds k of e = single f.ReplaceStr values kinds k refl e
kind_told f.ReplaceChr values kinds k of e = single f.ReplaceChr values kinds k refl e
kind_told f.ToLowercase values kinds k of e = single f.ToLowercase values kinds k refl e
kind_told f.ToUppercase values kinds k of e = single f.ToUppercase values kinds k refl e
kind_told f.Trim values kinds k of e = single f.Trim values kinds k refl e
kind_told f.Ltrim values kinds k of e = single f.Ltrim values kinds k refl e
kind_told f.Rtrim values kinds k of e = single f.Rtrim values kinds k refl e
kind_told f.ExtractToken values kinds k of e = single f.ExtractToken values kinds k refl e
kind_told f.ExtractValue values kinds k of e = single f.ExtractValue values kinds k refl e
kind_told f.ExtractPrefix values kinds k of e = single f.ExtractPrefix values kinds k refl e
kind_told f.ExtractSuffix values kinds k of e = single f.ExtractSuffix values kinds k refl e
kind_told f.ExtractFilename values kinds k of e = single f.ExtractFilename values kinds k refl e
kind_told f.ExtractPath values kinds k of e = single f.ExtractPath values kinds k refl e
kind_told f.ExtractExtension values kinds k of e = single f.ExtractExtension values kinds k refl e
kind_told f.Urlescape values kinds k of e = single f.Urlescape values kinds k refl e
kind_told f.Urlunescape values kinds k of e = single f.Urlunescape values kinds k refl e
kind_told f.ToString values kinds k of e = single f.ToString values kinds k refl e
kind_told f.ToInt values kinds k of e = single f.ToInt values kinds k refl e
kind_told f.ToReal values kinds k of e = single f.ToReal values kinds k refl e
kind_told f.ToTimestamp values kinds k of e = single f.ToTimestamp values kinds k refl e
kind_told f.ToDate values kinds k of e = single f.ToDate values kinds k refl e
kind_told f.ToTime values kinds k of e = single f.ToTime values kinds k refl e
kind_told f.Ipv4ToInt values kinds k of e = single f.Ipv4ToInt values kinds k refl e
kind_told f.IntToIpv4 values kinds k of e = single f.IntToIpv4 values kinds k refl e
