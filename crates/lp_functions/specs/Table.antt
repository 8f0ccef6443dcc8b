-- Which arguments a function takes, and the kind of what it gives.
use Rattle.std.specs.Prelude.{ℕ, Bool, ◌&&◌, ◌==◌, nat_le, List, [], ◌∷◌, length, replicate, if◌then◌else◌, Option, Some, None}
use Rattle.std.specs.List.{list_any}
use Rattle.lp_values.specs.declared.kind.Kind.{Kind}
use Rattle.lp_values.specs.declared.kind.Kind.TheVariants as K
use Rattle.lp_functions.specs.declared.function.Function.{Function}
use Rattle.lp_functions.specs.declared.function.Function.TheVariants as f
use Rattle.lp_functions.specs.declared.place.Place.{Place}
use Rattle.lp_functions.specs.declared.place.Place.TheVariants as P
use Rattle.lp_functions.specs.Fitting.{fits, same_kind}

-- the kind of what a row gives: always the same, or that of its numbers
pub data Outcome : Type 0 where
  Always : Kind → Outcome
  OfNumbers : Outcome

pub record Row : Type 0 where
  pub places : List Place
  pub outcome : Outcome

abbrev pub always : List Place → Kind → Row
always places kind = record { places = places; outcome = Always kind }

-- two numbers, whose kind the result has
abbrev pub numbers : Row
numbers = record { places = P.Number ∷ P.Number ∷ []; outcome = OfNumbers }

-- so many values of one kind, which the result has
abbrev pub one_kind : ℕ → List Row
one_kind many = always (replicate many P.Integer) K.Integer ∷ always (replicate many P.Real) K.Real ∷ always (replicate many P.Text) K.Text ∷ always (replicate many P.Stamp) K.Stamp ∷ []

-- the rows of a function, for a call with so many arguments, of which COALESCE takes any number from two on
abbrev pub rows_of : Function → ℕ → List Row
rows_of f.Add many = numbers ∷ []
rows_of f.Sub many = numbers ∷ []
rows_of f.Mul many = numbers ∷ []
rows_of f.Div many = numbers ∷ []
rows_of f.Mod many = numbers ∷ []
rows_of f.Quantize many = numbers ∷ always (P.Stamp ∷ P.Integer ∷ []) K.Stamp ∷ []
rows_of f.Strcat many = always (P.Text ∷ P.Text ∷ []) K.Text ∷ []
rows_of f.Strlen many = always (P.Text ∷ []) K.Integer ∷ []
rows_of f.Strcnt many = always (P.Text ∷ P.Text ∷ []) K.Integer ∷ []
rows_of f.Substr many = always (P.Text ∷ P.Integer ∷ []) K.Text ∷ always (P.Text ∷ P.Integer ∷ P.Integer ∷ []) K.Text ∷ []
rows_of f.IndexOf many = always (P.Text ∷ P.Text ∷ []) K.Integer ∷ []
rows_of f.LastIndexOf many = always (P.Text ∷ P.Text ∷ []) K.Integer ∷ []
rows_of f.ReplaceStr many = always (P.Text ∷ P.Text ∷ P.Text ∷ []) K.Text ∷ []
rows_of f.ReplaceChr many = always (P.Text ∷ P.Text ∷ P.Text ∷ []) K.Text ∷ []
rows_of f.ToLowercase many = always (P.Text ∷ []) K.Text ∷ []
rows_of f.ToUppercase many = always (P.Text ∷ []) K.Text ∷ []
rows_of f.Trim many = always (P.Text ∷ []) K.Text ∷ []
rows_of f.Ltrim many = always (P.Text ∷ []) K.Text ∷ []
rows_of f.Rtrim many = always (P.Text ∷ []) K.Text ∷ []
rows_of f.ExtractToken many = always (P.Text ∷ P.Integer ∷ []) K.Text ∷ always (P.Text ∷ P.Integer ∷ P.Text ∷ []) K.Text ∷ []
rows_of f.ExtractValue many = always (P.Text ∷ P.Text ∷ []) K.Text ∷ always (P.Text ∷ P.Text ∷ P.Text ∷ []) K.Text ∷ []
rows_of f.ExtractPrefix many = always (P.Text ∷ P.Integer ∷ P.Text ∷ []) K.Text ∷ []
rows_of f.ExtractSuffix many = always (P.Text ∷ P.Integer ∷ P.Text ∷ []) K.Text ∷ []
rows_of f.ExtractFilename many = always (P.Text ∷ []) K.Text ∷ []
rows_of f.ExtractPath many = always (P.Text ∷ []) K.Text ∷ []
rows_of f.ExtractExtension many = always (P.Text ∷ []) K.Text ∷ []
rows_of f.Urlescape many = always (P.Text ∷ []) K.Text ∷ []
rows_of f.Urlunescape many = always (P.Text ∷ []) K.Text ∷ []
rows_of f.ToString many = always (P.Value ∷ []) K.Text ∷ always (P.Stamp ∷ P.Text ∷ []) K.Text ∷ []
rows_of f.ToInt many = always (P.NumberOrText ∷ []) K.Integer ∷ []
rows_of f.ToReal many = always (P.NumberOrText ∷ []) K.Real ∷ []
rows_of f.ToTimestamp many = always (P.Text ∷ P.Text ∷ []) K.Stamp ∷ always (P.Stamp ∷ P.Stamp ∷ []) K.Stamp ∷ []
rows_of f.ToDate many = always (P.Stamp ∷ []) K.Stamp ∷ []
rows_of f.ToTime many = always (P.Stamp ∷ []) K.Stamp ∷ []
rows_of f.Coalesce many = if nat_le 2 many then one_kind many else []
rows_of f.ReplaceIfNull many = one_kind 2
rows_of f.ReplaceIfNotNull many = always (P.Value ∷ P.Integer ∷ []) K.Integer ∷ always (P.Value ∷ P.Real ∷ []) K.Real ∷ always (P.Value ∷ P.Text ∷ []) K.Text ∷ always (P.Value ∷ P.Stamp ∷ []) K.Stamp ∷ []
rows_of f.Ipv4ToInt many = always (P.Text ∷ []) K.Integer ∷ []
rows_of f.IntToIpv4 many = always (P.Integer ∷ []) K.Text ∷ []

-- a Real where one of them is, else an Integer where one of them is
abbrev pub kind_of_numbers : List Kind → Kind
kind_of_numbers kinds = if list_any (same_kind K.Real) kinds then K.Real else if list_any (same_kind K.Integer) kinds then K.Integer else K.Any

abbrev pub outcome_of : Outcome → List Kind → Kind
outcome_of (Always kind) kinds = kind
outcome_of OfNumbers kinds = kind_of_numbers kinds

-- what a row gives over such arguments, where they fit
abbrev pub given : Row → List Kind → Option Kind
given row kinds = if fits row.places kinds then Some (outcome_of row.outcome kinds) else None

-- of two rows the one that fits; where both do and differ, Any
abbrev pub joined : Option Kind → Option Kind → Option Kind
joined a None = a
joined None (Some b) = Some b
joined (Some a) (Some b) = Some (if same_kind a b then a else K.Any)

abbrev pub given_by : List Row → List Kind → Option Kind
given_by [] kinds = None
given_by (row ∷ rows) kinds = joined (given row kinds) (given_by rows kinds)

-- the kind of a call over such arguments
abbrev pub kind_of_call : Function → List Kind → Option Kind
kind_of_call function kinds = given_by (rows_of function (length kinds)) kinds

-- whether some row has so many arguments
abbrev pub takes_many : Function → ℕ → Bool
takes_many function many = list_any (λ row. length row.places == many) (rows_of function many)

-- the argument that has to be a pattern
abbrev pub pattern_place : Function → List Kind → Option ℕ
pattern_place f.ToString kinds = if length kinds == 2 then Some 1 else None
pattern_place f.ToTimestamp kinds = if length kinds == 2 && list_any (same_kind K.Text) kinds then Some 1 else None
pattern_place function kinds = None
