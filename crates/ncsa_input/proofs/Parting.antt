-- The parts of a line, and its row.
use Rattle.std.proofs.Common.{◌≡◌, ℕ, zero, suc, true, false, ◌==◌, List, [], ◌∷◌, length, drop, replicate, get_or, Option, Some, None, refl, sym, ap, ◌∙◌, inl, inr}
use Rattle.std.proofs.lemmas.Bool.{cases_Bool, eqb-true}
use Rattle.std.specs.Prelude.{◌≢◌, ◌↔◌}
use Rattle.lp_model.specs.Reading.{Columns, Slots, passed, bad, rows}
use Rattle.ncsa_input.specs.Form.{Client, NcsaParts, IsNcsaLine, ncsa_row}
use Rattle.ncsa_input.specs.Lines.{shapes, is_of_spaces, line_fields, ten_slots, row_reading, ncsa_reading}
use Rattle.ncsa_input.proofs.Forming.{joined_read, joined_other, other_no_spaces, BeginsOther}
use Rattle.ncsa_input.proofs.Spelling.{AreFit, IsRead, fields_behind-spelled}

abbrev parts_with : (host log_name user time request status bytes : List ℕ) → Option Client → NcsaParts
parts_with host log_name user time request status bytes client =
    record { host = host; log_name = log_name; user = user; time = time; request = request; status = status; bytes = bytes; client = client }

abbrev client_with : (referer agent : List ℕ) → Option (List ℕ) → Client
client_with referer agent cookie = record { referer = referer; agent = agent; cookie = cookie }

-- ---- the fields of a line with these parts

abbrev cookie_fields : Option (List ℕ) → List (List ℕ)
cookie_fields None = []
cookie_fields (Some cookie) = cookie ∷ []

abbrev client_fields : Option Client → List (List ℕ)
client_fields None = []
client_fields (Some client) = client.referer ∷ client.agent ∷ cookie_fields client.cookie

abbrev fields_of : NcsaParts → List (List ℕ)
fields_of parts = parts.host ∷ parts.log_name ∷ parts.user ∷ parts.time ∷ parts.request ∷ parts.status ∷ parts.bytes ∷ client_fields parts.client

-- the parts are told by the fields
cookie_of : List (List ℕ) → Option (List ℕ)
cookie_of [] = None
cookie_of (cookie ∷ fields) = Some cookie

client_of : List (List ℕ) → Option Client
client_of [] = None
client_of (referer ∷ []) = None
client_of (referer ∷ agent ∷ fields) = Some (client_with referer agent (cookie_of fields))

parts_of : List (List ℕ) → NcsaParts
parts_of fields =
    parts_with (get_or fields 0 []) (get_or fields 1 []) (get_or fields 2 []) (get_or fields 3 []) (get_or fields 4 []) (get_or fields 5 []) (get_or fields 6 []) (client_of (drop 7 fields))

cookie_back : (cookie : Option (List ℕ)) → cookie_of (cookie_fields cookie) ≡ cookie
unfolding cookie_of
cookie_back None = refl
cookie_back (Some cookie) = refl

client_back : (client : Option Client) → client_of (client_fields client) ≡ client
unfolding client_of
client_back None = refl
client_back (Some client) = ap (λ cookie. Some (client_with client.referer client.agent cookie)) (cookie_back client.cookie)

parts_back : (parts : NcsaParts) → parts_of (fields_of parts) ≡ parts
unfolding parts_of
parts_back parts = ap (λ client. parts_with parts.host parts.log_name parts.user parts.time parts.request parts.status parts.bytes client) (client_back parts.client)

-- ---- the row of a line with these parts

row_combined : (host log_name user time request status bytes referer agent : List ℕ) (cookie : Option (List ℕ))
    → ten_slots (fields_of (parts_with host log_name user time request status bytes (Some (client_with referer agent cookie)))) ≡ ncsa_row (parts_with host log_name user time request status bytes (Some (client_with referer agent cookie)))
row_combined host log_name user time request status bytes referer agent None = refl
row_combined host log_name user time request status bytes referer agent (Some cookie) = refl

row_common : (host log_name user time request status bytes : List ℕ) (client : Option Client)
    → ten_slots (fields_of (parts_with host log_name user time request status bytes client)) ≡ ncsa_row (parts_with host log_name user time request status bytes client)
row_common host log_name user time request status bytes None = refl
row_common host log_name user time request status bytes (Some client) = row_combined host log_name user time request status bytes client.referer client.agent client.cookie

row_is : (parts : NcsaParts) → ten_slots (fields_of parts) ≡ ncsa_row parts
row_is parts = row_common parts.host parts.log_name parts.user parts.time parts.request parts.status parts.bytes parts.client

-- ---- a line of the form is read

-- the fields are read, and a space doesn't stand first
record IsWhole (line : List ℕ) (fields : List (List ℕ)) : Type 0 where
  read : line_fields line ≡ Some fields
  begins : BeginsOther 32 line

whole_combined : (line host log_name user time request status bytes referer agent : List ℕ) (cookie : Option (List ℕ)) → IsNcsaLine line (parts_with host log_name user time request status bytes (Some (client_with referer agent cookie)))
    → IsWhole line (fields_of (parts_with host log_name user time request status bytes (Some (client_with referer agent cookie))))
whole_combined line host log_name user time request status bytes referer agent None is =
    let client = is.client in
    let fit : AreFit shapes (host ∷ log_name ∷ user ∷ time ∷ request ∷ status ∷ bytes ∷ referer ∷ agent ∷ []) = (is.host, (is.log_name, (is.user, (is.time, (is.request, (is.status, (is.bytes, (client.referer, (client.agent, tt))))))))) in
    record {
      read = joined_read 0 shapes (host ∷ log_name ∷ user ∷ time ∷ request ∷ status ∷ bytes ∷ referer ∷ agent ∷ []) line fit is.joined refl;
      begins = joined_other shapes host (log_name ∷ user ∷ time ∷ request ∷ status ∷ bytes ∷ referer ∷ agent ∷ []) line fit is.joined;
    }
whole_combined line host log_name user time request status bytes referer agent (Some cookie) is =
    let client = is.client in
    let fit : AreFit shapes (host ∷ log_name ∷ user ∷ time ∷ request ∷ status ∷ bytes ∷ referer ∷ agent ∷ cookie ∷ []) = (is.host, (is.log_name, (is.user, (is.time, (is.request, (is.status, (is.bytes, (client.referer, (client.agent, (client.cookie, tt)))))))))) in
    record {
      read = joined_read 0 shapes (host ∷ log_name ∷ user ∷ time ∷ request ∷ status ∷ bytes ∷ referer ∷ agent ∷ cookie ∷ []) line fit is.joined refl;
      begins = joined_other shapes host (log_name ∷ user ∷ time ∷ request ∷ status ∷ bytes ∷ referer ∷ agent ∷ cookie ∷ []) line fit is.joined;
    }

whole_common : (line host log_name user time request status bytes : List ℕ) (client : Option Client) → IsNcsaLine line (parts_with host log_name user time request status bytes client)
    → IsWhole line (fields_of (parts_with host log_name user time request status bytes client))
whole_common line host log_name user time request status bytes None is =
    let fit : AreFit shapes (host ∷ log_name ∷ user ∷ time ∷ request ∷ status ∷ bytes ∷ []) = (is.host, (is.log_name, (is.user, (is.time, (is.request, (is.status, (is.bytes, tt))))))) in
    record {
      read = joined_read 0 shapes (host ∷ log_name ∷ user ∷ time ∷ request ∷ status ∷ bytes ∷ []) line fit is.joined refl;
      begins = joined_other shapes host (log_name ∷ user ∷ time ∷ request ∷ status ∷ bytes ∷ []) line fit is.joined;
    }
whole_common line host log_name user time request status bytes (Some client) is = whole_combined line host log_name user time request status bytes client.referer client.agent client.cookie is

whole_is : (line : List ℕ) (parts : NcsaParts) → IsNcsaLine line parts → IsWhole line (fields_of parts)
whole_is line parts is = whole_common line parts.host parts.log_name parts.user parts.time parts.request parts.status parts.bytes parts.client is

pub formed_read : (line : List ℕ) (columns : Option Columns) (parts : NcsaParts) → IsNcsaLine line parts → ncsa_reading line columns ≡ rows (ncsa_row parts ∷ [])
formed_read line columns parts is =
    let whole = whole_is line parts is in
    let filled : is_of_spaces line ≡ false = other_no_spaces line whole.begins in
    rw filled (ap row_reading whole.read ∙ ap (λ slots. rows (slots ∷ [])) (row_is parts))

pub one_parting : (line : List ℕ) (a b : NcsaParts) → IsNcsaLine line a → IsNcsaLine line b → a ≡ b
one_parting line a b is also = sym (parts_back a) ∙ (ap parts_of (same (fields_of a) (fields_of b) (sym (whole_is line a is).read ∙ (whole_is line b also).read)) ∙ parts_back b)
  where
    same : (a b : List (List ℕ)) → Some a ≡ Some b → a ≡ b
    same a b e = cc

-- ---- a line that is read has the form

abbrev HasParts : List ℕ → List (List ℕ) → Type 0
HasParts line fields = (parts : NcsaParts) × (IsNcsaLine line parts × (fields ≡ fields_of parts))

never : false ≡ true → ⊥
never e = absurd cc

parted : (line : List ℕ) (fields : List (List ℕ)) → IsRead 0 shapes fields line → HasParts line fields
parted line [] is = absurd is.joined
parted line (host ∷ []) is = absurd (never is.ends)
parted line (host ∷ log_name ∷ []) is = absurd (never is.ends)
parted line (host ∷ log_name ∷ user ∷ []) is = absurd (never is.ends)
parted line (host ∷ log_name ∷ user ∷ time ∷ []) is = absurd (never is.ends)
parted line (host ∷ log_name ∷ user ∷ time ∷ request ∷ []) is = absurd (never is.ends)
parted line (host ∷ log_name ∷ user ∷ time ∷ request ∷ status ∷ []) is = absurd (never is.ends)
parted line (host ∷ log_name ∷ user ∷ time ∷ request ∷ status ∷ bytes ∷ []) is =
    let fit = is.fit in (
      parts_with host log_name user time request status bytes None,
      (
        record {
          host = fit.0;
          log_name = fit.1.0;
          user = fit.1.1.0;
          time = fit.1.1.1.0;
          request = fit.1.1.1.1.0;
          status = fit.1.1.1.1.1.0;
          bytes = fit.1.1.1.1.1.1.0;
          client = tt;
          joined = is.joined;
        },
        refl,
      ),
    )
parted line (host ∷ log_name ∷ user ∷ time ∷ request ∷ status ∷ bytes ∷ referer ∷ []) is = absurd (never is.ends)
parted line (host ∷ log_name ∷ user ∷ time ∷ request ∷ status ∷ bytes ∷ referer ∷ agent ∷ []) is =
    let fit = is.fit in (
      parts_with host log_name user time request status bytes (Some (client_with referer agent None)),
      (
        record {
          host = fit.0;
          log_name = fit.1.0;
          user = fit.1.1.0;
          time = fit.1.1.1.0;
          request = fit.1.1.1.1.0;
          status = fit.1.1.1.1.1.0;
          bytes = fit.1.1.1.1.1.1.0;
          client = record { referer = fit.1.1.1.1.1.1.1.0; agent = fit.1.1.1.1.1.1.1.1.0; cookie = tt };
          joined = is.joined;
        },
        refl,
      ),
    )
parted line (host ∷ log_name ∷ user ∷ time ∷ request ∷ status ∷ bytes ∷ referer ∷ agent ∷ cookie ∷ []) is =
    let fit = is.fit in (
      parts_with host log_name user time request status bytes (Some (client_with referer agent (Some cookie))),
      (
        record {
          host = fit.0;
          log_name = fit.1.0;
          user = fit.1.1.0;
          time = fit.1.1.1.0;
          request = fit.1.1.1.1.0;
          status = fit.1.1.1.1.1.0;
          bytes = fit.1.1.1.1.1.1.0;
          client = record { referer = fit.1.1.1.1.1.1.1.0; agent = fit.1.1.1.1.1.1.1.1.0; cookie = fit.1.1.1.1.1.1.1.1.1.0 };
          joined = is.joined;
        },
        refl,
      ),
    )
parted line (host ∷ log_name ∷ user ∷ time ∷ request ∷ status ∷ bytes ∷ referer ∷ agent ∷ cookie ∷ more ∷ fields) is = absurd is.fit.1.1.1.1.1.1.1.1.1.1

abbrev HasRow : List ℕ → List Slots → Type 0
HasRow line found = (parts : NcsaParts) × (IsNcsaLine line parts × (found ≡ ncsa_row parts ∷ []))

row_found : (line : List ℕ) (fields : List (List ℕ)) (found : List Slots) → rows (ten_slots fields ∷ []) ≡ rows found → HasParts line fields → HasRow line found
row_found line fields found e has =
    let same : ten_slots fields ∷ [] ≡ found = cc in
    (has.0, (has.1.0, sym same ∙ (ap (λ f. ten_slots f ∷ []) has.1.1 ∙ ap (λ slots. slots ∷ []) (row_is has.0))))

by_fields : (line : List ℕ) (found : List Slots) (fields : Option (List (List ℕ))) → line_fields line ≡ fields → row_reading fields ≡ rows found → HasRow line found
by_fields line found None e h = absurd cc
by_fields line found (Some fields) e h = row_found line fields found h (parted line fields (fields_behind-spelled 0 shapes line fields e))

pub read_formed : (line : List ℕ) (columns : Option Columns) (found : List Slots) → ncsa_reading line columns ≡ rows found → HasRow line found
read_formed line columns found e =
    elim (cases_Bool (is_of_spaces line)) [
      | inl spaces ↦ let h : passed ≡ rows found = rw spaces at e in absurd cc
      | inr other ↦ let h : row_reading (line_fields line) ≡ rows found = rw other at e in by_fields line found (line_fields line) refl h
    ]

-- ---- any other line

spaces_are : (line : List ℕ) → is_of_spaces line ≡ true → line ≡ replicate (length line) 32
spaces_are [] e = refl
spaces_are (b ∷ bs) e =
    elim (cases_Bool (b == 32)) [
      | inl space ↦ let h : is_of_spaces bs ≡ true = rw space at e in ap (λ c. c ∷ bs) (eqb-true b 32 space) ∙ ap (λ t. 32 ∷ t) (spaces_are bs h)
      | inr other ↦ let h : false ≡ true = rw other at e in absurd cc
    ]

only_spaces : (many : ℕ) → is_of_spaces (replicate many 32) ≡ true
only_spaces zero = refl
only_spaces (suc many) = only_spaces many

no_row_reading : (line : List ℕ) (fields : Option (List (List ℕ))) → line_fields line ≡ fields → ((parts : NcsaParts) → IsNcsaLine line parts → ⊥) → row_reading fields ≡ bad
no_row_reading line None e none = refl
no_row_reading line (Some fields) e none = let has : HasParts line fields = parted line fields (fields_behind-spelled 0 shapes line fields e) in absurd (none has.0 has.1.0)

never_passed : (fields : Option (List (List ℕ))) → row_reading fields ≡ passed → ⊥
never_passed None e = absurd cc
never_passed (Some fields) e = absurd cc

pub passed_spaces : (line : List ℕ) (columns : Option Columns) → ncsa_reading line columns ≡ passed ↔ (line ≡ replicate (length line) 32)
passed_spaces line columns = (there line columns, back line columns)
  where
    there : (line : List ℕ) (columns : Option Columns) → ncsa_reading line columns ≡ passed → line ≡ replicate (length line) 32
    there line columns e =
        elim (cases_Bool (is_of_spaces line)) [
          | inl spaces ↦ spaces_are line spaces
          | inr other ↦ let h : row_reading (line_fields line) ≡ passed = rw other at e in absurd (never_passed (line_fields line) h)
        ]

    back : (line : List ℕ) (columns : Option Columns) → line ≡ replicate (length line) 32 → ncsa_reading line columns ≡ passed
    back line columns e = let spaces : is_of_spaces line ≡ true = ap is_of_spaces e ∙ only_spaces (length line) in rw spaces refl

pub others_bad : (line : List ℕ) (columns : Option Columns) → line ≢ replicate (length line) 32 → ((parts : NcsaParts) → IsNcsaLine line parts → ⊥) → ncsa_reading line columns ≡ bad
others_bad line columns some none =
    elim (cases_Bool (is_of_spaces line)) [
      | inl spaces ↦ absurd (some (spaces_are line spaces))
      | inr other ↦ rw other (no_row_reading line (line_fields line) refl none)
    ]
