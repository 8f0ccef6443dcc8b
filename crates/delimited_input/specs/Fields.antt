-- The fields of a line. Where quotes are closed and nothing follows them, this is the grammar of RFC 4180, section 2.
use Rattle.std.specs.Prelude.{ℕ, suc, zero, Bool, ◌&&◌, ◌==◌, List, [], ◌∷◌, length, if◌then◌else◌, Option, Some, None}
use Rattle.std.specs.List.{flat_map}
use Rattle.std.specs.Option.{option_to_list}

-- the bytes of the first field of a text, and what is left behind the separator that ends it; nothing where the text ends it
abbrev pub Cut : Type 0
Cut = List ℕ × Option (List ℕ)

abbrev pub onto : ℕ → Cut → Cut
onto b cut = (b ∷ cut.0, cut.1)

-- a field without quotes goes up to the next separator
unfoldable pub plain_field : ℕ → List ℕ → Cut
plain_field separator [] = ([], None)
plain_field separator (b ∷ bs) = if b == separator then ([], Some bs) else onto b (plain_field separator bs)

-- behind the quote that opens a field two quotes stand for one, and a single one closes it; what follows up to the next
-- separator is added as it stands
unfoldable pub quoted_field : ℕ → List ℕ → Cut
quoted_field separator [] = ([], None)
quoted_field separator (b ∷ []) = if b == 34 then ([], None) else (b ∷ [], None)
quoted_field separator (b ∷ c ∷ bs) =
    if b == 34 then (if c == 34 then onto 34 (quoted_field separator bs) else plain_field separator (c ∷ bs))
    else onto b (quoted_field separator (c ∷ bs))

-- a quote opens a field only at its start
unfoldable pub first_field : ℕ → Bool → List ℕ → Cut
first_field separator quotes [] = ([], None)
first_field separator quotes (b ∷ bs) = if quotes && (b == 34) then quoted_field separator bs else plain_field separator (b ∷ bs)

-- the first fields of a text, at most so many
unfoldable pub fields_among : ℕ → ℕ → Bool → List ℕ → List (List ℕ)
fields_among zero separator quotes text = []
fields_among (suc most) separator quotes text =
    (first_field separator quotes text).0 ∷ flat_map (fields_among most separator quotes) (option_to_list (first_field separator quotes text).1)

-- the fields of a text, which has at most one more than bytes
unfoldable pub fields_of : ℕ → Bool → List ℕ → List (List ℕ)
fields_of separator quotes text = fields_among (suc (length text)) separator quotes text
