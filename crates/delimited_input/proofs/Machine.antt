-- The machine of `csv` reads a line as the rules say.
use Rattle.std.proofs.Common.{◌≡◌, ℕ, Bool, true, false, List, [], ◌∷◌, ◌++◌, Option, Some, None, ◌==◌, ◌&&◌, ◌<◌, length, refl, ◌∙◌, ap, inl, inr, append_assoc, arith}
use Rattle.csv.specs.Reading.{ReadsNext, strip_bom}
use Rattle.std.proofs.lemmas.List.{append-nil}
use Rattle.std.proofs.lemmas.Bool.{cases_Bool, ne_eqb}
use Rattle.std.specs.List.{AllByRecursion}
use Rattle.csv.specs.Machine.{Read, next_record}
use Rattle.csv.specs.declared.parser.Config.{Config}
use Rattle.csv.specs.declared.parser.State.{State}
use Rattle.csv.specs.declared.parser.State.TheVariants as st
use Rattle.csv.specs.declared.parser.Terminator.TheVariants as term
use Rattle.delimited_input.proofs.Places.{Place, Rest, onto, ended, rest_from, line_fields, IsInLine}
use Rattle.delimited_input.proofs.Places.Place.{Start, Plain, Quoted, Behind}

-- how the reader of one line is set up
abbrev pub setup : ℕ → Bool → Config
setup sep quotes = record { delimiter = sep; quote = 34; escape = None; double_quote = true; quoting = quotes; comment = None; terminator = term.CRLF }

abbrev state_at : Place → State
state_at Start = st.StartField
state_at Plain = st.InField
state_at Quoted = st.InQuoted
state_at Behind = st.AfterQuote

-- fields that are read, and then the rest's
abbrev read_as : List (List ℕ) → List ℕ → Rest → Read
read_as fields field rest = (fields ++ ((field ++ rest.0) ∷ rest.1), st.StartRecord, [])

and_false : (b : Bool) → (b && false) ≡ false
and_false true = refl
and_false false = refl

and_true : (b : Bool) → (b && true) ≡ b
and_true true = refl
and_true false = refl

module _ (sep : ℕ) (quotes : Bool) where
  ends : (fields : List (List ℕ)) (field : List ℕ) (rest : Rest) → read_as (fields ++ (field ∷ [])) [] rest ≡ read_as fields field (ended rest)
  ends fields field rest = simp (append_assoc, append-nil)

  copies : (c : ℕ) (fields : List (List ℕ)) (field : List ℕ) (rest : Rest) → read_as fields (field ++ (c ∷ [])) rest ≡ read_as fields field (onto c rest)
  copies c fields field rest = simp append_assoc

  reads : (place : Place) (xs : List ℕ) → AllByRecursion IsInLine xs → (fields : List (List ℕ)) (field : List ℕ)
      → next_record (setup sep quotes) (state_at place) fields field xs ≡ Some (read_as fields field (rest_from sep quotes place xs))
  unfolding next_record rest_from
  reads Start [] all fields field = simp append-nil
  reads Plain [] all fields field = simp append-nil
  reads Quoted [] all fields field = simp append-nil
  reads Behind [] all fields field = simp append-nil
  reads Start (c ∷ cs) all fields field =
      let cr = ne_eqb c 13 all.0.0 in
      let lf = ne_eqb c 10 all.0.1 in
      elim (cases_Bool (quotes && (c == 34))) [
        | inl quote ↦ rw quote (reads Quoted cs all.1 fields field)
        | inr other ↦ elim (cases_Bool (c == sep)) [
          | inl is ↦ rw (other, is) (reads Start cs all.1 (fields ++ (field ∷ [])) [] ∙ ap (λ (r : Read). Some r) (ends fields field (rest_from sep quotes Start cs)))
          | inr not ↦ rw (other, not, cr, lf) (reads Plain cs all.1 fields (field ++ (c ∷ [])) ∙ ap (λ (r : Read). Some r) (copies c fields field (rest_from sep quotes Plain cs)))
        ]
      ]
  reads Plain (c ∷ cs) all fields field =
      let cr = ne_eqb c 13 all.0.0 in
      let lf = ne_eqb c 10 all.0.1 in
      elim (cases_Bool (c == sep)) [
        | inl is ↦ rw is (reads Start cs all.1 (fields ++ (field ∷ [])) [] ∙ ap (λ (r : Read). Some r) (ends fields field (rest_from sep quotes Start cs)))
        | inr not ↦ rw (not, cr, lf) (reads Plain cs all.1 fields (field ++ (c ∷ [])) ∙ ap (λ (r : Read). Some r) (copies c fields field (rest_from sep quotes Plain cs)))
      ]
  reads Quoted (c ∷ cs) all fields field =
      elim (cases_Bool (quotes && (c == 34))) [
        | inl quote ↦ rw quote (reads Behind cs all.1 fields field)
        | inr other ↦ rw (other, and_false quotes) (reads Quoted cs all.1 fields (field ++ (c ∷ [])) ∙ ap (λ (r : Read). Some r) (copies c fields field (rest_from sep quotes Quoted cs)))
      ]
  reads Behind (c ∷ cs) all fields field =
      let cr = ne_eqb c 13 all.0.0 in
      let lf = ne_eqb c 10 all.0.1 in
      elim (cases_Bool (quotes && (c == 34))) [
        | inl quote ↦ rw (and_true quotes, quote) (reads Quoted cs all.1 fields (field ++ (c ∷ [])) ∙ ap (λ (r : Read). Some r) (copies c fields field (rest_from sep quotes Quoted cs)))
        | inr other ↦ elim (cases_Bool (c == sep)) [
          | inl is ↦ rw (and_true quotes, other, is) (reads Start cs all.1 (fields ++ (field ∷ [])) [] ∙ ap (λ (r : Read). Some r) (ends fields field (rest_from sep quotes Start cs)))
          | inr not ↦ rw (and_true quotes, other, not, cr, lf) (reads Plain cs all.1 fields (field ++ (c ∷ [])) ∙ ap (λ (r : Read). Some r) (copies c fields field (rest_from sep quotes Plain cs)))
        ]
      ]

-- a line's first byte starts its first record, and its first field
pub reads_line : (sep : ℕ) (quotes : Bool) (c : ℕ) (cs : List ℕ) → AllByRecursion IsInLine (c ∷ cs)
    → next_record (setup sep quotes) st.StartRecord [] [] (c ∷ cs) ≡ Some (line_fields sep quotes (c ∷ cs), st.StartRecord, [])
unfolding next_record
reads_line sep quotes c cs all =
    let cr = ne_eqb c 13 all.0.0 in
    let lf = ne_eqb c 10 all.0.1 in
    rw (cr, lf) (rw (cr, lf) at (reads sep quotes Start (c ∷ cs) all [] []))

took : (cfg : Config) (line : List ℕ) (after : Option (List ℕ)) (found : Bool) (fields : List (List ℕ)) (s : State) (r : Read)
    → ReadsNext cfg st.StartRecord (Some line) after found fields s → next_record cfg st.StartRecord [] [] line ≡ Some r → fields ≡ r.0
took cfg line None found fields s r h e = absurd h
took cfg line (Some ys) found fields s r h e = (rw e at h).1

-- the fields that a read of a whole line took
pub read_is : (sep : ℕ) (quotes : Bool) (line : List ℕ) → 0 < length line → AllByRecursion IsInLine line
    → (cfg : Config) (start : State) (source after : Option (List ℕ)) (found : Bool) (fields : List (List ℕ)) (s : State)
    → cfg ≡ setup sep quotes → start ≡ st.StartRecord → source ≡ Some line → ReadsNext cfg start source after found fields s → fields ≡ line_fields sep quotes line
read_is sep quotes [] filled all cfg start source after found fields s ec es esrc h = absurd (omega arith)
read_is sep quotes (c ∷ cs) filled all cfg start source after found fields s ec es esrc h =
    took (setup sep quotes) (c ∷ cs) after found fields s (line_fields sep quotes (c ∷ cs), st.StartRecord, []) (rw (ec, es, esrc) at h) (reads_line sep quotes c cs all)

-- the reader takes the mark off that stands before the line
pub unmarked : (line : List ℕ) → strip_bom (0xEF ∷ 0xBB ∷ 0xBF ∷ line) ≡ line
unfolding strip_bom
unmarked line = refl
