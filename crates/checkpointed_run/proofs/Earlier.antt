-- What is listed in a folder is listed in what the folder was before it grew.
use Rattle.std.proofs.Common.{◌≡◌, ⊎_elim, ℕ, ◌+◌, ◌≤◌, List, [], ◌∷◌, ◌++◌, length, Option, Some, None, refl, ◌∙◌, ap, subst, arith, inl, inr, length-append}
use Rattle.std.specs.Prelude.{◌-◌, max, IsSome, IsSomeAnd, MatchOption, unwrap_or}
use Rattle.std.specs.List.{AllZip}
use Rattle.std.proofs.lemmas.Bool.{false≢true}
use Rattle.ledger_model.specs.Entries.{Entry}
use Rattle.ledger_model.specs.Entries.{Span as EntrySpan}
use Rattle.lp_model.specs.Outside.{Folder, Grows, Begins, bytes_in}
use Rattle.log_listing.specs.Listed.{Gives}
use Rattle.log_reading.specs.declared.span.Span.{Span}
use Rattle.positions.specs.Places.{Places}
use Rattle.positions.specs.Spanning.{Reaches, AreSpansOf}
use Rattle.positions.specs.Spans.{IsSpanOf}
use Rattle.run_model.specs.Listed.{Listed, IsThereAt, ListsStem, Lists, live_files, rotated_files, IsReadTo, AreListed}
use Rattle.run_model.specs.Logs.{Rotation, names, numbers, generation_name}

module _ (a b : Folder) (grows : Grows a b) where
  there_by : (name : List ℕ) (x y : Option (List ℕ)) → MatchOption x (y ≡ None) (λ old. IsSomeAnd y (λ new. Begins old new)) → (IsSome x → IsSome y) × (IsSome y → IsSome x)
  there_by name None y g = ((λ is. absurd (false≢true is)), (λ is. subst (λ (o : Option (List ℕ)). IsSome o) g is))
  there_by name (Some old) None g = absurd g
  there_by name (Some old) (Some new) g = ((λ is. refl), (λ is. refl))

  there_now : (name : List ℕ) → IsSome (a name) → IsSome (b name)
  there_now name = (there_by name (a name) (b name) (grows name)).0

  there_before : (name : List ℕ) → IsSome (b name) → IsSome (a name)
  there_before name = (there_by name (a name) (b name) (grows name)).1

  pub shorter : (name : List ℕ) → length (bytes_in a name) ≤ length (bytes_in b name)
  shorter name = by (a name) (b name) (grows name)
    where
      by : (x y : Option (List ℕ)) → MatchOption x (y ≡ None) (λ old. IsSomeAnd y (λ new. Begins old new)) → length (unwrap_or x []) ≤ length (unwrap_or y [])
      by None y g = omega arith
      by (Some old) None g = absurd g
      by (Some old) (Some new) g = let e = ap length g.1 in let l = length-append old g.0 in omega (arith, e, l)

  at_before : (stem : List ℕ) (number : ℕ) → IsThereAt b stem number → IsThereAt a stem number
  at_before stem number there = (there.0, there.1, there_before (generation_name stem number) there.2)

  at_now : (stem : List ℕ) (number : ℕ) → IsThereAt a stem number → IsThereAt b stem number
  at_now stem number there = (there.0, there.1, there_now (generation_name stem number) there.2)

  live_same : (stem : List ℕ) (number : ℕ) → live_files (b stem) stem number ≡ live_files (a stem) stem number
  live_same stem number = by (a stem) (b stem) (there_now stem) (there_before stem)
    where
      by : (x y : Option (List ℕ)) → (IsSome x → IsSome y) → (IsSome y → IsSome x) → live_files y stem number ≡ live_files x stem number
      by None None f g = refl
      by None (Some new) f g = absurd (false≢true (g refl))
      by (Some old) None f g = absurd (false≢true (f refl))
      by (Some old) (Some new) f g = refl

  stem_before : (entries : List Entry) (stem : List ℕ) (listed : List Listed) → ListsStem b entries stem listed → ListsStem a entries stem listed
  stem_before entries stem listed l = record {
    first = l.first;
    is_first = ⊎_elim (λ g. inl g)
        (λ o. inr (
          o.0,
          record {
            some = o.1.some;
            there = ⊎_elim (λ none. inl ((λ other is. none.0 other (at_now stem other is)), none.1)) (λ is. inr (at_before stem l.first is)) o.1.there;
            oldest = λ other is. o.1.oldest other (at_now stem other is);
          },
        ))
        l.is_first;
    newest = l.newest;
    is_newest = record { there = λ some. at_before stem l.newest (l.is_newest.there some); newest = λ other is. l.is_newest.newest other (at_now stem other is) };
    there = λ number low high. at_before stem number (l.there number low high);
    some = ⊎_elim (λ s. inl s) (λ s. inr (there_before stem s)) l.some;
    listed_are = l.listed_are ∙ ap (λ (files : List Listed). rotated_files stem l.first (l.newest + 1 - l.first) ++ files) (live_same stem (max (l.newest + 1) l.first));
  }

  stems_before : (entries : List Entry) (reached : List (List ℕ)) (each : List (List Listed)) → AllZip (ListsStem b entries) reached each → AllZip (ListsStem a entries) reached each
  stems_before entries [] [] lists = tt
  stems_before entries [] (l ∷ each) lists = absurd lists
  stems_before entries (stem ∷ reached) [] lists = absurd lists
  stems_before entries (stem ∷ reached) (l ∷ each) (is, lists) = (stem_before entries stem l is, stems_before entries reached each lists)

  pub lists_before : (rotation : Rotation) (entries : List Entry) (reached : List (List ℕ)) (files : List Listed) → Lists rotation b entries reached files → Lists rotation a entries reached files
  lists_before names entries reached files lists = lists
  lists_before numbers entries reached files lists = (lists.0, stems_before entries reached lists.0 lists.1, lists.2)

  gives_before : (texts : List (List ℕ)) (found : List (List (List ℕ))) → AllZip (Gives (Some b)) texts found → AllZip (Gives (Some a)) texts found
  gives_before [] [] gives = tt
  gives_before [] (f ∷ found) gives = absurd gives
  gives_before (t ∷ texts) [] gives = absurd gives
  gives_before (t ∷ texts) (f ∷ found) (is, gives) = (
    record {
      is_name = is.is_name;
      matches = record {
        ordered = is.matches.ordered;
        each = λ name. ((λ has. let r = (is.matches.each name).0 has in (there_before name r.0, r.1)), (λ r. (is.matches.each name).1 (there_now name r.0, r.1)));
      };
      some = is.some;
    },
    gives_before texts found gives,
  )

  pub reaches_before : (rotation : Rotation) (texts reached : List (List ℕ)) → Reaches rotation (Some b) texts reached → Reaches rotation (Some a) texts reached
  reaches_before names texts reached reaches = record { found = reaches.found; each = gives_before texts reaches.found reaches.each; all = reaches.all }
  reaches_before numbers texts reached reaches = reaches

  read_before : (entries : List Entry) (now : Folder) (files : List Listed) (spans : List EntrySpan) → AllZip (IsReadTo entries b now) files spans → AllZip (IsReadTo entries a now) files spans
  read_before entries now [] [] read = tt
  read_before entries now [] (s ∷ spans) read = absurd read
  read_before entries now (f ∷ files) [] read = absurd read
  read_before entries now (f ∷ files) (s ∷ spans) (is, read) = (
    record {
      identity_is = is.identity_is;
      cut = is.cut;
      least = let low = is.least in let less = shorter f.name in omega (arith, low, less);
      most = is.most;
      end = is.end;
      is_end = is.is_end;
      to_is = is.to_is;
    },
    read_before entries now files spans read,
  )

  pub listed_before : (rotation : Rotation) (entries : List Entry) (reached : List (List ℕ)) (now : Folder) (spans : List EntrySpan) → AreListed rotation entries reached b now spans → AreListed rotation entries reached a now spans
  listed_before rotation entries reached now spans listed = record { files = listed.files; lists = lists_before rotation entries reached listed.files listed.lists; read = read_before entries now listed.files spans listed.read }

-- spans of files as they were listed are spans of what the folder was before, up to what it is later
module _ (entry mid now exit : Folder) (first : Grows entry mid) (last : Grows now exit) where
  span_wider : (places : Places) (file : Listed) (span : Span) → IsSpanOf places (Some mid) (Some now) file span → IsSpanOf places (Some entry) (Some exit) file span
  span_wider places file span is = record {
    name_is = is.name_is;
    identity_is = is.identity_is;
    from_is = is.from_is;
    standing_is = is.standing_is;
    listed = record {
      least = let low = is.listed.least in let less = shorter entry mid first file.name in omega (arith, low, less);
      most = let high = is.listed.most in let more = shorter now exit last file.name in omega (arith, high, more);
      bounded = is.listed.bounded;
    };
    forward = is.forward;
  }

  each_wider : (places : Places) (files : List Listed) (spans : List Span) → AllZip (IsSpanOf places (Some mid) (Some now)) files spans → AllZip (IsSpanOf places (Some entry) (Some exit)) files spans
  each_wider places [] [] are = tt
  each_wider places [] (s ∷ spans) are = absurd are
  each_wider places (f ∷ files) [] are = absurd are
  each_wider places (f ∷ files) (s ∷ spans) (is, are) = (span_wider places f s is, each_wider places files spans are)

  pub spans_wider : (rotation : Rotation) (places : Places) (entries : List Entry) (texts : List (List ℕ)) (spans : List Span) → AreSpansOf rotation places entries texts (Some mid) (Some now) spans → AreSpansOf rotation places entries texts (Some entry) (Some exit) spans
  spans_wider rotation places entries texts spans are = record {
    reached = are.reached;
    reaches = reaches_before entry mid first rotation texts are.reached are.reaches;
    files = are.files;
    lists = lists_before entry mid first rotation entries are.reached are.files are.lists;
    each = each_wider places are.files spans are.each;
    few = are.few;
  }
