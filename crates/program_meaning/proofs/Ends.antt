-- What is read of a log up to its end, where lines wait, is what is read up to the end of its last line.
use Rattle.std.proofs.Common.{◌≡◌, ◌⊎◌, ⊎_elim, ℕ, ◌+◌, ◌-◌, ◌<◌, ◌≤◌, Bool, true, false, true≢false, List, [], ◌∷◌, ◌++◌, length, take, drop, reverse, filter, flat_map, get_or, refl, sym, ◌∙◌, ap, arith, inl, inr, nat_le, nat_lt, subst, length-append}
use Rattle.std.proofs.Math.Nat.{max-eq_right}
use Rattle.std.specs.List.{position_or_len}
use Rattle.std.specs.Prelude.{max}
use Rattle.std.proofs.lemmas.Bool.{cases_lt, cases_Bool, le-leb}
use Rattle.std.proofs.lemmas.Bool.Decides.{nat_tests, eqb_tells}
use Rattle.std.proofs.lemmas.List.{length-reverse, get_or-reverse, take-append-drop}
use Rattle.std.proofs.lemmas.List.Sums.{passes_at_first, fails_before_first}
use Rattle.lp_model.specs.Lines.{Line, is_lf, lines_of}
use Rattle.lp_model.specs.Reading.{Format, lines_before, lines_between, standing_at, standing_behind, records_in, records_of, bad_lines_of}
use Rattle.lp_model.specs.Following.{IsLineEnd}
use Rattle.lp_model.specs.Complete.{IsAmong, IsLine}
use Rattle.lp_model.proofs.Appending.{standing_at-stays, records_of-stay, bad_lines_of-stay}
use Rattle.lp_model.proofs.Between.{is_between}
use Rattle.lp_model.proofs.CompleteLines.{line_ends, line_order}
use Rattle.lp_model.proofs.Ordered.{ends_by}
use Rattle.log_reading.specs.Spans.{last_end}
use Rattle.run_model.specs.Logs.{IsLastEnd}

lf_at : (byte : ℕ) → is_lf byte ≡ true → byte ≡ 10
lf_at byte e = grind (arith, nat_tests, eqb_tells)

-- the place behind the last LF, or 0, is the last end of a line
pub last_end_is_last : (bytes : List ℕ) → IsLastEnd bytes (last_end bytes)
unfolding last_end
last_end_is_last bytes = elim (cases_lt (position_or_len is_lf (reverse bytes)) (length (reverse bytes))) [
  | inl there ↦ record { ends = found there; last = λ other is. ⊎_elim (λ none. omega arith) (λ some. later other some) is }
  | inr none ↦ record { ends = inl (omega (arith, size, none)); last = λ other is. ⊎_elim (λ e. omega (arith, e)) (λ some. later other some) is }
]
  where
    size : length (reverse bytes) ≡ length bytes
    size = length-reverse bytes

    found : position_or_len is_lf (reverse bytes) < length (reverse bytes) → IsLineEnd bytes (length bytes - position_or_len is_lf (reverse bytes))
    found there =
        let p : ℕ = position_or_len is_lf (reverse bytes) in
        let at : get_or (reverse bytes) p 0 ≡ get_or bytes (length bytes - 1 - p) 0 = get_or-reverse bytes p 0 (omega (arith, there, size)) in
        let place : length bytes - 1 - p ≡ length bytes - p - 1 = omega arith in
        inr (omega (arith, there, size), omega arith, ap (λ (k : ℕ). get_or bytes k 0) (sym place) ∙ (sym at ∙ lf_at (get_or (reverse bytes) p 0) (passes_at_first is_lf (reverse bytes) 0 there)))

    later : (other : ℕ) → (0 < other) × (other ≤ length bytes) × (get_or bytes (other - 1) 0 ≡ 10) → other ≤ length bytes - position_or_len is_lf (reverse bytes)
    later other (some, high, lf) = elim (cases_lt (length bytes - other) (position_or_len is_lf (reverse bytes))) [
      | inl before ↦
          let k : ℕ = length bytes - other in
          let at : get_or (reverse bytes) k 0 ≡ get_or bytes (length bytes - 1 - k) 0 = get_or-reverse bytes k 0 (omega arith) in
          let place : length bytes - 1 - k ≡ other - 1 = omega arith in
          let is : get_or (reverse bytes) k 0 ≡ 10 = at ∙ (ap (λ (j : ℕ). get_or bytes j 0) place ∙ lf) in
          let fails : is_lf (get_or (reverse bytes) k 0) ≡ false = fails_before_first is_lf (reverse bytes) k 0 before in
          let passes : is_lf 10 ≡ true = refl in
          let no : true ≡ false = sym passes ∙ (ap is_lf (sym is) ∙ fails) in
          absurd (true≢false no)
      | inr behind ↦ omega arith
    ]

each_filter : {X : Type 0} (f g : X → Bool) (xs : List X) → ((x : X) → IsAmong x xs → f x ≡ g x) → filter f xs ≡ filter g xs
each_filter f g [] same = refl
each_filter f g (x ∷ xs) same =
    let here : f x ≡ g x = same x (inl refl) in
    let more = each_filter f g xs (λ y among. same y (inr among)) in
    elim (cases_Bool (g x)) [
      | inl t ↦ let e : f x ≡ true = here ∙ t in rw (e, t) (ap (λ r. x ∷ r) more)
      | inr n ↦ let e : f x ≡ false = here ∙ n in rw (e, n) more
    ]

module _ (bytes : List ℕ) (end : ℕ) (last : IsLastEnd bytes end) where
  within : end ≤ length bytes
  within = ⊎_elim (λ none. omega (arith, none)) (λ some. some.1) last.ends

  ends_within : (line : Line) → IsLine bytes line → line.end ≤ end
  ends_within line among = last.last line.end (line_ends bytes line among)

  same_before : lines_before bytes true (length bytes) ≡ lines_before bytes true end
  same_before = each_filter (ends_by (length bytes)) (ends_by end) (lines_of bytes true)
      (λ line among. let e = ends_within line among in le-leb line.end (length bytes) (omega (arith, e, within)) ∙ sym (le-leb line.end end e))

  starts_before : (line : Line) (place : ℕ) → line.start < place → nat_lt line.start place ≡ true
  starts_before line place less = grind (arith, nat_tests)

  same_between : (from : ℕ) → lines_between bytes true from (length bytes) ≡ lines_between bytes true from end
  same_between from = each_filter (is_between from (length bytes)) (is_between from end) (lines_of bytes true)
      (λ line among.
      let e = ends_within line among in
      let order = line_order bytes line among in
      let one = starts_before line (length bytes) (omega (arith, e, order, within)) in
      let two = starts_before line end (omega (arith, e, order)) in
      rw (one, two) refl)

  pub standing_to_end : (format : Format) → standing_at format bytes true (length bytes) ≡ standing_at format bytes true end
  standing_to_end format = ap (standing_behind format) same_before

  pub records_to_end : (format : Format) (from : ℕ) → records_of format bytes true from (length bytes) ≡ records_of format bytes true from end
  records_to_end format from = ap (flat_map (records_in format bytes true)) (same_between from)

  pub bad_to_end : (format : Format) (from : ℕ) → bad_lines_of format bytes true from (length bytes) ≡ bad_lines_of format bytes true from end
  bad_to_end format from = ap (λ (lines : List Line). bad_among format lines) (same_between from)
    where
      bad_among : Format → List Line → List ℕ
      bad_among format lines = Rattle.std.specs.Prelude.map (λ (line : Line). line.number) (filter (λ (line : Line). Rattle.lp_model.specs.Reading.is_bad (Rattle.lp_model.specs.Reading.reading_of format bytes true line)) lines)

-- the same of all that was written to the log: a cut of it is read as the whole is up to the end of the cut's last line
module _ (whole : List ℕ) (cut : ℕ) (end : ℕ) (last : IsLastEnd (take cut whole) end) where
  parts : whole ≡ take cut whole ++ drop cut whole
  parts = sym (take-append-drop cut whole)

  pub standing_of_whole : (format : Format) → standing_at format (take cut whole) true (length (take cut whole)) ≡ standing_at format whole true end
  standing_of_whole format =
      standing_to_end (take cut whole) end last format
      ∙ (sym (standing_at-stays format (take cut whole) (drop cut whole) true end last.ends) ∙ ap (λ (b : List ℕ). standing_at format b true end) (sym parts))

  pub standing_at_end : (format : Format) → standing_at format (take cut whole) true end ≡ standing_at format whole true end
  standing_at_end format = sym (standing_at-stays format (take cut whole) (drop cut whole) true end last.ends) ∙ ap (λ (b : List ℕ). standing_at format b true end) (sym parts)

  pub records_of_whole : (format : Format) (from : ℕ) → records_of format (take cut whole) true from (length (take cut whole)) ≡ records_of format whole true from end
  records_of_whole format from =
      records_to_end (take cut whole) end last format from
      ∙ (sym (records_of-stay format (take cut whole) (drop cut whole) true from end last.ends) ∙ ap (λ (b : List ℕ). records_of format b true from end) (sym parts))

  pub bad_of_whole : (format : Format) (from : ℕ) → bad_lines_of format (take cut whole) true from (length (take cut whole)) ≡ bad_lines_of format whole true from end
  bad_of_whole format from =
      bad_to_end (take cut whole) end last format from
      ∙ (sym (bad_lines_of-stay format (take cut whole) (drop cut whole) true from end last.ends) ∙ ap (λ (b : List ℕ). bad_lines_of format b true from end) (sym parts))
