-- One file of a list of files is changed, or a file is added.
use Rattle.std.proofs.Common.{◌≡◌, ◌≢◌, ℕ, zero, suc, ◌+◌, ◌<◌, ◌≤◌, Bool, true, false, List, [], ◌∷◌, ◌++◌, length, get_or, set, Option, Some, None, refl, sym, ◌∙◌, ap, arith, inl, inr, cond, bytes_eq, unwrap_or, nat_lt, map, subst, IsSome, take, drop, append-nil}
use Rattle.std.proofs.lemmas.List.{take_all, drop_all}
use Rattle.std.specs.List.{remove}
use Rattle.std.specs.List.{position, position_or_len}
use Rattle.std.proofs.lemmas.Bool.{cases_Bool, true≢false, ltb-true, ltb-false}
use Rattle.std.proofs.lemmas.Slice.Eq.{bytes_eq-Decides}
use Rattle.memory_outside.specs.declared.files.MemoryFile.{MemoryFile}
use Rattle.lp_model.specs.Outside.{Folder, bytes_in}
use Rattle.memory_outside.specs.Files.{folder_of, is_named, Changes, Renames, renamed}

one-more : (n : ℕ) → 1 + n ≡ suc n
one-more n = omega arith

-- the file at the first place of that name
pub folder_of-at : (files : List MemoryFile) (name : List ℕ) (d : MemoryFile) → position_or_len (is_named name) files < length files
    → folder_of files name ≡ Some (get_or files (position_or_len (is_named name) files) d).bytes
folder_of-at [] name d there = absurd (omega arith)
folder_of-at (file ∷ files) name d there = elim (cases_Bool (is_named name file)) [
  | inl e ↦ rw e refl
  | inr e ↦ let there' = rw e at there in let below : position_or_len (is_named name) files < length files = omega arith in
      rw (e, one-more) (folder_of-at files name d below)
]

-- that file with other bytes
pub folder_of-set : (files : List MemoryFile) (name : List ℕ) (new : MemoryFile) → position_or_len (is_named name) files < length files → is_named name new ≡ true
    → folder_of (set files (position_or_len (is_named name) files) new) name ≡ Some new.bytes
folder_of-set [] name new there named = absurd (omega arith)
folder_of-set (file ∷ files) name new there named = elim (cases_Bool (is_named name file)) [
  | inl e ↦ rw (e, named) refl
  | inr e ↦ let there' = rw e at there in let below : position_or_len (is_named name) files < length files = omega arith in
      rw (e, one-more) (rw e (folder_of-set files name new below named))
]

-- the other files stay
pub folder_of-set_other : (files : List MemoryFile) (name other : List ℕ) (new : MemoryFile) → position_or_len (is_named name) files < length files → is_named name new ≡ true
    → ((file : MemoryFile) → is_named name file ≡ true → is_named other file ≡ false)
    → folder_of (set files (position_or_len (is_named name) files) new) other ≡ folder_of files other
folder_of-set_other [] name other new there named apart = absurd (omega arith)
folder_of-set_other (file ∷ files) name other new there named apart = elim (cases_Bool (is_named name file)) [
  | inl e ↦ let f = apart file e in let h = apart new named in rw (e, f, h) refl
  | inr e ↦ let there' = rw e at there in let below : position_or_len (is_named name) files < length files = omega arith in
      rw (e, one-more) (ap (λ t. cond (bytes_eq file.name other) (Some file.bytes) t) (folder_of-set_other files name other new below named apart))
]

-- a file at the end, where none had its name
pub folder_of-push : (files : List MemoryFile) (name other : List ℕ) → length files ≤ position_or_len (is_named name) files
    → folder_of files name ≡ None
folder_of-push [] name other none = refl
folder_of-push (file ∷ files) name other none = elim (cases_Bool (is_named name file)) [
  | inl e ↦ let none' = rw e at none in absurd (omega arith)
  | inr e ↦ let none' = rw e at none in let more : length files ≤ position_or_len (is_named name) files = omega arith in rw e (folder_of-push files name other more)
]

-- the file at the first place of that name has that name
named-at : (files : List MemoryFile) (name : List ℕ) (d : MemoryFile) → position_or_len (is_named name) files < length files
    → is_named name (get_or files (position_or_len (is_named name) files) d) ≡ true
named-at [] name d there = absurd (omega arith)
named-at (file ∷ files) name d there = elim (cases_Bool (is_named name file)) [
  | inl e ↦ rw e e
  | inr e ↦ let there' = rw e at there in let below : position_or_len (is_named name) files < length files = omega arith in
      rw (e, one-more) (named-at files name d below)
]

-- where `position` finds it
found-at : (files : List MemoryFile) (name : List ℕ) (i : ℕ) (b : Bool) → nat_lt (position_or_len (is_named name) files) (length files) ≡ b
    → Some i ≡ position (is_named name) files → (i ≡ position_or_len (is_named name) files) × (position_or_len (is_named name) files < length files)
found-at files name i true e h = let h' : Some i ≡ Some (position_or_len (is_named name) files) = h ∙ rw e refl in (cc, ltb-true _ _ e)
found-at files name i false e h = let none : Some i ≡ None = h ∙ rw e refl in absurd cc

missing-at : (files : List MemoryFile) (name : List ℕ) (b : Bool) → nat_lt (position_or_len (is_named name) files) (length files) ≡ b
    → None ≡ position (is_named name) files → length files ≤ position_or_len (is_named name) files
missing-at files name true e h = let some : None ≡ Some (position_or_len (is_named name) files) = h ∙ rw e refl in absurd cc
missing-at files name false e h = ltb-false _ _ e

-- a file of one name doesn't have another
apart-from : (name other : List ℕ) → (other ≡ name → ⊥) → (file : MemoryFile) → is_named name file ≡ true → is_named other file ≡ false
apart-from name other apart file named = elim (cases_Bool (is_named other file)) [
  | inl e ↦ absurd (apart (sym ((bytes_eq-Decides _ _).0 e) ∙ (bytes_eq-Decides _ _).0 named))
  | inr e ↦ e
]

folder_of-last : (files : List MemoryFile) (name : List ℕ) (new : MemoryFile) → folder_of files name ≡ None → is_named name new ≡ true → folder_of (files ++ new ∷ []) name ≡ Some new.bytes
folder_of-last [] name new none named = rw named refl
folder_of-last (file ∷ files) name new none named = elim (cases_Bool (is_named name file)) [
  | inl e ↦ let some : Some file.bytes ≡ None = rw e at none in absurd cc
  | inr e ↦ rw e (folder_of-last files name new (rw e at none) named)
]

folder_of-last_other : (files : List MemoryFile) (other : List ℕ) (new : MemoryFile) → is_named other new ≡ false → folder_of (files ++ new ∷ []) other ≡ folder_of files other
folder_of-last_other [] other new apart = rw apart refl
folder_of-last_other (file ∷ files) other new apart = ap (λ t. cond (bytes_eq file.name other) (Some file.bytes) t) (folder_of-last_other files other new apart)

-- a file has other bytes
pub file_set : (files : List MemoryFile) (name : List ℕ) (i : ℕ) (old new : MemoryFile) → Some i ≡ position (is_named name) files
    → old ≡ get_or files i old → new.name ≡ old.name → Changes (folder_of files) (folder_of (set files i new)) name new.bytes
file_set files name i old new found is same =
    let both = found-at files name i (nat_lt (position_or_len (is_named name) files) (length files)) refl found in
    let at : old ≡ get_or files (position_or_len (is_named name) files) old = is ∙ ap (λ k. get_or files k old) both.0 in
    let named : is_named name new ≡ true = ap (λ n. bytes_eq n name) (same ∙ ap (λ f. f.name) at) ∙ named-at files name old both.1 in
    record {
      there = ap (λ k. folder_of (set files k new) name) both.0 ∙ folder_of-set files name new both.1 named;
      others = λ other apart. ap (λ k. folder_of (set files k new) other) both.0 ∙ folder_of-set_other files name other new both.1 named (apart-from name other apart);
    }

-- the bytes that it had
pub file_had : (files : List MemoryFile) (name : List ℕ) (i : ℕ) (old : MemoryFile) → Some i ≡ position (is_named name) files → old ≡ get_or files i old → bytes_in (folder_of files) name ≡ old.bytes
file_had files name i old found is =
    let both = found-at files name i (nat_lt (position_or_len (is_named name) files) (length files)) refl found in
    let at : old ≡ get_or files (position_or_len (is_named name) files) old = is ∙ ap (λ k. get_or files k old) both.0 in
    ap (λ o. unwrap_or o []) (folder_of-at files name old both.1 ∙ ap (λ f. Some f.bytes) (sym at))

-- no file has the name
pub file_missing : (files : List MemoryFile) (name : List ℕ) → None ≡ position (is_named name) files → folder_of files name ≡ None
file_missing files name missing = folder_of-push files name name (missing-at files name (nat_lt (position_or_len (is_named name) files) (length files)) refl missing)

-- a file came
pub file_added : (files : List MemoryFile) (name : List ℕ) (new : MemoryFile) → None ≡ position (is_named name) files → new.name ≡ name → Changes (folder_of files) (folder_of (files ++ new ∷ [])) name new.bytes
file_added files name new missing same =
    let none : folder_of files name ≡ None = file_missing files name missing in
    let named : is_named name new ≡ true = ap (λ n. bytes_eq n name) same ∙ (bytes_eq-Decides name name).1 refl in
    record {
      there = folder_of-last files name new none named;
      others = λ other apart. folder_of-last_other files other new (apart-from name other apart new named);
    }

-- the same change, said of other bytes
pub change_of : (before now : Folder) (name a b : List ℕ) → a ≡ b → Changes before now name a → Changes before now name b
change_of before now name a b same changes = record { there = changes.there ∙ ap (λ (x : List ℕ). Some x) same; others = changes.others }

renamed-other : (files : List MemoryFile) (from to other : List ℕ) → other ≢ from → other ≢ to → folder_of (map (renamed from to) files) other ≡ folder_of files other
renamed-other [] from to other off away = refl
renamed-other (file ∷ files) from to other off away = elim (cases_Bool (is_named from file)) [
  | inl e ↦ let a = apart-from from other off file e in let b = not_named to other away in rw (e, a, b) (renamed-other files from to other off away)
  | inr e ↦ rw e (ap (λ t. cond (bytes_eq file.name other) (Some file.bytes) t) (renamed-other files from to other off away))
]
  where
    not_named : (to other : List ℕ) → other ≢ to → bytes_eq to other ≡ false
    not_named to other away = elim (cases_Bool (bytes_eq to other)) [
      | inl e ↦ absurd (away (sym ((bytes_eq-Decides to other).0 e)))
      | inr e ↦ e
    ]

renamed-from : (files : List MemoryFile) (from to : List ℕ) → from ≢ to → folder_of (map (renamed from to) files) from ≡ None
renamed-from [] from to away = refl
renamed-from (file ∷ files) from to away = elim (cases_Bool (is_named from file)) [
  | inl e ↦ let b = not_same in rw (e, b) (renamed-from files from to away)
  | inr e ↦ rw (e, e) (renamed-from files from to away)
]
  where
    not_same : bytes_eq to from ≡ false
    not_same = elim (cases_Bool (bytes_eq to from)) [
      | inl e ↦ absurd (away (sym ((bytes_eq-Decides to from).0 e)))
      | inr e ↦ e
    ]

renamed-to : (files : List MemoryFile) (from to : List ℕ) → folder_of files to ≡ None → folder_of (map (renamed from to) files) to ≡ folder_of files from
renamed-to [] from to free = refl
renamed-to (file ∷ files) from to free = elim (cases_Bool (is_named to file)) [
  | inl e ↦ let some : Some file.bytes ≡ None = rw e at free in absurd cc
  | inr off ↦ elim (cases_Bool (is_named from file)) [
    | inl e ↦ let same = (bytes_eq-Decides to to).1 refl in rw (e, same) refl
    | inr e ↦ rw (e, off) (renamed-to files from to (rw off at free))
  ]
]

-- all files of one name have another
pub files_renamed : (files : List MemoryFile) (from to : List ℕ) → IsSome (folder_of files from) → folder_of files to ≡ None → Renames (folder_of files) (folder_of (map (renamed from to) files)) from to
files_renamed files from to there free = record {
  there = renamed-to files from to free;
  gone = renamed-from files from to (λ same. some_not_none (folder_of files to) (subst (λ (n : List ℕ). IsSome (folder_of files n)) same there) free);
  others = λ other off away. renamed-other files from to other off away;
}
  where
    some_not_none : (o : Option (List ℕ)) → IsSome o → o ≡ None → ⊥
    some_not_none o some none = true≢false (sym (subst (λ (x : Option (List ℕ)). IsSome x) none some))

-- a file of one name is taken away
taken_at : (files : List MemoryFile) (name other : List ℕ) (i : ℕ) (d : MemoryFile) → i < length files → is_named name (get_or files i d) ≡ true → other ≢ name → folder_of (remove files i) other ≡ folder_of files other
taken_at [] name other i d less named off = absurd (omega arith)
taken_at (file ∷ files) name other zero d less named off = let a = apart-from name other off file named in rw a refl
taken_at (file ∷ files) name other (suc i) d less named off = ap (λ t. cond (bytes_eq file.name other) (Some file.bytes) t) (taken_at files name other i d (omega (arith, less)) named off)

pub file_taken : (files : List MemoryFile) (name : List ℕ) (i : ℕ) → Some i ≡ position (is_named name) files → (other : List ℕ) → other ≢ name → folder_of (remove files i) other ≡ folder_of files other
file_taken [] name i found other off = let none : Some i ≡ None = found in absurd cc
file_taken (file ∷ files) name i found other off =
    let all = file ∷ files in
    let both = found-at all name i (nat_lt (position_or_len (is_named name) all) (length all)) refl found in
    ap (λ k. folder_of (remove all k) other) both.0 ∙ taken_at all name other (position_or_len (is_named name) all) file both.1 (named-at all name file both.1) off

-- where a map over all files has ended
pub all_done : (f : MemoryFile → MemoryFile) (files : List MemoryFile) (i : ℕ) → length files ≤ i → map f (take i files) ++ drop i files ≡ map f files
all_done f files i all = ap (λ (r : List MemoryFile). map f (take i files) ++ r) (drop_all i files all) ∙ append-nil (map f (take i files)) ∙ ap (λ (r : List MemoryFile). map f r) (take_all i files all)
