-- Outputs that stand in a payload are read again, for their names.
use Rattle.std.proofs.Common.{◌≡◌, ◌≢◌, ℕ, ◌+◌, ◌<◌, ◌^◌, List, [], ◌∷◌, ◌++◌, ◌*◌, ◌%◌, ◌≤◌, length, take, drop, get_or, map, set, suc, refl, sym, ◌∙◌, ap, subst, append_assoc, arith, Result, Ok, Err, Bool, true, false}
use Rattle.std.specs.Prelude.{◌==◌, ◌||◌}
use Rattle.std.specs.List.{list_any}
use Rattle.std.proofs.Math.Seq.{take-suc-set}
use Rattle.std.proofs.lemmas.Bool.{false≢true}
use Rattle.std.proofs.lemmas.Bool.Decides.{nat_tests}
use Rattle.std.specs.Result.{MatchResult}
use Rattle.std.specs.Str.{bytes_eq}
use Rattle.std.proofs.lemmas.List.{length-append, append-nil, map-append, drop_more, drop_all}
use Rattle.std.proofs.lemmas.Slice.Eq.{bytes_eq-Decides}
use Rattle.std.proofs.lemmas.Bool.Decides.{not_from_Decides}
use Rattle.lp_outside.specs.declared.stage.Mark.{Mark}
use Rattle.ledger_model.specs.Layouts.{Layout, AllFit, spelled}
use Rattle.ledger_model.specs.Numbers.{number, u64_bytes, text_bytes}
use Rattle.ledger_model.specs.Entries.{Output}
use Rattle.ledger_model.specs.Grammar.{IsName, IsNew, name_field, output_layout}
use Rattle.ledger_model.proofs.Fields.{text_law, number_law, u64_one}
use Rattle.ledger_model.proofs.Laws.{IsLawful, lawful_field, lawful_behind}
use Rattle.ledger.specs.declared.refused.LedgerRefused.{LedgerRefused}
use Rattle.ledger.specs.declared.refused.LedgerRefused.TheVariants.{DiskFault, LedgerFault}
use Rattle.ledger.specs.Reader.{RefusedAt, Reads, IsRead, left_of}
use Rattle.ledger.specs.Counted.{SomeItems}
use Rattle.ledger.specs.Placing.{IsOfDisk, place_layout, place_at, TakesPlace, hash_on, name_hash, HasHashes, HashedItems, ComparesSeen}
use Rattle.ledger.proofs.Counting.{items_more}

-- a value that stands in front is the one that is read
pub gives_front : {A : Type 0} (layout : Layout A) → IsLawful layout → (file : List ℕ) (to a b : ℕ) (value : A) (more : List ℕ) → left_of file to a ≡ layout.spell value ++ more → layout.Fits value → (r : Result A LedgerRefused) → Reads layout file to a b r → MatchResult r (λ u. (u ≡ value) × (left_of file to b ≡ more)) IsOfDisk
gives_front layout law file to a b value more e fits (Ok u) read = law.one u value (left_of file to b) more read.fits fits (sym read.stood.split ∙ e)
gives_front layout law file to a b value more e fits (Err DiskFault) broken = tt
gives_front layout law file to a b value more e fits (Err (LedgerFault part at)) broken = law.apart value more broken.1.later fits (subst (λ (t : List ℕ). layout.Breaks t broken.1.later) e broken.1.breaks)

pub place_law : IsLawful place_layout
place_law = lawful_behind number _ number_law (λ base b. lawful_behind _ _ (lawful_field _ u64_bytes (λ a b r s f g e. u64_one a b r s f.0 g.0 e)) (λ size s. number_law))

-- and so where an output's text stands
pub place_front : (file : List ℕ) (to a b : ℕ) (value : ℕ × (ℕ × ℕ)) (more : List ℕ) → left_of file to a ≡ place_layout.spell value ++ more → place_layout.Fits value → (r : Result (ℕ × Mark) LedgerRefused) → TakesPlace file to a b r
    → MatchResult r (λ place. (place_at place.0 place.1 ≡ value) × (left_of file to b ≡ more)) IsOfDisk
place_front file to a b value more e fits (Ok place) read = gives_front place_layout place_law file to a b value more e fits (Ok (place_at place.0 place.1)) read
place_front file to a b value more e fits (Err refused) broken = gives_front place_layout place_law file to a b value more e fits (Err refused) broken

-- so many of the outputs were read, none of this name
pub record Past (file : List ℕ) (to end : ℕ) (items : List Output) (count : ℕ) (name : List ℕ) (a : ℕ) : Type 0 where
  pub past : List Output
  pub next : List Output
  pub parts : items ≡ past ++ next
  pub count_is : length past ≡ count
  pub fit : AllFit output_layout past next
  pub stands : left_of file to a ≡ spelled output_layout past next ++ left_of file to end
  pub new : IsNew past name

pub past_none : (file : List ℕ) (to from end count : ℕ) (name : List ℕ) (some : SomeItems output_layout file to from end count) → Past file to end some.items 0 name from
past_none file to from end count name some = record { past = []; next = some.items; parts = refl; count_is = refl; fit = some.fit; stands = some.stood.split; new = tt }

-- the next output, and how it goes on
pub record Ahead (file : List ℕ) (to end : ℕ) (items : List Output) (count : ℕ) (name : List ℕ) (a : ℕ) : Type 0 where
  pub output : Output
  pub more : List ℕ
  pub name_fits : (length output.name < 2 ^ 32) × IsName output.name
  pub place_fits : place_layout.Fits (output.base, (output.size, output.last))
  pub front : left_of file to a ≡ text_bytes output.name ++ (place_layout.spell (output.base, (output.size, output.last)) ++ more)
  pub goes : (e : ℕ) → left_of file to e ≡ more → output.name ≢ name → Past file to end items (count + 1) name e
  pub clash : output.name ≡ name → IsNew items name → ⊥

new_snoc : (past : List Output) (x : Output) (name : List ℕ) → IsNew past name → x.name ≢ name → IsNew (past ++ x ∷ []) name
new_snoc [] x name new differs = (differs, tt)
new_snoc (y ∷ past) x name new differs = (new.0, new_snoc past x name new.1 differs)

new_middle : (past rest : List Output) (x : Output) (name : List ℕ) → x.name ≡ name → IsNew (past ++ (x ∷ rest)) name → ⊥
new_middle [] rest x name same new = new.0 same
new_middle (y ∷ past) rest x name same new = new_middle past rest x name same new.1

nested : (a b c d : List ℕ) → ((a ++ b) ++ c) ++ d ≡ a ++ (b ++ (c ++ d))
nested a b c d = append_assoc (a ++ b) c d ∙ append_assoc a b (c ++ d)

past_split : (file : List ℕ) (to end : ℕ) (items past : List Output) (count : ℕ) (name : List ℕ) (a : ℕ) (next : List Output) → items ≡ past ++ next → length past ≡ count → count < length items → AllFit output_layout past next → left_of file to a ≡ spelled output_layout past next ++ left_of file to end → IsNew past name → Ahead file to end items count name a
past_split file to end items past count name a [] parts is fewer fit stands new = absurd (omega (arith, ap length parts, length-append past [], is, fewer))
past_split file to end items past count name a (x ∷ rest) parts is fewer fit stands new = record {
  output = x;
  more = spelled output_layout (past ++ x ∷ []) rest ++ left_of file to end;
  name_fits = (fit.0.0.0, fit.0.0.1.0);
  place_fits = fit.0.1;
  front = stands ∙ nested (text_bytes x.name) (place_layout.spell (x.base, (x.size, x.last))) (spelled output_layout (past ++ x ∷ []) rest) (left_of file to end);
  goes = λ e here differs. record {
    past = past ++ x ∷ [];
    next = rest;
    parts = parts ∙ sym (append_assoc past (x ∷ []) rest);
    count_is = omega (arith, length-append past (x ∷ []), is);
    fit = fit.1;
    stands = here;
    new = new_snoc past x name new differs;
  };
  clash = λ same all. new_middle past rest x name same (subst (λ (l : List Output). IsNew l name) parts all);
}

pub past_ahead : (file : List ℕ) (to end : ℕ) (items : List Output) (count : ℕ) (name : List ℕ) (a : ℕ) → Past file to end items count name a → count < length items → Ahead file to end items count name a
past_ahead file to end items count name a p fewer = past_split file to end items p.past count name a p.next p.parts p.count_is fewer p.fit p.stands p.new

-- all were read
all_new : (items past next : List Output) (name : List ℕ) → items ≡ past ++ next → length past ≡ length items → IsNew past name → IsNew items name
all_new items past [] name parts is new = subst (λ (l : List Output). IsNew l name) (sym (parts ∙ append-nil past)) new
all_new items past (x ∷ rest) name parts is new = absurd (omega (arith, ap length parts, length-append past (x ∷ rest), is))

pub past_all : (file : List ℕ) (to end : ℕ) (items : List Output) (count : ℕ) (name : List ℕ) (a : ℕ) → Past file to end items count name a → count ≡ length items → IsNew items name
past_all file to end items count name a p all = all_new items p.past p.next name p.parts (p.count_is ∙ all) p.new

pub same_name : (a b : List ℕ) (r : Bool) → r ≡ bytes_eq a b → r ≡ true → a ≡ b
same_name a b r is yes' = (bytes_eq-Decides a b).0 (sym is ∙ yes')

pub other_name : (a b : List ℕ) (r : Bool) → r ≡ bytes_eq a b → r ≡ false → a ≢ b
other_name a b r is no' = not_from_Decides _ (bytes_eq-Decides a b) (sym is ∙ no')

-- what comes from the disk fits any layout
pub of_disk : {A : Type 0} (layout : Layout A) (file : List ℕ) (to from : ℕ) (refused : LedgerRefused) → IsOfDisk refused → RefusedAt layout file to from refused
of_disk layout file to from DiskFault is = tt
of_disk layout file to from (LedgerFault part at) is = absurd is

pub compares_at : (file : List ℕ) (to other first count : ℕ) (seen name : List ℕ) (r : Result Bool LedgerRefused) → other ≡ to → ComparesSeen seen file other first count name r → ComparesSeen seen file to first count name r
compares_at file to other first count seen name r same c = subst (λ (n : ℕ). ComparesSeen seen file n first count name r) same c

-- the name that was read is that of the output that stands there
pub front_name : (file : List ℕ) (to from mid at : ℕ) (before : List Output) (output : Output) (name : List ℕ) → IsRead name_field file to from mid name → IsRead (output_layout before) file to from at output → name ≡ output.name
front_name file to from mid at before output name read whole =
    (gives_front name_field (text_law IsName) file to from mid output.name (place_layout.spell (output.base, (output.size, output.last)) ++ left_of file to at)
    (whole.stood.split ∙ append_assoc (text_bytes output.name) (place_layout.spell (output.base, (output.size, output.last))) (left_of file to at)) (whole.fits.0.0, whole.fits.0.1.0) (Ok name) read).0

-- a name whose hash no output's name has is new
pub new_by_hash : (outputs : List Output) (seen name : List ℕ) → seen ≡ map (λ (o : Output). name_hash o.name) outputs → list_any (λ h. h == name_hash name) seen ≡ false → IsNew outputs name
new_by_hash [] seen name are none = tt
new_by_hash (o ∷ outputs) seen name are none =
    let any : (name_hash o.name == name_hash name) || list_any (λ h. h == name_hash name) (map (λ (p : Output). name_hash p.name) outputs) ≡ false = subst (λ (l : List ℕ). list_any (λ h. h == name_hash name) l ≡ false) are none in (
      λ same. false≢true (sym (or_false _ _ any).0 ∙ equal_self _ _ (ap name_hash same)),
      new_by_hash outputs (map (λ (p : Output). name_hash p.name) outputs) name refl (or_false _ _ any).1,
    )
  where
    or_false : (a b : Bool) → a || b ≡ false → (a ≡ false) × (b ≡ false)
    or_false false b e = (refl, e)
    or_false true b e = absurd (false≢true (sym e))

    equal_self : (m n : ℕ) → m ≡ n → (m == n) ≡ true
    equal_self m n e = grind (arith, nat_tests)

-- one output more
hashes_more : (outputs : List Output) (output : Output) (seen : List ℕ) (i h : ℕ) → i < length seen → HasHashes (take i seen) outputs → h ≡ name_hash output.name → HasHashes (take (i + 1) (set seen i h)) (outputs ++ output ∷ [])
hashes_more outputs output seen i h lt has is =
    let next : i + 1 ≡ suc i = omega arith in
    ap (λ (n : ℕ). take n (set seen i h)) next ∙ take-suc-set seen i h lt ∙ (λ j. has j ++ (is j ∷ [])) ∙ sym (map-append (λ (o : Output). name_hash o.name) outputs (output ∷ []))

pub hashed_none : (file : List ℕ) (to from at : ℕ) → from ≡ at → HashedItems file to from at 0 []
hashed_none file to from at same = (record { items = []; count_is = refl; fit = tt; stood = record { split = ap (λ (n : ℕ). left_of file to n) same; moved = omega (arith, same) } }, refl)

pub hashed_more : (file : List ℕ) (to from mid at i h : ℕ) (seen : List ℕ) (some : HashedItems file to from mid i (take i seen)) (output : Output) → IsRead (output_layout some.0.items) file to mid at output → i < length seen → h ≡ name_hash output.name
    → HashedItems file to from at (i + 1) (take (i + 1) (set seen i h))
unfolding items_more
hashed_more file to from mid at i h seen some output read lt is = (items_more output_layout file to from mid at i some.0 output read, hashes_more some.0.items output seen i h lt some.1 is)

-- one byte of a hash more
pub hash_step : (bytes : List ℕ) (i h : ℕ) → i < length bytes → hash_on h (drop i bytes) ≡ hash_on (((h * 1_099_511_628_211) % 2 ^ 64 + get_or bytes i 0) % 2 ^ 64) (drop (i + 1) bytes)
unfolding hash_on
hash_step bytes i h lt = rw (drop_more bytes i 0 lt) refl

pub hash_end : (bytes : List ℕ) (i h : ℕ) → length bytes ≤ i → hash_on h (drop i bytes) ≡ h
unfolding hash_on
hash_end bytes i h le = rw (drop_all i bytes le) refl
